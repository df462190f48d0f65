-- What is asked of settings as a whole, from what is asked of them one by one.
use Rattle.std.proofs.Common.{◌≡◌, ℕ, Bool, true, false, List, [], ◌∷◌, ◌++◌, map, IsTrue, refl, sym, subst}
use Rattle.std.specs.Bool.{Decides}
use Rattle.std.specs.List.{list_all}
use Rattle.std.proofs.lemmas.Bool.Decides.{Decides-and, Decides-like}
use Rattle.fw_addr.specs.WellFormed.{is_name}
use Rattle.fw_model.specs.declared.binding.Binding.TheVariants as binding
use Rattle.fw_model.specs.declared.config.Config.{Config}
use Rattle.fw_model.specs.declared.policy.Policy.{Policy}
use Rattle.fw_model.specs.declared.rules.Rules.{Rules}
use Rattle.fw_model.specs.declared.zone.Zone.{Zone}
use Rattle.fw_broken.specs.Named.{AreKnownOneByOne, AreSidesKnown, IsBindingKnown}
use Rattle.fw_broken.proofs.Lists.{all_each, each_in, not_so, so_behind}
use Rattle.fw_valid.specs.Each.{Each, IsWithoutRepeats}
use Rattle.fw_valid.specs.Names.{AreNames, ipset_names}
use Rattle.fw_valid.specs.Rules.{NamesKnown, SetsKnown, all_rules}
use Rattle.fw_valid.specs.Valid.{SourcesKnown}
use Rattle.fw_zone.specs.Lists.{IsIn}

module _ {A : Type 0} (name_of : A → List ℕ) where
  well_formed : (items : List A) → Decides (list_all (λ item. is_name (name_of item)) items) (Each (λ name. IsTrue (is_name name)) (map name_of items))
  well_formed [] = (λ is. tt, λ each. refl)
  well_formed (item ∷ items) = Decides-and _ _ ((λ is. is, λ is. is)) (well_formed items)

  to_names : (items : List A) → Each (λ name. IsTrue (is_name name)) (map name_of items) × IsWithoutRepeats (map name_of items) → AreNames (map name_of items)
  to_names items both = record { well_formed = both.0; unique = both.1 }

  -- names are well formed, and differ
  pub names_so : (items : List A) (one other : Bool) → one ≡ list_all (λ item. is_name (name_of item)) items → one ≡ true → Decides other (IsWithoutRepeats (map name_of items)) → Decides other (AreNames (map name_of items))
  names_so items one other is so decides =
      Decides-like _ (to_names items) (λ names. (names.well_formed, names.unique))
      (so_behind one other (subst (λ test. Decides test (Each (λ name. IsTrue (is_name name)) (map name_of items))) (sym is) (well_formed items)) so decides)

  pub names_not_so : (items : List A) (one : Bool) → one ≡ list_all (λ item. is_name (name_of item)) items → one ≡ false → Decides one (AreNames (map name_of items))
  names_not_so items one is so =
      Decides-like _ (to_names items) (λ names. (names.well_formed, names.unique))
      (not_so one one (subst (λ test. Decides test (Each (λ name. IsTrue (is_name name)) (map name_of items))) (sym is) (well_formed items)) so)

module _ {A B : Type 0} (of : A → B) (P : B → Type 0) where
  over_map : (items : List A) (others : List B) → Each (λ item. P (of item)) items × Each P others → Each P (map of items ++ others)
  over_map [] others both = both.1
  over_map (item ∷ items) others both = (both.0.0, over_map items others (both.0.1, both.1))

  under_map : (items : List A) (others : List B) → Each P (map of items ++ others) → Each (λ item. P (of item)) items × Each P others
  under_map [] others each = (tt, each)
  under_map (item ∷ items) others each = let rest = under_map items others each.1 in ((each.0, rest.0), rest.1)

  over_all : (items : List A) → Each (λ item. P (of item)) items → Each P (map of items)
  over_all [] each = tt
  over_all (item ∷ items) each = (each.0, over_all items each.1)

  under_all : (items : List A) → Each P (map of items) → Each (λ item. P (of item)) items
  under_all [] each = tt
  under_all (item ∷ items) each = (each.0, under_all items each.1)

module _ (P : Rules → Type 0) (config : Config) where
  abbrev InZones : Type 0
  InZones = Each (λ (zone : Zone). P zone.rules) config.zones

  abbrev InPolicies : Type 0
  InPolicies = Each (λ (policy : Policy). P policy.rules) config.policies

  to_rules : InZones × InPolicies → Each P (all_rules config)
  to_rules both = over_map (λ (zone : Zone). zone.rules) P config.zones _ (both.0, over_all (λ (policy : Policy). policy.rules) P config.policies both.1)

  from_rules : Each P (all_rules config) → InZones × InPolicies
  from_rules each =
      let both = under_map (λ (zone : Zone). zone.rules) P config.zones _ each in
      (both.0, under_all (λ (policy : Policy). policy.rules) P config.policies both.1)

  -- of the settings of all zones, and then of all policies
  pub rules_so : (one other : Bool) → Decides one InZones → one ≡ true → Decides other InPolicies → Decides other (Each P (all_rules config))
  rules_so one other zones is policies = Decides-like _ to_rules from_rules (so_behind one other zones is policies)

  pub rules_not_so : (one : Bool) → Decides one InZones → one ≡ false → Decides one (Each P (all_rules config))
  rules_not_so one zones is = Decides-like _ to_rules from_rules (not_so one one zones is)

module _ (config : Config) where
  pub set_known : (name : List ℕ) (result : Bool) → Decides result (IsIn name (ipset_names config)) → Decides result (IsBindingKnown config (binding.Set name))
  set_known name result decides = Decides-like _ to (λ known. known name refl) decides
    where
      to : IsIn name (ipset_names config) → IsBindingKnown config (binding.Set name)
      to found other is = let same : name ≡ other = cc in subst (λ one. IsIn one (ipset_names config)) same found

  pub sources_known : (zone : Zone) (result : Bool) → Decides result (Each (IsBindingKnown config) zone.sources) → Decides result (SourcesKnown config zone)
  sources_known zone result decides =
      Decides-like _ (λ each name found. each_in (IsBindingKnown config) zone.sources (binding.Set name) each found name refl)
      (λ known. all_each (IsBindingKnown config) zone.sources (λ source found name is. known name (subst (λ it. IsIn it zone.sources) is found))) decides

  pub sets_known : (rules : Rules) (result : Bool) → Decides result (Each (AreSidesKnown config) rules.rich) → Decides result (SetsKnown config rules)
  sets_known rules result decides =
      Decides-like _ (λ each rule name found names. each_in (AreSidesKnown config) rules.rich rule each found name names)
      (λ known. all_each (AreSidesKnown config) rules.rich (λ rule found name names. known rule name found names)) decides

  pub names_known : (rules : Rules) (result : Bool) → Decides result (AreKnownOneByOne config rules) → Decides result (NamesKnown config rules)
  names_known rules result decides = Decides-like _ to from decides
    where
      to : AreKnownOneByOne config rules → NamesKnown config rules
      to known = record {
        services = known.services;
        icmp_types = known.icmp_types;
        rich_services = λ rule name found is. (each_in _ rules.rich rule known.elements found).service name is;
        rich_icmp_types = λ rule name found is. (each_in _ rules.rich rule known.elements found).icmp_type name is;
      }

      from : NamesKnown config rules → AreKnownOneByOne config rules
      from known = record {
        services = known.services;
        icmp_types = known.icmp_types;
        elements = all_each _ rules.rich (λ rule found. record { service = λ name is. known.rich_services rule name found is; icmp_type = λ name is. known.rich_icmp_types rule name found is });
      }

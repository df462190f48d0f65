-- The rules of bindings lead to zones in use alone, and packets belong to no others.
use Rattle.std.proofs.Common.{◌≡◌, ◌∙◌, ◌==◌, ℕ, suc, arith, List, [], ◌∷◌, ◌++◌, length, Bool, true, false, not, ◌&&◌, ◌||◌, Option, None, Some, refl, sym, ap, subst, inl, inr}
use Rattle.std.proofs.lemmas.Grind.{common_steps}
use Rattle.std.specs.Prelude.{IsTrue, is_some}
use Rattle.std.specs.List.{filter, flat_map, list_all, list_any}
use Rattle.std.specs.Option.{option_map, option_or}
use Rattle.std.specs.Str.{bytes_eq}
use Rattle.fw_addr.specs.Interfaces.{matches}
use Rattle.fw_addr.specs.declared.addr.Addr.{Addr}
use Rattle.fw_hits.specs.Bindings.{Entry, default_zone, entries_for, entry_order, first_by, has_source, ingress_from, interface_zone, source_zone, zone_of, zone_order}
use Rattle.fw_hits.specs.Sources.{matches_source}
use Rattle.fw_model.specs.declared.binding.Binding.{Binding}
use Rattle.fw_model.specs.declared.config.Config.{Config}
use Rattle.fw_model.specs.declared.packet.Origin.{Origin}
use Rattle.fw_model.specs.declared.packet.Origin.TheVariants as origin
use Rattle.fw_model.specs.declared.packet.Packet.{Packet}
use Rattle.fw_model.specs.declared.zone.Zone.{Zone}
use Rattle.fw_zone.specs.Lists.{IsIn}
use Rattle.lower_dispatch.proofs.Every.{Every, every_in_each, every_in_order, every_joined, every_kept, every_listed, every_mapped, every_so, first_is, found_is}
use Rattle.lower_dispatch.specs.Forms.{by_name, comes_first, entries_in_order, entry_rule, has_lesser_name, interface_rules, last_rules, peer_test, rule_where, source_rules, zone_dispatch, zone_entries, zone_rules}
use Rattle.lower_dispatch.specs.Laws.{PacketsUseZones}
use Rattle.lower_dispatch.specs.Uses.{EachHasChain, IsChainName, IsUsed, LeadToZones}
use Rattle.lower_dispatch.specs.declared.direction.Direction.{Direction}
use Rattle.lower_dispatch.specs.declared.direction.Direction.TheVariants as direction
use Rattle.lower_match.specs.Laws.{AreSourcesTold}
use Rattle.lower_match.specs.Stands.{EachHasSet, asked_stands, matches_stand}
use Rattle.nf_chains.specs.Condition.{are_plain, is_plain}
use Rattle.nf_rules.specs.declared.map.NfMap.{NfMap}
use Rattle.nf_rules.specs.declared.rule.Rule.{Rule}
use Rattle.nf_rules.specs.declared.ruleset.Ruleset.{Ruleset}
use Rattle.nf_rules.specs.declared.statement.Stmt.{Stmt}
use Rattle.nf_rules.specs.declared.statement.Stmt.TheVariants as stmt
use Rattle.nf_rules.specs.declared.test.Test.{Test}
use Rattle.nf_sound.specs.Names.{chain_of}
use Rattle.nf_sound.specs.Sound.{IsIn as IsNameIn, rule_stands, statement_stands}
use Rattle.nf_sound.specs.Targets.{rule_targets, targets}

not_nothing : (count : ℕ) → not (suc count == 0) ≡ true
not_nothing count = grind (arith, common_steps)

-- a list with an item isn't empty
not_empty : {A : Type 0} (item : A) (items : List A) → IsIn item items → not (length items == 0) ≡ true
not_empty item [] there = absurd there
not_empty item (first ∷ others) there = not_nothing (length others)

any_not_empty : {A : Type 0} (asked : A → Bool) (items : List A) → list_any asked items ≡ true → not (length items == 0) ≡ true
any_not_empty asked [] is = cc
any_not_empty asked (first ∷ others) is = not_nothing (length others)

by_default : (one two three : Bool) → one ≡ true → (one || two || three) ≡ true
by_default true two three is = refl
by_default false two three is = cc

by_source : (one two three : Bool) → two ≡ true → (one || two || three) ≡ true
by_source true two three is = refl
by_source false true three is = refl
by_source false false three is = cc

by_interface : (one two three : Bool) → three ≡ true → (one || two || three) ≡ true
by_interface true two three is = refl
by_interface false true three is = refl
by_interface false false true is = refl
by_interface false false false is = cc

module _ (config : Config) where
  used_by_source : (zone : Zone) → IsIn zone config.zones → not (length zone.sources == 0) ≡ true → IsUsed config zone
  used_by_source zone there some = record { listed = there; used = by_source (bytes_eq zone.name config.default_zone) _ _ some }

  used_by_interface : (zone : Zone) → IsIn zone config.zones → not (length zone.interfaces == 0) ≡ true → IsUsed config zone
  used_by_interface zone there some = record { listed = there; used = by_interface (bytes_eq zone.name config.default_zone) (not (length zone.sources == 0)) _ some }

  default_used : (zone : Zone) → default_zone config ≡ Some zone → IsUsed config zone
  default_used zone is =
      found_is (IsUsed config) (λ other. bytes_eq other.name config.default_zone) config.zones zone
      (λ other there same. record { listed = there; used = by_default _ (not (length other.sources == 0)) (not (length other.interfaces == 0)) same })
      is

  -- the entries of all zones
  entries_used : Every (λ (entry : Entry). IsUsed config entry.zone) (flat_map zone_entries config.zones)
  entries_used =
      every_in_each (λ (entry : Entry). IsUsed config entry.zone) zone_entries config.zones
      (every_listed (λ (zone : Zone). Every (λ (entry : Entry). IsUsed config entry.zone) (zone_entries zone)) config.zones
      (λ zone there. every_mapped (λ (entry : Entry). IsUsed config entry.zone) (λ text. record { zone = zone; text = text }) zone.interfaces
      (every_listed (λ text. IsUsed config zone) zone.interfaces (λ text is. used_by_interface zone there (not_empty text zone.interfaces is)))))

  -- a packet's zone is in use
  source_used : (address : Addr) (mac : Option ℕ) (zone : Zone) → source_zone config address mac ≡ Some zone → IsUsed config zone
  source_used address mac zone is =
      first_is (IsUsed config) zone_order (filter (has_source config address mac) config.zones) zone
      (every_kept (IsUsed config) (has_source config address mac) config.zones
      (λ other there has. used_by_source other there (any_not_empty (matches_source config.ipsets address mac) other.sources has)))
      is

  kept_in : (name : List ℕ) (text : List ℕ) (texts : List (List ℕ)) → IsIn text (filter (λ one. matches one name) texts) → not (length texts == 0) ≡ true
  kept_in name text [] there = absurd there
  kept_in name text (first ∷ others) there = not_nothing (length others)

  interface_used : (name : List ℕ) (zone : Zone) → interface_zone config name ≡ Some zone → IsUsed config zone
  interface_used name zone is = by (first_by entry_order (flat_map (entries_for name) config.zones)) refl is
    where
      all : Every (λ (entry : Entry). IsUsed config entry.zone) (flat_map (entries_for name) config.zones)
      all =
          every_in_each (λ (entry : Entry). IsUsed config entry.zone) (entries_for name) config.zones
          (every_listed (λ (other : Zone). Every (λ (entry : Entry). IsUsed config entry.zone) (entries_for name other)) config.zones
          (λ other there. every_mapped (λ (entry : Entry). IsUsed config entry.zone) (λ text. record { zone = other; text = text }) (filter (λ text. matches text name) other.interfaces)
          (every_listed (λ text. IsUsed config other) (filter (λ text. matches text name) other.interfaces)
          (λ text is. used_by_interface other there (kept_in name text other.interfaces is)))))

      by : (found : Option Entry) → first_by entry_order (flat_map (entries_for name) config.zones) ≡ found
          → option_map (λ (entry : Entry). entry.zone) found ≡ Some zone → IsUsed config zone
      by None is here = cc
      by (Some entry) is here =
          let same : entry.zone ≡ zone = cc in
          subst (IsUsed config) same (first_is (λ (one : Entry). IsUsed config one.zone) entry_order (flat_map (entries_for name) config.zones) entry all is)

  of_used : (address : Addr) (mac : Option ℕ) (name : List ℕ) (zone : Zone) → zone_of config address mac name ≡ Some zone → IsUsed config zone
  of_used address mac name zone is = by (source_zone config address mac) (interface_zone config name) refl refl is
    where
      by : (source interface : Option Zone) → source_zone config address mac ≡ source → interface_zone config name ≡ interface
          → option_or source (option_or interface (default_zone config)) ≡ Some zone → IsUsed config zone
      by (Some one) interface first second here = source_used address mac zone (first ∙ here)
      by None (Some one) first second here = interface_used name zone (second ∙ here)
      by None None first second here = default_used zone here

  from_used : (packet : Packet) (from : Origin) (zone : Zone) → ingress_from config packet from ≡ Some zone → IsUsed config zone
  from_used packet origin.Host zone is = cc
  from_used packet (origin.Link name) zone is = of_used packet.src packet.mac name zone is

pub packets_use : PacketsUseZones
packets_use config direction.Ingress leaving packet zone is = from_used config packet packet.origin zone is
packets_use config direction.Egress None packet zone is = cc
packets_use config direction.Egress (Some name) packet zone is = of_used config packet.dst None name zone is

-- a rule that leads to the chain of a zone in use, and whose matches stand
record IsOf (config : Config) (start : List ℕ) (rule : Rule) : Type 0 where
  zone : Zone
  used : IsUsed config zone
  stmts : rule.stmts ≡ stmt.Goto (start ++ zone.name) ∷ []
  stand : (rules : Ruleset) → EachHasSet config.ipsets rules → IsTrue (matches_stand rules rule.matches)

with_true : (b : Bool) → b ≡ true → (b && true) ≡ true
with_true b is = rw is refl

both : (one other : Bool) → one ≡ true → other ≡ true → (one && other) ≡ true
both one other first second = rw (first, second) refl

module _ (told : AreSourcesTold) (config : Config) (start : List ℕ) where
  peer_stands : (towards : Direction) (source : Binding) (rules : Ruleset) → EachHasSet config.ipsets rules → IsTrue (asked_stands rules (peer_test towards config.ipsets source))
  peer_stands direction.Ingress source rules sets = told.senders_stand config.ipsets rules source sets
  peer_stands direction.Egress source rules sets = told.receivers_stand config.ipsets rules source sets

  where_is : (zone : Zone) (asked : Option Test) → IsUsed config zone
      → ((rules : Ruleset) → EachHasSet config.ipsets rules → IsTrue (asked_stands rules asked))
      → Every (IsOf config start) (rule_where start zone asked)
  where_is zone None used stand = tt
  where_is zone (Some asked) used stand =
      (record { zone = zone; used = used; stmts = refl; stand = λ rules sets. with_true _ (stand rules sets) }, tt)

  zone_is : (towards : Direction) (zone : Zone) → IsIn zone config.zones → Every (IsOf config start) (zone_rules towards config.ipsets start zone)
  zone_is towards zone there =
      every_in_each (IsOf config start) (λ source. rule_where start zone (peer_test towards config.ipsets source)) zone.sources
      (every_listed (λ source. Every (IsOf config start) (rule_where start zone (peer_test towards config.ipsets source))) zone.sources
      (λ source is. where_is zone (peer_test towards config.ipsets source) (used_by_source config zone there (not_empty source zone.sources is))
      (peer_stands towards source)))

  sources_are : (towards : Direction) → Every (IsOf config start) (source_rules towards config start)
  sources_are towards =
      every_in_each (IsOf config start) (zone_rules towards config.ipsets start) (by_name config.zones)
      (every_so (λ (zone : Zone). IsIn zone config.zones) (λ (zone : Zone). Every (IsOf config start) (zone_rules towards config.ipsets start zone)) (zone_is towards)
      (by_name config.zones)
      (every_in_order (λ (zone : Zone). IsIn zone config.zones) has_lesser_name config.zones
      (every_listed (λ (zone : Zone). IsIn zone config.zones) config.zones (λ zone there. there))))

  link_is : (towards : Direction) (entry : Entry) → IsUsed config entry.zone → IsOf config start (entry_rule towards start entry)
  link_is direction.Ingress entry used = record { zone = entry.zone; used = used; stmts = refl; stand = λ rules sets. refl }
  link_is direction.Egress entry used = record { zone = entry.zone; used = used; stmts = refl; stand = λ rules sets. refl }

  interfaces_are : (towards : Direction) → Every (IsOf config start) (interface_rules towards config start)
  interfaces_are towards =
      every_mapped (IsOf config start) (entry_rule towards start) (entries_in_order config.zones)
      (every_so (λ (entry : Entry). IsUsed config entry.zone) (λ (entry : Entry). IsOf config start (entry_rule towards start entry)) (link_is towards)
      (entries_in_order config.zones)
      (every_in_order (λ (entry : Entry). IsUsed config entry.zone) comes_first (flat_map zone_entries config.zones) (entries_used config)))

  last_are : (found : Option Zone) → ((zone : Zone) → found ≡ Some zone → IsUsed config zone) → Every (IsOf config start) (last_rules start found)
  last_are None used = tt
  last_are (Some zone) used = (record { zone = zone; used = used zone refl; stmts = refl; stand = λ rules sets. refl }, tt)

  all_are : (towards : Direction) → Every (IsOf config start) (zone_dispatch towards config start)
  all_are towards =
      every_joined (IsOf config start) (source_rules towards config start ++ interface_rules towards config start) (last_rules start (default_zone config))
      (every_joined (IsOf config start) (source_rules towards config start) (interface_rules towards config start) (sources_are towards) (interfaces_are towards))
      (last_are (default_zone config) (default_used config))

  -- what such rules ask of a ruleset
  goes_to : (rule : Rule) → IsOf config start rule → (rules : Ruleset) → EachHasChain config start rules → EachHasSet config.ipsets rules → rule_stands rules rule ≡ true
  goes_to rule of rules chains sets =
      both (matches_stand rules rule.matches) _ (of.stand rules sets)
      (ap (list_all (statement_stands rules)) of.stmts ∙ with_true (is_some (chain_of rules.chains (start ++ of.zone.name))) (chains of.zone of.used))

  stand_all : (made : List Rule) → Every (IsOf config start) made → (rules : Ruleset) → EachHasChain config start rules → EachHasSet config.ipsets rules
      → IsTrue (list_all (rule_stands rules) made)
  stand_all [] all rules chains sets = refl
  stand_all (rule ∷ others) all rules chains sets =
      both (rule_stands rules rule) _ (goes_to rule all.0 rules chains sets) (stand_all others all.1 rules chains sets)

  target_is : (made : List Rule) → Every (IsOf config start) made → (maps : List NfMap) (name : List ℕ) → IsNameIn name (rule_targets maps made)
      → IsChainName config start name
  target_is [] all maps name there = absurd there
  target_is (rule ∷ others) all maps name there =
      by (subst (λ (statements : List Stmt). IsNameIn name (flat_map (targets maps) statements ++ rule_targets maps others)) all.0.stmts there) (target_is others all.1 maps name)
    where
      by : IsNameIn name ((start ++ all.0.zone.name) ∷ rule_targets maps others) → (IsNameIn name (rule_targets maps others) → IsChainName config start name) → IsChainName config start name
      by (inl same) rest = record { zone = all.0.zone; used = all.0.used; is = sym same }
      by (inr there) rest = rest there

  plain_all : (made : List Rule) → Every (IsOf config start) made → IsTrue (are_plain made)
  plain_all [] all = refl
  plain_all (rule ∷ others) all = both (list_all is_plain rule.stmts) (are_plain others) (ap (list_all is_plain) all.0.stmts) (plain_all others all.1)

  pub lead_to_zones : (towards : Direction) → LeadToZones config start (zone_dispatch towards config start)
  lead_to_zones towards = record {
    stand = stand_all (zone_dispatch towards config start) (all_are towards);
    targets = target_is (zone_dispatch towards config start) (all_are towards);
    plain = plain_all (zone_dispatch towards config start) (all_are towards);
  }

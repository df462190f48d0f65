-- The whole compiler: its rulesets can be installed, and do with every packet what the settings say.
use Rattle.std.proofs.Common.{◌≡◌, ◌≢◌, ℕ, Bool, true, false, List, [], ◌∷◌, map, Some, inl, inr, refl, sym, subst, arith}
use Rattle.std.proofs.lemmas.Slice.Eq.{bytes_eq-Decides}
use Rattle.std.specs.Prelude.{IsSome, if◌then◌else◌}
use Rattle.std.specs.List.{AllPairs}
use Rattle.std.specs.Str.{bytes_eq}
use Rattle.fw_model.specs.declared.config.Config.{Config}
use Rattle.fw_model.specs.declared.runtime.Runtime.{Runtime}
use Rattle.fw_model.specs.declared.zone.Zone.{Zone}
use Rattle.fw_valid.specs.Valid.{IsValid}
use Rattle.fw_zone.specs.Lists.{IsIn}
use Rattle.lower_all.specs.Compiled.{IsCompiled, IsMade}
use Rattle.lower_all.specs.Joined.{used_zones}
use Rattle.lower_all.proofs.Apart.{names_apart}
use Rattle.lower_all.proofs.Found.{found, is_in_again, is_in_before}
use Rattle.lower_all.proofs.Laws.{Laws, NameLaws}
use Rattle.lower_all.proofs.Named.{chains_by_name, each_has_set, sets_by_name}
use Rattle.lower_all.proofs.Parts.{HasParts}
use Rattle.lower_all.proofs.SetsStand.{sets_stand}
use Rattle.lower_all.proofs.Standing.{is_sound}
use Rattle.lower_all.proofs.Working.{all_works, sides_stand}
use Rattle.nf_goal.specs.Compiles.{Compiles}
use Rattle.nf_rules.specs.declared.chain.Chain.{Chain}
use Rattle.nf_rules.specs.declared.map.NfMap.{NfMap}
use Rattle.nf_rules.specs.declared.ruleset.Ruleset.{Ruleset}
use Rattle.nf_sound.specs.Names.{AreByName, IsByName, called}

-- what is listed under a name is found
some_called : {T : Type 0} (name_of : T → List ℕ) (name : List ℕ) (items : List T) → IsIn name (map name_of items) → IsSome (called name_of name items)
some_called name_of name [] there = absurd there
some_called {T = T} name_of name (first ∷ others) there = either (bytes_eq (name_of first) name) refl there (some_called name_of name others)
  where
    either : (hit : Bool) → bytes_eq (name_of first) name ≡ hit → IsIn name (map name_of (first ∷ others))
        → (IsIn name (map name_of others) → IsSome (called name_of name others))
        → IsSome (if hit then Some first else called name_of name others)
    either true same is rest = refl
    either false other (inl same) rest = let is = (bytes_eq-Decides (name_of first) name).1 same in cc
    either false other (inr later) rest = rest later

module _ (laws : NameLaws) (config : Config) (rules : Ruleset) (made : IsCompiled config rules) (valid : IsValid config) where
  apart : AllPairs (λ (one other : Chain). one.name ≢ other.name) rules.chains
  apart = names_apart laws config valid.names rules.chains made.chains

  has_parts : HasParts config rules
  has_parts = record {
    joined = made.chains;
    there = λ chain among. is_in_again _ rules.chains made.chains.all chain among;
    only = λ chain among. is_in_before _ rules.chains made.chains.all chain among;
    found = found (λ (chain : Chain). chain.name) rules.chains apart;
    sets = sets_stand config rules.sets made.sets valid.names valid.ipsets.sets;
    has_sets = each_has_set config rules made.sets valid.names;
    default = some_called (λ (zone : Zone). zone.name) config.default_zone config.zones valid.default_zone;
  }

  in_order : AreByName rules
  in_order = record {
    chains = chains_by_name laws config rules.chains made.chains valid.names;
    sets = sets_by_name config rules.sets made.sets valid.names;
    maps = subst (λ (maps : List NfMap). IsByName (λ (map : NfMap). map.name) maps) (sym made.no_map) (λ one other default before within. absurd (omega (arith, within)));
  }

compiled_compiles : Laws
    → (rules : Ruleset) (runtime : Runtime)
    → IsCompiled runtime.config rules
    → IsValid runtime.config
    → runtime.panic ≡ false
    → Compiles rules runtime
compiled_compiles laws rules runtime made valid no_panic =
    let parts = has_parts laws.names runtime.config rules made valid in
    let sides = parts.joined.sides in
    record {
      sound = is_sound runtime.config rules parts laws.filter.acting laws.sides.hold (in_order laws.names runtime.config rules made valid) made.no_map;
      outcomes = laws.sides.led runtime (used_zones runtime.config) rules sides.marks sides.targets sides.masks no_panic
          (sides_stand runtime.config rules parts laws.sides)
          (laws.filter.decide rules runtime.config (all_works runtime.config rules parts laws.filter.acting laws.sides laws.filter.one_runs));
    }

pub made_compiles : Laws
    → (rules : Ruleset) (runtime : Runtime) (panic : Bool)
    → runtime.panic ≡ panic
    → IsMade panic runtime.config rules
    → IsValid runtime.config
    → Compiles rules runtime
made_compiles laws rules runtime true is made valid = subst (λ (one : Ruleset). Compiles one runtime) (sym made) (laws.panic runtime is)
made_compiles laws rules runtime false is made valid = compiled_compiles laws rules runtime made valid is

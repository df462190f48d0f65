-- At a hook with one base chain a packet ends as that does; and each packet has a zone.
use Rattle.std.proofs.Common.{◌≡◌, ℕ, List, [], Option, None, Some, refl}
use Rattle.std.specs.Option.{option_or}
use Rattle.fw_addr.specs.declared.addr.Addr.{Addr}
use Rattle.fw_hits.specs.Bindings.{default_zone, interface_zone, source_zone, zone_of}
use Rattle.fw_model.specs.declared.config.Config.{Config}
use Rattle.fw_model.specs.declared.outcome.Verdict.{Verdict}
use Rattle.fw_model.specs.declared.outcome.Verdict.TheVariants as verdict
use Rattle.fw_model.specs.declared.zone.Zone.{Zone}
use Rattle.fw_verdict.specs.Walk.{Walked}
use Rattle.lower_hooks.specs.Chains.{EndAs}
use Rattle.lower_hooks.specs.Decides.{MeetsAs}
use Rattle.lower_hooks.specs.Stands.{OneAt}
use Rattle.nf_chains.specs.Evaluation.{Ends}
use Rattle.nf_chains.specs.Hooks.{Meets}
use Rattle.nf_chains.specs.Hooks.Meets.{accepted, passed as none_more, refused}
use Rattle.nf_chains.specs.Moments.{Moment}
use Rattle.nf_rules.specs.declared.chain.Hook.{Hook}
use Rattle.nf_rules.specs.declared.rule.Rule.{Rule}
use Rattle.nf_rules.specs.declared.ruleset.Ruleset.{Ruleset}

module _ (rules : Ruleset) where
  -- the one base chain at a hook
  meets : (name : List ℕ) (at : Hook) (made : List Rule) (leaving : Option (List ℕ)) (now end : Moment) (chosen : Verdict)
      → OneAt rules name at made
      → Ends rules leaving [] made [] now chosen end
      → Meets rules leaving at None now chosen end
  meets name at made leaving now end verdict.Accept one does = accepted one.first refl does (none_more one.last)
  meets name at made leaving now end verdict.Drop one does = refused one.first refl does refl
  meets name at made leaving now end (verdict.Reject kind) one does = refused one.first refl does refl

  pub meets_as : (name : List ℕ) (at : Hook) (made : List Rule) (leaving : Option (List ℕ)) (now : Moment) (walked : Walked)
      → OneAt rules name at made
      → EndAs rules leaving made now walked
      → MeetsAs rules leaving at now walked
  meets_as name at made leaving now walked one end = record {
    verdict = end.verdict;
    looked_at = end.looked_at;
    decides = end.decides;
    meets = meets name at made leaving now _ end.verdict one end.ends;
  }

-- The default zone is there, so each packet has a zone.
either : {A : Type 0} (one : Option A) (other : Option A) (last : A) → other ≡ Some last → (found : A) × (option_or one other ≡ Some found)
either (Some found) other last is = (found, refl)
either None other last is = (last, is)

pub zone_is : (config : Config) (zone : Zone) (address : Addr) (mac : Option ℕ) (name : List ℕ)
    → default_zone config ≡ Some zone
    → (found : Zone) × (zone_of config address mac name ≡ Some found)
zone_is config zone address mac name is =
    let behind = either (interface_zone config name) (default_zone config) zone is in
    either (source_zone config address mac) (option_or (interface_zone config name) (default_zone config)) behind.0 behind.1

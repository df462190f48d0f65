-- At the hooks of the filter packets end as the settings decide.
use Rattle.std.specs.Prelude.{◌≡◌, ℕ, List, Option, None, Some}
use Rattle.fw_model.specs.Packets.{IsPacket}
use Rattle.fw_model.specs.declared.config.Config.{Config}
use Rattle.fw_model.specs.declared.outcome.Verdict.{Verdict}
use Rattle.fw_model.specs.declared.packet.Origin.TheVariants as origin
use Rattle.fw_verdict.specs.Walk.{Walked}
use Rattle.fw_verdict.specs.Way.{forwarded, from_host, to_host}
use Rattle.lower_zone.specs.Evaluates.{behind_lines}
use Rattle.nf_chains.specs.Hooks.{Meets}
use Rattle.nf_chains.specs.Moments.{Moment}
use Rattle.nf_rules.specs.declared.chain.Hook.{Hook}
use Rattle.nf_rules.specs.declared.chain.Hook.TheVariants as hook
use Rattle.nf_rules.specs.declared.ruleset.Ruleset.{Ruleset}

-- At a hook a packet ends as a walk decides, with its lines behind those so far.
pub record MeetsAs (rules : Ruleset) (leaving : Option (List ℕ)) (at : Hook) (now : Moment) (walked : Walked) : Type 0 where
  pub verdict : Verdict
  pub looked_at : ℕ
  pub decides : walked.decided ≡ Some verdict
  pub meets : Meets rules leaving at None now verdict (behind_lines walked.logs looked_at now)

-- At the hooks of the filter packets end as the settings decide, at whatever moment they come there.
pub record FilterStands (config : Config) (rules : Ruleset) : Type 0 where
  pub input : (now : Moment) (from : List ℕ) → IsPacket now.packet → now.packet.origin ≡ origin.Link from
      → MeetsAs rules None hook.Input now (to_host config now.packet)
  pub forward : (now : Moment) (from name : List ℕ) → IsPacket now.packet → now.packet.origin ≡ origin.Link from
      → MeetsAs rules (Some name) hook.Forward now (forwarded config now.packet name)
  pub output : (now : Moment) (name : List ℕ) → IsPacket now.packet → now.packet.origin ≡ origin.Host
      → MeetsAs rules (Some name) hook.Output now (from_host config now.packet name)

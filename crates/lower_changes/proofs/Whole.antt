-- The whole way of a packet over a ruleset.
use Rattle.std.proofs.Common.{◌≡◌, ◌∙◌, ℕ, Bool, List, [], ◌∷◌, codes, Option, None, Some, refl, sym, ap, subst}
use Rattle.std.specs.Prelude.{if◌then◌else◌, unwrap_or}
use Rattle.fw_model.specs.Packets.{IsPacket}
use Rattle.fw_model.specs.declared.config.Config.{Config}
use Rattle.fw_model.specs.declared.outcome.Outcome.{Outcome}
use Rattle.fw_model.specs.declared.outcome.Verdict.{Verdict}
use Rattle.fw_model.specs.declared.outcome.Verdict.TheVariants as verdict
use Rattle.fw_model.specs.declared.packet.Origin.{Origin}
use Rattle.fw_model.specs.declared.packet.Origin.TheVariants as origin
use Rattle.fw_model.specs.declared.packet.Packet.{Packet}
use Rattle.fw_model.specs.declared.packet.Via.{Via}
use Rattle.fw_model.specs.declared.packet.Via.TheVariants as via
use Rattle.fw_model.specs.declared.zone.Zone.{Zone}
use Rattle.fw_verdict.specs.Changes.{Passing, first_passing}
use Rattle.fw_verdict.specs.Walk.{Walked}
use Rattle.fw_verdict.specs.Way.{filtered, forwarded, from_host, leaves_by, marked, marked_from, outcome_of, panicked, passed, postrouted, routed, to_host, translated, translated_from, with_lines}
use Rattle.lower_changes.specs.Hooks.{SidesStand}
use Rattle.lower_changes.specs.Whole.{WayIsLed}
use Rattle.lower_changes.proofs.Passing.{postrouting, prerouting}
use Rattle.lower_hooks.specs.Decides.{FilterStands, MeetsAs}
use Rattle.lower_outside.specs.Does.{moment_of}
use Rattle.lower_zone.specs.Evaluates.{behind_lines}
use Rattle.nf_chains.specs.Hooks as hooks
use Rattle.nf_chains.specs.Hooks.{Eval, Meets, Stop, is_accept, stops_behind}
use Rattle.nf_chains.specs.Hooks.Goes.{routed_on as goes_on}
use Rattle.nf_chains.specs.Hooks.Passes.{further, stopped, through as past}
use Rattle.nf_chains.specs.Moments as moments
use Rattle.nf_chains.specs.Moments.{Moment, first_moment}
use Rattle.nf_rules.specs.declared.chain.Chain.{Chain}
use Rattle.nf_rules.specs.declared.chain.Hook.{Hook}
use Rattle.nf_rules.specs.declared.chain.Hook.TheVariants as hook
use Rattle.nf_rules.specs.declared.ruleset.Ruleset.{Ruleset}

-- what becomes of a packet from routing on, by where it came from
abbrev on_from : Config → Origin → Via → Passing → Outcome
on_from config from leaving now =
    let filter = filtered config now.packet from leaving in
    let chosen = unwrap_or filter.decided verdict.Drop in
    outcome_of chosen (postrouted config chosen (leaves_by from leaving) (with_lines filter.logs now))

-- and by what the filter decides
abbrev decided_on : Config → Option (List ℕ) → Walked → Passing → Outcome
decided_on config leaving walked now =
    let chosen = unwrap_or walked.decided verdict.Drop in
    outcome_of chosen (postrouted config chosen leaving (with_lines walked.logs now))

record Gone (rules : Ruleset) (stops : List Stop) (now : Moment) (outcome : Outcome) : Type 0 where
  verdict : Verdict
  end : Moment
  passes : hooks.Passes rules stops now verdict end
  is : outcome ≡ moments.outcome_of verdict end

module _ (config : Config) (zones : List Zone) (rules : Ruleset) (marks targets masks : List Chain)
    (stand : SidesStand config zones rules marks targets masks) (filter : FilterStands config rules) where
  -- the last hook
  one_stop : (stop : Stop) (now : Passing) (count : ℕ) (walked : Walked)
      → MeetsAs rules stop.leaving stop.hook (moment_of now count) walked
      → Gone rules (stop ∷ []) (moment_of now count) (decided_on config None walked now)
  one_stop stop now count walked met = by met.verdict met.decides met.meets
    where
      by : (chosen : Verdict) → walked.decided ≡ Some chosen → Meets rules stop.leaving stop.hook None (moment_of now count) chosen (behind_lines walked.logs met.looked_at (moment_of now count))
          → Gone rules (stop ∷ []) (moment_of now count) (decided_on config None walked now)
      by verdict.Accept is meets = record {
        verdict = verdict.Accept;
        end = behind_lines walked.logs met.looked_at (moment_of now count);
        passes = further meets past;
        is = ap (λ (decided : Option Verdict). outcome_of (unwrap_or decided verdict.Drop) (with_lines walked.logs now)) is;
      }
      by verdict.Drop is meets = record {
        verdict = verdict.Drop;
        end = behind_lines walked.logs met.looked_at (moment_of now count);
        passes = stopped meets refl;
        is = ap (λ (decided : Option Verdict). outcome_of (unwrap_or decided verdict.Drop) (with_lines walked.logs now)) is;
      }
      by (verdict.Reject kind) is meets = record {
        verdict = verdict.Reject kind;
        end = behind_lines walked.logs met.looked_at (moment_of now count);
        passes = stopped meets refl;
        is = ap (λ (decided : Option Verdict). outcome_of (unwrap_or decided verdict.Drop) (with_lines walked.logs now)) is;
      }

  -- and one before postrouting
  two_stops : (at : Hook) (name : List ℕ) (now : Passing) (count : ℕ) (walked : Walked)
      → IsPacket now.packet
      → MeetsAs rules (Some name) at (moment_of now count) walked
      → Gone rules (record { hook = at; leaving = Some name } ∷ record { hook = hook.Postrouting; leaving = Some name } ∷ []) (moment_of now count) (decided_on config (Some name) walked now)
  two_stops at name now count walked is_packet met = by met.verdict met.decides met.meets
    where
      outcome_is : (chosen : Verdict) → walked.decided ≡ Some chosen
          → decided_on config (Some name) walked now ≡ outcome_of chosen (postrouted config chosen (Some name) (with_lines walked.logs now))
      outcome_is chosen is =
          ap (λ (decided : Option Verdict). outcome_of (unwrap_or decided verdict.Drop) (postrouted config (unwrap_or decided verdict.Drop) (Some name) (with_lines walked.logs now))) is

      by : (chosen : Verdict) → walked.decided ≡ Some chosen → Meets rules (Some name) at None (moment_of now count) chosen (behind_lines walked.logs met.looked_at (moment_of now count))
          → Gone rules (record { hook = at; leaving = Some name } ∷ record { hook = hook.Postrouting; leaving = Some name } ∷ []) (moment_of now count) (decided_on config (Some name) walked now)
      by verdict.Accept is meets =
          let behind = postrouting config zones rules marks targets masks stand (behind_lines walked.logs met.looked_at (moment_of now count)) name is_packet in
          record {
            verdict = verdict.Accept;
            end = moment_of (postrouted config verdict.Accept (Some name) (with_lines walked.logs now)) behind.looked_at;
            passes = further meets (further behind.meets past);
            is = outcome_is verdict.Accept is;
          }
      by verdict.Drop is meets = record { verdict = verdict.Drop; end = (behind_lines walked.logs met.looked_at (moment_of now count)); passes = stopped meets refl; is = outcome_is verdict.Drop is }
      by (verdict.Reject kind) is meets = record { verdict = verdict.Reject kind; end = (behind_lines walked.logs met.looked_at (moment_of now count)); passes = stopped meets refl; is = outcome_is (verdict.Reject kind) is }

  -- from routing on
  gone : (from : Origin) (leaving : Via) (now : Passing) (count : ℕ) → now.packet.origin ≡ from → IsPacket now.packet
      → Gone rules (stops_behind from leaving) (moment_of now count) (on_from config from leaving now)
  gone (origin.Link from) via.Local now count is is_packet =
      one_stop (record { hook = hook.Input; leaving = None }) now count (to_host config now.packet) (filter.input (moment_of now count) from is_packet is)
  gone (origin.Link from) (via.Link name) now count is is_packet =
      two_stops hook.Forward name now count (forwarded config now.packet name) is_packet (filter.forward (moment_of now count) from name is_packet is)
  gone origin.Host via.Local now count is is_packet =
      two_stops hook.Output (codes "lo") now count (from_host config now.packet (codes "lo")) is_packet (filter.output (moment_of now count) (codes "lo") is_packet is)
  gone origin.Host (via.Link name) now count is is_packet =
      two_stops hook.Output name now count (from_host config now.packet name) is_packet (filter.output (moment_of now count) name is_packet is)

  gone_on : (now : Passing) (count : ℕ) → IsPacket now.packet
      → Gone rules (stops_behind now.packet.origin (routed now)) (moment_of now count) (on_from config now.packet.origin (routed now) now)
  gone_on now count is_packet = gone now.packet.origin (routed now) now count refl is_packet

  -- the host's own packets are neither marked nor translated
  as_it_is : (packet : Packet) → packet.origin ≡ origin.Host → translated config (marked config (first_passing packet)) ≡ first_passing packet
  as_it_is packet is =
      ap (λ (from : Origin). translated config (marked_from config from (first_passing packet))) is
      ∙ ap (λ (from : Origin). translated_from config from (first_passing packet)) is

  evaluated : (packet : Packet) (from : Origin) → packet.origin ≡ from → IsPacket packet → Eval rules packet (passed config packet)
  evaluated packet origin.Host is is_packet =
      let end = gone_on (first_passing packet) 0 is_packet in
      record {
        verdict = end.verdict;
        end = end.end;
        goes = goes_on (subst (λ (one : Origin). hooks.Passes rules (hooks.stops_before one) (first_moment packet) verdict.Accept (first_moment packet)) (sym is) past) end.passes;
        is = ap (λ (now : Passing). on_from config now.packet.origin (routed now) now) (as_it_is packet is) ∙ end.is;
      }
  evaluated packet (origin.Link name) is is_packet =
      let before = prerouting config zones rules marks targets masks stand (first_moment packet) name is is_packet in
      let now = translated config (marked config (first_passing packet)) in
      let end = gone_on now before.looked_at before.packet in
      record {
        verdict = end.verdict;
        end = end.end;
        goes = goes_on
            (subst (λ (one : Origin). hooks.Passes rules (hooks.stops_before one) (first_moment packet) verdict.Accept (moment_of now before.looked_at)) (sym is) (further before.meets past))
            end.passes;
        is = end.is;
      }

pub way_is_led : WayIsLed
way_is_led runtime zones rules marks targets masks calm stand filter packet is_packet =
    subst (λ (outcome : Outcome). Eval rules packet outcome)
    (ap (λ (panic : Bool). if panic then panicked packet else passed runtime.config packet) (sym calm))
    (evaluated runtime.config zones rules marks targets masks stand filter packet packet.origin refl is_packet)

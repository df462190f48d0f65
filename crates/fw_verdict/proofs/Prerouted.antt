-- What the steps before routing make of a packet, and how it goes on.
use Rattle.std.proofs.Common.{◌≡◌, ◌∙◌, ℕ, List, [], Option, None, Some, refl, sym, ap}
use Rattle.std.specs.Prelude.{IfOk, Result}
use Rattle.std.proofs.lemmas.Result.{IfOk-weaker}
use Rattle.fw_addr.specs.declared.dnat.Dnat.{Dnat}
use Rattle.fw_addr.specs.declared.log.LogLine.{LogLine}
use Rattle.fw_model.specs.declared.config.Config.{Config}
use Rattle.fw_model.specs.declared.outcome.Outcome.{Outcome}
use Rattle.fw_model.specs.declared.packet.Packet.{Packet}
use Rattle.fw_verdict.specs.Changes.{Passing, with_mark}
use Rattle.fw_verdict.specs.Led.{IsUnmoved, moved_by, sent_on, standing}
use Rattle.fw_verdict.specs.Way.{behind_prerouting, marked, passed, translated}

moved : (found : Option Dnat) (packet : Packet) (logs : List LogLine) → (sent_on found (standing packet None logs)).now ≡ standing (moved_by found packet) found logs
moved None packet logs = refl
moved (Some dnat) packet logs = refl

module _ (config : Config) (packet : Packet) (mark : ℕ) (found : Option Dnat) (first second : List LogLine)
    (marks : marked config (standing packet None []) ≡ standing (with_mark mark packet) None first)
    (sends : (number : ℕ) → translated config (standing (with_mark number packet) None first) ≡ (sent_on found (standing (with_mark number packet) None second)).now) where
  pub prerouted : passed config packet ≡ behind_prerouting config (standing (moved_by found (with_mark mark packet)) found second)
  prerouted =
      ap (λ (now : Passing). behind_prerouting config (translated config now)) marks
      ∙ ap (behind_prerouting config) (sends mark ∙ moved found (with_mark mark packet) second)

  -- a packet that isn't changed goes on as it came
  pub goes_unchanged : {E : Type 0} (result : Result Outcome E)
      → IsUnmoved packet mark found
      → IfOk result (λ outcome. outcome ≡ behind_prerouting config (standing packet None second))
      → IfOk result (λ outcome. outcome ≡ passed config packet)
  goes_unchanged result unmoved goes =
      IfOk-weaker result (λ outcome. outcome ≡ behind_prerouting config (standing packet None second)) (λ outcome. outcome ≡ passed config packet)
      (λ outcome same. same ∙ sym
      (prerouted
      ∙ ap (λ (number : ℕ). behind_prerouting config (standing (moved_by found (with_mark number packet)) found second)) unmoved.mark_is
      ∙ ap (λ (one : Option Dnat). behind_prerouting config (standing (moved_by one (with_mark packet.mark packet)) one second)) unmoved.dnat_is)) goes

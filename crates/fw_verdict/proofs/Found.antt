-- Where a walk of changes has come to, once it is known whether something was found.
use Rattle.std.proofs.Common.{◌≡◌, ◌∙◌, List, ◌++◌, Bool, true, false, Option, None, Some, refl, ap}
use Rattle.std.specs.Prelude.{is_some}
use Rattle.fw_addr.specs.declared.dnat.Dnat.{Dnat}
use Rattle.fw_addr.specs.declared.log.LogLine.{LogLine}
use Rattle.fw_model.specs.declared.packet.Packet.{Packet}
use Rattle.fw_verdict.specs.Changes.{ChangeItem, Passing, through, with_mark}
use Rattle.fw_verdict.specs.Led.{MasksTo, SendsTo, masked, sent_on, standing}
use Rattle.fw_verdict.proofs.Through.{ends_there, goes_there}

pub sent_over : (found : Option Dnat) (now : Passing) (there : Bool) → is_some found ≡ there → (sent_on found now).over ≡ there
sent_over None now there is = is
sent_over (Some dnat) now there is = is

not_sent : (found : Option Dnat) (now : Passing) → is_some found ≡ false → (sent_on found now).now ≡ now
not_sent None now is = refl
not_sent (Some dnat) now is = cc

pub masked_over : (found : Bool) (now : Passing) (there : Bool) → found ≡ there → (masked found now).over ≡ there
masked_over false now there is = is
masked_over true now there is = is

not_masked : (found : Bool) (now : Passing) → found ≡ false → (masked found now).now ≡ now
not_masked false now is = refl
not_masked true now is = cc

-- what sends a packet on ends the walk
pub sends_ends : (one other : List ChangeItem) (packet : Packet) (first second : List LogLine) (found : Option Dnat)
    → is_some found ≡ true
    → SendsTo one packet first second found
    → SendsTo (one ++ other) packet first second found
sends_ends one other packet first second found there sends = record {
  is = λ mark. ends_there one other (standing (with_mark mark packet) None first) _ (sent_over found _ true there) (sends.is mark);
}

-- what doesn't goes on
pub sends_goes_on : (one other : List ChangeItem) (packet : Packet) (first second third : List LogLine) (nowhere found : Option Dnat)
    → is_some nowhere ≡ false
    → SendsTo one packet first second nowhere
    → SendsTo other packet second third found
    → SendsTo (one ++ other) packet first third found
sends_goes_on one other packet first second third nowhere found none before behind = record {
  is = λ mark.
      goes_there one other (standing (with_mark mark packet) None first) _ (sent_over nowhere _ false none) (before.is mark)
      ∙ ap (through other) (not_sent nowhere (standing (with_mark mark packet) None second) none)
      ∙ behind.is mark;
}

pub masks_ends : (one other : List ChangeItem) (packet : Packet) (first second : List LogLine) (found : Bool)
    → found ≡ true
    → MasksTo one packet first second found
    → MasksTo (one ++ other) packet first second true
masks_ends one other packet first second found there masks = record {
  is = λ dnat.
      ends_there one other (standing packet dnat first) _ (masked_over found _ true there) (masks.is dnat)
      ∙ ap (λ (one : Bool). masked one (standing packet dnat second)) there;
}

pub masks_goes_on : (one other : List ChangeItem) (packet : Packet) (first second third : List LogLine) (nothing found : Bool)
    → nothing ≡ false
    → MasksTo one packet first second nothing
    → MasksTo other packet second third found
    → MasksTo (one ++ other) packet first third found
masks_goes_on one other packet first second third nothing found none before behind = record {
  is = λ dnat.
      goes_there one other (standing packet dnat first) _ (masked_over nothing _ false none) (before.is dnat)
      ∙ ap (through other) (not_masked nothing (standing packet dnat second) none)
      ∙ behind.is dnat;
}

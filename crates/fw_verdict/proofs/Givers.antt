-- Lists of changes that some give, one after another, of which the first that is about a packet ends the walk.
use Rattle.std.proofs.Common.{◌≡◌, ◌∙◌, ℕ, ◌+◌, ◌<◌, ◌≤◌, List, ◌∷◌, length, drop, get_or, Bool, true, false, Option, None, sym, refl, ap, subst, Bor}
use Rattle.std.specs.Prelude.{is_some}
use Rattle.std.specs.List.{flat_map}
use Rattle.std.proofs.lemmas.List.{at_drop_all, at_drop_more}
use Rattle.fw_addr.specs.declared.dnat.Dnat.{Dnat}
use Rattle.fw_addr.specs.declared.log.LogLine.{LogLine}
use Rattle.fw_model.specs.declared.packet.Packet.{Packet}
use Rattle.fw_order.specs.Borrowed.{lent}
use Rattle.fw_verdict.specs.Changes.{ChangeItem}
use Rattle.fw_verdict.specs.Led.{MasksTo, SendsTo}
use Rattle.fw_verdict.proofs.Found.{masks_ends, masks_goes_on, sends_ends, sends_goes_on}

module _ {A : Type 0} (of : A → List ChangeItem) (packet : Packet) where
  abbrev pub given : List (Bor A) → List ChangeItem
  given givers = flat_map of (lent givers)

  from_here : (givers : List (Bor A)) (at : ℕ) (giver : Bor A) → at < length givers → giver ≡ get_or givers at giver
      → given (drop at givers) ≡ given (giver ∷ drop (at + 1) givers)
  from_here givers at giver below is =
      at_drop_more given givers at giver below ∙ ap (λ (one : Bor A). given (one ∷ drop (at + 1) givers)) (sym is)

  pub sends_here : (givers : List (Bor A)) (at : ℕ) (giver : Bor A) (first second : List LogLine) (found : Option Dnat)
      → at < length givers → giver ≡ get_or givers at giver
      → is_some found ≡ true
      → SendsTo (of giver.now) packet first second found
      → SendsTo (given (drop at givers)) packet first second found
  sends_here givers at giver first second found below is there sends =
      subst (λ (items : List ChangeItem). SendsTo items packet first second found) (sym (from_here givers at giver below is))
      (sends_ends (of giver.now) (given (drop (at + 1) givers)) packet first second found there sends)

  pub sends_behind : (givers : List (Bor A)) (at : ℕ) (giver : Bor A) (first second third : List LogLine) (nowhere found : Option Dnat)
      → at < length givers → giver ≡ get_or givers at giver
      → is_some nowhere ≡ false
      → SendsTo (of giver.now) packet first second nowhere
      → SendsTo (given (drop (at + 1) givers)) packet second third found
      → SendsTo (given (drop at givers)) packet first third found
  sends_behind givers at giver first second third nowhere found below is none before behind =
      subst (λ (items : List ChangeItem). SendsTo items packet first third found) (sym (from_here givers at giver below is))
      (sends_goes_on (of giver.now) (given (drop (at + 1) givers)) packet first second third nowhere found none before behind)

  pub sends_nowhere : (givers : List (Bor A)) (at : ℕ) (logs : List LogLine) → length givers ≤ at → SendsTo (given (drop at givers)) packet logs logs None
  sends_nowhere givers at logs over =
      subst (λ (items : List ChangeItem). SendsTo items packet logs logs None) (sym (at_drop_all given givers at over))
      (record { is = λ mark. refl })

  pub masks_here : (givers : List (Bor A)) (at : ℕ) (giver : Bor A) (first second : List LogLine) (found : Bool)
      → at < length givers → giver ≡ get_or givers at giver
      → found ≡ true
      → MasksTo (of giver.now) packet first second found
      → MasksTo (given (drop at givers)) packet first second true
  masks_here givers at giver first second found below is there masks =
      subst (λ (items : List ChangeItem). MasksTo items packet first second true) (sym (from_here givers at giver below is))
      (masks_ends (of giver.now) (given (drop (at + 1) givers)) packet first second found there masks)

  pub masks_behind : (givers : List (Bor A)) (at : ℕ) (giver : Bor A) (first second third : List LogLine) (nothing found : Bool)
      → at < length givers → giver ≡ get_or givers at giver
      → nothing ≡ false
      → MasksTo (of giver.now) packet first second nothing
      → MasksTo (given (drop (at + 1) givers)) packet second third found
      → MasksTo (given (drop at givers)) packet first third found
  masks_behind givers at giver first second third nothing found below is none before behind =
      subst (λ (items : List ChangeItem). MasksTo items packet first third found) (sym (from_here givers at giver below is))
      (masks_goes_on (of giver.now) (given (drop (at + 1) givers)) packet first second third nothing found none before behind)

  pub masks_nothing : (givers : List (Bor A)) (at : ℕ) (logs : List LogLine) → length givers ≤ at → MasksTo (given (drop at givers)) packet logs logs false
  masks_nothing givers at logs over =
      subst (λ (items : List ChangeItem). MasksTo items packet logs logs false) (sym (at_drop_all given givers at over))
      (record { is = λ dnat. refl })

use Rattle.std.proofs.Common.{◌≡◌, ◌++◌, ℕ, List, take, ap, refl, ◌∙◌}
use Rattle.std.specs.Prelude.{replicate}
use Rattle.dbus_held.proofs.HeldLaws.{zeros_taken}
use Rattle.dbus_held.proofs.held.behind_zeros.Goals as goal

pub returns : goal.returns
returns c =
    let zeros : List ℕ = replicate 8 0 in
    c.in_ok-extend_from_slice-2.ensures.items
    ∙ ap (λ (t : List ℕ). t ++ c.args.bytes.now) (c.in_ok-extend_from_slice.ensures.items ∙ ap (λ (t : List ℕ). t ++ take c.args.count zeros) c.in_ok-made.ensures.items ∙ zeros_taken c.args.count zeros c.requires refl)

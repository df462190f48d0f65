-- The copied front is what was left, up to the count.
use Rattle.std.proofs.Common.{◌≡◌, ℕ, List, ◌-◌, min, length, take, drop, ap, ◌∙◌}
use Rattle.std.proofs.lemmas.List.{drop-drop, take_rest}
use Rattle.fw_base.proofs.FrontRead.{front_read}
use Rattle.fw_base.proofs.list_source.ListSourceSource.read.Goals as goal

pub returns-clause-reads : goal.returns-clause-reads
returns-clause-reads c =
    let given = c.self.inside.given in
    let bytes = c.self.inside.bytes.items in
    let left_is : take (length c.deref-2.result.now - given) (drop given c.deref-2.result.now) ≡ drop given bytes = take_rest c.deref-2.result.now given ∙ ap (drop given) c.deref-2.ensures.value in
    let count_is : c.min-count.result ≡ min (min c.self.inside.cut (length c.args.into.now)) (length (drop given bytes))
    = c.min-count.ensures ∙ ap (λ (xs : List ℕ). min c.min.result (length xs)) left_is ∙ ap (λ (n : ℕ). min n (length (drop given bytes))) c.min.ensures in
    let front : c.copy_from_slice.new.self ≡ take c.min-count.result (drop given bytes)
    = c.copy_from_slice.ensures.after ∙ ap (take c.min-count.result) left_is in
    rw (← c.self.view_is, ← drop-drop c.min-count.result given bytes) (front_read (drop given bytes) c.args.into.now c.copy_from_slice.new.self c.min-count.result c.self.inside.cut c.self.invariant.1 c.requires count_is front)

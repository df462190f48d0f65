use Rattle.std.proofs.Common.{◌++◌, List, ℕ, sym, ap, ◌∙◌, take, append_assoc}
use Rattle.dbus_signature.specs.declared.kind.Kind.{Kind}
use Rattle.dbus_signature.specs.Types.{all_codes, codes}
use Rattle.dbus_signature.proofs.KindLaws.{all_codes_more}
use Rattle.dbus_signature.proofs.spelling.+spelling.Goals as goal

pub push_all-loop-kind-preserved : goal.push_all-loop-kind-preserved
push_all-loop-kind-preserved t c =
    let before = all_codes (take c.loop-kind.kind-index c.args.kinds.now) in
    let more = all_codes_more c.args.kinds.now c.loop-kind.kind-index c.kind-item.result c.loop-kind-test.true in
    c.in_ok-push_codes.ensures ∙ ap (λ (x : List ℕ). x ++ codes c.kind-item.result) c.loop-kind.invariant
    ∙ append_assoc c.args.out.now.items before (codes c.kind-item.result)
    ∙ ap (λ (x : List ℕ). c.args.out.now.items ++ x) (ap (λ (k : Kind). before ++ codes k) c.kind-item.is ∙ sym more)

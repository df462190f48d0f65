-- One client more has none; in the end all have none.
use Rattle.std.proofs.Common.{◌≡◌, ◌∙◌, ap, arith, ℕ, List, [], ◌∷◌, ◌++◌, Option, None, length}
use Rattle.std.specs.Prelude.{replicate}
use Rattle.fw_firewall.proofs.None.{all_none, as_many, one_more}
use Rattle.fw_firewall.proofs.sessions.Sessions.none.Goals as goal

pub loop-preserved : goal.loop-preserved
loop-preserved c = c.in_ok-push.ensures.items ∙ ap (λ (items : List (Option ℕ)). items ++ None ∷ []) c.loop.invariant ∙ one_more c.loop.counter

pub invariant_of-result : goal.invariant_of-result
invariant_of-result c =
    let count : c.loop.counter ≡ 10000 = omega arith in
    ap length c.loop.invariant ∙ as_many c.loop.counter ∙ count

pub returns : goal.returns
returns c =
    let count : c.loop.counter ≡ 10000 = omega arith in
    c.loop.invariant ∙ all_none c.loop.counter 10000 count

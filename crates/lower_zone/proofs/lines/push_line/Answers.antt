use Rattle.std.proofs.Common.{◌≡◌, ◌∙◌, ◌≤◌, ◌++◌, ◌∷◌, [], ℕ, List, length, sym, ap, subst}
use Rattle.lower_zone.proofs.Apart.{named_own}
use Rattle.std.proofs.lemmas.Result.{on_ok_weaker}
use Rattle.lower_zone.specs.Forms.{each}
use Rattle.lower_zone.proofs.Works.{adds_line, adds_own_line}
use Rattle.lower_zone.proofs.lines.push_line.Goals as goal
use Rattle.nf_rules.specs.declared.rule.Match.{Match}
use Rattle.nf_rules.specs.declared.statement.Stmt.{Stmt}

pub returns-then-count-le-ALONE-clause-adds : goal.returns-then-count-le-ALONE-clause-adds
returns-then-count-le-ALONE-clause-adds c =
    let few : length c.args.alternatives ≤ 1 = subst (λ (list : List (List Match)). length list ≤ 1) c.as_slice-count.ensures c.if-count-le-ALONE.true in
    on_ok_weaker c.push_each.result
    (λ are config condition tells.
    adds_line config condition c.args.alternatives c.args.line _ _ _ few
    (are ∙ ap (λ (stmts : List Stmt). c.args.rules.now ++ each stmts c.args.alternatives) c.in_ok-stmts.ensures) tells)
    c.push_each.ensures

pub returns-clause-adds : goal.returns-clause-adds
returns-clause-adds c =
    on_ok_weaker c.push_own.result
    (λ has config condition tells.
    adds_own_line config c.args.block.now condition c.args.alternatives c.args.line _ _ _ _ _ c.in_ok-own.ensures has tells)
    c.push_own.ensures

pub returns-clause-names : goal.returns-clause-names
returns-clause-names c =
    on_ok_weaker c.push_own.result (λ has parts named. named_own c.args.block.now _ _ _ _ _ parts has named) c.push_own.ensures

use Rattle.std.proofs.Common.{List, sym, subst}
use Rattle.lower_outside.specs.Work.{AreNamed}
use Rattle.lower_outside.proofs.Named.{named_none, names_differ}
use Rattle.lower_outside.proofs.Works.{does_steps}
use Rattle.lower_outside.proofs.block.block_chains.Goals as goal
use Rattle.nf_rules.specs.declared.chain.Chain.{Chain}

pub returns-clause-does : goal.returns-clause-does
returns-clause-does c = λ config items are.
    does_steps config c.args.side c.args.block.now c.in_ok-name.name items _ _ _ _ _ c.new-rules.ensures c.new-chains.ensures
    (c.in_ok-push_all.ensures.adds config items are) c.in_ok-name.ensures c.in_ok-push.ensures.ok

pub returns-clause-names : goal.returns-clause-names
returns-clause-names c =
    names_differ c.args.side c.args.block.now c.in_ok-name.name _ _ _
    (c.in_ok-push_all.ensures.names
    (subst (λ (list : List Chain). AreNamed c.args.side c.args.block.now list) (sym c.new-chains.ensures) (named_none c.args.side c.args.block.now)))
    c.in_ok-name.ensures c.in_ok-push.ensures.ok

use Rattle.std.proofs.Common.{rules, ◌≡◌, [], List, subst, sym}
use Rattle.lower_blocks.specs.Blocks.{AreBlocks}
use Rattle.lower_blocks.specs.Blocks.AreBlocks.{none}
use Rattle.lower_blocks.proofs.blocks.settings_chains.Goals as goal
use Rattle.nf_rules.specs.declared.chain.Chain.{Chain}

pub returns : goal.returns
returns c =
    let config = c.args.runtime.now.config in
    let empty : c.new-chains.result ≡ [] = search rules in
    c.in_ok-push_policies.ensures _
    (c.in_ok-push_zones.ensures [] (subst (λ (chains : List Chain). AreBlocks config [] chains) (sym empty) none))

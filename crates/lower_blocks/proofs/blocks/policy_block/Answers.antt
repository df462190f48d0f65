use Rattle.lower_blocks.proofs.Growing.{all_three}
use Rattle.lower_blocks.proofs.blocks.policy_block.Goals as goal

pub returns : goal.returns
returns c =
    all_three _ _ _ _ c.policy_chains.result
    (λ chains evaluates names stands policy at. record { evaluates = evaluates policy at; names = names policy at; stands = stands policy at })
    c.policy_chains.ensures.evaluates c.policy_chains.ensures.names c.policy_chains.ensures.stands

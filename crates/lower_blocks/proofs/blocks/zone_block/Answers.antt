use Rattle.lower_blocks.proofs.Growing.{all_three}
use Rattle.lower_blocks.proofs.blocks.zone_block.Goals as goal

pub returns : goal.returns
returns c =
    all_three _ _ _ _ c.zone_chains.result
    (λ chains evaluates names stands zone at. record { evaluates = evaluates zone at; names = names zone at; stands = stands zone at })
    c.zone_chains.ensures.evaluates c.zone_chains.ensures.names c.zone_chains.ensures.stands

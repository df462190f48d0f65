use Rattle.std.proofs.Common.{◌≡◌}
use Rattle.std.proofs.lemmas.Result.{on_ok_weaker}
use Rattle.fw_verdict.specs.Rich.{rich_items}
use Rattle.fw_verdict.specs.Walk.{walk}
use Rattle.lower_zone.specs.Names.{place}
use Rattle.lower_zone.specs.Parts.{part_items, plain_items}
use Rattle.lower_zone.proofs.Works.{adds_lists, from_no_rule}
use Rattle.lower_zone.proofs.block.push_part.Goals as goal

pub returns-clause-adds : goal.returns-clause-adds
returns-clause-adds c =
    let config = c.args.config.now in
    let settings = c.args.settings.now in
    let rich = rich_items config c.args.part settings.rich in
    let plain = plain_items config settings c.args.inversion c.args.part in
    on_ok_weaker c.push_chain.result
    (λ stands.
    stands config (walk (part_items config settings c.args.inversion c.args.part)) c.args.chains.now
    (from_no_rule config (walk (part_items config settings c.args.inversion c.args.part)) _ _ _ _ c.new-made.ensures
    (adds_lists config rich plain _ _ _ _ _ _ c.in_ok-push_rich.ensures.adds c.in_ok-push_plain.ensures.adds)))
    c.push_chain.ensures.adds

pub returns-clause-names : goal.returns-clause-names
returns-clause-names c =
    on_ok_weaker c.push_chain.result
    (λ stands named.
    stands c.args.block.now c.args.part c.in_ok-name.ensures
    (c.in_ok-push_plain.ensures.names (place c.args.part) (c.in_ok-push_rich.ensures.names (place c.args.part) named)))
    c.push_chain.ensures.names

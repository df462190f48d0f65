use Rattle.std.proofs.Common.{◌≡◌}
use Rattle.fw_verdict.specs.Items.{items}
use Rattle.fw_verdict.specs.Walk.{walk}
use Rattle.lower_zone.specs.Names.{block_name}
use Rattle.lower_zone.proofs.Apart.{named_none, names_differ}
use Rattle.lower_zone.proofs.Works.{evaluates_from, stands_from}
use Rattle.lower_zone.proofs.block.block_chains.Goals as goal

pub returns-clause-evaluates : goal.returns-clause-evaluates
returns-clause-evaluates c =
    evaluates_from c.args.config.now (block_name c.args.block.now) c.in_ok-name.name (walk (items c.args.config.now c.args.settings.now c.args.inversion)) _ _ _ _ _
    c.new-rules.ensures c.new-chains.ensures c.in_ok-push_parts.ensures.adds c.in_ok-name.ensures c.in_ok-push.ensures.ok

pub returns-clause-names : goal.returns-clause-names
returns-clause-names c =
    names_differ c.args.block.now 5 c.in_ok-name.name _ _ _
    (c.in_ok-push_parts.ensures.names (named_none c.args.block.now _ c.new-chains.ensures)) c.in_ok-name.ensures c.in_ok-push.ensures.ok

pub returns-clause-stands : goal.returns-clause-stands
returns-clause-stands c =
    stands_from c.args.config.now (block_name c.args.block.now) c.in_ok-name.name (walk (items c.args.config.now c.args.settings.now c.args.inversion)) _ _ _ _ _
    c.new-rules.ensures c.new-chains.ensures c.in_ok-push_parts.ensures.adds c.in_ok-name.ensures c.in_ok-push.ensures.ok

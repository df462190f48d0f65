use Rattle.std.proofs.Common.{rules, sym, ◌∙◌}
use Rattle.fw_time_links.specs.Linking.{has_name}
use Rattle.fw_time_links.proofs.Left.{passes}
use Rattle.fw_time_links.proofs.linking.holder_of.Goals as goal

pub returns-clause-has : goal.returns-clause-has
returns-clause-has c =
    passes (has_name c.args.name.now) c.args.zones.now c.in_ok-place.place c.index-zones-place.result (search rules) c.index-zones-place.is

use Rattle.std.proofs.Common.{rules}
use Rattle.fw_model.specs.declared.zone.Zone.{Zone}
use Rattle.fw_root_members.proofs.Slices.{numbers_of}
use Rattle.fw_root_members.proofs.numbering.zone_numbers.Goals as goal

pub returns : goal.returns
returns c =
    numbers_of (λ (zone : Zone). zone.name) c.as_slice.result.now c.args.settings.now.permanent.zones c.as_slice-2.result.now c.args.settings.now.zone_ids
    c.args.settings.now.next_zone c.as_slice-3.result.now c.args.settings.now.runtime.config.zones c.numbered.result
    (search rules) (search rules) (search rules) c.numbered.ensures

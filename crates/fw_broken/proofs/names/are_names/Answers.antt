-- Names are well formed, and differ.
use Rattle.fw_broken.proofs.Settings.{names_not_so, names_so}
use Rattle.fw_broken.proofs.names.are_names.Goals as goal

pub returns-then-all_are_well_formed : goal.returns-then-all_are_well_formed
returns-then-all_are_well_formed g c =
    names_so g.T.Named.name_of c.args.items.now _ _ c.all_are_well_formed.ensures c.if-all_are_well_formed.true c.differ.ensures

pub returns-else-all_are_well_formed : goal.returns-else-all_are_well_formed
returns-else-all_are_well_formed g c =
    names_not_so g.T.Named.name_of c.args.items.now _ c.all_are_well_formed.ensures c.if-all_are_well_formed.false

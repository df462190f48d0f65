use Rattle.fw_time_links.proofs.Left.{left}
use Rattle.fw_time_links.proofs.linking.leave.Goals as goal

pub returns-in-Ok-clause-left : goal.returns-in-Ok-clause-left
returns-in-Ok-clause-left c = λ zone at has. left c.args.zones.now c.unbind.new.zones c.args.place zone c.args.entry.now has (c.in-Ok.ensures.edits zone at)

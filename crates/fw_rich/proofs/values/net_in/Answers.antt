use Rattle.std.proofs.Common.{◌∙◌, sym}
use Rattle.fw_addr.specs.Nets.{net}
use Rattle.fw_addr.specs.declared.error.AddrError.TheVariants.{InvalidAddr}
use Rattle.fw_rich.proofs.Said.{found_by, none_by}
use Rattle.fw_rich.proofs.values.net_in.Goals as goal

pub returns-in-Ok : goal.returns-in-Ok
returns-in-Ok c = found_by (net c.args.text.now) c.in-Ok.found InvalidAddr (sym c.in-Ok.is ∙ c.read_net.ensures)

pub returns-in-Err : goal.returns-in-Err
returns-in-Err c = none_by (net c.args.text.now) c.in-Err.field-0 InvalidAddr (sym c.in-Err.is ∙ c.read_net.ensures)

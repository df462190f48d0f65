use Rattle.fw_addr.proofs.Ipv6Laws.{leaves_longest_out}
use Rattle.fw_addr.proofs.laws.longest_runs_are_shortened.Goals as goal

pub returns : goal.returns
returns c = leaves_longest_out

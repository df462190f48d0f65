use Rattle.fw_daemon.proofs.Beginning.{sound_first}
use Rattle.fw_daemon.proofs.daemon.Daemon.open.Goals as goal

pub invariant_of-result : goal.invariant_of-result
invariant_of-result g c =
    sound_first g.B.Backend.kernel g.K.Keeper.kept g.C.Compiler.makes _ _ _ _ c.in-Ok.ensures.begun c.laws.ensures c.requires.asked c.requires.calls c.faults-backend_faults.ensures c.faults-keeper_faults.ensures

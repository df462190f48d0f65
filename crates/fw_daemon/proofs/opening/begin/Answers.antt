use Rattle.std.proofs.Common.{subst}
use Rattle.fw_daemon.proofs.Beginning.{begun, not_installed}
use Rattle.fw_daemon.proofs.opening.begin.Goals as goal
use Rattle.fw_daemon.specs.Outside.{IsReady}
use Rattle.fw_settings.specs.declared.settings.Settings.{Settings}

pub returns-in-Err-clause-refused : goal.returns-in-Err-clause-refused
returns-in-Err-clause-refused g c =
    not_installed _ _ _ _ _ (g.K.Keeper.kept c.args.keeper.now) (g.K.Keeper.kept c.load.new.keeper) _ _ c.in_ok-stage.ensures.ready c.install.ensures.installed c.in-Err.is c.in-Err.ensures.refused c.load.ensures.loaded.held

pub returns-in-Ok-clause-begun : goal.returns-in-Ok-clause-begun
returns-in-Ok-clause-begun g c =
    begun _ _ _ _ _ _ _ _ _ _ _ _ _ c.load.ensures.loaded c.in_ok-text.ensures.given c.in_ok-first.ensures.holds c.in_ok-history.ensures.first c.in_ok-history.ensures.settings c.in_ok-history.ensures.entries c.in_ok-history.ensures.limit
    (subst (λ (settings : Settings). IsReady (g.C.Compiler.makes c.args.compiler.now) settings.runtime (g.B.Backend.kernel c.args.backend.now) (g.B.Backend.kernel c.stage.new.backend)) c.settings.ensures c.in_ok-stage.ensures.ready)
    c.install.ensures.installed c.in-Ok.is

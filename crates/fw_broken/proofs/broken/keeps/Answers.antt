-- Each rule is what its own function tests.
use Rattle.std.proofs.Common.{subst, sym}
use Rattle.std.specs.Bool.{Decides}
use Rattle.fw_broken.specs.Broken.{Holds}
use Rattle.fw_broken.proofs.broken.keeps.Goals as goal

pub returns-in-Interfaces : goal.returns-in-Interfaces
returns-in-Interfaces c =
    subst (λ rule. Decides c.are_interfaces_in_one_zone.result (Holds c.args.config.now rule)) (sym c.in-Interfaces.is) c.are_interfaces_in_one_zone.ensures

pub returns-in-Sources : goal.returns-in-Sources
returns-in-Sources c =
    subst (λ rule. Decides c.are_sources_in_one_zone.result (Holds c.args.config.now rule)) (sym c.in-Sources.is) c.are_sources_in_one_zone.ensures

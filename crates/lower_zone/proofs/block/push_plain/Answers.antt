use Rattle.std.proofs.Common.{◌≡◌, sym, subst}
use Rattle.std.proofs.lemmas.Result.{on_ok_weaker}
use Rattle.fw_verdict.specs.Walk.{walk}
use Rattle.fw_verdict.specs.declared.rich.Part.{Part}
use Rattle.lower_zone.specs.Parts.{plain_items}
use Rattle.lower_zone.specs.Work.{Adds}
use Rattle.lower_zone.proofs.Works.{adds_nothing}
use Rattle.lower_zone.proofs.block.push_plain.Goals as goal

pub returns-in-Deny-clause-adds : goal.returns-in-Deny-clause-adds
returns-in-Deny-clause-adds c =
    on_ok_weaker c.push_blocks.result
    (λ added.
    subst (λ (stage : Part). Adds c.args.config.now (walk (plain_items c.args.config.now c.args.settings.now c.args.inversion stage)) c.args.rules.now c.push_blocks.new.rules c.args.chains.now c.push_blocks.new.chains)
    (sym c.in-Deny.is) added)
    c.push_blocks.ensures.adds

pub returns-in-Allow-clause-adds : goal.returns-in-Allow-clause-adds
returns-in-Allow-clause-adds c =
    on_ok_weaker c.push_listed.result
    (λ added.
    subst (λ (stage : Part). Adds c.args.config.now (walk (plain_items c.args.config.now c.args.settings.now c.args.inversion stage)) c.args.rules.now c.push_listed.new.rules c.args.chains.now c.args.chains.now)
    (sym c.in-Allow.is) (added c.args.chains.now))
    c.push_listed.ensures

pub returns-in-Pre-clause-adds : goal.returns-in-Pre-clause-adds
returns-in-Pre-clause-adds c =
    subst (λ (stage : Part). Adds c.args.config.now (walk (plain_items c.args.config.now c.args.settings.now c.args.inversion stage)) c.args.rules.now c.args.rules.now c.args.chains.now c.args.chains.now)
    (sym c.in-Pre.is) (adds_nothing c.args.config.now c.args.rules.now c.args.chains.now)

pub returns-in-Log-clause-adds : goal.returns-in-Log-clause-adds
returns-in-Log-clause-adds c =
    subst (λ (stage : Part). Adds c.args.config.now (walk (plain_items c.args.config.now c.args.settings.now c.args.inversion stage)) c.args.rules.now c.args.rules.now c.args.chains.now c.args.chains.now)
    (sym c.in-Log.is) (adds_nothing c.args.config.now c.args.rules.now c.args.chains.now)

pub returns-in-Post-clause-adds : goal.returns-in-Post-clause-adds
returns-in-Post-clause-adds c =
    subst (λ (stage : Part). Adds c.args.config.now (walk (plain_items c.args.config.now c.args.settings.now c.args.inversion stage)) c.args.rules.now c.args.rules.now c.args.chains.now c.args.chains.now)
    (sym c.in-Post.is) (adds_nothing c.args.config.now c.args.rules.now c.args.chains.now)

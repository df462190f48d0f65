use Rattle.std.proofs.Common.{◌≡◌, sym, subst}
use Rattle.std.proofs.lemmas.Result.{on_ok_weaker}
use Rattle.fw_model.specs.declared.setting.Setting.TheVariants as setting
use Rattle.fw_verdict.specs.Rich.{acted, lines, rule_items}
use Rattle.fw_verdict.specs.Walk.{walk}
use Rattle.fw_verdict.specs.declared.rich.Part.{Part}
use Rattle.lower_zone.specs.Work.{Adds}
use Rattle.lower_zone.proofs.Tells.{tells_setting}
use Rattle.lower_zone.proofs.Works.{adds_lists}
use Rattle.lower_zone.proofs.part.push_rule.Goals as goal

pub returns-in-Log-clause-adds : goal.returns-in-Log-clause-adds
returns-in-Log-clause-adds c =
    let config = c.args.config.now in
    let rule = c.args.rule.now in
    on_ok_weaker c.push_lines.result
    (λ adds.
    subst (λ (stage : Part). Adds config (walk (rule_items config stage rule)) c.args.rules.now c.push_lines.new.rules c.args.chains.now c.push_lines.new.chains)
    (sym c.in-Log.is) (adds config (tells_setting config (setting.Rich rule) c.in_ok-alternatives.alternatives c.as_slice.result.now c.as_slice-2.result.now c.as_slice.ensures c.as_slice-2.ensures c.in_ok-alternatives.ensures.tells c.in_ok-alternatives.ensures.stand)))
    c.push_lines.ensures.adds

pub returns-in-Deny-clause-adds : goal.returns-in-Deny-clause-adds
returns-in-Deny-clause-adds c =
    let config = c.args.config.now in
    let rule = c.args.rule.now in
    on_ok_weaker c.push_action.result
    (λ adds.
    subst (λ (stage : Part). Adds config (walk (rule_items config stage rule)) c.args.rules.now c.push_action.new.rules c.args.chains.now c.args.chains.now)
    (sym c.in-Deny.is) (adds config c.args.chains.now (tells_setting config (setting.Rich rule) c.in_ok-alternatives.alternatives c.as_slice.result.now c.as_slice-2.result.now c.as_slice.ensures c.as_slice-2.ensures c.in_ok-alternatives.ensures.tells c.in_ok-alternatives.ensures.stand)))
    c.push_action.ensures

pub returns-in-Allow-clause-adds : goal.returns-in-Allow-clause-adds
returns-in-Allow-clause-adds c =
    let config = c.args.config.now in
    let rule = c.args.rule.now in
    on_ok_weaker c.push_action-in-Allow.result
    (λ adds.
    subst (λ (stage : Part). Adds config (walk (rule_items config stage rule)) c.args.rules.now c.push_action-in-Allow.new.rules c.args.chains.now c.args.chains.now)
    (sym c.in-Allow.is) (adds config c.args.chains.now (tells_setting config (setting.Rich rule) c.in_ok-alternatives.alternatives c.as_slice.result.now c.as_slice-2.result.now c.as_slice.ensures c.as_slice-2.ensures c.in_ok-alternatives.ensures.tells c.in_ok-alternatives.ensures.stand)))
    c.push_action-in-Allow.ensures

pub returns-in_ok-push_lines-in-Pre-clause-adds : goal.returns-in_ok-push_lines-in-Pre-clause-adds
returns-in_ok-push_lines-in-Pre-clause-adds c =
    let config = c.args.config.now in
    let rule = c.args.rule.now in
    let tells = tells_setting config (setting.Rich rule) c.in_ok-alternatives.alternatives c.as_slice.result.now c.as_slice-2.result.now c.as_slice.ensures c.as_slice-2.ensures c.in_ok-alternatives.ensures.tells c.in_ok-alternatives.ensures.stand in
    on_ok_weaker c.push_action-in-Pre.result
    (λ adds.
    subst (λ (stage : Part). Adds config (walk (rule_items config stage rule)) c.args.rules.now c.push_action-in-Pre.new.rules c.args.chains.now c.push_lines-in-Pre.new.chains)
    (sym c.in-Pre.is)
    (adds_lists config (lines config rule) (acted config rule rule.action) _ _ _ _ _ _ (c.in_ok-push_lines-in-Pre.ensures.adds config tells) (adds config _ tells)))
    c.push_action-in-Pre.ensures

pub returns-in_ok-push_lines-in-Post-clause-adds : goal.returns-in_ok-push_lines-in-Post-clause-adds
returns-in_ok-push_lines-in-Post-clause-adds c =
    let config = c.args.config.now in
    let rule = c.args.rule.now in
    let tells = tells_setting config (setting.Rich rule) c.in_ok-alternatives.alternatives c.as_slice.result.now c.as_slice-2.result.now c.as_slice.ensures c.as_slice-2.ensures c.in_ok-alternatives.ensures.tells c.in_ok-alternatives.ensures.stand in
    on_ok_weaker c.push_action-in-Post.result
    (λ adds.
    subst (λ (stage : Part). Adds config (walk (rule_items config stage rule)) c.args.rules.now c.push_action-in-Post.new.rules c.args.chains.now c.push_lines-in-Post.new.chains)
    (sym c.in-Post.is)
    (adds_lists config (lines config rule) (acted config rule rule.action) _ _ _ _ _ _ (c.in_ok-push_lines-in-Post.ensures.adds config tells) (adds config _ tells)))
    c.push_action-in-Post.ensures

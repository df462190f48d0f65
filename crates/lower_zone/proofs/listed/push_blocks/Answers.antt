use Rattle.std.proofs.Common.{◌≡◌, ◌∙◌, List, Bool, map, sym, ap, refl, subst}
use Rattle.lower_zone.proofs.Apart.{named_own}
use Rattle.std.proofs.lemmas.Result.{on_ok_weaker}
use Rattle.fw_addr.specs.declared.reject.RejectType.TheVariants.{IcmpxAdminProhibited}
use Rattle.fw_model.specs.declared.outcome.Verdict.TheVariants.{Reject}
use Rattle.fw_model.specs.declared.setting.Setting.TheVariants as setting
use Rattle.fw_verdict.specs.Items.{icmp_denied}
use Rattle.fw_verdict.specs.Walk.{Item, walk}
use Rattle.lower_zone.specs.Verdicts.{decided_by}
use Rattle.lower_zone.specs.Work.{Adds}
use Rattle.lower_zone.proofs.Items.{adds_others, twice}
use Rattle.lower_zone.proofs.listed.push_blocks.Goals as goal

pub returns-then-inversion-clause-adds : goal.returns-then-inversion-clause-adds
returns-then-inversion-clause-adds c =
    let config = c.args.config.now in
    on_ok_weaker c.push_own.result
    (λ has.
    subst (λ (turned : Bool). Adds config (walk (icmp_denied config c.args.listed.now turned)) c.args.rules.now c.push_own.new.rules c.args.chains.now c.push_own.new.chains) (sym c.if-inversion.true)
    (adds_others config c.args.block.now c.args.listed.now.icmp_blocks _ _ _ _ _ _ _
    (c.as_slice-then-inversion.ensures ∙ c.in_ok-blocks.ensures ∙ ap (map setting.IcmpBlock) c.as_slice.ensures)
    c.in_ok-matches.ensures c.in_ok-own.ensures has))
    c.push_own.ensures

pub returns-clause-adds : goal.returns-clause-adds
returns-clause-adds c =
    let config = c.args.config.now in
    let reject = decided_by config (Reject IcmpxAdminProhibited) in
    on_ok_weaker c.push_settings.result
    (λ added.
    subst (λ (turned : Bool). Adds config (walk (icmp_denied config c.args.listed.now turned)) c.args.rules.now c.push_settings.new.rules c.args.chains.now c.args.chains.now) (sym c.if-inversion.false)
    (subst (λ (list : List Item). Adds config (walk list) c.args.rules.now c.push_settings.new.rules c.args.chains.now c.args.chains.now)
    (ap (map reject) (c.as_slice-else-inversion.ensures ∙ c.in_ok-blocks.ensures ∙ ap (map setting.IcmpBlock) c.as_slice.ensures)
    ∙ twice reject setting.IcmpBlock c.args.listed.now.icmp_blocks)
    (added c.args.chains.now (λ packet. refl))))
    c.push_settings.ensures

pub returns-then-inversion-clause-names : goal.returns-then-inversion-clause-names
returns-then-inversion-clause-names c =
    on_ok_weaker c.push_own.result (λ has parts named. named_own c.args.block.now _ _ _ _ _ parts has named) c.push_own.ensures

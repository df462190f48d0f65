use Rattle.std.proofs.Common.{◌≡◌, ◌∙◌, ◌&&◌, Bool, true, false, sym, subst}
use Rattle.std.proofs.lemmas.Result.{on_ok_weaker}
use Rattle.fw_addr.specs.declared.reject.RejectType.TheVariants.{IcmpxAdminProhibited}
use Rattle.fw_hits.specs.Rich.{hits_rich}
use Rattle.fw_model.specs.declared.outcome.Verdict.TheVariants.{Reject}
use Rattle.fw_verdict.specs.Rich.{blocked}
use Rattle.fw_verdict.specs.Walk.{walk}
use Rattle.fw_verdict.specs.Walk.Effect.{decide}
use Rattle.lower_zone.specs.Work.{Adds}
use Rattle.lower_zone.proofs.Items.{adds_item, and_true}
use Rattle.lower_zone.proofs.Works.{adds_decision, adds_nothing}
use Rattle.lower_zone.proofs.part.push_element.Goals as goal

pub returns-then-blocks_icmp : goal.returns-then-blocks_icmp
returns-then-blocks_icmp c =
    on_ok_weaker c.push_decision.result
    (λ are config rule chains tells.
    subst (λ (blocks : Bool). Adds config (walk (blocked config rule blocks)) c.args.rules.now c.push_decision.new.rules chains chains)
    (sym (sym c.blocks_icmp.ensures ∙ c.if-blocks_icmp.true))
    (adds_item config (record { hits = hits_rich config rule; effect = decide (Reject IcmpxAdminProhibited) }) (λ packet. hits_rich config rule packet && true) _ _ _ _ (λ packet. and_true (hits_rich config rule packet))
    (adds_decision config (hits_rich config rule) _ (Reject IcmpxAdminProhibited) _ _ chains are tells)))
    c.push_decision.ensures

pub returns-else-blocks_icmp : goal.returns-else-blocks_icmp
returns-else-blocks_icmp c = λ config rule chains tells.
    subst (λ (blocks : Bool). Adds config (walk (blocked config rule blocks)) c.args.rules.now c.args.rules.now chains chains)
    (sym (sym c.blocks_icmp.ensures ∙ c.if-blocks_icmp.false)) (adds_nothing config c.args.rules.now chains)

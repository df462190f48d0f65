-- The call on the ipset that was found.
use Rattle.std.proofs.Common.{◌≡◌, Some, Result, Ok, ap, sym, ◌∙◌}
use Rattle.std.proofs.lemmas.Option.{same_Some}
use Rattle.fw_calls.specs.declared.reply.Refusal.{Refusal}
use Rattle.fw_ipset_members.proofs.InSet.{set_acts, set_kept}
use Rattle.fw_ipset_members.specs.Entries.{entry_call}
use Rattle.fw_ipset_members.specs.Members.{look_up}
use Rattle.fw_ipset_members.specs.Sets.{Found}
use Rattle.fw_model.specs.declared.ipset.IpSet.{IpSet}
use Rattle.fw_ipset_members.proofs.member.entry_in.Goals as goal

pub returns-clause-acts : goal.returns-clause-acts
returns-clause-acts c =
    let found : Found = record { place = c.in_ok-found.found.place; set = c.get_mut.result.now } in
    let same : c.in_ok-found.found.set.now ≡ c.get_mut.result.now = same_Some c.in_ok-found.found.set.now c.get_mut.result.now (sym c.in_ok-found.ensures.at ∙ c.get_mut.ensures.value) in
    let looked_up : look_up c.args.settings.now.runtime.config c.args.name.now ≡ Ok found =
    c.in_ok-found.ensures.found ∙ ap (λ (set : IpSet). let one : Found = record { place = c.in_ok-found.found.place; set = set } in Ok one) same in
    set_acts c.args.settings.now c.args.name.now (entry_call c.args.verb c.args.text.now) found c.entry_call.new.set c.entry_call.result looked_up c.entry_call.ensures.acts

pub returns-clause-err : goal.returns-clause-err
returns-clause-err c =
    let found : Found = record { place = c.in_ok-found.found.place; set = c.get_mut.result.now } in
    set_kept c.args.settings.now found c.entry_call.new.set c.entry_call.result c.get_mut.ensures.value c.entry_call.ensures.err

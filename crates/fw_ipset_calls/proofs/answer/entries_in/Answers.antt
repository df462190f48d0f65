-- The call on the ipset that was found.
use Rattle.std.proofs.Common.{◌≡◌, Some, Result, Ok, ap, sym, ◌∙◌}
use Rattle.std.proofs.lemmas.Option.{same_Some}
use Rattle.fw_answer.specs.declared.refusal.Refusal.{Refusal}
use Rattle.fw_ipset_calls.proofs.InSet.{set_answers}
use Rattle.fw_ipset_calls.specs.Calls.{look_up}
use Rattle.fw_ipset_calls.specs.Entries.{entries_call}
use Rattle.fw_ipset_calls.specs.Sets.{Found}
use Rattle.fw_model.specs.declared.ipset.IpSet.{IpSet}
use Rattle.fw_ipset_calls.proofs.answer.entries_in.Goals as goal

pub returns : goal.returns
returns c =
    let found : Found = record { place = c.in_ok-found.found.place; set = c.get_mut.result.now } in
    let same : c.in_ok-found.found.set.now ≡ c.get_mut.result.now = same_Some c.in_ok-found.found.set.now c.get_mut.result.now (sym c.in_ok-found.ensures.at ∙ c.get_mut.ensures.value) in
    let looked_up : look_up c.args.config.now c.args.name.now ≡ Ok found =
    c.in_ok-found.ensures.found ∙ ap (λ (set : IpSet). let one : Found = record { place = c.in_ok-found.found.place; set = set } in Ok one) same in
    set_answers c.args.config.now c.args.name.now (λ (set : IpSet). entries_call set c.args.call.now) found c.entries_call.new.set c.entries_call.result looked_up c.get_mut.ensures.value c.entries_call.ensures

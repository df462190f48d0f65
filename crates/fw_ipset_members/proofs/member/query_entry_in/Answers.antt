-- The ipset that was found has the entry, or not.
use Rattle.std.proofs.Common.{◌≡◌, Result, Ok, ap, sym, ◌∙◌}
use Rattle.fw_act.specs.Acts.{result_and_then}
use Rattle.fw_calls.specs.declared.member.Verb.TheVariants as verbs
use Rattle.fw_calls.specs.declared.reply.Refusal.{Refusal}
use Rattle.fw_ipset_members.proofs.InSet.{set_asked}
use Rattle.fw_ipset_members.specs.Entries.{entry_answered, entry_call}
use Rattle.fw_ipset_members.specs.Sets.{Found}
use Rattle.fw_model.specs.declared.ipset.IpSet.{IpSet}
use Rattle.fw_model.specs.declared.ipset.Item.{Item}
use Rattle.fw_ipset_members.proofs.member.query_entry_in.Goals as goal

pub returns : goal.returns
returns c =
    let set : IpSet = c.in_ok-found.found.set.now in
    let found : Found = record { place = c.in_ok-found.found.place; set = set } in
    set_asked c.args.settings.now c.args.name.now (entry_call verbs.Query c.args.text.now) found c.query_entry.result c.in_ok-found.ensures.found c.in_ok-found.ensures.at
    (ap (λ (read : Result Item Refusal). result_and_then (entry_answered set verbs.Query) read) c.in_ok-item.ensures.read ∙ sym c.query_entry.ensures)

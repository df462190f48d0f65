-- What was read of the entry, or its refusal.
use Rattle.std.proofs.Common.{ℕ, List, Result, Err, ◌∙◌, ap, sym}
use Rattle.fw_act.specs.Acts.{refused}
use Rattle.fw_ipset.specs.Entries.{entry}
use Rattle.fw_ipset.specs.declared.error.SetError.{SetError}
use Rattle.fw_ipset_members.proofs.Reading.{wanted_ok, wanted_invalid, wanted_timeout}
use Rattle.fw_ipset_members.specs.Items.{item_of}
use Rattle.fw_model.specs.declared.code.Code.TheVariants as code
use Rattle.fw_model.specs.declared.ipset.Item.{Item}
use Rattle.fw_ipset_members.proofs.items.read_entry.Goals as goal

abbrev refusal : SetError → Result Item SetError
refusal error = Err error

pub returns-in-Ok-clause-read : goal.returns-in-Ok-clause-read
unfolding item_of
returns-in-Ok-clause-read c =
    let set = c.args.set.now in wanted_ok set.timeout set.name c.args.text.now (entry set c.args.text.now) c.in-Ok.item c.in-Ok.ensures

pub returns-in_ok-refuse-in-Err-IpsetWithTimeout-clause-read : goal.returns-in_ok-refuse-in-Err-IpsetWithTimeout-clause-read
unfolding item_of
returns-in_ok-refuse-in-Err-IpsetWithTimeout-clause-read c =
    let set = c.args.set.now in
    wanted_timeout set.timeout set.name c.args.text.now (entry set c.args.text.now)
    (ap refusal (sym c.in-Err-IpsetWithTimeout.field-0-is) ∙ c.in-Err-IpsetWithTimeout.ensures)
    ∙ ap (λ (name : List ℕ). refused {X = Item} code.IpsetWithTimeout name) (sym c.as_str-name.ensures) ∙ ap Err (sym c.in_ok-refuse-in-Err-IpsetWithTimeout.ensures)

pub returns-in_ok-refuse-in-Err-InvalidEntry-clause-read : goal.returns-in_ok-refuse-in-Err-InvalidEntry-clause-read
unfolding item_of
returns-in_ok-refuse-in-Err-InvalidEntry-clause-read c =
    let set = c.args.set.now in
    wanted_invalid set.timeout set.name c.args.text.now (entry set c.args.text.now)
    (ap refusal (sym c.in-Err-InvalidEntry.field-0-is) ∙ c.in-Err-InvalidEntry.ensures)
    ∙ ap Err (sym c.in_ok-refuse-in-Err-InvalidEntry.ensures)

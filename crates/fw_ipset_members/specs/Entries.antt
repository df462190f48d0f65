-- Members on the entries of one ipset (firewalld.dbus(5), `addEntry`, `removeEntry`, `queryEntry` and `setEntries`; the signals of
-- `setEntries` are this project's own).
use Rattle.std.specs.Prelude.{ℕ, if◌then◌else◌, List, [], ◌∷◌, ◌++◌, map, Result, Ok}
use Rattle.fw_act.specs.Acts.{Answered, ◌>>=◌, changed, refused, refused_as, replied, result_and_then}
use Rattle.fw_calls.specs.declared.member.Verb.{Verb}
use Rattle.fw_calls.specs.declared.member.Verb.TheVariants as verb
use Rattle.fw_calls.specs.declared.reply.Refusal.{Refusal}
use Rattle.fw_calls.specs.declared.reply.Reply.TheVariants as reply
use Rattle.fw_calls.specs.declared.signal.Arg.TheVariants as arg
use Rattle.fw_calls.specs.declared.signal.Signal.{Signal}
use Rattle.fw_calls.specs.declared.signal_kind.SignalKind.{SignalKind}
use Rattle.fw_calls.specs.declared.signal_kind.SignalKind.TheVariants as signal
use Rattle.fw_ipset.specs.Entries.{with_items}
use Rattle.fw_model.specs.declared.code.Code.TheVariants as code
use Rattle.fw_model.specs.declared.ipset.IpSet.{IpSet}
use Rattle.fw_model.specs.declared.ipset.Item.{Item}
use Rattle.fw_ipset_members.specs.Items.{added, each_once, holds, item_of, item_text, items_of, none_of, removed}

-- a signal of an ipset and an entry
abbrev pub entry_signal : SignalKind → (name : List ℕ) → Item → Signal
entry_signal kind name item = record { kind = kind; args = arg.Text name ∷ arg.Text (item_text item) ∷ [] }

abbrev pub entry_answered : IpSet → Verb → Item → Result (Answered IpSet) Refusal
entry_answered set verb.Add item = do
  after ← refused_as (item_text item) (added set item)
  Ok (changed (entry_signal signal.IpsetEntryAdded set.name item) reply.None after)
entry_answered set verb.Remove item = do
  after ← refused_as (item_text item) (removed set item)
  Ok (changed (entry_signal signal.IpsetEntryRemoved set.name item) reply.None after)
entry_answered set verb.Query item = Ok (replied set (reply.Bool (holds set item)))

-- `addEntry(ipset, entry)`, `removeEntry(ipset, entry)`, `queryEntry(ipset, entry)`
abbrev pub entry_call : Verb → (text : List ℕ) → IpSet → Result (Answered IpSet) Refusal
entry_call verb text set = do
  item ← item_of set text
  entry_answered set verb item

-- signals of the entries that go, in their old order, and then of those that are new, in their new order
abbrev pub set_signals : IpSet → List Item → List Signal
set_signals set items =
    map (entry_signal signal.IpsetEntryRemoved set.name) (none_of items set.items)
    ++ map (entry_signal signal.IpsetEntryAdded set.name) (each_once (none_of set.items items))

-- `setEntries(ipset, entries)`: other entries in place of all; one that is repeated is kept once
abbrev pub set_entries : (texts : List (List ℕ)) → IpSet → Result (Answered IpSet) Refusal
set_entries texts set =
    if set.timeout then refused code.IpsetWithTimeout set.name
    else result_and_then (λ items. Ok (record {
      signals = set_signals set items;
      reply = reply.None;
      after = with_items set (each_once items);
    })) (items_of set texts)

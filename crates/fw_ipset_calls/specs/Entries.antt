-- Calls on the entries of an ipset (firewalld.dbus(5), `addEntry`, `removeEntry`, `queryEntry`, `getEntries` and `setEntries`; the
-- refusals of `getEntries` and the signals of `setEntries` are this project's own).
use Rattle.std.specs.Prelude.{ℕ, if◌then◌else◌, List, [], ◌∷◌, ◌++◌, map, Result, Ok, Err}
use Rattle.fw_answer.specs.Refusals.{Answered, ◌>>=◌, refused, refused_as, result_and_then, with_value}
use Rattle.fw_answer.specs.declared.refusal.Refusal.{Refusal}
use Rattle.fw_call.specs.declared.call.EntriesCall.{EntriesCall}
use Rattle.fw_call.specs.declared.call.EntriesCall.TheVariants as call
use Rattle.fw_call.specs.declared.member.Verb.{Verb}
use Rattle.fw_call.specs.declared.member.Verb.TheVariants as verb
use Rattle.fw_ipset.specs.Entries.{with_items}
use Rattle.fw_ipset_calls.specs.Items.{added, each_once, holds, item_of, item_text, items_of, none_of, removed}
use Rattle.fw_model.specs.declared.code.Code.TheVariants as code
use Rattle.fw_model.specs.declared.ipset.IpSet.{IpSet}
use Rattle.fw_model.specs.declared.ipset.Item.{Item}
use Rattle.fw_told.specs.declared.told.Reply.TheVariants as reply
use Rattle.fw_told.specs.declared.told.Signal.{Signal}
use Rattle.fw_told.specs.declared.told.SignalKind.{SignalKind}
use Rattle.fw_told.specs.declared.told.SignalKind.TheVariants as signal
use Rattle.fw_told.specs.declared.told.Value.TheVariants as value

-- a signal of an ipset and an entry
abbrev pub entry_signal : SignalKind → (name : List ℕ) → Item → Signal
entry_signal kind name item = record { kind = kind; values = value.Text name ∷ value.Text (item_text item) ∷ [] }

-- signals, an empty reply, and the set afterwards
abbrev pub changed : List Signal → IpSet → Answered IpSet
changed signals set = record { signals = signals; reply = reply.Ok []; after = set }

-- a call that adds, removes or asks for an entry
abbrev pub entry_answered : IpSet → Verb → Item → Result (Answered IpSet) Refusal
entry_answered set verb.Add item = do
  after ← refused_as (item_text item) (added set item)
  Ok (changed (entry_signal signal.IpsetEntryAdded set.name item ∷ []) after)
entry_answered set verb.Remove item = do
  after ← refused_as (item_text item) (removed set item)
  Ok (changed (entry_signal signal.IpsetEntryRemoved set.name item ∷ []) after)
entry_answered set verb.Query item = Ok (with_value set (value.Bool (holds set item)))

abbrev pub entry_call : IpSet → Verb → (text : List ℕ) → Result (Answered IpSet) Refusal
entry_call set verb text = do
  item ← item_of set text
  entry_answered set verb item

-- signals of the entries that go, in their old order, and then of those that are new, in their new order
abbrev pub set_signals : IpSet → List Item → List Signal
set_signals set items =
    map (entry_signal signal.IpsetEntryRemoved set.name) (none_of items set.items)
    ++ map (entry_signal signal.IpsetEntryAdded set.name) (each_once (none_of set.items items))

-- other entries in place of all; one that is repeated is kept once
abbrev pub set_entries : IpSet → (texts : List (List ℕ)) → Result (Answered IpSet) Refusal
set_entries set texts =
    if set.timeout then refused code.IpsetWithTimeout set.name
    else result_and_then (λ items. Ok (changed (set_signals set items) (with_items set (each_once items)))) (items_of set texts)

abbrev pub entries_call : IpSet → EntriesCall → Result (Answered IpSet) Refusal
entries_call set (call.One verb text) = entry_call set verb text
entries_call set call.List = Ok (with_value set (value.Texts (map item_text set.items)))
entries_call set (call.Replace texts) = set_entries set texts

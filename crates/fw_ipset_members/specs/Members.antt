-- Members on ipsets (firewalld.dbus(5), interface `org.fedoraproject.FirewallD1.ipset`; the refusals of `getEntries` are this project's
-- own).
use Rattle.std.specs.Prelude.{ℕ, Bool, true, false, List, map, Result, Ok, slice_set}
use Rattle.fw_act.specs.Acts.{Answered, ◌>>=◌, found_or, replied}
use Rattle.fw_calls.specs.declared.call.IpsetCall.{IpsetCall}
use Rattle.fw_calls.specs.declared.call.IpsetCall.TheVariants as call
use Rattle.fw_calls.specs.declared.member.Verb.{Verb}
use Rattle.fw_calls.specs.declared.member.Verb.TheVariants as verb
use Rattle.fw_calls.specs.declared.reply.Refusal.{Refusal}
use Rattle.fw_calls.specs.declared.reply.Reply.TheVariants as reply
use Rattle.fw_model.specs.declared.code.Code.TheVariants as code
use Rattle.fw_model.specs.declared.config.Config.{Config}
use Rattle.fw_model.specs.declared.ipset.IpSet.{IpSet}
use Rattle.fw_settings.specs.Parts.{with_ipsets}
use Rattle.fw_settings.specs.declared.settings.Settings.{Settings}
use Rattle.fw_ipset_members.specs.Entries.{entry_call, set_entries}
use Rattle.fw_ipset_members.specs.Items.{item_text}
use Rattle.fw_ipset_members.specs.Sets.{Found, is_known, set_named}

-- the ipset that a call names, or its refusal
unfoldable pub look_up : Config → (name : List ℕ) → Result Found Refusal
look_up config name = found_or code.InvalidIpset name (set_named config.ipsets name)

-- a call on one ipset
unfoldable pub in_set : Settings → (name : List ℕ) → (IpSet → Result (Answered IpSet) Refusal) → Result (Answered Settings) Refusal
in_set settings name act = do
  found ← look_up settings.runtime.config name
  answered ← act found.set
  Ok (record {
    signals = answered.signals;
    reply = answered.reply;
    after = with_ipsets settings (slice_set settings.runtime.config.ipsets found.place answered.after);
  })

-- each member: `getIPSets()`, `queryIPSet(ipset)`, those on one entry, `getEntries(ipset)`, `setEntries(ipset, entries)`
unfoldable pub ipset_member : Settings → IpsetCall → Result (Answered Settings) Refusal
ipset_member settings call.Ipsets = Ok (replied settings (reply.Texts (map (λ set. set.name) settings.runtime.config.ipsets)))
ipset_member settings (call.HasIpset name) = Ok (replied settings (reply.Bool (is_known settings.runtime.config.ipsets name)))
ipset_member settings (call.Entry verb name text) = in_set settings name (entry_call verb text)
ipset_member settings (call.Entries name) = do
  found ← look_up settings.runtime.config name
  Ok (replied settings (reply.Texts (map item_text found.set.items)))
ipset_member settings (call.SetEntries name texts) = in_set settings name (set_entries texts)

-- whether a call only asks
abbrev pub is_query : Verb → Bool
is_query verb.Add = false
is_query verb.Remove = false
is_query verb.Query = true

unfoldable pub asks : IpsetCall → Bool
asks call.Ipsets = true
asks (call.HasIpset name) = true
asks (call.Entry verb name text) = is_query verb
asks (call.Entries name) = true
asks (call.SetEntries name texts) = false

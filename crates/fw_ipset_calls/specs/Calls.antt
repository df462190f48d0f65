-- What each call on ipsets answers, and the configuration afterwards (firewalld.dbus(5), the interface
-- `org.fedoraproject.FirewallD1.ipset`).
use Rattle.std.specs.Prelude.{ℕ, List, map, Option, None, Some, Result, Ok, slice_set}
use Rattle.fw_answer.specs.Refusals.{Answered, ◌>>=◌, refused, replied, result_and_then, with_value}
use Rattle.fw_answer.specs.declared.refusal.Refusal.{Refusal}
use Rattle.fw_call.specs.declared.call.IpsetCall.{IpsetCall}
use Rattle.fw_call.specs.declared.call.IpsetCall.TheVariants as call
use Rattle.fw_ipset_calls.specs.Entries.{entries_call}
use Rattle.fw_ipset_calls.specs.Sets.{Found, is_known, set_named}
use Rattle.fw_model.specs.declared.code.Code.TheVariants as code
use Rattle.fw_model.specs.declared.config.Config.{Config}
use Rattle.fw_model.specs.declared.ipset.IpSet.{IpSet}
use Rattle.fw_told.specs.declared.told.Value.TheVariants as value

abbrev pub found_or_refused : (name : List ℕ) → Option Found → Result Found Refusal
found_or_refused name None = refused code.InvalidIpset name
found_or_refused name (Some found) = Ok found

-- the ipset that a call names, or its refusal
abbrev pub look_up : Config → (name : List ℕ) → Result Found Refusal
look_up config name = found_or_refused name (set_named config.ipsets name)

-- a call on one ipset
abbrev pub in_set : Config → (name : List ℕ) → (IpSet → Result (Answered IpSet) Refusal) → Result (Answered Config) Refusal
in_set config name act = do
  found ← look_up config name
  answered ← act found.set
  Ok (record {
    signals = answered.signals;
    reply = answered.reply;
    after = record config { ipsets = slice_set config.ipsets found.place answered.after };
  })

unfoldable pub call_answered : Config → IpsetCall → Result (Answered Config) Refusal
call_answered config call.Ipsets = Ok (with_value config (value.Texts (map (λ set. set.name) config.ipsets)))
call_answered config (call.HasIpset name) = Ok (with_value config (value.Bool (is_known config.ipsets name)))
call_answered config (call.OnEntries name entries) = in_set config name (λ set. entries_call set entries)

-- what a call answers, and the configuration afterwards
abbrev pub answered : Config → IpsetCall → Answered Config
answered config call = replied config (call_answered config call)

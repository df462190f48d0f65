-- The arguments of calls on ipsets (firewalld.dbus(5), the interface `org.fedoraproject.FirewallD1.ipset`). A list of texts is
-- one word, in JSON.
use Rattle.std.specs.Prelude.{ℕ, codes, List, [], ◌∷◌, Option, None, Some}
use Rattle.fw_json.specs.Texts.{json_texts}
use Rattle.fw_text.specs.Steps.{◌>>=◌}
use Rattle.fw_words.specs.Reading.{at_end, next}
use Rattle.fw_call.specs.declared.call.Call.TheVariants as calls
use Rattle.fw_call.specs.declared.call.EntriesCall.TheVariants as entries
use Rattle.fw_call.specs.declared.call.IpsetCall.{IpsetCall}
use Rattle.fw_call.specs.declared.call.IpsetCall.TheVariants as call
use Rattle.fw_call.specs.declared.call.Request.{Request}
use Rattle.fw_call.specs.declared.call.Request.TheVariants as request
use Rattle.fw_call.specs.declared.member.Verb.{Verb}

abbrev pub has_ipset_call : List (List ℕ) → Option IpsetCall
has_ipset_call words = do
  ipset ← next words
  at_end (call.HasIpset ipset.0) ipset.1

abbrev pub entry_call : Verb → List (List ℕ) → Option IpsetCall
entry_call verb words = do
  ipset ← next words
  entry ← next ipset.1
  at_end (call.OnEntries ipset.0 (entries.One verb entry.0)) entry.1

abbrev pub entries_call : List (List ℕ) → Option IpsetCall
entries_call words = do
  ipset ← next words
  at_end (call.OnEntries ipset.0 entries.List) ipset.1

-- the entries that a JSON text says; one that says no list of texts isn't of the argument's type
abbrev pub with_entries : (ipset : List ℕ) → Option (List (List ℕ)) → Request
with_entries ipset None = request.Unfit (codes "sas")
with_entries ipset (Some texts) = request.Call (calls.Ipset (call.OnEntries ipset (entries.Replace texts)))

unfoldable pub set_entries_request : List (List ℕ) → Option Request
set_entries_request words = do
  ipset ← next words
  json ← next ipset.1
  at_end (with_entries ipset.0 (json_texts json.0)) json.1

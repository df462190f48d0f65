-- Interfaces and sources as a zone's dict lists them (firewalld.dbus(5), `getZoneSettings2`). An element is read as the arguments of
-- `addInterface` and `addSource` are; one that another zone has is refused.
use Rattle.std.specs.Prelude.{ℕ, Bool, not, if◌then◌else◌, codes, List, [], ◌∷◌, Option, None, Some, Result, Ok}
use Rattle.std.specs.List.{list_any}
use Rattle.fw_act.specs.Acts.{◌>>=◌, required}
use Rattle.fw_calls.specs.declared.member.BindingKind.{BindingKind}
use Rattle.fw_calls.specs.declared.member.BindingKind.TheVariants as kind
use Rattle.fw_calls.specs.declared.reply.Refusal.{Refusal}
use Rattle.fw_dicts.specs.Keys.{Fields}
use Rattle.fw_dicts.specs.Values.{texts_at}
use Rattle.fw_model.specs.declared.code.Code.TheVariants as code
use Rattle.fw_model.specs.declared.ipset.IpSet.{IpSet}
use Rattle.fw_model.specs.declared.zone.Zone.{Zone}
use Rattle.fw_zone_edits.specs.Entries.{lists, with_entry}
use Rattle.fw_zone_edits.specs.declared.entry.Entry.{Entry}
use Rattle.fw_zone_members.specs.Reading.{entry_from}

-- the entry that a text says, unless another zone lists it; or its refusal
unfoldable pub entry_told : List IpSet → (others : List Zone) → BindingKind → (text : List ℕ) → Result Entry Refusal
entry_told ipsets others kind text = do
  entry ← entry_from ipsets kind text
  free ← required (not (list_any (lists entry) others)) code.ZoneConflict text
  Ok entry

-- an entry more, unless it is there
unfoldable pub with_new : Zone → Entry → Zone
with_new zone entry = if lists entry zone then zone else with_entry zone entry

-- the entries that texts say come one after another; or the first refusal
abbrev pub with_all : List IpSet → (others : List Zone) → BindingKind → Zone → List (List ℕ) → Result Zone Refusal
with_all ipsets others kind zone [] = Ok zone
with_all ipsets others kind zone (text ∷ texts) = do
  entry ← entry_told ipsets others kind text
  with_all ipsets others kind (with_new zone entry) texts

-- a zone without its interfaces, or without its sources
abbrev pub without_entries : BindingKind → Zone → Zone
without_entries kind.Interface zone = record zone { interfaces = [] }
without_entries kind.Source zone = record zone { sources = [] }

abbrev pub entry_key : BindingKind → List ℕ
entry_key kind.Interface = codes "interfaces"
entry_key kind.Source = codes "sources"

-- other entries of a kind; where their key is absent, they stay
abbrev pub entries_in : List IpSet → (others : List Zone) → BindingKind → Zone → Option (List (List ℕ)) → Result Zone Refusal
entries_in ipsets others kind zone None = Ok zone
entries_in ipsets others kind zone (Some texts) = with_all ipsets others kind (without_entries kind zone) texts

unfoldable pub entries_told : List IpSet → (others : List Zone) → Fields → BindingKind → Zone → Result Zone Refusal
entries_told ipsets others fields kind zone = entries_in ipsets others kind zone (texts_at fields (entry_key kind))

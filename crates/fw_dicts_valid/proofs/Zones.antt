-- The zone that a dict makes fits.
use Rattle.std.proofs.Common.{◌≡◌, ◌∙◌, ℕ, Bool, true, false, not, List, [], ◌∷◌, Option, None, Some, Ok, refl, sym, ap, subst, if◌then◌else◌, codes}
use Rattle.std.proofs.lemmas.Bool.{not-true, or_parts}
use Rattle.std.specs.List.{list_any}
use Rattle.std.specs.Str.{bytes_eq}
use Rattle.fw_act.specs.Acts.{refused, required}
use Rattle.fw_addr.specs.Hardware.{mac}
use Rattle.fw_addr.specs.Interfaces.{interface}
use Rattle.fw_addr.specs.Nets.{net}
use Rattle.fw_addr.specs.Subnets.{Subnet}
use Rattle.fw_addr.specs.WellFormed.{is_name}
use Rattle.fw_answer.proofs.Equality as equality
use Rattle.fw_answer.specs.Equal.{same_source}
use Rattle.fw_calls.specs.declared.dict.Dict.{Dict}
use Rattle.fw_calls.specs.declared.member.BindingKind.{BindingKind}
use Rattle.fw_calls.specs.declared.member.BindingKind.TheVariants as kind
use Rattle.fw_dicts.specs.Bindings.{entries_in, entries_told, entry_key, entry_told, with_all, with_new, without_entries}
use Rattle.fw_dicts.specs.Keys.{Fields, known_keys}
use Rattle.fw_dicts.specs.Lists.{rules_told}
use Rattle.fw_dicts.specs.Targets.{zone_target_told}
use Rattle.fw_dicts.specs.Values.{text_at, texts_at}
use Rattle.fw_dicts.specs.Zones.{new_zone, no_rules, with_settings, zone_told}
use Rattle.fw_dicts.specs.declared.shape.Owner.TheVariants as owner
use Rattle.fw_dicts_valid.proofs.Added.{absent, new_entry_fits}
use Rattle.fw_dicts_valid.proofs.Rules.{told_fit}
use Rattle.fw_dicts_valid.proofs.Steps.{holds, inner, named_in, ok, then_ok}
use Rattle.fw_dicts_valid.specs.Settings.{IsFitEntry}
use Rattle.fw_model.specs.declared.binding.Binding.{Binding}
use Rattle.fw_model.specs.declared.binding.Binding.TheVariants as binding
use Rattle.fw_model.specs.declared.code.Code.TheVariants as code
use Rattle.fw_model.specs.declared.config.Config.{Config}
use Rattle.fw_model.specs.declared.ipset.IpSet.{IpSet}
use Rattle.fw_model.specs.declared.rules.Rules.{Rules}
use Rattle.fw_model.specs.declared.zone.Zone.{Zone}
use Rattle.fw_model.specs.declared.zone.ZoneTarget.{ZoneTarget}
use Rattle.fw_valid.specs.Each.{Each}
use Rattle.fw_valid.specs.Names.{ipset_names}
use Rattle.fw_valid_edits.specs.Fit.{AreFit, IsFitZone}
use Rattle.fw_words.specs.Keys.{after_key}
use Rattle.fw_zone.specs.Lists.{IsIn}
use Rattle.fw_zone_edits.specs.Entries.{lists, with_entry}
use Rattle.fw_zone_edits.specs.declared.entry.Entry.{Entry}
use Rattle.fw_zone_edits.specs.declared.entry.Entry.TheVariants as entry
use Rattle.fw_zone_members.specs.Reading.{address_source, entry_from, interface_from, set_source, source_from}

-- an entry that no other zone lists
interface_free : (others : List Zone) (name : List ℕ) → list_any (lists (entry.Interface name)) others ≡ false → Each (λ (other : Zone). ¬ (IsIn name other.interfaces)) others
interface_free [] name none = tt
interface_free (other ∷ others) name none =
    let parts = or_parts (lists (entry.Interface name) other) (list_any (lists (entry.Interface name)) others) none in
    (absent bytes_eq equality.texts name other.interfaces parts.0, interface_free others name parts.1)

source_free : (others : List Zone) (source : Binding) → list_any (lists (entry.Source source)) others ≡ false → Each (λ (other : Zone). ¬ (IsIn source other.sources)) others
source_free [] source none = tt
source_free (other ∷ others) source none =
    let parts = or_parts (lists (entry.Source source) other) (list_any (lists (entry.Source source)) others) none in
    (absent same_source equality.sources source other.sources parts.0, source_free others source parts.1)

-- an ipset that an entry names is there
abbrev NamesKnownSet : Config → Entry → Type 0
NamesKnownSet config new = (name : List ℕ) → new ≡ entry.Source (binding.Set name) → IsIn name (ipset_names config)

set_known : (config : Config) (text name : List ℕ) (new : Entry) → set_source config.ipsets text name ≡ Ok new → NamesKnownSet config new
set_known config text name new is = by (is_name name) (list_any (λ set. bytes_eq set.name name) config.ipsets) refl is
  where
    by : (formed known : Bool) → list_any (λ set. bytes_eq set.name name) config.ipsets ≡ known
        → (if formed then (if known then ok (entry.Source (binding.Set name)) else refused code.InvalidIpset text) else refused code.InvalidAddr text) ≡ Ok new → NamesKnownSet config new
    by false known found is = cc
    by true false found is = cc
    by true true found is = λ other named.
        let same : name ≡ other = cc in
        subst (λ (name : List ℕ). IsIn name (ipset_names config)) same (named_in (λ (set : IpSet). set.name) config.ipsets name found)

address_known : (config : Config) (text : List ℕ) (found : Option Subnet) (hardware : Option ℕ) (new : Entry) → address_source text found hardware ≡ Ok new → NamesKnownSet config new
address_known config text (Some net) hardware new is = λ name named. cc
address_known config text None (Some mac) new is = λ name named. cc
address_known config text None None new is = cc

source_known : (config : Config) (text : List ℕ) (name : Option (List ℕ)) (new : Entry) → source_from config.ipsets text name ≡ Ok new → NamesKnownSet config new
source_known config text (Some name) new is = set_known config text name new is
source_known config text None new is = address_known config text (net text) (mac text) new is

interface_known : (config : Config) (text : List ℕ) (found : Option (List ℕ)) (new : Entry) → interface_from text found ≡ Ok new → NamesKnownSet config new
interface_known config text None new is = cc
interface_known config text (Some name) new is = λ other named. cc

entry_known : (config : Config) (of : BindingKind) (text : List ℕ) (new : Entry) → entry_from config.ipsets of text ≡ Ok new → NamesKnownSet config new
entry_known config kind.Interface text new is = interface_known config text (interface text) new is
entry_known config kind.Source text new is = source_known config text (after_key (codes "ipset:") text) new is

fit_entry : (config : Config) (others : List Zone) (new : Entry) → list_any (lists new) others ≡ false → NamesKnownSet config new → IsFitEntry config others new
fit_entry config others (entry.Interface name) none known = interface_free others name none
fit_entry config others (entry.Source source) none known = (source_free others source none, λ name is. known name (ap (λ (source : Binding). entry.Source source) is))

entry_fits : (config : Config) (others : List Zone) (of : BindingKind) (text : List ℕ) (new : Entry) → entry_told config.ipsets others of text ≡ Ok new → IsFitEntry config others new
unfolding entry_told
entry_fits config others of text new is =
    let read = then_ok _ (entry_from config.ipsets of text) new is in
    let free = then_ok _ (required (not (list_any (lists read.0) others)) code.ZoneConflict text) new read.2 in
    let none = not-true (list_any (lists read.0) others) (holds (not (list_any (lists read.0) others)) code.ZoneConflict text free.0 free.1) in
    subst (IsFitEntry config others) (inner read.0 new free.2) (fit_entry config others read.0 none (entry_known config of text read.0 read.1))

-- the zone keeps its name
abbrev Named : Config → List Zone → Zone → Zone → Type 0
Named config others zone told = IsFitZone config others told × (told.name ≡ zone.name)

new_name : (zone : Zone) (new : Entry) → (with_new zone new).name ≡ zone.name
unfolding with_new
new_name zone new = by (lists new zone) new
  where
    entered : (new : Entry) → (with_entry zone new).name ≡ zone.name
    entered (entry.Interface name) = refl
    entered (entry.Source source) = refl

    by : (there : Bool) (new : Entry) → (if◌then◌else◌ {A = Zone} there zone (with_entry zone new)).name ≡ zone.name
    by true new = refl
    by false new = entered new

all_entries : (config : Config) (others : List Zone) (of : BindingKind) (zone told : Zone) (texts : List (List ℕ)) → IsFitZone config others zone → with_all config.ipsets others of zone texts ≡ Ok told → Named config others zone told
all_entries config others of zone told [] fit is = let same = inner zone told is in (subst (IsFitZone config others) same fit, ap (λ (zone : Zone). zone.name) (sym same))
all_entries config others of zone told (text ∷ texts) fit is =
    let new = then_ok _ (entry_told config.ipsets others of text) told is in
    let rest = all_entries config others of (with_new zone new.0) told texts (new_entry_fits config others zone new.0 fit (entry_fits config others of text new.0 new.1)) new.2 in
    (rest.0, rest.1 ∙ new_name zone new.0)

emptied : (config : Config) (others : List Zone) (of : BindingKind) (zone : Zone) → IsFitZone config others zone → Named config others zone (without_entries of zone)
emptied config others kind.Interface zone fit = (
  record {
    rules = fit.rules;
    sets = fit.sets;
    interfaces_once = tt;
    sources_once = fit.sources_once;
    interfaces_free = λ one there. absurd there;
    sources_free = fit.sources_free;
  },
  refl,
)
emptied config others kind.Source zone fit = (
  record {
    rules = fit.rules;
    sets = λ name there. absurd there;
    interfaces_once = fit.interfaces_once;
    sources_once = tt;
    interfaces_free = fit.interfaces_free;
    sources_free = λ one there. absurd there;
  },
  refl,
)

entries_fit : (config : Config) (others : List Zone) (fields : Fields) (of : BindingKind) (zone told : Zone) → IsFitZone config others zone → entries_told config.ipsets others fields of zone ≡ Ok told → Named config others zone told
unfolding entries_told
entries_fit config others fields of zone told fit is = by (texts_at fields (entry_key of)) is
  where
    by : (found : Option (List (List ℕ))) → entries_in config.ipsets others of zone found ≡ Ok told → Named config others zone told
    by None is = let same = inner zone told is in (subst (IsFitZone config others) same fit, ap (λ (zone : Zone). zone.name) (sym same))
    by (Some texts) is =
        let empty = emptied config others of zone fit in
        let rest = all_entries config others of (without_entries of zone) told texts empty.0 is in
        (rest.0, rest.1 ∙ empty.1)

settings_fit : (config : Config) (others : List Zone) (fields : Fields) (zone : Zone) (target : ZoneTarget) (rules : Rules) → IsFitZone config others zone → AreFit config rules → Named config others zone (with_settings fields zone target rules)
unfolding with_settings
settings_fit config others fields zone target rules fit rules_fit = (
  record {
    rules = rules_fit;
    sets = fit.sets;
    interfaces_once = fit.interfaces_once;
    sources_once = fit.sources_once;
    interfaces_free = fit.interfaces_free;
    sources_free = fit.sources_free;
  },
  refl,
)

pub zone_fits : (config : Config) (others : List Zone) (zone told : Zone) (dict : Dict) → IsFitZone config others zone → zone_told config others zone dict ≡ Ok told → IsFitZone config others told × (told.name ≡ zone.name)
unfolding zone_told
zone_fits config others zone told dict fit is =
    let known = then_ok _ (known_keys owner.Zone dict.fields) told is in
    let target = then_ok _ (zone_target_told zone.target (text_at dict.fields (codes "target"))) told known.2 in
    let rules = then_ok _ (rules_told config owner.Zone dict.fields zone.rules) told target.2 in
    let bound = then_ok _ (entries_told config.ipsets others dict.fields kind.Interface (with_settings dict.fields zone target.0 rules.0)) told rules.2 in
    let settings = settings_fit config others dict.fields zone target.0 rules.0 fit (told_fit config owner.Zone dict.fields zone.rules rules.0 fit.rules rules.1) in
    let one = entries_fit config others dict.fields kind.Interface (with_settings dict.fields zone target.0 rules.0) bound.0 settings.0 bound.1 in
    let two = entries_fit config others dict.fields kind.Source bound.0 told one.0 bound.2 in
    (two.0, two.1 ∙ one.1 ∙ settings.1)

pub no_rules_fit : (config : Config) → AreFit config no_rules
no_rules_fit config = record {
  known = record { services = tt; icmp_types = tt; rich_services = λ one name there named. absurd there; rich_icmp_types = λ one name there named. absurd there };
  sets = λ one name there named. absurd there;
  once = record { services = tt; ports = tt; protocols = tt; source_ports = tt; icmp_blocks = tt; forwards = tt; rich = tt };
  written = record { rich_rules = tt; forward_ports = tt };
}

pub new_zone_fits : (config : Config) (others : List Zone) (name : List ℕ) → IsFitZone config others (new_zone name)
new_zone_fits config others name = record {
  rules = no_rules_fit config;
  sets = λ name there. absurd there;
  interfaces_once = tt;
  sources_once = tt;
  interfaces_free = λ one there. absurd there;
  sources_free = λ one there. absurd there;
}

-- A zone keeps its name, whatever a dict says.
use Rattle.std.proofs.Common.{◌≡◌, ℕ, Bool, true, false, if◌then◌else◌, List, [], ◌∷◌, Option, None, Some, Result, Ok, Err, refl, sym, ap, ◌∙◌}
use Rattle.fw_act.specs.Acts.{result_and_then}
use Rattle.fw_calls.specs.declared.dict.Dict.{Dict}
use Rattle.fw_calls.specs.declared.member.BindingKind.{BindingKind}
use Rattle.fw_calls.specs.declared.member.BindingKind.TheVariants as kind
use Rattle.fw_calls.specs.declared.reply.Refusal.{Refusal}
use Rattle.fw_dicts.specs.Bindings.{entries_in, entries_told, entry_key, entry_told, with_all, with_new, without_entries}
use Rattle.fw_dicts.specs.Keys.{Fields, known_keys}
use Rattle.fw_dicts.specs.Lists.{rules_told}
use Rattle.fw_dicts.specs.Targets.{zone_target_told}
use Rattle.fw_dicts.specs.Values.{text_at, texts_at}
use Rattle.fw_dicts.specs.Zones.{with_settings, zone_told}
use Rattle.fw_dicts.specs.declared.shape.Owner.TheVariants as owner
use Rattle.fw_model.specs.declared.config.Config.{Config}
use Rattle.fw_model.specs.declared.ipset.IpSet.{IpSet}
use Rattle.fw_model.specs.declared.rules.Rules.{Rules}
use Rattle.fw_model.specs.declared.zone.Zone.{Zone}
use Rattle.fw_model.specs.declared.zone.ZoneTarget.{ZoneTarget}
use Rattle.fw_zone_edits.specs.Entries.{lists, with_entry}
use Rattle.fw_zone_edits.specs.declared.entry.Entry.{Entry}
use Rattle.fw_zone_edits.specs.declared.entry.Entry.TheVariants as entries
use Rattle.std.specs.Prelude.{codes}

-- Both steps of two gave something.
pub both : {X Y : Type 0} (found : Result X Refusal) (step : X → Result Y Refusal) (y : Y) → result_and_then step found ≡ Ok y → (x : X) × (found ≡ Ok x) × (step x ≡ Ok y)
both (Ok x) step y is = (x, refl, is)
both (Err refusal) step y is = cc

abbrev value_or : {X : Type 0} → X → Result X Refusal → X
value_or x (Ok made) = made
value_or x (Err refusal) = x

pub same_made : {X : Type 0} (one other : X) → (made : Result X Refusal) → made ≡ Ok one → made ≡ Ok other → one ≡ other
same_made one other made is_one is_other = sym (ap (value_or one) is_one) ∙ ap (value_or one) is_other

entry_named : (zone : Zone) (entry : Entry) → (with_entry zone entry).name ≡ zone.name
entry_named zone (entries.Interface name) = refl
entry_named zone (entries.Source source) = refl

chosen_named : (there : Bool) (zone : Zone) (entry : Entry) → (if there then zone else with_entry zone entry).name ≡ zone.name
chosen_named true zone entry = refl
chosen_named false zone entry = entry_named zone entry

new_named : (zone : Zone) (entry : Entry) → (with_new zone entry).name ≡ zone.name
unfolding with_new
new_named zone entry = chosen_named (lists entry zone) zone entry

all_named : (ipsets : List IpSet) (others : List Zone) (kind : BindingKind) (zone : Zone) (texts : List (List ℕ)) (told : Zone) → with_all ipsets others kind zone texts ≡ Ok told → told.name ≡ zone.name
all_named ipsets others kind zone [] told is = ap (λ (z : Zone). z.name) (sym (same_made zone told (Ok zone) refl is))
all_named ipsets others kind zone (text ∷ texts) told is =
    let steps = both (entry_told ipsets others kind text) (λ entry. with_all ipsets others kind (with_new zone entry) texts) told is in
    all_named ipsets others kind (with_new zone steps.0) texts told steps.2 ∙ new_named zone steps.0

emptied_named : (kind : BindingKind) (zone : Zone) → (without_entries kind zone).name ≡ zone.name
emptied_named kind.Interface zone = refl
emptied_named kind.Source zone = refl

in_named : (ipsets : List IpSet) (others : List Zone) (kind : BindingKind) (zone : Zone) (texts : Option (List (List ℕ))) (told : Zone) → entries_in ipsets others kind zone texts ≡ Ok told → told.name ≡ zone.name
in_named ipsets others kind zone None told is = ap (λ (z : Zone). z.name) (sym (same_made zone told (Ok zone) refl is))
in_named ipsets others kind zone (Some texts) told is = all_named ipsets others kind (without_entries kind zone) texts told is ∙ emptied_named kind zone

entries_named : (ipsets : List IpSet) (others : List Zone) (fields : Fields) (kind : BindingKind) (zone told : Zone) → entries_told ipsets others fields kind zone ≡ Ok told → told.name ≡ zone.name
unfolding entries_told
entries_named ipsets others fields kind zone told is = in_named ipsets others kind zone (texts_at fields (entry_key kind)) told is

settings_named : (fields : Fields) (zone : Zone) (target : ZoneTarget) (rules : Rules) → (with_settings fields zone target rules).name ≡ zone.name
unfolding with_settings
settings_named fields zone target rules = refl

pub name_kept : (config : Config) (others : List Zone) (zone : Zone) (dict : Dict) (told : Zone) → zone_told config others zone dict ≡ Ok told → told.name ≡ zone.name
unfolding zone_told
name_kept config others zone dict told is =
    let known = both (known_keys owner.Zone dict.fields) _ told is in
    let target = both (zone_target_told zone.target (text_at dict.fields (codes "target"))) _ told known.2 in
    let listed = both (rules_told config owner.Zone dict.fields zone.rules) _ told target.2 in
    let interfaces = both (entries_told config.ipsets others dict.fields kind.Interface (with_settings dict.fields zone target.0 listed.0)) _ told listed.2 in
    entries_named config.ipsets others dict.fields kind.Source interfaces.0 told interfaces.2
    ∙ entries_named config.ipsets others dict.fields kind.Interface (with_settings dict.fields zone target.0 listed.0) interfaces.0 interfaces.1
    ∙ settings_named dict.fields zone target.0 listed.0

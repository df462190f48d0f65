-- Members on ipsets keep the settings valid.
use Rattle.std.proofs.Common.{◌≡◌, ℕ, Bool, true, false, if◌then◌else◌, List, [], ◌∷◌, ◌++◌, Some, Result, Ok, Err, IsTrue, slice_get, slice_set, refl, subst}
use Rattle.fw_act.specs.Acts.{Answered, refused, refused_as, result_and_then}
use Rattle.fw_calls.specs.declared.call.IpsetCall.{IpsetCall}
use Rattle.fw_calls.specs.declared.call.IpsetCall.TheVariants as call
use Rattle.fw_calls.specs.declared.member.Verb.{Verb}
use Rattle.fw_calls.specs.declared.member.Verb.TheVariants as act
use Rattle.fw_calls.specs.declared.reply.Refusal.{Refusal}
use Rattle.fw_calls.specs.declared.reply.Reply.TheVariants as reply
use Rattle.fw_dicts_valid.proofs.Steps.{inner, then_ok}
use Rattle.fw_ipset.specs.Entries.{fits, with_items}
use Rattle.fw_ipset_members.specs.Entries.{entry_answered, entry_call, set_entries, set_signals}
use Rattle.fw_ipset_members.specs.Items.{added, each_once, item_of, item_text, items_of, removed}
use Rattle.fw_ipset_members.specs.Members.{in_set, ipset_member, look_up}
use Rattle.fw_ipsets_valid.proofs.Reading.{item_fits, items_fit, looked_up, not_refused}
use Rattle.fw_ipsets_valid.proofs.Sets.{IsEdit, item_added, item_removed, items_set}
use Rattle.fw_answer.specs.Equal.{same_item}
use Rattle.fw_answer.specs.Lists.{is_in, without}
use Rattle.fw_model.specs.declared.code.Code.{Code}
use Rattle.fw_model.specs.declared.code.Code.TheVariants as code
use Rattle.fw_model.specs.declared.ipset.IpSet.{IpSet}
use Rattle.fw_model.specs.declared.ipset.Item.{Item}
use Rattle.fw_parts_valid.proofs.Parts.{parts_timed, parts_valid}
use Rattle.fw_settings.specs.Parts.{with_ipsets}
use Rattle.fw_settings.specs.Valid.{AreValid}
use Rattle.fw_settings.specs.declared.settings.Settings.{Settings}
use Rattle.fw_valid.specs.Each.{IsWithoutRepeats}
use Rattle.fw_valid.specs.Sets.{IsSet}
use Rattle.fw_valid_edits.proofs.Edited.{each_in, each_set, same_given}
use Rattle.fw_valid_edits.proofs.Entries.{stands}

same_ok : {A E : Type 0} (one other : A) (did : Result A E) → did ≡ Ok one → did ≡ Ok other → one ≡ other
same_ok one other did is also = cc

-- an ipset at its place is another
set_changed : (settings : Settings) (place : ℕ) (old new : IpSet) → AreValid settings → slice_get settings.runtime.config.ipsets place ≡ Some old → IsEdit old new
    → AreValid (with_ipsets settings (slice_set settings.runtime.config.ipsets place new))
set_changed settings place old new valid at edit =
    let config = settings.runtime.config in
    let ipsets = slice_set config.ipsets place new in
    record {
      permanent = valid.permanent;
      runtime = parts_valid config config.default_zone config.log_denied ipsets valid.runtime valid.runtime.default_zone (record {
        names = same_given (λ (set : IpSet). set.name) config.ipsets place old new at edit.named;
        sets = each_set IsSet config.ipsets place new valid.runtime.ipsets.sets edit.set;
        items = each_set (λ (set : IpSet). IsWithoutRepeats set.items) config.ipsets place new valid.runtime.no_repeats.items edit.once;
      });
      timers = parts_timed config config.default_zone config.log_denied ipsets settings.timers valid.timers;
      now = valid.now;
      zones = valid.zones;
      policies = valid.policies;
    }

-- what a member on one ipset makes of it
abbrev Edits : (IpSet → Result (Answered IpSet) Refusal) → Type 0
Edits did = (set : IpSet) (answered : Answered IpSet) → IsSet set → IsWithoutRepeats set.items → did set ≡ Ok answered → IsEdit set answered.after

in_set_valid : (settings : Settings) (name : List ℕ) (did : IpSet → Result (Answered IpSet) Refusal) (answered : Answered Settings) → AreValid settings → Edits did
    → in_set settings name did ≡ Ok answered → AreValid answered.after
unfolding in_set
in_set_valid settings name did answered valid edits is =
    let found = then_ok _ (look_up settings.runtime.config name) answered is in
    let acted = then_ok _ (did found.0.set) answered found.2 in
    let at = looked_up settings.runtime.config name found.0 found.1 in
    let there = stands settings.runtime.config.ipsets found.0.place found.0.set at in
    let edit = edits found.0.set acted.0 (each_in IsSet settings.runtime.config.ipsets found.0.set valid.runtime.ipsets.sets there)
    (each_in (λ (set : IpSet). IsWithoutRepeats set.items) settings.runtime.config.ipsets found.0.set valid.runtime.no_repeats.items there) acted.1 in
    subst (λ (answered : Answered Settings). AreValid answered.after) (inner _ answered acted.2) (set_changed settings found.0.place found.0.set acted.0.after valid at edit)

-- an edit that is refused where a test holds, and where it doesn't
abbrev code_or : Bool → Code → IpSet → Result IpSet Code
code_or held code set = if held then Err code else Ok set

abbrev or_code : Bool → IpSet → Code → Result IpSet Code
or_code held set code = if held then Ok set else Err code

-- an entry that comes, goes or is asked for
entry_edits : (verb : Verb) (text : List ℕ) → Edits (entry_call verb text)
entry_edits verb text set answered is once did =
    let item = then_ok _ (item_of set text) answered did in
    let fit = item_fits set text item.0 item.1 in
    by verb item.0 fit.0 fit.1 item.2
  where
    when_added : (item : Item) (after : IpSet) → set.timeout ≡ false → IsTrue (fits set item) → (held : Bool) → is_in same_item item set.items ≡ held
        → code_or held code.AlreadyEnabled (with_items set (set.items ++ item ∷ [])) ≡ Ok after → IsEdit set after
    when_added item after untimed fit true held made = cc
    when_added item after untimed fit false held made = subst (IsEdit set) (same_ok _ after _ refl made) (item_added set item is once untimed fit held)

    when_removed : (item : Item) (after : IpSet) → set.timeout ≡ false → (held : Bool) → or_code held (with_items set (without same_item item set.items)) code.NotEnabled ≡ Ok after → IsEdit set after
    when_removed item after untimed true made = subst (IsEdit set) (same_ok _ after _ refl made) (item_removed set item is once untimed)
    when_removed item after untimed false made = cc

    by : (verb : Verb) (item : Item) → set.timeout ≡ false → IsTrue (fits set item) → entry_answered set verb item ≡ Ok answered → IsEdit set answered.after
    by act.Add item untimed fit did =
        let after = then_ok _ (refused_as (item_text item) (added set item)) answered did in
        subst (λ (answered : Answered IpSet). IsEdit set answered.after) (inner _ answered after.2)
        (when_added item after.0 untimed fit (is_in same_item item set.items) refl (not_refused (item_text item) (added set item) after.0 after.1))
    by act.Remove item untimed fit did =
        let after = then_ok _ (refused_as (item_text item) (removed set item)) answered did in
        subst (λ (answered : Answered IpSet). IsEdit set answered.after) (inner _ answered after.2)
        (when_removed item after.0 untimed (is_in same_item item set.items) (not_refused (item_text item) (removed set item) after.0 after.1))
    by act.Query item untimed fit did =
        subst (λ (answered : Answered IpSet). IsEdit set answered.after) (inner _ answered did) (record { named = refl; set = is; once = once })

-- other entries in place of all
set_edits : (texts : List (List ℕ)) → Edits (set_entries texts)
set_edits texts set answered is once did = by set.timeout refl did
  where
    by : (timed : Bool) → set.timeout ≡ timed
        → (if timed then refused code.IpsetWithTimeout set.name
        else result_and_then (λ items. Ok (record { signals = set_signals set items; reply = reply.None; after = with_items set (each_once items) })) (items_of set texts)) ≡ Ok answered
        → IsEdit set answered.after
    by true timed did = cc
    by false timed did =
        let items = then_ok _ (items_of set texts) answered did in
        subst (λ (answered : Answered IpSet). IsEdit set answered.after) (inner _ answered items.2) (items_set set items.0 is timed (items_fit set texts items.0 items.1))

pub ipset_valid : (settings : Settings) (call : IpsetCall) (answered : Answered Settings) → AreValid settings → ipset_member settings call ≡ Ok answered → AreValid answered.after
unfolding ipset_member
ipset_valid settings call.Ipsets answered valid is = subst (λ (answered : Answered Settings). AreValid answered.after) (inner _ answered is) valid
ipset_valid settings (call.HasIpset name) answered valid is = subst (λ (answered : Answered Settings). AreValid answered.after) (inner _ answered is) valid
ipset_valid settings (call.Entry verb name text) answered valid is = in_set_valid settings name (entry_call verb text) answered valid (entry_edits verb text) is
ipset_valid settings (call.Entries name) answered valid is =
    let found = then_ok _ (look_up settings.runtime.config name) answered is in
    subst (λ (answered : Answered Settings). AreValid answered.after) (inner _ answered found.2) valid
ipset_valid settings (call.SetEntries name texts) answered valid is = in_set_valid settings name (set_entries texts) answered valid (set_edits texts) is

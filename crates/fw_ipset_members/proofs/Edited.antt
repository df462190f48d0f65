-- What the edits of an ipset did, as relations say it and as tests do.
use Rattle.std.proofs.Common.{◌≡◌, ◌∙◌, ◌↔◌, ◌⊎◌, inl, inr, Bool, true, false, List, [], ◌∷◌, ◌++◌, Result, Ok, Err, IsTrue, OnOk, OnErr, refl, sym, ap, subst}
use Rattle.std.proofs.lemmas.Bool.{cases_Bool, false_from_ne_true}
use Rattle.fw_answer.proofs.Equality as equality
use Rattle.fw_answer.proofs.Items.{is_in_decides, removed_is_without}
use Rattle.fw_answer.specs.Equal.{same_item}
use Rattle.fw_answer.specs.Lists.{without}
use Rattle.fw_ipset.specs.Entries.{IsWithoutItem, with_items}
use Rattle.fw_ipset.specs.Once.{IsReplaced}
use Rattle.fw_ipset.specs.declared.error.SetError.{SetError}
use Rattle.fw_ipset.specs.declared.error.SetError.TheVariants as error
use Rattle.fw_ipset_members.proofs.Once.{once_is}
use Rattle.fw_ipset_members.specs.Items.{added, each_once, holds, removed}
use Rattle.fw_model.specs.declared.code.Code.TheVariants as code
use Rattle.fw_model.specs.declared.ipset.IpSet.{IpSet}
use Rattle.fw_model.specs.declared.ipset.Item.{Item}
use Rattle.fw_zone.specs.Lists.{IsIn}

held : (set : IpSet) (item : Item) → IsIn item set.items → holds set item ≡ true
held set item = (is_in_decides same_item equality.items item set.items).1

not_held : (set : IpSet) (item : Item) → ¬ (IsIn item set.items) → holds set item ≡ false
not_held set item absent = false_from_ne_true (holds set item) (λ is. absent ((is_in_decides same_item equality.items item set.items).0 is))

pub holds_is : (set : IpSet) (item : Item) (result : Bool) → (IsTrue result ↔ IsIn item set.items) → result ≡ holds set item
holds_is set item true is = sym (held set item (is.0 refl))
holds_is set item false is = sym (not_held set item (λ found. let impossible = is.1 found in cc))

abbrev done : Result (Unit {0}) SetError
done = Ok tt

pub added_is : (old new : IpSet) (item : Item) → old.timeout ≡ false
    → new ≡ with_items old (old.items ++ item ∷ [])
    → ((done ≡ Err error.AlreadyEnabled) ↔ ((old.timeout ≡ false) × IsIn item old.items))
    → added old item ≡ Ok new
added_is old new item untimed made already =
    rw (not_held old item (λ found. let no_error = already.1 (untimed, found) in cc)) (ap Ok (sym made))

pub already_is : (old : IpSet) (item : Item) → IsIn item old.items → added old item ≡ Err code.AlreadyEnabled
already_is old item found = rw (held old item found) refl

in_between : (item : Item) (before behind : List Item) → IsIn item (before ++ item ∷ behind)
in_between item [] behind = inl refl
in_between item (first ∷ before) behind = inr (in_between item before behind)

pub removed_is : (old new : IpSet) (item : Item) → IsWithoutItem item old new → removed old item ≡ Ok new
removed_is old new item (left, gone, is) =
    let there : IsIn item old.items = subst (λ items. IsIn item items) (sym gone.was) (in_between item gone.before gone.behind) in
    rw (held old item there) (ap Ok (sym (is ∙ ap (λ items. with_items old items) (removed_is_without same_item equality.items item old.items left gone))))

pub absent_is : (old : IpSet) (item : Item) → ¬ (IsIn item old.items) → removed old item ≡ Err code.NotEnabled
absent_is old item absent = rw (not_held old item absent) refl

pub replaced_is : (old new : IpSet) (items : List Item) → IsReplaced items old new → new ≡ with_items old (each_once items)
replaced_is old new items (kept, once, is) = is ∙ ap (λ list. with_items old list) (once_is items kept once)

-- Lists of items, as relations say what they are made of and as tests do.
use Rattle.std.proofs.Common.{◌≡◌, ◌∙◌, ◌⊎◌, inl, inr, Bool, true, false, not, ◌||◌, cond, if◌then◌else◌, List, [], ◌∷◌, ◌++◌, refl, sym, ap, append-nil}
use Rattle.std.specs.List.{filter, fold, list_any}
use Rattle.std.proofs.lemmas.Bool.{cases_Bool, false_from_ne_true}
use Rattle.std.proofs.lemmas.List.Elements.{filter-append}
use Rattle.std.proofs.lemmas.List.Folds.{list_any-append}
use Rattle.fw_answer.proofs.Equality as equality
use Rattle.fw_answer.proofs.Items.{is_in_decides}
use Rattle.fw_answer.proofs.Places.{fold_more}
use Rattle.fw_answer.specs.Equal.{same_item}
use Rattle.fw_answer.specs.Lists.{is_in}
use Rattle.fw_ipset.specs.Lacking.{IsLacking}
use Rattle.fw_ipset.specs.Lacking.IsLacking.{held, lacked, nothing as nothing_left}
use Rattle.fw_ipset.specs.Once.{IsKeptOnce}
use Rattle.fw_ipset.specs.Once.IsKeptOnce.{first, nothing as nothing_kept, repeated}
use Rattle.fw_ipset_members.specs.Items.{each_once, none_of, with_new}
use Rattle.fw_model.specs.declared.ipset.Item.{Item}
use Rattle.fw_zone.specs.Lists.{IsIn}

abbrev among : Item → List Item → Bool
among item items = is_in same_item item items

in_true : (item : Item) (items : List Item) → IsIn item items → among item items ≡ true
in_true item items = (is_in_decides same_item equality.items item items).1

in_false : (item : Item) (items : List Item) → ¬ (IsIn item items) → among item items ≡ false
in_false item items absent = false_from_ne_true (among item items) (λ is. absent ((is_in_decides same_item equality.items item items).0 is))

-- a last item
among_pushed : (item last : Item) (items : List Item) → among item (items ++ last ∷ []) ≡ (among item items || among item (last ∷ []))
among_pushed item last items = list_any-append (λ listed. same_item listed item) items (last ∷ [])

-- one that is there already makes no difference
or_there : (one other : Bool) → (other ≡ true → one ≡ true) → (one || (other || false)) ≡ one
or_there true other there = refl
or_there false true there = let is = there refl in cc
or_there false false there = refl

there_already : (item last : Item) (items : List Item) → IsIn last items → same_item last item ≡ true → among item items ≡ true
there_already item last items found same =
    let is : last ≡ item = (equality.items.decides last item).0 same in ap (λ one. among one items) (sym is) ∙ in_true last items found

-- what is kept once has the same items
same_items : (items kept : List Item) → IsKeptOnce items kept → (item : Item) → among item kept ≡ among item items
same_items [] [] nothing_kept item = refl
same_items _ _ (first {items} {kept} last before absent) item =
    among_pushed item last kept ∙ ap (λ is. is || among item (last ∷ [])) (same_items items kept before item) ∙ sym (among_pushed item last items)
same_items _ kept (repeated {items} last before found) item =
    same_items items kept before item
    ∙ sym (among_pushed item last items ∙ or_there (among item items) (same_item last item) (there_already item last items found))

pub once_is : (items kept : List Item) → IsKeptOnce items kept → kept ≡ each_once items
once_is [] [] nothing_kept = refl
once_is _ _ (first {items} {kept} last before absent) =
    let new : among last kept ≡ false = same_items items kept before last ∙ in_false last items absent in
    sym (fold_more with_new [] items last ∙ ap (λ list. with_new list last) (sym (once_is items kept before)) ∙ ap (λ is. if is then kept else kept ++ last ∷ []) new)
once_is _ kept (repeated {items} last before found) =
    let old : among last kept ≡ true = same_items items kept before last ∙ in_true last items found in
    sym (fold_more with_new [] items last ∙ ap (λ list. with_new list last) (sym (once_is items kept before)) ∙ ap (λ is. if is then kept else kept ++ last ∷ []) old)

abbrev none : List Item → Item → Bool
none others item = not (among item others)

one_filtered : (others : List Item) (last : Item) (is : Bool) → among last others ≡ is → filter (none others) (last ∷ []) ≡ (if is then [] else last ∷ [])
one_filtered others last is found = ap (λ there. cond (not there) (last ∷ []) []) found ∙ elim is as (λ there. cond (not there) (last ∷ []) [] ≡ (if there then [] else last ∷ [])) [ true ↦ refl | false ↦ refl ]

pub lacking_is : (others items left : List Item) → IsLacking others items left → left ≡ none_of others items
lacking_is others [] [] nothing_left = refl
lacking_is others _ _ (lacked {items} {left} last before absent) =
    sym (filter-append (none others) items (last ∷ [])
    ∙ ap (λ front. front ++ filter (none others) (last ∷ [])) (sym (lacking_is others items left before))
    ∙ ap (λ back. left ++ back) (one_filtered others last false (in_false last others absent)))
lacking_is others _ left (held {items} last before found) =
    sym (filter-append (none others) items (last ∷ [])
    ∙ ap (λ front. front ++ filter (none others) (last ∷ [])) (sym (lacking_is others items left before))
    ∙ ap (λ back. left ++ back) (one_filtered others last true (in_true last others found)) ∙ append-nil left)

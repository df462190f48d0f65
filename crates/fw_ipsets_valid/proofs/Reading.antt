-- The ipset that a call names, and what the entries that are read are.
use Rattle.std.proofs.Common.{◌≡◌, ℕ, Bool, true, false, if◌then◌else◌, List, [], ◌∷◌, Option, None, Some, Result, Ok, Err, IsTrue, slice_get, position, refl, subst}
use Rattle.std.specs.Str.{bytes_eq}
use Rattle.fw_act.specs.Acts.{refused, refused_as}
use Rattle.fw_dicts_valid.proofs.Steps.{inner, then_ok, was_found}
use Rattle.fw_ipset.specs.Entries as entries
use Rattle.fw_ipset.specs.Entries.{entry, fits}
use Rattle.fw_ipset_members.specs.Items.{item_from, item_of, items_of}
use Rattle.fw_ipset_members.specs.Members.{look_up}
use Rattle.fw_ipset_members.specs.Sets.{Found, set_named}
use Rattle.fw_model.specs.declared.code.Code.{Code}
use Rattle.fw_model.specs.declared.code.Code.TheVariants as code
use Rattle.fw_model.specs.declared.config.Config.{Config}
use Rattle.fw_model.specs.declared.ipset.IpSet.{IpSet}
use Rattle.fw_model.specs.declared.ipset.Item.{Item}
use Rattle.fw_rich_valid.proofs.Saying.{some_inner, some_then}
use Rattle.fw_valid.specs.Each.{Each}

found_there : (sets : List IpSet) (name : List ℕ) (found : Found) → set_named sets name ≡ Some found → slice_get sets found.place ≡ Some found.set
found_there sets name found is =
    let place = some_then _ (position (λ (set : IpSet). bytes_eq set.name name) sets) found is in
    let set = some_then _ (slice_get sets place.0) found place.2 in
    subst (λ (found : Found). slice_get sets found.place ≡ Some found.set) (some_inner _ found set.2) set.1

-- the ipset that was looked up stands at its place
pub looked_up : (config : Config) (name : List ℕ) (found : Found) → look_up config name ≡ Ok found → slice_get config.ipsets found.place ≡ Some found.set
unfolding look_up
looked_up config name found is = found_there config.ipsets name found (was_found code.InvalidIpset name (set_named config.ipsets name) found is)

-- an edit that names what it refuses was made
pub not_refused : {X : Type 0} (subject : List ℕ) (did : Result X Code) (x : X) → refused_as subject did ≡ Ok x → did ≡ Ok x
not_refused subject (Ok done) x is = cc
not_refused subject (Err code) x is = cc

from_entry : (text : List ℕ) (found : Option Item) (item : Item) → item_from text found ≡ Ok item → found ≡ Some item
from_entry text None item is = cc
from_entry text (Some one) item is = cc

fitting : (set : IpSet) (one item : Item) (passes : Bool) → fits set one ≡ passes → (if passes then Some one else None) ≡ Some item → IsTrue (fits set item)
fitting set one item true is found = subst (λ (item : Item). IsTrue (fits set item)) (some_inner one item found) is
fitting set one item false is found = cc

entry_fits : (set : IpSet) (text : List ℕ) (item : Item) → entry set text ≡ Some item → IsTrue (fits set item)
entry_fits set text item is =
    let one = some_then _ (entries.item_of set.kind text) item is in
    fitting set one.0 item (fits set one.0) refl one.2

-- an entry that is read fits its set, whose entries come without a timeout
pub item_fits : (set : IpSet) (text : List ℕ) (item : Item) → item_of set text ≡ Ok item → (set.timeout ≡ false) × IsTrue (fits set item)
unfolding item_of
item_fits set text item is = by set.timeout refl is
  where
    by : (timed : Bool) → set.timeout ≡ timed → (if timed then refused code.IpsetWithTimeout set.name else item_from text (entry set text)) ≡ Ok item → (set.timeout ≡ false) × IsTrue (fits set item)
    by true timed found = cc
    by false timed found = (timed, entry_fits set text item (from_entry text (entry set text) item found))

pub items_fit : (set : IpSet) (texts : List (List ℕ)) (items : List Item) → items_of set texts ≡ Ok items → Each (λ (item : Item). IsTrue (fits set item)) items
items_fit set [] items is = subst (Each (λ (item : Item). IsTrue (fits set item))) (inner [] items is) tt
items_fit set (text ∷ texts) items is =
    let first = then_ok _ (item_of set text) items is in
    let others = then_ok _ (items_of set texts) items first.2 in
    subst (Each (λ (item : Item). IsTrue (fits set item))) (inner (first.0 ∷ others.0) items others.2) ((item_fits set text first.0 first.1).1, items_fit set texts others.0 others.1)

-- What a call wants of an entry, by what `read_item` answered; and of entries, those so far and then those that are left.
use Rattle.std.proofs.Common.{◌≡◌, ℕ, Bool, true, false, if◌then◌else◌, List, ◌++◌, Option, None, Some, Result, Ok, Err, refl}
use Rattle.std.specs.Option.{ok_or}
use Rattle.fw_act.specs.Acts.{refused, result_and_then}
use Rattle.fw_calls.specs.declared.reply.Refusal.{Refusal}
use Rattle.fw_ipset.specs.declared.error.SetError.{SetError}
use Rattle.fw_ipset.specs.declared.error.SetError.TheVariants as error
use Rattle.fw_ipset_members.specs.Items.{item_from}
use Rattle.fw_model.specs.declared.code.Code.TheVariants as code
use Rattle.fw_model.specs.declared.ipset.Item.{Item}

abbrev answered : Bool → Option Item → Result Item SetError
answered timeout found = if timeout then Err error.IpsetWithTimeout else ok_or found error.InvalidEntry

abbrev wanted : Bool → (name text : List ℕ) → Option Item → Result Item Refusal
wanted timeout name text found = if timeout then refused code.IpsetWithTimeout name else item_from text found

pub wanted_ok : (timeout : Bool) (name text : List ℕ) (found : Option Item) (item : Item) → Ok item ≡ answered timeout found → wanted timeout name text found ≡ Ok item
wanted_ok true name text found item is = cc
wanted_ok false name text None item is = cc
wanted_ok false name text (Some one) item is = cc

pub wanted_timeout : (timeout : Bool) (name text : List ℕ) (found : Option Item) → Err error.IpsetWithTimeout ≡ answered timeout found → wanted timeout name text found ≡ refused code.IpsetWithTimeout name
wanted_timeout true name text found is = refl
wanted_timeout false name text None is = cc
wanted_timeout false name text (Some one) is = cc

pub wanted_invalid : (timeout : Bool) (name text : List ℕ) (found : Option Item) → Err error.InvalidEntry ≡ answered timeout found → wanted timeout name text found ≡ refused code.InvalidEntry text
wanted_invalid true name text found is = cc
wanted_invalid false name text None is = refl
wanted_invalid false name text (Some one) is = cc

abbrev pub behind : List Item → Result (List Item) Refusal → Result (List Item) Refusal
behind items found = result_and_then (λ rest. Ok (items ++ rest)) found

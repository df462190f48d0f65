-- Entries of ipsets as the arguments of calls name them, and lists of them (firewalld.ipset(5), `entry`).
use Rattle.std.specs.Prelude.{ℕ, Bool, not, if◌then◌else◌, List, [], ◌∷◌, ◌++◌, filter, fold, Option, None, Some, Result, Ok, Err}
use Rattle.fw_addr.specs.Hardware.{mac_text}
use Rattle.fw_addr.specs.Nets.{net_text}
use Rattle.fw_answer.specs.Equal.{same_item}
use Rattle.fw_answer.specs.Lists.{is_in, without}
use Rattle.fw_act.specs.Acts.{◌>>=◌, refused}
use Rattle.fw_calls.specs.declared.reply.Refusal.{Refusal}
use Rattle.fw_ipset.specs.Entries.{entry, with_items}
use Rattle.fw_model.specs.declared.code.Code.{Code}
use Rattle.fw_model.specs.declared.code.Code.TheVariants as code
use Rattle.fw_model.specs.declared.ipset.IpSet.{IpSet}
use Rattle.fw_model.specs.declared.ipset.Item.{Item}
use Rattle.fw_model.specs.declared.ipset.Item.TheVariants as item

abbrev pub item_from : (text : List ℕ) → Option Item → Result Item Refusal
item_from text None = refused code.InvalidEntry text
item_from text (Some item) = Ok item

-- the entry that a text says; a set whose entries come with a timeout takes none
unfoldable pub item_of : IpSet → (text : List ℕ) → Result Item Refusal
item_of set text = if set.timeout then refused code.IpsetWithTimeout set.name else item_from text (entry set text)

-- the entries that texts say, or the first refusal
abbrev pub items_of : IpSet → (texts : List (List ℕ)) → Result (List Item) Refusal
items_of set [] = Ok []
items_of set (text ∷ texts) = do
  item ← item_of set text
  items ← items_of set texts
  Ok (item ∷ items)

-- an entry's canonical text
abbrev pub item_text : Item → List ℕ
item_text (item.Net net) = net_text net
item_text (item.Mac mac) = mac_text mac

-- whether a set holds an item
abbrev pub holds : IpSet → Item → Bool
holds set item = is_in same_item item set.items

-- a set with one item more, the last; and a set without one
abbrev pub added : IpSet → Item → Result IpSet Code
added set item = if holds set item then Err code.AlreadyEnabled else Ok (with_items set (set.items ++ item ∷ []))

abbrev pub removed : IpSet → Item → Result IpSet Code
removed set item = if holds set item then Ok (with_items set (without same_item item set.items)) else Err code.NotEnabled

-- the items that are none of the others
abbrev pub none_of : (others items : List Item) → List Item
none_of others items = filter (λ item. not (is_in same_item item others)) items

-- an item more, unless it is there
abbrev pub with_new : List Item → Item → List Item
with_new items item = if is_in same_item item items then items else items ++ item ∷ []

-- the items of a list, each once, at its first place
abbrev pub each_once : List Item → List Item
each_once items = fold with_new [] items

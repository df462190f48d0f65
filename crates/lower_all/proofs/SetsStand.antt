-- The sets of a ruleset hold what the ipsets of a valid configuration hold.
use Rattle.std.proofs.Common.{◌≡◌, ◌≢◌, ◌∙◌, ◌==◌, ℕ, Bool, true, false, not, ◌&&◌, ◌||◌, List, [], ◌∷◌, map, Option, None, Some, inl, inr, refl, sym, ap, subst, AllPairs}
use Rattle.std.proofs.lemmas.Slice.Eq.{bytes_eq-Decides}
use Rattle.std.specs.Prelude.{IsTrue, if◌then◌else◌}
use Rattle.std.specs.List.{flat_map, list_any}
use Rattle.std.specs.Str.{bytes_eq}
use Rattle.fw_addr.specs.Subnets.{Subnet, agree, family, in_net}
use Rattle.fw_addr.specs.declared.addr.Addr.{Addr}
use Rattle.fw_addr.specs.declared.addr.Addr.TheVariants.{V4, V6}
use Rattle.fw_addr.specs.declared.packet.Family.{Family}
use Rattle.fw_addr.specs.declared.packet.Family.TheVariants as families
use Rattle.fw_hits.specs.Sources.{entries_hold, is_of_family, item_has_address, item_has_mac}
use Rattle.fw_ipset.specs.Entries.{fits, is_same_family, may_hold}
use Rattle.fw_model.specs.declared.config.Config.{Config}
use Rattle.fw_model.specs.declared.ipset.Item.{Item}
use Rattle.fw_model.specs.declared.ipset.Item.TheVariants as item
use Rattle.fw_model.specs.declared.ipset.SetKind.{SetKind}
use Rattle.fw_model.specs.declared.ipset.SetKind.TheVariants as kind
use Rattle.fw_valid.specs.Each.{Each}
use Rattle.fw_valid.specs.Names.{AreNamed}
use Rattle.fw_valid.specs.Sets.{IsSet}
use Rattle.fw_zone.specs.Lists.{IsIn}
use Rattle.lower_all.specs.Joined.{AreSetsOf, body_of, mac_of, net_of, set_of}
use Rattle.lower_all.proofs.Among.{left}
use Rattle.lower_all.proofs.Distinct.{each_of}
use Rattle.lower_all.proofs.Found.{is_in_again}
use Rattle.lower_all.proofs.Named.{sets_apart}
use Rattle.lower_blocks.proofs.Lists.{in_map, pairs_head, pairs_tail}
use Rattle.lower_match.specs.Lowers.{EachStands, set_name}
use Rattle.nf_eval.specs.Sets.{has_address, has_mac}
use Rattle.nf_eval.specs.Tests.{is_from_set}
use Rattle.nf_rules.specs.declared.set.NfSet.{NfSet}
use Rattle.nf_rules.specs.declared.set.SetBody.{SetBody}

or_false : (one : Bool) → (one || false) ≡ one
or_false true = refl
or_false false = refl

-- a set of another name says nothing
others_say_nothing : (asked : NfSet → Bool) (name : List ℕ) (items : List NfSet) → ((other : NfSet) → IsIn other items → other.name ≢ name)
    → list_any (λ (set : NfSet). bytes_eq set.name name && asked set) items ≡ false
others_say_nothing asked name [] differ = refl
others_say_nothing asked name (first ∷ others) differ =
    ap (λ (hit : Bool). (hit && asked first) || list_any (λ (set : NfSet). bytes_eq set.name name && asked set) others) (unlike (bytes_eq first.name name) refl)
    ∙ others_say_nothing asked name others (λ other there. differ other (inr there))
  where
    unlike : (hit : Bool) → bytes_eq first.name name ≡ hit → hit ≡ false
    unlike false is = refl
    unlike true is = absurd (differ first (inl refl) ((bytes_eq-Decides first.name name).0 is))

same_name : (one : List ℕ) → bytes_eq one one ≡ true
same_name one = (bytes_eq-Decides one one).1 refl

-- what sets of a name say is what the one of that name says
one_says : (asked : NfSet → Bool) (items : List NfSet) (set : NfSet) → AllPairs (λ (one other : NfSet). one.name ≢ other.name) items → IsIn set items
    → list_any (λ (one : NfSet). bytes_eq one.name set.name && asked one) items ≡ asked set
one_says asked [] set apart there = absurd there
one_says asked (first ∷ others) set apart (inl same) =
    subst (λ (one : NfSet). list_any (λ (it : NfSet). bytes_eq it.name one.name && asked it) (first ∷ others) ≡ asked one) same
    (ap (λ (hit : Bool). (hit && asked first) || list_any (λ (it : NfSet). bytes_eq it.name first.name && asked it) others) (same_name first.name)
    ∙ ap (λ (rest : Bool). asked first || rest)
    (others_say_nothing asked first.name others (λ other there is. pairs_head (λ (one other : NfSet). one.name ≢ other.name) first others apart other there (sym is)))
    ∙ or_false (asked first))
one_says asked (first ∷ others) set apart (inr there) =
    ap (λ (hit : Bool). (hit && asked first) || list_any (λ (it : NfSet). bytes_eq it.name set.name && asked it) others) (unlike (bytes_eq first.name set.name) refl)
    ∙ one_says asked others set (pairs_tail (λ (one other : NfSet). one.name ≢ other.name) first others apart) there
  where
    unlike : (hit : Bool) → bytes_eq first.name set.name ≡ hit → hit ≡ false
    unlike false is = refl
    unlike true is = absurd (pairs_head (λ (one other : NfSet). one.name ≢ other.name) first others apart set there ((bytes_eq-Decides first.name set.name).0 is))

-- nets among items
nets_hold : (address : Addr) (items : List Item) → list_any (λ (net : Subnet). in_net net address) (flat_map net_of items) ≡ list_any (item_has_address address) items
nets_hold address [] = refl
nets_hold address (item.Net net ∷ items) = ap (λ (rest : Bool). in_net net address || rest) (nets_hold address items)
nets_hold address (item.Mac mac ∷ items) = nets_hold address items

-- hardware addresses among them
macs_hold : (mac : ℕ) (items : List Item) → list_any (λ (one : ℕ). one == mac) (flat_map mac_of items) ≡ list_any (item_has_mac (Some mac)) items
macs_hold mac [] = refl
macs_hold mac (item.Net net ∷ items) = macs_hold mac items
macs_hold mac (item.Mac one ∷ items) = ap (λ (rest : Bool). one == mac || rest) (macs_hold mac items)

no_mac : (items : List Item) → list_any (item_has_mac None) items ≡ false
no_mac [] = refl
no_mac (item.Net net ∷ items) = no_mac items
no_mac (item.Mac one ∷ items) = no_mac items

-- a net of a family holds addresses of that family alone
other_family : (of : Family) (prefix : ℕ) (network address : Addr) → is_same_family (family network) of ≡ true → is_of_family of address ≡ false
    → agree prefix network address ≡ false
other_family families.V4 prefix (V4 n) (V4 m) same other = cc
other_family families.V4 prefix (V4 n) (V6 m) same other = refl
other_family families.V4 prefix (V6 n) address same other = cc
other_family families.V6 prefix (V4 n) address same other = cc
other_family families.V6 prefix (V6 n) (V4 m) same other = refl
other_family families.V6 prefix (V6 n) (V6 m) same other = cc

-- an item that is a net is of a family
abbrev IsOf : Family → Item → Type 0
IsOf of (item.Net net) = is_same_family (family net.address) of ≡ true
IsOf of (item.Mac mac) = Unit {0}

fits_family : (held : SetKind) (of : Family) (it : Item) → may_hold held of it ≡ true → IsOf of it
fits_family kind.Ip of (item.Net net) fits = left (is_same_family (family net.address) of) _ fits
fits_family kind.Net of (item.Net net) fits = fits
fits_family kind.Mac of (item.Net net) fits = cc
fits_family held of (item.Mac mac) fits = tt

none_of_family : (of : Family) (address : Addr) (items : List Item) → ((it : Item) → IsIn it items → IsOf of it) → is_of_family of address ≡ false
    → list_any (item_has_address address) items ≡ false
none_of_family of address [] each other = refl
none_of_family of address (item.Net net ∷ items) each other =
    ap (λ (hit : Bool). hit || list_any (item_has_address address) items) (other_family of net.prefix net.address address (each (item.Net net) (inl refl)) other)
    ∙ none_of_family of address items (λ it there. each it (inr there)) other
none_of_family of address (item.Mac mac ∷ items) each other = none_of_family of address items (λ it there. each it (inr there)) other

and_any : (of any : Bool) → (of ≡ false → any ≡ false) → (of && any) ≡ any
and_any true any none = refl
and_any false any none = sym (none refl)

-- what a set says of a sender's hardware address
abbrev body_from : Option ℕ → SetBody → Bool
body_from None made = false
body_from (Some mac) made = has_mac mac made

nets_held : (of : Family) (address : Addr) (items : List Item) → ((it : Item) → IsIn it items → IsOf of it)
    → (is_of_family of address && list_any (item_has_address address) items) ≡ (list_any (λ (net : Subnet). in_net net address) (flat_map net_of items) || false)
nets_held of address items each =
    and_any (is_of_family of address) (list_any (item_has_address address) items) (none_of_family of address items each)
    ∙ sym (or_false (list_any (λ (net : Subnet). in_net net address) (flat_map net_of items)) ∙ nets_hold address items)

held_by : (timeout : Bool) (held : SetKind) (of : Family) (items : List Item) (address : Addr) (mac : Option ℕ)
    → ((it : Item) → IsIn it items → may_hold held of it ≡ true)
    → (not timeout && entries_hold held of items address mac)
    ≡ (has_address address (body_of held (if timeout then [] else items)) || body_from mac (body_of held (if timeout then [] else items)))
held_by true kind.Ip of items address None fit = refl
held_by true kind.Ip of items address (Some mac) fit = refl
held_by true kind.Net of items address None fit = refl
held_by true kind.Net of items address (Some mac) fit = refl
held_by true kind.Mac of items address None fit = refl
held_by true kind.Mac of items address (Some mac) fit = refl
held_by false kind.Ip of items address None fit = nets_held of address items (λ it there. fits_family kind.Ip of it (fit it there))
held_by false kind.Ip of items address (Some mac) fit = nets_held of address items (λ it there. fits_family kind.Ip of it (fit it there))
held_by false kind.Net of items address None fit = nets_held of address items (λ it there. fits_family kind.Net of it (fit it there))
held_by false kind.Net of items address (Some mac) fit = nets_held of address items (λ it there. fits_family kind.Net of it (fit it there))
held_by false kind.Mac of items address None fit = no_mac items
held_by false kind.Mac of items address (Some mac) fit = sym (macs_hold mac items)

pub sets_stand : (config : Config) (sets : List NfSet) → AreSetsOf config sets → AreNamed config → Each IsSet config.ipsets → EachStands config.ipsets sets
sets_stand config sets are named each ipset listed address mac =
    held_by ipset.timeout ipset.kind ipset.family ipset.items address mac
    (each_of (λ (it : Item). IsTrue (fits ipset it)) ipset.items (each_of IsSet config.ipsets each ipset listed).items_fit)
    ∙ sym
    (ap (λ (hit : Bool). hit || is_from_set sets (set_name ipset.name) mac) (one_says (λ (set : NfSet). has_address address set.body) sets (set_of ipset) apart there)
    ∙ ap (λ (hit : Bool). has_address address (set_of ipset).body || hit) (from mac))
  where
    apart : AllPairs (λ (one other : NfSet). one.name ≢ other.name) sets
    apart = sets_apart config sets are named

    there : IsIn (set_of ipset) sets
    there = is_in_again (map set_of config.ipsets) sets are.all (set_of ipset) (in_map set_of ipset config.ipsets listed)

    from : (asked : Option ℕ) → is_from_set sets (set_name ipset.name) asked ≡ body_from asked (set_of ipset).body
    from None = refl
    from (Some one) = one_says (λ (set : NfSet). has_mac one set.body) sets (set_of ipset) apart there

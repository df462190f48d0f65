-- Which keys were seen: those of the items so far.
use Rattle.std.proofs.Common.{◌≡◌, ◌∙◌, ℕ, ◌⊎◌, ◌↔◌, inl, inr, Bool, true, false, cond, not, List, [], ◌∷◌, ◌++◌, IsTrue, refl, sym, ap, subst}
use Rattle.std.proofs.lemmas.Bool.{both_ways, cases_Bool, false≢true}
use Rattle.std.specs.List.{list_any}
use Rattle.std.specs.HashSet as bag
use Rattle.std.specs.HashSet.{HashSet}
use Rattle.fw_addr.specs.Subnets.{Subnet}
use Rattle.fw_addr.specs.declared.addr.Addr.{Addr}
use Rattle.fw_addr.specs.declared.addr.Addr.TheVariants as addr
use Rattle.fw_ipset.specs.Keys.{key, net_key}
use Rattle.fw_ipset.specs.contracts.once.KeyPartialEq.TheImpl as key_eq
use Rattle.fw_ipset.specs.Once.{IsKeptOnce}
use Rattle.fw_ipset.specs.Once.IsKeptOnce.{first, repeated}
use Rattle.fw_ipset.specs.declared.once.Key.{Key}
use Rattle.fw_ipset.specs.declared.once.Key.TheVariants as keys
use Rattle.fw_model.specs.declared.ipset.Item.{Item}
use Rattle.fw_model.specs.declared.ipset.Item.TheVariants as item
use Rattle.fw_zone.specs.Lists.{IsIn}
use Rattle.std.proofs.Common.{eqb}
use Rattle.std.proofs.lemmas.Bool.Decides.{nat_tests}
use Rattle.std.proofs.Common.{arith}

-- whether two keys are equal
abbrev pub same : Key → Key → Bool
same = (key_eq.ghosts).eq

-- equal keys are the same
same_decides : (one other : Key) → ((same one other ≡ true) → one ≡ other) × (one ≡ other → same one other ≡ true)
same_decides (keys.V4 n m) (keys.V4 n' m') = ((λ is. grind (arith, nat_tests)), (λ is. grind (arith, nat_tests)))
same_decides (keys.V6 n m) (keys.V6 n' m') = ((λ is. grind (arith, nat_tests)), (λ is. grind (arith, nat_tests)))
same_decides (keys.Mac n) (keys.Mac n') = ((λ is. grind (arith, nat_tests)), (λ is. grind (arith, nat_tests)))
same_decides (keys.V4 n m) (keys.V6 n' m') = ((λ is. cc), (λ is. cc))
same_decides (keys.V4 n m) (keys.Mac n') = ((λ is. cc), (λ is. cc))
same_decides (keys.V6 n m) (keys.V4 n' m') = ((λ is. cc), (λ is. cc))
same_decides (keys.V6 n m) (keys.Mac n') = ((λ is. cc), (λ is. cc))
same_decides (keys.Mac n) (keys.V4 n' m') = ((λ is. cc), (λ is. cc))
same_decides (keys.Mac n) (keys.V6 n' m') = ((λ is. cc), (λ is. cc))

subnet_from : (one other : Subnet) → one.address ≡ other.address → one.prefix ≡ other.prefix → one ≡ other
subnet_from one other address prefix = λ i. record { address = address i; prefix = prefix i }

net_from_key : (a b : Addr) (m n : ℕ) → net_key a m ≡ net_key b n → (a ≡ b) × (m ≡ n)
net_from_key (addr.V4 a) (addr.V4 b) m n is = (cc, cc)
net_from_key (addr.V4 a) (addr.V6 b) m n is = cc
net_from_key (addr.V6 a) (addr.V4 b) m n is = cc
net_from_key (addr.V6 a) (addr.V6 b) m n is = (cc, cc)

net_is_no_mac : (a : Addr) (m n : ℕ) → net_key a m ≡ keys.Mac n → ⊥
net_is_no_mac (addr.V4 a) m n is = cc
net_is_no_mac (addr.V6 a) m n is = cc

-- items of equal keys are the same
item_from_key : (one other : Item) → key one ≡ key other → one ≡ other
item_from_key (item.Net one) (item.Net other) is =
    let parts = net_from_key one.address other.address one.prefix other.prefix is in
    ap item.Net (subnet_from one other parts.0 parts.1)
item_from_key (item.Net one) (item.Mac other) is = absurd (net_is_no_mac one.address one.prefix other is)
item_from_key (item.Mac one) (item.Net other) is = absurd (net_is_no_mac other.address other.prefix one (sym is))
item_from_key (item.Mac one) (item.Mac other) is = cc

pub record HasSeen {S : Type 0} (seen : HashSet Key S) (items : List Item) : Type 0 where
  pub sound : (item : Item) → bag.contains same seen (key item) ≡ true → IsIn item items
  pub whole : (item : Item) → IsIn item items → bag.contains same seen (key item) ≡ true

in_front : {A : Type 0} (xs ys : List A) (item : A) → IsIn item xs → IsIn item (xs ++ ys)
in_front [] ys item found = absurd found
in_front (x ∷ xs) ys item (inl here) = inl here
in_front (x ∷ xs) ys item (inr found) = inr (in_front xs ys item found)

at_end : {A : Type 0} (xs : List A) (item : A) → IsIn item (xs ++ item ∷ [])
at_end [] item = inl refl
at_end (x ∷ xs) item = inr (at_end xs item)

in_pushed : {A : Type 0} (xs : List A) (last item : A) → IsIn item (xs ++ last ∷ []) → IsIn item xs ⊎ (last ≡ item)
in_pushed [] last item (inl here) = inr here
in_pushed [] last item (inr found) = absurd found
in_pushed (x ∷ xs) last item (inl here) = inl (inl here)
in_pushed (x ∷ xs) last item (inr found) = elim (in_pushed xs last item found) [ inl before ↦ inl (inr before) | inr here ↦ inr here ]

-- one item more
pub seen_more : {S : Type 0} (seen new : HashSet Key S) (items : List Item) (item : Item) → HasSeen seen items
    → ((other : Key) → bag.contains same new other ≡ cond (same (key item) other) true (bag.contains same seen other))
    → HasSeen new (items ++ item ∷ [])
seen_more seen new items item has updates = record {
  sound = λ other is. elim (cases_Bool (same (key item) (key other))) [
    | inl same_key ↦ subst (λ (one : Item). IsIn one (items ++ item ∷ [])) (item_from_key item other ((same_decides (key item) (key other)).0 same_key)) (at_end items item)
    | inr differs ↦ in_front items (item ∷ []) other (has.sound other (sym (ap (λ test. cond test true (bag.contains same seen (key other))) differs) ∙ sym (updates (key other)) ∙ is))
  ];
  whole = λ other found. updates (key other) ∙ elim (in_pushed items item other found) as (λ _. cond (same (key item) (key other)) true (bag.contains same seen (key other)) ≡ true) [
    | inl before ↦ elim (cases_Bool (same (key item) (key other))) [
      | inl same_key ↦ ap (λ test. cond test true (bag.contains same seen (key other))) same_key
      | inr differs ↦ ap (λ test. cond test true (bag.contains same seen (key other))) differs ∙ has.whole other before
    ]
    | inr here ↦ ap (λ test. cond test true (bag.contains same seen (key other))) ((same_decides (key item) (key other)).1 (ap key here))
  ];
}

-- an item whose key is new wasn't there, and one whose key isn't was
pub new_item : {S : Type 0} (seen : HashSet Key S) (items : List Item) (item : Item) → HasSeen seen items → true ≡ not (bag.contains same seen (key item)) → ¬ (IsIn item items)
new_item seen items item has is found = let held = has.whole item found in cc

pub old_item : {S : Type 0} (seen : HashSet Key S) (items : List Item) (item : Item) → HasSeen seen items → false ≡ not (bag.contains same seen (key item)) → IsIn item items
old_item seen items item has is = has.sound item (elim (cases_Bool (bag.contains same seen (key item))) [ inl held ↦ held | inr free ↦ cc ])

-- at first nothing was seen
pub none_seen : {S : Type 0} (seen : HashSet Key S) → seen.keys ≡ [] → HasSeen seen []
none_seen seen empty = record {
  sound = λ item is. absurd (false≢true (ap (λ keys. list_any (same (key item)) keys) (sym empty) ∙ is));
  whole = λ item never. absurd never;
}

-- an item whose key was put in, and was new
pub keep_first : {S : Type 0} (seen new : HashSet Key S) (items kept old : List Item) (item : Item) (k : Key) (added : Bool) → HasSeen seen items → IsKeptOnce items old
    → k ≡ key item → added ≡ not (bag.contains same seen k) → added ≡ true → kept ≡ old ++ item ∷ [] → IsKeptOnce (items ++ item ∷ []) kept
keep_first seen new items kept old item k added has once is answered was_new pushed =
    subst (λ (list : List Item). IsKeptOnce (items ++ item ∷ []) list) (sym pushed)
    (first item once (new_item seen items item has (sym was_new ∙ answered ∙ ap (λ one. not (bag.contains same seen one)) is)))

-- and one that wasn't
pub keep_no_more : {S : Type 0} (seen new : HashSet Key S) (items old : List Item) (item : Item) (k : Key) (added : Bool) → HasSeen seen items → IsKeptOnce items old
    → k ≡ key item → added ≡ not (bag.contains same seen k) → added ≡ false → IsKeptOnce (items ++ item ∷ []) old
keep_no_more seen new items old item k added has once is answered was_there =
    repeated item once (old_item seen items item has (sym was_there ∙ answered ∙ ap (λ one. not (bag.contains same seen one)) is))

pub seen_now : {S : Type 0} (seen new : HashSet Key S) (items : List Item) (item : Item) (k : Key) → HasSeen seen items → k ≡ key item
    → ((other : Key) → bag.contains same new other ≡ cond (same k other) true (bag.contains same seen other)) → HasSeen new (items ++ item ∷ [])
seen_now seen new items item k has is updates =
    seen_more seen new items item has (λ other. updates other ∙ ap (λ one. cond (same one other) true (bag.contains same seen other)) is)

-- an item whose key was seen is one of the items, and one whose key wasn't is none of them
pub is_among : {S : Type 0} (seen : HashSet Key S) (items : List Item) (item : Item) (k : Key) (found : Bool) → HasSeen seen items → k ≡ key item → found ≡ bag.contains same seen k → found ≡ true → IsIn item items
is_among seen items item k found has is answered was = has.sound item (sym (ap (λ one. bag.contains same seen one) is) ∙ sym answered ∙ was)

pub is_not_among : {S : Type 0} (seen : HashSet Key S) (items : List Item) (item : Item) (k : Key) (found : Bool) → HasSeen seen items → k ≡ key item → found ≡ bag.contains same seen k → found ≡ false → ¬ (IsIn item items)
is_not_among seen items item k found has is answered was among =
    false≢true (sym was ∙ answered ∙ ap (λ one. bag.contains same seen one) is ∙ has.whole item among)

-- How many links lead on from chains.
use Rattle.std.proofs.Common.{◌≡◌, ℕ, zero, suc, ◌+◌, ◌<◌, ◌≤◌, ◌⊎◌, inl, inr, List, [], ◌∷◌, ◌++◌, Option, None, Some, IsTrue, MatchOption, is_some, ◌↔◌, length, max, slice_get, slice_set, take, refl, sym, ap, subst, ◌∙◌, add-one, append_assoc, append-nil, arith}
use Rattle.std.specs.List.{flat_map, position_or_len}
use Rattle.std.specs.Str.{bytes_eq}
use Rattle.std.proofs.lemmas.Cmp.{nat_list_cmp_total, tied_itself}
use Rattle.std.proofs.lemmas.List.Folds.{find_at}
use Rattle.std.proofs.lemmas.Option.{slice_get_within}
use Rattle.std.proofs.lemmas.Bool.{cases_lt}
use Rattle.nf_rules.specs.declared.chain.Chain.{Chain}
use Rattle.nf_rules.specs.declared.ruleset.Ruleset.{Ruleset}
use Rattle.nf_sound.proofs.Order.{called_at, called_name}
use Rattle.nf_sound.specs.Links.{Knows, LeadsOn, Longest, MostLinks}
use Rattle.nf_sound.specs.Names.{AreByName, chain_of}
use Rattle.nf_sound.specs.Sound.{AreShort, IsIn, IsShort, Path, max_links}
use Rattle.nf_sound.specs.Sound.Path.{stays, link}
use Rattle.nf_sound.specs.Targets.{rule_targets}

-- what is in one list is in both joined, and the other way round
pub in_front : (name : List ℕ) (xs ys : List (List ℕ)) → IsIn name xs → IsIn name (xs ++ ys)
in_front name [] ys is = absurd is
in_front name (x ∷ xs) ys (inl here) = inl here
in_front name (x ∷ xs) ys (inr is) = inr (in_front name xs ys is)

pub behind : (name : List ℕ) (xs ys : List (List ℕ)) → IsIn name ys → IsIn name (xs ++ ys)
behind name [] ys is = is
behind name (x ∷ xs) ys is = inr (behind name xs ys is)

pub in_one : (name : List ℕ) (xs ys : List (List ℕ)) → IsIn name (xs ++ ys) → IsIn name xs ⊎ IsIn name ys
in_one name [] ys is = inr is
in_one name (x ∷ xs) ys (inl here) = inl (inl here)
in_one name (x ∷ xs) ys (inr is) = elim (in_one name xs ys is) [ inl is ↦ inl (inr is) | inr is ↦ inr is ]

-- a path has a front of each lesser length
pub shorter : (rules : Ruleset) {name : List ℕ} {links : ℕ} (fewer : ℕ) → fewer ≤ links → Path rules name links → Path rules name fewer
shorter rules zero le path = stays
shorter rules (suc fewer) le stays = absurd (omega arith)
shorter rules (suc fewer) le (link found among path) = link found among (shorter rules fewer (omega arith) path)

pub most_none : (rules : Ruleset) → MostLinks rules [] 0
most_none rules = record { bound = λ to links among path. absurd among; reached = inl refl }

-- more than may be, in one of two lists
pub leads_front : (rules : Ruleset) (xs ys : List (List ℕ)) (links : ℕ) → LeadsOn rules xs links → LeadsOn rules (xs ++ ys) links
leads_front rules xs ys links leads = record { to = leads.to; among = in_front leads.to xs ys leads.among; path = leads.path }

pub leads_behind : (rules : Ruleset) (xs ys : List (List ℕ)) (links : ℕ) → LeadsOn rules ys links → LeadsOn rules (xs ++ ys) links
leads_behind rules xs ys links leads = record { to = leads.to; among = behind leads.to xs ys leads.among; path = leads.path }

-- the most of two lists is the greater
pub most_joined : (rules : Ruleset) (xs ys : List (List ℕ)) (one other most : ℕ) → MostLinks rules xs one → MostLinks rules ys other → one ≤ most → other ≤ most → (most ≡ one) ⊎ (most ≡ other) → MostLinks rules (xs ++ ys) most
most_joined rules xs ys one other most first second le le' which = record {
  bound = λ to links among path. (elim (in_one to xs ys among) [
    | inl is ↦ (let here = first.bound to links is path in omega arith)
    | inr is ↦ (let here = second.bound to links is path in omega arith)
  ]);
  reached = elim which [
    | inl same ↦ (elim first.reached [
      | inl none ↦ inl (omega arith)
      | inr some ↦ inr (some.0, omega (arith, some.1), leads_front rules xs ys some.0 some.2)
    ])
    | inr same ↦ (elim second.reached [
      | inl none ↦ inl (omega arith)
      | inr some ↦ inr (some.0, omega (arith, some.1), leads_behind rules xs ys some.0 some.2)
    ])
  ];
}

no_further : (rules : Ruleset) {name : List ℕ} {links : ℕ} → chain_of rules.chains name ≡ None → Path rules name links → links ≡ 0
no_further rules none stays = refl
no_further rules none (link found among path) = cc

-- a name that no chain has
pub most_astray : (rules : Ruleset) (name : List ℕ) → chain_of rules.chains name ≡ None → MostLinks rules (name ∷ []) 1
most_astray rules name none = record {
  bound = λ to links among path. (elim among [
    | inl here ↦ (let is_none : chain_of rules.chains to ≡ None = rw (← here) none in omega (arith, no_further rules is_none path))
    | inr nowhere ↦ absurd nowhere
  ]);
  reached = inr (0, refl, record { to = name; among = inl refl; path = stays });
}

pub along : (rules : Ruleset) {name : List ℕ} {links : ℕ} (chain : Chain) (most : ℕ) → chain_of rules.chains name ≡ Some chain → MostLinks rules (rule_targets rules.maps chain.rules) most → Path rules name links → links ≤ most
along rules chain most found there stays = omega arith
along rules chain most found there (link {to = to} {chain = other} {links = links} found' among path) =
    let same : other ≡ chain = cc in
    there.bound to links (subst (λ (one : Chain). IsIn to (rule_targets rules.maps one.rules)) same among) path

-- a link to a chain, and what leads on from there
pub most_further : (rules : Ruleset) (name : List ℕ) (chain : Chain) (most : ℕ) → chain_of rules.chains name ≡ Some chain → MostLinks rules (rule_targets rules.maps chain.rules) most → MostLinks rules (name ∷ []) (most + 1)
most_further rules name chain most found there = record {
  bound = λ to links among path. (elim among [
    | inl here ↦ (let is_chain : chain_of rules.chains to ≡ Some chain = rw (← here) found in omega (arith, along rules chain most is_chain there path))
    | inr nowhere ↦ absurd nowhere
  ]);
  reached = elim there.reached [
    | inl none ↦ inr (0, omega arith, record { to = name; among = inl refl; path = stays })
    | inr some ↦ inr (suc some.0, omega (arith, some.1), record { to = name; among = inl refl; path = link found some.2.among some.2.path })
  ];
}

-- more than may be lead on from a chain, so one more from its name
pub leads_further : (rules : Ruleset) (name : List ℕ) (chain : Chain) (links left : ℕ) → suc links ≡ left → chain_of rules.chains name ≡ Some chain → LeadsOn rules (rule_targets rules.maps chain.rules) links → LeadsOn rules (name ∷ []) left
leads_further rules name chain links left one_more found leads =
    subst (λ (n : ℕ). LeadsOn rules (name ∷ []) n) one_more (record { to = name; among = inl refl; path = link found leads.among leads.path })

-- the most are more than may be
pub too_many : (rules : Ruleset) (names : List (List ℕ)) (most left : ℕ) → left < most → MostLinks rules names most → LeadsOn rules names left
too_many rules names most left more all = elim all.reached [
  | inl none ↦ absurd (omega arith)
  | inr some ↦ record { to = some.2.to; among = some.2.among; path = shorter rules left (omega (arith, some.1)) some.2.path }
]

which_max : (one other : ℕ) → (max other one ≡ one) ⊎ (max other one ≡ other)
which_max one other = elim (cases_lt one other) [ inl lt ↦ inr (omega arith) | inr le ↦ inl (omega arith) ]

take_one_more : (names : List (List ℕ)) (i : ℕ) (name : List ℕ) → slice_get names i ≡ Some name → take (i + 1) names ≡ take i names ++ name ∷ []
take_one_more [] i name at = cc
take_one_more (first ∷ names) zero name at = let here : first ≡ name = cc in rw here refl
take_one_more (first ∷ names) (suc i) name at = rw add-one (ap (λ rest. first ∷ rest) (rw add-one at (take_one_more names i name at)))

-- one more of a list whose items lead to names
flat_map-take_more : {X : Type 0} (f : X → List (List ℕ)) (xs : List X) (i : ℕ) (x : X) → slice_get xs i ≡ Some x → flat_map f (take (i + 1) xs) ≡ flat_map f (take i xs) ++ f x
flat_map-take_more f [] i x at = cc
flat_map-take_more f (first ∷ xs) zero x at = let here : first ≡ x = cc in rw here (append-nil (f x))
flat_map-take_more f (first ∷ xs) (suc i) x at = rw add-one (ap (λ names. f first ++ names) (rw add-one at (flat_map-take_more f xs i x at)) ∙ sym (append_assoc (f first) (flat_map f (take i xs)) (f x)))

pub most_more : {X : Type 0} (rules : Ruleset) (f : X → List (List ℕ)) (xs : List X) (i : ℕ) (x : X) (one other : ℕ) → slice_get xs i ≡ Some x → MostLinks rules (flat_map f (take i xs)) one → MostLinks rules (f x) other → MostLinks rules (flat_map f (take (i + 1) xs)) (max other one)
most_more rules f xs i x one other at first second =
    rw (flat_map-take_more f xs i x at) (most_joined rules (flat_map f (take i xs)) (f x) one other (max other one) first second (omega arith) (omega arith) (which_max one other))

pub leads_among : {X : Type 0} (rules : Ruleset) (f : X → List (List ℕ)) (xs : List X) (i : ℕ) (x : X) (links : ℕ) → slice_get xs i ≡ Some x → LeadsOn rules (f x) links → LeadsOn rules (flat_map f xs) links
leads_among rules f [] i x links at leads = cc
leads_among rules f (first ∷ xs) zero x links at leads =
    let here : x ≡ first = cc in
    leads_front rules (f first) (flat_map f xs) links (subst (λ one. LeadsOn rules (f one) links) here leads)
leads_among rules f (first ∷ xs) (suc i) x links at leads = leads_behind rules (f first) (flat_map f xs) links (leads_among rules f xs i x links at leads)

-- one more of a list of names
pub most_name : (rules : Ruleset) (names : List (List ℕ)) (i : ℕ) (name : List ℕ) (one other : ℕ) → slice_get names i ≡ Some name → MostLinks rules (take i names) one → MostLinks rules (name ∷ []) other → MostLinks rules (take (i + 1) names) (max other one)
most_name rules names i name one other at first second =
    rw (take_one_more names i name at) (most_joined rules (take i names) (name ∷ []) one other (max other one) first second (omega arith) (omega arith) (which_max one other))

pub leads_name : (rules : Ruleset) (names : List (List ℕ)) (i : ℕ) (name : List ℕ) (links : ℕ) → slice_get names i ≡ Some name → LeadsOn rules (name ∷ []) links → LeadsOn rules names links
leads_name rules [] i name links at leads = cc
leads_name rules (first ∷ names) zero name links at leads =
    let here : name ≡ first = cc in
    leads_front rules (first ∷ []) names links (subst (λ one. LeadsOn rules (one ∷ []) links) here leads)
leads_name rules (first ∷ names) (suc i) name links at leads = leads_behind rules (first ∷ []) names links (leads_name rules names i name links at leads)

-- these names are followed: what is known so far is so, and they lead on by this many links at most
pub record HasFollowed (rules : Ruleset) (known : List (Option ℕ)) (names : List (List ℕ)) (left most : ℕ) : Type 0 where
  pub knows : Knows rules known
  pub within : most ≤ left
  pub all : MostLinks rules names most

set_one : (known : List (Option ℕ)) (place other most links : ℕ) → slice_get (slice_set known place (Some most)) other ≡ Some (Some links) → (slice_get known other ≡ Some (Some links)) ⊎ ((other ≡ place) × (most ≡ links))
set_one [] place other most links at = inl at
set_one (first ∷ known) zero zero most links at = inr (refl, cc)
set_one (first ∷ known) zero (suc other) most links at = inl at
set_one (first ∷ known) (suc place) zero most links at = inl at
set_one (first ∷ known) (suc place) (suc other) most links at = elim (set_one known place other most links at) [ inl before ↦ inl before | inr now ↦ inr (ap suc now.0, now.1) ]

-- what was noted of a chain, or one note more
pub knows_more : (rules : Ruleset) (known : List (Option ℕ)) (place most : ℕ) → Knows rules known → ((chain : Chain) → slice_get rules.chains place ≡ Some chain → MostLinks rules (rule_targets rules.maps chain.rules) most) → Knows rules (slice_set known place (Some most))
knows_more rules known place most knows all = record {
  is = λ other links one noted here. elim (set_one known place other most links noted) [
    | inl before ↦ knows.is other links one before here
    | inr now ↦ (
        let at_place : slice_get rules.chains place ≡ Some one = rw now.0 at here in
        subst (λ (n : ℕ). MostLinks rules (rule_targets rules.maps one.rules) n) now.1 (all one at_place)
        )
  ];
}

pub at_most_longest : (rules : Ruleset) (names : List (List ℕ)) (links left : ℕ) (found : Option ℕ) → MatchOption found (left < links) (λ one. (one ≡ links) × (links ≤ left)) → MostLinks rules names links → Longest rules names left found
at_most_longest rules names links left None more all = too_many rules names links left more all
at_most_longest rules names links left (Some one) is all = (omega (arith, is.0, is.1), rw is.0 all)

pub not_past : (names : List (List ℕ)) (i : ℕ) → i < length names → slice_get names i ≡ None → ⊥
not_past [] i within none = omega arith
not_past (name ∷ names) zero within none = cc
not_past (name ∷ names) (suc i) within none = not_past names i (omega arith) none

-- the longest path from a chain says whether all from it are short
pub longest_short : (rules : Ruleset) (place : ℕ) (chain : Chain) (answer : Option ℕ) → AreByName rules → slice_get rules.chains place ≡ Some chain → Longest rules (rule_targets rules.maps chain.rules) max_links answer → IsTrue (is_some answer) ↔ IsShort rules chain.name
longest_short rules place chain None by_name at leads = (
  λ is. cc,
  λ short. (
      let found : chain_of rules.chains chain.name ≡ Some chain = called_at (λ one. one.name) chain.name rules.chains place chain by_name.chains at (tied_itself nat_list_cmp_total chain.name) in
      let long = short (suc max_links) (link found leads.among leads.path) in
      absurd (omega (arith, long))
      ),
)
longest_short rules place chain (Some most) by_name at all = (
  λ is links path. (
      let found : chain_of rules.chains chain.name ≡ Some chain = called_at (λ one. one.name) chain.name rules.chains place chain by_name.chains at (tied_itself nat_list_cmp_total chain.name) in
      omega (arith, along rules chain most found all.1 path, all.0)
      ),
  λ short. refl,
)

-- where all chains have short paths, all paths are short
pub all_short : (rules : Ruleset) → ((place : ℕ) (chain : Chain) → place < length rules.chains → slice_get rules.chains place ≡ Some chain → IsShort rules chain.name) → AreShort rules
all_short rules each name zero path = omega arith
all_short rules each name (suc links) (link {chain = chain} found among path) =
    let place = position_or_len (λ one. bytes_eq one.name name) rules.chains in
    let at : slice_get rules.chains place ≡ Some chain = sym (find_at (λ one. bytes_eq one.name name) rules.chains) ∙ found in
    let same : chain.name ≡ name = called_name (λ one. one.name) name rules.chains chain found in
    let from_chain : Path rules chain.name (suc links) = rw same (link found among path) in
    each place chain (slice_get_within rules.chains place chain at) at (suc links) from_chain

pub some_at : (chains : List Chain) (place : ℕ) → place < length chains → (chain : Chain) × (slice_get chains place ≡ Some chain)
some_at [] place within = absurd (omega arith)
some_at (chain ∷ chains) zero within = (chain, refl)
some_at (chain ∷ chains) (suc place) within = some_at chains place (omega arith)

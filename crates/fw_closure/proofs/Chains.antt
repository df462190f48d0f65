-- Chains of includes: where one leads from a name to a name, a short one does.
use Rattle.std.proofs.Common.{◌≡◌, ℕ, zero, suc, ◌+◌, ◌≤◌, ◌<◌, ◌⊎◌, ◌↔◌, inl, inr, Bool, true, false, cond, ◌&&◌, ◌||◌, List, [], ◌∷◌, length, IsTrue, refl, sym, ap, subst, ◌∙◌, arith}
use Rattle.std.proofs.lemmas.Bool.{and_from, and_parts, cases_Bool, or_cases, or_from, or_left, or_right, or_parts, false≢true}
use Rattle.std.proofs.lemmas.Slice.Eq.{bytes_eq-Decides}
use Rattle.std.specs.List.{list_any}
use Rattle.std.specs.Str.{bytes_eq}
use Rattle.fw_closure.specs.Includes.{Includes, Reaches, reaches, reaches_within}
use Rattle.fw_closure.specs.Includes.Reaches.{itself, through}
use Rattle.fw_model.specs.declared.service.Service.{Service}
use Rattle.fw_zone.specs.Lists.{IsIn}

any_in : {A : Type 0} (test : A → Bool) (xs : List A) → list_any test xs ≡ true → (item : A) × IsIn item xs × (test item ≡ true)
any_in test [] is = absurd (false≢true is)
any_in test (x ∷ xs) is = elim (or_cases (test x) (list_any test xs) is) [
  | inl here ↦ (x, inl refl, here)
  | inr there ↦ let rest = any_in test xs there in (rest.0, inr rest.1, rest.2)
]

any_from : {A : Type 0} (test : A → Bool) (xs : List A) (item : A) → IsIn item xs → test item ≡ true → list_any test xs ≡ true
any_from test [] item found is = absurd found
any_from test (x ∷ xs) item (inl here) is = or_left (test x) (list_any test xs) (ap test here ∙ is)
any_from test (x ∷ xs) item (inr found) is = or_right (test x) (list_any test xs) (any_from test xs item found is)

-- one include more at the end of a chain
pub one_more : (services : List Service) (from between to : List ℕ) → Reaches services from between → Includes services between to → Reaches services from to
one_more services from between to itself last = through last itself
one_more services from between to (through first rest) last = through first (one_more services _ between to rest last)

-- what the test finds is a chain
pub chain_from_test : (most : ℕ) (services : List Service) (from to : List ℕ) → reaches_within most services from to ≡ true → Reaches services from to
chain_from_test zero services from to is = subst (λ name. Reaches services from name) ((bytes_eq-Decides from to).0 is) itself
chain_from_test (suc most) services from to is =
    elim (or_cases (bytes_eq from to) _ is) [
      | inl same ↦ subst (λ name. Reaches services from name) ((bytes_eq-Decides from to).0 same) itself
      | inr more ↦
          let found = any_in (λ service. bytes_eq service.name from && list_any (λ included. reaches_within most services included to) service.includes) services more in
          let parts = and_parts (bytes_eq found.0.name from) _ found.2 in
          let next = any_in (λ included. reaches_within most services included to) found.0.includes parts.1 in
          through (record { service = found.0; listed = found.1; named = (bytes_eq-Decides found.0.name from).0 parts.0; included = next.1 })
          (chain_from_test most services next.0 to next.2)
    ]

-- a chain from none of some names on
data Avoids (services : List Service) (avoided : List (List ℕ)) : List ℕ → List ℕ → Type 0 where
  ends : {name : List ℕ} → Avoids services avoided name name
  goes : {from between to : List ℕ} → Includes services from between → list_any (bytes_eq from) avoided ≡ false → Avoids services avoided between to → Avoids services avoided from to

avoids_none : (services : List Service) (from to : List ℕ) → Reaches services from to → Avoids services [] from to
avoids_none services from to itself = ends
avoids_none services from to (through first rest) = goes first refl (avoids_none services _ to rest)

-- A chain doesn't come by a name, or goes on behind the last time that it does.
last_time : (services : List Service) (avoided : List (List ℕ)) (name from to : List ℕ) → Avoids services avoided from to
    → Avoids services (name ∷ avoided) from to ⊎ ((next : List ℕ) × Includes services name next × Avoids services (name ∷ avoided) next to)
last_time services avoided name from to ends = inl ends
last_time services avoided name from to (goes {between = between} first clear rest) =
    elim (last_time services avoided name between to rest) [
      | inr found ↦ inr found
      | inl short ↦ elim (cases_Bool (bytes_eq from name)) [
        | inl same ↦ inr (between, subst (λ start. Includes services start between) ((bytes_eq-Decides from name).0 same) first, short)
        | inr differs ↦ inl (goes first (or_from (bytes_eq from name) _ differs clear) short)
      ]
    ]

-- how many services are called by none of some names
abbrev free : List (List ℕ) → List Service → ℕ
free avoided [] = 0
free avoided (service ∷ services) = cond (list_any (bytes_eq service.name) avoided) (free avoided services) (suc (free avoided services))

same_name : (name : List ℕ) → bytes_eq name name ≡ true
same_name name = (bytes_eq-Decides name name).1 refl

free_at_most : (name : List ℕ) (avoided : List (List ℕ)) (services : List Service) → free (name ∷ avoided) services ≤ free avoided services
free_at_most name avoided [] = omega arith
free_at_most name avoided (service ∷ services) =
    let rest = free_at_most name avoided services in
    elim (cases_Bool (list_any (bytes_eq service.name) avoided)) [
      | inl is ↦ grind (arith, rest, is, or_right (bytes_eq service.name name) (list_any (bytes_eq service.name) avoided) is)
      | inr clear ↦ elim (cases_Bool (bytes_eq service.name name)) [
        | inl same ↦ grind (arith, rest, clear, same, or_left (bytes_eq service.name name) (list_any (bytes_eq service.name) avoided) same)
        | inr differs ↦ grind (arith, rest, clear, or_from (bytes_eq service.name name) (list_any (bytes_eq service.name) avoided) differs clear)
      ]
    ]

-- a service of the name counts no more
free_falls : (name : List ℕ) (avoided : List (List ℕ)) (services : List Service) (service : Service) → IsIn service services → service.name ≡ name → list_any (bytes_eq name) avoided ≡ false → free (name ∷ avoided) services < free avoided services
free_falls name avoided [] service found named clear = absurd found
free_falls name avoided (first ∷ services) service (inl here) named clear =
    let rest = free_at_most name avoided services in
    let called : first.name ≡ name = ap (λ service. service.name) here ∙ named in
    let now = or_left (bytes_eq first.name name) (list_any (bytes_eq first.name) avoided) (subst (λ other. bytes_eq first.name other ≡ true) called (same_name first.name)) in
    let was : list_any (bytes_eq first.name) avoided ≡ false = subst (λ other. list_any (bytes_eq other) avoided ≡ false) (sym called) clear in
    grind (arith, rest, now, was)
free_falls name avoided (first ∷ services) service (inr found) named clear =
    let rest = free_falls name avoided services service found named clear in
    elim (cases_Bool (list_any (bytes_eq first.name) avoided)) [
      | inl is ↦ grind (arith, rest, is, or_right (bytes_eq first.name name) (list_any (bytes_eq first.name) avoided) is)
      | inr was ↦ elim (cases_Bool (bytes_eq first.name name)) [
        | inl same ↦ grind (arith, rest, was, same, or_left (bytes_eq first.name name) (list_any (bytes_eq first.name) avoided) same)
        | inr differs ↦ grind (arith, rest, was, or_from (bytes_eq first.name name) (list_any (bytes_eq first.name) avoided) differs was)
      ]
    ]

-- one include and then a chain that the test finds
found_through : (most : ℕ) (services : List Service) (from next to : List ℕ) → Includes services from next → reaches_within most services next to ≡ true → reaches_within (suc most) services from to ≡ true
found_through most services from next to step rest =
    or_right (bytes_eq from to) _
    (any_from (λ service. bytes_eq service.name from && list_any (λ included. reaches_within most services included to) service.includes) services step.service step.listed
    (and_from (bytes_eq step.service.name from) _ (subst (λ other. bytes_eq step.service.name other ≡ true) step.named (same_name step.service.name))
    (any_from (λ included. reaches_within most services included to) step.service.includes next step.included rest)))

-- A chain from none of some names on is found within as many includes as there are services of other names.
found_within : (most : ℕ) (services : List Service) (avoided : List (List ℕ)) (from to : List ℕ) → free avoided services ≤ most → Avoids services avoided from to → reaches_within most services from to ≡ true
found_within zero services avoided from to room ends = same_name from
found_within (suc most) services avoided from to room ends = or_left (bytes_eq from from) _ (same_name from)
found_within zero services avoided from to room (goes first clear rest) =
    let falls = free_falls from avoided services first.service first.listed first.named clear in absurd (omega arith)
found_within (suc most) services avoided from to room (goes {between = between} first clear rest) =
    let falls = free_falls from avoided services first.service first.listed first.named clear in
    let less : free (from ∷ avoided) services ≤ most = omega arith in
    elim (last_time services avoided from between to rest) [
      | inl short ↦ found_through most services from between to first (found_within most services (from ∷ avoided) between to less short)
      | inr later ↦ found_through most services from later.0 to later.1 (found_within most services (from ∷ avoided) later.0 to less later.2)
    ]

free_at_first : (services : List Service) → free [] services ≡ length services
free_at_first [] = refl
free_at_first (service ∷ services) = ap suc (free_at_first services)

pub short_chains : (services : List Service) (from to : List ℕ) → IsTrue (reaches services from to) ↔ Reaches services from to
short_chains services from to = (
  chain_from_test (length services) services from to,
  λ chain. found_within (length services) services [] from to (let all = free_at_first services in omega arith) (avoids_none services from to chain),
)

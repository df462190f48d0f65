-- Which services are about a packet, by chains of includes and by what is asked before these are followed.
use Rattle.std.proofs.Common.{◌≡◌, ◌∙◌, ◌↔◌, inl, inr, ℕ, zero, suc, Bool, true, false, ◌&&◌, ◌||◌, not, List, [], ◌∷◌, length, Some, slice_get, IsTrue, refl, sym, ap, subst}
use Rattle.std.specs.Prelude.{◌==◌}
use Rattle.std.proofs.lemmas.Bool.{and_from, and_parts, cases_Bool, or_cases, or_left, or_right, false≢true}
use Rattle.std.proofs.Math.Dec.{eqb-suc-zero}
use Rattle.std.proofs.lemmas.Slice.Eq.{bytes_eq-Decides}
use Rattle.std.specs.List.{list_any}
use Rattle.std.specs.Str.{bytes_eq}
use Rattle.fw_closure.specs.Includes.{AreReached, Reaches, reaches}
use Rattle.fw_closure.specs.Includes.Reaches.{itself, through}
use Rattle.fw_model.specs.declared.packet.Packet.{Packet}
use Rattle.fw_model.specs.declared.service.Service.{Service}
use Rattle.fw_hits.specs.Members.{any_member_hits, hits_among, is_hit, may_hit, own_hits}
use Rattle.fw_hits.specs.Services.{member_hits, service_hits}
use Rattle.fw_zone.specs.Lists.{IsIn}

any_in : {A : Type 0} (test : A → Bool) (xs : List A) → list_any test xs ≡ true → (item : A) × IsIn item xs × (test item ≡ true)
any_in test [] is = absurd (false≢true is)
any_in test (x ∷ xs) is = elim (or_cases (test x) (list_any test xs) is) [
  | inl here ↦ (x, inl refl, here)
  | inr there ↦ let rest = any_in test xs there in (rest.0, inr rest.1, rest.2)
]

any_from : {A : Type 0} (test : A → Bool) (xs : List A) (item : A) → IsIn item xs → test item ≡ true → list_any test xs ≡ true
any_from test [] item found is = absurd found
any_from test (x ∷ xs) item (inl here) is = or_left (test x) (list_any test xs) (ap test here ∙ is)
any_from test (x ∷ xs) item (inr found) is = or_right (test x) (list_any test xs) (any_from test xs item found is)

place_of_in : {A : Type 0} (xs : List A) (item : A) → IsIn item xs → (place : ℕ) × (slice_get xs place ≡ Some item)
place_of_in [] item found = absurd found
place_of_in (x ∷ xs) item (inl here) = (zero, ap Some here)
place_of_in (x ∷ xs) item (inr found) = let rest = place_of_in xs item found in (suc rest.0, rest.1)

in_at : {A : Type 0} (xs : List A) (place : ℕ) (item : A) → slice_get xs place ≡ Some item → IsIn item xs
in_at [] place item is = cc
in_at (x ∷ xs) zero item is = inl cc
in_at (x ∷ xs) (suc place) item is = inr (in_at xs place item is)

not_empty : {A : Type 0} (xs : List A) (item : A) → IsIn item xs → not (length xs == 0) ≡ true
not_empty [] item found = absurd found
not_empty (x ∷ xs) item found = ap not (eqb-suc-zero (length xs))

-- what doesn't hold where another doesn't
denied_by : (one other : Bool) → (other ≡ true → one ≡ true) → one ≡ false → other ≡ false
denied_by one other gives is = elim (cases_Bool other) [
  | inl holds ↦ absurd (false≢true (sym is ∙ gives holds))
  | inr fails ↦ fails
]

both_ways : (one other : Bool) → (one ≡ true → other ≡ true) → (other ≡ true → one ≡ true) → one ≡ other
both_ways one other to from = elim (cases_Bool one) [
  | inl holds ↦ holds ∙ sym (to holds)
  | inr fails ↦ fails ∙ sym (denied_by one other from fails)
]

-- tests of chains are chains
abbrev Tested : List Service → Type 0
Tested services = (from to : List ℕ) → IsTrue (reaches services from to) ↔ Reaches services from to

-- a service that is about the packet, and to which a chain leads
record Hit (services : List Service) (name : List ℕ) (packet : Packet) : Type 0 where
  pub service : Service
  pub listed : IsIn service services
  pub reached : Reaches services name service.name
  pub hits : member_hits service packet ≡ true

hit_from : (services : List Service) (name : List ℕ) (packet : Packet) → Tested services → service_hits services name packet ≡ true → Hit services name packet
hit_from services name packet tested is =
    let found = any_in (λ service. reaches services name service.name && member_hits service packet) services is in
    let parts = and_parts (reaches services name found.0.name) (member_hits found.0 packet) found.2 in
    record { service = found.0; listed = found.1; reached = (tested name found.0.name).0 parts.0; hits = parts.1 }

hits_from : (services : List Service) (name : List ℕ) (packet : Packet) → Tested services → Hit services name packet → service_hits services name packet ≡ true
hits_from services name packet tested hit =
    any_from (λ service. reaches services name service.name && member_hits service packet) services hit.service hit.listed
    (and_from (reaches services name hit.service.name) (member_hits hit.service packet) ((tested name hit.service.name).1 hit.reached) hit.hits)

-- a chain has no include, or begins with one of a service of the name
by_chain : (services : List Service) (name to : List ℕ) (packet : Packet) (service : Service)
    → Reaches services name to
    → service.name ≡ to
    → IsIn service services
    → member_hits service packet ≡ true
    → may_hit services name packet ≡ true
by_chain services name to packet service itself same listed hits =
    any_from (λ service. bytes_eq service.name name && (member_hits service packet || not (length service.includes == 0))) services service listed
    (and_from (bytes_eq service.name name) _ ((bytes_eq-Decides service.name name).1 same)
    (or_left (member_hits service packet) (not (length service.includes == 0)) hits))
by_chain services name to packet service (through first rest) same listed hits =
    any_from (λ service. bytes_eq service.name name && (member_hits service packet || not (length service.includes == 0))) services first.service first.listed
    (and_from (bytes_eq first.service.name name) _ ((bytes_eq-Decides first.service.name name).1 first.named)
    (or_right (member_hits first.service packet) (not (length first.service.includes == 0)) (not_empty first.service.includes _ first.included)))

pub none_may_hit : (services : List Service) (name : List ℕ) (packet : Packet) → Tested services → may_hit services name packet ≡ false → service_hits services name packet ≡ false
none_may_hit services name packet tested =
    denied_by (may_hit services name packet) (service_hits services name packet)
    (λ is. let hit = hit_from services name packet tested is in by_chain services name hit.service.name packet hit.service hit.reached refl hit.listed hit.hits)

pub own_hits_it : (services : List Service) (name : List ℕ) (packet : Packet) → Tested services → own_hits services name packet ≡ true → service_hits services name packet ≡ true
own_hits_it services name packet tested is =
    let found = any_in (λ service. bytes_eq service.name name && member_hits service packet) services is in
    let parts = and_parts (bytes_eq found.0.name name) (member_hits found.0 packet) found.2 in
    let same = (bytes_eq-Decides found.0.name name).0 parts.0 in
    hits_from services name packet tested
    (record { service = found.0; listed = found.1; reached = subst (λ other. Reaches services name other) (sym same) itself; hits = parts.1 })

pub no_member_hits : (services : List Service) (name : List ℕ) (packet : Packet) → Tested services → any_member_hits services packet ≡ false → service_hits services name packet ≡ false
no_member_hits services name packet tested =
    denied_by (any_member_hits services packet) (service_hits services name packet)
    (λ is. let hit = hit_from services name packet tested is in any_from (λ service. member_hits service packet) services hit.service hit.listed hit.hits)

pub reached_hits : (services : List Service) (name : List ℕ) (packet : Packet) (places : List ℕ) → Tested services → AreReached services name places → hits_among services places packet ≡ service_hits services name packet
reached_hits services name packet places tested are =
    both_ways (hits_among services places packet) (service_hits services name packet)
    (λ is.
    let found = any_in (λ place. is_hit packet (slice_get services place)) places is in
    let reached = (are.exactly found.0).0 found.1 in
    hits_from services name packet tested
    (record {
      service = reached.service;
      listed = in_at services found.0 reached.service reached.at;
      reached = reached.reached;
      hits = ap (is_hit packet) (sym reached.at) ∙ found.2;
    }))
    (λ is.
    let hit = hit_from services name packet tested is in
    let place = place_of_in services hit.service hit.listed in
    any_from (λ place. is_hit packet (slice_get services place)) places place.0
    ((are.exactly place.0).1 (record { service = hit.service; at = place.1; reached = hit.reached }))
    (ap (is_hit packet) place.1 ∙ hit.hits))

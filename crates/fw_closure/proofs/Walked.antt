-- The walk over includes: where it stands, one step more, and its end.
use Rattle.std.proofs.Common.{◌≡◌, ℕ, zero, suc, ◌+◌, ◌≤◌, ◌<◌, ◌⊎◌, ◌↔◌, inl, inr, Bool, true, false, List, [], ◌∷◌, ◌++◌, length, replicate, Some, slice_get, refl, sym, ap, subst, ◌∙◌, arith}
use Rattle.std.proofs.lemmas.Option.{slice_get_within}
use Rattle.fw_closure.proofs.Chains.{one_more}
use Rattle.fw_closure.proofs.Members.{at_end, in_at, in_front, in_pushed, place_of_in}
use Rattle.fw_closure.specs.Includes.{AreReached, Includes, IsReached, Reaches}
use Rattle.fw_closure.specs.Includes.Reaches.{itself, through}
use Rattle.fw_closure.specs.Marks.{ArePlaces, HasMarked, IsMarked, IsNamed}
use Rattle.fw_model.specs.declared.service.Service.{Service}
use Rattle.fw_zone.specs.Lists.{IsIn}

-- what the service at a place includes is marked
pub record IsFollowed (services : List Service) (marks : List Bool) (place : ℕ) : Type 0 where
  pub follows : (service : Service) → slice_get services place ≡ Some service → (other : ℕ) → IsNamed services service.includes other → IsMarked marks other

-- Where the walk stands: what is marked is reached, and waits or was followed.
pub record Walked (services : List Service) (from : List ℕ) (marks : List Bool) (waiting : List ℕ) : Type 0 where
  pub length : length marks ≡ length services
  pub sound : (place : ℕ) → IsMarked marks place → IsReached services from place
  pub waits : (place : ℕ) → IsIn place waiting → IsMarked marks place
  pub starts : (place : ℕ) → IsNamed services (from ∷ []) place → IsMarked marks place
  pub followed : (place : ℕ) → IsMarked marks place → IsIn place waiting ⊎ IsFollowed services marks place

some_same : {A : Type 0} (found : ℕ) (services : List A) (one other : A) → slice_get services found ≡ Some one → slice_get services found ≡ Some other → one ≡ other
some_same found services one other first second = cc

named_within : (services : List Service) (names : List (List ℕ)) (place : ℕ) → IsNamed services names place → place < length services
named_within services names place named = slice_get_within services place named.service named.at

-- before the start nothing is marked
pub none_marked : (count place : ℕ) → ¬ (IsMarked (replicate count false) place)
none_marked zero place is = cc
none_marked (suc count) zero is = cc
none_marked (suc count) (suc place) is = none_marked count place is

-- from the start
pub walked_first : (services : List Service) (from : List ℕ) (old new : List Bool) (now : List ℕ)
    → HasMarked services (from ∷ []) (length services) old new [] now → length new ≡ length services
    → ((place : ℕ) → ¬ (IsMarked old place))
    → Walked services from new now
walked_first services from old new now marked same none = record {
  length = same;
  sound = λ place is. elim (marked.only place is) [
    | inl was ↦ absurd (none place was)
    | inr named ↦ record {
      service = named.0.service;
      at = named.0.at;
      reached = elim named.0.named [ inl here ↦ subst (λ name. Reaches services from name) here itself | inr never ↦ absurd never ];
    }
  ];
  waits = λ place is. elim (marked.waits place is) [ inl never ↦ absurd never | inr is ↦ is ];
  starts = λ place named. marked.marks place (named_within services (from ∷ []) place named) named;
  followed = λ place is. elim (marked.only place is) [ inl was ↦ absurd (none place was) | inr named ↦ inl named.1 ];
}

-- one service more was followed
pub walked_on : (services : List Service) (from : List ℕ) (old new : List Bool) (waiting was now : List ℕ) (place : ℕ) (service : Service)
    → Walked services from old waiting → waiting ≡ was ++ place ∷ []
    → slice_get services place ≡ Some service
    → HasMarked services service.includes (length services) old new was now → length new ≡ length services
    → Walked services from new now
walked_on services from old new waiting was now place service walked popped at marked same =
    let is_here : IsReached services from place = walked.sound place (walked.waits place (subst (λ list. IsIn place list) (sym popped) (at_end was place))) in
    let next : (other : ℕ) → IsNamed services service.includes other → IsReached services from other = λ other named. record {
      service = named.service;
      at = named.at;
      reached = one_more services from service.name named.service.name
          (subst (λ (found : Service). Reaches services from found.name) (some_same place services is_here.service service is_here.at at) is_here.reached)
          (record { service = service; listed = in_at services place service at; named = refl; included = named.named });
    } in
    record {
      length = same;
      sound = λ other is. elim (marked.only other is) [ inl old ↦ walked.sound other old | inr named ↦ next other named.0 ];
      waits = λ other is. elim (marked.waits other is) [
        | inl was ↦ marked.keeps other (walked.waits other (subst (λ list. IsIn other list) (sym popped) (in_front _ (place ∷ []) other was)))
        | inr is ↦ is
      ];
      starts = λ other named. marked.keeps other (walked.starts other named);
      followed = λ other is. elim (marked.only other is) [
        | inl before ↦ elim (walked.followed other before) [
          | inl waited ↦ elim (in_pushed was place other (subst (λ list. IsIn other list) popped waited)) [
            | inl still ↦ inl (marked.stays other still)
            | inr here ↦ inr (record {
              follows = λ found found_at third named.
                  marked.marks third (named_within services service.includes third (subst (λ (one : Service). IsNamed services one.includes third) (some_same place services found service (subst (λ spot. slice_get services spot ≡ Some found) (sym here) found_at) at) named))
                  (subst (λ (one : Service). IsNamed services one.includes third) (some_same place services found service (subst (λ spot. slice_get services spot ≡ Some found) (sym here) found_at) at) named);
            })
          ]
          | inr done ↦ inr (record { follows = λ found found_at third named. marked.keeps third (done.follows found found_at third named) })
        ]
        | inr named ↦ inl named.1
      ];
    }

-- at the end all are marked to whose names a chain leads from a name all of whose services are
all_along : (services : List Service) (marks : List Bool) → ((place : ℕ) → IsMarked marks place → IsFollowed services marks place) → (from to : List ℕ)
    → Reaches services from to → ((place : ℕ) → IsNamed services (from ∷ []) place → IsMarked marks place) → (place : ℕ) → IsNamed services (to ∷ []) place → IsMarked marks place
all_along services marks closed from to itself starts place named = starts place named
all_along services marks closed from to (through {between = between} first rest) starts place named =
    let spot = place_of_in services first.service first.listed in
    let is_marked = starts spot.0 (record { service = first.service; at = spot.1; named = inl (sym first.named) }) in
    all_along services marks closed between to rest
    (λ other called. (closed spot.0 is_marked).follows first.service spot.1 other
    (record { service = called.service; at = called.at; named = elim called.named [ inl here ↦ subst (λ name. IsIn name first.service.includes) here first.included | inr never ↦ absurd never ] }))
    place named

pub walked_all : (services : List Service) (from : List ℕ) (marks : List Bool) (places : List ℕ) → Walked services from marks [] → ArePlaces marks places → AreReached services from places
walked_all services from marks places walked are = record {
  exactly = λ place. (
    λ found. walked.sound place ((are.exactly place).0 found),
    λ reached. (are.exactly place).1 (all_along services marks
        (λ other is. elim (walked.followed other is) [ inl never ↦ absurd never | inr done ↦ done ])
        from reached.service.name reached.reached walked.starts place
        (record { service = reached.service; at = reached.at; named = inl refl })),
  );
  ascending = are.ascending;
}

-- as the code has it: from the start
pub walked_start : (services : List Service) (from : List ℕ) (names : List (List ℕ)) (old new : List Bool) (was now : List ℕ)
    → HasMarked services names (length services) old new was now → names ≡ from ∷ [] → was ≡ [] → old ≡ replicate (length services) false
    → length new ≡ length services → Walked services from new now
walked_start services from names old new was now marked named empty free same =
    walked_first services from old new now
    (subst (λ (waiting : List ℕ). HasMarked services (from ∷ []) (length services) old new waiting now) empty
    (subst (λ (names : List (List ℕ)). HasMarked services names (length services) old new was now) named marked))
    same
    (λ place is. none_marked (length services) place (subst (λ (marks : List Bool). IsMarked marks place) free is))

there_is : {A : Type 0} (items : List A) (place : ℕ) → place < length items → (item : A) × (slice_get items place ≡ Some item)
there_is [] place bound = absurd (omega arith)
there_is (first ∷ items) zero bound = (first, refl)
there_is (first ∷ items) (suc place) bound = there_is items place (omega arith)

-- what waits is the place of a service
pub waiting_within : (services : List Service) (from : List ℕ) (marks : List Bool) (waiting was : List ℕ) (place : ℕ) → Walked services from marks waiting → waiting ≡ was ++ place ∷ [] → place < length services
waiting_within services from marks waiting was place walked popped =
    let reached = walked.sound place (walked.waits place (subst (λ (list : List ℕ). IsIn place list) (sym popped) (at_end was place))) in
    slice_get_within services place reached.service reached.at

-- and one service further
pub walked_step : (services : List Service) (from : List ℕ) (names : List (List ℕ)) (old new : List Bool) (waiting was now : List ℕ) (place : ℕ)
    → Walked services from old waiting → waiting ≡ was ++ place ∷ []
    → ((service : Service) → slice_get services place ≡ Some service → names ≡ service.includes)
    → HasMarked services names (length services) old new was now → length new ≡ length services → Walked services from new now
walked_step services from names old new waiting was now place walked popped includes marked same =
    let found = there_is services place (waiting_within services from old waiting was place walked popped) in
    walked_on services from old new waiting was now place found.0 walked popped found.1
    (subst (λ (names : List (List ℕ)). HasMarked services names (length services) old new was now) (includes found.0 found.1) marked)
    same

-- Services that are part of others (firewalld.service(5), `include`). Includes may lead round in a circle.
use Rattle.std.specs.Prelude.{◌≡◌, ◌↔◌, ℕ, zero, suc, Bool, ◌&&◌, ◌||◌, List, length, Some, slice_get}
use Rattle.std.specs.List.{list_any}
use Rattle.std.specs.List.Sorted.{IsStrictlyIncreasing}
use Rattle.std.specs.Str.{bytes_eq}
use Rattle.fw_model.specs.declared.service.Service.{Service}
use Rattle.fw_zone.specs.Lists.{IsIn}

-- a service of a name includes a name
pub record Includes (services : List Service) (from to : List ℕ) : Type 0 where
  pub service : Service
  pub listed : IsIn service services
  pub named : service.name ≡ from
  pub included : IsIn to service.includes

-- A chain of includes leads from a name to a name: it has no include, or one and then a chain.
pub data Reaches (services : List Service) : List ℕ → List ℕ → Type 0 where
  itself : {name : List ℕ} → Reaches services name name
  through : {from between to : List ℕ} → Includes services from between → Reaches services between to → Reaches services from to

-- the same as a test, for chains of at most so many includes
abbrev pub reaches_within : ℕ → List Service → List ℕ → List ℕ → Bool
reaches_within zero services from to = bytes_eq from to
reaches_within (suc most) services from to =
    bytes_eq from to
    || list_any (λ service. bytes_eq service.name from
    && list_any (λ included. reaches_within most services included to) service.includes) services

-- A chain needs no more includes than there are services.
abbrev pub reaches : List Service → List ℕ → List ℕ → Bool
reaches services from to = reaches_within (length services) services from to

-- the service at a place has a name to which a chain leads
pub record IsReached (services : List Service) (from : List ℕ) (place : ℕ) : Type 0 where
  pub service : Service
  pub at : slice_get services place ≡ Some service
  pub reached : Reaches services from service.name

-- the places of all services to which a chain leads, each once, in their order
pub record AreReached (services : List Service) (from : List ℕ) (places : List ℕ) : Type 0 where
  pub exactly : (place : ℕ) → IsIn place places ↔ IsReached services from place
  pub ascending : IsStrictlyIncreasing places

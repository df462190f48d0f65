-- Bindings: the interfaces and sources that zones list (firewalld.zone(5), `interface` and `source`). Each entry is to be
-- listed by one zone. A zone is meant by its place in the list of zones. What is said here of interfaces and of sources is
-- said alike: `of` reads the entries of a zone, and `with` puts others in their place.
use Rattle.std.specs.Prelude.{◌≡◌, ◌≢◌, ℕ, ◌<◌, ◌⊎◌, List, [], ◌∷◌, ◌++◌, Option, None, Some, slice_get, slice_set}
use Rattle.fw_model.specs.declared.binding.Binding.{Binding}
use Rattle.fw_model.specs.declared.zone.Zone.{Zone}
use Rattle.fw_zone.specs.Lists.{IsIn, IsRemoved}

-- the interfaces of a zone
abbrev pub interfaces_of : Zone → List (List ℕ)
interfaces_of zone = zone.interfaces

abbrev pub with_interfaces : Zone → List (List ℕ) → Zone
with_interfaces zone interfaces = record zone { interfaces = interfaces }

-- the sources of a zone
abbrev pub sources_of : Zone → List Binding
sources_of zone = zone.sources

abbrev pub with_sources : Zone → List Binding → Zone
with_sources zone sources = record zone { sources = sources }

module _ {A : Type 0} (of : Zone → List A) (with : Zone → List A → Zone) where
  -- the zone at a place lists an entry
  pub record IsListedAt (zones : List Zone) (place : ℕ) (entry : A) : Type 0 where
    pub zone : Zone
    pub at : slice_get zones place ≡ Some zone
    pub lists : IsIn entry (of zone)

  -- a zone at another place lists it
  abbrev pub IsListedElsewhere : List Zone → ℕ → A → Type 0
  IsListedElsewhere zones place entry = (other : ℕ) × (other ≢ place) × IsListedAt zones other entry

  -- another zone lists it, and this one doesn't
  abbrev pub IsInConflict : List Zone → ℕ → A → Type 0
  IsInConflict zones place entry = (¬ (IsListedAt zones place entry)) × IsListedElsewhere zones place entry

  -- some zone lists it
  abbrev pub IsListed : List Zone → A → Type 0
  IsListed zones entry = (place : ℕ) × IsListedAt zones place entry

  -- the first zone that lists it
  pub record IsFirstListed (zones : List Zone) (place : ℕ) (entry : A) : Type 0 where
    pub listed : IsListedAt zones place entry
    pub first : (before : ℕ) → before < place → ¬ (IsListedAt zones before entry)

  -- the zone at a place got the entry, the last of its own, and all else is as before
  pub record IsBound (old : List Zone) (place : ℕ) (entry : A) (new : List Zone) : Type 0 where
    pub zone : Zone
    pub at : slice_get old place ≡ Some zone
    pub is : new ≡ slice_set old place (with zone (of zone ++ entry ∷ []))

  -- the entry went from the zone at a place, and all else is as before
  pub record IsUnbound (old : List Zone) (place : ℕ) (entry : A) (new : List Zone) : Type 0 where
    pub zone : Zone
    pub left : List A
    pub at : slice_get old place ≡ Some zone
    pub removed : IsRemoved entry (of zone) left
    pub is : new ≡ slice_set old place (with zone left)

  -- the zone at a place got the entry, and it went from another
  pub record IsMovedFrom (old : List Zone) (from place : ℕ) (entry : A) (new : List Zone) : Type 0 where
    pub between : List Zone
    pub bound : IsBound old place entry between
    pub unbound : IsUnbound between from entry new

  -- The zone at a place got the entry, which no zone listed; or the first that listed it lost it.
  abbrev pub IsMoved : List Zone → ℕ → A → List Zone → Type 0
  IsMoved old place entry new =
      ((¬ (IsListed old entry)) × IsBound old place entry new)
      ⊎ ((from : ℕ) × IsFirstListed old from entry × IsMovedFrom old from place entry new)

-- The two sides of a policy (firewalld.policy(5), `ingress-zone` and `egress-zone`): names of zones, `HOST` for the host itself,
-- or `ANY` for every zone.
use Rattle.std.specs.Prelude.{ℕ, ◌==◌, List, [], ◌∷◌, length, Bool, true, false, not, ◌||◌, Option}
use Rattle.std.specs.List.{list_any, position}
use Rattle.std.specs.Str.{bytes_eq}
use Rattle.fw_model.specs.declared.zone.Zone.{Zone}
use Rattle.fw_valid.specs.Names.{any, host}

abbrev pub is_special : List ℕ → Bool
is_special name = bytes_eq name host || bytes_eq name any

-- a name that means something: of a zone that there is, or one of the two others
abbrev pub is_known : List Zone → List ℕ → Bool
is_known zones name = is_special name || list_any (λ (zone : Zone). bytes_eq zone.name name) zones

-- the place of the first name that means nothing
abbrev pub first_unknown : List Zone → List (List ℕ) → Option ℕ
first_unknown zones names = position (λ name. not (is_known zones name)) names

-- `HOST` and `ANY` stand alone.
abbrev pub stand_alone : List (List ℕ) → Bool
stand_alone names = (length names == 1) || not (list_any is_special names)

-- the side is this one name
abbrev pub is_only : List ℕ → List (List ℕ) → Bool
is_only name [] = false
is_only name (only ∷ []) = bytes_eq only name
is_only name (one ∷ other ∷ others) = false

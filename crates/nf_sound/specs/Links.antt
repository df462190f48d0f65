-- How long the paths from chains are: what the search for the longest says of the names that it has followed.
use Rattle.std.specs.Prelude.{◌≡◌, ◌≢◌, ℕ, suc, ◌≤◌, ◌⊎◌, List, Option, Some, slice_get, MatchOption}
use Rattle.nf_rules.specs.declared.chain.Chain.{Chain}
use Rattle.nf_rules.specs.declared.ruleset.Ruleset.{Ruleset}
use Rattle.nf_sound.specs.Sound.{IsIn, Path}
use Rattle.nf_sound.specs.Targets.{rule_targets}

-- a link to one of these names, and so many more from there on
pub record LeadsOn (rules : Ruleset) (names : List (List ℕ)) (links : ℕ) : Type 0 where
  pub to : List ℕ
  pub among : IsIn to names
  pub path : Path rules to links

-- the most links that begin with one to these names: none, or so many
pub record MostLinks (rules : Ruleset) (names : List (List ℕ)) (most : ℕ) : Type 0 where
  pub bound : (to : List ℕ) (links : ℕ) → IsIn to names → Path rules to links → suc links ≤ most
  pub reached : (most ≡ 0) ⊎ ((links : ℕ) × (most ≡ suc links) × LeadsOn rules names links)

-- More than so many links, or the most that there are.
abbrev pub Longest : Ruleset → List (List ℕ) → ℕ → Option ℕ → Type 0
Longest rules names left answer =
    MatchOption answer (LeadsOn rules names left) (λ most. (most ≤ left) × MostLinks rules names most)

-- what is known of some chains, by their places, is so
pub record Knows (rules : Ruleset) (known : List (Option ℕ)) : Type 0 where
  pub is : (place most : ℕ) (chain : Chain) → slice_get known place ≡ Some (Some most) → slice_get rules.chains place ≡ Some chain
      → MostLinks rules (rule_targets rules.maps chain.rules) most

-- nothing is known
abbrev pub KnowsNothing : List (Option ℕ) → Type 0
KnowsNothing known = (place most : ℕ) → slice_get known place ≢ Some (Some most)

-- What is known of the settings that a text says.
use Rattle.std.proofs.Common.{◌≡◌, ℕ, List, Option, Some, Result, Ok, Err, MatchResult, subst, sym}
use Rattle.fw_daemon.specs.Opening.{IsBad, IsBadText}
use Rattle.fw_daemon.specs.Outside.{Holds, Says}
use Rattle.fw_daemon.specs.declared.opening.OpenError.{OpenError}
use Rattle.fw_model.specs.declared.config.Config.{Config}
use Rattle.fw_valid.specs.Valid.{IsValid}

pub held_says : (held : Option (List ℕ)) (text : List ℕ) (result : Result Config OpenError)
    → held ≡ Some text
    → MatchResult result (λ config. Says text config × IsValid config) (IsBadText text)
    → MatchResult result (Holds held) (IsBad held)
held_says held text (Ok config) is said = subst (λ (those : Option (List ℕ)). Holds those config) (sym is) said.0
held_says held text (Err error) is bad = subst (λ (those : Option (List ℕ)). IsBad those error) (sym is) bad

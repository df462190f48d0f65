-- Which sets matches look up: those of ipsets alone, so that the matches stand wherever each ipset has its set.
use Rattle.std.specs.Prelude.{List, Bool, true, Option, None, Some, IsTrue, is_some}
use Rattle.std.specs.List.{list_all}
use Rattle.fw_model.specs.declared.ipset.IpSet.{IpSet}
use Rattle.fw_zone.specs.Lists.{IsIn}
use Rattle.lower_match.specs.Lowers.{set_name}
use Rattle.nf_rules.specs.declared.rule.Match.{Match}
use Rattle.nf_rules.specs.declared.ruleset.Ruleset.{Ruleset}
use Rattle.nf_rules.specs.declared.test.Test.{Test}
use Rattle.nf_sound.specs.Names.{set_of}
use Rattle.nf_sound.specs.Sound.{test_stands}

-- a set of the name of each ipset is there
abbrev pub EachHasSet : List IpSet → Ruleset → Type 0
EachHasSet ipsets rules = (ipset : IpSet) → IsIn ipset ipsets → IsTrue (is_some (set_of rules.sets (set_name ipset.name)))

-- What all these matches look up is there.
abbrev pub matches_stand : Ruleset → List Match → Bool
matches_stand rules matches = list_all (λ tested. test_stands rules tested.test) matches

abbrev pub alternatives_stand : Ruleset → List (List Match) → Bool
alternatives_stand rules alternatives = list_all (matches_stand rules) alternatives

-- wherever each ipset has its set
abbrev pub Stand : List IpSet → List (List Match) → Type 0
Stand ipsets alternatives = (rules : Ruleset) → EachHasSet ipsets rules → IsTrue (alternatives_stand rules alternatives)

-- They look up no set at all.
abbrev pub StandAnywhere : List (List Match) → Type 0
StandAnywhere alternatives = (rules : Ruleset) → IsTrue (alternatives_stand rules alternatives)

-- a test stands, where there is one
abbrev pub asked_stands : Ruleset → Option Test → Bool
asked_stands rules None = true
asked_stands rules (Some asked) = test_stands rules asked

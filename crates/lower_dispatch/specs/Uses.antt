-- Which zones packets may belong to, and that rules lead to the chains of these alone.
use Rattle.std.specs.Prelude.{◌≡◌, ◌==◌, ℕ, List, ◌++◌, length, Bool, true, not, ◌||◌, IsTrue, is_some}
use Rattle.std.specs.List.{list_all}
use Rattle.std.specs.Str.{bytes_eq}
use Rattle.fw_model.specs.declared.config.Config.{Config}
use Rattle.fw_model.specs.declared.zone.Zone.{Zone}
use Rattle.fw_zone.specs.Lists.{IsIn}
use Rattle.lower_match.specs.Stands.{EachHasSet}
use Rattle.nf_chains.specs.Condition.{are_plain}
use Rattle.nf_rules.specs.declared.map.NfMap.{NfMap}
use Rattle.nf_rules.specs.declared.rule.Rule.{Rule}
use Rattle.nf_rules.specs.declared.ruleset.Ruleset.{Ruleset}
use Rattle.nf_sound.specs.Names.{chain_of}
use Rattle.nf_sound.specs.Sound.{IsIn as IsNameIn, rule_stands}
use Rattle.nf_sound.specs.Targets.{rule_targets}

-- A zone is in use where something is bound to it, and the default zone always (firewall-cmd(1), `--get-active-zones`).
abbrev pub is_in_use : Config → Zone → Bool
is_in_use config zone =
    bytes_eq zone.name config.default_zone || not (length zone.sources == 0) || not (length zone.interfaces == 0)

-- a zone of a configuration that is in use
pub record IsUsed (config : Config) (zone : Zone) : Type 0 where
  pub listed : IsIn zone config.zones
  pub used : is_in_use config zone ≡ true

-- the chain of each zone in use is there
abbrev pub EachHasChain : Config → List ℕ → Ruleset → Type 0
EachHasChain config start rules =
    (zone : Zone) → IsUsed config zone → IsTrue (is_some (chain_of rules.chains (start ++ zone.name)))

-- the name of the chain of a zone in use
pub record IsChainName (config : Config) (start name : List ℕ) : Type 0 where
  pub zone : Zone
  pub used : IsUsed config zone
  pub is : name ≡ start ++ zone.name

-- What rules ask of a ruleset that they stand in, and where they lead.
pub record LeadToZones (config : Config) (start : List ℕ) (made : List Rule) : Type 0 where
  -- where each zone in use has its chain and each ipset its set, all that they name is there
  pub stand : (rules : Ruleset) → EachHasChain config start rules → EachHasSet config.ipsets rules
      → IsTrue (list_all (rule_stands rules) made)
  -- they lead to chains of zones in use alone, and by no map
  pub targets : (maps : List NfMap) (name : List ℕ) → IsNameIn name (rule_targets maps made) → IsChainName config start name
  -- they mark and translate nothing
  pub plain : IsTrue (are_plain made)

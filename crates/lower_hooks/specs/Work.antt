-- What rules do that stand before others, in rulesets of which something holds.
use Rattle.std.specs.Prelude.{◌≡◌, ℕ, List, true, false, Option}
use Rattle.fw_model.specs.declared.config.Config.{Config}
use Rattle.fw_model.specs.declared.packet.Packet.{Packet}
use Rattle.fw_model.specs.declared.policy.Policy.{Policy}
use Rattle.fw_model.specs.declared.zone.Zone.{Zone}
use Rattle.fw_verdict.specs.Items.{items}
use Rattle.fw_verdict.specs.Walk.{Walked, walk}
use Rattle.fw_zone.specs.Lists.{IsIn}
use Rattle.lower_hooks.specs.Settings.{has_settings, has_walk}
use Rattle.lower_zone.specs.Evaluates.{JumpIs, Meeting}
use Rattle.lower_zone.specs.Names.{block_name, policy_block, zone_block}
use Rattle.lower_zone.specs.Work.{Do}
use Rattle.nf_chains.specs.Moments.{Moment}
use Rattle.nf_rules.specs.declared.rule.Rule.{Rule}
use Rattle.nf_rules.specs.declared.ruleset.Ruleset.{Ruleset}

-- A jump to the chain of a name does with every packet what a walk does.
abbrev pub JumpDoes : Config → Ruleset → List ℕ → (Packet → Walked) → Type 0
JumpDoes config table name walked =
    (leaving : Option (List ℕ)) (now : Moment) → Meeting config table now → JumpIs table leaving now name (walked now.packet)

-- The chain of a policy's settings does what they do, where it has any.
abbrev pub PolicyStands : Config → Ruleset → Policy → Type 0
PolicyStands config table policy =
    has_settings policy.rules ≡ true → JumpDoes config table (block_name (policy_block policy.name)) (walk (items config policy.rules false))

abbrev pub PoliciesStand : Config → Ruleset → List Policy → Type 0
PoliciesStand config table policies = (policy : Policy) → IsIn policy policies → PolicyStands config table policy

-- The chain of a zone's settings does what they do, where it has any.
abbrev pub ZoneStands : Config → Ruleset → Zone → Type 0
ZoneStands config table zone =
    has_walk zone ≡ true → JumpDoes config table (block_name (zone_block zone.name)) (walk (items config zone.rules zone.inversion))

-- Rules do what a walk does, in every ruleset of which something holds.
abbrev pub DoIn : Config → (Ruleset → Type 0) → List Rule → (Packet → Walked) → Type 0
DoIn config Holds made walked =
    (table : Ruleset) (leaving : Option (List ℕ)) (now : Moment)
    → Holds table
    → Meeting config table now
    → Do table leaving made now (walked now.packet)

-- What is asked of the settings of a zone and of a policy, so that a valid configuration stays valid with them (firewalld.zone(5),
-- firewalld.policies(5)): the rules of a valid configuration, as far as they speak of one zone or policy.
use Rattle.std.specs.Prelude.{List}
use Rattle.fw_model.specs.declared.config.Config.{Config}
use Rattle.fw_model.specs.declared.policy.Policy.{Policy}
use Rattle.fw_model.specs.declared.rules.Rules.{Rules}
use Rattle.fw_model.specs.declared.zone.Zone.{Zone}
use Rattle.fw_valid.specs.Each.{Each, IsWithoutRepeats}
use Rattle.fw_valid.specs.Policies.{IsPolicy}
use Rattle.fw_valid.specs.Rules.{AreOnce, NamesKnown, SetsKnown}
use Rattle.fw_valid.specs.Valid.{AreWritten, SourcesKnown}
use Rattle.fw_zone.specs.Bindings.{interfaces_of, sources_of}
use Rattle.fw_zone.specs.Lists.{IsIn}

-- a configuration with other zones, and with other policies
abbrev pub with_zones : Config → List Zone → Config
with_zones config zones = record config { zones = zones }

abbrev pub with_policies : Config → List Policy → Config
with_policies config policies = record config { policies = policies }

-- settings that zones and policies have alike, beside the services and ipsets of a configuration
pub record AreFit (config : Config) (rules : Rules) : Type 0 where
  pub known : NamesKnown config rules
  pub sets : SetsKnown config rules
  pub once : AreOnce rules
  pub written : AreWritten rules

-- none of some zones lists an entry of a zone
abbrev pub AreFree : {A : Type 0} → (of : Zone → List A) → (others : List Zone) → Zone → Type 0
AreFree {A} of others zone = (entry : A) → IsIn entry (of zone) → Each (λ other. ¬ (IsIn entry (of other))) others

-- a zone beside others
pub record IsFitZone (config : Config) (others : List Zone) (zone : Zone) : Type 0 where
  pub rules : AreFit config zone.rules
  pub sets : SourcesKnown config zone
  pub interfaces_once : IsWithoutRepeats zone.interfaces
  pub sources_once : IsWithoutRepeats zone.sources
  pub interfaces_free : AreFree interfaces_of others zone
  pub sources_free : AreFree sources_of others zone

-- a policy between the zones of a configuration
pub record IsFitPolicy (config : Config) (policy : Policy) : Type 0 where
  pub rules : AreFit config policy.rules
  pub allowed : IsPolicy config policy
  pub ingress_once : IsWithoutRepeats policy.ingress
  pub egress_once : IsWithoutRepeats policy.egress

-- Which configurations are valid: one rule a field (firewalld.conf(5), firewalld.zone(5), firewalld.policies(5),
-- firewalld.service(5), firewalld.ipset(5), firewalld.richlanguage(5)).
use Rattle.std.specs.Prelude.{◌≡◌, ℕ, List}
use Rattle.fw_model.specs.declared.binding.Binding.{Binding}
use Rattle.fw_model.specs.declared.binding.Binding.TheVariants as binding
use Rattle.fw_model.specs.declared.config.Config.{Config}
use Rattle.fw_model.specs.declared.ipset.IpSet.{IpSet}
use Rattle.fw_model.specs.declared.policy.Policy.{Policy}
use Rattle.fw_model.specs.declared.rules.Rules.{Rules}
use Rattle.fw_model.specs.declared.service.Service.{Service}
use Rattle.fw_model.specs.declared.zone.Zone.{Zone}
use Rattle.fw_valid.specs.Each.{Each, IsWithoutRepeats}
use Rattle.fw_valid.specs.Names.{AreNamed, ipset_names, zone_names}
use Rattle.fw_valid.specs.Policies.{IsPolicy}
use Rattle.fw_valid.specs.Riches.{IsRich}
use Rattle.fw_valid.specs.Rules.{AreOnce, IsPlainForward, IsService, NamesKnown, SetsKnown, all_rules}
use Rattle.fw_valid.specs.Sets.{IsSet}
use Rattle.fw_zone.specs.Bindings.{IsListedAt, interfaces_of, sources_of, with_interfaces, with_sources}
use Rattle.fw_zone.specs.Lists.{IsIn}

-- an entry stands in at most one zone
abbrev pub IsInOneZone : {A : Type 0} → (Zone → List A) → (Zone → List A → Zone) → List Zone → Type 0
IsInOneZone {A} of with zones =
    (entry : A) (one other : ℕ) → IsListedAt of with zones one entry → IsListedAt of with zones other entry → one ≡ other

-- Each ipset that a zone's sources name is there.
abbrev pub SourcesKnown : Config → Zone → Type 0
SourcesKnown config zone = (name : List ℕ) → IsIn (binding.Set name) zone.sources → IsIn name (ipset_names config)

-- ipsets are there where they are named, and are as they must be
pub record AreSets (config : Config) : Type 0 where
  pub in_sources : Each (SourcesKnown config) config.zones
  pub in_rich_rules : Each (SetsKnown config) (all_rules config)
  pub sets : Each IsSet config.ipsets

-- services and ICMP types are there where they are named
pub record AreKnown (config : Config) : Type 0 where
  pub in_rules : Each (NamesKnown config) (all_rules config)
  pub in_services : Each (IsService config) config.services

-- every list, but for those of names, which another rule is about
pub record HasNoRepeats (config : Config) : Type 0 where
  pub rules : Each AreOnce (all_rules config)
  pub interfaces : Each (λ (zone : Zone). IsWithoutRepeats zone.interfaces) config.zones
  pub sources : Each (λ (zone : Zone). IsWithoutRepeats zone.sources) config.zones
  pub ingress : Each (λ (policy : Policy). IsWithoutRepeats policy.ingress) config.policies
  pub egress : Each (λ (policy : Policy). IsWithoutRepeats policy.egress) config.policies
  pub includes : Each (λ (service : Service). IsWithoutRepeats service.includes) config.services
  pub ports : Each (λ (service : Service). IsWithoutRepeats service.ports) config.services
  pub protocols : Each (λ (service : Service). IsWithoutRepeats service.protocols) config.services
  pub source_ports : Each (λ (service : Service). IsWithoutRepeats service.source_ports) config.services
  pub items : Each (λ (set : IpSet). IsWithoutRepeats set.items) config.ipsets

-- rich rules and forward ports as they can be written
pub record AreWritten (rules : Rules) : Type 0 where
  pub rich_rules : Each IsRich rules.rich
  pub forward_ports : Each IsPlainForward rules.forwards

pub record IsValid (config : Config) : Type 0 where
  -- names are well formed, and unique in their kind; no zone is called HOST or ANY
  pub names : AreNamed config
  -- the default zone is there
  pub default_zone : IsIn config.default_zone (zone_names config)
  -- an interface is bound to at most one zone
  pub interfaces : IsInOneZone interfaces_of with_interfaces config.zones
  -- and so is a source
  pub sources : IsInOneZone sources_of with_sources config.zones
  -- ipsets that are named are there; their items fit them
  pub ipsets : AreSets config
  -- services and ICMP types that are named are there; a service's destinations are of their families
  pub known : AreKnown config
  -- policies stand between zones that there are, and do there what can be done there
  pub policies : Each (IsPolicy config) config.policies
  -- no list has an element twice
  pub no_repeats : HasNoRepeats config
  -- rich rules have parts that go together; plain forward ports have a target, and no address of IPv6
  pub written : Each AreWritten (all_rules config)

-- Names of zones, policies, services and ipsets (firewalld.zone(5) and its kin), of ICMP types (firewalld.icmptype(5)), and
-- what is called by them.
use Rattle.std.specs.Prelude.{◌≡◌, ◌≢◌, ℕ, List, map, codes, is_some, IsTrue}
use Rattle.fw_addr.specs.Icmp.{icmp}
use Rattle.fw_addr.specs.WellFormed.{is_name}
use Rattle.fw_model.specs.declared.config.Config.{Config}
use Rattle.fw_model.specs.declared.ipset.IpSet.{IpSet}
use Rattle.fw_model.specs.declared.policy.Policy.{Policy}
use Rattle.fw_model.specs.declared.service.Service.{Service}
use Rattle.fw_model.specs.declared.zone.Zone.{Zone}
use Rattle.fw_valid.specs.Each.{Each, IsWithoutRepeats}
use Rattle.fw_zone.specs.Lists.{IsIn}

-- the host itself, and every zone, as policies name them (firewalld.policies(5))
abbrev pub host : List ℕ
host = codes "HOST"

abbrev pub any : List ℕ
any = codes "ANY"

abbrev pub zone_names : Config → List (List ℕ)
zone_names config = map (λ (zone : Zone). zone.name) config.zones

abbrev pub policy_names : Config → List (List ℕ)
policy_names config = map (λ (policy : Policy). policy.name) config.policies

abbrev pub service_names : Config → List (List ℕ)
service_names config = map (λ (service : Service). service.name) config.services

abbrev pub ipset_names : Config → List (List ℕ)
ipset_names config = map (λ (set : IpSet). set.name) config.ipsets

-- well-formed names of which no two are alike
pub record AreNames (names : List (List ℕ)) : Type 0 where
  pub well_formed : Each (λ name. IsTrue (is_name name)) names
  pub unique : IsWithoutRepeats names

-- the names of each kind; no zone has the names that policies use for the host and for every zone
pub record AreNamed (config : Config) : Type 0 where
  pub zones : AreNames (zone_names config)
  pub policies : AreNames (policy_names config)
  pub services : AreNames (service_names config)
  pub ipsets : AreNames (ipset_names config)
  pub no_host : ¬ (IsIn host (zone_names config))
  pub no_any : ¬ (IsIn any (zone_names config))

-- an ICMP type that there is
abbrev pub IsIcmpType : List ℕ → Type 0
IsIcmpType name = IsTrue (is_some (icmp name))

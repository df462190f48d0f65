-- A configuration of which parts are others: those that no zone and no policy has in it (firewalld.conf(5), `DefaultZone` and
-- `LogDenied`; firewalld.ipset(5)).
use Rattle.std.specs.Prelude.{◌≡◌, ℕ, List, map}
use Rattle.fw_model.specs.declared.config.Config.{Config}
use Rattle.fw_model.specs.declared.config.LogDenied.{LogDenied}
use Rattle.fw_model.specs.declared.ipset.IpSet.{IpSet}
use Rattle.fw_valid.specs.Each.{Each, IsWithoutRepeats}
use Rattle.fw_valid.specs.Names.{ipset_names}
use Rattle.fw_valid.specs.Sets.{IsSet}

abbrev pub with_parts : Config → (default_zone : List ℕ) → LogDenied → List IpSet → Config
with_parts config default_zone denied ipsets = record config { default_zone = default_zone; log_denied = denied; ipsets = ipsets }

-- ipsets of the same names, whose entries are as they must be
pub record AreOtherSets (config : Config) (ipsets : List IpSet) : Type 0 where
  pub names : map (λ (set : IpSet). set.name) ipsets ≡ ipset_names config
  pub sets : Each IsSet ipsets
  pub items : Each (λ (set : IpSet). IsWithoutRepeats set.items) ipsets

-- A configuration that keeps each rule is valid.
use Rattle.fw_broken.specs.Broken.{Holds, rules}
use Rattle.fw_model.specs.declared.config.Config.{Config}
use Rattle.fw_valid.specs.Each.{Each}
use Rattle.fw_valid.specs.Valid.{IsValid}
use Rattle.fw_broken.proofs.broken.first_of_all.Goals as goal

to_valid : (config : Config) → Each (Holds config) rules → IsValid config
to_valid config kept = record {
  names = kept.0;
  default_zone = kept.1.0;
  interfaces = kept.1.1.0;
  sources = kept.1.1.1.0;
  ipsets = kept.1.1.1.1.0;
  known = kept.1.1.1.1.1.0;
  policies = kept.1.1.1.1.1.1.0;
  no_repeats = kept.1.1.1.1.1.1.1.0;
  written = kept.1.1.1.1.1.1.1.1.0;
}

from_valid : (config : Config) → IsValid config → Each (Holds config) rules
from_valid config valid = (
  valid.names,
  (
    valid.default_zone,
    (
      valid.interfaces,
      (valid.sources, (valid.ipsets, (valid.known, (valid.policies, (valid.no_repeats, (valid.written, tt)))))),
    ),
  ),
)

pub returns-clause-valid : goal.returns-clause-valid
returns-clause-valid c = (
  (λ none. to_valid c.args.config.now (c.first_broken.ensures.none.0 none)),
  (λ valid. c.first_broken.ensures.none.1 (from_valid c.args.config.now valid)),
)

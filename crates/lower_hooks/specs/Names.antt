-- The names of the chains that packets meet at the hooks.
use Rattle.std.specs.Prelude.{ℕ, List, ◌++◌, ◌∷◌, codes, map}
use Rattle.std.specs.List.{flat_map}
use Rattle.fw_model.specs.declared.zone.Zone.{Zone}
use Rattle.nf_rules.specs.declared.chain.Chain.{Chain}

-- the chains of zones for packets to the host, for forwarded packets, and for packets of the host
abbrev pub input_start : List ℕ
input_start = codes "filter_INPUT_"

abbrev pub forward_start : List ℕ
forward_start = codes "filter_FORWARD_"

abbrev pub output_start : List ℕ
output_start = codes "filter_OUTPUT_"

-- those for packets from a zone to others
abbrev pub pair_start : List ℕ → List ℕ
pair_start from = codes "filter_FORWARD_" ++ from ++ codes "/"

abbrev pub names_of : List Chain → List (List ℕ)
names_of chains = map (λ (chain : Chain). chain.name) chains

-- one for each zone
abbrev pub zone_names : List ℕ → List Zone → List (List ℕ)
zone_names start zones = map (λ (zone : Zone). start ++ zone.name) zones

-- that of a zone, and those for packets from it to others
abbrev pub from_names : List Zone → Zone → List (List ℕ)
from_names zones from = (forward_start ++ from.name) ∷ zone_names (pair_start from.name) zones

abbrev pub forward_names : List Zone → List Zone → List (List ℕ)
forward_names others zones = flat_map (from_names others) zones

-- Which settings have anything that may stand in the filter.
use Rattle.std.specs.Prelude.{◌==◌, Bool, not, ◌||◌, length}
use Rattle.fw_model.specs.declared.rules.Rules.{Rules}
use Rattle.fw_model.specs.declared.zone.Zone.{Zone}

-- Masquerade and forwarded ports have no place there.
abbrev pub has_settings : Rules → Bool
has_settings rules =
    not (length rules.services == 0)
    || not (length rules.ports == 0)
    || not (length rules.protocols == 0)
    || not (length rules.source_ports == 0)
    || not (length rules.icmp_blocks == 0)
    || not (length rules.rich == 0)

-- With the inversion of ICMP types a zone blocks ICMP even where it lists none.
abbrev pub has_walk : Zone → Bool
has_walk zone = zone.inversion || has_settings zone.rules

-- Settings of a zone, as tests and edits see them (firewalld.dbus(5), `addPort`, `removePort`, `queryPort` and their kin).
use Rattle.std.specs.Prelude.{ℕ, Bool, false, if◌then◌else◌, List, nat_eq, Result, Ok, Err, slice_set}
use Rattle.std.specs.Str.{bytes_eq}
use Rattle.fw_answer.specs.Equal.{same_port, same_rule}
use Rattle.fw_answer.specs.Lists.{is_in, without}
use Rattle.fw_model.specs.contracts.forward.ForwardPartialEq.TheImpl as forward
use Rattle.fw_model.specs.declared.code.Code.{Code}
use Rattle.fw_model.specs.declared.code.Code.TheVariants as code
use Rattle.fw_model.specs.declared.forward.Forward.{Forward}
use Rattle.fw_model.specs.declared.rules.Rules.{Rules}
use Rattle.fw_model.specs.declared.setting.Setting.{Setting}
use Rattle.fw_model.specs.declared.setting.Setting.TheVariants as setting
use Rattle.fw_model.specs.declared.zone.Zone.{Zone}
use Rattle.fw_zone.specs.Settings.{with_setting}
use Rattle.fw_zone_edits.specs.Zones.{Found}

-- the same forward port, part by part, as `==` says
unfoldable pub same_forward : Forward → Forward → Bool
same_forward = (forward.ghosts).eq

-- whether a setting is there
unfoldable pub has : Rules → Setting → Bool
has rules (setting.Service name) = is_in bytes_eq name rules.services
has rules (setting.Port port) = is_in same_port port rules.ports
has rules (setting.Protocol protocol) = is_in nat_eq protocol rules.protocols
has rules (setting.SourcePort port) = is_in same_port port rules.source_ports
has rules (setting.IcmpBlock name) = is_in bytes_eq name rules.icmp_blocks
has rules setting.Masquerade = rules.masquerade
has rules (setting.Forward forward) = is_in same_forward forward rules.forwards
has rules (setting.Rich rule) = is_in same_rule rule rules.rich

-- the settings without one
abbrev pub without_setting : Rules → Setting → Rules
without_setting rules (setting.Service name) = record rules { services = without bytes_eq name rules.services }
without_setting rules (setting.Port port) = record rules { ports = without same_port port rules.ports }
without_setting rules (setting.Protocol protocol) = record rules { protocols = without nat_eq protocol rules.protocols }
without_setting rules (setting.SourcePort port) = record rules { source_ports = without same_port port rules.source_ports }
without_setting rules (setting.IcmpBlock name) = record rules { icmp_blocks = without bytes_eq name rules.icmp_blocks }
without_setting rules setting.Masquerade = record rules { masquerade = false }
without_setting rules (setting.Forward forward) = record rules { forwards = without same_forward forward rules.forwards }
without_setting rules (setting.Rich rule) = record rules { rich = without same_rule rule rules.rich }

-- a zone with a setting more, and with one less
abbrev pub added : Zone → Setting → Result Zone Code
added zone setting = if has zone.rules setting then Err code.AlreadyEnabled else Ok (record zone { rules = with_setting zone.rules setting })

abbrev pub removed : Zone → Setting → Result Zone Code
removed zone setting = if has zone.rules setting then Ok (record zone { rules = without_setting zone.rules setting }) else Err code.NotEnabled

-- the zones after an edit of one of them
abbrev pub edited : List Zone → (place : ℕ) → Result Zone Code → Result (List Zone) Code
edited zones place (Ok zone) = Ok (slice_set zones place zone)
edited zones place (Err code) = Err code

unfoldable pub added_at : List Zone → Found → Setting → Result (List Zone) Code
added_at zones found setting = edited zones found.place (added found.zone setting)

unfoldable pub removed_at : List Zone → Found → Setting → Result (List Zone) Code
removed_at zones found setting = edited zones found.place (removed found.zone setting)

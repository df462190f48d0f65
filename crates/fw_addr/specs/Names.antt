-- The names of what rules and packets are made of: types of rejects and units of limits as in nft(8) and
-- firewalld.richlanguage(5), levels by syslog(3), and states and packet types by nft(8), "EXPRESSIONS".
use Rattle.std.specs.Prelude.{codes, List, ℕ, ◌++◌, ◌∷◌, decimal}
use Rattle.fw_addr.specs.declared.limit.Limit.{Limit}
use Rattle.fw_addr.specs.declared.limit.Unit.{Unit}
use Rattle.fw_addr.specs.declared.limit.Unit.TheVariants as unit
use Rattle.fw_addr.specs.declared.log.Level.{Level}
use Rattle.fw_addr.specs.declared.log.Level.TheVariants as level
use Rattle.fw_addr.specs.declared.log.LogKind.{LogKind}
use Rattle.fw_addr.specs.declared.log.LogKind.TheVariants as log
use Rattle.fw_addr.specs.declared.packet.CtState.{CtState}
use Rattle.fw_addr.specs.declared.packet.CtState.TheVariants as state
use Rattle.fw_addr.specs.declared.packet.Family.{Family}
use Rattle.fw_addr.specs.declared.packet.Family.TheVariants as family
use Rattle.fw_addr.specs.declared.packet.PktType.{PktType}
use Rattle.fw_addr.specs.declared.packet.PktType.TheVariants as packet
use Rattle.fw_addr.specs.declared.reject.RejectType.{RejectType}
use Rattle.fw_addr.specs.declared.reject.RejectType.TheVariants as reject

abbrev pub reject_text : RejectType → List ℕ
reject_text reject.IcmpNetUnreachable = codes "icmp-net-unreachable"
reject_text reject.IcmpHostUnreachable = codes "icmp-host-unreachable"
reject_text reject.IcmpPortUnreachable = codes "icmp-port-unreachable"
reject_text reject.IcmpProtoUnreachable = codes "icmp-proto-unreachable"
reject_text reject.IcmpNetProhibited = codes "icmp-net-prohibited"
reject_text reject.IcmpHostProhibited = codes "icmp-host-prohibited"
reject_text reject.IcmpAdminProhibited = codes "icmp-admin-prohibited"
reject_text reject.Icmp6NoRoute = codes "icmp6-no-route"
reject_text reject.Icmp6AddrUnreachable = codes "icmp6-addr-unreachable"
reject_text reject.Icmp6PortUnreachable = codes "icmp6-port-unreachable"
reject_text reject.Icmp6AdmProhibited = codes "icmp6-adm-prohibited"
reject_text reject.IcmpxAdminProhibited = codes "icmpx-admin-prohibited"
reject_text reject.IcmpxPortUnreachable = codes "icmpx-port-unreachable"
reject_text reject.TcpReset = codes "tcp-reset"

abbrev pub level_text : Level → List ℕ
level_text level.Emerg = codes "emerg"
level_text level.Alert = codes "alert"
level_text level.Crit = codes "crit"
level_text level.Error = codes "error"
level_text level.Warning = codes "warning"
level_text level.Notice = codes "notice"
level_text level.Info = codes "info"
level_text level.Debug = codes "debug"

abbrev pub kind_text : LogKind → List ℕ
kind_text log.Deny = codes "deny"
kind_text log.Rich = codes "rich"
kind_text log.Audit = codes "audit"

abbrev pub state_text : CtState → List ℕ
state_text state.New = codes "new"
state_text state.Established = codes "established"
state_text state.Related = codes "related"
state_text state.Invalid = codes "invalid"

abbrev pub packet_type_text : PktType → List ℕ
packet_type_text packet.Unicast = codes "unicast"
packet_type_text packet.Broadcast = codes "broadcast"
packet_type_text packet.Multicast = codes "multicast"

abbrev pub family_text : Family → List ℕ
family_text family.V4 = codes "ipv4"
family_text family.V6 = codes "ipv6"

-- a unit's name, as in nft(8)
abbrev pub unit_text : Unit → List ℕ
unit_text unit.Second = codes "second"
unit_text unit.Minute = codes "minute"
unit_text unit.Hour = codes "hour"
unit_text unit.Day = codes "day"

-- and its letter, as in firewalld.richlanguage(5)
abbrev pub unit_letter : Unit → List ℕ
unit_letter unit.Second = codes "s"
unit_letter unit.Minute = codes "m"
unit_letter unit.Hour = codes "h"
unit_letter unit.Day = codes "d"

-- a rate with the unit's name: the count, `/` (47) and the name
abbrev pub limit_text : Limit → List ℕ
limit_text limit = decimal limit.count ++ 47 ∷ unit_text limit.unit

-- Names in rich rules: the levels of log lines and the types of rejects (firewalld.richlanguage(5), "Log" and
-- "Action"), and the text that a log line begins with.
use Rattle.std.specs.Prelude.{ℕ, codes, nat_le, if◌then◌else◌, List, [], ◌∷◌, length, Option, None, Some, is_some}
use Rattle.fw_addr.specs.Icmp.{icmp}
use Rattle.fw_addr.specs.WellFormed.{is_name}
use Rattle.fw_addr.specs.declared.log.Level.{Level}
use Rattle.fw_addr.specs.declared.log.Level.TheVariants.{Emerg, Alert, Crit, Error, Warning, Notice, Info, Debug}
use Rattle.fw_addr.specs.declared.reject.RejectType.{RejectType}
use Rattle.fw_addr.specs.declared.reject.RejectType.TheVariants as reject

abbrev pub levels : List (List ℕ × Level)
levels =
    (codes "emerg", Emerg) ∷ (codes "alert", Alert) ∷ (codes "crit", Crit) ∷ (codes "error", Error) ∷ (codes "warning", Warning)
    ∷ (codes "notice", Notice) ∷ (codes "info", Info) ∷ (codes "debug", Debug) ∷ []

-- the types of ICMP, of ICMPv6, and the reset of TCP
abbrev pub reject_types : List (List ℕ × RejectType)
reject_types =
    (codes "icmp-net-unreachable", reject.IcmpNetUnreachable) ∷ (codes "icmp-host-unreachable", reject.IcmpHostUnreachable)
    ∷ (codes "icmp-port-unreachable", reject.IcmpPortUnreachable) ∷ (codes "icmp-proto-unreachable", reject.IcmpProtoUnreachable)
    ∷ (codes "icmp-net-prohibited", reject.IcmpNetProhibited) ∷ (codes "icmp-host-prohibited", reject.IcmpHostProhibited)
    ∷ (codes "icmp-admin-prohibited", reject.IcmpAdminProhibited) ∷ (codes "icmp6-no-route", reject.Icmp6NoRoute)
    ∷ (codes "icmp6-addr-unreachable", reject.Icmp6AddrUnreachable) ∷ (codes "icmp6-port-unreachable", reject.Icmp6PortUnreachable)
    ∷ (codes "icmp6-adm-prohibited", reject.Icmp6AdmProhibited) ∷ (codes "tcp-reset", reject.TcpReset) ∷ []

-- at most 127 bytes
unfoldable pub prefix : List ℕ → Option (List ℕ)
prefix text = if nat_le (length text) 127 then Some text else None

-- the name of a service or an ipset
unfoldable pub name : List ℕ → Option (List ℕ)
name text = if is_name text then Some text else None

-- the name of an ICMP type
unfoldable pub icmp_name : List ℕ → Option (List ℕ)
icmp_name text = if is_some (icmp text) then Some text else None

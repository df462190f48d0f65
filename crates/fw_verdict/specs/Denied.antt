-- Which denied packets are told of, and by which lines (firewalld.conf(5), `LogDenied`).
use Rattle.std.specs.Prelude.{ℕ, List, ◌++◌, codes, Bool, true, false}
use Rattle.fw_addr.specs.declared.log.Level.TheVariants.{Warning}
use Rattle.fw_addr.specs.declared.log.LogKind.TheVariants as kind
use Rattle.fw_addr.specs.declared.log.LogLine.{LogLine}
use Rattle.fw_addr.specs.declared.packet.PktType.{PktType}
use Rattle.fw_addr.specs.declared.packet.PktType.TheVariants as to
use Rattle.fw_model.specs.declared.config.Config.{Config}
use Rattle.fw_model.specs.declared.config.LogDenied.{LogDenied}
use Rattle.fw_model.specs.declared.config.LogDenied.TheVariants as denied
use Rattle.fw_verdict.specs.Walk.{Item}
use Rattle.fw_verdict.specs.Walk.Effect.{log}

-- all of them, or those that the link layer addressed so
abbrev pub is_told : LogDenied → PktType → Bool
is_told denied.Off type = false
is_told denied.All type = true
is_told denied.Unicast to.Unicast = true
is_told denied.Unicast to.Broadcast = false
is_told denied.Unicast to.Multicast = false
is_told denied.Broadcast to.Unicast = false
is_told denied.Broadcast to.Broadcast = true
is_told denied.Broadcast to.Multicast = false
is_told denied.Multicast to.Unicast = false
is_told denied.Multicast to.Broadcast = false
is_told denied.Multicast to.Multicast = true

abbrev pub denial : List ℕ → LogLine
denial prefix = record { kind = kind.Deny; level = Warning; prefix = prefix }

-- the line before a denial
abbrev pub denial_item : Config → List ℕ → Item
denial_item config prefix = record { hits = λ packet. is_told config.log_denied packet.pkt; effect = log (denial prefix) }

-- What the lines begin with: a packet of no connection, what a zone's target drops and rejects of packets to the host and of forwarded
-- ones, and the last reject of all.
abbrev pub invalid_prefix : List ℕ
invalid_prefix = codes "STATE_INVALID_DROP: "

abbrev pub final_prefix : List ℕ
final_prefix = codes "FINAL_REJECT: "

abbrev pub input_front : List ℕ
input_front = codes "filter_IN_"

abbrev pub forward_front : List ℕ
forward_front = codes "filter_FWD_"

abbrev pub drop_prefix : (front name : List ℕ) → List ℕ
drop_prefix front name = front ++ name ++ codes "_DROP: "

abbrev pub reject_prefix : (front name : List ℕ) → List ℕ
reject_prefix front name = front ++ name ++ codes "_REJECT: "

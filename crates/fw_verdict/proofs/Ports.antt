-- Forwarded ports that are no rich rules: the first that is about a packet sends it on.
use Rattle.std.proofs.Common.{◌≡◌, ◌∙◌, List, [], ◌∷◌, map, Bool, true, false, ◌&&◌, Option, None, Some, refl, sym, ap, subst}
use Rattle.std.specs.Prelude.{if◌then◌else◌}
use Rattle.std.specs.List.{find}
use Rattle.std.specs.Option.{option_map}
use Rattle.fw_addr.specs.declared.dnat.Dnat.{Dnat}
use Rattle.fw_addr.specs.declared.log.LogLine.{LogLine}
use Rattle.fw_hits.specs.Plain.{is_ipv4}
use Rattle.fw_model.specs.Ports.{port_matches}
use Rattle.fw_model.specs.declared.config.Config.{Config}
use Rattle.fw_model.specs.declared.forward.Forward.{Forward}
use Rattle.fw_model.specs.declared.packet.Packet.{Packet}
use Rattle.fw_verdict.specs.Changes.{Passing, Reached, and_on, changed, going_on, through, with_mark}
use Rattle.fw_verdict.specs.Changes.Change.{translate}
use Rattle.fw_verdict.specs.Led.{SendsTo, sent_on, standing}
use Rattle.fw_verdict.specs.Outside.{port_item, target_of}

-- whether a port is about a packet
abbrev pub is_about : Packet → Forward → Bool
is_about packet forward = is_ipv4 packet && port_matches forward.port packet

one_more : (hit : Bool) (forward : Forward) (found : Option Forward) (others : Passing → Reached) (now : Passing)
    → others now ≡ sent_on (option_map target_of found) now
    → and_on (if hit then record { now = changed (translate (target_of forward)) now; over = true } else going_on now) others
    ≡ sent_on (option_map target_of (if hit then Some forward else found)) now
one_more true forward found others now is = refl
one_more false forward found others now is = is

through_ports : (config : Config) (forwards : List Forward) (now : Passing)
    → through (map (port_item config) forwards) now ≡ sent_on (option_map target_of (find (is_about now.packet) forwards)) now
through_ports config [] now = refl
through_ports config (forward ∷ forwards) now =
    one_more (is_about now.packet forward) forward (find (is_about now.packet) forwards) (through (map (port_item config) forwards)) now (through_ports config forwards now)

pub sends_by_port : (config : Config) (forwards : List Forward) (packet : Packet) (logs : List LogLine) (found : Option Dnat)
    → found ≡ option_map target_of (find (is_about packet) forwards)
    → SendsTo (map (port_item config) forwards) packet logs logs found
sends_by_port config forwards packet logs found is = record {
  is = λ mark.
      through_ports config forwards (standing (with_mark mark packet) None logs)
      ∙ ap (λ (one : Option Dnat). sent_on one (standing (with_mark mark packet) None logs)) (sym is);
}

pub same_ports : (config : Config) (lent_ones forwards : List Forward) (packet : Packet) (logs : List LogLine) (found : Option Dnat)
    → lent_ones ≡ forwards
    → SendsTo (map (port_item config) lent_ones) packet logs logs found
    → SendsTo (map (port_item config) forwards) packet logs logs found
same_ports config lent_ones forwards packet logs found is sends =
    subst (λ (ports : List Forward). SendsTo (map (port_item config) ports) packet logs logs found) is sends

-- Which packets a setting of a zone or a policy is about (firewalld.zone(5), firewalld.policy(5)).
use Rattle.std.specs.Prelude.{◌==◌, Bool, ◌&&◌}
use Rattle.fw_hits.specs.Plain.{hits_icmp, hits_service, is_ipv4}
use Rattle.fw_hits.specs.Rich.{hits_rich}
use Rattle.fw_hits.specs.Services.{source_port_matches}
use Rattle.fw_model.specs.Ports.{port_matches}
use Rattle.fw_model.specs.declared.config.Config.{Config}
use Rattle.fw_model.specs.declared.packet.Packet.{Packet}
use Rattle.fw_model.specs.declared.setting.Setting.{Setting}
use Rattle.fw_model.specs.declared.setting.Setting.TheVariants as setting

-- Masquerade and the forwarding of ports are for IPv4 alone.
abbrev pub hits : Config → Setting → Packet → Bool
hits config (setting.Service name) packet = hits_service config name packet
hits config (setting.Port port) packet = port_matches port packet
hits config (setting.Protocol protocol) packet = packet.proto == protocol
hits config (setting.SourcePort port) packet = source_port_matches port packet
hits config (setting.IcmpBlock name) packet = hits_icmp name packet
hits config setting.Masquerade packet = is_ipv4 packet
hits config (setting.Forward forward) packet = is_ipv4 packet && port_matches forward.port packet
hits config (setting.Rich rule) packet = hits_rich config rule packet

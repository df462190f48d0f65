-- Packets of which rules have rewritten parts (nft(8), META STATEMENT and NAT STATEMENTS).
use Rattle.fw_model.specs.declared.packet.Packet.{Packet}
use Rattle.nf_eval.specs.declared.rewrite.Rewrite.{Rewrite}

-- the parts of a packet as it came
abbrev pub unwritten : Packet → Rewrite
unwritten packet = record { mark = packet.mark; dst = packet.dst; dport = packet.dport; dnat = packet.dnat }

-- the packet that came, with these parts
abbrev pub rewritten : Rewrite → Packet → Packet
rewritten parts packet = record packet { mark = parts.mark; dst = parts.dst; dport = parts.dport; dnat = parts.dnat }

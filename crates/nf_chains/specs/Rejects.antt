-- What can be rejected how (nft(8), "REJECT STATEMENT").
use Rattle.std.specs.Prelude.{Bool, true, ◌==◌}
use Rattle.fw_addr.specs.Protocols.{proto_number}
use Rattle.fw_addr.specs.declared.proto.PortProto.TheVariants.{Tcp}
use Rattle.fw_addr.specs.declared.reject.RejectType.{RejectType}
use Rattle.fw_addr.specs.declared.reject.RejectType.TheVariants.{TcpReset}
use Rattle.fw_model.specs.declared.packet.Packet.{Packet}

-- a reject with a reset answers TCP alone
abbrev pub can_reject : RejectType → Packet → Bool
can_reject TcpReset packet = packet.proto == proto_number Tcp
can_reject kind packet = true

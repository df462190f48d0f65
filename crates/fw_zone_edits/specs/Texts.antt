-- The canonical texts of settings, as refusals name them, and their parts, as signals carry them (firewalld.dbus(5), "Signals"; how
-- refusals name settings is this project's own).
use Rattle.std.specs.Prelude.{ℕ, codes, decimal, List, [], ◌∷◌, ◌++◌, Option, None, Some}
use Rattle.fw_addr.specs.Canonical.{address_text}
use Rattle.fw_addr.specs.Ports.{ports_text}
use Rattle.fw_addr.specs.Protocols.{port_proto_text, proto_text}
use Rattle.fw_addr.specs.declared.addr.Addr.{Addr}
use Rattle.fw_calls.specs.declared.signal.Arg.{Arg}
use Rattle.fw_calls.specs.declared.signal.Arg.TheVariants as arg
use Rattle.fw_model.specs.declared.forward.Forward.{Forward}
use Rattle.fw_model.specs.declared.port.Port.{Port}
use Rattle.fw_model.specs.declared.setting.Setting.{Setting}
use Rattle.fw_model.specs.declared.setting.Setting.TheVariants as setting
use Rattle.fw_rich.specs.Canonical.{canon}

-- a port, as `80/tcp`
abbrev pub port_text : Port → List ℕ
port_text port = ports_text port.range ++ 47 ∷ port_proto_text port.proto

-- the port and the address to which packets go, empty where they keep their own
abbrev pub to_port_text : Option ℕ → List ℕ
to_port_text None = []
to_port_text (Some port) = decimal port

abbrev pub to_address_text : Option Addr → List ℕ
to_address_text None = []
to_address_text (Some address) = address_text address

-- a forward port, as `80/tcp:8080:10.0.0.5`
unfoldable pub forward_text : Forward → List ℕ
forward_text forward =
    port_text forward.port ++ (58 ∷ (to_port_text forward.to_port ++ (58 ∷ to_address_text forward.to_addr)))

-- a setting's canonical text
unfoldable pub setting_text : Setting → List ℕ
setting_text (setting.Service name) = name
setting_text (setting.Port port) = port_text port
setting_text (setting.Protocol protocol) = proto_text protocol
setting_text (setting.SourcePort port) = port_text port
setting_text (setting.IcmpBlock name) = name
setting_text setting.Masquerade = codes "masquerade"
setting_text (setting.Forward forward) = forward_text forward
setting_text (setting.Rich rule) = canon rule

-- a setting as the arguments of a signal
abbrev pub port_args : Port → List Arg
port_args port = arg.Text (ports_text port.range) ∷ arg.Text (port_proto_text port.proto) ∷ []

abbrev pub setting_args : Setting → List Arg
setting_args (setting.Service name) = arg.Text name ∷ []
setting_args (setting.Port port) = port_args port
setting_args (setting.Protocol protocol) = arg.Text (proto_text protocol) ∷ []
setting_args (setting.SourcePort port) = port_args port
setting_args (setting.IcmpBlock name) = arg.Text name ∷ []
setting_args setting.Masquerade = []
setting_args (setting.Forward forward) =
    port_args forward.port ++ arg.Text (to_port_text forward.to_port) ∷ arg.Text (to_address_text forward.to_addr) ∷ []
setting_args (setting.Rich rule) = arg.Text (canon rule) ∷ []

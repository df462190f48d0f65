-- The settings of a zone or a policy one by one (firewalld.zone(5), firewalld.policy(5)): each is an item of its list, but
-- for masquerade, which is there or not.
use Rattle.std.specs.Prelude.{◌≡◌, ℕ, Bool, true, false, IsTrue, List, [], ◌∷◌, ◌++◌}
use Rattle.fw_model.specs.declared.forward.Forward.{Forward}
use Rattle.fw_model.specs.declared.port.Port.{Port}
use Rattle.fw_model.specs.declared.rich.Rich.{Rich}
use Rattle.fw_model.specs.declared.rules.Rules.{Rules}
use Rattle.fw_model.specs.declared.setting.Setting.{Setting}
use Rattle.fw_model.specs.declared.setting.Setting.TheVariants as setting
use Rattle.fw_zone.specs.Lists.{IsIn, IsRemoved}

-- a setting is there
abbrev pub Has : Rules → Setting → Type 0
Has rules (setting.Service name) = IsIn name rules.services
Has rules (setting.Port port) = IsIn port rules.ports
Has rules (setting.Protocol protocol) = IsIn protocol rules.protocols
Has rules (setting.SourcePort port) = IsIn port rules.source_ports
Has rules (setting.IcmpBlock name) = IsIn name rules.icmp_blocks
Has rules setting.Masquerade = IsTrue rules.masquerade
Has rules (setting.Forward forward) = IsIn forward rules.forwards
Has rules (setting.Rich rule) = IsIn rule rules.rich

-- a setting more, the last of its list
abbrev pub with_setting : Rules → Setting → Rules
with_setting rules (setting.Service name) = record rules { services = rules.services ++ name ∷ [] }
with_setting rules (setting.Port port) = record rules { ports = rules.ports ++ port ∷ [] }
with_setting rules (setting.Protocol protocol) = record rules { protocols = rules.protocols ++ protocol ∷ [] }
with_setting rules (setting.SourcePort port) = record rules { source_ports = rules.source_ports ++ port ∷ [] }
with_setting rules (setting.IcmpBlock name) = record rules { icmp_blocks = rules.icmp_blocks ++ name ∷ [] }
with_setting rules setting.Masquerade = record rules { masquerade = true }
with_setting rules (setting.Forward forward) = record rules { forwards = rules.forwards ++ forward ∷ [] }
with_setting rules (setting.Rich rule) = record rules { rich = rules.rich ++ rule ∷ [] }

-- a setting went from its list, and all else is as before
abbrev pub IsWithout : Rules → Setting → Rules → Type 0
IsWithout old (setting.Service name) new = (left : List (List ℕ)) × IsRemoved name old.services left × (new ≡ record old { services = left })
IsWithout old (setting.Port port) new = (left : List Port) × IsRemoved port old.ports left × (new ≡ record old { ports = left })
IsWithout old (setting.Protocol protocol) new = (left : List ℕ) × IsRemoved protocol old.protocols left × (new ≡ record old { protocols = left })
IsWithout old (setting.SourcePort port) new = (left : List Port) × IsRemoved port old.source_ports left × (new ≡ record old { source_ports = left })
IsWithout old (setting.IcmpBlock name) new = (left : List (List ℕ)) × IsRemoved name old.icmp_blocks left × (new ≡ record old { icmp_blocks = left })
IsWithout old setting.Masquerade new = new ≡ record old { masquerade = false }
IsWithout old (setting.Forward forward) new = (left : List Forward) × IsRemoved forward old.forwards left × (new ≡ record old { forwards = left })
IsWithout old (setting.Rich rule) new = (left : List Rich) × IsRemoved rule old.rich left × (new ≡ record old { rich = left })

-- What is wrong with a policy, by the first rule that it breaks (firewalld.policies(5), firewalld.policy(5)).
use Rattle.std.specs.Prelude.{ℕ, List, int_lt, ℤ, pos, negsuc, Bool, true, false, not, ◌&&◌, ◌||◌, Option, None, Some, is_none, if◌then◌else◌}
use Rattle.std.specs.List.{list_all, list_any}
use Rattle.std.specs.Option.{option_map, option_or}
use Rattle.std.specs.Ordering.{int_eq}
use Rattle.fw_model.specs.declared.code.Code.{Code}
use Rattle.fw_model.specs.declared.code.Code.TheVariants as code
use Rattle.fw_model.specs.declared.forward.Forward.{Forward}
use Rattle.fw_model.specs.declared.policy.Policy.{Policy}
use Rattle.fw_model.specs.declared.rich.Act.{Act}
use Rattle.fw_model.specs.declared.rich.Act.TheVariants as act
use Rattle.fw_model.specs.declared.rich.Action.{Action}
use Rattle.fw_model.specs.declared.rich.Element.{Element}
use Rattle.fw_model.specs.declared.rich.Element.TheVariants as element
use Rattle.fw_model.specs.declared.rich.Rich.{Rich}
use Rattle.fw_model.specs.declared.rules.Rules.{Rules}
use Rattle.fw_model.specs.declared.zone.Zone.{Zone}
use Rattle.fw_policy.specs.Sides.{first_unknown, is_only, stand_alone}
use Rattle.fw_policy.specs.declared.fault.Fault.{Fault}
use Rattle.fw_policy.specs.declared.fault.Fault.TheVariants as fault
use Rattle.fw_valid.specs.Names.{any, host}

-- a priority that a policy may not have: that of the zones, 0, or one that is no number of 16 bits with its sign
abbrev pub is_bad_priority : ℤ → Bool
is_bad_priority priority = int_eq priority (pos 0) || (int_lt priority (negsuc 32767) || int_lt (pos 32767) priority)

-- packets masquerade, by the plain setting or by a rich rule
abbrev pub is_masquerade : Option Element → Bool
is_masquerade None = false
is_masquerade (Some (element.Service name)) = false
is_masquerade (Some (element.Port port)) = false
is_masquerade (Some (element.Protocol protocol)) = false
is_masquerade (Some (element.IcmpBlock name)) = false
is_masquerade (Some (element.IcmpType name)) = false
is_masquerade (Some element.Masquerade) = true
is_masquerade (Some (element.SourcePort port)) = false
is_masquerade (Some (element.Forward forward)) = false

abbrev pub masquerades : Rules → Bool
masquerades rules = rules.masquerade || list_any (λ (rule : Rich). is_masquerade rule.element) rules.rich

-- A port is forwarded to another port of the host itself where the host is the egress, and to a host with an address where the
-- egress is every zone.
abbrev pub fits_egress : List (List ℕ) → Forward → Bool
fits_egress egress forward = if is_none forward.to_addr then is_only host egress else is_only any egress

abbrev pub element_fits_egress : List (List ℕ) → Option Element → Bool
element_fits_egress egress None = true
element_fits_egress egress (Some (element.Service name)) = true
element_fits_egress egress (Some (element.Port port)) = true
element_fits_egress egress (Some (element.Protocol protocol)) = true
element_fits_egress egress (Some (element.IcmpBlock name)) = true
element_fits_egress egress (Some (element.IcmpType name)) = true
element_fits_egress egress (Some element.Masquerade) = true
element_fits_egress egress (Some (element.SourcePort port)) = true
element_fits_egress egress (Some (element.Forward forward)) = fits_egress egress forward

-- all ports that are forwarded, by plain settings and by rich rules
abbrev pub forwards_fit : List (List ℕ) → Rules → Bool
forwards_fit egress rules =
    list_all (fits_egress egress) rules.forwards && list_all (λ (rule : Rich). element_fits_egress egress rule.element) rules.rich

-- packets are marked by a rich rule
abbrev pub is_mark : Act → Bool
is_mark act.Accept = false
is_mark (act.Reject type) = false
is_mark act.Drop = false
is_mark (act.Mark value mask) = true

abbrev pub action_marks : Option Action → Bool
action_marks None = false
action_marks (Some action) = is_mark action.act

abbrev pub marks : Rules → Bool
marks rules = list_any (λ (rule : Rich). action_marks rule.action) rules.rich

abbrev pub fault_if : Bool → Fault → Option Fault
fault_if broken fault = if broken then Some fault else None

-- what can't stand between two sides
abbrev pub misplaced : List (List ℕ) → List (List ℕ) → Rules → Option Fault
misplaced ingress egress rules =
    option_or (fault_if (masquerades rules && not (is_only any ingress && not (is_only host egress))) fault.Masquerade)
    (option_or (fault_if (not (forwards_fit egress rules)) fault.Forward)
    (fault_if (marks rules && not (is_only any egress)) fault.Mark))

-- The rules on policies, in their order; the first that is broken is told.
abbrev pub first_fault : Policy → List Zone → Option Fault
first_fault policy zones =
    option_or (fault_if (is_bad_priority policy.priority) fault.Priority)
    (option_or (option_map fault.UnknownIngress (first_unknown zones policy.ingress))
    (option_or (option_map fault.UnknownEgress (first_unknown zones policy.egress))
    (option_or (fault_if (not (stand_alone policy.ingress && stand_alone policy.egress)) fault.NotAlone)
    (option_or (fault_if (is_only host policy.ingress && is_only host policy.egress) fault.HostToHost)
    (misplaced policy.ingress policy.egress policy.rules)))))

-- the code by which a call is refused (firewalld.dbus(5), "Exceptions")
abbrev pub code_of : Fault → Code
code_of fault.Priority = code.InvalidPriority
code_of (fault.UnknownIngress place) = code.InvalidZone
code_of (fault.UnknownEgress place) = code.InvalidZone
code_of fault.NotAlone = code.InvalidZone
code_of fault.HostToHost = code.InvalidZone
code_of fault.Masquerade = code.InvalidZone
code_of fault.Forward = code.InvalidZone
code_of fault.Mark = code.InvalidZone

abbrev pub policy_fault : Policy → List Zone → Option Code
policy_fault policy zones = option_map code_of (first_fault policy zones)

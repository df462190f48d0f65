-- What rules outside the filter make of a packet that they are about, and to what a walk of changes leads a packet, as the code has it: its
-- mark, its new destination, whether it is masqueraded, and the lines so far.
use Rattle.std.specs.Prelude.{◌≡◌, ℕ, List, [], ◌++◌, ◌∷◌, map, Bool, true, false, Option, None, Some, if◌then◌else◌}
use Rattle.fw_addr.specs.declared.dnat.Dnat.{Dnat}
use Rattle.fw_addr.specs.declared.limit.Limit.{Limit}
use Rattle.fw_addr.specs.declared.log.LogLine.{LogLine}
use Rattle.fw_model.specs.declared.config.Config.{Config}
use Rattle.fw_model.specs.declared.packet.Packet.{Packet}
use Rattle.fw_model.specs.declared.policy.Policy.{Policy}
use Rattle.fw_model.specs.declared.rich.Act.{Act}
use Rattle.fw_model.specs.declared.rich.Act.TheVariants as act
use Rattle.fw_model.specs.declared.rich.Action.{Action}
use Rattle.fw_model.specs.declared.rich.Element.{Element}
use Rattle.fw_model.specs.declared.rich.Element.TheVariants as element
use Rattle.fw_model.specs.declared.rich.Rich.{Rich}
use Rattle.fw_model.specs.declared.rules.Rules.{Rules}
use Rattle.fw_model.specs.declared.zone.Zone.{Zone}
use Rattle.fw_verdict.specs.Changes.{ChangeItem, Passing, Reached, changed, going_on, new_mark, through, with_destination, with_mark}
use Rattle.fw_verdict.specs.Changes.Change.{masquerade, translate}
use Rattle.fw_verdict.specs.Outside.{forward_items, log_items, target_of}
use Rattle.fw_verdict.specs.Rich.{passes}
use Rattle.fw_verdict.specs.Sides.{policies_beside}
use Rattle.fw_verdict.specs.declared.policies.Stage.TheVariants as stage
use Rattle.fw_verdict.specs.declared.sides.Side.{Side}

-- what a rule that marks makes of a mark
abbrev pub mark_by_act : Packet → Option Limit → Act → ℕ → ℕ
mark_by_act packet limit act.Accept old = old
mark_by_act packet limit (act.Reject type) old = old
mark_by_act packet limit act.Drop old = old
mark_by_act packet limit (act.Mark value mask) old = if passes limit packet then new_mark value mask old else old

abbrev pub mark_given : Packet → Option Action → ℕ → ℕ
mark_given packet None old = old
mark_given packet (Some action) old = mark_by_act packet action.limit action.act old

-- to where a rule forwards, if it does
abbrev pub target_given : Option Element → Option Dnat
target_given None = None
target_given (Some (element.Service name)) = None
target_given (Some (element.Port port)) = None
target_given (Some (element.Protocol protocol)) = None
target_given (Some (element.IcmpBlock name)) = None
target_given (Some (element.IcmpType name)) = None
target_given (Some element.Masquerade) = None
target_given (Some (element.SourcePort port)) = None
target_given (Some (element.Forward forward)) = Some (target_of forward)

-- A packet on its way, before it is masqueraded.
abbrev pub standing : Packet → Option Dnat → List LogLine → Passing
standing packet dnat logs = record { packet = packet; dnat = dnat; masquerade = false; logs = logs }

-- what a rule that forwards a port does
abbrev pub forward_rule_items : Config → Rich → List ChangeItem
forward_rule_items config rule = log_items config rule rule.log ++ forward_items config rule rule.element

-- the settings that take part in a step, in their order
abbrev pub zone_settings : Option Zone → List Rules
zone_settings None = []
zone_settings (Some zone) = zone.rules ∷ []

abbrev pub policy_settings : List Policy → List Rules
policy_settings policies = map (λ policy. policy.rules) policies

abbrev pub settings_given : Config → Side → Option Zone → List Rules
settings_given config side zone =
    (policy_settings (policies_beside config side stage.BeforeZone zone) ++ zone_settings zone)
    ++ policy_settings (policies_beside config side stage.BehindZone zone)

-- with another destination, if there is one
abbrev pub moved_by : Option Dnat → Packet → Packet
moved_by None packet = packet
moved_by (Some dnat) packet = with_destination dnat packet

-- it keeps its mark and its destination
pub record IsUnmoved (packet : Packet) (mark : ℕ) (dnat : Option Dnat) : Type 0 where
  pub mark_is : mark ≡ packet.mark
  pub dnat_is : dnat ≡ None

-- it is sent to another destination, and goes no further, or it goes on
abbrev pub sent_on : Option Dnat → Passing → Reached
sent_on None now = going_on now
sent_on (Some dnat) now = record { now = changed (translate dnat) now; over = true }

-- it is masqueraded, and goes no further, or it goes on
abbrev pub masked : Bool → Passing → Reached
masked false now = going_on now
masked true now = record { now = changed masquerade now; over = true }

-- From a mark and the lines so far, items lead a packet to this mark and these lines.
pub record MarksTo (items : List ChangeItem) (packet : Packet) (old_mark new_mark : ℕ) (old new : List LogLine) : Type 0 where
  pub is : through items (standing (with_mark old_mark packet) None old) ≡ going_on (standing (with_mark new_mark packet) None new)

-- From the lines so far, items lead a packet of any mark to these lines, and to another destination if there is one.
pub record SendsTo (items : List ChangeItem) (packet : Packet) (old new : List LogLine) (found : Option Dnat) : Type 0 where
  pub is : (mark : ℕ) → through items (standing (with_mark mark packet) None old) ≡ sent_on found (standing (with_mark mark packet) None new)

-- From the lines so far, items lead a packet to these lines, and mask it or don't.
pub record MasksTo (items : List ChangeItem) (packet : Packet) (old new : List LogLine) (found : Bool) : Type 0 where
  pub is : (dnat : Option Dnat) → through items (standing packet dnat old) ≡ masked found (standing packet dnat new)

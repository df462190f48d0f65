-- What the settings of a zone or a policy do outside the filter (firewalld.richlanguage(5), firewalld.zone(5)): rich rules that mark,
-- that forward ports and that masquerade, each in its place, and forwarded ports and masquerade that are no rich rules.
use Rattle.std.specs.Prelude.{List, [], ◌++◌, ◌∷◌, map, int_lt, pos, Bool, true, false, not, ◌&&◌, Option, None, Some, if◌then◌else◌}
use Rattle.std.specs.List.{filter, flat_map}
use Rattle.fw_addr.specs.declared.dnat.Dnat.{Dnat}
use Rattle.fw_addr.specs.declared.limit.Limit.{Limit}
use Rattle.fw_addr.specs.declared.log.LogKind.TheVariants as kind
use Rattle.fw_hits.specs.Hits.{hits}
use Rattle.fw_hits.specs.Rich.{hits_rich}
use Rattle.fw_model.specs.declared.config.Config.{Config}
use Rattle.fw_model.specs.declared.forward.Forward.{Forward}
use Rattle.fw_model.specs.declared.rich.Act.{Act}
use Rattle.fw_model.specs.declared.rich.Act.TheVariants as act
use Rattle.fw_model.specs.declared.rich.Action.{Action}
use Rattle.fw_model.specs.declared.rich.Element.{Element}
use Rattle.fw_model.specs.declared.rich.Element.TheVariants as element
use Rattle.fw_model.specs.declared.rich.Rich.{Rich}
use Rattle.fw_model.specs.declared.rich.RichLog.{RichLog}
use Rattle.fw_model.specs.declared.rules.Rules.{Rules}
use Rattle.fw_model.specs.declared.setting.Setting.TheVariants as setting
use Rattle.fw_order.specs.Order.{by_priority}
use Rattle.fw_verdict.specs.Changes.{ChangeItem}
use Rattle.fw_verdict.specs.Changes.Change.{log, mark, masquerade, translate}
use Rattle.fw_verdict.specs.Rich.{marks, passes}
use Rattle.fw_verdict.specs.declared.outside.Place.{Place}
use Rattle.fw_verdict.specs.declared.outside.Place.TheVariants as place

abbrev pub forwards : Option Element → Bool
forwards None = false
forwards (Some (element.Service name)) = false
forwards (Some (element.Port port)) = false
forwards (Some (element.Protocol protocol)) = false
forwards (Some (element.IcmpBlock name)) = false
forwards (Some (element.IcmpType name)) = false
forwards (Some element.Masquerade) = false
forwards (Some (element.SourcePort port)) = false
forwards (Some (element.Forward forward)) = true

abbrev pub masquerades : Option Element → Bool
masquerades None = false
masquerades (Some (element.Service name)) = false
masquerades (Some (element.Port port)) = false
masquerades (Some (element.Protocol protocol)) = false
masquerades (Some (element.IcmpBlock name)) = false
masquerades (Some (element.IcmpType name)) = false
masquerades (Some element.Masquerade) = true
masquerades (Some (element.SourcePort port)) = false
masquerades (Some (element.Forward forward)) = false

-- The place of a rule: rules that mark; those that forward a port, of priority 0 and below before the forwarded ports that are no rich
-- rules, and above 0 behind them; those that masquerade.
abbrev pub stands_at : Place → Rich → Bool
stands_at place.Marks rule = marks rule.action
stands_at place.ForwardsBefore rule = forwards rule.element && not (int_lt (pos 0) rule.priority)
stands_at place.ForwardsBehind rule = forwards rule.element && int_lt (pos 0) rule.priority
stands_at place.Masquerades rule = masquerades rule.element

-- The line of `log`. One whose limit isn't passed is left out, and it alone.
abbrev pub log_items : Config → Rich → Option RichLog → List ChangeItem
log_items config rule None = []
log_items config rule (Some rich) =
    record {
      hits = λ packet. hits_rich config rule packet && passes rich.limit packet;
      change = log (record { kind = kind.Rich; level = rich.level; prefix = rich.prefix });
    }
    ∷ []

-- `mark`. One whose limit isn't passed is left out, and it alone.
abbrev pub act_items : Config → Rich → Option Limit → Act → List ChangeItem
act_items config rule limit act.Accept = []
act_items config rule limit (act.Reject type) = []
act_items config rule limit act.Drop = []
act_items config rule limit (act.Mark value mask) =
    record { hits = λ packet. hits_rich config rule packet && passes limit packet; change = mark value mask } ∷ []

abbrev pub action_items : Config → Rich → Option Action → List ChangeItem
action_items config rule None = []
action_items config rule (Some action) = act_items config rule action.limit action.act

-- the address, the port or both to which a port is forwarded
abbrev pub target_of : Forward → Dnat
target_of forward = record { addr = forward.to_addr; port = forward.to_port }

-- `forward-port`
abbrev pub forward_items : Config → Rich → Option Element → List ChangeItem
forward_items config rule None = []
forward_items config rule (Some (element.Service name)) = []
forward_items config rule (Some (element.Port port)) = []
forward_items config rule (Some (element.Protocol protocol)) = []
forward_items config rule (Some (element.IcmpBlock name)) = []
forward_items config rule (Some (element.IcmpType name)) = []
forward_items config rule (Some element.Masquerade) = []
forward_items config rule (Some (element.SourcePort port)) = []
forward_items config rule (Some (element.Forward forward)) = record { hits = hits_rich config rule; change = translate (target_of forward) } ∷ []

-- `masquerade`
abbrev pub masquerade_items : Config → Rich → List ChangeItem
masquerade_items config rule = record { hits = hits_rich config rule; change = masquerade } ∷ []

-- what a rule does in its place, behind its line
abbrev pub effect_items : Config → Place → Rich → List ChangeItem
effect_items config place.Marks rule = action_items config rule rule.action
effect_items config place.ForwardsBefore rule = forward_items config rule rule.element
effect_items config place.ForwardsBehind rule = forward_items config rule rule.element
effect_items config place.Masquerades rule = masquerade_items config rule

abbrev pub outside_items : Config → Place → Rich → List ChangeItem
outside_items config place rule = log_items config rule rule.log ++ effect_items config place rule

-- The rules of a place, by priority, and of one priority as they are listed.
abbrev pub placed_items : Config → Place → List Rich → List ChangeItem
placed_items config place rules = flat_map (outside_items config place) (by_priority (filter (stands_at place) rules))

-- a forwarded port that is no rich rule
abbrev pub port_item : Config → Forward → ChangeItem
port_item config forward = record { hits = hits config (setting.Forward forward); change = translate (target_of forward) }

-- masquerade that is no rich rule
abbrev pub plain_items : Config → Bool → List ChangeItem
plain_items config masked = if masked then record { hits = hits config setting.Masquerade; change = masquerade } ∷ [] else []

-- What settings mark.
abbrev pub mark_items : Config → Rules → List ChangeItem
mark_items config rules = placed_items config place.Marks rules.rich

-- What settings translate.
abbrev pub translation_items : Config → Rules → List ChangeItem
translation_items config rules =
    placed_items config place.ForwardsBefore rules.rich
    ++ (map (port_item config) rules.forwards ++ placed_items config place.ForwardsBehind rules.rich)

-- What settings have leave with the host's own address.
abbrev pub leaving_items : Config → Rules → List ChangeItem
leaving_items config rules = placed_items config place.Masquerades rules.rich ++ plain_items config rules.masquerade

-- Steps outside the filter look at one side of a packet's way: the policies that have this side and come before the zone, the zone, and
-- the policies that come behind it (firewalld.policies(5), firewalld.policy(5)).
use Rattle.std.specs.Prelude.{ℕ, List, [], ◌++◌, codes, Bool, ◌&&◌, Option, None, Some}
use Rattle.std.specs.List.{filter, flat_map}
use Rattle.fw_hits.specs.Bindings.{egress, ingress}
use Rattle.fw_model.specs.declared.config.Config.{Config}
use Rattle.fw_model.specs.declared.packet.Packet.{Packet}
use Rattle.fw_model.specs.declared.policy.Policy.{Policy}
use Rattle.fw_model.specs.declared.rules.Rules.{Rules}
use Rattle.fw_model.specs.declared.zone.Zone.{Zone}
use Rattle.fw_order.specs.Policies.{by_priority_and_name}
use Rattle.fw_verdict.specs.Changes.{ChangeItem}
use Rattle.fw_verdict.specs.Outside.{leaving_items, mark_items, translation_items}
use Rattle.fw_verdict.specs.Policies.{acts_at, names, stands_for}
use Rattle.fw_verdict.specs.Policies.End.{in_zone}
use Rattle.fw_verdict.specs.declared.policies.Stage.{Stage}
use Rattle.fw_verdict.specs.declared.policies.Stage.TheVariants as stage
use Rattle.fw_verdict.specs.declared.sides.Side.{Side}
use Rattle.fw_verdict.specs.declared.sides.Side.TheVariants as side

-- A policy has a side towards a zone: one that marks comes from it, whatever zone its packets go to; one that translates comes from
-- it; one that masquerades goes to it.
unfoldable pub is_beside : Side → Stage → Option Zone → Policy → Bool
is_beside side.Marked stage zone policy = acts_at stage policy && (stands_for policy.ingress (in_zone zone) && names (codes "ANY") policy.egress)
is_beside side.Translated stage zone policy = acts_at stage policy && stands_for policy.ingress (in_zone zone)
is_beside side.Leaving stage zone policy = acts_at stage policy && stands_for policy.egress (in_zone zone)

-- these policies, in the order in which they act: by priority and then by name
abbrev pub policies_beside : Config → Side → Stage → Option Zone → List Policy
policies_beside config side stage zone = by_priority_and_name (filter (is_beside side stage zone) config.policies)

-- what settings do there
abbrev pub side_items : Config → Side → Rules → List ChangeItem
side_items config side.Marked rules = mark_items config rules
side_items config side.Translated rules = translation_items config rules
side_items config side.Leaving rules = leaving_items config rules

abbrev pub policy_items : Config → Side → Stage → Option Zone → List ChangeItem
policy_items config side stage zone = flat_map (λ policy. side_items config side policy.rules) (policies_beside config side stage zone)

abbrev pub zone_items : Config → Side → Option Zone → List ChangeItem
zone_items config side None = []
zone_items config side (Some zone) = side_items config side zone.rules

-- All of them, one after another.
abbrev pub all_items : Config → Side → Option Zone → List ChangeItem
all_items config side zone =
    policy_items config side stage.BeforeZone zone ++ (zone_items config side zone ++ policy_items config side stage.BehindZone zone)

-- at prerouting, by the zone that the packet comes from
abbrev pub entering : Config → Side → Packet → List ChangeItem
entering config side packet = all_items config side (ingress config packet)

-- at postrouting, by the zone that it goes to by an interface
abbrev pub leaving_by : Config → Packet → List ℕ → List ChangeItem
leaving_by config packet name = all_items config side.Leaving (egress config packet name)

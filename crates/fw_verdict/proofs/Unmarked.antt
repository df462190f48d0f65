-- Nothing in the filter looks at the mark of a packet.
use Rattle.std.proofs.Common.{◌≡◌, ◌∙◌, ℕ, List, [], ◌∷◌, ◌++◌, map, codes, Bool, true, false, not, ◌&&◌, ◌||◌, Option, None, Some, refl, sym, ap}
use Rattle.std.specs.Prelude.{if◌then◌else◌}
use Rattle.std.specs.List.{flat_map, list_any}
use Rattle.fw_addr.specs.Icmp.{icmp}
use Rattle.fw_addr.specs.declared.limit.Limit.{Limit}
use Rattle.fw_addr.specs.declared.log.LogKind.TheVariants as kind
use Rattle.fw_hits.specs.Bindings.{egress, ingress, ingress_from}
use Rattle.fw_hits.specs.Hits.{hits}
use Rattle.fw_hits.specs.Plain.{hits_icmp, is_icmp}
use Rattle.fw_hits.specs.Rich.{hits_rich}
use Rattle.fw_model.specs.declared.config.Config.{Config}
use Rattle.fw_model.specs.declared.packet.Origin.{Origin}
use Rattle.fw_model.specs.declared.packet.Origin.TheVariants as origin
use Rattle.fw_model.specs.declared.packet.Packet.{Packet}
use Rattle.fw_model.specs.declared.packet.Via.{Via}
use Rattle.fw_model.specs.declared.packet.Via.TheVariants as via
use Rattle.fw_model.specs.declared.policy.Policy.{Policy}
use Rattle.fw_model.specs.declared.rich.Act.{Act}
use Rattle.fw_model.specs.declared.rich.Act.TheVariants as act
use Rattle.fw_model.specs.declared.rich.Action.{Action}
use Rattle.fw_model.specs.declared.rich.Rich.{Rich}
use Rattle.fw_model.specs.declared.rich.RichLog.{RichLog}
use Rattle.fw_model.specs.declared.rules.Rules.{Rules}
use Rattle.fw_model.specs.declared.setting.Setting.TheVariants as setting
use Rattle.fw_model.specs.declared.zone.Zone.{Zone}
use Rattle.fw_model.specs.declared.zone.ZoneTarget.{ZoneTarget}
use Rattle.fw_model.specs.declared.zone.ZoneTarget.TheVariants as target
use Rattle.fw_order.specs.Order.{by_priority}
use Rattle.std.specs.List.{filter}
use Rattle.fw_verdict.specs.Changes.{with_mark}
use Rattle.fw_verdict.specs.Items.{accepted, all_accepted, all_rejected, allow_items, deny_items, icmp_denied, icmp_items, items, level_items, listed_items, rejected, is_other_icmp}
use Rattle.fw_verdict.specs.Policies.{End, decided_by_target, policies, policies_at, policy_walk, walk_all}
use Rattle.fw_verdict.specs.Policies.End.{at_host, in_zone}
use Rattle.fw_verdict.specs.Rich.{acted, acted_as, audit_line, audited, audited_as, blocked, blocks_icmp, can_answer, lines, logged, passes, reject_type, rich_items, rule_items, stands_in}
use Rattle.fw_verdict.specs.Walk.{Effect, Item, Walked, does, done, in_turn, nothing, or_then, silently, walk}
use Rattle.fw_verdict.specs.Walk.Effect.{decide, log}
use Rattle.fw_verdict.specs.Way.{decided_as, early_items, filtered, forward_walk, forwarded, forwarded_end, from_host, icmp_accepted, known_item, lo_walk, policies_before, policies_behind, reject, target_forwarded, target_lines, to_host, to_host_end, zone_walk}
use Rattle.fw_verdict.specs.Denied.{forward_front, input_front}
use Rattle.fw_model.specs.declared.outcome.Verdict.TheVariants as verdict
use Rattle.fw_verdict.specs.declared.policies.Stage.{Stage}
use Rattle.fw_verdict.specs.declared.policies.Stage.TheVariants as stage
use Rattle.fw_verdict.specs.declared.rich.Part.{Part}
use Rattle.fw_verdict.specs.declared.rich.Part.TheVariants as part
use Rattle.fw_verdict.proofs.Unseen.{same_hit, same_numbers, same_pass}
use Rattle.fw_verdict.proofs.Walks.{walk_append}

-- walks in turn that are the same, one by one
turn_same : (one other : Walked) (ones others : List Walked) → one ≡ other → in_turn ones ≡ in_turn others → in_turn (one ∷ ones) ≡ in_turn (other ∷ others)
turn_same one other ones others is are =
    ap (λ (walked : Walked). or_then walked.decided walked.logs (in_turn ones)) is ∙ ap (or_then other.decided other.logs) are

both_same : {one other : Walked} {ones others : List Walked} → one ≡ other → ones ≡ others → (one ∷ ones) ≡ (other ∷ others)
both_same {one} {other} {ones} {others} is are = ap (λ (walked : Walked). walked ∷ ones) is ∙ ap (λ (walks : List Walked). other ∷ walks) are

module _ (mark : ℕ) (packet : Packet) where
  abbrev Alike : List Item → Type 0
  Alike list = walk list (with_mark mark packet) ≡ walk list packet

  alike_more : (item : Item) (list : List Item) → item.hits (with_mark mark packet) ≡ item.hits packet → Alike list → Alike (item ∷ list)
  alike_more item list hit alike =
      ap (λ (one : Bool). or_then (if one then done item.effect else nothing).decided (if one then done item.effect else nothing).logs (walk list (with_mark mark packet))) hit
      ∙ ap (or_then (does packet item).decided (does packet item).logs) alike

  alike_one : (item : Item) → item.hits (with_mark mark packet) ≡ item.hits packet → Alike (item ∷ [])
  alike_one item hit = alike_more item [] hit refl

  alike_both : (one other : List Item) → Alike one → Alike other → Alike (one ++ other)
  alike_both one other first second =
      walk_append one other (with_mark mark packet)
      ∙ ap (λ (walked : Walked). or_then walked.decided walked.logs (walk other (with_mark mark packet))) first
      ∙ ap (or_then (walk one packet).decided (walk one packet).logs) second
      ∙ sym (walk_append one other packet)

  alike_all : {A : Type 0} (give : A → List Item) (givers : List A) → ((giver : A) → Alike (give giver)) → Alike (flat_map give givers)
  alike_all give [] each = refl
  alike_all give (giver ∷ givers) each = alike_both (give giver) (flat_map give givers) (each giver) (alike_all give givers each)

  alike_each : {A : Type 0} (give : A → Item) (givers : List A) → ((giver : A) → (give giver).hits (with_mark mark packet) ≡ (give giver).hits packet) → Alike (map give givers)
  alike_each give [] each = refl
  alike_each give (giver ∷ givers) each = alike_more (give giver) (map give givers) (each giver) (alike_each give givers each)

  -- rich rules
  same_both : (config : Config) (rule : Rich) (limit : Option Limit) (more : Bool)
      → (hits_rich config rule (with_mark mark packet) && (passes limit (with_mark mark packet) && more)) ≡ (hits_rich config rule packet && (passes limit packet && more))
  same_both config rule limit more =
      ap (λ (one : Bool). one && (passes limit (with_mark mark packet) && more)) (same_hit mark packet config rule)
      ∙ ap (λ (one : Bool). hits_rich config rule packet && (one && more)) (same_pass mark packet limit)

  same_limited : (config : Config) (rule : Rich) (limit : Option Limit)
      → (hits_rich config rule (with_mark mark packet) && passes limit (with_mark mark packet)) ≡ (hits_rich config rule packet && passes limit packet)
  same_limited config rule limit =
      ap (λ (one : Bool). one && passes limit (with_mark mark packet)) (same_hit mark packet config rule)
      ∙ ap (λ (one : Bool). hits_rich config rule packet && one) (same_pass mark packet limit)

  abbrev limited : Config → Rich → Option Limit → Effect → Item
  limited config rule limit effect = record { hits = λ one. hits_rich config rule one && passes limit one; effect = effect }

  alike_limited : (config : Config) (rule : Rich) (limit : Option Limit) (effect : Effect) → Alike (limited config rule limit effect ∷ [])
  alike_limited config rule limit effect = alike_one (limited config rule limit effect) (same_limited config rule limit)

  alike_logged : (config : Config) (rule : Rich) (rich : Option RichLog) → Alike (logged config rule rich)
  alike_logged config rule None = refl
  alike_logged config rule (Some rich) = alike_limited config rule rich.limit (log (record { kind = kind.Rich; level = rich.level; prefix = rich.prefix }))

  alike_audited_as : (config : Config) (rule : Rich) (limit : Option Limit) (done_so : Act) → Alike (audited_as config rule limit done_so)
  alike_audited_as config rule limit act.Accept = alike_limited config rule limit (log (audit_line (codes "accept")))
  alike_audited_as config rule limit (act.Reject type) = alike_limited config rule limit (log (audit_line (codes "reject")))
  alike_audited_as config rule limit act.Drop = alike_limited config rule limit (log (audit_line (codes "drop")))
  alike_audited_as config rule limit (act.Mark value mask) = refl

  alike_audited : (config : Config) (rule : Rich) (limit : Option (Option Limit)) (action : Option Action) → Alike (audited config rule limit action)
  alike_audited config rule None action = refl
  alike_audited config rule (Some limit) None = refl
  alike_audited config rule (Some limit) (Some action) = alike_audited_as config rule limit action.act

  alike_lines : (config : Config) (rule : Rich) → Alike (lines config rule)
  alike_lines config rule =
      alike_both (logged config rule rule.log) (audited config rule rule.audit rule.action)
      (alike_logged config rule rule.log) (alike_audited config rule rule.audit rule.action)

  alike_acted_as : (config : Config) (rule : Rich) (limit : Option Limit) (done_so : Act) → Alike (acted_as config rule limit done_so)
  alike_acted_as config rule limit act.Accept = alike_limited config rule limit (decide verdict.Accept)
  alike_acted_as config rule limit (act.Reject type) =
      alike_one
      (record { hits = λ one. hits_rich config rule one && (passes limit one && can_answer (reject_type type) one); effect = decide (verdict.Reject (reject_type type)) })
      (same_both config rule limit (can_answer (reject_type type) packet))
  alike_acted_as config rule limit act.Drop = alike_limited config rule limit (decide verdict.Drop)
  alike_acted_as config rule limit (act.Mark value mask) = refl

  alike_blocked : (config : Config) (rule : Rich) (blocks : Bool) → Alike (blocked config rule blocks)
  alike_blocked config rule false = refl
  alike_blocked config rule true = alike_one (record { hits = hits_rich config rule; effect = decide reject }) (same_hit mark packet config rule)

  alike_acted : (config : Config) (rule : Rich) (action : Option Action) → Alike (acted config rule action)
  alike_acted config rule None = alike_blocked config rule (blocks_icmp rule.element)
  alike_acted config rule (Some action) = alike_acted_as config rule action.limit action.act

  alike_rule : (config : Config) (stands : Part) (rule : Rich) → Alike (rule_items config stands rule)
  alike_rule config part.Pre rule = alike_both (lines config rule) (acted config rule rule.action) (alike_lines config rule) (alike_acted config rule rule.action)
  alike_rule config part.Log rule = alike_lines config rule
  alike_rule config part.Deny rule = alike_acted config rule rule.action
  alike_rule config part.Allow rule = alike_acted config rule rule.action
  alike_rule config part.Post rule = alike_both (lines config rule) (acted config rule rule.action) (alike_lines config rule) (alike_acted config rule rule.action)

  alike_rich : (config : Config) (stands : Part) (rules : List Rich) → Alike (rich_items config stands rules)
  alike_rich config stands rules = alike_all (rule_items config stands) (by_priority (filter (stands_in stands) rules)) (alike_rule config stands)

  -- what settings list
  same_icmp : (config : Config) (name : List ℕ) → hits config (setting.IcmpBlock name) (with_mark mark packet) ≡ hits config (setting.IcmpBlock name) packet
  same_icmp config name = same_numbers mark packet (icmp name)

  same_any : (config : Config) (names : List (List ℕ))
      → list_any (λ name. hits config (setting.IcmpBlock name) (with_mark mark packet)) names ≡ list_any (λ name. hits config (setting.IcmpBlock name) packet) names
  same_any config [] = refl
  same_any config (name ∷ names) =
      ap (λ (one : Bool). one || list_any (λ other. hits config (setting.IcmpBlock other) (with_mark mark packet)) names) (same_icmp config name)
      ∙ ap (λ (one : Bool). hits config (setting.IcmpBlock name) packet || one) (same_any config names)

  alike_icmp_denied : (config : Config) (rules : Rules) (inversion : Bool) → Alike (icmp_denied config rules inversion)
  alike_icmp_denied config rules true =
      alike_one (rejected (is_other_icmp config rules.icmp_blocks)) (ap (λ (one : Bool). is_icmp packet && not one) (same_any config rules.icmp_blocks))
  alike_icmp_denied config rules false = alike_each (λ name. rejected (hits config (setting.IcmpBlock name))) rules.icmp_blocks (same_icmp config)

  alike_icmp : (config : Config) (rules : Rules) (inversion : Bool) → Alike (icmp_items config rules inversion)
  alike_icmp config rules true = alike_each (λ name. accepted (hits config (setting.IcmpBlock name))) rules.icmp_blocks (same_icmp config)
  alike_icmp config rules false = refl

  alike_listed : (config : Config) (rules : Rules) (inversion : Bool) → Alike (listed_items config rules inversion)
  alike_listed config rules inversion =
      let services = all_accepted config setting.Service rules.services in
      let ports = all_accepted config setting.Port rules.ports in
      let protocols = all_accepted config setting.Protocol rules.protocols in
      let source_ports = all_accepted config setting.SourcePort rules.source_ports in
      alike_both (((services ++ ports) ++ protocols) ++ source_ports) (icmp_items config rules inversion)
      (alike_both ((services ++ ports) ++ protocols) source_ports
      (alike_both (services ++ ports) protocols
      (alike_both services ports
      (alike_each (λ name. accepted (hits config (setting.Service name))) rules.services (λ name. refl))
      (alike_each (λ port. accepted (hits config (setting.Port port))) rules.ports (λ port. refl)))
      (alike_each (λ protocol. accepted (hits config (setting.Protocol protocol))) rules.protocols (λ protocol. refl)))
      (alike_each (λ port. accepted (hits config (setting.SourcePort port))) rules.source_ports (λ port. refl)))
      (alike_icmp config rules inversion)

  alike_deny : (config : Config) (rules : Rules) (inversion : Bool) → Alike (deny_items config rules inversion)
  alike_deny config rules inversion =
      alike_both (rich_items config part.Deny rules.rich) (icmp_denied config rules inversion) (alike_rich config part.Deny rules.rich) (alike_icmp_denied config rules inversion)

  alike_allow : (config : Config) (rules : Rules) (inversion : Bool) → Alike (allow_items config rules inversion)
  alike_allow config rules inversion =
      alike_both (rich_items config part.Allow rules.rich) (listed_items config rules inversion) (alike_rich config part.Allow rules.rich) (alike_listed config rules inversion)

  alike_level : (config : Config) (rules : Rules) (inversion : Bool) → Alike (level_items config rules inversion)
  alike_level config rules inversion =
      alike_both (rich_items config part.Log rules.rich) (deny_items config rules inversion ++ allow_items config rules inversion) (alike_rich config part.Log rules.rich)
      (alike_both (deny_items config rules inversion) (allow_items config rules inversion) (alike_deny config rules inversion) (alike_allow config rules inversion))

  alike_items : (config : Config) (rules : Rules) (inversion : Bool) → Alike (items config rules inversion)
  alike_items config rules inversion =
      alike_both (rich_items config part.Pre rules.rich) (level_items config rules inversion ++ rich_items config part.Post rules.rich) (alike_rich config part.Pre rules.rich)
      (alike_both (level_items config rules inversion) (rich_items config part.Post rules.rich) (alike_level config rules inversion) (alike_rich config part.Post rules.rich))

  -- policies and zones
  same_policy : (config : Config) (policy : Policy) → policy_walk config (with_mark mark packet) policy ≡ policy_walk config packet policy
  same_policy config policy =
      turn_same (walk (items config policy.rules false) (with_mark mark packet)) (walk (items config policy.rules false) packet)
      (silently (decided_by_target policy.target) ∷ []) (silently (decided_by_target policy.target) ∷ []) (alike_items config policy.rules false) refl

  same_all : (config : Config) (some : List Policy) → walk_all config (with_mark mark packet) some ≡ walk_all config packet some
  same_all config [] = refl
  same_all config (policy ∷ some) =
      turn_same (policy_walk config (with_mark mark packet) policy) (policy_walk config packet policy)
      (map (policy_walk config (with_mark mark packet)) some) (map (policy_walk config packet) some) (same_policy config policy) (same_all config some)

  same_policies : (config : Config) (at : Stage) (from to : End) → policies config at (with_mark mark packet) from to ≡ policies config at packet from to
  same_policies config at from to = same_all config (policies_at config at from to)

  same_zone_walk : (config : Config) (zone : Option Zone) → zone_walk config (with_mark mark packet) zone ≡ zone_walk config packet zone
  same_zone_walk config None = refl
  same_zone_walk config (Some zone) = alike_items config zone.rules zone.inversion

  same_icmp_accepted : (wanted : ZoneTarget) → Alike (icmp_accepted wanted)
  same_icmp_accepted target.Accept = refl
  same_icmp_accepted target.Drop = refl
  same_icmp_accepted target.Reject = refl
  same_icmp_accepted target.Default = refl

  same_target_lines : (config : Config) (front name : List ℕ) (wanted : ZoneTarget) → Alike (target_lines config front name wanted)
  same_target_lines config front name target.Accept = refl
  same_target_lines config front name target.Drop = refl
  same_target_lines config front name target.Reject = refl
  same_target_lines config front name target.Default = refl

  abbrev to_host_end_parts : Config → Packet → Zone → List Walked
  to_host_end_parts config one zone =
      walk (icmp_accepted zone.target) one ∷ walk (target_lines config input_front zone.name zone.target) one ∷ decided_as (target_forwarded zone.target) ∷ []

  to_host_ends : (config : Config) (zone : Zone) → to_host_end_parts config (with_mark mark packet) zone ≡ to_host_end_parts config packet zone
  to_host_ends config zone = both_same (same_icmp_accepted zone.target) (both_same (same_target_lines config input_front zone.name zone.target) refl)

  same_to_host_end : (config : Config) (zone : Option Zone) → to_host_end config (with_mark mark packet) zone ≡ to_host_end config packet zone
  same_to_host_end config None = refl
  same_to_host_end config (Some zone) = ap in_turn (to_host_ends config zone)

  abbrev forwarded_end_parts : Config → Packet → Zone → List Walked
  forwarded_end_parts config one zone = walk (target_lines config forward_front zone.name zone.target) one ∷ decided_as (target_forwarded zone.target) ∷ []

  forwarded_ends : (config : Config) (zone : Zone) → forwarded_end_parts config (with_mark mark packet) zone ≡ forwarded_end_parts config packet zone
  forwarded_ends config zone = both_same (same_target_lines config forward_front zone.name zone.target) refl

  same_forwarded_end : (config : Config) (zone : Option Zone) → forwarded_end config (with_mark mark packet) zone ≡ forwarded_end config packet zone
  same_forwarded_end config None = refl
  same_forwarded_end config (Some zone) = ap in_turn (forwarded_ends config zone)

  same_ingress : (config : Config) (came : Origin) → ingress_from config (with_mark mark packet) came ≡ ingress_from config packet came
  same_ingress config origin.Host = refl
  same_ingress config (origin.Link name) = refl

  -- the three ways through the filter
  abbrev to_host_parts : Config → Packet → Option Zone → List Walked
  to_host_parts config one zone =
      walk (early_items config) one
      ∷ policies_before config one (in_zone zone) at_host
      ∷ zone_walk config one zone
      ∷ policies_behind config one (in_zone zone) at_host
      ∷ to_host_end config one zone
      ∷ []

  same_to_host : (config : Config) (zone : Option Zone) → to_host_parts config (with_mark mark packet) zone ≡ to_host_parts config packet zone
  same_to_host config zone =
      both_same refl
      (both_same (same_policies config stage.BeforeZone (in_zone zone) at_host)
      (both_same (same_zone_walk config zone)
      (both_same (same_policies config stage.BehindZone (in_zone zone) at_host)
      (both_same (same_to_host_end config zone) refl))))

  abbrev forwarded_parts : Config → Packet → Option Zone → Option Zone → List Walked
  forwarded_parts config one from to =
      walk (early_items config) one
      ∷ policies_before config one (in_zone from) (in_zone to)
      ∷ forward_walk from to
      ∷ policies_behind config one (in_zone from) (in_zone to)
      ∷ forwarded_end config one from
      ∷ []

  same_forwarded : (config : Config) (from to : Option Zone) → forwarded_parts config (with_mark mark packet) from to ≡ forwarded_parts config packet from to
  same_forwarded config from to =
      both_same refl
      (both_same (same_policies config stage.BeforeZone (in_zone from) (in_zone to))
      (both_same refl
      (both_same (same_policies config stage.BehindZone (in_zone from) (in_zone to))
      (both_same (same_forwarded_end config from) refl))))

  abbrev from_host_parts : Config → Packet → List ℕ → List Walked
  from_host_parts config one name =
      walk (known_item ∷ []) one
      ∷ lo_walk name
      ∷ policies_before config one at_host (in_zone (egress config one name))
      ∷ policies_behind config one at_host (in_zone (egress config one name))
      ∷ decided_as verdict.Accept
      ∷ []

  same_from_host : (config : Config) (name : List ℕ) → from_host_parts config (with_mark mark packet) name ≡ from_host_parts config packet name
  same_from_host config name =
      both_same refl
      (both_same refl
      (both_same (same_policies config stage.BeforeZone at_host (in_zone (egress config packet name)))
      (both_same (same_policies config stage.BehindZone at_host (in_zone (egress config packet name))) refl)))

  pub same_filter : (config : Config) (came : Origin) (leaving : Via) → filtered config (with_mark mark packet) came leaving ≡ filtered config packet came leaving
  same_filter config (origin.Link link) via.Local =
      ap (λ (zone : Option Zone). in_turn (to_host_parts config (with_mark mark packet) zone)) (same_ingress config packet.origin)
      ∙ ap in_turn (same_to_host config (ingress config packet))
  same_filter config (origin.Link link) (via.Link name) =
      ap (λ (zone : Option Zone). in_turn (forwarded_parts config (with_mark mark packet) zone (egress config packet name))) (same_ingress config packet.origin)
      ∙ ap in_turn (same_forwarded config (ingress config packet) (egress config packet name))
  same_filter config origin.Host via.Local = ap in_turn (same_from_host config (codes "lo"))
  same_filter config origin.Host (via.Link name) = ap in_turn (same_from_host config name)

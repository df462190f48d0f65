-- The way of a packet through a base chain: the first rules, the bindings of zones, and the chain of its zone.
use Rattle.std.proofs.Common.{◌≡◌, ℕ, List, [], ◌∷◌, ◌++◌, Option, None, Some, refl, sym, ap, subst, append-nil, append_assoc}
use Rattle.std.specs.Prelude.{codes}
use Rattle.fw_addr.specs.declared.log.LogLine.{LogLine}
use Rattle.fw_hits.specs.Bindings.{egress}
use Rattle.fw_model.specs.declared.config.Config.{Config}
use Rattle.fw_model.specs.declared.outcome.Verdict.{Verdict}
use Rattle.fw_model.specs.declared.outcome.Verdict.TheVariants as verdict
use Rattle.fw_model.specs.declared.packet.Packet.{Packet}
use Rattle.fw_model.specs.declared.zone.Zone.{Zone}
use Rattle.fw_verdict.specs.Policies.End.{at_host, in_zone}
use Rattle.fw_verdict.specs.Walk.{Walked, in_turn, nothing, or_then, walk}
use Rattle.fw_verdict.specs.Denied.{forward_front, input_front}
use Rattle.fw_verdict.specs.Way.{decided_as, early_items, forward_walk, forwarded_end, icmp_accepted, known_item, lo_walk, policies_before, policies_behind, target_forwarded, target_lines, to_host_end, zone_walk}
use Rattle.fw_zone.specs.Lists.{IsIn}
use Rattle.lower_dispatch.specs.Dispatch.{Dispatches, LeadTo, at_count}
use Rattle.lower_dispatch.specs.declared.direction.Direction.TheVariants as direction
use Rattle.lower_hooks.specs.Chains.{EndAs, ForwardWorks, HasChain, HasPairs, InputWorks, IsOnlyBase, OutputWorks, base_chain}
use Rattle.lower_hooks.specs.Names.{forward_start, input_start, output_start, pair_start}
use Rattle.lower_hooks.specs.Rules.{early_rules, known_rules, lo_out}
use Rattle.lower_hooks.specs.Zones.{ForwardStands, InputStands, OutputStands, host_to_zone, zone_to_host, zone_to_zone}
use Rattle.lower_hooks.proofs.Deciding.{early_does, output_does}
use Rattle.lower_hooks.proofs.Works.{later}
use Rattle.lower_zone.specs.Evaluates.{EachIsThere, Follows, Meeting, behind_lines}
use Rattle.lower_zone.specs.Forms.{chain_named}
use Rattle.lower_zone.specs.Work.{Do}
use Rattle.nf_chains.specs.Evaluation.{Ends}
use Rattle.nf_chains.specs.Evaluation.Ends.{goes}
use Rattle.nf_chains.specs.Moments.{Moment}
use Rattle.nf_rules.specs.declared.chain.Chain.{Chain}
use Rattle.nf_rules.specs.declared.chain.Hook.TheVariants as hook
use Rattle.nf_rules.specs.declared.rule.Rule.{Rule}
use Rattle.nf_rules.specs.declared.ruleset.Ruleset.{Ruleset}
use Rattle.nf_sound.specs.Names.{chain_of}

-- a walk that decides
abbrev Decides : Walked → Type 0
Decides walked = (chosen : Verdict) × (walked.decided ≡ Some chosen)

decides_behind : (decided : Option Verdict) (lines : List LogLine) (walked : Walked) → Decides walked → Decides (or_then decided lines walked)
decides_behind (Some chosen) lines walked rest = (chosen, refl)
decides_behind None lines walked rest = rest

follows_here : (decided : Option Verdict) (chosen : Verdict) (next : Verdict → Moment → Type 0) (now : Moment) → decided ≡ Some chosen → Follows decided next now chosen now
follows_here decided chosen next now is = subst (λ (one : Option Verdict). Follows one next now chosen now) (sym is) (refl, refl)

module _ (table : Ruleset) (leaving : Option (List ℕ)) where
  -- a chain whose walk decides
  chain_ends : (made : List Rule) (now : Moment) (walked : Walked) → Decides walked → Do table leaving made now walked → EndAs table leaving made now walked
  chain_ends made now walked decides does = record {
    verdict = decides.0;
    looked_at = does.looked_at;
    decides = decides.1;
    ends = subst (λ (list : List Rule). Ends table leaving [] list [] now decides.0 (behind_lines walked.logs does.looked_at now)) (append-nil made)
        (does.ends [] [] decides.0 (behind_lines walked.logs does.looked_at now)
        (follows_here walked.decided decides.0 (Ends table leaving [] [] [] (behind_lines walked.logs does.looked_at now)) (behind_lines walked.logs does.looked_at now) decides.1));
  }

  -- rules that lead to a chain end as it does
  through : (made : List Rule) (now : Moment) (name : List ℕ) (chain : Chain) (walked : Walked)
      → (leads : LeadTo table leaving made now name)
      → chain_of table.chains name ≡ Some chain
      → EndAs table leaving chain.rules (at_count leads.looked_at now) walked
      → EndAs table leaving made now walked
  through made now name chain walked leads is end = record {
    verdict = end.verdict;
    looked_at = end.looked_at;
    decides = end.decides;
    ends = subst (λ (list : List Rule). Ends table leaving [] list [] now end.verdict (behind_lines walked.logs end.looked_at now)) (append-nil made)
        (leads.ends [] [] [] end.verdict (behind_lines walked.logs end.looked_at now) (goes is end.ends));
  }

  -- first rules before those
  behind_first : (first others : List Rule) (now : Moment) (decided : Option Verdict) (lines : List LogLine) (walked : Walked)
      → Do table leaving first now (record { decided = decided; logs = lines })
      → ((count : ℕ) → EndAs table leaving others (behind_lines lines count now) walked)
      → EndAs table leaving (first ++ others) now (or_then decided lines walked)
  behind_first first others now (Some chosen) lines walked does rest = record {
    verdict = chosen;
    looked_at = does.looked_at;
    decides = refl;
    ends = does.ends others [] chosen (behind_lines lines does.looked_at now) (refl, refl);
  }
  behind_first first others now None lines walked does rest =
      let end = rest does.looked_at in
      record {
        verdict = end.verdict;
        looked_at = end.looked_at;
        decides = end.decides;
        ends = subst (λ (logs : List LogLine). Ends table leaving [] (first ++ others) [] now end.verdict (record now { logs = logs; looked_at = end.looked_at })) (append_assoc now.logs lines walked.logs)
            (does.ends others [] end.verdict (behind_lines walked.logs end.looked_at (behind_lines lines does.looked_at now)) end.ends);
      }

counted : (config : Config) (table : Ruleset) (now : Moment) (count : ℕ) → Meeting config table now → Meeting config table (at_count count now)
counted config table now count meeting = record { sets = meeting.sets; packet = meeting.packet }

decides_first : (decided : Option Verdict) (lines : List LogLine) (walked : Walked) → (chosen : Verdict) × (decided ≡ Some chosen) → Decides (or_then decided lines walked)
decides_first (Some one) lines walked here = (one, refl)
decides_first None lines walked here = absurd (none here.0 here.1)
  where
    none : (chosen : Verdict) → None ≡ Some chosen → ⊥
    none chosen is = cc

-- The end of a chain decides, whatever lines come before.
target_decides : (config : Config) (front : List ℕ) (zone : Zone) (packet : Packet)
    → Decides (in_turn (walk (target_lines config front zone.name zone.target) packet ∷ decided_as (target_forwarded zone.target) ∷ []))
target_decides config front zone packet =
    let lines = walk (target_lines config front zone.name zone.target) packet in
    decides_behind lines.decided lines.logs (in_turn (decided_as (target_forwarded zone.target) ∷ [])) (target_forwarded zone.target, refl)

end_decides : (config : Config) (zone : Zone) (packet : Packet) → Decides (to_host_end config packet (Some zone))
end_decides config zone packet =
    let icmp = walk (icmp_accepted zone.target) packet in
    decides_behind icmp.decided icmp.logs (in_turn (walk (target_lines config input_front zone.name zone.target) packet ∷ decided_as (target_forwarded zone.target) ∷ []))
    (target_decides config input_front zone packet)

to_host_decides : (config : Config) (zone : Zone) (packet : Packet) → Decides (zone_to_host config zone packet)
to_host_decides config zone packet =
    let end = to_host_end config packet (Some zone) in
    let before = policies_before config packet (in_zone (Some zone)) at_host in
    let middle = zone_walk config packet (Some zone) in
    let behind = policies_behind config packet (in_zone (Some zone)) at_host in
    decides_behind before.decided before.logs (in_turn (middle ∷ behind ∷ end ∷ []))
    (decides_behind middle.decided middle.logs (in_turn (behind ∷ end ∷ []))
    (decides_behind behind.decided behind.logs (in_turn (end ∷ [])) (decides_first end.decided end.logs nothing (end_decides config zone packet))))

to_zone_decides : (config : Config) (from to : Zone) (packet : Packet) → Decides (zone_to_zone config from to packet)
to_zone_decides config from to packet =
    let end = forwarded_end config packet (Some from) in
    let before = policies_before config packet (in_zone (Some from)) (in_zone (Some to)) in
    let middle = forward_walk (Some from) (Some to) in
    let behind = policies_behind config packet (in_zone (Some from)) (in_zone (Some to)) in
    decides_behind before.decided before.logs (in_turn (middle ∷ behind ∷ end ∷ []))
    (decides_behind middle.decided middle.logs (in_turn (behind ∷ end ∷ []))
    (decides_behind behind.decided behind.logs (in_turn (end ∷ [])) (decides_first end.decided end.logs nothing (target_decides config forward_front from packet))))

from_host_decides : (config : Config) (zone : Zone) (packet : Packet) → Decides (host_to_zone config zone packet)
from_host_decides config zone packet =
    let end = decided_as verdict.Accept in
    let before = policies_before config packet at_host (in_zone (Some zone)) in
    let behind = policies_behind config packet at_host (in_zone (Some zone)) in
    decides_behind before.decided before.logs (in_turn (behind ∷ end ∷ []))
    (decides_behind behind.decided behind.logs (in_turn (end ∷ [])) (verdict.Accept, refl))

-- The chain of a name ends as its walk.
chain_works : (config : Config) (Holds : Ruleset → Type 0) (walked : Packet → Walked) (name : List ℕ) (chains : List Chain)
    → ((packet : Packet) → Decides (walked packet))
    → (table : Ruleset) (leaving : Option (List ℕ)) (now : Moment) (made : List Rule)
    → EachIsThere chains table
    → Meeting config table now
    → Holds table
    → HasChain config Holds walked name chains
    → LeadTo table leaving made now name
    → EndAs table leaving made now (walked now.packet)
chain_works config Holds walked name chains decides table leaving now made there meeting holds has leads =
    through table leaving made now name (chain_named name has.rules) (walked now.packet) leads (there (chain_named name has.rules) has.there)
    (chain_ends table leaving has.rules (at_count leads.looked_at now) (walked now.packet) (decides now.packet)
    (has.work table leaving (at_count leads.looked_at now) holds (counted config table now leads.looked_at meeting)))

-- To the host.
pub input_works : (config : Config) (zones : List Zone) (chains : List Chain) (dispatched : List Rule)
    → Dispatches config direction.Ingress input_start dispatched
    → IsOnlyBase (base_chain (codes "filter_INPUT") hook.Input (early_rules config ++ dispatched)) chains
    → ((zone : Zone) → IsIn zone zones → HasChain config (InputStands config zone) (zone_to_host config zone) (input_start ++ zone.name) chains)
    → InputWorks config zones chains
input_works config zones chains dispatched leads base has = record {
  rules = early_rules config ++ dispatched;
  base = base;
  work = λ table now zone there meeting is among stands.
      let early = walk (early_items config) now.packet in
      subst (λ (from : Option Zone). EndAs table None (early_rules config ++ dispatched) now
      (in_turn
      (early
      ∷ policies_before config now.packet (in_zone from) at_host
      ∷ zone_walk config now.packet from
      ∷ policies_behind config now.packet (in_zone from) at_host
      ∷ to_host_end config now.packet from
      ∷ [])))
      (sym is)
      (behind_first table None (early_rules config) dispatched now early.decided early.logs (zone_to_host config zone now.packet) (early_does table None config now)
      (λ count. chain_works config (InputStands config zone) (zone_to_host config zone) (input_start ++ zone.name) chains (to_host_decides config zone)
      table None (behind_lines early.logs count now) dispatched there (later config table now early.logs count meeting) stands (has zone among)
      (leads table None (behind_lines early.logs count now) zone meeting.sets is)));
}

-- Forwarded.
pub forward_works : (config : Config) (zones : List Zone) (chains : List Chain) (dispatched : List Rule)
    → Dispatches config direction.Ingress forward_start dispatched
    → IsOnlyBase (base_chain (codes "filter_FORWARD") hook.Forward (early_rules config ++ dispatched)) chains
    → ((from : Zone) → IsIn from zones → HasPairs config zones from chains)
    → ForwardWorks config zones chains
forward_works config zones chains dispatched leads base has = record {
  rules = early_rules config ++ dispatched;
  base = base;
  work = λ table now name from to there meeting is_from is_to among among_to stands.
      let early = walk (early_items config) now.packet in
      let pairs = has from among in
      subst (λ (one : Option Zone). EndAs table (Some name) (early_rules config ++ dispatched) now
      (in_turn
      (early
      ∷ policies_before config now.packet (in_zone one) (in_zone (egress config now.packet name))
      ∷ forward_walk one (egress config now.packet name)
      ∷ policies_behind config now.packet (in_zone one) (in_zone (egress config now.packet name))
      ∷ forwarded_end config now.packet one
      ∷ [])))
      (sym is_from)
      (subst (λ (one : Option Zone). EndAs table (Some name) (early_rules config ++ dispatched) now
      (in_turn
      (early
      ∷ policies_before config now.packet (in_zone (Some from)) (in_zone one)
      ∷ forward_walk (Some from) one
      ∷ policies_behind config now.packet (in_zone (Some from)) (in_zone one)
      ∷ forwarded_end config now.packet (Some from)
      ∷ [])))
      (sym is_to)
      (behind_first table (Some name) (early_rules config) dispatched now early.decided early.logs (zone_to_zone config from to now.packet) (early_does table (Some name) config now)
      (λ count.
      let moment = behind_lines early.logs count now in
      let first = leads table (Some name) moment from meeting.sets is_from in
      through table (Some name) dispatched moment (forward_start ++ from.name) (chain_named (forward_start ++ from.name) pairs.rules) (zone_to_zone config from to now.packet) first
      (there (chain_named (forward_start ++ from.name) pairs.rules) pairs.there)
      (chain_works config (ForwardStands config from to) (zone_to_zone config from to) (pair_start from.name ++ to.name) chains (to_zone_decides config from to)
      table (Some name) (at_count first.looked_at moment) pairs.rules there (record { sets = meeting.sets; packet = meeting.packet }) stands (pairs.pairs to among_to)
      (pairs.leads table (Some name) (at_count first.looked_at moment) to meeting.sets is_to)))));
}

-- Of the host.
pub output_works : (config : Config) (zones : List Zone) (chains : List Chain) (dispatched : List Rule)
    → Dispatches config direction.Egress output_start dispatched
    → IsOnlyBase (base_chain (codes "filter_OUTPUT") hook.Output ((known_rules ++ lo_out) ++ dispatched)) chains
    → ((to : Zone) → IsIn to zones → HasChain config (OutputStands config to) (host_to_zone config to) (output_start ++ to.name) chains)
    → OutputWorks config zones chains
output_works config zones chains dispatched leads base has = record {
  rules = (known_rules ++ lo_out) ++ dispatched;
  base = base;
  work = λ table now name to there meeting is among stands.
      let first = or_then (walk (known_item ∷ []) now.packet).decided (walk (known_item ∷ []) now.packet).logs (lo_walk name) in
      subst (λ (one : Option Zone). EndAs table (Some name) ((known_rules ++ lo_out) ++ dispatched) now
      (in_turn
      (walk (known_item ∷ []) now.packet
      ∷ lo_walk name
      ∷ policies_before config now.packet at_host (in_zone one)
      ∷ policies_behind config now.packet at_host (in_zone one)
      ∷ decided_as verdict.Accept
      ∷ [])))
      (sym is)
      (subst (λ (walked : Walked). EndAs table (Some name) ((known_rules ++ lo_out) ++ dispatched) now walked)
      (sym (two_then (walk (known_item ∷ []) now.packet).decided (walk (known_item ∷ []) now.packet).logs (lo_walk name).decided (lo_walk name).logs (host_to_zone config to now.packet)))
      (behind_first table (Some name) (known_rules ++ lo_out) dispatched now first.decided first.logs (host_to_zone config to now.packet) (output_does table name now)
      (λ count. chain_works config (OutputStands config to) (host_to_zone config to) (output_start ++ to.name) chains (from_host_decides config to)
      table (Some name) (behind_lines first.logs count now) dispatched there (later config table now first.logs count meeting) stands (has to among)
      (leads table (Some name) (behind_lines first.logs count now) to meeting.sets is))));
}
  where
    two_then : (one : Option Verdict) (lines : List LogLine) (two : Option Verdict) (more : List LogLine) (three : Walked)
        → or_then one lines (or_then two more three) ≡ or_then (or_then one lines (record { decided = two; logs = more })).decided (or_then one lines (record { decided = two; logs = more })).logs three
    two_then (Some verdict) lines two more three = refl
    two_then None lines (Some verdict) more three = refl
    two_then None lines None more three = ap (λ logs. record { decided = three.decided; logs = logs }) (sym (append_assoc lines more three.logs))

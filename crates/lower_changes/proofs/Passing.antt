-- The way of a packet through the base chains of the sides.
use Rattle.std.proofs.Common.{◌≡◌, ◌∙◌, ◌&&◌, not, ℕ, Bool, true, false, List, [], ◌∷◌, ◌++◌, Option, None, Some, refl, sym, ap, subst, append-nil}
use Rattle.std.specs.Prelude.{if◌then◌else◌, codes, IsSome}
use Rattle.std.specs.Option.{option_or}
use Rattle.std.specs.Str.{bytes_eq}
use Rattle.fw_addr.specs.declared.addr.Addr.{Addr}
use Rattle.fw_addr.specs.declared.packet.CtState.{CtState}
use Rattle.fw_addr.specs.declared.packet.CtState.TheVariants as state
use Rattle.fw_hits.specs.Bindings.{default_zone, egress, ingress, ingress_from, interface_zone, source_zone, zone_of}
use Rattle.fw_model.specs.Packets.{IsPacket}
use Rattle.fw_model.specs.declared.config.Config.{Config}
use Rattle.fw_model.specs.declared.outcome.Verdict.TheVariants.{Accept}
use Rattle.fw_model.specs.declared.packet.Origin.{Origin}
use Rattle.fw_model.specs.declared.packet.Origin.TheVariants as origin
use Rattle.fw_model.specs.declared.zone.Zone.{Zone}
use Rattle.fw_verdict.specs.Changes.{Change, ChangeItem, Passing, Reached, and_on, changed, ends, going_on, reached_by, through}
use Rattle.fw_verdict.specs.Changes.Change.{log, mark, masquerade, translate}
use Rattle.fw_verdict.specs.Sides.{all_items}
use Rattle.fw_verdict.specs.Way.{is_new, marked, marked_from, postrouted, translated, translated_from}
use Rattle.fw_verdict.specs.declared.sides.Side.{Side}
use Rattle.fw_verdict.specs.declared.sides.Side.TheVariants as side
use Rattle.fw_zone.specs.Lists.{IsIn}
use Rattle.lower_changes.specs.Chains.{base_chain, direction_of}
use Rattle.lower_changes.specs.Hooks.{Passes, PostroutingChanges, PreroutingChanges, RunAt}
use Rattle.lower_changes.specs.Works.{SideWorks, bases_of, keeps_own, side_reached}
use Rattle.lower_changes.specs.Works.SideWorks.{full, idle}
use Rattle.lower_dispatch.specs.Dispatch.{zone_on}
use Rattle.lower_dispatch.specs.declared.direction.Direction.TheVariants as direction
use Rattle.lower_dispatch.proofs.Used.{packets_use}
use Rattle.lower_outside.specs.Does.{KeepPackets, moment_of, passing_of}
use Rattle.lower_outside.proofs.Packets.{keep_nothing}
use Rattle.lower_zone.specs.Evaluates.{Meeting}
use Rattle.nf_chains.specs.Hooks.{Meets}
use Rattle.nf_chains.specs.Hooks.Meets.{accepted, passed, passed_by, translated as met}
use Rattle.nf_chains.specs.Moments.{Moment}
use Rattle.nf_eval.specs.Tests.{is_same_state}
use Rattle.nf_rules.specs.declared.chain.Chain.{Chain}
use Rattle.nf_rules.specs.declared.chain.Hook.{Hook}
use Rattle.nf_rules.specs.declared.chain.Hook.TheVariants as hook
use Rattle.nf_rules.specs.declared.ruleset.Ruleset.{Ruleset}

new_same : (of : CtState) → is_same_state of state.New ≡ is_new of
new_same state.New = refl
new_same state.Established = refl
new_same state.Related = refl
new_same state.Invalid = refl

-- the packets that meet the base chain of a side: translations are made of those alone that begin a connection
abbrev takes : Side → CtState → Bool
takes side.Marked of = true
takes side.Translated of = is_new of
takes side.Leaving of = is_new of

abbrev next_by : Config → Side → Option (List ℕ) → Zone → Passing → Passing
next_by config of leaving zone now = if takes of now.packet.state then (side_reached config of leaving zone now).now else now

-- From behind one base chain on, a packet goes on with those behind the side's, as the side has made it.
record Met (rules : Ruleset) (leaving : Option (List ℕ)) (at : Hook) (last : Option Chain) (others : List Chain) (now : Moment) (next : Passing) : Type 0 where
  behind : Option Chain
  looked_at : ℕ
  run : RunAt rules at behind others
  meets : (end : Moment) → Meets rules leaving at behind (moment_of next looked_at) Accept end → Meets rules leaving at last now Accept end

nothing_done : (own : Bool) (items : List ChangeItem) (now : Passing) → items ≡ [] → (if own then going_on now else through items now).now ≡ now
nothing_done true items now empty = refl
nothing_done false items now empty = ap (λ (list : List ChangeItem). (through list now).now) empty

unless_taken : (taken : Bool) (next now : Passing) → next ≡ now → now ≡ (if taken then next else now)
unless_taken true next now same = sym same
unless_taken false next now same = refl

module _ (config : Config) (zones : List Zone) (rules : Ruleset) (leaving : Option (List ℕ)) (at : Hook) (last : Option Chain) (others : List Chain)
    (now : Moment) (zone : Zone) (meeting : Meeting config rules now) (among : IsIn zone zones) where
  nat_meets : (of : Side) (base : Chain) (next : Passing) (count : ℕ) (taken : Bool)
      → is_new now.packet.state ≡ taken
      → RunAt rules at last (base ∷ others)
      → ((end : Moment) → is_same_state now.packet.state state.New ≡ true → Meets rules leaving at (Some base) (moment_of next count) Accept end → Meets rules leaving at last now Accept end)
      → ((end : Moment) → is_same_state now.packet.state state.New ≡ false → Meets rules leaving at (Some base) now Accept end → Meets rules leaving at last now Accept end)
      → Met rules leaving at last others now (if taken then next else passing_of now)
  nat_meets of base next count true is run through_it by_it = record {
    behind = Some base;
    looked_at = count;
    run = run.1;
    meets = λ end rest. through_it end (new_same now.packet.state ∙ is) rest;
  }
  nat_meets of base next count false is run through_it by_it = record {
    behind = Some base;
    looked_at = now.looked_at;
    run = run.1;
    meets = λ end rest. by_it end (new_same now.packet.state ∙ is) rest;
  }

  side_meets : (of : Side) (chains : List Chain)
      → zone_on (direction_of of) config leaving now.packet ≡ Some zone
      → SideWorks config of zones rules chains
      → RunAt rules at last (bases_of chains ++ others)
      → Met rules leaving at last others now (next_by config of leaving zone (passing_of now))
  side_meets of chains on (idle empty nothing) run =
      subst (λ (next : Passing). Met rules leaving at last others now next)
      (unless_taken (takes of now.packet.state) (side_reached config of leaving zone (passing_of now)).now (passing_of now)
      (nothing_done (keeps_own of leaving) (all_items config of (Some zone)) (passing_of now) (nothing zone among)))
      (record {
        behind = last;
        looked_at = now.looked_at;
        run = subst (λ (list : List Chain). RunAt rules at last (bases_of list ++ others)) empty run;
        meets = λ end rest. rest;
      })
  side_meets side.Marked chains on (full made bases works keeps) run =
      let ran = subst (λ (list : List Chain). RunAt rules at last (list ++ others)) bases run in
      let end = works leaving now zone meeting on among in
      record {
        behind = Some (base_chain side.Marked made);
        looked_at = end.looked_at;
        run = ran.1;
        meets = λ over rest. accepted ran.0 refl end.ends rest;
      }
  side_meets side.Translated chains on (full made bases works keeps) run =
      let ran = subst (λ (list : List Chain). RunAt rules at last (list ++ others)) bases run in
      let end = works leaving now zone meeting on among in
      nat_meets side.Translated (base_chain side.Translated made) (side_reached config side.Translated leaving zone (passing_of now)).now end.looked_at (is_new now.packet.state) refl ran
      (λ over new rest. met ran.0 refl new end.ends rest) (λ over old rest. passed_by ran.0 refl old rest)
  side_meets side.Leaving chains on (full made bases works keeps) run =
      let ran = subst (λ (list : List Chain). RunAt rules at last (list ++ others)) bases run in
      let end = works leaving now zone meeting on among in
      nat_meets side.Leaving (base_chain side.Leaving made) (side_reached config side.Leaving leaving zone (passing_of now)).now end.looked_at (is_new now.packet.state) refl ran
      (λ over new rest. met ran.0 refl new end.ends rest) (λ over old rest. passed_by ran.0 refl old rest)

-- what a side makes of a packet is one
side_keeps : (config : Config) (of : Side) (zones : List Zone) (rules : Ruleset) (chains : List Chain) (zone : Zone)
    → SideWorks config of zones rules chains → IsIn zone zones → KeepPackets (all_items config of (Some zone))
side_keeps config of zones rules chains zone (idle empty nothing) among = subst KeepPackets (sym (nothing zone among)) keep_nothing
side_keeps config of zones rules chains zone (full made bases works keeps) among = keeps zone among

kept_where : (own : Bool) (items : List ChangeItem) (now : Passing) → KeepPackets items → IsPacket now.packet → IsPacket (if own then going_on now else through items now).now.packet
kept_where true items now keeps is = is
kept_where false items now keeps is = keeps now is

kept_if : (taken : Bool) (next now : Passing) → IsPacket next.packet → IsPacket now.packet → IsPacket (if taken then next else now).packet
kept_if true next now is is' = is
kept_if false next now is is' = is'

next_is_packet : (config : Config) (of : Side) (leaving : Option (List ℕ)) (zone : Zone) (now : Passing)
    → KeepPackets (all_items config of (Some zone)) → IsPacket now.packet → IsPacket (next_by config of leaving zone now).packet
next_is_packet config of leaving zone now keeps is =
    kept_if (takes of now.packet.state) (side_reached config of leaving zone now).now now
    (kept_where (keeps_own of leaving) (all_items config of (Some zone)) now keeps is) is

-- changes leave where a packet came from
same_origin : (change : Change) (now : Passing) → (changed change now).packet.origin ≡ now.packet.origin
same_origin (log line) now = refl
same_origin (mark value mask) now = refl
same_origin (translate dnat) now = refl
same_origin masquerade now = refl

origin_where : (hit : Bool) (change : Change) (now : Passing) → (if hit then record { now = changed change now; over = ends change } else going_on now).now.packet.origin ≡ now.packet.origin
origin_where true change now = same_origin change now
origin_where false change now = refl

origin_on : (now : Passing) (over : Bool) (others : Passing → Reached) (from : Origin) → now.packet.origin ≡ from
    → ((next : Passing) → (others next).now.packet.origin ≡ next.packet.origin)
    → (and_on (record { now = now; over = over }) others).now.packet.origin ≡ from
origin_on now true others from is same = is
origin_on now false others from is same = same now ∙ is

pub through_origin : (items : List ChangeItem) (now : Passing) → (through items now).now.packet.origin ≡ now.packet.origin
through_origin [] now = refl
through_origin (item ∷ items) now =
    origin_on (reached_by item now).now (reached_by item now).over (through items) now.packet.origin
    (origin_where (item.hits now.packet) item.change now) (through_origin items)

-- The default zone is there, so each packet has a zone.
the_one : {A : Type 0} (found : Option A) → IsSome found → (one : A) × (found ≡ Some one)
the_one None there = cc
the_one (Some one) there = (one, refl)

either : {A : Type 0} (one : Option A) (other : Option A) (last : A) → other ≡ Some last → (found : A) × (option_or one other ≡ Some found)
either (Some found) other last is = (found, refl)
either None other last is = (last, is)

zone_is : (config : Config) (address : Addr) (mac : Option ℕ) (name : List ℕ) → IsSome (default_zone config)
    → (found : Zone) × (zone_of config address mac name ≡ Some found)
zone_is config address mac name there =
    let default = the_one (default_zone config) there in
    let behind = either (interface_zone config name) (default_zone config) default.0 default.1 in
    either (source_zone config address mac) (option_or (interface_zone config name) (default_zone config)) behind.0 behind.1

marked_is : (config : Config) (now : Passing) (zone : Zone) (name : List ℕ)
    → now.packet.origin ≡ origin.Link name → ingress config now.packet ≡ Some zone
    → next_by config side.Marked None zone now ≡ marked config now
marked_is config now zone name from of =
    ap (λ (found : Option Zone). (through (all_items config side.Marked found) now).now) (sym of)
    ∙ ap (λ (one : Origin). marked_from config one now) (sym from)

translated_is : (config : Config) (now : Passing) (zone : Zone) (name : List ℕ)
    → now.packet.origin ≡ origin.Link name → ingress config now.packet ≡ Some zone
    → next_by config side.Translated None zone now ≡ translated config now
translated_is config now zone name from of =
    ap (λ (found : Option Zone). if is_new now.packet.state then (through (all_items config side.Translated found) now).now else now) (sym of)
    ∙ ap (λ (one : Origin). translated_from config one now) (sym from)

left_so : (new lo : Bool) (changed now : Passing)
    → (if new then (if lo then going_on now else record { now = changed; over = false }).now else now) ≡ (if new && not lo then changed else now)
left_so true true changed now = refl
left_so true false changed now = refl
left_so false lo changed now = refl

now_of : (lo : Bool) (reached : Reached) (now : Passing) → (if lo then going_on now else reached).now ≡ (if lo then going_on now else record { now = reached.now; over = false }).now
now_of true reached now = refl
now_of false reached now = refl

left_is : (config : Config) (now : Passing) (zone : Zone) (name : List ℕ)
    → egress config now.packet name ≡ Some zone
    → next_by config side.Leaving (Some name) zone now ≡ postrouted config Accept (Some name) now
left_is config now zone name of =
    ap (λ (found : Option Zone). if is_new now.packet.state then (if bytes_eq name (codes "lo") then going_on now else through (all_items config side.Leaving found) now).now else now) (sym of)
    ∙ ap (λ (next : Passing). if is_new now.packet.state then next else now) (now_of (bytes_eq name (codes "lo")) (through (all_items config side.Leaving (egress config now.packet name)) now) now)
    ∙ left_so (is_new now.packet.state) (bytes_eq name (codes "lo")) (through (all_items config side.Leaving (egress config now.packet name)) now).now now

pub prerouting : PreroutingChanges
prerouting config zones rules marks targets masks stand now name from is =
    let first = zone_is config now.packet.src now.packet.mac name stand.default in
    let comes : ingress config now.packet ≡ Some first.0 = ap (ingress_from config now.packet) from ∙ first.1 in
    let among = stand.used first.0 (packets_use config direction.Ingress None now.packet first.0 comes) in
    let one = side_meets config zones rules None hook.Prerouting None (bases_of targets) now first.0 (record { sets = stand.sets; packet = is }) among
    side.Marked marks comes stand.marked stand.at_prerouting in
    let between = next_by config side.Marked None first.0 (passing_of now) in
    let between_is = next_is_packet config side.Marked None first.0 (passing_of now) (side_keeps config side.Marked zones rules marks first.0 stand.marked among) is in
    let still : between.packet.origin ≡ origin.Link name = through_origin (all_items config side.Marked (Some first.0)) (passing_of now) ∙ from in
    let second = zone_is config between.packet.src between.packet.mac name stand.default in
    let comes_on : ingress config between.packet ≡ Some second.0 = ap (ingress_from config between.packet) still ∙ second.1 in
    let among_on = stand.used second.0 (packets_use config direction.Ingress None between.packet second.0 comes_on) in
    let other = side_meets config zones rules None hook.Prerouting one.behind [] (moment_of between one.looked_at) second.0 (record { sets = stand.sets; packet = between_is }) among_on
    side.Translated targets comes_on stand.translated
    (subst (λ (list : List Chain). RunAt rules hook.Prerouting one.behind list) (sym (append-nil (bases_of targets))) one.run) in
    let end = moment_of (next_by config side.Translated None second.0 between) other.looked_at in
    subst (λ (next : Passing). Passes rules None hook.Prerouting now next)
    (translated_is config between second.0 name still comes_on ∙ ap (translated config) (marked_is config (passing_of now) first.0 name from comes))
    (record {
      looked_at = other.looked_at;
      meets = one.meets end (other.meets end (passed {last = other.behind} {now = end} other.run));
      packet = next_is_packet config side.Translated None second.0 between (side_keeps config side.Translated zones rules targets second.0 stand.translated among_on) between_is;
    })

pub postrouting : PostroutingChanges
postrouting config zones rules marks targets masks stand now name is =
    let to = zone_is config now.packet.dst None name stand.default in
    let goes : egress config now.packet name ≡ Some to.0 = to.1 in
    let among = stand.used to.0 (packets_use config direction.Egress (Some name) now.packet to.0 goes) in
    let one = side_meets config zones rules (Some name) hook.Postrouting None [] now to.0 (record { sets = stand.sets; packet = is }) among
    side.Leaving masks goes stand.leaving
    (subst (λ (list : List Chain). RunAt rules hook.Postrouting None list) (sym (append-nil (bases_of masks))) stand.at_postrouting) in
    let end = moment_of (next_by config side.Leaving (Some name) to.0 (passing_of now)) one.looked_at in
    subst (λ (next : Passing). Passes rules (Some name) hook.Postrouting now next) (left_is config (passing_of now) to.0 name goes)
    (record {
      looked_at = one.looked_at;
      meets = one.meets end (passed {last = one.behind} {now = end} one.run);
      packet = next_is_packet config side.Leaving (Some name) to.0 (passing_of now) (side_keeps config side.Leaving zones rules masks to.0 stand.leaving among) is;
    })

-- The hooks that a packet meets, and the base chains at each (nft(8), "ADDRESS FAMILIES", the hooks of inet, and "CHAINS").
use Rattle.std.specs.Prelude.{◌≡◌, ℕ, ℤ, pos, List, [], ◌∷◌, codes, Bool, true, false, ◌&&◌, Option, None, Some, unwrap_or, if◌then◌else◌}
use Rattle.std.specs.Cmp.Lexicographic.{slice_cmp}
use Rattle.std.specs.List.{find}
use Rattle.std.specs.Option.{option_map}
use Rattle.std.specs.Ordering.{int_cmp, is_lt, nat_cmp, ordering_then}
use Rattle.std.specs.declared.cmp.Ordering.{Ordering}
use Rattle.fw_addr.specs.Subnets.{in_net}
use Rattle.fw_addr.specs.declared.addr.Addr.{Addr}
use Rattle.fw_addr.specs.declared.dnat.Dnat.{Dnat}
use Rattle.fw_addr.specs.declared.packet.CtState.TheVariants as state
use Rattle.fw_model.specs.declared.outcome.Outcome.{Outcome}
use Rattle.fw_model.specs.declared.outcome.Verdict.{Verdict}
use Rattle.fw_model.specs.declared.outcome.Verdict.TheVariants as verdict
use Rattle.fw_model.specs.declared.packet.Origin.{Origin}
use Rattle.fw_model.specs.declared.packet.Origin.TheVariants as origin
use Rattle.fw_model.specs.declared.packet.Packet.{Packet}
use Rattle.fw_model.specs.declared.packet.Via.{Via}
use Rattle.fw_model.specs.declared.packet.Via.TheVariants as via
use Rattle.nf_eval.specs.Tests.{is_same_state}
use Rattle.nf_rules.specs.declared.chain.Base.{Base}
use Rattle.nf_rules.specs.declared.chain.Chain.{Chain}
use Rattle.nf_rules.specs.declared.chain.ChainKind.{ChainKind}
use Rattle.nf_rules.specs.declared.chain.ChainKind.TheVariants as kind
use Rattle.nf_rules.specs.declared.chain.Hook.{Hook}
use Rattle.nf_rules.specs.declared.chain.Hook.TheVariants as hook
use Rattle.nf_rules.specs.declared.ruleset.Ruleset.{Ruleset}
use Rattle.nf_chains.specs.Evaluation.{Ends}
use Rattle.nf_chains.specs.Moments.{Moment, first_moment, outcome_of}

abbrev pub is_same_hook : Hook → Hook → Bool
is_same_hook hook.Prerouting hook.Prerouting = true
is_same_hook hook.Input hook.Input = true
is_same_hook hook.Forward hook.Forward = true
is_same_hook hook.Output hook.Output = true
is_same_hook hook.Postrouting hook.Postrouting = true
is_same_hook one other = false

-- a base chain at this hook
abbrev pub is_at : Hook → Option Base → Bool
is_at wanted None = false
is_at wanted (Some base) = is_same_hook base.hook wanted

abbrev pub is_filter_kind : ChainKind → Bool
is_filter_kind kind.Filter = true
is_filter_kind kind.Nat = false

abbrev pub is_filter : Option Base → Bool
is_filter None = false
is_filter (Some base) = is_filter_kind base.kind

-- The priority of a base chain. Others have none, and are never asked for it.
abbrev pub priority : Option Base → ℤ
priority None = pos 0
priority (Some base) = base.priority

-- Base chains of a hook run by ascending priority, and those of equal priority by name.
abbrev pub run_order : Chain → Chain → Ordering
run_order one other = ordering_then (int_cmp (priority one.base) (priority other.base)) (slice_cmp nat_cmp one.name other.name)

abbrev pub runs_before : Chain → Chain → Bool
runs_before one other = is_lt (run_order one other)

-- it runs behind this one, or behind none
abbrev pub runs_behind : Option Chain → Chain → Bool
runs_behind None chain = true
runs_behind (Some last) chain = runs_before last chain

-- the one of two that runs first
abbrev pub first_of : Chain → Option Chain → Chain
first_of chain None = chain
first_of chain (Some other) = if runs_before other chain then other else chain

-- Of the base chains at a hook that run behind this one, the one that runs first.
abbrev pub next_at : Hook → Option Chain → List Chain → Option Chain
next_at wanted last [] = None
next_at wanted last (chain ∷ chains) =
    if is_at wanted chain.base && runs_behind last chain then Some (first_of chain (next_at wanted last chains)) else next_at wanted last chains

abbrev pub is_accept : Verdict → Bool
is_accept verdict.Accept = true
is_accept verdict.Drop = false
is_accept (verdict.Reject kind) = false

-- A packet begins a connection.
abbrev pub is_new : Packet → Bool
is_new packet = is_same_state packet.state state.New

-- A packet meets the base chains at a hook, from behind one on. Each has to accept it; what one refuses meets no other. Those of kind
-- nat are met by packets that begin a connection alone.
pub data Meets (rules : Ruleset) (leaving : Option (List ℕ)) (wanted : Hook) : Option Chain → Moment → Verdict → Moment → Type 0 where
  passed : {last : Option Chain} {now : Moment}
      → next_at wanted last rules.chains ≡ None
      → Meets rules leaving wanted last now verdict.Accept now
  accepted : {last : Option Chain} {chain : Chain} {now next end : Moment} {chosen : Verdict}
      → next_at wanted last rules.chains ≡ Some chain
      → is_filter chain.base ≡ true
      → Ends rules leaving [] chain.rules [] now verdict.Accept next
      → Meets rules leaving wanted (Some chain) next chosen end
      → Meets rules leaving wanted last now chosen end
  refused : {last : Option Chain} {chain : Chain} {now end : Moment} {chosen : Verdict}
      → next_at wanted last rules.chains ≡ Some chain
      → is_filter chain.base ≡ true
      → Ends rules leaving [] chain.rules [] now chosen end
      → is_accept chosen ≡ false
      → Meets rules leaving wanted last now chosen end
  translated : {last : Option Chain} {chain : Chain} {now next end : Moment} {chosen : Verdict}
      → next_at wanted last rules.chains ≡ Some chain
      → is_filter chain.base ≡ false
      → is_new now.packet ≡ true
      → Ends rules leaving [] chain.rules [] now verdict.Accept next
      → Meets rules leaving wanted (Some chain) next chosen end
      → Meets rules leaving wanted last now chosen end
  held_back : {last : Option Chain} {chain : Chain} {now end : Moment} {chosen : Verdict}
      → next_at wanted last rules.chains ≡ Some chain
      → is_filter chain.base ≡ false
      → is_new now.packet ≡ true
      → Ends rules leaving [] chain.rules [] now chosen end
      → is_accept chosen ≡ false
      → Meets rules leaving wanted last now chosen end
  passed_by : {last : Option Chain} {chain : Chain} {now end : Moment} {chosen : Verdict}
      → next_at wanted last rules.chains ≡ Some chain
      → is_filter chain.base ≡ false
      → is_new now.packet ≡ false
      → Meets rules leaving wanted (Some chain) now chosen end
      → Meets rules leaving wanted last now chosen end

-- a hook, and the interface by which the packet leaves, where that is known there
pub record Stop : Type 0 where
  pub hook : Hook
  pub leaving : Option (List ℕ)

-- One hook after another.
pub data Passes (rules : Ruleset) : List Stop → Moment → Verdict → Moment → Type 0 where
  through : {now : Moment} → Passes rules [] now verdict.Accept now
  further : {stop : Stop} {stops : List Stop} {now next end : Moment} {chosen : Verdict}
      → Meets rules stop.leaving stop.hook None now verdict.Accept next
      → Passes rules stops next chosen end
      → Passes rules (stop ∷ stops) now chosen end
  stopped : {stop : Stop} {stops : List Stop} {now end : Moment} {chosen : Verdict}
      → Meets rules stop.leaving stop.hook None now chosen end
      → is_accept chosen ≡ false
      → Passes rules (stop ∷ stops) now chosen end

-- Where a packet goes: the first route whose net holds its destination says it; without one it goes to the host.
abbrev pub route : Packet → Via
route packet = unwrap_or (option_map (λ entry. entry.1) (find (λ entry. in_net entry.0 packet.dst) packet.routes)) via.Local

-- a translation without an address sends it to the host
abbrev pub sends_to : Option Addr → Via → Via
sends_to None routed = via.Local
sends_to (Some address) routed = routed

abbrev pub routed_by : Option Dnat → Via → Via
routed_by None routed = routed
routed_by (Some dnat) routed = sends_to dnat.addr routed

abbrev pub routed : Moment → Via
routed now = routed_by now.dnat (route now.packet)

-- Before routing, what comes by a link passes prerouting.
abbrev pub stops_before : Origin → List Stop
stops_before (origin.Link from) = record { hook = hook.Prerouting; leaving = None } ∷ []
stops_before origin.Host = []

-- a hook, and then postrouting, by an interface
abbrev pub out_by : Hook → List ℕ → List Stop
out_by first name = record { hook = first; leaving = Some name } ∷ record { hook = hook.Postrouting; leaving = Some name } ∷ []

-- Behind it, what goes to the host passes input. What is forwarded passes forward, and what the host sends passes output; both
-- then pass postrouting. What the host sends to itself leaves by `lo`.
abbrev pub stops_behind : Origin → Via → List Stop
stops_behind (origin.Link from) via.Local = record { hook = hook.Input; leaving = None } ∷ []
stops_behind (origin.Link from) (via.Link name) = out_by hook.Forward name
stops_behind origin.Host via.Local = out_by hook.Output (codes "lo")
stops_behind origin.Host (via.Link name) = out_by hook.Output name

-- The whole way of a packet.
pub data Goes (rules : Ruleset) (packet : Packet) : Verdict → Moment → Type 0 where
  refused : {chosen : Verdict} {end : Moment}
      → Passes rules (stops_before packet.origin) (first_moment packet) chosen end
      → is_accept chosen ≡ false
      → Goes rules packet chosen end
  routed_on : {now end : Moment} {chosen : Verdict}
      → Passes rules (stops_before packet.origin) (first_moment packet) verdict.Accept now
      → Passes rules (stops_behind now.packet.origin (routed now)) now chosen end
      → Goes rules packet chosen end

-- What a ruleset makes of a packet.
pub record Eval (rules : Ruleset) (packet : Packet) (outcome : Outcome) : Type 0 where
  pub verdict : Verdict
  pub end : Moment
  pub goes : Goes rules packet verdict end
  pub is : outcome ≡ outcome_of verdict end

-- How many rules it looks at.
pub record Visits (rules : Ruleset) (packet : Packet) (count : ℕ) : Type 0 where
  pub verdict : Verdict
  pub end : Moment
  pub goes : Goes rules packet verdict end
  pub is : count ≡ end.looked_at

-- The verdict that it gives it.
abbrev pub HasVerdict : Ruleset → Packet → Verdict → Type 0
HasVerdict rules packet verdict = (end : Moment) × Goes rules packet verdict end

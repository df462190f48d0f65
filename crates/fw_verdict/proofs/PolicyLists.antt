-- Walks of lists of policies, one policy after another.
use Rattle.std.proofs.Common.{◌≡◌, ◌∙◌, ℕ, ◌+◌, ◌<◌, ◌≤◌, List, ◌∷◌, length, map, drop, get_or, true, Option, None, sym, refl, ap, subst, append-nil, Bor}
use Rattle.std.specs.Prelude.{is_some}
use Rattle.std.proofs.lemmas.List.{at_drop_all, at_drop_more}
use Rattle.fw_addr.specs.declared.log.LogLine.{LogLine}
use Rattle.fw_model.specs.declared.config.Config.{Config}
use Rattle.fw_model.specs.declared.outcome.Verdict.{Verdict}
use Rattle.fw_model.specs.declared.packet.Packet.{Packet}
use Rattle.fw_model.specs.declared.policy.Policy.{Policy}
use Rattle.fw_order.specs.Borrowed.{lent}
use Rattle.fw_verdict.specs.Given.{Walks}
use Rattle.fw_verdict.specs.Policies.{policy_walk, walk_all}
use Rattle.fw_verdict.specs.Walk.{Walked}
use Rattle.fw_verdict.proofs.Turns.{turn_ends, turn_goes_on}

module _ (config : Config) (packet : Packet) where
  abbrev walk_of : List (Bor Policy) → Walked
  walk_of policies = walk_all config packet (lent policies)

  from_here : (policies : List (Bor Policy)) (at : ℕ) (item : Bor Policy) → at < length policies → item ≡ get_or policies at item
      → walk_of (drop at policies) ≡ walk_of (item ∷ drop (at + 1) policies)
  from_here policies at item below is =
      at_drop_more walk_of policies at item below ∙ ap (λ (one : Bor Policy). walk_of (one ∷ drop (at + 1) policies)) (sym is)

  -- a policy that decides ends the walk from its place on
  pub ends_here : (policies : List (Bor Policy)) (at : ℕ) (item : Bor Policy) (first second : List LogLine) (decided : Option Verdict)
      → at < length policies → item ≡ get_or policies at item
      → is_some decided ≡ true
      → Walks (policy_walk config packet item.now) first second decided
      → Walks (walk_of (drop at policies)) first second decided
  ends_here policies at item first second decided below is there done =
      subst (λ (walked : Walked). Walks walked first second decided) (sym (from_here policies at item below is))
      (turn_ends (policy_walk config packet item.now) (map (policy_walk config packet) (lent (drop (at + 1) policies))) first second decided there done)

  -- one that doesn't leads to the next
  pub goes_on_here : (policies : List (Bor Policy)) (at : ℕ) (item : Bor Policy) (first second third : List LogLine) (decided : Option Verdict)
      → at < length policies → item ≡ get_or policies at item
      → Walks (policy_walk config packet item.now) first second None
      → Walks (walk_of (drop (at + 1) policies)) second third decided
      → Walks (walk_of (drop at policies)) first third decided
  goes_on_here policies at item first second third decided below is done behind =
      subst (λ (walked : Walked). Walks walked first third decided) (sym (from_here policies at item below is))
      (turn_goes_on (policy_walk config packet item.now) (map (policy_walk config packet) (lent (drop (at + 1) policies))) first second third decided done behind)

  -- behind the last one
  pub ends_behind : (policies : List (Bor Policy)) (at : ℕ) (logs : List LogLine) → length policies ≤ at → Walks (walk_of (drop at policies)) logs logs None
  ends_behind policies at logs over =
      subst (λ (walked : Walked). Walks walked logs logs None) (sym (at_drop_all walk_of policies at over))
      (record { decides = refl; logs = sym (append-nil logs) })

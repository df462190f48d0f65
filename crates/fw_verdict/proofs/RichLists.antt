-- Walks of lists of rich rules, one rule after another.
use Rattle.std.proofs.Common.{◌≡◌, ◌∙◌, ℕ, ◌+◌, ◌<◌, ◌≤◌, List, ◌∷◌, length, drop, get_or, true, Option, None, sym, refl, ap, subst, append-nil, Bor}
use Rattle.std.specs.Prelude.{is_some}
use Rattle.std.specs.List.{flat_map}
use Rattle.std.proofs.lemmas.List.{at_drop_all, at_drop_more}
use Rattle.fw_addr.specs.declared.log.LogLine.{LogLine}
use Rattle.fw_model.specs.declared.config.Config.{Config}
use Rattle.fw_model.specs.declared.outcome.Verdict.{Verdict}
use Rattle.fw_model.specs.declared.packet.Packet.{Packet}
use Rattle.fw_model.specs.declared.rich.Rich.{Rich}
use Rattle.fw_order.specs.Borrowed.{lent}
use Rattle.fw_verdict.specs.Given.{Walks}
use Rattle.fw_verdict.specs.Rich.{rule_items}
use Rattle.fw_verdict.specs.Walk.{Walked, walk}
use Rattle.fw_verdict.specs.declared.rich.Part.{Part}
use Rattle.fw_verdict.proofs.Sequences.{ends, goes_on}

module _ (config : Config) (stage : Part) (packet : Packet) where
  abbrev walk_of : List (Bor Rich) → Walked
  walk_of rules = walk (flat_map (rule_items config stage) (lent rules)) packet

  from_here : (rules : List (Bor Rich)) (at : ℕ) (item : Bor Rich) → at < length rules → item ≡ get_or rules at item
      → walk_of (drop at rules) ≡ walk_of (item ∷ drop (at + 1) rules)
  from_here rules at item below is =
      at_drop_more walk_of rules at item below ∙ ap (λ (one : Bor Rich). walk_of (one ∷ drop (at + 1) rules)) (sym is)

  -- a rule that decides ends the walk from its place on
  pub ends_here : (rules : List (Bor Rich)) (at : ℕ) (item : Bor Rich) (first second : List LogLine) (decided : Option Verdict)
      → at < length rules → item ≡ get_or rules at item
      → is_some decided ≡ true
      → Walks (walk (rule_items config stage item.now) packet) first second decided
      → Walks (walk_of (drop at rules)) first second decided
  ends_here rules at item first second decided below is there done =
      subst (λ (walked : Walked). Walks walked first second decided) (sym (from_here rules at item below is))
      (ends (rule_items config stage item.now) (flat_map (rule_items config stage) (lent (drop (at + 1) rules))) packet first second decided there done)

  -- one that doesn't leads to the next
  pub goes_on_here : (rules : List (Bor Rich)) (at : ℕ) (item : Bor Rich) (first second third : List LogLine) (decided : Option Verdict)
      → at < length rules → item ≡ get_or rules at item
      → Walks (walk (rule_items config stage item.now) packet) first second None
      → Walks (walk_of (drop (at + 1) rules)) second third decided
      → Walks (walk_of (drop at rules)) first third decided
  goes_on_here rules at item first second third decided below is done behind =
      subst (λ (walked : Walked). Walks walked first third decided) (sym (from_here rules at item below is))
      (goes_on (rule_items config stage item.now) (flat_map (rule_items config stage) (lent (drop (at + 1) rules))) packet first second third decided done behind)

  -- behind the last one
  pub ends_behind : (rules : List (Bor Rich)) (at : ℕ) (logs : List LogLine) → length rules ≤ at → Walks (walk_of (drop at rules)) logs logs None
  ends_behind rules at logs over =
      subst (λ (walked : Walked). Walks walked logs logs None) (sym (at_drop_all walk_of rules at over))
      (record { decides = refl; logs = sym (append-nil logs) })

-- What rules do in rulesets of which something holds, one after another.
use Rattle.std.proofs.Common.{◌≡◌, ◌∙◌, ℕ, List, [], ◌∷◌, ◌++◌, Option, None, Some, refl, sym, ap, subst, append-nil, append_assoc}
use Rattle.fw_addr.specs.declared.log.LogLine.{LogLine}
use Rattle.fw_model.specs.declared.config.Config.{Config}
use Rattle.fw_model.specs.declared.outcome.Verdict.{Verdict}
use Rattle.fw_model.specs.declared.packet.Packet.{Packet}
use Rattle.fw_verdict.specs.Walk.{Walked, in_turn, nothing, or_then}
use Rattle.lower_hooks.specs.Work.{DoIn, JumpDoes}
use Rattle.lower_zone.proofs.Sequences.{both_do, nothing_done}
use Rattle.lower_zone.specs.Evaluates.{Meeting, behind_lines}
use Rattle.lower_zone.specs.Forms.{jump_to}
use Rattle.lower_zone.specs.Work.{Do}
use Rattle.nf_chains.specs.Evaluation.Ends.{looks}
use Rattle.nf_chains.specs.Moments.{Moment, looking}
use Rattle.nf_rules.specs.declared.rule.Rule.{Rule}
use Rattle.nf_rules.specs.declared.ruleset.Ruleset.{Ruleset}

-- a packet at a later moment is the same
pub later : (config : Config) (table : Ruleset) (now : Moment) (lines : List LogLine) (count : ℕ)
    → Meeting config table now → Meeting config table (behind_lines lines count now)
later config table now lines count meeting = record { sets = meeting.sets; packet = meeting.packet }

-- nothing behind what a walk does
pub or_nothing : (decided : Option Verdict) (lines : List LogLine) → or_then decided lines nothing ≡ record { decided = decided; logs = lines }
or_nothing (Some verdict) lines = refl
or_nothing None lines = ap (λ logs. record { decided = None; logs = logs }) (append-nil lines)

or_alone : (one other : Walked) → or_then one.decided one.logs other ≡ in_turn (one ∷ other ∷ [])
or_alone one other = ap (or_then one.decided one.logs) (sym (or_nothing other.decided other.logs))

-- a rule that jumps to a chain
pub jump_does : (config : Config) (table : Ruleset) (name : List ℕ) (walked : Packet → Walked) (leaving : Option (List ℕ)) (now : Moment)
    → JumpDoes config table name walked
    → Meeting config table now
    → Do table leaving (jump_to name ∷ []) now (walked now.packet)
jump_does config table name walked leaving now does meeting =
    let jump = does leaving (looking now) (record { sets = meeting.sets; packet = meeting.packet }) in
    record {
      looked_at = jump.looked_at;
      ends = λ behind returns verdict end follows. looks refl (jump.ends [] behind returns verdict end follows);
    }

-- where more is known
pub does_where : (config : Config) (Holds Knows : Ruleset → Type 0) (made : List Rule) (walked : Packet → Walked)
    → ((table : Ruleset) → Knows table → Holds table)
    → DoIn config Holds made walked → DoIn config Knows made walked
does_where config Holds Knows made walked weaker does table leaving now knows = does table leaving now (weaker table knows)

module _ (config : Config) (Holds : Ruleset → Type 0) where
  pub does_nothing : DoIn config Holds [] (λ packet. nothing)
  does_nothing table leaving now holds meeting = nothing_done table leaving now

  -- one after another
  pub does_both : (made more : List Rule) (one other : Packet → Walked)
      → DoIn config Holds made one → DoIn config Holds more other
      → DoIn config Holds (made ++ more) (λ packet. or_then (one packet).decided (one packet).logs (other packet))
  does_both made more one other first second table leaving now holds meeting =
      both_do table leaving made more now (one now.packet).decided (one now.packet).logs (other now.packet)
      (first table leaving now holds meeting)
      (λ count. second table leaving (behind_lines (one now.packet).logs count now) holds (later config table now (one now.packet).logs count meeting))

  pub does_two : (made more : List Rule) (one other : Packet → Walked)
      → DoIn config Holds made one → DoIn config Holds more other
      → DoIn config Holds (made ++ more) (λ packet. in_turn (one packet ∷ other packet ∷ []))
  does_two made more one other first second table leaving now holds meeting =
      subst (λ (walked : Walked). Do table leaving (made ++ more) now walked) (or_alone (one now.packet) (other now.packet))
      (does_both made more one other first second table leaving now holds meeting)

  pub does_three : (a b c : List Rule) (one two three : Packet → Walked)
      → DoIn config Holds a one → DoIn config Holds b two → DoIn config Holds c three
      → DoIn config Holds (a ++ b ++ c) (λ packet. in_turn (one packet ∷ two packet ∷ three packet ∷ []))
  does_three a b c one two three first second third =
      subst (λ (made : List Rule). DoIn config Holds made (λ packet. in_turn (one packet ∷ two packet ∷ three packet ∷ []))) (sym (append_assoc a b c))
      (does_both a (b ++ c) one (λ packet. in_turn (two packet ∷ three packet ∷ [])) first (does_two b c two three second third))

  pub does_four : (a b c d : List Rule) (one two three four : Packet → Walked)
      → DoIn config Holds a one → DoIn config Holds b two → DoIn config Holds c three → DoIn config Holds d four
      → DoIn config Holds (a ++ b ++ c ++ d) (λ packet. in_turn (one packet ∷ two packet ∷ three packet ∷ four packet ∷ []))
  does_four a b c d one two three four first second third fourth =
      subst (λ (made : List Rule). DoIn config Holds made (λ packet. in_turn (one packet ∷ two packet ∷ three packet ∷ four packet ∷ [])))
      (sym (ap (λ (made : List Rule). made ++ d) (append_assoc a b c) ∙ append_assoc a (b ++ c) d))
      (does_both a (b ++ c ++ d) one (λ packet. in_turn (two packet ∷ three packet ∷ four packet ∷ [])) first (does_three b c d two three four second third fourth))

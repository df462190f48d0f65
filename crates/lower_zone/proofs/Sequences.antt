-- Rules one after another, and chains that others jump to.
use Rattle.std.proofs.Common.{◌≡◌, ◌∙◌, ℕ, List, [], ◌∷◌, ◌++◌, map, Option, None, Some, refl, sym, ap, subst, append-nil, append_assoc}
use Rattle.fw_addr.specs.declared.log.LogLine.{LogLine}
use Rattle.fw_model.specs.declared.outcome.Verdict.{Verdict}
use Rattle.fw_model.specs.declared.packet.Packet.{Packet}
use Rattle.fw_verdict.specs.Walk.{Item, Walked, does, nothing, or_then, walk}
use Rattle.lower_zone.specs.Evaluates.{Follows, JumpIs, behind_lines}
use Rattle.lower_zone.specs.Forms.{chain_named, jump_to}
use Rattle.lower_zone.specs.Work.{ChainDoes, Do}
use Rattle.nf_chains.specs.Evaluation.{Ends}
use Rattle.nf_chains.specs.Evaluation.Ends.{comes_back, jumps, looks}
use Rattle.nf_chains.specs.Moments.{Moment, looking}
use Rattle.nf_rules.specs.declared.chain.Chain.{Chain}
use Rattle.nf_rules.specs.declared.ruleset.Ruleset.{Ruleset}
use Rattle.nf_rules.specs.declared.rule.Rule.{Rule}
use Rattle.nf_sound.specs.Names.{chain_of}

-- of three walks, one after another
or_then_then : (one : Option Verdict) (lines : List LogLine) (two : Option Verdict) (more : List LogLine) (three : Walked)
    → or_then one lines (or_then two more three) ≡ or_then (or_then one lines (record { decided = two; logs = more })).decided (or_then one lines (record { decided = two; logs = more })).logs three
or_then_then (Some verdict) lines two more three = refl
or_then_then None lines (Some verdict) more three = refl
or_then_then None lines None more three = ap (λ logs. record { decided = three.decided; logs = logs }) (sym (append_assoc lines more three.logs))

-- two lists of items, one behind the other
pub walk_append : (one other : List Item) (packet : Packet) → walk (one ++ other) packet ≡ or_then (walk one packet).decided (walk one packet).logs (walk other packet)
walk_append [] other packet = refl
walk_append (item ∷ items) other packet =
    ap (or_then (does packet item).decided (does packet item).logs) (walk_append items other packet)
    ∙ or_then_then (does packet item).decided (does packet item).logs (walk items packet).decided (walk items packet).logs (walk other packet)

module _ (rules : Ruleset) (leaving : Option (List ℕ)) where
  -- no rule does nothing
  pub nothing_done : (now : Moment) → Do rules leaving [] now nothing
  nothing_done now = record {
    looked_at = now.looked_at;
    ends = λ behind returns verdict end follows.
        subst (λ (logs : List LogLine). Ends rules leaving [] behind returns (record now { logs = logs }) verdict end) (append-nil now.logs) follows;
  }

  -- rules before others
  pub both_do : (one other : List Rule) (now : Moment) (decided : Option Verdict) (lines : List LogLine) (walked : Walked)
      → Do rules leaving one now (record { decided = decided; logs = lines })
      → ((count : ℕ) → Do rules leaving other (behind_lines lines count now) walked)
      → Do rules leaving (one ++ other) now (or_then decided lines walked)
  both_do one other now (Some chosen) lines walked first second = record {
    looked_at = first.looked_at;
    ends = λ behind returns verdict end follows.
        subst (λ (list : List Rule). Ends rules leaving [] list returns now verdict end) (sym (append_assoc one other behind))
        (first.ends (other ++ behind) returns verdict end follows);
  }
  both_do one other now None lines walked first second = record {
    looked_at = (second first.looked_at).looked_at;
    ends = λ behind returns verdict end follows.
        subst (λ (list : List Rule). Ends rules leaving [] list returns now verdict end) (sym (append_assoc one other behind))
        (first.ends (other ++ behind) returns verdict end
        ((second first.looked_at).ends behind returns verdict end
        (subst (λ (logs : List LogLine). Follows walked.decided (Ends rules leaving [] behind returns (record now { logs = logs; looked_at = (second first.looked_at).looked_at })) (record now { logs = logs; looked_at = (second first.looked_at).looked_at }) verdict end)
        (sym (append_assoc now.logs lines walked.logs)) follows)));
  }

  -- rules that are a whole chain
  pub whole : (made : List Rule) (now : Moment) (walked : Walked) → Do rules leaving made now walked → ChainDoes rules leaving made now walked
  whole made now walked work = record {
    looked_at = work.looked_at;
    ends = λ returns verdict end follows.
        subst (λ (list : List Rule). Ends rules leaving [] list returns now verdict end) (append-nil made) (work.ends [] returns verdict end follows);
  }

  -- a chain that was jumped to comes back
  back : (behind : List Rule) (returns : List (List Rule)) (decided : Option Verdict) (now : Moment) (verdict : Verdict) (end : Moment)
      → Follows decided (Ends rules leaving [] behind returns now) now verdict end
      → Follows decided (Ends rules leaving [] [] (behind ∷ returns) now) now verdict end
  back behind returns None now verdict end follows = comes_back follows
  back behind returns (Some chosen) now verdict end follows = follows

  -- a rule that jumps to a chain does what the chain does
  pub jump_does : (name : List ℕ) (made : List Rule) (now : Moment) (walked : Walked)
      → chain_of rules.chains name ≡ Some (chain_named name made)
      → ChainDoes rules leaving made (looking now) walked
      → Do rules leaving (jump_to name ∷ []) now walked
  jump_does name made now walked found does = record {
    looked_at = does.looked_at;
    ends = λ behind returns verdict end follows.
        looks refl (jumps found (does.ends (behind ∷ returns) verdict end
        (back behind returns walked.decided (behind_lines walked.logs does.looked_at now) verdict end follows)));
  }

  -- and so does any statement that does
  pub jump_is : (name : List ℕ) (made : List Rule) (now : Moment) (walked : Walked)
      → chain_of rules.chains name ≡ Some (chain_named name made)
      → ChainDoes rules leaving made now walked
      → JumpIs rules leaving now name walked
  jump_is name made now walked found does = record {
    looked_at = does.looked_at;
    ends = λ others behind returns verdict end follows.
        jumps found (does.ends (behind ∷ returns) verdict end
        (back behind returns walked.decided (behind_lines walked.logs does.looked_at now) verdict end follows));
  }

-- Rules one after another, and chains that others jump to.
use Rattle.std.proofs.Common.{◌≡◌, ℕ, Bool, true, false, List, [], ◌∷◌, ◌++◌, Option, Some, refl, sym, subst, append-nil, append_assoc}
use Rattle.fw_model.specs.declared.outcome.Verdict.{Verdict}
use Rattle.fw_verdict.specs.Changes.{ChangeItem, Passing, Reached, and_on, reached_by, through}
use Rattle.lower_outside.specs.Does.{JumpReaches, Onward, Reach, moment_of, passing_of}
use Rattle.lower_outside.specs.Work.{ChainReaches}
use Rattle.lower_zone.specs.Forms.{chain_named, jump_to}
use Rattle.nf_chains.specs.Evaluation.{Ends}
use Rattle.nf_chains.specs.Evaluation.Ends.{comes_back, jumps, looks}
use Rattle.nf_chains.specs.Moments.{Moment, looking}
use Rattle.nf_rules.specs.declared.ruleset.Ruleset.{Ruleset}
use Rattle.nf_rules.specs.declared.rule.Rule.{Rule}
use Rattle.nf_sound.specs.Names.{chain_of}

-- of three walks, one after another
on_and_on : (now : Passing) (over : Bool) (one both other : Passing → Reached)
    → ((next : Passing) → both next ≡ and_on (one next) other)
    → and_on (record { now = now; over = over }) both ≡ and_on (and_on (record { now = now; over = over }) one) other
on_and_on now true one both other same = refl
on_and_on now false one both other same = same now

-- two lists of items, one behind the other
pub through_append : (one other : List ChangeItem) (now : Passing) → through (one ++ other) now ≡ and_on (through one now) (through other)
through_append [] other now = refl
through_append (item ∷ items) other now =
    on_and_on (reached_by item now).now (reached_by item now).over (through items) (through (items ++ other)) (through other) (through_append items other)

-- an item alone
alone : (now : Passing) (over : Bool) → and_on (record { now = now; over = over }) (through []) ≡ record { now = now; over = over }
alone now true = refl
alone now false = refl

pub through_one : (item : ChangeItem) (now : Passing) → through (item ∷ []) now ≡ reached_by item now
through_one item now = alone (reached_by item now).now (reached_by item now).over

module _ (rules : Ruleset) (leaving : Option (List ℕ)) where
  -- no rule does nothing
  pub nothing_reached : (now : Moment) → Reach rules leaving [] now (through [] (passing_of now))
  nothing_reached now = record { looked_at = now.looked_at; ends = λ behind returns verdict end follows. follows }

  -- rules before others
  pub both_reach : (one other : List Rule) (now : Moment) (next : Passing) (over : Bool) (later : Passing → Reached)
      → Reach rules leaving one now (record { now = next; over = over })
      → ((count : ℕ) → Reach rules leaving other (moment_of next count) (later next))
      → Reach rules leaving (one ++ other) now (and_on (record { now = next; over = over }) later)
  both_reach one other now next true later first second = record {
    looked_at = first.looked_at;
    ends = λ behind returns verdict end follows.
        subst (λ (list : List Rule). Ends rules leaving [] list returns now verdict end) (sym (append_assoc one other behind))
        (first.ends (other ++ behind) returns verdict end follows);
  }
  both_reach one other now next false later first second = record {
    looked_at = (second first.looked_at).looked_at;
    ends = λ behind returns verdict end follows.
        subst (λ (list : List Rule). Ends rules leaving [] list returns now verdict end) (sym (append_assoc one other behind))
        (first.ends (other ++ behind) returns verdict end ((second first.looked_at).ends behind returns verdict end follows));
  }

  -- rules that are a whole chain
  pub whole : (made : List Rule) (now : Moment) (reached : Reached) → Reach rules leaving made now reached → ChainReaches rules leaving made now reached
  whole made now reached work = record {
    looked_at = work.looked_at;
    ends = λ returns verdict end follows.
        subst (λ (list : List Rule). Ends rules leaving [] list returns now verdict end) (append-nil made) (work.ends [] returns verdict end follows);
  }

  -- a chain that was jumped to comes back
  back : (behind : List Rule) (returns : List (List Rule)) (over : Bool) (now : Moment) (verdict : Verdict) (end : Moment)
      → Onward over (Ends rules leaving [] behind returns now) now verdict end
      → Onward over (Ends rules leaving [] [] (behind ∷ returns) now) now verdict end
  back behind returns false now verdict end follows = comes_back follows
  back behind returns true now verdict end follows = follows

  -- a rule that jumps to a chain does what the chain does
  pub jump_reaches : (name : List ℕ) (made : List Rule) (now : Moment) (reached : Reached)
      → chain_of rules.chains name ≡ Some (chain_named name made)
      → ChainReaches rules leaving made (looking now) reached
      → Reach rules leaving (jump_to name ∷ []) now reached
  jump_reaches name made now reached found does = record {
    looked_at = does.looked_at;
    ends = λ behind returns verdict end follows.
        looks refl (jumps found (does.ends (behind ∷ returns) verdict end
        (back behind returns reached.over (moment_of reached.now does.looked_at) verdict end follows)));
  }

  -- and so does any statement that does
  pub jump_is : (name : List ℕ) (made : List Rule) (now : Moment) (reached : Reached)
      → chain_of rules.chains name ≡ Some (chain_named name made)
      → ChainReaches rules leaving made now reached
      → JumpReaches rules leaving now name reached
  jump_is name made now reached found does = record {
    looked_at = does.looked_at;
    ends = λ others behind returns verdict end follows.
        jumps found (does.ends (behind ∷ returns) verdict end
        (back behind returns reached.over (moment_of reached.now does.looked_at) verdict end follows));
  }

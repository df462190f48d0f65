-- What the rules for alternatives do.
use Rattle.std.proofs.Common.{◌≡◌, ◌≤◌, ℕ, suc, Bool, true, false, ◌||◌, List, [], ◌∷◌, ◌++◌, length, Option, refl, sym, subst, arith}
use Rattle.std.specs.Prelude.{if◌then◌else◌}
use Rattle.std.specs.List.{list_all}
use Rattle.fw_model.specs.declared.outcome.Verdict.{Verdict}
use Rattle.fw_model.specs.declared.outcome.Verdict.TheVariants.{Accept}
use Rattle.fw_model.specs.declared.packet.Packet.{Packet}
use Rattle.fw_verdict.specs.Changes.{Change, Passing, Reached, changed, ends, going_on}
use Rattle.fw_verdict.specs.Changes.Change.{log, mark, masquerade, translate}
use Rattle.lower_outside.specs.Does.{FromThere, Reach, moment_of, passing_of}
use Rattle.lower_outside.specs.Steps.{statement_of}
use Rattle.lower_outside.specs.Work.{ChainReaches, once_rules}
use Rattle.lower_outside.proofs.Sequences.{nothing_reached}
use Rattle.lower_zone.specs.Forms.{each}
use Rattle.lower_zone.specs.Work.{one_holds_at}
use Rattle.nf_chains.specs.Evaluation.{Ends}
use Rattle.nf_chains.specs.Evaluation.Ends.{logs as logged, marks, masquerades, translates, looks, looks_past, returns as goes_back}
use Rattle.nf_chains.specs.Marks.{can_translate}
use Rattle.nf_chains.specs.Moments.{Moment, looking}
use Rattle.nf_chains.specs.Tests.{match_at}
use Rattle.nf_rules.specs.declared.rule.Match.{Match}
use Rattle.nf_rules.specs.declared.ruleset.Ruleset.{Ruleset}
use Rattle.nf_rules.specs.declared.rule.Rule.{Rule}
use Rattle.nf_rules.specs.declared.statement.Stmt.{Stmt}

-- a change under a condition
abbrev pub reached_where : Bool → Change → Passing → Reached
reached_where hit change now = if hit then record { now = changed change now; over = ends change } else going_on now

-- a change that can be made of a packet
abbrev pub can_make : Change → Packet → Bool
can_make (log line) packet = true
can_make (mark value mask) packet = true
can_make (translate dnat) packet = can_translate dnat packet
can_make masquerade packet = true

module _ (rules : Ruleset) (leaving : Option (List ℕ)) where
  -- the statement of a change, behind which the walk goes on
  goes_on : (change : Change) (now : Moment) (others : List Stmt) (behind : List Rule) (returns : List (List Rule)) (verdict : Verdict) (end : Moment)
      → ends change ≡ false
      → Ends rules leaving others behind returns (moment_of (changed change (passing_of now)) now.looked_at) verdict end
      → Ends rules leaving (statement_of change ∷ others) behind returns now verdict end
  goes_on (log line) now others behind returns verdict end goes next = logged next
  goes_on (mark value mask) now others behind returns verdict end goes next = marks next
  goes_on (translate dnat) now others behind returns verdict end goes next = cc
  goes_on masquerade now others behind returns verdict end goes next = cc

  -- and one that ends it
  stops : (change : Change) (now : Moment) (others : List Stmt) (behind : List Rule) (returns : List (List Rule))
      → ends change ≡ true
      → can_make change now.packet ≡ true
      → Ends rules leaving (statement_of change ∷ others) behind returns now Accept (moment_of (changed change (passing_of now)) now.looked_at)
  stops (log line) now others behind returns last can = cc
  stops (mark value mask) now others behind returns last can = cc
  stops (translate dnat) now others behind returns last can = translates can
  stops masquerade now others behind returns last can = masquerades

  abbrev holds : Moment → List Match → Bool
  holds now matches = list_all (match_at leaving rules.sets now.packet) matches

  -- what follows, where it is known whether the walk is over
  follows_so : (behind : List Rule) (returns : List (List Rule)) (next : Passing) (count : ℕ) (one other : Bool) (verdict : Verdict) (end : Moment)
      → one ≡ other
      → FromThere rules leaving behind returns (record { now = next; over = one }) count verdict end
      → FromThere rules leaving behind returns (record { now = next; over = other }) count verdict end
  follows_so behind returns next count one other verdict end same follows =
      subst (λ (over : Bool). FromThere rules leaving behind returns (record { now = next; over = over }) count verdict end) same follows

  one_changes : (change : Change) (alternative : List Match) (now : Moment) (hit : Bool)
      → ends change ≡ false
      → holds now alternative ≡ hit
      → Reach rules leaving (each (statement_of change ∷ []) (alternative ∷ [])) now (reached_where (hit || false) change (passing_of now))
  one_changes change alternative now true goes is = record {
    looked_at = suc now.looked_at;
    ends = λ behind returns verdict end follows.
        looks is (goes_on change (looking now) [] behind returns verdict end goes
        (follows_so behind returns (changed change (passing_of now)) (suc now.looked_at) (ends change) false verdict end goes follows));
  }
  one_changes change alternative now false goes is = record {
    looked_at = suc now.looked_at;
    ends = λ behind returns verdict end follows. looks_past is follows;
  }

  -- A rule that changes something, for one alternative at most.
  pub alone_changes : (change : Change) (alternatives : List (List Match)) (now : Moment)
      → ends change ≡ false
      → length alternatives ≤ 1
      → Reach rules leaving (each (statement_of change ∷ []) alternatives) now (reached_where (one_holds_at leaving rules now.packet alternatives) change (passing_of now))
  alone_changes change [] now goes few = nothing_reached rules leaving now
  alone_changes change (alternative ∷ []) now goes few = one_changes change alternative now (holds now alternative) goes refl
  alone_changes change (alternative ∷ other ∷ others) now goes few = absurd (omega (arith, few))

  one_more_once : (change : Change) (alternative : List Match) (others : List (List Match)) (now : Moment) (hit later : Bool)
      → ends change ≡ false
      → holds now alternative ≡ hit
      → ChainReaches rules leaving (once_rules (statement_of change) others) (looking now) (reached_where later change (passing_of now))
      → ChainReaches rules leaving (once_rules (statement_of change) (alternative ∷ others)) now (reached_where (hit || later) change (passing_of now))
  one_more_once change alternative others now true later goes is rest = record {
    looked_at = suc now.looked_at;
    ends = λ returns verdict end follows.
        looks is (goes_on change (looking now) _ (once_rules (statement_of change) others) returns verdict end goes
        (goes_back (follows_so [] returns (changed change (passing_of now)) (suc now.looked_at) (ends change) false verdict end goes follows)));
  }
  one_more_once change alternative others now false later goes is rest = record {
    looked_at = rest.looked_at;
    ends = λ returns verdict end follows. looks_past is (rest.ends returns verdict end follows);
  }

  -- A chain that changes something, and goes back from the first alternative that is met.
  pub chain_changes : (change : Change) (alternatives : List (List Match)) (now : Moment)
      → ends change ≡ false
      → ChainReaches rules leaving (once_rules (statement_of change) alternatives) now (reached_where (one_holds_at leaving rules now.packet alternatives) change (passing_of now))
  chain_changes change [] now goes = record { looked_at = now.looked_at; ends = λ returns verdict end follows. follows }
  chain_changes change (alternative ∷ others) now goes =
      one_more_once change alternative others now (holds now alternative) (one_holds_at leaving rules now.packet others) goes refl
      (chain_changes change others (looking now) goes)

  one_more_ends : (change : Change) (alternative : List Match) (others : List (List Match)) (now : Moment) (hit later : Bool)
      → ends change ≡ true
      → ((hit || later) ≡ true → can_make change now.packet ≡ true)
      → holds now alternative ≡ hit
      → ((later ≡ true → can_make change now.packet ≡ true) → Reach rules leaving (each (statement_of change ∷ []) others) (looking now) (reached_where later change (passing_of now)))
      → Reach rules leaving (each (statement_of change ∷ []) (alternative ∷ others)) now (reached_where (hit || later) change (passing_of now))
  one_more_ends change alternative others now true later last can is rest = record {
    looked_at = suc now.looked_at;
    ends = λ behind returns verdict end follows.
        let there = follows_so behind returns (changed change (passing_of now)) (suc now.looked_at) (ends change) true verdict end last follows in
        looks is
        (subst (λ (one : Verdict). Ends rules leaving (statement_of change ∷ []) (each (statement_of change ∷ []) others ++ behind) returns (looking now) one end) (sym there.0)
        (subst (λ (one : Moment). Ends rules leaving (statement_of change ∷ []) (each (statement_of change ∷ []) others ++ behind) returns (looking now) Accept one) (sym there.1)
        (stops change (looking now) [] (each (statement_of change ∷ []) others ++ behind) returns last (can refl))));
  }
  one_more_ends change alternative others now false later last can is rest = record {
    looked_at = (rest can).looked_at;
    ends = λ behind returns verdict end follows. looks_past is ((rest can).ends behind returns verdict end follows);
  }

  -- Rules that end the walk of what meets one of the alternatives.
  pub each_ends : (change : Change) (alternatives : List (List Match)) (now : Moment)
      → ends change ≡ true
      → (one_holds_at leaving rules now.packet alternatives ≡ true → can_make change now.packet ≡ true)
      → Reach rules leaving (each (statement_of change ∷ []) alternatives) now (reached_where (one_holds_at leaving rules now.packet alternatives) change (passing_of now))
  each_ends change [] now last can = nothing_reached rules leaving now
  each_ends change (alternative ∷ others) now last can =
      one_more_ends change alternative others now (holds now alternative) (one_holds_at leaving rules now.packet others) last can refl
      (λ can_later. each_ends change others (looking now) last can_later)

-- Each step follows one name more, or one link further.
use Rattle.std.proofs.Common.{◌≡◌, ◌-◌, ◌<◌, List, inl, length, refl, subst, arith, rules}
use Rattle.std.specs.List.{flat_map}
use Rattle.std.proofs.lemmas.Option.{slice_get_read, slice_get_within}
use Rattle.nf_rules.specs.declared.rule.Rule.{Rule}
use Rattle.nf_sound.specs.Links.{LeadsOn, MostLinks}
use Rattle.nf_sound.specs.Sound.Path.{stays}
use Rattle.nf_sound.specs.Targets.{rule_targets, targets}
use Rattle.nf_sound.proofs.Paths.{at_most_longest, knows_more, leads_among, leads_further, leads_name, most_astray, most_further, most_more, most_name, not_past}
use Rattle.nf_sound.proofs.links.+links.Goals as goal
use Rattle.nf_sound.proofs.links.+links.Goals.{links_of_statement-in-Some+in_ok-links, links_of_statement-in_default}

pub links_from-returns-in-Some-clause-links : goal.links_from-returns-in-Some-clause-links
links_from-returns-in-Some-clause-links t c =
    λ chain at. at_most_longest c.args.rules.now (rule_targets c.args.rules.now.maps chain.rules) c.in-Some.links c.args.left c.at_most.result
    c.at_most.ensures (c.requires.knows.is c.args.place c.in-Some.links chain c.in-Some.ensures at)

pub links_from-returns-in_err-links-clause-links : goal.links_from-returns-in_err-links-clause-links
links_from-returns-in_err-links-clause-links t c = λ chain at.
    rw c.from_residual.ensures (subst (λ (list : List Rule). LeadsOn c.args.rules.now (rule_targets c.args.rules.now.maps list) c.args.left) (c.rules_at.ensures chain at) c.in_err-links.ensures.links)

pub links_from-returns-clause-knows : goal.links_from-returns-clause-knows
links_from-returns-clause-knows t c =
    rw c.note.ensures (knows_more c.args.rules.now c.links_of_rules.new.known c.args.place c.in_ok-links.links c.in_ok-links.ensures.knows
    (λ chain at. subst (λ (list : List Rule). MostLinks c.args.rules.now (rule_targets c.args.rules.now.maps list) c.in_ok-links.links) (c.rules_at.ensures chain at) c.in_ok-links.ensures.links.1))

pub links_from-returns-clause-links : goal.links_from-returns-clause-links
links_from-returns-clause-links t c = λ chain at.
    (c.in_ok-links.ensures.links.0, subst (λ (list : List Rule). MostLinks c.args.rules.now (rule_targets c.args.rules.now.maps list) c.in_ok-links.links) (c.rules_at.ensures chain at) c.in_ok-links.ensures.links.1)

pub links_of_rules-returns-in_err-links-clause-links : goal.links_of_rules-returns-in_err-links-clause-links
links_of_rules-returns-in_err-links-clause-links t c =
    let within : c.loop-rule.rule-index < length c.args.list.now = omega arith in
    let at = slice_get_read c.args.list.now _ c.loop-rule.rule-index c.rule-item.result refl within c.rule-item.is in
    let leads : LeadsOn c.args.rules.now (flat_map (targets c.args.rules.now.maps) c.rule-item.result.stmts) c.args.left = rw c.as_slice.ensures at c.in_err-links.ensures.links in
    rw c.from_residual.ensures (leads_among c.args.rules.now (λ rule. flat_map (targets c.args.rules.now.maps) rule.stmts) c.args.list.now c.loop-rule.rule-index c.rule-item.result c.args.left at leads)

pub links_of_rules-loop-rule-preserved : goal.links_of_rules-loop-rule-preserved
links_of_rules-loop-rule-preserved t c =
    let within : c.loop-rule.rule-index < length c.args.list.now = omega arith in
    let at = slice_get_read c.args.list.now _ c.loop-rule.rule-index c.rule-item.result refl within c.rule-item.is in
    let most : MostLinks c.args.rules.now (flat_map (targets c.args.rules.now.maps) c.rule-item.result.stmts) c.in_ok-links.links = rw c.as_slice.ensures at c.in_ok-links.ensures.links.1 in
    record {
      knows = c.in_ok-links.ensures.knows;
      within = omega (arith, c.max-most.ensures, c.in_ok-links.ensures.links.0, c.loop-rule.invariant.within);
      all = rw c.max-most.ensures (most_more c.args.rules.now (λ rule. flat_map (targets c.args.rules.now.maps) rule.stmts) c.args.list.now c.loop-rule.rule-index c.rule-item.result c.loop-rule.most c.in_ok-links.links at c.loop-rule.invariant.all most);
    }

pub links_of_statements-returns-in_err-links-clause-links : goal.links_of_statements-returns-in_err-links-clause-links
links_of_statements-returns-in_err-links-clause-links t c =
    let within : c.loop-statement.statement-index < length c.args.statements.now = omega arith in
    let at = slice_get_read c.args.statements.now _ c.loop-statement.statement-index c.statement-item.result refl within c.statement-item.is in
    rw c.from_residual.ensures (leads_among c.args.rules.now (targets c.args.rules.now.maps) c.args.statements.now c.loop-statement.statement-index c.statement-item.result c.args.left at c.in_err-links.ensures.links)

pub links_of_statements-loop-statement-preserved : goal.links_of_statements-loop-statement-preserved
links_of_statements-loop-statement-preserved t c =
    let within : c.loop-statement.statement-index < length c.args.statements.now = omega arith in
    let at = slice_get_read c.args.statements.now _ c.loop-statement.statement-index c.statement-item.result refl within c.statement-item.is in
    record {
      knows = c.in_ok-links.ensures.knows;
      within = omega (arith, c.max-most.ensures, c.in_ok-links.ensures.links.0, c.loop-statement.invariant.within);
      all = rw c.max-most.ensures (most_more c.args.rules.now (targets c.args.rules.now.maps) c.args.statements.now c.loop-statement.statement-index c.statement-item.result c.loop-statement.most c.in_ok-links.links at c.loop-statement.invariant.all c.in_ok-links.ensures.links.1);
    }

pub links_of_statement-returns-in_err-links-clause-links : goal.links_of_statement-returns-in_err-links-clause-links
links_of_statement-returns-in_err-links-clause-links t c =
    rw c.from_residual.ensures
    (leads_name c.args.rules.now (targets c.args.rules.now.maps c.args.statement.now) c.loop-at.at c.in-Some.name.now c.args.left c.in-Some.ensures c.in_err-links.ensures.links)

pub links_of_statement-loop-at-preserved : goal.links_of_statement-loop-at-preserved
links_of_statement-loop-at-preserved t c = elim c.match-target.branch [
  | links_of_statement-in-Some+in_ok-links w ↦ record {
    knows = rw w.known-is w.in_ok-links.ensures.knows;
    within = omega (arith, w.most-is, w.max-most.ensures, w.in_ok-links.ensures.links.0, c.loop-at.invariant.within);
    all = rw (w.most-is, w.max-most.ensures) (most_name c.args.rules.now (targets c.args.rules.now.maps c.args.statement.now) c.loop-at.at w.in-Some.name.now c.loop-at.most w.in_ok-links.links w.in-Some.ensures c.loop-at.invariant.all w.in_ok-links.ensures.links.1);
  }
  | links_of_statement-in_default w ↦ absurd (not_past (targets c.args.rules.now.maps c.args.statement.now) c.loop-at.at (omega (arith, c.loop-at-test.true, c.target_count-at-end.ensures)) w.in_default.ensures)
]

pub links_to-returns-then-left-eq0-clause-links : goal.links_to-returns-then-left-eq0-clause-links
links_to-returns-then-left-eq0-clause-links t c =
    record { to = c.args.name.now; among = inl refl; path = (let zero : c.args.left ≡ 0 = c.if-left-eq0.true in rw zero stays) }

pub links_to-links_from-requires : goal.links_to-links_from-requires
links_to-links_from-requires t c =
    (search rules, (search rules, (slice_get_within c.args.rules.now.chains c.in-Some.place c.in-Some.ensures.item c.in-Some.ensures.at, search rules)))

pub links_to-returns-in_err-links_from-in-Some-clause-links : goal.links_to-returns-in_err-links_from-in-Some-clause-links
links_to-returns-in_err-links_from-in-Some-clause-links t c =
    rw c.from_residual.ensures
    (leads_further c.args.rules.now c.args.name.now c.in-Some.ensures.item (c.args.left - 1) c.args.left (omega arith) c.in-Some.ensures.found
    (c.in_err-links_from-in-Some.ensures.links c.in-Some.ensures.item c.in-Some.ensures.at))

pub links_to-returns-in_ok-links_from-in-Some-clause-links : goal.links_to-returns-in_ok-links_from-in-Some-clause-links
links_to-returns-in_ok-links_from-in-Some-clause-links t c =
    let there = c.in_ok-links_from-in-Some.ensures.links c.in-Some.ensures.item c.in-Some.ensures.at in
    let within = there.0 in
    (omega arith, most_further c.args.rules.now c.args.name.now c.in-Some.ensures.item c.in_ok-links_from-in-Some.field-0 c.in-Some.ensures.found there.1)

pub links_to-returns-in-None-clause-links : goal.links_to-returns-in-None-clause-links
links_to-returns-in-None-clause-links t c = (omega arith, most_astray c.args.rules.now c.args.name.now c.in-None.ensures)

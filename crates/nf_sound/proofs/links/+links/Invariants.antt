-- Each call is one with fewer links left, or with as many for a part of what is walked.
use Rattle.std.proofs.Common.{◌+◌, ◌*◌, take}
use Rattle.std.specs.List.{flat_map}
use Rattle.nf_sound.proofs.Paths.{HasFollowed}
use Rattle.nf_sound.specs.Targets.{rule_targets, targets}
use Rattle.nf_sound.proofs.links.+links.Given as goal

abbrev pub decreases-links_from : goal.decreases-links_from
decreases-links_from l = 5 * l.left + 4

abbrev pub decreases-links_of_rules : goal.decreases-links_of_rules
decreases-links_of_rules l = 5 * l.left + 3

abbrev pub decreases-links_of_statements : goal.decreases-links_of_statements
decreases-links_of_statements l = 5 * l.left + 2

abbrev pub decreases-links_of_statement : goal.decreases-links_of_statement
decreases-links_of_statement l = 5 * l.left + 1

abbrev pub decreases-links_to : goal.decreases-links_to
decreases-links_to l = 5 * l.left

abbrev pub invariant-links_of_rules-loop-rule : goal.invariant-links_of_rules-loop-rule
invariant-links_of_rules-loop-rule l = HasFollowed l.rules l.known (rule_targets l.rules.maps (take l.rule-index l.list)) l.left l.most

abbrev pub invariant-links_of_statements-loop-statement : goal.invariant-links_of_statements-loop-statement
invariant-links_of_statements-loop-statement l =
    HasFollowed l.rules l.known (flat_map (targets l.rules.maps) (take l.statement-index l.statements)) l.left l.most

abbrev pub invariant-links_of_statement-loop-at : goal.invariant-links_of_statement-loop-at
invariant-links_of_statement-loop-at l = HasFollowed l.rules l.known (take l.at (targets l.rules.maps l.statement)) l.left l.most

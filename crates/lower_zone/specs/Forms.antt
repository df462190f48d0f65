-- The rules that are made of alternatives, each of matches that must all hold.
use Rattle.std.specs.Prelude.{ℕ, List, [], ◌∷◌, ◌++◌, map, false, Option, None, Some}
use Rattle.fw_addr.specs.Protocols.{icmp_protocol, icmpv6_protocol}
use Rattle.fw_addr.specs.declared.limit.Limit.{Limit}
use Rattle.fw_addr.specs.declared.log.LogLine.{LogLine}
use Rattle.fw_addr.specs.declared.reject.RejectType.TheVariants.{IcmpxAdminProhibited}
use Rattle.fw_model.specs.declared.outcome.Verdict.{Verdict}
use Rattle.fw_model.specs.declared.outcome.Verdict.TheVariants as verdict
use Rattle.nf_rules.specs.declared.chain.Chain.{Chain}
use Rattle.nf_rules.specs.declared.rule.Match.{Match}
use Rattle.nf_rules.specs.declared.rule.Rule.{Rule}
use Rattle.nf_rules.specs.declared.statement.Stmt.{Stmt}
use Rattle.nf_rules.specs.declared.statement.Stmt.TheVariants as stmt
use Rattle.nf_rules.specs.declared.test.Test.{Test}
use Rattle.nf_rules.specs.declared.test.Test.TheVariants as test

-- a test that must hold
abbrev pub is : Test → Match
is asked = record { not = false; test = asked }

-- a limit is a test as others are (nft(8), LIMIT STATEMENT)
abbrev pub limit_matches : Option Limit → List Match
limit_matches None = []
limit_matches (Some limit) = is (test.Limit limit) ∷ []

-- alternatives, each within a limit
abbrev pub limited : Option Limit → List (List Match) → List (List Match)
limited limit alternatives = map (λ alternative. alternative ++ limit_matches limit) alternatives

-- a rule for each alternative
abbrev pub each : List Stmt → List (List Match) → List Rule
each statements alternatives = map (λ alternative. record { matches = alternative; stmts = statements }) alternatives

abbrev pub statement : Verdict → Stmt
statement verdict.Accept = stmt.Accept
statement verdict.Drop = stmt.Drop
statement (verdict.Reject kind) = stmt.Reject kind

-- a rule that jumps to a chain
abbrev pub jump_to : List ℕ → Rule
jump_to name = record { matches = []; stmts = stmt.Jump name ∷ [] }

-- a chain that runs only where a rule leads to it
abbrev pub chain_named : List ℕ → List Rule → Chain
chain_named name rules = record { name = name; base = None; rules = rules }

-- A line, once: what meets one alternative goes back.
abbrev pub line_rules : LogLine → List (List Match) → List Rule
line_rules line alternatives = each (stmt.Log line ∷ stmt.Return ∷ []) alternatives

-- the alternatives of ICMP and of ICMPv6
abbrev pub icmp_alternatives : List (List Match)
icmp_alternatives = (is (test.Proto icmp_protocol) ∷ []) ∷ (is (test.Proto icmpv6_protocol) ∷ []) ∷ []

-- ICMP is rejected, but what meets one of the alternatives goes back
abbrev pub other_icmp_rules : List (List Match) → List Rule
other_icmp_rules listed = each (stmt.Return ∷ []) listed ++ each (stmt.Reject IcmpxAdminProhibited ∷ []) icmp_alternatives

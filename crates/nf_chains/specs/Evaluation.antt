-- The way of a packet through a base chain and the chains that it leads to (nft(8), "CHAINS", "RULES" and "VERDICT STATEMENTS").
use Rattle.std.specs.Prelude.{◌≡◌, ℕ, List, [], ◌∷◌, true, false, Option, None, Some}
use Rattle.std.specs.List.{list_all}
use Rattle.fw_addr.specs.declared.dnat.Dnat.{Dnat}
use Rattle.fw_addr.specs.declared.log.LogLine.{LogLine}
use Rattle.fw_addr.specs.declared.reject.RejectType.{RejectType}
use Rattle.fw_model.specs.declared.outcome.Verdict.{Verdict}
use Rattle.fw_model.specs.declared.outcome.Verdict.TheVariants as verdict
use Rattle.nf_chains.specs.Maps.{led_dst, led_in, led_out, led_src}
use Rattle.nf_chains.specs.Marks.{can_translate}
use Rattle.nf_chains.specs.Rejects.{can_reject}
use Rattle.nf_rules.specs.declared.chain.Chain.{Chain}
use Rattle.nf_rules.specs.declared.ruleset.Ruleset.{Ruleset}
use Rattle.nf_rules.specs.declared.rule.Rule.{Rule}
use Rattle.nf_rules.specs.declared.statement.Stmt.{Stmt}
use Rattle.nf_rules.specs.declared.statement.Stmt.TheVariants as stmt
use Rattle.nf_sound.specs.Names.{chain_of}
use Rattle.nf_chains.specs.Moments.{Moment, logging, looking, marking, masquerading, translating}
use Rattle.nf_chains.specs.Tests.{match_at}

-- Where a packet is in a base chain: the statements that are left of the rule that it is in, the rules behind that in its chain,
-- and the stack of returns, each the rules behind a jump that it is in. From there, at a moment, it ends with a verdict and
-- another moment.
pub data Ends (rules : Ruleset) (leaving : Option (List ℕ)) : List Stmt → List Rule → List (List Rule) → Moment → Verdict → Moment → Type 0 where
  -- a statement that decides ends the base chain
  accepts : {others : List Stmt} {behind : List Rule} {returns : List (List Rule)} {now : Moment}
      → Ends rules leaving (stmt.Accept ∷ others) behind returns now verdict.Accept now
  drops : {others : List Stmt} {behind : List Rule} {returns : List (List Rule)} {now : Moment}
      → Ends rules leaving (stmt.Drop ∷ others) behind returns now verdict.Drop now
  rejects : {kind : RejectType} {others : List Stmt} {behind : List Rule} {returns : List (List Rule)} {now : Moment}
      → can_reject kind now.packet ≡ true
      → Ends rules leaving (stmt.Reject kind ∷ others) behind returns now (verdict.Reject kind) now
  -- a reset of what isn't TCP does nothing
  passes_over : {kind : RejectType} {others : List Stmt} {behind : List Rule} {returns : List (List Rule)} {now end : Moment} {verdict : Verdict}
      → can_reject kind now.packet ≡ false
      → Ends rules leaving others behind returns now verdict end
      → Ends rules leaving (stmt.Reject kind ∷ others) behind returns now verdict end
  -- a line is logged, and the next statement goes on
  logs : {line : LogLine} {others : List Stmt} {behind : List Rule} {returns : List (List Rule)} {now end : Moment} {verdict : Verdict}
      → Ends rules leaving others behind returns (logging line now) verdict end
      → Ends rules leaving (stmt.Log line ∷ others) behind returns now verdict end
  -- a jump returns to the rule behind it
  jumps : {name : List ℕ} {chain : Chain} {others : List Stmt} {behind : List Rule} {returns : List (List Rule)} {now end : Moment} {verdict : Verdict}
      → chain_of rules.chains name ≡ Some chain
      → Ends rules leaving [] chain.rules (behind ∷ returns) now verdict end
      → Ends rules leaving (stmt.Jump name ∷ others) behind returns now verdict end
  -- a goto adds no place to return to
  goes : {name : List ℕ} {chain : Chain} {others : List Stmt} {behind : List Rule} {returns : List (List Rule)} {now end : Moment} {verdict : Verdict}
      → chain_of rules.chains name ≡ Some chain
      → Ends rules leaving [] chain.rules returns now verdict end
      → Ends rules leaving (stmt.Goto name ∷ others) behind returns now verdict end
  -- a mark is set, and the next statement goes on
  marks : {value mask : ℕ} {others : List Stmt} {behind : List Rule} {returns : List (List Rule)} {now end : Moment} {verdict : Verdict}
      → Ends rules leaving others behind returns (marking value mask now) verdict end
      → Ends rules leaving (stmt.Mark value mask ∷ others) behind returns now verdict end
  -- a translation of the destination ends the base chain, and lets the packet on
  translates : {dnat : Dnat} {others : List Stmt} {behind : List Rule} {returns : List (List Rule)} {now : Moment}
      → can_translate dnat now.packet ≡ true
      → Ends rules leaving (stmt.DnatTo dnat ∷ others) behind returns now verdict.Accept (translating dnat now)
  -- one to an address of the other family does nothing
  translates_nothing : {dnat : Dnat} {others : List Stmt} {behind : List Rule} {returns : List (List Rule)} {now end : Moment} {verdict : Verdict}
      → can_translate dnat now.packet ≡ false
      → Ends rules leaving others behind returns now verdict end
      → Ends rules leaving (stmt.DnatTo dnat ∷ others) behind returns now verdict end
  -- so does that of the source to the host's own address
  masquerades : {others : List Stmt} {behind : List Rule} {returns : List (List Rule)} {now : Moment}
      → Ends rules leaving (stmt.Masquerade ∷ others) behind returns now verdict.Accept (masquerading now)
  -- a map leads on as a goto does, by the interface that the packet came by
  leads_in : {map name : List ℕ} {chain : Chain} {others : List Stmt} {behind : List Rule} {returns : List (List Rule)} {now end : Moment} {verdict : Verdict}
      → led_in rules now.packet map ≡ Some name
      → chain_of rules.chains name ≡ Some chain
      → Ends rules leaving [] chain.rules returns now verdict end
      → Ends rules leaving (stmt.VmapIn map ∷ others) behind returns now verdict end
  -- where it has no key for that, the next statement goes on
  misses_in : {map : List ℕ} {others : List Stmt} {behind : List Rule} {returns : List (List Rule)} {now end : Moment} {verdict : Verdict}
      → led_in rules now.packet map ≡ None
      → Ends rules leaving others behind returns now verdict end
      → Ends rules leaving (stmt.VmapIn map ∷ others) behind returns now verdict end
  -- by the interface that it leaves by
  leads_out : {map name : List ℕ} {chain : Chain} {others : List Stmt} {behind : List Rule} {returns : List (List Rule)} {now end : Moment} {verdict : Verdict}
      → led_out rules leaving map ≡ Some name
      → chain_of rules.chains name ≡ Some chain
      → Ends rules leaving [] chain.rules returns now verdict end
      → Ends rules leaving (stmt.VmapOut map ∷ others) behind returns now verdict end
  misses_out : {map : List ℕ} {others : List Stmt} {behind : List Rule} {returns : List (List Rule)} {now end : Moment} {verdict : Verdict}
      → led_out rules leaving map ≡ None
      → Ends rules leaving others behind returns now verdict end
      → Ends rules leaving (stmt.VmapOut map ∷ others) behind returns now verdict end
  -- by its source
  leads_src : {map name : List ℕ} {chain : Chain} {others : List Stmt} {behind : List Rule} {returns : List (List Rule)} {now end : Moment} {verdict : Verdict}
      → led_src rules now.packet map ≡ Some name
      → chain_of rules.chains name ≡ Some chain
      → Ends rules leaving [] chain.rules returns now verdict end
      → Ends rules leaving (stmt.VmapSrc map ∷ others) behind returns now verdict end
  misses_src : {map : List ℕ} {others : List Stmt} {behind : List Rule} {returns : List (List Rule)} {now end : Moment} {verdict : Verdict}
      → led_src rules now.packet map ≡ None
      → Ends rules leaving others behind returns now verdict end
      → Ends rules leaving (stmt.VmapSrc map ∷ others) behind returns now verdict end
  -- and by its destination
  leads_dst : {map name : List ℕ} {chain : Chain} {others : List Stmt} {behind : List Rule} {returns : List (List Rule)} {now end : Moment} {verdict : Verdict}
      → led_dst rules now.packet map ≡ Some name
      → chain_of rules.chains name ≡ Some chain
      → Ends rules leaving [] chain.rules returns now verdict end
      → Ends rules leaving (stmt.VmapDst map ∷ others) behind returns now verdict end
  misses_dst : {map : List ℕ} {others : List Stmt} {behind : List Rule} {returns : List (List Rule)} {now end : Moment} {verdict : Verdict}
      → led_dst rules now.packet map ≡ None
      → Ends rules leaving others behind returns now verdict end
      → Ends rules leaving (stmt.VmapDst map ∷ others) behind returns now verdict end
  -- a return is the end of its chain
  returns : {others : List Stmt} {behind : List Rule} {returns : List (List Rule)} {now end : Moment} {verdict : Verdict}
      → Ends rules leaving [] [] returns now verdict end
      → Ends rules leaving (stmt.Return ∷ others) behind returns now verdict end
  -- the next rule, where all of its matches hold
  looks : {rule : Rule} {behind : List Rule} {returns : List (List Rule)} {now end : Moment} {verdict : Verdict}
      → list_all (match_at leaving rules.sets now.packet) rule.matches ≡ true
      → Ends rules leaving rule.stmts behind returns (looking now) verdict end
      → Ends rules leaving [] (rule ∷ behind) returns now verdict end
  -- and where one of them doesn't
  looks_past : {rule : Rule} {behind : List Rule} {returns : List (List Rule)} {now end : Moment} {verdict : Verdict}
      → list_all (match_at leaving rules.sets now.packet) rule.matches ≡ false
      → Ends rules leaving [] behind returns (looking now) verdict end
      → Ends rules leaving [] (rule ∷ behind) returns now verdict end
  -- the end of a chain that was jumped to
  comes_back : {back : List Rule} {returns : List (List Rule)} {now end : Moment} {verdict : Verdict}
      → Ends rules leaving [] back returns now verdict end
      → Ends rules leaving [] [] (back ∷ returns) now verdict end
  -- the end of the base chain, whose policy is accept
  ends : {now : Moment}
      → Ends rules leaving [] [] [] now verdict.Accept now

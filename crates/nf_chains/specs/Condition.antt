-- Rules that filter alone: they mark and translate nothing.
use Rattle.std.specs.Prelude.{List, Bool, true, false}
use Rattle.std.specs.List.{list_all}
use Rattle.nf_rules.specs.declared.rule.Rule.{Rule}
use Rattle.nf_rules.specs.declared.statement.Stmt.{Stmt}
use Rattle.nf_rules.specs.declared.statement.Stmt.TheVariants as stmt

-- no mark, translation or masquerade
abbrev pub is_plain : Stmt → Bool
is_plain (stmt.Mark value mask) = false
is_plain (stmt.DnatTo dnat) = false
is_plain stmt.Masquerade = false
is_plain other = true

abbrev pub are_plain : List Rule → Bool
are_plain rules = list_all (λ rule. list_all is_plain rule.stmts) rules

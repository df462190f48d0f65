-- Where rules lead (nft(8), "VERDICT STATEMENTS" and "VERDICT MAPS").
use Rattle.std.specs.Prelude.{ℕ, List, [], ◌∷◌, Option, None, Some, map}
use Rattle.std.specs.List.{flat_map}
use Rattle.nf_rules.specs.declared.map.MapBody.{MapBody}
use Rattle.nf_rules.specs.declared.map.MapBody.TheVariants.{Ifaces, Nets}
use Rattle.nf_rules.specs.declared.map.NfMap.{NfMap}
use Rattle.nf_rules.specs.declared.rule.Rule.{Rule}
use Rattle.nf_rules.specs.declared.statement.Stmt.{Stmt}
use Rattle.nf_rules.specs.declared.statement.Stmt.TheVariants as stmt
use Rattle.nf_sound.specs.Names.{map_of}

-- the chains that a map leads to, one for each key
abbrev pub values : MapBody → List (List ℕ)
values (Ifaces pairs) = map (λ pair. pair.1) pairs
values (Nets pairs) = map (λ pair. pair.1) pairs

abbrev pub map_values : Option NfMap → List (List ℕ)
map_values None = []
map_values (Some found) = values found.body

-- The names of the chains to which a statement may lead. A map leads on for good, as a goto.
abbrev pub targets : List NfMap → Stmt → List (List ℕ)
targets maps (stmt.Jump name) = name ∷ []
targets maps (stmt.Goto name) = name ∷ []
targets maps (stmt.VmapIn name) = map_values (map_of maps name)
targets maps (stmt.VmapOut name) = map_values (map_of maps name)
targets maps (stmt.VmapSrc name) = map_values (map_of maps name)
targets maps (stmt.VmapDst name) = map_values (map_of maps name)
targets maps other = []

-- those to which rules may lead
abbrev pub rule_targets : List NfMap → List Rule → List (List ℕ)
rule_targets maps rules = flat_map (λ rule. flat_map (targets maps) rule.stmts) rules

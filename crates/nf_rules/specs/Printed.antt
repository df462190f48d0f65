-- The printed form of rulesets: the table `inet firewalld` with its sets, maps and chains, each by its command in nft(8).
-- Lines are indented by tabs (9) and end in LF (10).
use Rattle.std.specs.Prelude.{ℕ, List, [], ◌∷◌, ◌++◌, map, Option, None, Some, codes}
use Rattle.std.specs.Fmt.{signed_decimal}
use Rattle.std.specs.List.{flat_map}
use Rattle.fw_addr.specs.Hardware.{mac_text}
use Rattle.fw_addr.specs.Nets.{net_text}
use Rattle.fw_addr.specs.Ports.{ports_text}
use Rattle.nf_rules.specs.Matches.{interface_text, match_text}
use Rattle.nf_rules.specs.Statements.{statement_text}
use Rattle.nf_rules.specs.declared.chain.Base.{Base}
use Rattle.nf_rules.specs.declared.chain.Chain.{Chain}
use Rattle.nf_rules.specs.declared.chain.ChainKind.{ChainKind}
use Rattle.nf_rules.specs.declared.chain.ChainKind.TheVariants.{Filter, Nat}
use Rattle.nf_rules.specs.declared.chain.Hook.{Hook}
use Rattle.nf_rules.specs.declared.chain.Hook.TheVariants as hook
use Rattle.nf_rules.specs.declared.map.MapBody.{MapBody}
use Rattle.nf_rules.specs.declared.map.MapBody.TheVariants as keys
use Rattle.nf_rules.specs.declared.map.NfMap.{NfMap}
use Rattle.nf_rules.specs.declared.rule.Rule.{Rule}
use Rattle.nf_rules.specs.declared.ruleset.Ruleset.{Ruleset}
use Rattle.nf_rules.specs.declared.set.NfSet.{NfSet}
use Rattle.nf_rules.specs.declared.set.SetBody.{SetBody}
use Rattle.nf_rules.specs.declared.set.SetBody.TheVariants as elements

-- texts with a separator between them: the first, and each other behind the separator
abbrev pub separated : List ℕ → List (List ℕ) → List ℕ
separated separator [] = []
separated separator (first ∷ others) = first ++ flat_map (λ other. separator ++ other) others

-- the elements of a set or a map in braces; there is one blank where there are none
abbrev pub in_braces : List (List ℕ) → List ℕ
in_braces [] = codes "{ }"
in_braces (first ∷ others) = codes "{ " ++ separated (codes ", ") (first ∷ others) ++ codes " }"

-- the elements of a set
abbrev pub element_texts : SetBody → List (List ℕ)
element_texts (elements.Nets nets) = map net_text nets
element_texts (elements.Macs macs) = map mac_text macs
element_texts (elements.Ports ports) = map ports_text ports

-- set NAME { E, E }
abbrev pub set_line : NfSet → List ℕ
set_line set = 9 ∷ codes "set " ++ set.name ++ codes " " ++ in_braces (element_texts set.body) ++ 10 ∷ []

-- a key and the chain that it leads to
abbrev pub entry_text : List ℕ → List ℕ → List ℕ
entry_text key chain = key ++ codes " : goto " ++ chain

-- the entries of a map
abbrev pub entry_texts : MapBody → List (List ℕ)
entry_texts (keys.Ifaces pairs) = map (λ pair. entry_text (interface_text pair.0) pair.1) pairs
entry_texts (keys.Nets pairs) = map (λ pair. entry_text (net_text pair.0) pair.1) pairs

-- map NAME { K : goto C, K : goto C }
abbrev pub map_line : NfMap → List ℕ
map_line map = 9 ∷ codes "map " ++ map.name ++ codes " " ++ in_braces (entry_texts map.body) ++ 10 ∷ []

abbrev pub kind_word : ChainKind → List ℕ
kind_word Filter = codes "filter"
kind_word Nat = codes "nat"

abbrev pub hook_word : Hook → List ℕ
hook_word hook.Prerouting = codes "prerouting"
hook_word hook.Input = codes "input"
hook_word hook.Forward = codes "forward"
hook_word hook.Output = codes "output"
hook_word hook.Postrouting = codes "postrouting"

-- what makes a chain a base chain: type KIND hook HOOK priority NUMBER; policy accept;
abbrev pub base_line : Base → List ℕ
base_line base =
    9 ∷ 9 ∷ codes "type " ++ kind_word base.kind ++ codes " hook " ++ hook_word base.hook ++ codes " priority "
    ++ signed_decimal base.priority ++ codes "; policy accept;" ++ 10 ∷ []

abbrev pub base_lines : Option Base → List ℕ
base_lines None = []
base_lines (Some base) = base_line base

-- the matches of a rule and then its statements, in order, joined by one blank
abbrev pub rule_line : Rule → List ℕ
rule_line rule =
    9 ∷ 9 ∷ separated (codes " ") (map match_text rule.matches ++ map statement_text rule.stmts) ++ 10 ∷ []

-- chain NAME { .. }, one line for each rule, up to a `}` (125)
abbrev pub chain_text : Chain → List ℕ
chain_text chain =
    9 ∷ codes "chain " ++ chain.name ++ codes " {" ++ 10 ∷ base_lines chain.base ++ flat_map rule_line chain.rules
    ++ 9 ∷ 125 ∷ 10 ∷ []

-- the sets, then the maps, then the chains
unfoldable pub parts_text : Ruleset → List ℕ
parts_text rules = flat_map set_line rules.sets ++ flat_map map_line rules.maps ++ flat_map chain_text rules.chains

-- the table, up to a `}` (125); of an empty ruleset the first and the last line
abbrev pub ruleset_text : Ruleset → List ℕ
ruleset_text rules = codes "table inet firewalld {" ++ 10 ∷ parts_text rules ++ 125 ∷ 10 ∷ []

-- Where a list of rules leads whose statements are gotos: to the chain of the first whose matches hold.
use Rattle.std.proofs.Common.{◌≡◌, ◌∙◌, ℕ, List, [], ◌∷◌, ◌++◌, Bool, true, false, Option, None, Some, refl, ap, subst}
use Rattle.std.proofs.lemmas.List.Folds.{find-append}
use Rattle.std.specs.Prelude.{if◌then◌else◌}
use Rattle.std.specs.List.{find, list_all}
use Rattle.std.specs.Option.{option_map, option_or}
use Rattle.fw_model.specs.declared.outcome.Verdict.{Verdict}
use Rattle.fw_model.specs.declared.packet.Packet.{Packet}
use Rattle.lower_dispatch.specs.Dispatch.{LeadTo}
use Rattle.nf_chains.specs.Evaluation.{Ends}
use Rattle.nf_chains.specs.Evaluation.Ends.{goes, looks, looks_past}
use Rattle.nf_chains.specs.Moments.{Moment, looking}
use Rattle.nf_chains.specs.Tests.{match_at}
use Rattle.nf_rules.specs.declared.rule.Rule.{Rule}
use Rattle.nf_rules.specs.declared.ruleset.Ruleset.{Ruleset}
use Rattle.nf_rules.specs.declared.set.NfSet.{NfSet}
use Rattle.nf_rules.specs.declared.statement.Stmt.{Stmt}
use Rattle.nf_rules.specs.declared.statement.Stmt.TheVariants as stmt

-- all matches of a rule hold
abbrev pub holds : Option (List ℕ) → List NfSet → Packet → Rule → Bool
holds leaving sets packet rule = list_all (match_at leaving sets packet) rule.matches

-- the statements of the first rule that holds
abbrev pub led : Option (List ℕ) → List NfSet → Packet → List Rule → Option (List Stmt)
led leaving sets packet made = option_map (λ rule. rule.stmts) (find (holds leaving sets packet) made)

map_or : {A B : Type 0} (f : A → B) (one other : Option A) → option_map f (option_or one other) ≡ option_or (option_map f one) (option_map f other)
map_or f None other = refl
map_or f (Some x) other = refl

-- of two lists the first that leads anywhere
pub led_joined : (leaving : Option (List ℕ)) (sets : List NfSet) (packet : Packet) (one other : List Rule)
    → led leaving sets packet (one ++ other) ≡ option_or (led leaving sets packet one) (led leaving sets packet other)
led_joined leaving sets packet one other =
    ap (option_map (λ (rule : Rule). rule.stmts)) (find-append (holds leaving sets packet) one other)
    ∙ map_or (λ (rule : Rule). rule.stmts) (find (holds leaving sets packet) one) (find (holds leaving sets packet) other)

module _ (rules : Ruleset) (leaving : Option (List ℕ)) where
  -- a goto does the same in whatever rule it stands
  goes_from_anywhere : {name : List ℕ} {others : List Stmt} {behind here : List Rule} {returns : List (List Rule)} {now end : Moment} {verdict : Verdict}
      → Ends rules leaving (stmt.Goto name ∷ others) behind returns now verdict end
      → Ends rules leaving (stmt.Goto name ∷ []) here returns now verdict end
  goes_from_anywhere (goes found there) = goes found there

  pub leads : (made : List Rule) (now : Moment) (name : List ℕ)
      → led leaving rules.sets now.packet made ≡ Some (stmt.Goto name ∷ [])
      → LeadTo rules leaving made now name
  leads [] now name is = cc
  leads (rule ∷ others) now name is = by (holds leaving rules.sets now.packet rule) refl is (leads others (looking now) name)
    where
      by : (b : Bool) → holds leaving rules.sets now.packet rule ≡ b
          → option_map (λ (one : Rule). one.stmts) (if b then Some rule else find (holds leaving rules.sets now.packet) others) ≡ Some (stmt.Goto name ∷ [])
          → (led leaving rules.sets now.packet others ≡ Some (stmt.Goto name ∷ []) → LeadTo rules leaving others (looking now) name)
          → LeadTo rules leaving (rule ∷ others) now name
      by true here goal rest = record {
        looked_at = (looking now).looked_at;
        ends = λ more behind returns verdict end ended.
            let same : stmt.Goto name ∷ [] ≡ rule.stmts = cc in
            looks here (subst (λ (statements : List Stmt). Ends rules leaving statements (others ++ behind) returns (looking now) verdict end) same (goes_from_anywhere ended));
      }
      by false here goal rest = record {
        looked_at = (rest goal).looked_at;
        ends = λ more behind returns verdict end ended. looks_past here ((rest goal).ends more behind returns verdict end ended);
      }

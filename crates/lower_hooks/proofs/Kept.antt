-- Chains that were added, and those that are still there.
use Rattle.std.proofs.Common.{◌≡◌, ◌∙◌, ◌⊎◌, inl, inr, ℕ, ◌+◌, ◌<◌, ◌≤◌, List, [], ◌∷◌, ◌++◌, length, take, get_or, None, refl, sym, ap, subst, Bor}
use Rattle.std.proofs.lemmas.List.{take_all}
use Rattle.fw_model.specs.declared.config.Config.{Config}
use Rattle.fw_model.specs.declared.packet.Packet.{Packet}
use Rattle.fw_model.specs.declared.zone.Zone.{Zone}
use Rattle.fw_order.specs.Borrowed.{lent}
use Rattle.fw_verdict.specs.Walk.{Walked}
use Rattle.fw_zone.specs.Lists.{IsIn}
use Rattle.lower_hooks.specs.Chains.{Grows, HasChain, HasPairs, IsOnlyBase, base_chain}
use Rattle.lower_hooks.specs.Leads.{HasLeads, Leads, PairsLead}
use Rattle.lower_hooks.specs.Work.{DoIn}
use Rattle.lower_hooks.proofs.Lists.{in_either, lent_more}
use Rattle.lower_zone.proofs.Built.{in_first, in_second}
use Rattle.lower_zone.specs.Forms.{chain_named}
use Rattle.nf_rules.specs.declared.chain.Chain.{Chain}
use Rattle.nf_rules.specs.declared.chain.Hook.{Hook}
use Rattle.nf_rules.specs.declared.rule.Rule.{Rule}
use Rattle.nf_rules.specs.declared.ruleset.Ruleset.{Ruleset}

pub grows_not : (chains : List Chain) → Grows chains chains
grows_not chains = record { kept = λ chain there. there; plain = λ chain there. inl there }

pub grows_on : (first second third : List Chain) → Grows first second → Grows second third → Grows first third
grows_on first second third one other = record {
  kept = λ chain there. other.kept chain (one.kept chain there);
  plain = λ chain there. either chain (other.plain chain there);
}
  where
    either : (chain : Chain) → IsIn chain second ⊎ (chain.base ≡ None) → IsIn chain first ⊎ (chain.base ≡ None)
    either chain (inl there) = one.plain chain there
    either chain (inr plain) = inr plain

pub grows_pushed : (old new : List Chain) (name : List ℕ) (made : List Rule) → new ≡ old ++ chain_named name made ∷ [] → Grows old new
grows_pushed old new name made are = record {
  kept = λ chain there. subst (λ (list : List Chain). IsIn chain list) (sym are) (in_first chain old (chain_named name made ∷ []) there);
  plain = λ chain there. either chain (in_either chain (chain_named name made) old (subst (λ (list : List Chain). IsIn chain list) are there));
}
  where
    either : (chain : Chain) → IsIn chain old ⊎ (chain_named name made ≡ chain) → IsIn chain old ⊎ (chain.base ≡ None)
    either chain (inl there) = inl there
    either chain (inr same) = inr (ap (λ (one : Chain). one.base) (sym same))

-- the one base chain of a list that grew
pub only_base : (base : Chain) (old new : List Chain) → old ≡ base ∷ [] → Grows old new → IsOnlyBase base new
only_base base old new are grows = record {
  there = grows.kept base (subst (λ (list : List Chain). IsIn base list) (sym are) (inl refl));
  only = λ chain there. either chain (grows.plain chain there);
}
  where
    either : (chain : Chain) → IsIn chain old ⊎ (chain.base ≡ None) → (base ≡ chain) ⊎ (chain.base ≡ None)
    either chain (inl there) = alone (subst (λ (list : List Chain). IsIn chain list) are there)
      where
        alone : (base ≡ chain) ⊎ ⊥ → (base ≡ chain) ⊎ (chain.base ≡ None)
        alone (inl same) = inl same
        alone (inr never) = absurd never
    either chain (inr plain) = inr plain

-- where its rules are known
pub known_base : (name : List ℕ) (at : Hook) (known made : List Rule) (base : Chain) (old new : List Chain)
    → old ≡ base ∷ [] → base ≡ base_chain name at made → made ≡ known → Grows old new → IsOnlyBase (base_chain name at known) new
known_base name at known made base old new are is same grows =
    only_base (base_chain name at known) old new (are ∙ ap (λ (chain : Chain). chain ∷ []) (is ∙ ap (base_chain name at) same)) grows

pub last_pushed : (old new : List Chain) (last : Chain) → new ≡ old ++ last ∷ [] → IsIn last new
last_pushed old new last are = subst (λ (list : List Chain). IsIn last list) (sym are) (in_second last old (last ∷ []) (inl refl))

-- a chain of a name and of rules that are known
module _ (config : Config) (wanted name : List ℕ) (listed made : List Rule) (old new : List Chain)
    (are : new ≡ old ++ chain_named name made ∷ []) (is : name ≡ wanted) (same : made ≡ listed) where
  known_there : IsIn (chain_named wanted listed) new
  known_there =
      last_pushed old new (chain_named wanted listed)
      (are ∙ ap (λ (one : List ℕ). old ++ chain_named one made ∷ []) is ∙ ap (λ (rules : List Rule). old ++ chain_named wanted rules ∷ []) same)

  pub has_pushed : (Holds : Ruleset → Type 0) (walked : Packet → Walked) → DoIn config Holds listed walked → HasChain config Holds walked wanted new
  has_pushed Holds walked does = record { rules = listed; there = known_there; work = does }

  pub leads_pushed : (To : List ℕ → Type 0) → Leads config To listed → HasLeads config To wanted new
  leads_pushed To leads = record { rules = listed; there = known_there; leads = leads }

pub has_kept : (config : Config) (Holds : Ruleset → Type 0) (walked : Packet → Walked) (name : List ℕ) (old new : List Chain)
    → Grows old new → HasChain config Holds walked name old → HasChain config Holds walked name new
has_kept config Holds walked name old new grows has = record { rules = has.rules; there = grows.kept (chain_named name has.rules) has.there; work = has.work }

pub pairs_kept : (config : Config) (zones : List Zone) (from : Zone) (old new : List Chain)
    → Grows old new → HasPairs config zones from old → HasPairs config zones from new
pairs_kept config zones from old new grows has = record {
  rules = has.rules;
  there = grows.kept _ has.there;
  leads = has.leads;
  pairs = λ to among. has_kept config _ _ _ old new grows (has.pairs to among);
}

pub leads_kept : (config : Config) (To : List ℕ → Type 0) (name : List ℕ) (old new : List Chain)
    → Grows old new → HasLeads config To name old → HasLeads config To name new
leads_kept config To name old new grows has = record { rules = has.rules; there = grows.kept (chain_named name has.rules) has.there; leads = has.leads }

pub pairs_lead : (config : Config) (zones : List Zone) (from : Zone) (old new : List Chain)
    → Grows old new → PairsLead config zones from old → PairsLead config zones from new
pairs_lead config zones from old new grows lead = record {
  first = leads_kept config _ _ old new grows lead.first;
  pairs = λ to among. leads_kept config _ _ old new grows (lead.pairs to among);
}

-- What holds for each zone so far, and for one more.
pub one_more : {A : Type 0} (Has : A → Type 0) (all : List (Bor A)) (at : ℕ) (item : Bor A)
    → at < length all → item ≡ get_or all at item
    → ((one : A) → IsIn one (lent (take at all)) → Has one)
    → Has item.now
    → (one : A) → IsIn one (lent (take (at + 1) all)) → Has one
one_more {A = A} Has all at item below is before this one among =
    either (in_either one item.now (lent (take at all)) (subst (λ (list : List A). IsIn one list) (lent_more all at item below is) among))
  where
    either : IsIn one (lent (take at all)) ⊎ (item.now ≡ one) → Has one
    either (inl there) = before one there
    either (inr same) = subst Has same this

-- and then for all
pub for_all : {A : Type 0} (Has : A → Type 0) (all : List (Bor A)) (at : ℕ) → length all ≤ at
    → ((one : A) → IsIn one (lent (take at all)) → Has one)
    → (one : A) → IsIn one (lent all) → Has one
for_all Has all at whole so_far one among = so_far one (subst (λ list. IsIn one (lent list)) (sym (take_all at all whole)) among)

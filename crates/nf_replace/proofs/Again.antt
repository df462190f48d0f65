-- Parts that are put in order of their names are those that were put.
use Rattle.std.proofs.Common.{arith, ◌≡◌, ◌<◌, ℕ, suc, List, [], ◌∷◌, ◌++◌, length, length-append, map, refl, ap, sym, ◌∙◌, slice_index_or, subst, Some, append_assoc, append-nil}
use Rattle.std.specs.Cmp.Lexicographic.{slice_cmp}
use Rattle.std.specs.Ordering.{nat_cmp}
use Rattle.std.specs.declared.cmp.Ordering.TheVariants.{Less}
use Rattle.std.specs.declared.cmp.Ordering.{Ordering}
use Rattle.nf_kernel.specs.Parts.{beside, put}
use Rattle.nf_kernel.specs.Transactions.{apply, empty, with_chains, with_maps, with_sets}
use Rattle.nf_replace.specs.Replacing.{Replaces, replacing}
use Rattle.nf_rules.specs.declared.chain.Chain.{Chain}
use Rattle.nf_rules.specs.declared.command.Command.{Command}
use Rattle.nf_rules.specs.declared.command.Command.TheVariants as command
use Rattle.nf_rules.specs.declared.map.NfMap.{NfMap}
use Rattle.nf_rules.specs.declared.ruleset.Ruleset.{Ruleset}
use Rattle.nf_rules.specs.declared.set.NfSet.{NfSet}
use Rattle.nf_sound.specs.Names.{IsBefore, IsByName}

at_end : {T : Type 0} (part : T) (parts others : List T) (default : T) → slice_index_or (parts ++ part ∷ others) (length parts) default ≡ part
at_end part [] others default = refl
at_end part (first ∷ parts) others default = at_end part parts others default

shorter : {T : Type 0} (part : T) (parts others : List T) → length parts < length (parts ++ part ∷ others)
shorter part parts others = omega (arith, length-append parts (part ∷ others))

-- a part behind all others comes to their end
put_last : {T : Type 0} (name_of : T → List ℕ) (part : T) (parts others : List T)
    → IsByName name_of (parts ++ part ∷ others)
    → put name_of part parts ≡ parts ++ part ∷ []
put_last name_of part [] others all = refl
put_last {T} name_of part (first ∷ parts) others all =
    let less : slice_cmp nat_cmp (name_of first) (name_of part) ≡ Less =
    subst (λ (last : T). IsBefore (name_of first) (name_of last)) (at_end part parts others part)
    (all 0 (suc (length parts)) part (omega arith) (omega (arith, shorter part parts others))) in
    ap (λ (is : Ordering). beside is part first parts (put name_of part parts)) less
    ∙ ap (λ (rest : List T). first ∷ rest)
    (put_last name_of part parts others (λ one other default before within. all (suc one) (suc other) default (omega arith) (omega arith)))

-- Sets, one after another, come behind those that are there; so do maps and chains.
sets_put : (sets : List NfSet) (others : List Command) (rules : Ruleset)
    → IsByName (λ (set : NfSet). set.name) (rules.sets ++ sets)
    → apply (map command.PutSet sets ++ others) rules ≡ apply others (with_sets rules (rules.sets ++ sets))
sets_put [] others rules all = ap (λ (parts : List NfSet). apply others (with_sets rules parts)) (sym (append-nil rules.sets))
sets_put (set ∷ sets) others rules all =
    ap (λ (parts : List NfSet). apply (map command.PutSet sets ++ others) (with_sets rules parts)) (put_last (λ (set : NfSet). set.name) set rules.sets sets all)
    ∙ sets_put sets others (with_sets rules (rules.sets ++ set ∷ []))
    (subst (IsByName (λ (set : NfSet). set.name)) (sym (append_assoc rules.sets (set ∷ []) sets)) all)
    ∙ ap (λ (parts : List NfSet). apply others (with_sets rules parts)) (append_assoc rules.sets (set ∷ []) sets)

maps_put : (maps : List NfMap) (others : List Command) (rules : Ruleset)
    → IsByName (λ (map : NfMap). map.name) (rules.maps ++ maps)
    → apply (map command.PutMap maps ++ others) rules ≡ apply others (with_maps rules (rules.maps ++ maps))
maps_put [] others rules all = ap (λ (parts : List NfMap). apply others (with_maps rules parts)) (sym (append-nil rules.maps))
maps_put (one ∷ maps) others rules all =
    ap (λ (parts : List NfMap). apply (map command.PutMap maps ++ others) (with_maps rules parts)) (put_last (λ (part : NfMap). part.name) one rules.maps maps all)
    ∙ maps_put maps others (with_maps rules (rules.maps ++ one ∷ []))
    (subst (IsByName (λ (part : NfMap). part.name)) (sym (append_assoc rules.maps (one ∷ []) maps)) all)
    ∙ ap (λ (parts : List NfMap). apply others (with_maps rules parts)) (append_assoc rules.maps (one ∷ []) maps)

chains_put : (chains : List Chain) (rules : Ruleset)
    → IsByName (λ (chain : Chain). chain.name) (rules.chains ++ chains)
    → apply (map command.PutChain chains) rules ≡ Some (with_chains rules (rules.chains ++ chains))
chains_put [] rules all = ap (λ (parts : List Chain). Some (with_chains rules parts)) (sym (append-nil rules.chains))
chains_put (chain ∷ chains) rules all =
    ap (λ (parts : List Chain). apply (map command.PutChain chains) (with_chains rules parts)) (put_last (λ (chain : Chain). chain.name) chain rules.chains chains all)
    ∙ chains_put chains (with_chains rules (rules.chains ++ chain ∷ []))
    (subst (IsByName (λ (chain : Chain). chain.name)) (sym (append_assoc rules.chains (chain ∷ []) chains)) all)
    ∙ ap (λ (parts : List Chain). Some (with_chains rules parts)) (append_assoc rules.chains (chain ∷ []) chains)

pub replaces : (rules : Ruleset) → Replaces (replacing rules) rules
replaces rules by_name old =
    ap (λ (commands : List Command). apply commands empty)
    (append_assoc (map command.PutSet rules.sets) (map command.PutMap rules.maps) (map command.PutChain rules.chains))
    ∙ sets_put rules.sets (map command.PutMap rules.maps ++ map command.PutChain rules.chains) empty by_name.sets
    ∙ maps_put rules.maps (map command.PutChain rules.chains) (with_sets empty rules.sets) by_name.maps
    ∙ chains_put rules.chains (with_maps (with_sets empty rules.sets) rules.maps) by_name.chains

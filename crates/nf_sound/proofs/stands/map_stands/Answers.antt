-- What holds of each name that the pairs lead to holds of each pair.
use Rattle.std.proofs.Common.{◌≡◌, is_some, sym, ◌∙◌}
use Rattle.std.specs.List.{list_all}
use Rattle.std.proofs.lemmas.List.Folds.{list_all-map}
use Rattle.nf_sound.specs.Names.{chain_of}
use Rattle.nf_sound.specs.Targets.{values}
use Rattle.nf_sound.proofs.stands.map_stands.Goals as goal

pub returns-in-Ifaces : goal.returns-in-Ifaces
returns-in-Ifaces c =
    let all : list_all (λ name. is_some (chain_of c.args.rules.now.chains name)) (values c.args.map.now.body)
    ≡ list_all (λ pair. is_some (chain_of c.args.rules.now.chains pair.1)) c.in-Ifaces.pairs = rw c.in-Ifaces.is (list_all-map (λ name. is_some (chain_of c.args.rules.now.chains name)) (λ pair. pair.1) c.in-Ifaces.pairs) in
    (rw c.as_slice.ensures at c.values_stand.ensures) ∙ sym all

pub returns-in-Nets : goal.returns-in-Nets
returns-in-Nets c =
    let all : list_all (λ name. is_some (chain_of c.args.rules.now.chains name)) (values c.args.map.now.body)
    ≡ list_all (λ pair. is_some (chain_of c.args.rules.now.chains pair.1)) c.in-Nets.pairs = rw c.in-Nets.is (list_all-map (λ name. is_some (chain_of c.args.rules.now.chains name)) (λ pair. pair.1) c.in-Nets.pairs) in
    (rw c.as_slice-in-Nets.ensures at c.values_stand-in-Nets.ensures) ∙ sym all

use Rattle.std.proofs.Common.{◌∙◌, Bool, [], ◌∷◌, sym, subst}
use Rattle.std.specs.Prelude.{if◌then◌else◌}
use Rattle.std.proofs.lemmas.Result.{on_ok_weaker}
use Rattle.lower_blocks.specs.Blocks.Told.{of_zone}
use Rattle.lower_changes.specs.Blocks.{Behind}
use Rattle.lower_changes.proofs.Growing.{behind_block}
use Rattle.lower_changes.proofs.blocks.push_zone.Goals as goal

pub returns-in_ok-zone_chains : goal.returns-in_ok-zone_chains
returns-in_ok-zone_chains c =
    let zone = c.args.zone.now in
    on_ok_weaker c.push_block.result
    (λ are written.
    subst (λ (some : Bool). Behind c.args.config.now c.args.side (if some then of_zone zone ∷ [] else []) c.args.chains.now c.push_block.new.chains)
    (sym (sym c.has_changes.ensures ∙ c.if-has_changes.true))
    (behind_block c.args.config.now c.args.side (of_zone zone) _ _ _ (c.in_ok-zone_chains.ensures written) are))
    c.push_block.ensures

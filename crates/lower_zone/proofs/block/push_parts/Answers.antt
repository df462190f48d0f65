use Rattle.std.proofs.Common.{◌≡◌, ◌++◌, subst, List}
use Rattle.std.proofs.lemmas.Result.{on_ok_weaker}
use Rattle.fw_verdict.specs.Walk.{Item, walk}
use Rattle.fw_verdict.specs.declared.rich.Part.TheVariants as part
use Rattle.lower_zone.specs.Parts.{part_items}
use Rattle.lower_zone.specs.Work.{AddsParts}
use Rattle.lower_zone.proofs.Items.{parts_are}
use Rattle.lower_zone.proofs.Works.{adds_lists}
use Rattle.lower_zone.proofs.block.push_parts.Goals as goal

pub returns-clause-adds : goal.returns-clause-adds
returns-clause-adds c =
    let items = part_items c.args.config.now c.args.settings.now c.args.inversion in
    on_ok_weaker c.push_part-5.result
    (λ last.
    subst (λ (list : List Item). AddsParts c.args.config.now (walk list) c.args.rules.now c.push_part-5.new.rules c.args.chains.now c.push_part-5.new.chains)
    (parts_are c.args.config.now c.args.settings.now c.args.inversion)
    (adds_lists c.args.config.now (items part.Pre) (items part.Log ++ (items part.Deny ++ (items part.Allow ++ items part.Post))) _ _ _ _ _ _ c.in_ok-push_part.ensures.adds
    (adds_lists c.args.config.now (items part.Log) (items part.Deny ++ (items part.Allow ++ items part.Post)) _ _ _ _ _ _ c.in_ok-push_part-2.ensures.adds
    (adds_lists c.args.config.now (items part.Deny) (items part.Allow ++ items part.Post) _ _ _ _ _ _ c.in_ok-push_part-3.ensures.adds
    (adds_lists c.args.config.now (items part.Allow) (items part.Post) _ _ _ _ _ _ c.in_ok-push_part-4.ensures.adds last)))))
    c.push_part-5.ensures.adds

pub returns-clause-names : goal.returns-clause-names
returns-clause-names c =
    on_ok_weaker c.push_part-5.result
    (λ last named.
    last (c.in_ok-push_part-4.ensures.names (c.in_ok-push_part-3.ensures.names (c.in_ok-push_part-2.ensures.names (c.in_ok-push_part.ensures.names named)))))
    c.push_part-5.ensures.names

use Rattle.std.proofs.Common.{◌≡◌, ◌∙◌, Some, refl, sym, ap, subst}
use Rattle.std.proofs.lemmas.Result.{IfOk-weaker}
use Rattle.fw_model.specs.declared.setting.Setting.TheVariants as setting
use Rattle.lower_match.specs.Lowers.{Lowers}
use Rattle.lower_match.specs.RichForms.{behind}
use Rattle.lower_match.proofs.RichRules.{lowers_nothing, lowers_rich}
use Rattle.lower_match.proofs.Stand.{rich_stands}
use Rattle.lower_match.specs.Stands.{Stand}
use Rattle.lower_match.proofs.rich.rich_matches.Goals as goal

pub returns-in_default-clause-tells : goal.returns-in_default-clause-tells
returns-in_default-clause-tells c =
    subst (λ made. Lowers c.args.services.now c.args.ipsets.now (setting.Rich c.args.rule.now) made) (sym c.new.ensures)
    (lowers_nothing c.args.services.now c.args.ipsets.now c.args.rule.now (sym c.in_ok-front.ensures ∙ c.in_default.is))

pub returns-clause-tells : goal.returns-clause-tells
returns-clause-tells c =
    IfOk-weaker c.put_behind.result _ _
    (λ made is.
    lowers_rich c.args.services.now c.args.ipsets.now c.args.rule.now c.in-Some.front c.in_ok-elements.elements made
    (sym c.in_ok-front.ensures ∙ c.in-Some.is) c.in_ok-elements.ensures.tells
    (is ∙ ap (λ front. behind front c.in_ok-elements.elements) c.as_slice.ensures))
    c.put_behind.ensures

pub returns-in_default-clause-stand : goal.returns-in_default-clause-stand
returns-in_default-clause-stand c = subst (Stand c.args.ipsets.now) (sym c.new.ensures) (λ rules sets. refl)

pub returns-clause-stand : goal.returns-clause-stand
returns-clause-stand c =
    IfOk-weaker c.put_behind.result _ _
    (λ made is.
    rich_stands c.args.ipsets.now c.args.rule.now c.in-Some.front c.in_ok-elements.elements made
    (sym c.in_ok-front.ensures ∙ c.in-Some.is) c.in_ok-elements.ensures.stand
    (is ∙ ap (λ front. behind front c.in_ok-elements.elements) c.as_slice.ensures))
    c.put_behind.ensures

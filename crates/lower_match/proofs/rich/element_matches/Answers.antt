use Rattle.std.proofs.Common.{◌≡◌, ◌∙◌, Some, ap}
use Rattle.std.proofs.lemmas.Result.{IfOk-weaker}
use Rattle.fw_hits.specs.Rich.{is_of_element}
use Rattle.lower_match.proofs.Stand.{types_stand}
use Rattle.lower_match.proofs.RichRules.{icmp_element, service_element}
use Rattle.lower_match.proofs.rich.element_matches.Goals as goal

pub returns-in-Service-clause-tells : goal.returns-in-Service-clause-tells
returns-in-Service-clause-tells c =
    IfOk-weaker c.service_matches.result _ _
    (λ made holds. service_element c.args.services.now c.args.rule.now.family c.args.rule.now.element _ _ made (c.in-Some.is ∙ ap Some c.in-Service.is) c.as_str.ensures holds)
    c.service_matches.ensures.tells

pub returns-in-IcmpBlock-clause-tells : goal.returns-in-IcmpBlock-clause-tells
returns-in-IcmpBlock-clause-tells c =
    IfOk-weaker c.icmp_matches.result _ _
    (λ made is. icmp_element c.args.services.now c.args.rule.now.family c.args.rule.now.element c.in-IcmpBlock.name _ made
    (λ config packet. ap (is_of_element config c.args.rule.now.family packet) (c.in-Some.is ∙ ap Some c.in-IcmpBlock.is)) c.as_str-in-IcmpBlock.ensures is)
    c.icmp_matches.ensures

pub returns-in-IcmpType-clause-tells : goal.returns-in-IcmpType-clause-tells
returns-in-IcmpType-clause-tells c =
    IfOk-weaker c.icmp_matches-in-IcmpType.result _ _
    (λ made is. icmp_element c.args.services.now c.args.rule.now.family c.args.rule.now.element c.in-IcmpType.name _ made
    (λ config packet. ap (is_of_element config c.args.rule.now.family packet) (c.in-Some.is ∙ ap Some c.in-IcmpType.is)) c.as_str-in-IcmpType.ensures is)
    c.icmp_matches-in-IcmpType.ensures

pub returns-in-IcmpBlock-clause-stand : goal.returns-in-IcmpBlock-clause-stand
returns-in-IcmpBlock-clause-stand c = IfOk-weaker c.icmp_matches.result _ _ (λ made is. types_stand _ made is) c.icmp_matches.ensures

pub returns-in-IcmpType-clause-stand : goal.returns-in-IcmpType-clause-stand
returns-in-IcmpType-clause-stand c = IfOk-weaker c.icmp_matches-in-IcmpType.result _ _ (λ made is. types_stand _ made is) c.icmp_matches-in-IcmpType.ensures

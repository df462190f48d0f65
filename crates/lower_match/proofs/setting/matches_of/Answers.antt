use Rattle.std.proofs.lemmas.Result.{IfOk-weaker}
use Rattle.lower_match.proofs.Lowered.{lowers_icmp, lowers_service}
use Rattle.lower_match.proofs.Stand.{types_stand, with_sets}
use Rattle.lower_match.proofs.setting.matches_of.Goals as goal

pub returns-in-Service-clause-tells : goal.returns-in-Service-clause-tells
returns-in-Service-clause-tells c =
    IfOk-weaker c.service_matches.result _ _
    (λ made holds. lowers_service c.args.services.now c.args.ipsets.now c.args.setting.now _ _ made c.in-Service.is c.as_str.ensures holds)
    c.service_matches.ensures.tells

pub returns-in-IcmpBlock-clause-tells : goal.returns-in-IcmpBlock-clause-tells
returns-in-IcmpBlock-clause-tells c =
    IfOk-weaker c.icmp_matches.result _ _
    (λ made is. lowers_icmp c.args.services.now c.args.ipsets.now c.args.setting.now _ _ made c.in-IcmpBlock.is c.as_str-in-IcmpBlock.ensures is)
    c.icmp_matches.ensures

pub returns-in-Service-clause-stand : goal.returns-in-Service-clause-stand
returns-in-Service-clause-stand c =
    IfOk-weaker c.service_matches.result _ _ (λ made stand. with_sets c.args.ipsets.now made stand) c.service_matches.ensures.stand

pub returns-in-IcmpBlock-clause-stand : goal.returns-in-IcmpBlock-clause-stand
returns-in-IcmpBlock-clause-stand c =
    IfOk-weaker c.icmp_matches.result _ _ (λ made is. with_sets c.args.ipsets.now made (types_stand _ made is)) c.icmp_matches.ensures

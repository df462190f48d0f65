use Rattle.fw_time_links.proofs.Left.{as_before}
use Rattle.fw_time_links.proofs.linking.enter.Goals as goal

pub returns-clause-err : goal.returns-clause-err
returns-clause-err c =
    as_before c.args.zones.now c.args.place c.get_mut.result.now c.push.new.self c.push.result c.get_mut.ensures.value c.push.ensures.err

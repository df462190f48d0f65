use Rattle.std.proofs.Common.{◌∙◌, List, None, ap, sym}
use Rattle.fw_addr.specs.declared.log.LogLine.{LogLine}
use Rattle.fw_verdict.specs.Led.{standing}
use Rattle.fw_verdict.specs.Way.{marked}
use Rattle.fw_verdict.proofs.Prerouted.{goes_unchanged}
use Rattle.fw_verdict.proofs.way.passed.Goals as goal

pub returns-then-is_unmoved : goal.returns-then-is_unmoved
returns-then-is_unmoved c =
    goes_unchanged c.args.config.now c.args.packet.now c.in_ok-mark.mark c.in_ok-dnat.dnat _ _
    (sym (ap (λ (logs : List LogLine). marked c.args.config.now (standing c.args.packet.now None logs)) c.new-logs.ensures) ∙ c.in_ok-mark.ensures)
    c.in_ok-dnat.ensures c.go_on.result (c.is_unmoved.ensures c.if-is_unmoved.true) c.go_on.ensures

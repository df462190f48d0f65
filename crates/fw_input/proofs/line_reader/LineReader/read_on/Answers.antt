use Rattle.std.proofs.Common.{arith, rules}
use Rattle.fw_input.proofs.DecisionLemmas.{undecided}
use Rattle.fw_input.proofs.line_reader.LineReader.read_on.Goals as goal

pub loop-self-smaller : goal.loop-self-smaller
loop-self-smaller g c =
    let none = undecided c.loop-self.self (search rules) in
    let refills = c.in-Bytes.ensures.refills in
    omega (arith, none.1, refills.grows, refills.line_limit)

use Rattle.std.proofs.Common.{◌∙◌, Some, Option, ap, sym, Bor}
use Rattle.std.specs.Option.{option_copied, option_map}
use Rattle.fw_model.specs.declared.forward.Forward.{Forward}
use Rattle.fw_verdict.specs.Outside.{target_of}
use Rattle.fw_verdict.proofs.Ports.{sends_by_port}
use Rattle.fw_verdict.proofs.translation.target_by_port.Goals as goal

pub returns-in-Some : goal.returns-in-Some
returns-in-Some c = λ config logs.
    sends_by_port config c.args.forwards.now c.args.packet.now logs _
    (ap Some c.target_of.ensures
    ∙ sym (ap (λ (found : Option (Bor Forward)). option_map target_of (option_copied found)) c.in-Some.is)
    ∙ ap (option_map target_of) c.first_port.ensures)

pub returns-in-None : goal.returns-in-None
returns-in-None c = λ config logs.
    sends_by_port config c.args.forwards.now c.args.packet.now logs _
    (sym (ap (λ (found : Option (Bor Forward)). option_map target_of (option_copied found)) c.in-None.is)
    ∙ ap (option_map target_of) c.first_port.ensures)

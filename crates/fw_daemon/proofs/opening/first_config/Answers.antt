use Rattle.std.proofs.Common.{ℕ, List, Some, ap, sym, ◌∙◌, option_map}
use Rattle.fw_daemon.proofs.Reading.{held_says}
use Rattle.fw_daemon.proofs.opening.first_config.Goals as goal

pub returns-in-Some-clause-holds : goal.returns-in-Some-clause-holds
returns-in-Some-clause-holds c =
    held_says _ c.as_slice.result.now c.config_of.result
    (ap (option_map (λ bytes. bytes.items)) c.in-Some.is ∙ ap (λ (bytes : List ℕ). Some bytes) (sym c.as_slice.ensures.value))
    c.config_of.ensures

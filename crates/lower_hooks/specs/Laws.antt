-- Laws. In a ruleset in which the chains of the hooks work, what nft(8) makes of a packet there is what the settings decide.
use Rattle.std.specs.Prelude.{List, codes}
use Rattle.fw_model.specs.declared.config.Config.{Config}
use Rattle.fw_zone.specs.Lists.{IsIn}
use Rattle.lower_hooks.specs.Chains.{base_chain}
use Rattle.lower_hooks.specs.Decides.{FilterStands}
use Rattle.lower_hooks.specs.Stands.{AreBases, HasBases, Works}
use Rattle.nf_rules.specs.declared.chain.Hook.TheVariants as hook
use Rattle.nf_rules.specs.declared.rule.Rule.{Rule}
use Rattle.nf_rules.specs.declared.ruleset.Ruleset.{Ruleset}

-- Where the chains of the hooks work, packets end there as the settings decide, at whatever moment they come, with all lines.
abbrev pub HooksDecide : Type 0
HooksDecide = (rules : Ruleset) (config : Config) → Works config rules → FilterStands config rules

-- Where three chains are the base chains at these hooks, each runs at its own, alone.
abbrev pub OneRunsAtEach : Type 0
OneRunsAtEach =
    (rules : Ruleset) (input forward output : List Rule)
    → AreBases rules.chains input forward output
    → IsIn (base_chain (codes "filter_INPUT") hook.Input input) rules.chains
    → IsIn (base_chain (codes "filter_FORWARD") hook.Forward forward) rules.chains
    → IsIn (base_chain (codes "filter_OUTPUT") hook.Output output) rules.chains
    → HasBases rules input forward output

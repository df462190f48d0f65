-- What the crates below say of their chains, all in one.
use Rattle.lower_blocks.specs.Needed.{ActingPoliciesAreTold}
use Rattle.lower_changes.specs.Apart.{ChainsApart, SidesApart, StandOutside}
use Rattle.lower_changes.specs.Hooks.{BasesRun}
use Rattle.lower_changes.specs.Stands.{SidesHold}
use Rattle.lower_changes.specs.Whole.{WayIsLed}
use Rattle.lower_changes.specs.Works.{SidesWork}
use Rattle.lower_hooks.specs.Laws.{HooksDecide, OneRunsAtEach}
use Rattle.lower_panic.specs.Laws.{PanicRulesCompile}

-- of those in the filter
pub record FilterLaws : Type 0 where
  pub decide : HooksDecide
  pub one_runs : OneRunsAtEach
  pub acting : ActingPoliciesAreTold

-- of the names of those outside it
pub record NameLaws : Type 0 where
  pub apart : ChainsApart
  pub across : SidesApart
  pub outside : StandOutside

-- of those outside it
pub record SideLaws : Type 0 where
  pub work : SidesWork
  pub hold : SidesHold
  pub run : BasesRun
  pub led : WayIsLed

pub record Laws : Type 0 where
  pub filter : FilterLaws
  pub names : NameLaws
  pub sides : SideLaws
  pub panic : PanicRulesCompile

-- What is asked of a rich rule, in the order in which it is looked at.
use Rattle.std.specs.Prelude.{IsNone, IsTrue}
use Rattle.fw_model.specs.declared.rich.Action.{Action}
use Rattle.fw_model.specs.declared.rich.Rich.{Rich}
use Rattle.fw_model.specs.declared.rich.RichLog.{RichLog}
use Rattle.fw_model.specs.declared.rich.Side.{Side}
use Rattle.fw_valid.specs.Each.{IfThere}
use Rattle.fw_valid.specs.Riches.{DoesSomething, IsLimit, IsNoMac, IsPriority, IsWhole, MayDo, MayHave, MayName, is_prefix}

-- which packets it is about
pub record ConditionsMayStand (rule : Rich) : Type 0 where
  pub priority : IsPriority rule.priority
  pub source : IfThere (λ (side : Side). MayName rule.family side.what) rule.source
  pub destination : IfThere (λ (side : Side). MayName rule.family side.what × IsNoMac side.what) rule.dest
  pub element : IfThere (MayHave rule.family) rule.element

-- what is logged
pub record LogMayStand (rule : Rich) : Type 0 where
  pub prefix : IfThere (λ (log : RichLog). IsTrue (is_prefix log.prefix)) rule.log
  pub log_limit : IfThere (λ (log : RichLog). IfThere IsLimit log.limit) rule.log
  pub audit_limit : IfThere (IfThere IsLimit) rule.audit

-- an element that does all by itself has no action beside it, and under all others something is done
pub record ActsAsItMay (rule : Rich) : Type 0 where
  pub whole : IsWhole rule.element → IsNone rule.action
  pub other : ¬ (IsWhole rule.element) → DoesSomething rule

-- what is done
pub record ActMayStand (rule : Rich) : Type 0 where
  pub limit : IfThere (λ (action : Action). IfThere IsLimit action.limit) rule.action
  pub type : IfThere (λ (action : Action). MayDo rule.family action.act) rule.action
  pub acts : ActsAsItMay rule

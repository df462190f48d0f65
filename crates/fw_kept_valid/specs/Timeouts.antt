-- Timeouts as calls carry them: whole numbers of 32 bits with a sign (firewalld.dbus(5), the argument `timeout` of `addService` and its
-- kin).
use Rattle.std.specs.Int.{w32}
use Rattle.std.specs.Prelude.{FitsSigned}
use Rattle.fw_calls.specs.declared.call.SettingVerb.{SettingVerb}
use Rattle.fw_calls.specs.declared.call.SettingVerb.TheVariants as verb

-- an act on a setting, of which the timeout is such, if it has one
abbrev pub IsTimed : SettingVerb → Type 0
IsTimed (verb.Add timeout) = FitsSigned w32 timeout
IsTimed verb.Remove = Unit {0}
IsTimed verb.Query = Unit {0}

-- Edits of settings and of bindings, with the codes of their refusals (firewalld.dbus(5), "Errors").
use Rattle.std.specs.Prelude.{Result, Ok, Err}
use Rattle.fw_model.specs.declared.code.Code.{Code}
use Rattle.fw_model.specs.declared.code.Code.TheVariants as code
use Rattle.fw_zone.specs.declared.bindings.BindError.{BindError}
use Rattle.fw_zone.specs.declared.bindings.BindError.TheVariants as bind
use Rattle.fw_zone.specs.declared.settings.AddError.{AddError}
use Rattle.fw_zone.specs.declared.settings.AddError.TheVariants as add
use Rattle.fw_zone.specs.declared.settings.NotEnabled.{NotEnabled}
use Rattle.fw_act.specs.declared.edit.EditError.{EditError}
use Rattle.fw_act.specs.declared.edit.EditError.TheVariants as edit

-- a setting that is added
abbrev pub settled_add : {D : Type 0} → Result D AddError → Result D EditError
settled_add (Ok done) = Ok done
settled_add (Err add.AlreadyEnabled) = Err (edit.Refused code.AlreadyEnabled)
settled_add (Err add.Memory) = Err edit.Memory

-- a setting that is removed
abbrev pub settled_remove : {D : Type 0} → Result D NotEnabled → Result D EditError
settled_remove (Ok done) = Ok done
settled_remove (Err error) = Err (edit.Refused code.NotEnabled)

-- an entry that is bound or unbound
abbrev pub settled : {D : Type 0} → (unknown : Code) → Result D BindError → Result D EditError
settled unknown (Ok done) = Ok done
settled unknown (Err bind.ZoneAlreadySet) = Err (edit.Refused code.ZoneAlreadySet)
settled unknown (Err bind.ZoneConflict) = Err (edit.Refused code.ZoneConflict)
settled unknown (Err bind.Unknown) = Err (edit.Refused unknown)
settled unknown (Err bind.Memory) = Err edit.Memory

-- the same of one that moves, where being bound there already needs no edit
abbrev pub settled_move : Result (Unit {0}) BindError → Result (Unit {0}) EditError
settled_move (Ok done) = Ok done
settled_move (Err bind.ZoneAlreadySet) = Ok tt
settled_move (Err bind.ZoneConflict) = Err edit.Memory
settled_move (Err bind.Unknown) = Err edit.Memory
settled_move (Err bind.Memory) = Err edit.Memory

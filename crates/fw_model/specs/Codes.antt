-- The names of refusals (firewalld.dbus(5), "Errors").
use Rattle.std.specs.Prelude.{ℕ, List, codes}
use Rattle.fw_model.specs.declared.code.Code.{Code}
use Rattle.fw_model.specs.declared.code.Code.TheVariants as code

-- A code is printed by its name.
abbrev pub code_name : Code → List ℕ
code_name code.AlreadyEnabled = codes "ALREADY_ENABLED"
code_name code.NotEnabled = codes "NOT_ENABLED"
code_name code.CommandFailed = codes "COMMAND_FAILED"
code_name code.InvalidZone = codes "INVALID_ZONE"
code_name code.InvalidPolicy = codes "INVALID_POLICY"
code_name code.InvalidService = codes "INVALID_SERVICE"
code_name code.InvalidPort = codes "INVALID_PORT"
code_name code.InvalidProtocol = codes "INVALID_PROTOCOL"
code_name code.InvalidIcmptype = codes "INVALID_ICMPTYPE"
code_name code.InvalidForward = codes "INVALID_FORWARD"
code_name code.InvalidInterface = codes "INVALID_INTERFACE"
code_name code.InvalidAddr = codes "INVALID_ADDR"
code_name code.InvalidIpset = codes "INVALID_IPSET"
code_name code.InvalidEntry = codes "INVALID_ENTRY"
code_name code.InvalidName = codes "INVALID_NAME"
code_name code.InvalidTarget = codes "INVALID_TARGET"
code_name code.InvalidPriority = codes "INVALID_PRIORITY"
code_name code.InvalidValue = codes "INVALID_VALUE"
code_name code.InvalidRule = codes "INVALID_RULE"
code_name code.MissingFamily = codes "MISSING_FAMILY"
code_name code.NameConflict = codes "NAME_CONFLICT"
code_name code.BuiltinZone = codes "BUILTIN_ZONE"
code_name code.ZoneAlreadySet = codes "ZONE_ALREADY_SET"
code_name code.ZoneConflict = codes "ZONE_CONFLICT"
code_name code.AlreadySet = codes "ALREADY_SET"
code_name code.UnknownInterface = codes "UNKNOWN_INTERFACE"
code_name code.UnknownSource = codes "UNKNOWN_SOURCE"
code_name code.IpsetWithTimeout = codes "IPSET_WITH_TIMEOUT"

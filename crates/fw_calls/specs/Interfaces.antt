-- The interfaces of firewalld's objects (firewalld.dbus(5)), by the names that scripts give them, which are this project's own.
use Rattle.std.specs.Prelude.{ℕ, codes, List}
use Rattle.fw_calls.specs.declared.interface.Interface.{Interface}
use Rattle.fw_calls.specs.declared.interface.Interface.TheVariants as interface

abbrev pub script_name : Interface → List ℕ
script_name interface.Root = codes "root"
script_name interface.Zone = codes "zone"
script_name interface.Policy = codes "policy"
script_name interface.Ipset = codes "ipset"
script_name interface.Config = codes "config"
script_name interface.ConfigZone = codes "config.zone"
script_name interface.ConfigPolicy = codes "config.policy"

-- Calls on the firewall as a whole, each as its member says (firewalld.dbus(5), interface `org.fedoraproject.FirewallD1`).
use Rattle.std.specs.Prelude.{Bool, true, false, Result, Ok}
use Rattle.fw_act.specs.Acts.{Answered}
use Rattle.fw_calls.specs.declared.call.RootCall.{RootCall}
use Rattle.fw_calls.specs.declared.call.RootCall.TheVariants as root
use Rattle.fw_calls.specs.declared.reply.Refusal.{Refusal}
use Rattle.fw_root_members.specs.Changing.{default_zone_member, disable_panic_member, enable_panic_member, log_denied_member, panic_mode_member, reload_member, services_member, set_default_zone_member, set_log_denied_member}
use Rattle.fw_root_members.specs.Numbering.{to_permanent_member}
use Rattle.fw_settings.specs.declared.settings.Settings.{Settings}

-- `completeReload` does what `reload` does: there are no kernel modules and no connections to drop here
unfoldable pub root_called : Settings → RootCall → Result (Answered Settings) Refusal
root_called settings root.DefaultZone = Ok (default_zone_member settings)
root_called settings (root.SetDefaultZone zone) = set_default_zone_member settings zone
root_called settings root.LogDenied = Ok (log_denied_member settings)
root_called settings (root.SetLogDenied value) = set_log_denied_member settings value
root_called settings root.PanicMode = Ok (panic_mode_member settings)
root_called settings root.EnablePanicMode = enable_panic_member settings
root_called settings root.DisablePanicMode = disable_panic_member settings
root_called settings root.Services = Ok (services_member settings)
root_called settings root.Reload = Ok (reload_member settings)
root_called settings root.CompleteReload = Ok (reload_member settings)
root_called settings root.RuntimeToPermanent = Ok (to_permanent_member settings)

-- whether a call only asks
unfoldable pub root_asks : RootCall → Bool
root_asks root.DefaultZone = true
root_asks (root.SetDefaultZone zone) = false
root_asks root.LogDenied = true
root_asks (root.SetLogDenied value) = false
root_asks root.PanicMode = true
root_asks root.EnablePanicMode = false
root_asks root.DisablePanicMode = false
root_asks root.Services = true
root_asks root.Reload = false
root_asks root.CompleteReload = false
root_asks root.RuntimeToPermanent = false

-- whether a call is a query that takes no memory
unfoldable pub root_takes_none : RootCall → Bool
root_takes_none root.DefaultZone = false
root_takes_none (root.SetDefaultZone zone) = false
root_takes_none root.LogDenied = false
root_takes_none (root.SetLogDenied value) = false
root_takes_none root.PanicMode = true
root_takes_none root.EnablePanicMode = false
root_takes_none root.DisablePanicMode = false
root_takes_none root.Services = false
root_takes_none root.Reload = false
root_takes_none root.CompleteReload = false
root_takes_none root.RuntimeToPermanent = false

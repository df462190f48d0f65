-- Numbers of events and of settings within their ranges (this project's own).
use Rattle.std.specs.Prelude.{◌≤◌}
use Rattle.fw_calls.specs.declared.call.Call.{Call}
use Rattle.fw_calls.specs.declared.call.Call.TheVariants as call
use Rattle.fw_calls.specs.declared.call.ZoneCall.{ZoneCall}
use Rattle.fw_calls.specs.declared.call.ZoneCall.TheVariants as zone
use Rattle.fw_calls.specs.declared.event.Event.{Event}
use Rattle.fw_calls.specs.declared.event.Event.TheVariants as event
use Rattle.fw_kept_valid.specs.Timeouts.{IsTimed}
use Rattle.fw_settings.specs.Valid.{last_number, last_time}
use Rattle.fw_settings.specs.declared.settings.Settings.{Settings}

-- a timeout is one of 32 bits
unfoldable pub IsZoneInRange : ZoneCall → Type 0
IsZoneInRange (zone.Setting verb name words) = IsTimed verb
IsZoneInRange (zone.Inversion verb name) = Unit {0}
IsZoneInRange (zone.Binding verb name word) = Unit {0}
IsZoneInRange (zone.ZoneOf word) = Unit {0}
IsZoneInRange zone.Zones = Unit {0}
IsZoneInRange zone.ActiveZones = Unit {0}
IsZoneInRange (zone.Settings name) = Unit {0}
IsZoneInRange (zone.SetSettings name dict) = Unit {0}

unfoldable pub IsCallInRange : Call → Type 0
IsCallInRange (call.Zone one) = IsZoneInRange one
IsCallInRange (call.Policy _) = Unit {0}
IsCallInRange (call.Ipset _) = Unit {0}
IsCallInRange (call.Root _) = Unit {0}
IsCallInRange (call.Config _) = Unit {0}
IsCallInRange (call.ConfigZone number _) = Unit {0}
IsCallInRange (call.ConfigPolicy number _) = Unit {0}

-- and a time is one that can be told
unfoldable pub IsInRange : Event → Type 0
IsInRange event.Open = Unit {0}
IsInRange (event.Call session call) = IsCallInRange call
IsInRange (event.Tick session now) = now ≤ last_time
IsInRange (event.Link session up name) = Unit {0}
IsInRange (event.Shut session) = Unit {0}

-- an event doesn't tell a time that is too late
unfoldable pub CanBeTold : Event → Type 0
CanBeTold event.Open = Unit {0}
CanBeTold (event.Call session call) = Unit {0}
CanBeTold (event.Tick session now) = now ≤ last_time
CanBeTold (event.Link session up name) = Unit {0}
CanBeTold (event.Shut session) = Unit {0}

-- the numbers of the next zone and of the next policy are of 64 bits
pub record AreInRange (settings : Settings) : Type 0 where
  pub zone : settings.next_zone ≤ last_number
  pub policy : settings.next_policy ≤ last_number

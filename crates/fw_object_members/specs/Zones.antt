-- Members on a zone of the permanent settings (firewalld.dbus(5), interface `org.fedoraproject.FirewallD1.config.zone`; which zones can't
-- be removed is by firewalld's errors `BUILTIN_ZONE` and `INVALID_ZONE`, and otherwise this project's own).
use Rattle.std.specs.Prelude.{ℕ, Bool, not, ◌||◌, List, Result, Ok, remove, slice_set}
use Rattle.std.specs.Fmt.{decimal}
use Rattle.std.specs.List.{list_any}
use Rattle.std.specs.Str.{bytes_eq}
use Rattle.fw_act.specs.Acts.{Answered, ◌>>=◌, replied, required}
use Rattle.fw_answer.specs.Lists.{is_in}
use Rattle.fw_calls.specs.declared.dict.Dict.{Dict}
use Rattle.fw_calls.specs.declared.reply.Refusal.{Refusal}
use Rattle.fw_calls.specs.declared.reply.Reply.TheVariants as reply
use Rattle.fw_dicts.specs.Zones.{others, zone_told}
use Rattle.fw_model.specs.declared.code.Code.TheVariants as code
use Rattle.fw_model.specs.declared.config.Config.{Config}
use Rattle.fw_model.specs.declared.policy.Policy.{Policy}
use Rattle.fw_model.specs.declared.zone.Zone.{Zone}
use Rattle.fw_object_members.specs.Objects.{zone_meant}
use Rattle.fw_service.specs.Zones.{built_in_zones}
use Rattle.fw_settings.specs.declared.settings.Settings.{Settings}

-- `getSettings2()`
unfoldable pub zone_settings_member : Settings → (number : ℕ) → Result (Answered Settings) Refusal
zone_settings_member settings number = do
  found ← zone_meant settings number
  Ok (replied settings (reply.ZoneSettings found.zone))

-- another zone at a place; it has the number of the one that was there
unfoldable pub with_zone_at : Settings → (place : ℕ) → Zone → Settings
with_zone_at settings place zone = record settings { permanent = record settings.permanent { zones = slice_set settings.permanent.zones place zone } }

-- `update2(settings)`
unfoldable pub update_zone_member : Settings → (number : ℕ) → Dict → Result (Answered Settings) Refusal
update_zone_member settings number dict = do
  found ← zone_meant settings number
  zone ← zone_told settings.permanent (others settings.permanent.zones found.place) found.zone dict
  Ok (replied (with_zone_at settings found.place zone) reply.None)

-- a zone of the built-in configuration has a name
unfoldable pub is_built_in : (name : List ℕ) → Bool
is_built_in name = list_any (λ zone. bytes_eq zone.name name) built_in_zones

-- packets come from a zone to a policy, or go to it, by the zone's name
abbrev pub names_zone : (name : List ℕ) → Policy → Bool
names_zone name policy = is_in bytes_eq name policy.ingress || is_in bytes_eq name policy.egress

-- a zone is the default zone, or a policy names it
unfoldable pub is_needed : Config → (name : List ℕ) → Bool
is_needed config name = bytes_eq config.default_zone name || list_any (names_zone name) config.policies

-- the place of the zone with a number, which may be removed; or the refusal
unfoldable pub removable_zone : Settings → (number : ℕ) → Result ℕ Refusal
removable_zone settings number = do
  found ← zone_meant settings number
  own ← required (not (is_built_in found.zone.name)) code.BuiltinZone (decimal number)
  unused ← required (not (is_needed settings.permanent found.zone.name)) code.InvalidZone (decimal number)
  Ok found.place

-- without the zone at a place, and without its number; the next number stays, so that none is given again
unfoldable pub without_zone_at : Settings → (place : ℕ) → Settings
without_zone_at settings place = record settings {
  permanent = record settings.permanent { zones = remove settings.permanent.zones place };
  zone_ids = remove settings.zone_ids place;
}

-- `remove()`
unfoldable pub remove_zone_member : Settings → (number : ℕ) → Result (Answered Settings) Refusal
remove_zone_member settings number = do
  place ← removable_zone settings number
  Ok (replied (without_zone_at settings place) reply.None)

-- Members that add a zone or a policy to the permanent settings (firewalld.dbus(5), `addZone2` and `addPolicy`; the order of the refusals
-- is this project's own).
use Rattle.std.specs.Prelude.{ℕ, Bool, not, ◌&&◌, List, [], ◌∷◌, ◌++◌, is_some, Result, Ok}
use Rattle.std.specs.Str.{bytes_eq}
use Rattle.fw_act.specs.Acts.{Answered, ◌>>=◌, replied, required}
use Rattle.fw_addr.specs.WellFormed.{is_name}
use Rattle.fw_calls.specs.declared.dict.Dict.{Dict}
use Rattle.fw_calls.specs.declared.reply.Refusal.{Refusal}
use Rattle.fw_calls.specs.declared.reply.Reply.TheVariants as reply
use Rattle.fw_config_members.specs.Paths.{policy_path, policy_place, zone_path}
use Rattle.fw_dicts.specs.Policies.{new_policy, policy_told}
use Rattle.fw_dicts.specs.Zones.{new_zone, zone_told}
use Rattle.fw_model.specs.declared.code.Code.TheVariants as code
use Rattle.fw_model.specs.declared.config.Config.{Config}
use Rattle.fw_model.specs.declared.policy.Policy.{Policy}
use Rattle.fw_model.specs.declared.zone.Zone.{Zone}
use Rattle.fw_root_members.specs.Numbering.{behind}
use Rattle.fw_settings.specs.declared.settings.Settings.{Settings}
use Rattle.fw_valid.specs.Names.{any, host}
use Rattle.fw_zone_edits.specs.Zones.{zone_named}

-- a name that a zone may have: well formed, and neither of those that mean the host and every zone
abbrev pub may_name_zone : (name : List ℕ) → Bool
may_name_zone name = is_name name && not (bytes_eq name host) && not (bytes_eq name any)

abbrev pub has_zone : Config → (name : List ℕ) → Bool
has_zone config name = is_some (zone_named config.zones name)

abbrev pub has_policy : Config → (name : List ℕ) → Bool
has_policy config name = is_some (policy_place config.policies name)

-- the zone that a name and a dict say, beside those that there are; or the first refusal
unfoldable pub added_zone : Config → (name : List ℕ) → Dict → Result Zone Refusal
added_zone config name dict = do
  well_formed ← required (may_name_zone name) code.InvalidName name
  free ← required (not (has_zone config name)) code.NameConflict name
  zone_told config config.zones (new_zone name) dict

-- likewise the policy
unfoldable pub added_policy : Config → (name : List ℕ) → Dict → Result Policy Refusal
added_policy config name dict = do
  well_formed ← required (is_name name) code.InvalidName name
  free ← required (not (has_policy config name)) code.NameConflict name
  policy_told config (new_policy name) dict

-- a zone more, behind the others; it gets the next number
unfoldable pub with_zone : Settings → Zone → Settings
with_zone settings zone = record settings {
  permanent = record settings.permanent { zones = settings.permanent.zones ++ zone ∷ [] };
  zone_ids = settings.zone_ids ++ settings.next_zone ∷ [];
  next_zone = behind settings.next_zone;
}

-- likewise a policy
unfoldable pub with_policy : Settings → Policy → Settings
with_policy settings policy = record settings {
  permanent = record settings.permanent { policies = settings.permanent.policies ++ policy ∷ [] };
  policy_ids = settings.policy_ids ++ settings.next_policy ∷ [];
  next_policy = behind settings.next_policy;
}

-- `addZone2(name, settings)`
unfoldable pub add_zone_member : Settings → (name : List ℕ) → Dict → Result (Answered Settings) Refusal
add_zone_member settings name dict = do
  zone ← added_zone settings.permanent name dict
  Ok (replied (with_zone settings zone) (reply.Path (zone_path settings.next_zone)))

-- `addPolicy(name, settings)`
unfoldable pub add_policy_member : Settings → (name : List ℕ) → Dict → Result (Answered Settings) Refusal
add_policy_member settings name dict = do
  policy ← added_policy settings.permanent name dict
  Ok (replied (with_policy settings policy) (reply.Path (policy_path settings.next_policy)))

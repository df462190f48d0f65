-- The objects of the permanent zones and policies (firewalld.dbus(5), "Object Paths"). Their numbers are this project's own: they count
-- from 0, and none is given again.
use Rattle.std.specs.Prelude.{ℕ, codes, List, ◌++◌, Option, position, slice_get}
use Rattle.std.specs.Fmt.{decimal}
use Rattle.std.specs.Str.{bytes_eq}
use Rattle.fw_model.specs.declared.policy.Policy.{Policy}
use Rattle.fw_settings.specs.declared.settings.Settings.{Settings}
use Rattle.fw_text.specs.Steps.{◌>>=◌}
use Rattle.fw_zone_edits.specs.Zones.{zone_named}

-- the path of the zone's object, and of the policy's, that has a number
unfoldable pub zone_path : (number : ℕ) → List ℕ
zone_path number = codes "/org/fedoraproject/FirewallD1/config/zone/" ++ decimal number

unfoldable pub policy_path : (number : ℕ) → List ℕ
policy_path number = codes "/org/fedoraproject/FirewallD1/config/policy/" ++ decimal number

-- the number of the permanent zone of a name
unfoldable pub zone_number : Settings → (name : List ℕ) → Option ℕ
zone_number settings name = do
  found ← zone_named settings.permanent.zones name
  slice_get settings.zone_ids found.place

-- the place of the first policy of a name
abbrev pub policy_place : List Policy → (name : List ℕ) → Option ℕ
policy_place policies name = position (λ policy. bytes_eq policy.name name) policies

-- the number of the permanent policy of a name
unfoldable pub policy_number : Settings → (name : List ℕ) → Option ℕ
policy_number settings name = do
  place ← policy_place settings.permanent.policies name
  slice_get settings.policy_ids place

-- The zone that a call names (firewalld.dbus(5), interface `org.fedoraproject.FirewallD1.zone`): an empty name is the
-- default zone's.
use Rattle.std.specs.Prelude.{ℕ, List, [], ◌∷◌, Option, Some, position, slice_get}
use Rattle.std.specs.Str.{bytes_eq}
use Rattle.fw_text.specs.Steps.{◌>>=◌}
use Rattle.fw_model.specs.declared.config.Config.{Config}
use Rattle.fw_model.specs.declared.zone.Zone.{Zone}

-- a zone, and its place in the list of zones
pub record Found : Type 0 where
  pub place : ℕ
  pub zone : Zone

-- the first zone of a name
abbrev pub zone_named : List Zone → (name : List ℕ) → Option Found
zone_named zones name = do
  place ← position (λ zone. bytes_eq zone.name name) zones
  zone ← slice_get zones place
  Some (record { place = place; zone = zone })

-- the name that is meant
abbrev pub meant : Config → (name : List ℕ) → List ℕ
meant config [] = config.default_zone
meant config (byte ∷ bytes) = byte ∷ bytes

abbrev pub zone_meant : Config → (name : List ℕ) → Option Found
zone_meant config name = zone_named config.zones (meant config name)

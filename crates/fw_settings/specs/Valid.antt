-- Which settings of the daemon are valid.
use Rattle.std.specs.Prelude.{◌≡◌, ◌⊎◌, ℕ, ◌+◌, ◌-◌, ◌^◌, ◌<◌, ◌≤◌, List, length, map, slice_get, Some}
use Rattle.fw_model.specs.declared.config.Config.{Config}
use Rattle.fw_model.specs.declared.setting.Setting.{Setting}
use Rattle.fw_model.specs.declared.setting.Timed.{Timed}
use Rattle.fw_model.specs.declared.zone.Zone.{Zone}
use Rattle.fw_settings.specs.declared.settings.Settings.{Settings}
use Rattle.fw_valid.specs.Each.{Each, IsWithoutRepeats}
use Rattle.fw_valid.specs.Valid.{IsValid}
use Rattle.fw_zone.specs.Lists.{IsIn}
use Rattle.fw_zone.specs.Settings.{Has}

-- the latest time that can be told, and the latest at which a setting can end
abbrev pub last_time : ℕ
last_time = 2 ^ 62

abbrev pub last_deadline : ℕ
last_deadline = 2 ^ 62 + 2 ^ 31

-- a setting of a zone, which a timer is of
pub record Subject : Type 0 where
  pub zone : List ℕ
  pub setting : Setting

abbrev pub subject : Timed → Subject
subject timed = record { zone = timed.zone; setting = timed.setting }

-- there is a zone of this name, and it has the setting
pub record IsHeld (config : Config) (held : Subject) : Type 0 where
  pub zone : Zone
  pub there : IsIn zone config.zones
  pub named : zone.name ≡ held.zone
  pub has : Has zone.rules held.setting

-- Each timer is of a setting that is there; no two are of one; and they end in time.
pub record AreTimers (config : Config) (timers : List Timed) : Type 0 where
  pub held : Each (λ (timed : Timed). IsHeld config (subject timed)) timers
  pub once : IsWithoutRepeats (map subject timers)
  pub in_time : Each (λ (timed : Timed). timed.deadline ≤ last_deadline) timers

-- the number that stays the next one, and that several objects may have
abbrev pub last_number : ℕ
last_number = 2 ^ 64 - 1

-- so many objects have numbers, each below the next one, and no two the same, but for the last number
pub record AreNumbers (count : ℕ) (numbers : List ℕ) (next : ℕ) : Type 0 where
  pub each : length numbers ≡ count
  pub below : Each (λ number. (number < next) ⊎ ((number ≡ last_number) × (next ≡ last_number))) numbers
  pub differ : (one other number : ℕ) → slice_get numbers one ≡ Some number → slice_get numbers other ≡ Some number → number < last_number → one ≡ other

pub record AreValid (settings : Settings) : Type 0 where
  pub permanent : IsValid settings.permanent
  pub runtime : IsValid settings.runtime.config
  pub timers : AreTimers settings.runtime.config settings.timers
  pub now : settings.now ≤ last_time
  pub zones : AreNumbers (length settings.permanent.zones) settings.zone_ids settings.next_zone
  pub policies : AreNumbers (length settings.permanent.policies) settings.policy_ids settings.next_policy

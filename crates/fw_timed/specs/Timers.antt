-- Timers: settings of zones that end by themselves (firewalld.dbus(5), the argument `timeout` of `addService` and its kin), as a
-- list in the order in which they were added. Times are seconds. Which timers are due, and in which order they end, is this
-- project's own.
use Rattle.std.specs.Prelude.{ℕ, nat_le, Bool, ◌&&◌, not, List}
use Rattle.std.specs.List.{filter, list_any}
use Rattle.std.specs.Ordering.{nat_cmp, is_lt}
use Rattle.std.specs.Str.{bytes_eq}
use Rattle.fw_model.specs.contracts.setting.SettingPartialEq.TheImpl as setting
use Rattle.fw_model.specs.declared.setting.Setting.{Setting}
use Rattle.fw_model.specs.declared.setting.Timed.{Timed}
use Rattle.fw_order.specs.Order.{in_order}

-- the same setting, part by part, as `==` says
unfoldable pub same_setting : Setting → Setting → Bool
same_setting = (setting.ghosts).eq

-- whether a timer is of a setting of a zone
abbrev pub is_of : (zone : List ℕ) → Setting → Timed → Bool
is_of zone setting timed = bytes_eq timed.zone zone && same_setting timed.setting setting

-- whether a setting of a zone has a timer
abbrev pub has_timer : (zone : List ℕ) → Setting → List Timed → Bool
has_timer zone setting timers = list_any (is_of zone setting) timers

-- the timers but those of a setting of a zone
abbrev pub without_timers : (zone : List ℕ) → Setting → List Timed → List Timed
without_timers zone setting timers = filter (λ timed. not (is_of zone setting timed)) timers

-- whether the time of a timer has come
abbrev pub is_due : (now : ℕ) → Timed → Bool
is_due now timed = nat_le timed.deadline now

abbrev pub ends_before : Timed → Timed → Bool
ends_before one other = is_lt (nat_cmp one.deadline other.deadline)

-- the timers whose time hasn't come
abbrev pub not_due : List Timed → (now : ℕ) → List Timed
not_due timers now = filter (λ timed. not (is_due now timed)) timers

-- The timers whose time has come, by their deadlines, and those of one deadline in order of adding.
abbrev pub due : List Timed → (now : ℕ) → List Timed
due timers now = in_order ends_before (filter (is_due now) timers)

-- Settings whose parts are the same are the same.
use Rattle.std.proofs.Common.{◌≡◌}
use Rattle.fw_settings.specs.declared.settings.Settings.{Settings}

pub settings_from_fields : (one other : Settings) → one.permanent ≡ other.permanent → one.runtime ≡ other.runtime → one.timers ≡ other.timers → one.now ≡ other.now
    → one.zone_ids ≡ other.zone_ids → one.policy_ids ≡ other.policy_ids → one.next_zone ≡ other.next_zone → one.next_policy ≡ other.next_policy → one ≡ other
settings_from_fields one other permanent_is runtime_is timers_is now_is zones_is policies_is zone_is policy_is =
    λ i. record { permanent = permanent_is i; runtime = runtime_is i; timers = timers_is i; now = now_is i; zone_ids = zones_is i; policy_ids = policies_is i; next_zone = zone_is i; next_policy = policy_is i }

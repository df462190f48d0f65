-- Members on the firewall as a whole keep the settings valid.
use Rattle.std.proofs.Common.{◌≡◌, ℕ, Bool, true, false, not, codes, List, Ok, refl, subst}
use Rattle.std.specs.Str.{bytes_eq}
use Rattle.fw_act.specs.Acts.{Answered, found_or, required}
use Rattle.fw_dicts_valid.proofs.Steps.{holds, inner, named_in, then_ok}
use Rattle.fw_model.specs.declared.code.Code.TheVariants as code
use Rattle.fw_model.specs.declared.config.Config.{Config}
use Rattle.fw_model.specs.declared.config.LogDenied.{LogDenied}
use Rattle.fw_model.specs.declared.zone.Zone.{Zone}
use Rattle.fw_parts_valid.proofs.Parts.{parts_timed, parts_valid}
use Rattle.fw_parts_valid.specs.Parts.{AreOtherSets}
use Rattle.fw_root_members.specs.Changing.{disable_panic_member, enable_panic_member, has_zone, reload_member, set_default_zone_member, set_log_denied_member, with_default_zone, with_log_denied, with_panic}
use Rattle.fw_root_members.specs.LogDenied.{log_denied, same_log_denied}
use Rattle.fw_roots_valid.proofs.Reloaded.{reloaded_valid}
use Rattle.fw_settings.specs.Valid.{AreValid}
use Rattle.fw_settings.specs.declared.settings.Settings.{Settings}
use Rattle.fw_valid.specs.Names.{zone_names}
use Rattle.fw_valid.specs.Valid.{IsValid}
use Rattle.fw_zone.specs.Lists.{IsIn}

-- the ipsets as they are
same_sets : (config : Config) → IsValid config → AreOtherSets config config.ipsets
same_sets config valid = record { names = refl; sets = valid.ipsets.sets; items = valid.no_repeats.items }

default_zone_valid : (settings : Settings) (zone : List ℕ) → AreValid settings → IsIn zone (zone_names settings.runtime.config) → IsIn zone (zone_names settings.permanent) → AreValid (with_default_zone settings zone)
default_zone_valid settings zone valid there kept =
    let config = settings.runtime.config in
    record {
      permanent = parts_valid settings.permanent zone settings.permanent.log_denied settings.permanent.ipsets valid.permanent kept (same_sets settings.permanent valid.permanent);
      runtime = parts_valid config zone config.log_denied config.ipsets valid.runtime there (same_sets config valid.runtime);
      timers = parts_timed config zone config.log_denied config.ipsets settings.timers valid.timers;
      now = valid.now;
      zones = valid.zones;
      policies = valid.policies;
    }

pub set_default_zone_valid : (settings : Settings) (zone : List ℕ) (answered : Answered Settings) → AreValid settings → set_default_zone_member settings zone ≡ Ok answered → AreValid answered.after
unfolding set_default_zone_member
set_default_zone_valid settings zone answered valid is =
    let in_force = then_ok _ (required (has_zone settings.runtime.config zone) code.InvalidZone zone) answered is in
    let kept = then_ok _ (required (has_zone settings.permanent zone) code.InvalidZone zone) answered in_force.2 in
    let other = then_ok _ (required (not (bytes_eq settings.runtime.config.default_zone zone)) code.ZoneAlreadySet zone) answered kept.2 in
    subst (λ (answered : Answered Settings). AreValid answered.after) (inner _ answered other.2)
    (default_zone_valid settings zone valid
    (named_in (λ (one : Zone). one.name) settings.runtime.config.zones zone (holds (has_zone settings.runtime.config zone) code.InvalidZone zone in_force.0 in_force.1))
    (named_in (λ (one : Zone). one.name) settings.permanent.zones zone (holds (has_zone settings.permanent zone) code.InvalidZone zone kept.0 kept.1)))

log_denied_valid : (settings : Settings) (denied : LogDenied) → AreValid settings → AreValid (with_log_denied settings denied)
log_denied_valid settings denied valid =
    let config = settings.runtime.config in
    record {
      permanent = parts_valid settings.permanent settings.permanent.default_zone denied settings.permanent.ipsets valid.permanent valid.permanent.default_zone (same_sets settings.permanent valid.permanent);
      runtime = parts_valid config config.default_zone denied config.ipsets valid.runtime valid.runtime.default_zone (same_sets config valid.runtime);
      timers = parts_timed config config.default_zone denied config.ipsets settings.timers valid.timers;
      now = valid.now;
      zones = valid.zones;
      policies = valid.policies;
    }

pub set_log_denied_valid : (settings : Settings) (value : List ℕ) (answered : Answered Settings) → AreValid settings → set_log_denied_member settings value ≡ Ok answered → AreValid answered.after
unfolding set_log_denied_member
set_log_denied_valid settings value answered valid is =
    let denied = then_ok _ (found_or code.InvalidValue value (log_denied value)) answered is in
    let other = then_ok _ (required (not (same_log_denied settings.runtime.config.log_denied denied.0)) code.AlreadySet value) answered denied.2 in
    subst (λ (answered : Answered Settings). AreValid answered.after) (inner _ answered other.2)
    (reloaded_valid (with_log_denied settings denied.0) (log_denied_valid settings denied.0 valid))

panic_valid : (settings : Settings) (panic : Bool) → AreValid settings → AreValid (with_panic settings panic)
panic_valid settings panic valid = record {
  permanent = valid.permanent;
  runtime = valid.runtime;
  timers = valid.timers;
  now = valid.now;
  zones = valid.zones;
  policies = valid.policies;
}

pub enable_panic_valid : (settings : Settings) (answered : Answered Settings) → AreValid settings → enable_panic_member settings ≡ Ok answered → AreValid answered.after
unfolding enable_panic_member
enable_panic_valid settings answered valid is =
    let off = then_ok _ (required (not settings.runtime.panic) code.AlreadyEnabled (codes "panic")) answered is in
    subst (λ (answered : Answered Settings). AreValid answered.after) (inner _ answered off.2) (panic_valid settings true valid)

pub disable_panic_valid : (settings : Settings) (answered : Answered Settings) → AreValid settings → disable_panic_member settings ≡ Ok answered → AreValid answered.after
unfolding disable_panic_member
disable_panic_valid settings answered valid is =
    let on = then_ok _ (required settings.runtime.panic code.NotEnabled (codes "panic")) answered is in
    subst (λ (answered : Answered Settings). AreValid answered.after) (inner _ answered on.2) (panic_valid settings false valid)

pub reload_valid : (settings : Settings) → AreValid settings → AreValid (reload_member settings).after
reload_valid settings valid = reloaded_valid settings valid

-- Timers stay those of settings that are there while a zone keeps its name and these settings.
use Rattle.std.proofs.Common.{◌≡◌, ℕ, zero, suc, inl, inr, List, [], ◌∷◌, Some, slice_get, slice_set, refl, sym, subst, ap, ◌∙◌}
use Rattle.fw_model.specs.declared.config.Config.{Config}
use Rattle.fw_model.specs.declared.setting.Timed.{Timed}
use Rattle.fw_model.specs.declared.zone.Zone.{Zone}
use Rattle.fw_settings.specs.Valid.{AreTimers, IsHeld, Subject, subject}
use Rattle.fw_valid_edits.proofs.Edited.{each_weaker}
use Rattle.fw_valid_edits.specs.Fit.{with_zones}
use Rattle.fw_zone.specs.Lists.{IsIn}
use Rattle.fw_zone.specs.Settings.{Has}

-- a zone of this name with the setting
record IsHolder (zones : List Zone) (held : Subject) : Type 0 where
  zone : Zone
  there : IsIn zone zones
  named : zone.name ≡ held.zone
  has : Has zone.rules held.setting

same_item : (one other : Zone) → Some one ≡ Some other → one ≡ other
same_item one other is = cc

behind : (zones : List Zone) (first : Zone) (held : Subject) → IsHolder zones held → IsHolder (first ∷ zones) held
behind zones first held holder = record { zone = holder.zone; there = inr holder.there; named = holder.named; has = holder.has }

holder_stays : (zones : List Zone) (place : ℕ) (old new : Zone) (held : Subject) → slice_get zones place ≡ Some old → new.name ≡ old.name
    → (old.name ≡ held.zone → Has old.rules held.setting → Has new.rules held.setting) → (zone : Zone) → IsIn zone zones → zone.name ≡ held.zone → Has zone.rules held.setting
    → IsHolder (slice_set zones place new) held
holder_stays [] place old new held at same goes zone there named has = cc
holder_stays (first ∷ zones) zero old new held at same goes zone (inl is) named has =
    let one : zone ≡ old = sym is ∙ same_item first old at in
    let old_named : old.name ≡ held.zone = ap (λ (z : Zone). z.name) (sym one) ∙ named in
    record {
      zone = new;
      there = inl refl;
      named = same ∙ old_named;
      has = goes old_named (subst (λ (z : Zone). Has z.rules held.setting) one has);
    }
holder_stays (first ∷ zones) zero old new held at same goes zone (inr rest) named has = record { zone = zone; there = inr rest; named = named; has = has }
holder_stays (first ∷ zones) (suc place) old new held at same goes zone (inl is) named has = record { zone = zone; there = inl is; named = named; has = has }
holder_stays (first ∷ zones) (suc place) old new held at same goes zone (inr rest) named has =
    behind (slice_set zones place new) first held (holder_stays zones place old new held at same goes zone rest named has)

-- what is held, where another zone of its name comes in place of a zone, and has what is held if that one has
pub held_stays : (config : Config) (place : ℕ) (old new : Zone) (held : Subject) → slice_get config.zones place ≡ Some old → new.name ≡ old.name
    → (old.name ≡ held.zone → Has old.rules held.setting → Has new.rules held.setting) → IsHeld config held → IsHeld (with_zones config (slice_set config.zones place new)) held
held_stays config place old new held at same goes is =
    let holder = holder_stays config.zones place old new held at same goes is.zone is.there is.named is.has in
    record { zone = holder.zone; there = holder.there; named = holder.named; has = holder.has }

-- timers, where that zone has all that the other one had
pub timers_stay : (config : Config) (place : ℕ) (old new : Zone) (timers : List Timed) → slice_get config.zones place ≡ Some old → new.name ≡ old.name → new.rules ≡ old.rules
    → AreTimers config timers → AreTimers (with_zones config (slice_set config.zones place new)) timers
timers_stay config place old new timers at same rules are = record {
  held = each_weaker (λ (timed : Timed). IsHeld config (subject timed)) (λ (timed : Timed). IsHeld (with_zones config (slice_set config.zones place new)) (subject timed)) timers
      (λ timed held. held_stays config place old new (subject timed) at same (λ named has. subst (λ r. Has r timed.setting) (sym rules) has) held) are.held;
  once = are.once;
  in_time = are.in_time;
}

-- What an event leaves of the settings in force, of the permanent ones, and of counts.
use Rattle.std.proofs.Common.{arith, ◌≡◌, ◌≢◌, ◌⊎◌, inl, inr, ◌≤◌, ◌+◌, ℕ, List, [], ◌∷◌, ◌++◌, refl, sym, subst}
use Rattle.fw_act.specs.Acts.{Answered}
use Rattle.fw_base.specs.Causes.{Rose}
use Rattle.fw_calls.specs.declared.applied.Applied.{Applied}
use Rattle.fw_calls.specs.declared.applied.Applied.TheVariants as applied
use Rattle.fw_calls.specs.declared.event.Entry.{Entry}
use Rattle.fw_daemon.specs.Daemons.{Counted, failed, failures}
use Rattle.fw_daemon.specs.Outside.{tries}
use Rattle.fw_replay.specs.Replay.{settled_as}
use Rattle.fw_settings.specs.declared.settings.Settings.{Settings}

-- a commit that is done puts what is to be in force into force
pub runtime_is : (settings : Settings) (done : Answered Settings) (save commit : Applied) → commit ≡ applied.Done → save ≢ applied.Failed
    → done.after.runtime ≡ (settled_as settings done save commit).settings.runtime
unfolding settled_as
runtime_is settings done applied.Skipped commit is not_failed = subst (λ (which : Applied). done.after.runtime ≡ (settled_as settings done applied.Skipped which).settings.runtime) (sym is) refl
runtime_is settings done applied.Done commit is not_failed = subst (λ (which : Applied). done.after.runtime ≡ (settled_as settings done applied.Done which).settings.runtime) (sym is) refl
runtime_is settings done applied.Failed commit is not_failed = absurd (not_failed refl)

-- one that failed, or a save that did, leaves what is in force
pub runtime_stays : (settings : Settings) (done : Answered Settings) (save commit : Applied) → (commit ≡ applied.Failed) ⊎ (save ≡ applied.Failed)
    → settings.runtime ≡ (settled_as settings done save commit).settings.runtime
unfolding settled_as
runtime_stays settings done applied.Failed commit whether = refl
runtime_stays settings done applied.Skipped applied.Failed whether = refl
runtime_stays settings done applied.Done applied.Failed whether = refl
runtime_stays settings done applied.Skipped applied.Skipped (inl is) = absurd cc
runtime_stays settings done applied.Skipped applied.Skipped (inr is) = absurd cc
runtime_stays settings done applied.Skipped applied.Done (inl is) = absurd cc
runtime_stays settings done applied.Skipped applied.Done (inr is) = absurd cc
runtime_stays settings done applied.Done applied.Skipped (inl is) = absurd cc
runtime_stays settings done applied.Done applied.Skipped (inr is) = absurd cc
runtime_stays settings done applied.Done applied.Done (inl is) = absurd cc
runtime_stays settings done applied.Done applied.Done (inr is) = absurd cc

-- where it doesn't change, it stays whatever fails
pub runtime_same : (settings : Settings) (done : Answered Settings) (save commit : Applied) → done.after.runtime ≡ settings.runtime
    → settings.runtime ≡ (settled_as settings done save commit).settings.runtime
unfolding settled_as
runtime_same settings done applied.Failed commit is = refl
runtime_same settings done applied.Skipped applied.Failed is = refl
runtime_same settings done applied.Done applied.Failed is = refl
runtime_same settings done applied.Skipped applied.Skipped is = sym is
runtime_same settings done applied.Skipped applied.Done is = sym is
runtime_same settings done applied.Done applied.Skipped is = sym is
runtime_same settings done applied.Done applied.Done is = sym is

-- a save that didn't fail leaves what is to be kept
pub permanent_is : (settings : Settings) (done : Answered Settings) (save commit : Applied) → save ≢ applied.Failed
    → done.after.permanent ≡ (settled_as settings done save commit).settings.permanent
unfolding settled_as
permanent_is settings done applied.Failed commit not_failed = absurd (not_failed refl)
permanent_is settings done applied.Skipped applied.Failed not_failed = refl
permanent_is settings done applied.Done applied.Failed not_failed = refl
permanent_is settings done applied.Skipped applied.Skipped not_failed = refl
permanent_is settings done applied.Skipped applied.Done not_failed = refl
permanent_is settings done applied.Done applied.Skipped not_failed = refl
permanent_is settings done applied.Done applied.Done not_failed = refl

-- one that failed leaves what was kept
pub permanent_stays : (settings : Settings) (done : Answered Settings) (save commit : Applied) → save ≡ applied.Failed
    → settings.permanent ≡ (settled_as settings done save commit).settings.permanent
unfolding settled_as
permanent_stays settings done applied.Failed commit is = refl
permanent_stays settings done applied.Skipped commit is = absurd cc
permanent_stays settings done applied.Done commit is = absurd cc

pub failures_behind : (result_of : Entry → Applied) (entries : List Entry) (entry : Entry)
    → failures result_of (entries ++ entry ∷ []) ≡ failures result_of entries + failed (result_of entry)
unfolding failures
failures_behind result_of [] entry = let alone : (count : ℕ) → count + 0 ≡ 0 + count = λ count. omega arith in alone (failed (result_of entry))
failures_behind result_of (first ∷ entries) entry =
    let step : (one two three four : ℕ) → two ≡ three + four → one + two ≡ (one + three) + four = λ one two three four is. omega (arith, is) in
    step (failed (result_of first)) _ (failures result_of entries) (failed (result_of entry)) (failures_behind result_of entries entry)

-- a fault more is counted where one came, and none is forgotten
pub counted_on : (first count before now : ℕ) (result : Applied) → Counted first count before
    → (result ≡ applied.Failed → Rose before now) → (result ≢ applied.Failed → now ≡ before)
    → Counted first (count + failed result) now
counted_on first count before now applied.Failed was rose same = let up : Rose before now = rose refl in omega (arith, was, up)
counted_on first count before now applied.Skipped was rose same = let is : now ≡ before = same (λ no_way. absurd cc) in omega (arith, was, is)
counted_on first count before now applied.Done was rose same = let is : now ≡ before = same (λ no_way. absurd cc) in omega (arith, was, is)

pub tried_at_most : (before now most count : ℕ) (result : Applied) → before ≤ most + count → now ≡ before + tries result → now ≤ most + (count + 1)
tried_at_most before now most count applied.Skipped was is = omega (arith, was, is)
tried_at_most before now most count applied.Done was is = omega (arith, was, is)
tried_at_most before now most count applied.Failed was is = omega (arith, was, is)

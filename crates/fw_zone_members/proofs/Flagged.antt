-- That a service is listed is that it is one of the settings.
use Rattle.std.proofs.Common.{◌≡◌, ℕ, List, Option, None, Some, Ok, Err, bytes_eq, refl}
use Rattle.std.specs.List.{list_any}
use Rattle.std.specs.Option.{ok_or}
use Rattle.fw_model.specs.declared.rules.Rules.{Rules}
use Rattle.fw_model.specs.declared.setting.Setting.TheVariants as setting
use Rattle.fw_zone_edits.specs.Settings.{has}

pub has_service : (rules : Rules) (name : List ℕ) → list_any (λ listed. bytes_eq listed name) rules.services ≡ has rules (setting.Service name)
unfolding has
has_service rules name = λ i. list_any (λ listed. bytes_eq listed name) rules.services

-- what a reading that was answered found, and that one which was refused found nothing
pub was_found : {A E : Type 0} (found : Option A) (refusal : E) (item : A) → Ok item ≡ ok_or found refusal → found ≡ Some item
was_found None refusal item answered = cc
was_found (Some other) refusal item answered = cc

pub was_none : {A E : Type 0} (found : Option A) (refusal error : E) → Err error ≡ ok_or found refusal → found ≡ None
was_none None refusal error answered = refl
was_none (Some other) refusal error answered = cc

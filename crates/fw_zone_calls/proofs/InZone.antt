-- A call on one zone is a call on the configuration.
use Rattle.std.proofs.Common.{◌≡◌, ℕ, List, Some, Result, Ok, Err, slice_get, slice_set, refl, sym, ap, ◌∙◌}
use Rattle.fw_model.specs.declared.config.Config.{Config}
use Rattle.fw_model.specs.declared.zone.Zone.{Zone}
use Rattle.fw_answer.proofs.Places.{set_as_it_was}
use Rattle.fw_zone_calls.specs.Calls.{in_zone, look_up}
use Rattle.fw_answer.specs.Refusals.{Answered, Answers, ◌>>=◌, result_and_then}
use Rattle.fw_zone_calls.specs.Zones.{Found}
use Rattle.fw_answer.specs.declared.answer.Answer.{Answer}
use Rattle.fw_answer.specs.declared.refusal.Refusal.{Refusal}
use Rattle.fw_answer.specs.declared.refusal.Stop.{Stop}
use Rattle.fw_answer.specs.declared.refusal.Stop.TheVariants as stop

abbrev with_zone : Config → (place : ℕ) → Zone → Config
with_zone config place zone = record config { zones = slice_set config.zones place zone }

abbrev put_back : Config → Found → Answered Zone → Result (Answered Config) Refusal
put_back config found answered = Ok (record { signals = answered.signals; reply = answered.reply; after = with_zone config found.place answered.after })

-- the zone is found, and then the call on it
found_in : (config : Config) (name : List ℕ) (act : Zone → Result (Answered Zone) Refusal) (found : Found) (answered : Result (Answered Zone) Refusal) → look_up config name ≡ Ok found → act found.zone ≡ answered → in_zone config name act ≡ result_and_then (put_back config found) answered
found_in config name act found answered meant is =
    ap (λ (looked : Result Found Refusal). result_and_then (λ one. result_and_then (put_back config one) (act one.zone)) looked) meant
    ∙ ap (λ (done : Result (Answered Zone) Refusal). result_and_then (put_back config found) done) is

pub zone_answers : (config : Config) (name : List ℕ) (act : Zone → Result (Answered Zone) Refusal) (found : Found) (zone : Zone) (result : Result Answer Stop) → look_up config name ≡ Ok found → slice_get config.zones found.place ≡ Some found.zone → Answers found.zone zone result (act found.zone) → Answers config (with_zone config found.place zone) result (in_zone config name act)
zone_answers config name act found zone (Ok answer) meant at is = found_in config name act found _ meant is
zone_answers config name act found zone (Err (stop.Refused refusal)) meant at (is, kept) = (
  found_in config name act found (Err refusal) meant is,
  ap (λ z. with_zone config found.place z) kept ∙ ap (λ zones. record config { zones = zones }) (set_as_it_was config.zones found.place found.zone at),
)
zone_answers config name act found zone (Err stop.Memory) meant at (is, kept) =
    (tt, ap (λ z. with_zone config found.place z) kept ∙ ap (λ zones. record config { zones = zones }) (set_as_it_was config.zones found.place found.zone at))

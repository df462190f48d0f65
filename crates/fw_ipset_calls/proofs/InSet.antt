-- A call on one ipset is a call on the configuration.
use Rattle.std.proofs.Common.{◌≡◌, ℕ, List, Some, Result, Ok, Err, slice_get, slice_set, ap, ◌∙◌}
use Rattle.fw_answer.proofs.Places.{set_as_it_was}
use Rattle.fw_answer.specs.Refusals.{Answered, Answers, result_and_then}
use Rattle.fw_answer.specs.declared.answer.Answer.{Answer}
use Rattle.fw_answer.specs.declared.refusal.Refusal.{Refusal}
use Rattle.fw_answer.specs.declared.refusal.Stop.{Stop}
use Rattle.fw_answer.specs.declared.refusal.Stop.TheVariants as stop
use Rattle.fw_ipset_calls.specs.Calls.{in_set, look_up}
use Rattle.fw_ipset_calls.specs.Sets.{Found}
use Rattle.fw_model.specs.declared.config.Config.{Config}
use Rattle.fw_model.specs.declared.ipset.IpSet.{IpSet}

abbrev with_set : Config → (place : ℕ) → IpSet → Config
with_set config place set = record config { ipsets = slice_set config.ipsets place set }

abbrev put_back : Config → Found → Answered IpSet → Result (Answered Config) Refusal
put_back config found answered = Ok (record { signals = answered.signals; reply = answered.reply; after = with_set config found.place answered.after })

-- the ipset is found, and then the call on it
found_in : (config : Config) (name : List ℕ) (act : IpSet → Result (Answered IpSet) Refusal) (found : Found) (answered : Result (Answered IpSet) Refusal) → look_up config name ≡ Ok found → act found.set ≡ answered → in_set config name act ≡ result_and_then (put_back config found) answered
found_in config name act found answered meant is =
    ap (λ (looked : Result Found Refusal). result_and_then (λ one. result_and_then (put_back config one) (act one.set)) looked) meant
    ∙ ap (λ (done : Result (Answered IpSet) Refusal). result_and_then (put_back config found) done) is

as_it_was : (config : Config) (found : Found) (set : IpSet) → slice_get config.ipsets found.place ≡ Some found.set → set ≡ found.set → with_set config found.place set ≡ config
as_it_was config found set at kept =
    ap (λ s. with_set config found.place s) kept
    ∙ ap (λ sets. record config { ipsets = sets }) (set_as_it_was config.ipsets found.place found.set at)

pub set_answers : (config : Config) (name : List ℕ) (act : IpSet → Result (Answered IpSet) Refusal) (found : Found) (set : IpSet) (result : Result Answer Stop) → look_up config name ≡ Ok found → slice_get config.ipsets found.place ≡ Some found.set → Answers found.set set result (act found.set) → Answers config (with_set config found.place set) result (in_set config name act)
set_answers config name act found set (Ok answer) meant at is = found_in config name act found _ meant is
set_answers config name act found set (Err (stop.Refused refusal)) meant at (is, kept) =
    (found_in config name act found (Err refusal) meant is, as_it_was config found set at kept)
set_answers config name act found set (Err stop.Memory) meant at (is, kept) = (tt, as_it_was config found set at kept)

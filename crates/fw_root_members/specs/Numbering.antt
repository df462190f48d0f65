-- The settings in force become the permanent ones (firewalld.dbus(5), `runtimeToPermanent`). That settings which end by themselves are
-- left out, and which numbers zones and policies have afterwards, is this project's own.
use Rattle.std.specs.Prelude.{ℕ, ◌+◌, ◌-◌, ◌^◌, min, List, [], ◌∷◌, ◌++◌, fold, Option, None, Some, position, slice_get}
use Rattle.std.specs.Str.{bytes_eq}
use Rattle.fw_act.specs.Acts.{Answered, replied}
use Rattle.fw_calls.specs.declared.reply.Reply.TheVariants as reply
use Rattle.fw_model.specs.declared.config.Config.{Config}
use Rattle.fw_model.specs.declared.policy.Policy.{Policy}
use Rattle.fw_model.specs.declared.setting.Timed.{Timed}
use Rattle.fw_model.specs.declared.zone.Zone.{Zone}
use Rattle.fw_root_members.specs.declared.numbering.Numbers.{Numbers}
use Rattle.fw_settings.specs.declared.settings.Settings.{Settings}
use Rattle.fw_text.specs.Steps.{◌>>=◌}
use Rattle.fw_zone_edits.specs.Endings.{all_ended}

-- the next number but one; the last number stays
abbrev pub behind : (number : ℕ) → ℕ
behind number = min (number + 1) (2 ^ 64 - 1)

-- the number of the object of a name, of objects and their numbers
abbrev pub number_of : {T : Type 0} → (name_of : T → List ℕ) → List T → (numbers : List ℕ) → (name : List ℕ) → Option ℕ
number_of name_of objects numbers name = do
  place ← position (λ object. bytes_eq (name_of object) name) objects
  slice_get numbers place

-- an object more: it keeps its number, or gets the next
abbrev pub with_number : Numbers → Option ℕ → Numbers
with_number so_far (Some number) = record so_far { numbers = so_far.numbers ++ number ∷ [] }
with_number so_far None = record { numbers = so_far.numbers ++ so_far.next ∷ []; next = behind so_far.next }

-- the numbers of new objects, by those of old ones
abbrev pub numbered : {T : Type 0} → (name_of : T → List ℕ) → List T → (numbers : List ℕ) → (next : ℕ) → (new : List T) → Numbers
numbered name_of objects numbers next new =
    fold (λ so_far object. with_number so_far (number_of name_of objects numbers (name_of object))) (record { numbers = []; next = next }) new

-- a configuration in which all that ends by itself ended
abbrev pub lasting : Config → List Timed → Config
lasting config timers = record config { zones = all_ended config.zones timers }

-- the numbers of the zones and of the policies in force, as they will be the permanent ones
abbrev pub zone_numbers : Settings → Numbers
zone_numbers settings =
    numbered (λ (zone : Zone). zone.name) settings.permanent.zones settings.zone_ids settings.next_zone settings.runtime.config.zones

abbrev pub policy_numbers : Settings → Numbers
policy_numbers settings =
    numbered (λ (policy : Policy). policy.name) settings.permanent.policies settings.policy_ids settings.next_policy settings.runtime.config.policies

unfoldable pub to_permanent : Settings → Settings
to_permanent settings = record settings {
  permanent = lasting settings.runtime.config settings.timers;
  zone_ids = (zone_numbers settings).numbers;
  next_zone = (zone_numbers settings).next;
  policy_ids = (policy_numbers settings).numbers;
  next_policy = (policy_numbers settings).next;
}

-- `runtimeToPermanent()`
abbrev pub to_permanent_member : Settings → Answered Settings
to_permanent_member settings = replied (to_permanent settings) reply.None

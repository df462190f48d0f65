-- Rich rules as calls spell them (firewalld.dbus(5), `addRichRule` and its kin). The order of the refusals is this project's own.
use Rattle.std.specs.Prelude.{ℕ, Bool, true, false, not, ◌&&◌, if◌then◌else◌, List, Option, None, Some, Result, Ok, Err}
use Rattle.std.specs.List.{list_any}
use Rattle.std.specs.Str.{bytes_eq}
use Rattle.fw_model.specs.declared.binding.Binding.{Binding}
use Rattle.fw_model.specs.declared.binding.Binding.TheVariants as source
use Rattle.fw_model.specs.declared.code.Code.{Code}
use Rattle.fw_model.specs.declared.code.Code.TheVariants as code
use Rattle.fw_model.specs.declared.ipset.IpSet.{IpSet}
use Rattle.fw_model.specs.declared.rich.Act.{Act}
use Rattle.fw_model.specs.declared.rich.Act.TheVariants as act
use Rattle.fw_model.specs.declared.rich.Action.{Action}
use Rattle.fw_model.specs.declared.rich.Element.{Element}
use Rattle.fw_model.specs.declared.rich.Element.TheVariants as element
use Rattle.fw_model.specs.declared.rich.Rich.{Rich}
use Rattle.fw_model.specs.declared.rich.Side.{Side}
use Rattle.fw_model.specs.declared.service.Service.{Service}
use Rattle.fw_rich.specs.Refused.{refused_value}
use Rattle.fw_rich.specs.Rich.{Refusable, rich_text}
use Rattle.fw_rich.specs.declared.error.RichError.{RichError}
use Rattle.fw_rich.specs.declared.error.RichError.TheVariants as reason
use Rattle.fw_service.specs.Known.{is_known}
use Rattle.fw_answer.specs.Refusals.{◌>>=◌, refused, result_and_then}
use Rattle.fw_answer.specs.declared.refusal.Refusal.{Refusal}

-- why a text isn't a rule: a bad value is named alone, and else the text as it came (no text is refused for memory)
abbrev pub unread : (text : List ℕ) → RichError → Result Rich Refusal
unread text (reason.Rule offset) = refused code.InvalidRule text
unread text (reason.Part code place) = refused code (refused_value text place)
unread text reason.MissingFamily = refused code.MissingFamily text
unread text reason.Memory = refused code.InvalidRule text

abbrev pub rule_read : (text : List ℕ) → Refusable Rich → Result Rich Refusal
rule_read text (Ok rule) = Ok rule
rule_read text (Err error) = unread text error

-- what translates addresses or ports
abbrev pub translates : Option Element → Bool
translates (Some element.Masquerade) = true
translates (Some (element.Forward forward)) = true
translates other = false

abbrev pub is_mark : Act → Bool
is_mark (act.Mark value mask) = true
is_mark other = false

abbrev pub marks : Option Action → Bool
marks None = false
marks (Some action) = is_mark action.act

-- a rule that packets are walked through: translation and marks aren't yet
abbrev pub is_walked : Rich → Bool
is_walked rule = not (translates rule.element) && not (marks rule.action)

-- a rule's service is one of the configuration's
abbrev pub service_known : List Service → Option Element → Bool
service_known services (Some (element.Service name)) = is_known services name
service_known services other = true

-- and so are the ipsets of its source and its destination
abbrev pub ipset_known : List IpSet → Binding → Bool
ipset_known ipsets (source.Set name) = list_any (λ set. bytes_eq set.name name) ipsets
ipset_known ipsets other = true

abbrev pub side_known : List IpSet → Option Side → Bool
side_known ipsets None = true
side_known ipsets (Some side) = ipset_known ipsets side.what

abbrev pub sides_known : List IpSet → Rich → Bool
sides_known ipsets rule = side_known ipsets rule.source && side_known ipsets rule.dest

-- something that has to hold of a text's rule
abbrev pub required : Bool → Code → (text : List ℕ) → Result (Unit {0}) Refusal
required holds code text = if holds then Ok tt else refused code text

-- the rule that a text spells, or the first refusal
unfoldable pub rule_of : List Service → List IpSet → (text : List ℕ) → Result Rich Refusal
rule_of services ipsets text = do
  rule ← rule_read text (rich_text text)
  walked ← required (is_walked rule) code.InvalidRule text
  service ← required (service_known services rule.element) code.InvalidService text
  sets ← required (sides_known ipsets rule) code.InvalidIpset text
  Ok rule

-- Rich rules as calls spell them (firewalld.dbus(5), `addRichRule` and its kin). The order of the refusals is this project's own.
use Rattle.std.specs.Prelude.{ℕ, Bool, true, ◌&&◌, List, Option, None, Some, Result, Ok, Err}
use Rattle.std.specs.List.{list_any}
use Rattle.std.specs.Str.{bytes_eq}
use Rattle.fw_act.specs.Acts.{◌>>=◌, refused, required}
use Rattle.fw_calls.specs.declared.reply.Refusal.{Refusal}
use Rattle.fw_model.specs.declared.binding.Binding.{Binding}
use Rattle.fw_model.specs.declared.binding.Binding.TheVariants as source
use Rattle.fw_model.specs.declared.code.Code.TheVariants as code
use Rattle.fw_model.specs.declared.config.Config.{Config}
use Rattle.fw_model.specs.declared.ipset.IpSet.{IpSet}
use Rattle.fw_model.specs.declared.rich.Element.{Element}
use Rattle.fw_model.specs.declared.rich.Element.TheVariants as element
use Rattle.fw_model.specs.declared.rich.Rich.{Rich}
use Rattle.fw_model.specs.declared.rich.Side.{Side}
use Rattle.fw_model.specs.declared.service.Service.{Service}
use Rattle.fw_rich.specs.Refused.{refused_value}
use Rattle.fw_rich.specs.Rich.{Refusable, rich_text}
use Rattle.fw_rich.specs.declared.error.RichError.{RichError}
use Rattle.fw_rich.specs.declared.error.RichError.TheVariants as reason
use Rattle.fw_service.specs.Known.{is_known}

-- why a text isn't a rule: a bad value is named alone, and else the text as it came (no text is refused for memory)
abbrev pub unread : (text : List ℕ) → RichError → Result Rich Refusal
unread text (reason.Rule offset) = refused code.InvalidRule text
unread text (reason.Part code place) = refused code (refused_value text place)
unread text reason.MissingFamily = refused code.MissingFamily text
unread text reason.Memory = refused code.InvalidRule text

abbrev pub rule_read : (text : List ℕ) → Refusable Rich → Result Rich Refusal
rule_read text (Ok rule) = Ok rule
rule_read text (Err error) = unread text error

-- a rule's service is one of those in force
abbrev pub service_known : List Service → Option Element → Bool
service_known services (Some (element.Service name)) = is_known services name
service_known services other = true

-- and so are the ipsets of its source and its destination
abbrev pub ipset_known : List IpSet → Binding → Bool
ipset_known ipsets (source.Set name) = list_any (λ set. bytes_eq set.name name) ipsets
ipset_known ipsets other = true

abbrev pub side_known : List IpSet → Option Side → Bool
side_known ipsets None = true
side_known ipsets (Some side) = ipset_known ipsets side.what

abbrev pub sides_known : List IpSet → Rich → Bool
sides_known ipsets rule = side_known ipsets rule.source && side_known ipsets rule.dest

-- the rule that a text spells, or the first refusal
unfoldable pub rule_of : Config → (text : List ℕ) → Result Rich Refusal
rule_of config text = do
  rule ← rule_read text (rich_text text)
  service ← required (service_known config.services rule.element) code.InvalidService text
  sets ← required (sides_known config.ipsets rule) code.InvalidIpset text
  Ok rule

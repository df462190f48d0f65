-- Queries of zones that are answered with a flag and take no memory (this project's own choice): `queryService`, `queryPort`,
-- `queryProtocol`, `querySourcePort`, `queryMasquerade` and `queryInterface` (firewalld.dbus(5)).
use Rattle.std.specs.Prelude.{◌≡◌, Bool, true, false, IsErr, MatchOption, Option, Result, Ok}
use Rattle.fw_act.specs.Acts.{Answered, replied}
use Rattle.fw_calls.specs.declared.call.SettingWords.{SettingWords}
use Rattle.fw_calls.specs.declared.call.SettingWords.TheVariants as words
use Rattle.fw_calls.specs.declared.member.BindingKind.{BindingKind}
use Rattle.fw_calls.specs.declared.member.BindingKind.TheVariants as kind
use Rattle.fw_calls.specs.declared.reply.Refusal.{Refusal}
use Rattle.fw_calls.specs.declared.reply.Reply.TheVariants as reply
use Rattle.fw_settings.specs.declared.settings.Settings.{Settings}

-- what a flag says of a query: that is the reply; none says that the query is refused, where it is one that takes no memory
abbrev pub Flags : Settings → (takes_none : Bool) → Option Bool → Result (Answered Settings) Refusal → Type 0
Flags settings takes_none flag wanted = MatchOption flag (takes_none ≡ true → IsErr wanted) (λ flag. wanted ≡ Ok (replied settings (reply.Bool flag)))

-- the settings that are asked for without memory
unfoldable pub is_plain : SettingWords → Bool
is_plain (words.Service name) = true
is_plain (words.Port port protocol) = true
is_plain (words.SourcePort port protocol) = true
is_plain (words.Protocol protocol) = true
is_plain (words.IcmpBlock name) = false
is_plain words.Masquerade = true
is_plain (words.ForwardPort port protocol to_port to_address) = false
is_plain (words.RichRule rule) = false

abbrev pub is_interface : BindingKind → Bool
is_interface kind.Interface = true
is_interface kind.Source = false

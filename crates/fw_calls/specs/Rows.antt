-- Rows of the table of members: what a member does, the types of its arguments and of its answer as a D-Bus signature (D-Bus
-- Specification, "Type System"), and its signals in the order in which they come.
use Rattle.std.specs.Prelude.{ℕ, codes, List}
use Rattle.fw_calls.specs.declared.member.BindingKind.{BindingKind}
use Rattle.fw_calls.specs.declared.member.BindingVerb.{BindingVerb}
use Rattle.fw_calls.specs.declared.member.Member.{Member}
use Rattle.fw_calls.specs.declared.member.Member.TheVariants.{Zone as zone_member}
use Rattle.fw_calls.specs.declared.member.SettingKind.{SettingKind}
use Rattle.fw_calls.specs.declared.member.Verb.TheVariants as verb
use Rattle.fw_calls.specs.declared.member.ZoneMember.TheVariants as zone
use Rattle.fw_calls.specs.declared.shape.Row.{Row}
use Rattle.fw_calls.specs.declared.shape.Signals.{Signals}
use Rattle.fw_calls.specs.declared.shape.Signals.TheVariants as told
use Rattle.fw_calls.specs.declared.signal_kind.SignalKind.{SignalKind}

abbrev pub member_row : Member → (arguments answers : List ℕ) → Signals → Row
member_row member arguments answers signals = record { member = member; arguments = arguments; answers = answers; signals = signals }

-- a member without signals, and one with one kind of signals
abbrev pub silent : Member → (arguments answers : List ℕ) → Row
silent member arguments answers = member_row member arguments answers told.None

abbrev pub telling : Member → (arguments answers : List ℕ) → SignalKind → Row
telling member arguments answers kind = member_row member arguments answers (told.One kind)

-- what adds a setting to a zone, removes it, and asks for it
abbrev pub adds : SettingKind → (arguments : List ℕ) → SignalKind → Row
adds kind arguments signal = telling (zone_member (zone.Setting verb.Add kind)) arguments (codes "s") signal

abbrev pub removes : SettingKind → (arguments : List ℕ) → SignalKind → Row
removes kind arguments signal = telling (zone_member (zone.Setting verb.Remove kind)) arguments (codes "s") signal

abbrev pub asks : SettingKind → (arguments : List ℕ) → Row
asks kind arguments = silent (zone_member (zone.Setting verb.Query kind)) arguments (codes "b")

-- what binds an interface or a source to a zone, or takes it away
abbrev pub binds : BindingVerb → BindingKind → SignalKind → Row
binds verb kind signal = telling (zone_member (zone.Binding verb kind)) (codes "ss") (codes "s") signal

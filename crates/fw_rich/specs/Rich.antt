-- Rich rules by their texts (firewalld.richlanguage(5)): the rule that a text says, or the first refusal. The order of
-- the refusals is this project's own.
use Rattle.std.specs.Prelude.{◌≡◌, ℕ, Bool, true, false, not, List, length, Option, None, Some, Result, Ok, Err}
use Rattle.fw_addr.specs.declared.packet.Family.{Family}
use Rattle.fw_model.specs.declared.code.Code.{Code}
use Rattle.fw_model.specs.declared.code.Code.TheVariants.{InvalidAddr, InvalidForward, InvalidIcmptype}
use Rattle.fw_model.specs.declared.rich.Rich.{Rich}
use Rattle.fw_rich.specs.Grammar.{rule}
use Rattle.fw_rich.specs.Reading.{Parsed}
use Rattle.fw_rich.specs.Refusals.{aimless_forward, fits_together, foreign_address, foreign_type, lacks_family}
use Rattle.fw_rich.specs.Tokens.{tokens}
use Rattle.fw_rich.specs.Values.{Said, rule_of}
use Rattle.fw_rich.specs.declared.error.RichError.{RichError}
use Rattle.fw_rich.specs.declared.error.RichError.TheVariants as refusal
use Rattle.fw_rich.specs.declared.parts.RuleParts.{RuleParts}
use Rattle.fw_rich.specs.declared.tokens.Stop.{Stop}
use Rattle.fw_rich.specs.declared.tokens.Stop.TheVariants as stops

-- What there is, or the refusal.
abbrev pub Refusable : Type 0 → Type 0
Refusable X = Result X RichError

abbrev pub unless_refused : {X Y : Type 0} → (X → Refusable Y) → Refusable X → Refusable Y
unless_refused next (Ok x) = next x
unless_refused next (Err refusal) = Err refusal

infixl 10 ◌>>=◌
-- one step behind another, of which each may refuse
abbrev pub ◌>>=◌ : {X Y : Type 0} → Refusable X → (X → Refusable Y) → Refusable Y
step >>= next = unless_refused next step

-- where the grammar isn't followed: at a token, or at the end of a text of that size
abbrev pub stopped : (size : ℕ) → Stop → RichError
stopped size (stops.At offset) = refusal.Rule offset
stopped size stops.End = refusal.Rule size

abbrev pub parsed : (size : ℕ) → Parsed RuleParts → Refusable RuleParts
parsed size (Ok (parts, tokens)) = Ok parts
parsed size (Err stop) = Err (stopped size stop)

-- the first refusal: where the grammar isn't followed
unfoldable pub parts_of : List ℕ → Refusable RuleParts
parts_of text = parsed (length text) (rule (tokens text))

-- the second: the first bad value
abbrev pub said : Said Rich → Refusable Rich
said (Ok rule) = Ok rule
said (Err bad) = Err (refusal.Part bad.code bad.place)

-- the third: a family is missing
abbrev pub with_family : Bool → Refusable (Unit {0})
with_family true = Err refusal.MissingFamily
with_family false = Ok tt

-- the fourth to the sixth: a value, by its place
abbrev pub without : Code → Option ℕ → Refusable (Unit {0})
without code None = Ok tt
without code (Some place) = Err (refusal.Part code place)

-- what is asked where the rule has a family
abbrev pub of_family : (Family → Option ℕ) → Option Family → Option ℕ
of_family place None = None
of_family place (Some family) = place family

-- the last: the parts don't go together
abbrev pub together : Bool → Refusable (Unit {0})
together true = Ok tt
together false = Err (refusal.Rule 0)

-- the refusals of a rule whose values are read, in their order
unfoldable pub not_refused : RuleParts → Rich → Refusable (Unit {0})
not_refused parts rule = do
  family ← with_family (lacks_family parts)
  addresses ← without InvalidAddr (of_family (λ family. foreign_address family parts rule) rule.family)
  types ← without InvalidIcmptype (of_family (λ family. foreign_type family parts.element) rule.family)
  targets ← without InvalidForward (aimless_forward parts.element)
  together (fits_together rule)

-- the rule that a text says
unfoldable pub rich_text : List ℕ → Refusable Rich
rich_text text = do
  parts ← parts_of text
  rule ← said (rule_of parts)
  fits ← not_refused parts rule
  Ok rule

-- Why nothing was read: the refusal that is due, or want of memory.
abbrev pub Refuses : {X : Type 0} → RichError → Refusable X → Type 0
Refuses (refusal.Rule offset) wanted = wanted ≡ Err (refusal.Rule offset)
Refuses (refusal.Part code offset) wanted = wanted ≡ Err (refusal.Part code offset)
Refuses refusal.MissingFamily wanted = wanted ≡ Err refusal.MissingFamily
Refuses refusal.Memory wanted = Unit {0}

-- What is answered: the rule, the refusal that is due, or want of memory.
abbrev pub Answers : {X : Type 0} → Result X RichError → Refusable X → Type 0
Answers (Ok x) wanted = wanted ≡ Ok x
Answers (Err error) wanted = Refuses error wanted

-- The options that a parser knows.
use Rattle.std.proofs.Common.{◌≡◌, ◌∷◌, List, [], true, false, None, Some}
use Rattle.std.specs.Str.{bytes_eq}
use Rattle.clap.specs.Lexer.{long_of}
use Rattle.clap.specs.Walk.{Rule, Text, arg_by_id, arg_by_long}
use Rattle.clap.specs.declared.builder.action.ArgAction.TheVariants.{Set}
use Rattle.clap.specs.declared.builder.value_parser.ValueParser.TheVariants as parser
use Rattle.fw_command.specs.Parsers.{option_rule}

-- an option, as building the parser fills it in
abbrev pub the_rule : (name : Text) → Rule
the_rule name = record (option_rule name) {
  action = Some Set;
  range = Some (record { start_inclusive = 1; end_inclusive = 1 });
  parser = Some parser.String;
}

-- a parser of these rules knows the option of this name
pub record IsKnown (rules : List Rule) (name : Text) : Type 0 where
  pub dashes : bytes_eq (45 ∷ 45 ∷ name) (45 ∷ 45 ∷ []) ≡ false
  pub long : long_of (45 ∷ 45 ∷ name) ≡ Some (name, None)
  pub by_long : arg_by_long rules name ≡ Some (the_rule name)
  pub by_id : arg_by_id rules name ≡ Some (the_rule name)
  pub same : bytes_eq name name ≡ true

-- a word is an option that the parser knows
abbrev pub IsNamed : (rules : List Rule) (word : Text) → Type 0
IsNamed rules word = (name : Text) × (word ≡ 45 ∷ 45 ∷ name) × IsKnown rules name

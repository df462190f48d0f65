-- What a text of the permanent settings says, and the first fault of one that isn't accepted.
use Rattle.std.specs.Prelude.{◌≡◌, ℕ, List, codes, Some, Ok, Err, unwrap_or, IsUtf8}
use Rattle.fw_broken.specs.Broken.{IsFirstBroken}
use Rattle.fw_broken.specs.declared.rule.Rule.{Rule}
use Rattle.fw_load.specs.Objects.{config}
use Rattle.fw_model.specs.declared.config.Config.{Config}
use Rattle.fw_restore.specs.declared.error.ConfigError.{ConfigError}
use Rattle.fw_restore.specs.declared.error.ConfigError.TheVariants as error
use Rattle.fw_words.specs.Keys.{after_key}
use Rattle.serde_json.specs.Data.{Data}
use Rattle.serde_json.specs.Read.{read}

-- the JSON value (RFC 8259) of a text in UTF-8; of equal keys of an object the last one counts
pub record IsJson (text : List ℕ) (value : Data) : Type 0 where
  pub utf8 : IsUtf8 text
  pub reads : read text ≡ Some value

-- the configuration that a text says
pub record Reads (text : List ℕ) (said : Config) : Type 0 where
  pub value : Data
  pub json : IsJson text value
  pub says : config value ≡ Ok said

-- a way from the whole settings on, as it is told: without the dot that it begins with
abbrev pub path : List ℕ → List ℕ
path way = unwrap_or (after_key (codes ".") way) way

-- the path to the first value that isn't as it must be
pub record IsFieldFault (text at : List ℕ) : Type 0 where
  pub value : Data
  pub way : List ℕ
  pub json : IsJson text value
  pub refused : config value ≡ Err way
  pub told : at ≡ path way

-- the first rule that a configuration breaks
pub record IsRuleFault (text : List ℕ) (rule : Rule) : Type 0 where
  pub said : Config
  pub reads : Reads text said
  pub broken : IsFirstBroken said rule

-- The first fault: a text that isn't JSON, then what isn't in the settings' form, then a rule that is broken. Want of memory says nothing.
abbrev pub IsFirstFault : List ℕ → ConfigError → Type 0
IsFirstFault text error.Json = (value : Data) → ¬ (IsJson text value)
IsFirstFault text (error.Field at) = IsFieldFault text at
IsFirstFault text (error.Rule rule) = IsRuleFault text rule
IsFirstFault text error.Memory = Unit {0}

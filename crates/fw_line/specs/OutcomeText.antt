-- The lines that tell what becomes of a packet (this project's own; types of rejects by their names in nft(8)).
use Rattle.std.specs.Prelude.{ℕ, Bool, true, false, codes, decimal, List, [], ◌∷◌, ◌++◌, Option, None, Some}
use Rattle.std.specs.List.{flat_map}
use Rattle.fw_addr.specs.Names.{kind_text, level_text, reject_text}
use Rattle.fw_addr.specs.Targets.{target_text}
use Rattle.fw_addr.specs.declared.dnat.Dnat.{Dnat}
use Rattle.fw_addr.specs.declared.log.LogLine.{LogLine}
use Rattle.fw_model.specs.declared.outcome.Outcome.{Outcome}
use Rattle.fw_model.specs.declared.outcome.Verdict.{Verdict}
use Rattle.fw_model.specs.declared.outcome.Verdict.TheVariants as verdict
use Rattle.fw_quote.specs.Quoted.{quoted}

abbrev pub verdict_text : Verdict → List ℕ
verdict_text verdict.Accept = codes "accept"
verdict_text verdict.Drop = codes "drop"
verdict_text (verdict.Reject type) = codes "reject " ++ reject_text type

-- the translation of the destination
abbrev pub dnat_text : Option Dnat → List ℕ
dnat_text None = codes "none"
dnat_text (Some target) = target_text target

abbrev pub yes_or_no : Bool → List ℕ
yes_or_no true = codes "yes"
yes_or_no false = codes "no"

-- the outcome's own line
unfoldable pub outcome_line : Outcome → List ℕ
outcome_line outcome =
    codes "outcome " ++ verdict_text outcome.verdict ++ codes " mark=" ++ decimal outcome.mark ++ codes " dnat="
    ++ dnat_text outcome.dnat ++ codes " masq=" ++ yes_or_no outcome.masquerade ++ 10 ∷ []

-- the line of a log line
unfoldable pub log_line : LogLine → List ℕ
log_line line = codes "log " ++ kind_text line.kind ++ codes " " ++ level_text line.level ++ codes " " ++ quoted line.prefix ++ 10 ∷ []

-- the outcome's line, and one for each log line
abbrev pub outcome_text : Outcome → List ℕ
outcome_text outcome = outcome_line outcome ++ flat_map log_line outcome.logs

use Rattle.std.proofs.Common.{◌∙◌, map, ap, subst}
use Rattle.std.specs.String.{string_bytes}
use Rattle.clap.specs.Simple.{App, HasMatchesOf}
use Rattle.clap.specs.Takes.{takes}
use Rattle.fw_command.proofs.Parsed.{options_are_taken, values_are_found}
use Rattle.fw_command.proofs.found.found_in.Goals as goal

pub invariant_of-result : goal.invariant_of-result
invariant_of-result c =
    values_are_found c.args.verb (map string_bytes c.args.words.now) c.in-Ok.matches c.requires
    (subst (λ (app : App). HasMatchesOf app (map string_bytes c.args.words.now) c.in-Ok.matches) c.in_ok-parser.ensures c.in-Ok.ensures.matches)

pub returns : goal.returns
returns c = record {
  found = tt;
  memory = absurd (c.in_default.not-OutOfMemory (c.kind.ensures ∙ c.in-Err.ensures.passes
      (ap (λ app. takes app (map string_bytes c.args.words.now)) c.in_ok-parser.ensures
      ∙ options_are_taken c.args.verb (map string_bytes c.args.words.now) c.requires)));
}

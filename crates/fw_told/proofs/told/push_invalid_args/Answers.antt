-- A long literal before a text in quotes.
use Rattle.std.proofs.Common.{ℕ, List, codes, ◌++◌, ap, ◌∙◌, append_assoc}
use Rattle.std.specs.String.{string_bytes}
use Rattle.fw_quote.specs.Quoted.{quoted}
use Rattle.fw_told.specs.Told.{invalid_args_text}
use Rattle.fw_told.proofs.told.push_invalid_args.Goals as goal

pub returns : goal.returns
unfolding invalid_args_text
returns c =
    c.in_ok-push_quoted.ensures ∙ ap (λ (o : List ℕ). o ++ quoted c.args.signature.now) c.in_ok-push_str.ensures.bytes
    ∙ append_assoc (string_bytes c.args.out.now) (codes "error org.freedesktop.DBus.Error.InvalidArgs ") (quoted c.args.signature.now)

use Rattle.std.proofs.Common.{◌≡◌, Ok, drop, ap, ◌∙◌}
use Rattle.std.proofs.lemmas.Result.{err_from_is_err_and}
use Rattle.dbus_signature.specs.declared.kind.Basic.TheVariants as basic
use Rattle.dbus_signature.specs.declared.kind.Kind.TheVariants.{Basic as Plain}
use Rattle.dbus_wire.specs.declared.value.Value.TheVariants as value
use Rattle.dbus_held.proofs.LentLaws.{part_fails, part_found, path_alone, text_alone}
use Rattle.dbus_held.proofs.lent.basic_lent_at.Goals as goal

pub returns-in_err-text-in-Str : goal.returns-in_err-text-in-Str
returns-in_err-text-in-Str c =
    let p = err_from_is_err_and c.from_residual.result c.from_residual.ensures.1 in
    let is : c.args.kind.now ≡ Plain basic.Str = c.requires.basic ∙ ap Plain c.in-Str.is in
    rw (p.1, p.2) (part_fails c.in_err-text-in-Str.field-0.0 _ _ _ (text_alone c.args.endian c.args.kind.now c.args.at (drop c.args.at c.args.bytes.now) is) (rw c.split_at.ensures.back at c.in_err-text-in-Str.ensures))

pub returns-in_err-path-in-Path : goal.returns-in_err-path-in-Path
returns-in_err-path-in-Path c =
    let p = err_from_is_err_and c.from_residual-in_err-path-in-Path.result c.from_residual-in_err-path-in-Path.ensures.1 in
    let is : c.args.kind.now ≡ Plain basic.Path = c.requires.basic ∙ ap Plain c.in-Path.is in
    rw (p.1, p.2) (part_fails c.in_err-path-in-Path.field-0.0 _ _ _ (path_alone c.args.endian c.args.kind.now c.args.at (drop c.args.at c.args.bytes.now) is) (rw c.split_at.ensures.back at c.in_err-path-in-Path.ensures))

pub returns-in_ok-text-in-Str : goal.returns-in_ok-text-in-Str
returns-in_ok-text-in-Str c =
    let is : c.args.kind.now ≡ Plain basic.Str = c.requires.basic ∙ ap Plain c.in-Str.is in
    part_found _ _ (λ x. Ok (value.Str x.0)) _ (text_alone c.args.endian c.args.kind.now c.args.at (drop c.args.at c.args.bytes.now) is) (rw c.split_at.ensures.back at c.in_ok-text-in-Str.ensures)

pub returns-in_ok-path-in-Path : goal.returns-in_ok-path-in-Path
returns-in_ok-path-in-Path c =
    let is : c.args.kind.now ≡ Plain basic.Path = c.requires.basic ∙ ap Plain c.in-Path.is in
    part_found _ _ (λ x. Ok (value.Path x.0)) _ (path_alone c.args.endian c.args.kind.now c.args.at (drop c.args.at c.args.bytes.now) is) (rw c.split_at.ensures.back at c.in_ok-path-in-Path.ensures)

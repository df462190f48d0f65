-- What was read is spelt in the bytes, so that its spelling is no longer than they are.
use Rattle.std.proofs.Common.{◌≡◌, ℕ, ◌<◌, ◌^◌, length, drop, ap, subst, arith}
use Rattle.std.proofs.lemmas.List.{length-append, length-drop}
use Rattle.dbus_wire.specs.Spelling.{spellings}
use Rattle.dbus_held_rows.proofs.again.again.Goals as goal

pub write-requires : goal.write-requires
write-requires c =
    let same : length c.as_slice.result.now ≡ length c.args.out.now.items = ap length c.as_slice.ensures.value in
    let at = length c.as_slice.result.now in
    let short : length (spellings c.args.endian c.in_ok-held.held at) < 2 ^ 32 =
    omega (arith, ap length c.in_ok-held.ensures.spelt, length-append (spellings c.args.endian c.in_ok-held.held at) (drop c.in_ok-held.end c.args.bytes.now), length-drop at c.args.bytes.now, c.requires.short) in
    subst (λ (n : ℕ). length (spellings c.args.endian c.in_ok-held.held n) < 2 ^ 32) same short

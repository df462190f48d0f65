-- What was read is spelt in the bytes, so that it is written again as they are.
use Rattle.std.proofs.Common.{◌≡◌, ◌+◌, ◌-◌, ◌<◌, ◌^◌, ◌++◌, ℕ, length, take, drop, ap, sym, ◌∙◌, List, subst, arith}
use Rattle.std.proofs.lemmas.List.{length-append, length-drop}
use Rattle.dbus_wire.specs.Fits.{Fits, HasSpelling}
use Rattle.dbus_wire.specs.Spelling.{spelling}
use Rattle.dbus_rows.proofs.again.again_at.Goals as goal

pub write_value-requires : goal.write_value-requires
write_value-requires c =
    let there = c.in_ok-value.ensures.found c.requires.one.0 c.requires.one.1 in
    let same : length c.as_slice.result.now ≡ length c.args.out.now.items = ap length c.as_slice.ensures.value in
    let short : length there.text < 2 ^ 32 = omega (arith, ap length there.split, length-append there.text there.after, length-drop (length c.as_slice.result.now) c.args.bytes.now, c.requires.short) in
    let here : length (spelling c.args.endian c.in_ok-value.value (length c.as_slice.result.now)) < 2 ^ 32 = subst (λ (text : List ℕ). length text < 2 ^ 32) there.spells.bytes_are short in
    let has : HasSpelling c.args.endian (length c.as_slice.result.now) c.in_ok-value.value = record { kind = c.requires.one.0; fits = there.spells.fits } in
    record {
      spelt = subst (λ (at : ℕ). HasSpelling c.args.endian at c.in_ok-value.value) same has;
      short = subst (λ (at : ℕ). length (spelling c.args.endian c.in_ok-value.value at) < 2 ^ 32) same here;
    }

pub returns-clause-some : goal.returns-clause-some
returns-clause-some c =
    let there = c.in_ok-value.ensures.found c.requires.one.0 c.requires.one.1 in
    let same : length c.as_slice.result.now ≡ length c.args.out.now.items = ap length c.as_slice.ensures.value in
    let law = c.read_is_written_again.ensures.spelt c.args.endian c.requires.one.0 (length c.as_slice.result.now) c.args.bytes.now (c.in_ok-value.value, c.in_ok-value.end) there in
    omega (arith, law.some, same)

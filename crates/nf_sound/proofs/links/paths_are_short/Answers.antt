-- One long path denies it; where there's none from any chain, there's none at all.
use Rattle.std.proofs.Common.{◌<◌, ◌≤◌, length, refl, arith}
use Rattle.nf_sound.proofs.Paths.{all_short, some_at}
use Rattle.nf_sound.proofs.links.paths_are_short.Goals as goal

pub returns-then-not-is_short_from : goal.returns-then-not-is_short_from
returns-then-not-is_short_from c =
    let within : c.loop-place.place < length c.args.rules.now.chains = rw c.as_slice-count.ensures at c.loop-place-test.true in
    let here = some_at c.args.rules.now.chains c.loop-place.place within in
    (λ is. cc, λ short. (let is = (c.is_short_from.ensures.short here.0 here.1).1 (short here.0.name) in cc))

pub returns : goal.returns
returns c =
    let all : length c.args.rules.now.chains ≤ c.loop-place.place = rw c.as_slice-count.ensures at c.loop-place-test.false in
    (λ is. all_short c.args.rules.now (λ place chain within at. c.loop-place.invariant.short place chain (omega arith) at), λ short. refl)

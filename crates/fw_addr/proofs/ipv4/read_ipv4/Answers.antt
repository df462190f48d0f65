use Rattle.std.proofs.Common.{◌≡◌, ◌∙◌, ap, sym, true, List, ℕ, ◌∷◌, Option, None, Bor, refl}
use Rattle.std.specs.Option.{option_copied, is_some}
use Rattle.fw_text.specs.Pieces.{later_pieces}
use Rattle.fw_addr.specs.Addresses.{octets}
use Rattle.fw_addr.proofs.PieceLemmas.{some_later_piece, then}
use Rattle.fw_addr.proofs.ipv4.read_ipv4.Goals as goal

-- a fifth piece makes it no address
five_pieces : (a b c d : List ℕ) (back : Option (Bor (List ℕ))) → is_some back ≡ true → octets (a ∷ b ∷ c ∷ d ∷ later_pieces 46 (option_copied back)) ≡ None
five_pieces a b c d back is = let fifth = some_later_piece 46 back is in rw fifth.2 refl

pub returns-then-is_some : goal.returns-then-is_some
returns-then-is_some c =
    let a = c.cut-first.result.piece.now in
    let b = c.cut-second.result.piece.now in
    let d = c.cut-third.result.piece.now in
    let e = c.cut-fourth.result.piece.now in
    let third = c.cut-third.ensures.pieces ∙ then 46 d c.cut-third.result.rest c.in_ok-third.field-0 _ c.in_ok-third.was c.cut-fourth.ensures.pieces in
    let second = c.cut-second.ensures.pieces ∙ then 46 b c.cut-second.result.rest c.in_ok-second.field-0 _ c.in_ok-second.was third in
    let first = c.cut-first.ensures.pieces ∙ then 46 a c.cut-first.result.rest c.in_ok-first.field-0 _ c.in_ok-first.was second in
    sym (ap octets first ∙ five_pieces a b d e c.cut-fourth.result.rest (sym c.is_some.ensures ∙ c.if-is_some.true))

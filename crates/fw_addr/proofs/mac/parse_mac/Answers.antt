use Rattle.std.proofs.Common.{◌≡◌, ◌∙◌, ap, sym, true, List, ℕ, ◌∷◌, Option, None, Bor, refl}
use Rattle.std.specs.Option.{option_copied, is_some}
use Rattle.fw_text.specs.Pieces.{later_pieces}
use Rattle.fw_addr.specs.Hardware.{hex_octets}
use Rattle.fw_addr.proofs.PieceLemmas.{some_later_piece, then}
use Rattle.fw_addr.proofs.mac.parse_mac.Goals as goal

-- a seventh piece makes it no address
seven_pieces : (a b c d e f : List ℕ) (back : Option (Bor (List ℕ))) → is_some back ≡ true → hex_octets (a ∷ b ∷ c ∷ d ∷ e ∷ f ∷ later_pieces 58 (option_copied back)) ≡ None
seven_pieces a b c d e f back is = let seventh = some_later_piece 58 back is in rw seventh.2 refl

pub returns-then-is_some : goal.returns-then-is_some
returns-then-is_some c =
    let fifth = c.cut-fifth.ensures.pieces ∙ then 58 c.cut-fifth.result.piece.now c.cut-fifth.result.rest c.in_ok-fifth.field-0 _ c.in_ok-fifth.was c.cut-sixth.ensures.pieces in
    let fourth = c.cut-fourth.ensures.pieces ∙ then 58 c.cut-fourth.result.piece.now c.cut-fourth.result.rest c.in_ok-fourth.field-0 _ c.in_ok-fourth.was fifth in
    let third = c.cut-third.ensures.pieces ∙ then 58 c.cut-third.result.piece.now c.cut-third.result.rest c.in_ok-third.field-0 _ c.in_ok-third.was fourth in
    let second = c.cut-second.ensures.pieces ∙ then 58 c.cut-second.result.piece.now c.cut-second.result.rest c.in_ok-second.field-0 _ c.in_ok-second.was third in
    let first = c.cut-first.ensures.pieces ∙ then 58 c.cut-first.result.piece.now c.cut-first.result.rest c.in_ok-first.field-0 _ c.in_ok-first.was second in
    sym (ap hex_octets first ∙ seven_pieces c.cut-first.result.piece.now c.cut-second.result.piece.now c.cut-third.result.piece.now c.cut-fourth.result.piece.now c.cut-fifth.result.piece.now c.cut-sixth.result.piece.now c.cut-sixth.result.rest (sym c.is_some.ensures ∙ c.if-is_some.true))

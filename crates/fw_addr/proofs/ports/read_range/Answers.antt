use Rattle.std.proofs.Common.{◌≡◌, ◌∙◌, ap, sym, true, List, ℕ, ◌∷◌, Option, None, Bor, refl}
use Rattle.std.specs.Option.{option_copied, is_some}
use Rattle.fw_text.specs.Pieces.{pieces, later_pieces}
use Rattle.fw_addr.specs.Ports.{range_of}
use Rattle.fw_addr.proofs.PieceLemmas.{some_later_piece}
use Rattle.fw_addr.proofs.ports.read_range.Goals as goal

-- a third piece makes it no range
three_pieces : (first second : List ℕ) (back : Option (Bor (List ℕ))) → is_some back ≡ true → range_of (first ∷ second ∷ later_pieces 45 (option_copied back)) ≡ None
three_pieces first second back is = let third = some_later_piece 45 back is in rw third.2 refl

pub returns-then-is_some : goal.returns-then-is_some
returns-then-is_some c =
    let first = c.cut-front.result.piece.now in
    let second = c.cut-back.result.piece.now in
    let whole : pieces 45 c.args.text.now ≡ first ∷ second ∷ later_pieces 45 (option_copied c.cut-back.result.rest) =
    c.cut-front.ensures.pieces ∙ ap (λ (rest : Option (Bor (List ℕ))). first ∷ later_pieces 45 (option_copied rest)) c.in-Some.is ∙ ap (λ (rest : List (List ℕ)). first ∷ rest) c.cut-back.ensures.pieces in
    sym (ap range_of whole ∙ three_pieces first second c.cut-back.result.rest (sym c.is_some.ensures ∙ c.if-is_some.true))

-- A read that copies a front of what is left into the front of a buffer is a read.
use Rattle.std.proofs.Common.{◌≡◌, ℕ, ◌≤◌, ◌<◌, ◌↔◌, List, [], ◌++◌, length, take, drop, min, Some, Ok, ap, sym, ◌∙◌, arith, length-append, length-take, length-drop}
use Rattle.std.proofs.lemmas.List.{take-append-drop, take_at, nil_from_length}
use Rattle.fw_base.specs.Streams.{Reads}
use Rattle.fw_base.specs.declared.source.Failed.{Failed}

ends : (left : List ℕ) (count cut room : ℕ) → 1 ≤ cut → 0 < room → count ≡ min (min cut room) (length left) → (count ≡ 0) ↔ (left ≡ [])
ends left count cut room some room_left is = (λ none. nil_from_length left (omega arith), λ e. let none : length left ≡ 0 = ap length e in omega arith)

pub front_read : (left into copied : List ℕ) (count cut : ℕ) → 1 ≤ cut → 0 < length into → count ≡ min (min cut (length into)) (length left) → copied ≡ take count left → Reads {E = Failed} (Some left) (Some (drop count left)) (Ok count) (copied ++ drop count into)
front_read left into copied count cut some room is front =
    let copied_count : length copied ≡ count = ap length front ∙ omega (arith, length-take count left) in
    record {
      fits = omega (arith, length-append copied (drop count into), length-drop count into);
      bytes = ap Some (sym (ap (λ x. x ++ drop count left) (take_at copied (drop count into) count copied_count ∙ front) ∙ take-append-drop count left));
      end = ends left count cut (length into) some room is;
      failed = tt;
    }

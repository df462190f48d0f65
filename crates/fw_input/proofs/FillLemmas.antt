-- What a read behind the bytes ahead makes of the buffer, and of the bytes to come.
use Rattle.std.proofs.Common.{◌≡◌, ℕ, ◌+◌, ◌<◌, ◌≤◌, List, ◌++◌, length, take, drop, Option, None, Some, refl, ◌∙◌, ap, append_assoc, arith}
use Rattle.std.specs.Option.{option_map}
use Rattle.std.proofs.lemmas.List.{length-take, take-append-drop}
use Rattle.std.proofs.Math.Seq.{take-append-add}
use Rattle.fw_input.specs.declared.buffer.Refill.TheVariants.{Bytes}
use Rattle.fw_input.specs.Refilling.{Fills, bytes_to_come}

pub to_come-read : (front items fresh : List ℕ) (left after : Option (List ℕ)) → items ≡ front ++ fresh → left ≡ option_map (λ bytes. fresh ++ bytes) after → bytes_to_come items after ≡ bytes_to_come front left
to_come-read front items fresh left None joined read = rw read refl
to_come-read front items fresh left (Some bytes) joined read = rw (read, joined) (ap Some (append_assoc front fresh bytes))

pub take-plus : (n count : ℕ) (xs : List ℕ) → n ≤ length xs → take (n + count) xs ≡ take n xs ++ take count (drop n xs)
take-plus n count xs inside =
    let is_n : length (take n xs) ≡ n = rw length-take (omega arith) in
    let seam = take-append-add (take n xs) (drop n xs) count in
    rw (is_n, take-append-drop) at seam

-- `count` bytes were read behind the `n` bytes ahead.
pub fills-read : (n count : ℕ) (front items : List ℕ) (left after : Option (List ℕ)) → length front ≡ n → take n items ≡ front → n + count ≤ length items → 0 < count → left ≡ option_map (λ bytes. take count (drop n items) ++ bytes) after → Fills Bytes count front items left after
fills-read n count front items left after is_n kept holds some read =
    let joined : take (n + count) items ≡ front ++ take count (drop n items)
    = take-plus n count items (omega arith) ∙ ap (λ xs. xs ++ take count (drop n items)) kept in
    record {
      holds = rw is_n holds;
      kept = rw is_n kept;
      grows = rw (is_n, length-take) (omega arith);
      bytes = rw is_n (to_come-read front _ _ left after joined read);
    }

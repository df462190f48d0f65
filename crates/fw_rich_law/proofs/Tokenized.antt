-- The text of pieces is read as their tokens.
use Rattle.std.proofs.Common.{◌≡◌, ◌∙◌, ℕ, zero, suc, ◌+◌, ◌-◌, ◌≤◌, ◌==◌, nat_lt, Bool, true, false, if◌then◌else◌, not, ◌&&◌, List, [], ◌∷◌, ◌++◌, length, take, drop, None, Some, refl, sym, ap, subst, append_assoc, arith, length-append}
use Rattle.std.specs.List.{list_all, position_or_len}
use Rattle.std.specs.Option.{option_and_then, option_map}
use Rattle.std.proofs.Math.Seq.{drop-append-add, drop-append_seam, take-append_seam}
use Rattle.std.proofs.lemmas.Grind.{common_steps}
use Rattle.std.proofs.lemmas.Bool.{and_parts, lt-ltb, not-true, false≢true}
use Rattle.fw_rich.specs.Tokens.{Token, at_gap, behind_gap, cut_at, ends_key, is_gap, is_plain, next_token, or_none, quoted, token_front, token_of, tokens_to, up_to, value_front, with_behind, word}
use Rattle.fw_rich_law.proofs.Pieces.{Piece, placed, texts}
use Rattle.fw_rich_law.proofs.Pieces.Piece.{Word, Pair}

-- a word or a key: a byte at least, and none that ends it
abbrev pub is_key : List ℕ → Bool
is_key [] = false
is_key (byte ∷ key) = list_all (λ byte. not (ends_key byte)) (byte ∷ key)

-- pieces that can be read
abbrev pub are_written : List Piece → Bool
are_written [] = true
are_written (Word word ∷ pieces) = is_key word && are_written pieces
are_written (Pair key value ∷ pieces) = is_key key && (list_all is_plain value && are_written pieces)

pub are_written_join : (front back : List Piece) → are_written front ≡ true → are_written back ≡ true → are_written (front ++ back) ≡ true
are_written_join [] back all others = others
are_written_join (Word word ∷ front) back all others =
    let parts = and_parts (is_key word) (are_written front) all in
    rw (parts.0, are_written_join front back parts.1 others) refl
are_written_join (Pair key value ∷ front) back all others =
    let parts = and_parts (is_key key) (list_all is_plain value && are_written front) all in
    let more = and_parts (list_all is_plain value) (are_written front) parts.1 in
    rw (parts.0, more.0, are_written_join front back more.1 others) refl

-- bytes that don't end a front, and then what ends it
first_end : (ends : ℕ → Bool) (front text : List ℕ) → list_all (λ byte. not (ends byte)) front ≡ true → position_or_len ends text ≡ 0 → position_or_len ends (front ++ text) ≡ length front
first_end ends [] text clear end = end
first_end ends (byte ∷ front) text clear end =
    let parts = and_parts (not (ends byte)) (list_all (λ byte. not (ends byte)) front) clear in
    rw (parts.0, first_end ends front text parts.1 end) (omega arith)

front_up_to : (ends : ℕ → Bool) (front text : List ℕ) → list_all (λ byte. not (ends byte)) front ≡ true → position_or_len ends text ≡ 0 → up_to ends (front ++ text) ≡ (front, text)
front_up_to ends front text clear end =
    ap (λ n. (take n (front ++ text), drop n (front ++ text))) (first_end ends front text clear end) ∙ rw (take-append_seam front text, drop-append_seam front text) refl

-- a byte that comes first
comes_first : (ends : ℕ → Bool) (byte : ℕ) (text : List ℕ) → ends byte ≡ true → position_or_len ends (byte ∷ text) ≡ 0
comes_first ends byte text is = rw is refl

-- a word may end before pieces
pieces_end : (pieces : List Piece) → position_or_len ends_key (texts pieces) ≡ 0
pieces_end [] = refl
pieces_end (Word word ∷ pieces) = refl
pieces_end (Pair key value ∷ pieces) = refl

gap_before : (pieces : List Piece) → at_gap (texts pieces) ≡ true
gap_before [] = refl
gap_before (Word word ∷ pieces) = refl
gap_before (Pair key value ∷ pieces) = refl

-- no gap stands before a key
no_gap : (byte : ℕ) → not (ends_key byte) ≡ true → is_gap byte ≡ false
no_gap byte clear = grind (arith, common_steps)

key_first : (key text : List ℕ) → is_key key ≡ true → behind_gap (32 ∷ key ++ text) ≡ key ++ text
key_first [] text is = absurd (false≢true is)
key_first (byte ∷ key) text is =
    let clear = (and_parts (not (ends_key byte)) (list_all (λ byte. not (ends_key byte)) key) is).0 in
    rw (no_gap byte clear) refl

pair_first : (key middle text : List ℕ) → is_key key ≡ true → behind_gap (32 ∷ key ++ middle ++ text) ≡ key ++ middle ++ text
pair_first [] middle text is = absurd (false≢true is)
pair_first (byte ∷ key) middle text is =
    let clear = (and_parts (not (ends_key byte)) (list_all (λ byte. not (ends_key byte)) key) is).0 in
    rw (no_gap byte clear) refl

key_clear : (key : List ℕ) → is_key key ≡ true → list_all (λ byte. not (ends_key byte)) key ≡ true
key_clear [] is = absurd (false≢true is)
key_clear (byte ∷ key) is = is

-- a key, and the token that begins with it
next_is : (size : ℕ) (key text : List ℕ) → is_key key ≡ true → next_token size (key ++ text) ≡ Some (or_none size (key ++ text) (token_front size (key ++ text)))
next_is size [] text is = absurd (false≢true is)
next_is size (byte ∷ key) text is = refl

-- a value in quotes
plain_no_quote : (byte : ℕ) → is_plain byte ≡ true → (byte == 34) ≡ false
plain_no_quote byte is = not-true (byte == 34) (and_parts _ (not (byte == 34)) is).1

no_quotes : (value : List ℕ) → list_all is_plain value ≡ true → list_all (λ byte. not (byte == 34)) value ≡ true
no_quotes [] all = refl
no_quotes (byte ∷ value) all =
    let parts = and_parts (is_plain byte) (list_all is_plain value) all in
    rw (plain_no_quote byte parts.0, no_quotes value parts.1) refl

quoted_front : (value text : List ℕ) → list_all is_plain value ≡ true → at_gap text ≡ true → value_front (34 ∷ value ++ 34 ∷ text) ≡ Some (value, text)
quoted_front value text plain gap =
    let end : position_or_len (λ b. b == 34) (value ++ 34 ∷ text) ≡ length value = first_end (λ b. b == 34) value (34 ∷ text) (no_quotes value plain) refl in
    let long : length (value ++ 34 ∷ text) ≡ length value + length (34 ∷ text) = length-append value (34 ∷ text) in
    let inside : nat_lt (length value) (length (value ++ 34 ∷ text)) ≡ true = lt-ltb _ _ (omega (arith, long)) in
    let cut : cut_at 34 (value ++ 34 ∷ text) ≡ Some (value, text) =
    ap (λ n. if nat_lt n (length (value ++ 34 ∷ text)) then Some (take n (value ++ 34 ∷ text), drop (n + 1) (value ++ 34 ∷ text)) else None) end
    ∙ rw (inside, take-append_seam value (34 ∷ text), drop-append-add value (34 ∷ text) 1) refl in
    ap (option_and_then quoted) cut ∙ rw (plain, gap) refl

-- where each piece begins in a text of that size, and its value
abbrev pub at_in : ℕ → List Piece → ℕ
at_in size [] = 0
at_in size (Word word ∷ pieces) = size - length (word ++ texts pieces)
at_in size (Pair key value ∷ pieces) = size - length (key ++ 61 ∷ 34 ∷ value ++ 34 ∷ texts pieces)

abbrev pub place_in : ℕ → List Piece → ℕ
place_in size [] = 0
place_in size (Word word ∷ pieces) = 0
place_in size (Pair key value ∷ pieces) = size - length (34 ∷ value ++ 34 ∷ texts pieces)

abbrev pub tokens_of : ℕ → List Piece → List Token
tokens_of size pieces = placed (at_in size) (place_in size) pieces

word_ends : (size offset : ℕ) (key : List ℕ) (pieces : List Piece) → token_of size offset key (texts pieces) ≡ Some (word offset key, texts pieces)
word_ends size offset key [] = refl
word_ends size offset key (Word other ∷ pieces) = refl
word_ends size offset key (Pair other value ∷ pieces) = refl

pub word_next : (size : ℕ) (key : List ℕ) (pieces : List Piece) → is_key key ≡ true
    → next_token size (key ++ texts pieces) ≡ Some (word (size - length (key ++ texts pieces)) key, texts pieces)
word_next size key pieces is =
    let whole = key ++ texts pieces in
    let front : up_to ends_key whole ≡ (key, texts pieces) = front_up_to ends_key key (texts pieces) (key_clear key is) (pieces_end pieces) in
    next_is size key (texts pieces) is
    ∙ ap (λ (parts : List ℕ × List ℕ). Some (or_none size whole (token_of size (size - length whole) parts.0 parts.1))) front
    ∙ ap (λ found. Some (or_none size whole found)) (word_ends size (size - length whole) key pieces)

pub pair_next : (size : ℕ) (key value : List ℕ) (pieces : List Piece) → is_key key ≡ true → list_all is_plain value ≡ true
    → next_token size (key ++ 61 ∷ 34 ∷ value ++ 34 ∷ texts pieces)
    ≡ Some (record { offset = size - length (key ++ 61 ∷ 34 ∷ value ++ 34 ∷ texts pieces); key = key; value = Some (record { place = size - length (34 ∷ value ++ 34 ∷ texts pieces); text = value }) }, texts pieces)
pair_next size key value pieces is plain =
    let behind = 34 ∷ value ++ 34 ∷ texts pieces in
    let whole = key ++ 61 ∷ behind in
    let same : whole ≡ key ++ 61 ∷ 34 ∷ value ++ 34 ∷ texts pieces = sym (append_assoc key (61 ∷ 34 ∷ value) (34 ∷ texts pieces)) in
    let front : up_to ends_key whole ≡ (key, 61 ∷ behind) = front_up_to ends_key key (61 ∷ behind) (key_clear key is) refl in
    let make : List ℕ × List ℕ → Token × List ℕ = λ found. (record { offset = size - length whole; key = key; value = Some (record { place = size - length behind; text = found.0 }) }, found.1) in
    subst (λ all. next_token size all ≡ Some (record { offset = size - length all; key = key; value = Some (record { place = size - length behind; text = value }) }, texts pieces)) same
    (next_is size key (61 ∷ behind) is
    ∙ ap (λ (parts : List ℕ × List ℕ). Some (or_none size whole (token_of size (size - length whole) parts.0 parts.1))) front
    ∙ ap (λ found. Some (or_none size whole (option_map make found))) (quoted_front value (texts pieces) plain (gap_before pieces)))

-- pieces are read as their tokens by any number of steps that is enough
pub tokens_are : (most size : ℕ) (pieces : List Piece) → are_written pieces ≡ true → length (texts pieces) ≤ most → tokens_to most size (texts pieces) ≡ tokens_of size pieces
unfolding tokens_to
tokens_are zero size [] all enough = refl
tokens_are (suc most) size [] all enough = refl
tokens_are zero size (Word key ∷ pieces) all enough = absurd (omega (arith, enough))
tokens_are zero size (Pair key value ∷ pieces) all enough = absurd (omega (arith, enough))
tokens_are (suc most) size (Word key ∷ pieces) all enough =
    let parts = and_parts (is_key key) (are_written pieces) all in
    let long : length (key ++ texts pieces) ≡ length key + length (texts pieces) = length-append key (texts pieces) in
    ap (λ text. with_behind (tokens_to most size) (next_token size text)) (key_first key (texts pieces) parts.0)
    ∙ ap (with_behind (tokens_to most size)) (word_next size key pieces parts.0)
    ∙ ap (λ tokens. word (size - length (key ++ texts pieces)) key ∷ tokens) (tokens_are most size pieces parts.1 (omega (arith, long, enough)))
tokens_are (suc most) size (Pair key value ∷ pieces) all enough =
    let parts = and_parts (is_key key) (list_all is_plain value && are_written pieces) all in
    let more = and_parts (list_all is_plain value) (are_written pieces) parts.1 in
    let behind = key ++ 61 ∷ 34 ∷ value ++ 34 ∷ texts pieces in
    let text : texts (Pair key value ∷ pieces) ≡ 32 ∷ behind = append_assoc (32 ∷ key ++ 61 ∷ 34 ∷ value) (34 ∷ []) (texts pieces) in
    let long : length behind ≡ length (key ++ 61 ∷ 34 ∷ value) + length (34 ∷ texts pieces) = length-append (key ++ 61 ∷ 34 ∷ value) (34 ∷ texts pieces) in
    let size_is : length (texts (Pair key value ∷ pieces)) ≡ length (32 ∷ behind) = ap length text in
    let token : Token = record { offset = size - length behind; key = key; value = Some (record { place = size - length (34 ∷ value ++ 34 ∷ texts pieces); text = value }) } in
    ap (λ text. with_behind (tokens_to most size) (next_token size (behind_gap text))) text
    ∙ ap (λ text. with_behind (tokens_to most size) (next_token size text)) (pair_first key (61 ∷ 34 ∷ value) (34 ∷ texts pieces) parts.0)
    ∙ ap (with_behind (tokens_to most size)) (pair_next size key value pieces parts.0 more.0)
    ∙ ap (λ tokens. token ∷ tokens) (tokens_are most size pieces more.1 (omega (arith, long, size_is, enough)))

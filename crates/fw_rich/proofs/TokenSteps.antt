-- Each token takes a byte at least, so that as many steps as there are bytes read all tokens.
use Rattle.std.proofs.Common.{◌≡◌, ◌∙◌, ℕ, zero, suc, ◌+◌, ◌-◌, ◌<◌, ◌≤◌, ◌==◌, ◌&&◌, nat_lt, le_trans, Bool, true, false, not, cond, if◌then◌else◌, List, [], ◌∷◌, length, take, drop, get_or, Option, Some, None, ap, sym, subst, refl, arith, rules}
use Rattle.std.specs.List.{list_all, position_or_len, before_first, after_first}
use Rattle.std.specs.Option.{option_map, option_and_then}
use Rattle.std.proofs.lemmas.Grind.{common_steps}
use Rattle.std.proofs.lemmas.List.Sums.{passes_at_first, prefix_len-le-length}
use Rattle.fw_rich.specs.Tokens.{Token, Written, at_gap, bare, behind_gap, cut_at, ends_key, is_bare, is_gap, is_plain, is_quote, next_token, no_token, or_none, pair, quoted, token_front, token_of, tokens_from, tokens_to, up_to, value_front, with_behind, word}

-- what was read leaves at most so many bytes
abbrev Leaves : {X : Type 0} → ℕ → Option (X × List ℕ) → Type 0
Leaves most None = Unit {0}
Leaves most (Some (x, text)) = length text ≤ most

drop_within : (n : ℕ) (text : List ℕ) → length (drop n text) ≤ length text
drop_within n text = grind (arith, common_steps)

bare_leaves : (cut : List ℕ × List ℕ) (most : ℕ) → length cut.1 ≤ most → Leaves most (bare cut)
bare_leaves ([], text) most within = tt
bare_leaves (byte ∷ value, text) most within =
    elim (list_all is_bare (byte ∷ value)) as (λ b. Leaves most (if b then Some (byte ∷ value, text) else None)) [ true ↦ within | false ↦ tt ]

quoted_leaves : (cut : List ℕ × List ℕ) (most : ℕ) → length cut.1 ≤ most → Leaves most (quoted cut)
quoted_leaves (value, text) most within =
    elim (list_all is_plain value && at_gap text) as (λ b. Leaves most (if b then Some (value, text) else None)) [ true ↦ within | false ↦ tt ]

cut_leaves : (byte : ℕ) (text : List ℕ) (most : ℕ) → length text ≤ most → Leaves most (option_and_then quoted (cut_at byte text))
cut_leaves byte text most within =
    elim (nat_lt (position_or_len (λ b. b == byte) text) (length text)) as (λ b. Leaves most (option_and_then quoted (if b then Some (before_first (λ b. b == byte) text, after_first (λ b. b == byte) text) else None))) [
      | true ↦ quoted_leaves (before_first (λ b. b == byte) text, after_first (λ b. b == byte) text) most (le_trans (drop_within (position_or_len (λ b. b == byte) text + 1) text) within)
      | false ↦ tt
    ]

value_leaves : (text : List ℕ) (most : ℕ) → length text ≤ most → Leaves most (value_front text)
value_leaves [] most within = tt
value_leaves (byte ∷ text) most within =
    elim (is_quote byte) as (λ b. Leaves most (if b then option_and_then quoted (cut_at byte text) else bare (up_to is_gap (byte ∷ text)))) [
      | true ↦ cut_leaves byte text most (omega arith)
      | false ↦ bare_leaves (up_to is_gap (byte ∷ text)) most (le_trans (drop_within (position_or_len is_gap (byte ∷ text)) (byte ∷ text)) within)
    ]

pair_of_leaves : (size offset : ℕ) (key text : List ℕ) (found : Option (List ℕ × List ℕ)) (most : ℕ) → Leaves most found
    → Leaves most (option_map (λ found. let t : Token = record { offset = offset; key = key; value = Some (record { place = size - length text; text = found.0 }) } in (t, found.1)) found)
pair_of_leaves size offset key text None most leaves = tt
pair_of_leaves size offset key text (Some (value, left)) most leaves = leaves

pair_leaves : (size offset : ℕ) (key text : List ℕ) (most : ℕ) → length text ≤ most → Leaves most (pair size offset key text)
pair_leaves size offset key text most within = pair_of_leaves size offset key text (value_front text) most (value_leaves text most within)

token_leaves : (size offset : ℕ) (key text : List ℕ) (most : ℕ) → length text ≤ most → Leaves most (token_of size offset key text)
token_leaves size offset key [] most within = within
token_leaves size offset key (byte ∷ text) most within =
    elim (is_gap byte) as (λ b. Leaves most (if b then Some (word offset key, byte ∷ text) else if byte == 61 then pair size offset key text else None)) [
      | true ↦ within
      | false ↦
          elim (byte == 61) as (λ b. Leaves most (if b then pair size offset key text else None))
          [ true ↦ pair_leaves size offset key text most (omega arith) | false ↦ tt ]
    ]

token_behind_end : (size offset : ℕ) (key : List ℕ) (byte : ℕ) (text : List ℕ) → is_gap byte ≡ false → Leaves (length text) (token_of size offset key (byte ∷ text))
token_behind_end size offset key byte text no_gap =
    subst (λ b. Leaves (length text) (if b then Some (word offset key, byte ∷ text) else if byte == 61 then pair size offset key text else None)) (sym no_gap)
    (elim (byte == 61) as (λ b. Leaves (length text) (if b then pair size offset key text else None))
    [ true ↦ pair_leaves size offset key text (length text) (omega arith) | false ↦ tt ])

at_front : (b : Bool) (k : ℕ) (size offset byte : ℕ) (text : List ℕ) → is_gap byte ≡ false
    → (let n : ℕ = cond (not b) (1 + k) 0 in Leaves (length text) (token_of size offset (take n (byte ∷ text)) (drop n (byte ∷ text))))
at_front true k size offset byte text no_gap = token_behind_end size offset [] byte text no_gap
at_front false k size offset byte text no_gap =
    token_leaves size offset (take (1 + k) (byte ∷ text)) (drop (1 + k) (byte ∷ text)) (length text) (shorter k byte text)
  where
    shorter : (k byte : ℕ) (text : List ℕ) → length (drop (1 + k) (byte ∷ text)) ≤ length text
    shorter k byte text = grind (arith, common_steps)

front_leaves : (size byte : ℕ) (text : List ℕ) → is_gap byte ≡ false → Leaves (length text) (token_front size (byte ∷ text))
front_leaves size byte text no_gap = at_front (ends_key byte) (position_or_len ends_key text) size (size - length (byte ∷ text)) byte text no_gap

-- behind the first token of a text that begins with no gap less is left
abbrev ShorterBy : (text : List ℕ) → Option (Token × List ℕ) → Type 0
ShorterBy text None = Unit {0}
ShorterBy text (Some (token, left)) = length left < length text

front_shorter : (size byte : ℕ) (text : List ℕ) (front : Option (Token × List ℕ)) → Leaves (length text) front → ShorterBy (byte ∷ text) (Some (or_none size (byte ∷ text) front))
front_shorter size byte text None leaves = omega arith
front_shorter size byte text (Some (token, left)) leaves = omega arith

next_shorter : (size : ℕ) (text : List ℕ) → ((byte : ℕ) (more : List ℕ) → text ≡ byte ∷ more → is_gap byte ≡ false) → ShorterBy text (next_token size text)
next_shorter size [] no_gap = tt
next_shorter size (byte ∷ text) no_gap = front_shorter size byte text (token_front size (byte ∷ text)) (front_leaves size byte text (no_gap byte text refl))

shorter_within : (text more : List ℕ) (front : Option (Token × List ℕ)) → length text ≤ length more → ShorterBy text front → ShorterBy more front
shorter_within text more None within shorter = tt
shorter_within text more (Some (token, left)) within shorter = omega arith

not_true : (b : Bool) → not b ≡ true → b ≡ false
not_true true h = sym h
not_true false h = refl

-- no gap stands behind a gap
gap_ends : (text : List ℕ) (byte : ℕ) (more : List ℕ) → behind_gap text ≡ byte ∷ more → is_gap byte ≡ false
gap_ends text byte more is =
    let p : ℕ → Bool = λ byte. not (is_gap byte) in
    let n : ℕ = position_or_len p text in
    let first : get_or (drop n text) 0 0 ≡ byte = ap (λ bytes. get_or bytes 0 0) is in
    let long : length (drop n text) ≡ length (byte ∷ more) = ap length is in
    let same : get_or text n 0 ≡ byte = at_drop text n ∙ first in
    let below : n < length text = begins_below text n byte more long in
    not_true (is_gap byte) (subst (λ b. not (is_gap b) ≡ true) same (passes_at_first p text 0 below))
  where
    at_drop : (text : List ℕ) (n : ℕ) → get_or text n 0 ≡ get_or (drop n text) 0 0
    at_drop text n = grind (arith, common_steps)

    begins_below : (text : List ℕ) (n byte : ℕ) (more : List ℕ) → length (drop n text) ≡ length (byte ∷ more) → n < length text
    begins_below text n byte more long = grind (arith, common_steps)

shorter_behind_gap : (size : ℕ) (text : List ℕ) → ShorterBy text (next_token size (behind_gap text))
shorter_behind_gap size text =
    shorter_within (behind_gap text) text (next_token size (behind_gap text)) (drop_within (position_or_len (λ byte. not (is_gap byte)) text) text)
    (next_shorter size (behind_gap text) (gap_ends text))

behind_same : (g h : List ℕ → List Token) (text : List ℕ) (front : Option (Token × List ℕ)) → ShorterBy text front
    → ((left : List ℕ) → length left < length text → g left ≡ h left) → with_behind g front ≡ with_behind h front
behind_same g h text None shorter same = refl
behind_same g h text (Some (token, left)) shorter same = ap (λ tokens. token ∷ tokens) (same left shorter)

-- any number of steps that is enough reads the same
enough : (m n : ℕ) (size : ℕ) (text : List ℕ) → length text ≤ m → length text ≤ n → tokens_to m size text ≡ tokens_to n size text
unfolding tokens_to
enough zero zero size text first second = refl
enough zero (suc n) size [] first second = refl
enough zero (suc n) size (byte ∷ text) first second = absurd (let h : ⊥ = omega arith in h)
enough (suc m) zero size [] first second = refl
enough (suc m) zero size (byte ∷ text) first second = absurd (let h : ⊥ = omega arith in h)
enough (suc m) (suc n) size text first second =
    behind_same (tokens_to m size) (tokens_to n size) text (next_token size (behind_gap text)) (shorter_behind_gap size text)
    (λ left less. enough m n size left (omega arith) (omega arith))

-- the tokens of a text are its first one and those of the text behind it
tokens_step : (size : ℕ) (text : List ℕ) → tokens_from size text ≡ with_behind (tokens_from size) (next_token size (behind_gap text))
unfolding tokens_to
tokens_step size [] = refl
tokens_step size (byte ∷ text) =
    behind_same (tokens_to (length text) size) (tokens_from size) (byte ∷ text) (next_token size (behind_gap (byte ∷ text))) (shorter_behind_gap size (byte ∷ text))
    (λ left less. enough (length text) (length left) size left (omega arith) (omega arith))

pub tokens_begin : (size : ℕ) (text : List ℕ) (token : Token) (left : List ℕ) → next_token size (behind_gap text) ≡ Some (token, left) → token ∷ tokens_from size left ≡ tokens_from size text
tokens_begin size text token left is = sym (tokens_step size text ∙ ap (with_behind (tokens_from size)) is)

pub tokens_end : (size : ℕ) (text : List ℕ) → next_token size (behind_gap text) ≡ None → [] ≡ tokens_from size text
tokens_end size text is = sym (tokens_step size text ∙ ap (with_behind (tokens_from size)) is)

pub left_within : (size : ℕ) (text : List ℕ) (token : Token) (left : List ℕ) → next_token size (behind_gap text) ≡ Some (token, left) → length left ≤ length text
left_within size text token left is =
    let shorter : length left < length text = subst (ShorterBy text) is (shorter_behind_gap size text) in omega arith

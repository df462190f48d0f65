-- The values of tokens have neither control bytes nor a `"`.
use Rattle.std.proofs.Common.{◌≡◌, ℕ, zero, suc, Bool, true, false, not, ◌&&◌, ◌==◌, if◌then◌else◌, List, [], ◌∷◌, ◌-◌, length, Option, None, Some, IsTrue, refl}
use Rattle.std.proofs.lemmas.Bool.{and_parts}
use Rattle.std.specs.List.{list_all}
use Rattle.std.specs.Option.{option_and_then, option_map}
use Rattle.fw_rich.specs.Tokens.{Token, Written, at_gap, bare, behind_gap, cut_at, ends_key, is_bare, is_gap, is_plain, is_quote, next_token, or_none, pair, quoted, token_front, token_of, tokens_to, up_to, value_front, with_behind, word}
use Rattle.fw_valid.specs.Each.{Each, IfThere}

abbrev pub IsPlain : Written → Type 0
IsPlain value = IsTrue (list_all is_plain value.text)

-- a token has a plain value, or none
abbrev pub IsFair : Token → Type 0
IsFair token = IfThere IsPlain token.value

abbrev pub AreFair : List Token → Type 0
AreFair tokens = Each IsFair tokens

plain_bare : (text : List ℕ) → list_all is_bare text ≡ true → list_all is_plain text ≡ true
plain_bare [] is = refl
plain_bare (byte ∷ text) is =
    let parts = and_parts (is_bare byte) (list_all is_bare text) is in
    let plain = (and_parts (is_plain byte) (not (byte == 39)) parts.0).0 in
    rw (plain, plain_bare text parts.1) refl

-- what is found is plain
abbrev PlainFound : Option (List ℕ × List ℕ) → Type 0
PlainFound found = IfThere (λ (front : List ℕ × List ℕ). IsTrue (list_all is_plain front.0)) found

plain_if : (test plain : Bool) (value text : List ℕ) → (test ≡ true → list_all is_plain value ≡ true) → PlainFound (if test then Some (value, text) else None)
plain_if true plain value text so = so refl
plain_if false plain value text so = tt

quoted_plain : (front : List ℕ × List ℕ) → PlainFound (quoted front)
quoted_plain (value, text) = by (list_all is_plain value) refl
  where
    by : (plain : Bool) → list_all is_plain value ≡ plain → PlainFound (quoted (value, text))
    by true is = rw is (ends (at_gap text))
      where
        ends : (gap : Bool) → PlainFound (if true && gap then Some (value, text) else None)
        ends true = is
        ends false = tt
    by false is = rw is tt

bare_plain : (front : List ℕ × List ℕ) → PlainFound (bare front)
bare_plain ([], text) = tt
bare_plain (byte ∷ value, text) = plain_if (list_all is_bare (byte ∷ value)) true (byte ∷ value) text (plain_bare (byte ∷ value))

then_plain : (found : Option (List ℕ × List ℕ)) → PlainFound (option_and_then quoted found)
then_plain None = tt
then_plain (Some front) = quoted_plain front

front_plain : (text : List ℕ) → PlainFound (value_front text)
front_plain [] = tt
front_plain (byte ∷ text) = by (is_quote byte)
  where
    by : (quote : Bool) → PlainFound (if quote then option_and_then quoted (cut_at byte text) else bare (up_to is_gap (byte ∷ text)))
    by true = then_plain (cut_at byte text)
    by false = bare_plain (up_to is_gap (byte ∷ text))

abbrev FairFound : Option (Token × List ℕ) → Type 0
FairFound found = IfThere (λ (front : Token × List ℕ). IsFair front.0) found

pair_fair : (size offset : ℕ) (key text : List ℕ) → FairFound (pair size offset key text)
pair_fair size offset key text = by (value_front text) (front_plain text)
  where
    by : (found : Option (List ℕ × List ℕ)) → PlainFound found
        → FairFound (option_map (λ found. (record { offset = offset; key = key; value = Some (record { place = size - length text; text = found.0 }) }, found.1)) found)
    by None plain = tt
    by (Some front) plain = plain

of_fair : (size offset : ℕ) (key text : List ℕ) → FairFound (token_of size offset key text)
of_fair size offset key [] = tt
of_fair size offset key (byte ∷ text) = by (is_gap byte) (byte == 61)
  where
    by : (gap equals : Bool) → FairFound (if gap then Some (word offset key, byte ∷ text) else if equals then pair size offset key text else None)
    by true equals = tt
    by false true = pair_fair size offset key text
    by false false = tt

next_fair : (size : ℕ) (text : List ℕ) → FairFound (next_token size text)
next_fair size [] = tt
next_fair size (byte ∷ text) = by (token_front size (byte ∷ text)) (of_fair size (size - length (byte ∷ text)) (up_to ends_key (byte ∷ text)).0 (up_to ends_key (byte ∷ text)).1)
  where
    by : (found : Option (Token × List ℕ)) → FairFound found → IsFair (or_none size (byte ∷ text) found).0
    by None fair = tt
    by (Some front) fair = fair

pub tokens_fair : (most size : ℕ) (text : List ℕ) → AreFair (tokens_to most size text)
unfolding tokens_to
tokens_fair zero size text = tt
tokens_fair (suc most) size text = by (next_token size (behind_gap text)) (next_fair size (behind_gap text)) (λ rest. tokens_fair most size rest)
  where
    by : (found : Option (Token × List ℕ)) → FairFound found → ((rest : List ℕ) → AreFair (tokens_to most size rest)) → AreFair (with_behind (tokens_to most size) found)
    by None fair behind = tt
    by (Some front) fair behind = (fair, behind front.1)

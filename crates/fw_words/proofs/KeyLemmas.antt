-- The key at the front of a word, by std's clause on `strip_prefix`.
use Rattle.std.proofs.Common.{◌≡◌, ◌≢◌, ℕ, ◌+◌, List, [], ◌∷◌, ◌++◌, length, drop, true, false, Bool, ◌==◌, Option, None, Some, Bor, refl, sym, ap, ◌∙◌}
use Rattle.std.specs.Option.{MatchOption, option_copied}
use Rattle.std.specs.Str.Pattern.{FindsTextPrefix}
use Rattle.std.proofs.lemmas.Grind.{common_steps}
use Rattle.std.proofs.Common.{arith}
use Rattle.std.proofs.lemmas.Bool.{eqb-true}
use Rattle.fw_words.specs.Keys.{after_key}

after-front : (key rest : List ℕ) → after_key key (key ++ rest) ≡ Some rest
after-front [] rest = refl
after-front (first ∷ key) rest =
    let same : (first == first) ≡ true = grind (arith, common_steps) in
    rw same (after-front key rest)

-- by whether the first bytes are the same
after-none-first : (b : Bool) (first byte : ℕ) (key word : List ℕ) → (byte == first) ≡ b → (b ≡ true → after_key key word ≡ None) → after_key (first ∷ key) (byte ∷ word) ≡ None
after-none-first true first byte key word is behind = rw is (behind refl)
after-none-first false first byte key word is behind = rw is refl

after-none : (key word : List ℕ) → ((rest : List ℕ) → word ≢ key ++ rest) → after_key key word ≡ None
after-none [] word other = absurd (other word refl)
after-none (first ∷ key) [] other = refl
after-none (first ∷ key) (byte ∷ word) other =
    after-none-first (byte == first) first byte key word refl
    (λ same. after-none key word (λ rest is. other rest (let first_is : byte ≡ first = eqb-true byte first same in ap (λ b. b ∷ word) first_is ∙ ap (λ rest'. first ∷ rest') is)))

pub stripped : (key word : List ℕ) (r : Option (Bor (List ℕ))) → MatchOption r (FindsTextPrefix key word None) (λ x. (n : ℕ) × FindsTextPrefix key word (Some n) × (x.now ≡ drop n word) × (length x.now + n ≡ length word)) → option_copied r ≡ after_key key word
stripped key word None lacks = sym (after-none key word lacks)
stripped key word (Some rest) finds =
    let is : word ≡ key ++ rest.now = finds.1.1 ∙ ap (λ x. key ++ x) (sym finds.2) in
    sym (ap (after_key key) is ∙ after-front key rest.now)

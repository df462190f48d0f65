-- A line in the middle of its split: the words found so far, and the text that is left.
use Rattle.std.proofs.Common.{◌≡◌, ℕ, ◌+◌, ◌-◌, ◌<◌, ◌≤◌, suc, List, [], ◌∷◌, ◌++◌, length, map, Option, None, Some, Bor, refl, sym, ap, ◌∙◌, arith, append_assoc}
use Rattle.std.specs.Option.{option_map}
use Rattle.fw_words.specs.Words.{front_word, words, words_to}

-- words before more words
abbrev pub before : List (List ℕ) → Option (List (List ℕ)) → Option (List (List ℕ))
before found rest = option_map (λ behind. found ++ behind) rest

-- what references to texts point to
abbrev pub texts : List (Bor (List ℕ)) → List (List ℕ)
texts found = map (λ word. word.now) found

pub record IsSplit (line : List ℕ) (found : List (Bor (List ℕ))) (turns : ℕ) (text : List ℕ) : Type 0 where
  pub words_are : words line ≡ before (texts found) (words_to (length line - turns) text)

before-nothing : (rest : Option (List (List ℕ))) → rest ≡ before [] rest
before-nothing None = refl
before-nothing (Some rest) = refl

before-more : (found : List (List ℕ)) (word : List ℕ) (rest : Option (List (List ℕ))) → before found (option_map (λ behind. word ∷ behind) rest) ≡ before (found ++ word ∷ []) rest
before-more found word None = refl
before-more found word (Some rest) = ap Some (sym (append_assoc found (word ∷ []) rest))

texts-more : (found : List (Bor (List ℕ))) (word : Bor (List ℕ)) → texts (found ++ word ∷ []) ≡ texts found ++ word.now ∷ []
texts-more [] word = refl
texts-more (first ∷ found) word = ap (λ rest. first.now ∷ rest) (texts-more found word)

pub split-first : (line : List ℕ) (found : List (Bor (List ℕ))) → found ≡ [] → IsSplit line found 0 line
split-first line found none =
    let all : length line - 0 ≡ length line = omega arith in
    record { words_are = rw (none, all) (before-nothing (words line)) }

-- a budget of words, of which one is used
budget : (most turns : ℕ) → turns < most → most - turns ≡ suc (most - (turns + 1))
budget most turns left = omega arith

words_to-none : (n : ℕ) (text : List ℕ) → front_word text ≡ None → words_to (suc n) text ≡ None
unfolding words_to
words_to-none n text none = rw none refl

words_to-last : (n : ℕ) (text word : List ℕ) → front_word text ≡ Some (word, None) → words_to (suc n) text ≡ Some (word ∷ [])
unfolding words_to
words_to-last n text word last = rw last refl

words_to-more : (n : ℕ) (text word rest : List ℕ) → front_word text ≡ Some (word, Some rest) → words_to (suc n) text ≡ option_map (λ behind. word ∷ behind) (words_to n rest)
unfolding words_to
words_to-more n text word rest more = rw more refl

words_to-spent : (text : List ℕ) → words_to 0 text ≡ None
unfolding words_to
words_to-spent text = refl

pub split-none : (line text : List ℕ) (found : List (Bor (List ℕ))) (turns : ℕ) → IsSplit line found turns text → turns < length line → front_word text ≡ None → words line ≡ None
split-none line text found turns split left none =
    split.words_are ∙ ap (before (texts found)) (ap (λ n. words_to n text) (budget (length line) turns left) ∙ words_to-none (length line - (turns + 1)) text none)

pub split-spent : (line text : List ℕ) (found : List (Bor (List ℕ))) (turns : ℕ) → IsSplit line found turns text → length line ≤ turns → words line ≡ None
split-spent line text found turns split spent =
    let nothing : length line - turns ≡ 0 = omega arith in
    split.words_are ∙ ap (before (texts found)) (ap (λ n. words_to n text) nothing ∙ words_to-spent text)

pub split-last : (line text : List ℕ) (found all : List (Bor (List ℕ))) (word : Bor (List ℕ)) (turns : ℕ) → IsSplit line found turns text → turns < length line → front_word text ≡ Some (word.now, None) → all ≡ found ++ word ∷ [] → words line ≡ Some (texts all)
split-last line text found all word turns split left last more =
    split.words_are ∙ ap (before (texts found)) (ap (λ n. words_to n text) (budget (length line) turns left) ∙ words_to-last (length line - (turns + 1)) text word.now last)
    ∙ ap Some (sym (ap texts more ∙ texts-more found word))

pub split-more : (line text rest : List ℕ) (found all : List (Bor (List ℕ))) (word : Bor (List ℕ)) (turns : ℕ) → IsSplit line found turns text → turns < length line → front_word text ≡ Some (word.now, Some rest) → all ≡ found ++ word ∷ [] → IsSplit line all (turns + 1) rest
split-more line text rest found all word turns split left next more = record {
  words_are =
      split.words_are ∙ ap (before (texts found)) (ap (λ n. words_to n text) (budget (length line) turns left) ∙ words_to-more (length line - (turns + 1)) text word.now rest next)
      ∙ before-more (texts found) word.now (words_to (length line - (turns + 1)) rest)
      ∙ ap (λ front. before front (words_to (length line - (turns + 1)) rest)) (sym (ap texts more ∙ texts-more found word));
}

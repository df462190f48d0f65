-- A test of references to texts is a test of the texts.
use Rattle.std.proofs.Common.{◌≡◌, ℕ, Bool, ◌&&◌, List, [], ◌∷◌, Bor, refl, ap}
use Rattle.std.specs.List.{list_all}
use Rattle.fw_words.specs.Keys.{texts}

pub all_texts : (test : List ℕ → Bool) (words : List (Bor (List ℕ))) → list_all (λ word. test word.now) words ≡ list_all test (texts words)
all_texts test [] = refl
all_texts test (word ∷ words) = ap (λ rest. test word.now && rest) (all_texts test words)

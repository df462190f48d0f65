-- Lists of printed parts, by their first part and the others.
use Rattle.std.proofs.Common.{◌≡◌, ℕ, List, [], ◌∷◌, ◌++◌, map, codes, ap, sym, ◌∙◌, append_assoc}
use Rattle.std.specs.List.{flat_map}
use Rattle.std.proofs.lemmas.Grind.{flat_map-append}
use Rattle.std.proofs.lemmas.List.Folds.{flat_map-map}
use Rattle.nf_rules.specs.Printed.{in_braces, separated}

-- each behind a separator
abbrev behind : {T : Type 0} → List ℕ → (T → List ℕ) → List T → List ℕ
behind separator text parts = flat_map (λ part. separator ++ text part) parts

behind-map : {T : Type 0} (separator : List ℕ) (text : T → List ℕ) (parts : List T) → flat_map (λ other. separator ++ other) (map text parts) ≡ behind separator text parts
behind-map separator text parts = flat_map-map (λ other. separator ++ other) text parts

pub separated-parts : {T : Type 0} (separator : List ℕ) (text : T → List ℕ) (parts : List T) (first : T) (others : List T) → parts ≡ first ∷ others → separated separator (map text parts) ≡ text first ++ flat_map (λ part. separator ++ text part) others
separated-parts separator text parts first others is =
    ap (λ listed. separated separator (map text listed)) is
    ∙ ap (λ (rest : List ℕ). text first ++ rest) (behind-map separator text others)

pub separated-both : {S T : Type 0} (separator : List ℕ) (text : S → List ℕ) (more : T → List ℕ) (parts : List S) (first : S) (others : List S) (rest : List T) → parts ≡ first ∷ others → separated separator (map text parts ++ map more rest) ≡ (text first ++ flat_map (λ part. separator ++ text part) others) ++ flat_map (λ part. separator ++ more part) rest
separated-both separator text more parts first others rest is =
    ap (λ listed. separated separator (map text listed ++ map more rest)) is
    ∙ ap (λ (behind_first : List ℕ). text first ++ behind_first) (flat_map-append (λ other. separator ++ other) (map text others) (map more rest)
    ∙ ap (λ (front : List ℕ). front ++ flat_map (λ other. separator ++ other) (map more rest)) (behind-map separator text others)
    ∙ ap (λ (back : List ℕ). behind separator text others ++ back) (behind-map separator more rest))
    ∙ sym (append_assoc (text first) (behind separator text others) (behind separator more rest))

pub braces-parts : {T : Type 0} (text : T → List ℕ) (parts : List T) (first : T) (others : List T) → parts ≡ first ∷ others → in_braces (map text parts) ≡ codes "{ " ++ (text first ++ flat_map (λ part. codes ", " ++ text part) others) ++ codes " }"
braces-parts text parts first others is =
    ap (λ listed. in_braces (map text listed)) is
    ∙ ap (λ (inside : List ℕ). codes "{ " ++ inside ++ codes " }") (ap (λ (rest : List ℕ). text first ++ rest) (behind-map (codes ", ") text others))

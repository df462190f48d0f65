-- What is read as a signature is one.
use Rattle.std.proofs.Common.{◌≡◌, ℕ, ◌≤◌, List, ◌++◌, length, Ok, ap, subst, ◌∙◌, arith}
use Rattle.std.proofs.lemmas.List.{append-nil, nil_from_length}
use Rattle.dbus_signature.specs.declared.kind.Kind.{Kind}
use Rattle.dbus_signature.specs.Types.{codes}
use Rattle.dbus_signature.specs.Signatures.{kind_at, kinds_at, IsSignature, SpellsType, IsKind}
use Rattle.dbus_signature.proofs.Sound.{kind_takes}
use Rattle.dbus_signature.proofs.Whole.{kinds_take, type_is_signature}

pub codes_signature : (n at : ℕ) (text : List ℕ) (kinds : List Kind) → kinds_at n at text ≡ Ok kinds → length text ≤ 255 → IsSignature text
codes_signature n at text kinds e short =
    let t = kinds_take n at text kinds e in
    record { kinds = kinds; spelt = t.0; nested = t.1; short = short }

pub one_type_spelt : (at : ℕ) (text : List ℕ) (kind : Kind) (next : ℕ) (rest : List ℕ) → kind_at 32 32 at text ≡ Ok (kind, next, rest) → length rest ≡ 0 → length text ≤ 255 → SpellsType text kind
one_type_spelt at text kind next rest e none short =
    let t = kind_takes 64 32 32 (omega arith) at text (kind, next, rest) e in
    let whole : text ≡ codes kind = t.0.parts ∙ ap (λ (r : List ℕ). codes kind ++ r) (nil_from_length rest none) ∙ append-nil (codes kind) in
    record { spelt = whole; nested = t.1; short = short }

pub one_type_signature : (at : ℕ) (text : List ℕ) (kind : Kind) (next : ℕ) (rest : List ℕ) → kind_at 32 32 at text ≡ Ok (kind, next, rest) → length rest ≡ 0 → length text ≤ 255 → IsSignature text
one_type_signature at text kind next rest e none short = type_is_signature text kind (one_type_spelt at text kind next rest e none short)

pub one_type_kind : (at : ℕ) (text : List ℕ) (kind : Kind) (next : ℕ) (rest : List ℕ) → kind_at 32 32 at text ≡ Ok (kind, next, rest) → length rest ≡ 0 → length text ≤ 255 → IsKind kind
one_type_kind at text kind next rest e none short =
    let s = one_type_spelt at text kind next rest e none short in
    subst (λ (t : List ℕ). SpellsType t kind) s.spelt s

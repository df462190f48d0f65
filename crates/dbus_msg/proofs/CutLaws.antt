-- Cutting off one whole message after the other.
use Rattle.std.proofs.Common.{◌≡◌, ℕ, ◌+◌, ◌-◌, ◌<◌, ◌≤◌, List, [], ◌∷◌, ◌++◌, length, drop, Bool, true, Result, Ok, Err, refl, sym, ap, subst, ◌∙◌, append_assoc, arith}
use Rattle.std.specs.Prelude.{OnOk, is_ok}
use Rattle.std.proofs.lemmas.Bool.{false≢true}
use Rattle.std.proofs.lemmas.List.{append-nil, drop-drop, length-drop}
use Rattle.dbus_msg.specs.declared.message.Message.{Message}
use Rattle.dbus_msg.specs.Streams.{BadAt, here, later, next, none_whole, one_more, part, refused, Split, whole}

-- These messages were cut off the bytes, and this is left.
pub record CutOff (bytes : List ℕ) (messages : List Message) (rest : List ℕ) : Type 0 where
  pub split : (more : List Message) (left : List ℕ) → Split rest more left → Split bytes (messages ++ more) left
  pub bad : (more : List Message) (place : ℕ) → BadAt rest more place → BadAt bytes (messages ++ more) (place + (length bytes - length rest))
  pub left : rest ≡ drop (length bytes - length rest) bytes
  pub within : length rest ≤ length bytes

pub cut_begins : (bytes : List ℕ) → CutOff bytes [] bytes
cut_begins bytes = record {
  split = λ more left s. s;
  bad = λ more place b. subst (λ (p : ℕ). BadAt bytes more p) (let same : place ≡ place + (length bytes - length bytes) = omega arith in same) b;
  left = let none : length bytes - length bytes ≡ 0 = omega arith in rw none refl;
  within = omega arith;
}

pub cut_goes_on : (bytes : List ℕ) (messages : List Message) (rest : List ℕ) (message : Message) (len : ℕ) (behind : List ℕ) → CutOff bytes messages rest → behind ≡ drop len rest → 0 < len → len ≤ length rest → whole message (drop len rest) ≡ next rest
    → CutOff bytes (messages ++ message ∷ []) behind
cut_goes_on bytes messages rest message len behind c is some le comes =
    let next_is : next rest ≡ whole message behind = sym comes ∙ ap (whole message) (sym is) in
    let len_behind : length behind ≡ length rest - len = ap length is ∙ length-drop len rest in
    let from : (length bytes - length rest) + len ≡ length bytes - length behind = omega (arith, c.within) in
    record {
      split = λ more left s. subst (λ (ms : List Message). Split bytes ms left) (sym (append_assoc messages (message ∷ []) more)) (c.split (message ∷ more) left (one_more next_is s));
      bad = λ more place b.
          let one = c.bad (message ∷ more) (place + (length rest - length behind)) (later next_is b) in
          let same : place + (length rest - length behind) + (length bytes - length rest) ≡ place + (length bytes - length behind) = omega (arith, c.within) in
          subst (λ (ms : List Message). BadAt bytes ms (place + (length bytes - length behind))) (sym (append_assoc messages (message ∷ []) more))
          (subst (λ (p : ℕ). BadAt bytes (messages ++ message ∷ more) p) same one);
      left = is ∙ ap (drop len) c.left ∙ drop-drop len (length bytes - length rest) bytes ∙ ap (λ (n : ℕ). drop n bytes) from;
      within = omega (arith, c.within);
    }

pub cut_open : (bytes : List ℕ) (messages : List Message) (rest : List ℕ) → CutOff bytes messages rest → part ≡ next rest → Split bytes messages (drop (length bytes - length rest) bytes)
cut_open bytes messages rest c comes =
    subst (λ (ms : List Message). Split bytes ms (drop (length bytes - length rest) bytes)) (append-nil messages)
    (subst (λ (left : List ℕ). Split bytes (messages ++ []) left) c.left (c.split [] rest (none_whole (sym comes))))

pub cut_bad : (bytes : List ℕ) (messages : List Message) (rest : List ℕ) → CutOff bytes messages rest → refused ≡ next rest → BadAt bytes messages (length bytes - length rest)
cut_bad bytes messages rest c comes =
    let at = length bytes - length rest in
    let none : 0 + at ≡ at = omega arith in
    subst (λ (ms : List Message). BadAt bytes ms at) (append-nil messages) (subst (λ (p : ℕ). BadAt bytes (messages ++ []) p) none (c.bad [] 0 (here (sym comes))))

-- what holds of a success
pub ok_holds : {T E : Type 0} (P : Type 0) (r : Result T E) (b : Bool) → b ≡ true → b ≡ is_ok r → OnOk r P → P
ok_holds P (Ok x) b yes_it is p = p
ok_holds P (Err e) b yes_it is p = absurd (false≢true (sym is ∙ yes_it))

-- A reader fails at a place exactly where its bytes are at fault there.
use Rattle.std.proofs.Common.{◌≡◌, ℕ, zero, suc, ◌+◌, ◌^◌, ◌<◌, ◌≤◌, Bool, true, false, cond, ltb, eqb, List, [], ◌∷◌, ◌++◌, length, take, drop, Ok, Err, refl, sym, ap, subst, ◌∙◌, arith, inl, inr}
use Rattle.std.specs.Prelude.{replicate}
use Rattle.std.specs.Int.{Width, w32, byte_len}
use Rattle.std.proofs.lemmas.Bool.{ltb-true, ltb-false, lt-ltb, le-ltb, eqb-true, eqb-false, ne_eqb, false≢true}
use Rattle.std.proofs.lemmas.List.{take-append-drop, length-append, length-take, length-replicate, take_at, drop_at}
use Rattle.dbus_signature.specs.Reading.{Reader, ◌>>=◌}
use Rattle.dbus_signature.proofs.Sound.{chosen, Takes}
use Rattle.dbus_signature.proofs.Stops.{bind_err, err_is, not_err}
use Rattle.dbus_wire.specs.declared.value.Endian.{Endian}
use Rattle.dbus_wire.specs.Fields.{gap, zeros_at, padding_at, from_bytes, number_at, aligned_at, bool_of, bool_at, ended_at, text_at}
use Rattle.dbus_wire.specs.Spelling.{padding, to_bytes, aligned}
use Rattle.dbus_wire.specs.Faults.{Fault, Then, ThenOf, NoZero, ZeroFault, ZerosFault, PaddingFault, Missing, NumberFault, LimitFault, BoolFault, EndedFault, TextFault}
use Rattle.dbus_wire.proofs.Took.{IsBytes, bytes_rest, padding_takes, IsExact, exact32, number_takes, aligned_takes}
use Rattle.dbus_wire.proofs.Again.{padding_again, IsWide, wide32, number_again, aligned_again}

-- A reader fails at a place exactly where it is one of the fault.
pub record Blames {A : Type 0} (reader : Reader A) (fault : Fault) : Type 0 where
  pub found : (at : ℕ) (text : List ℕ) (place : ℕ) → IsBytes text → reader at text ≡ Err place → fault at text place
  pub only : (at : ℕ) (text : List ℕ) (place : ℕ) → fault at text place → reader at text ≡ Err place

-- What a reader reads is spelt so, and what is spelt so is read.
pub record Knows {A : Type 0} (reader : Reader A) (is : ℕ → A → Type 0) (front : A → ℕ → List ℕ) : Type 0 where
  pub took : (at : ℕ) (text : List ℕ) (x : A × ℕ × List ℕ) → IsBytes text → reader at text ≡ Ok x → Takes at text (front x.0 at) x.1 x.2 × is at x.0
  pub again : (at : ℕ) (x : A) (rest : List ℕ) → is at x → reader at (front x at ++ rest) ≡ Ok (x, at + length (front x at), rest)

-- one reader and then another
pub then_blames : {A B : Type 0} (first : Reader A) (second : A → Reader B) (fault : Fault) (is : ℕ → A → Type 0) (front : A → ℕ → List ℕ) (behind : A → Fault)
    → Knows first is front → Blames first fault → ((at : ℕ) (x : A) → is at x → Blames (second x) (behind x))
    → Blames (λ at text. first at text >>= λ x. second x.0 x.1 x.2) (ThenOf fault is front behind)
then_blames {A} {B} first second fault is front behind knows one two = record {
  found = λ at text place fits e. elim (bind_err (first at text) (λ x. second x.0 x.1 x.2) place e) [
    | inl failed ↦ inl (one.found at text place fits failed)
    | inr done ↦
        let x = done.0 in
        let t = knows.took at text x fits done.1 in
        let here : behind x.0 x.1 x.2 place = (two at x.0 t.1).found x.1 x.2 place (bytes_rest at text (front x.0 at) x.1 x.2 t.0 fits) done.2 in
        inr (x.0, t.1, (x.2, t.0.parts, subst (λ (n : ℕ). behind x.0 n x.2 place) t.0.moved here))
  ];
  only = λ at text place f. elim f [
    | inl failed ↦ rw (one.only at text place failed) refl
    | inr done ↦ rw (done.2.1, knows.again at done.0 done.2.0 done.1) ((two at done.0 done.1).only (at + length (front done.0 at)) done.2.0 place done.2.2)
  ];
}

-- the same where what comes first is one thing alone
pub plain_then : {B : Type 0} (first : Reader (Unit {0})) (second : Reader B) (fault behind : Fault) (front : ℕ → List ℕ)
    → Knows first (λ at x. Unit {0}) (λ x. front) → Blames first fault → Blames second behind
    → Blames (λ at text. first at text >>= λ x. second x.1 x.2) (Then fault front behind)
plain_then {B} first second fault behind front knows one two =
    let both = then_blames first (λ x. second) fault (λ at x. Unit {0}) (λ x. front) (λ x. behind) knows one (λ at x is. two) in
    record {
      found = λ at text place fits e. elim (both.found at text place fits e) [ inl failed ↦ inl failed | inr done ↦ inr done.2 ];
      only = λ at text place f. both.only at text place (elim f as (λ v. ThenOf fault (λ at x. Unit {0}) (λ x. front) (λ x. behind) at text place) [ inl failed ↦ inl failed | inr done ↦ inr (tt, tt, done) ]);
    }

-- what a reader reads may be made into something
pub made_blames : {A B : Type 0} (make : A → B) (reader : Reader A) (fault : Fault) → Blames reader fault → Blames (λ at text. reader at text >>= λ x. Ok (make x.0, x.1, x.2)) fault
made_blames {A} {B} make reader fault one = record {
  found = λ at text place fits e. elim (bind_err (reader at text) (λ x. Ok (make x.0, x.1, x.2)) place e) [
    | inl failed ↦ one.found at text place fits failed
    | inr done ↦ absurd (not_err (make done.0.0, done.0.1, done.0.2) place done.2)
  ];
  only = λ at text place f. rw (one.only at text place f) refl;
}

-- the same of a reader that reads the same
pub blames_along : {A : Type 0} (reader other : Reader A) (fault : Fault) → ((at : ℕ) (text : List ℕ) → reader at text ≡ other at text) → Blames other fault → Blames reader fault
blames_along reader other fault same one = record {
  found = λ at text place fits e. one.found at text place fits (sym (same at text) ∙ e);
  only = λ at text place f. same at text ∙ one.only at text place f;
}

-- ---- zeros

zeros_found : (count at : ℕ) (text : List ℕ) (place : ℕ) → zeros_at count at text ≡ Err place → ZerosFault count at text place
unfolding zeros_at
zeros_found zero at text place e = absurd (not_err (tt, at, text) place e)
zeros_found (suc n) at [] place e = (0, omega arith, ([], refl, (omega (arith, err_is at place e), tt)))
zeros_found (suc n) at (c ∷ rest) place e =
    elim (chosen (eqb c 0) (zeros_at n (at + 1) rest) (Err at) (Err place) e) [
      | inl p ↦
          let f = zeros_found n (at + 1) rest place p.1 in
          (suc f.0, omega (arith, f.1), (f.2.0, ap (λ (l : ℕ). l ∷ rest) (eqb-true c 0 p.0) ∙ ap (λ (l : List ℕ). 0 ∷ l) f.2.1, (omega (arith, f.2.2.0), f.2.2.1)))
      | inr p ↦ (0, omega arith, (c ∷ rest, refl, (omega (arith, err_is at place p.1), λ is. eqb-false c 0 p.0 is)))
    ]

no_zero : (n at : ℕ) (rest : List ℕ) → NoZero rest → zeros_at (suc n) at rest ≡ Err at
unfolding zeros_at
no_zero n at [] no_more = refl
no_zero n at (c ∷ rest) other = rw (ne_eqb c 0 other) refl

zeros_only : (count before at : ℕ) (rest : List ℕ) (place : ℕ) → before < count → place ≡ at + before → NoZero rest → zeros_at count at (replicate before 0 ++ rest) ≡ Err place
unfolding zeros_at
zeros_only zero before at rest place lt is other = absurd (omega arith)
zeros_only (suc n) zero at rest place lt is other = no_zero n at rest other ∙ ap (λ (p : ℕ). Err p) (let e : at ≡ place = omega arith in e)
zeros_only (suc n) (suc b) at rest place lt is other = zeros_only n b (at + 1) rest place (omega arith) (omega arith) other

pub zeros_blames : (count : ℕ) → Blames (zeros_at count) (ZerosFault count)
zeros_blames count = record {
  found = λ at text place fits e. zeros_found count at text place e;
  only = λ at text place f. rw f.2.1 (zeros_only count f.0 at f.2.0 place f.1 (omega (arith, f.2.2.0, length-replicate {A = ℕ} f.0 0)) f.2.2.1);
}

pub padding_blames : (align : ℕ) → Blames (padding_at align) (PaddingFault align)
unfolding padding_at
padding_blames align = record {
  found = λ at text place fits e. zeros_found (gap align at) at text place e;
  only = λ at text place f. (zeros_blames (gap align at)).only at text place f;
}

pub padding_knows : (align : ℕ) → Knows (padding_at align) (λ at x. Unit {0}) (λ x. padding align)
padding_knows align = record {
  took = λ at text x fits h. (padding_takes align at text x h, tt);
  again = λ at x rest is. padding_again align at rest;
}

-- the one zero that closes a text
pub zero_blames : {A : Type 0} (x : A) → Blames (λ at text. zeros_at 1 at text >>= λ nul. Ok (x, nul.1, nul.2)) ZeroFault
zero_blames {A} x =
    let one = made_blames (λ u. x) (zeros_at 1) (ZerosFault 1) (zeros_blames 1) in
    record {
      found = λ at text place fits e.
          let f = one.found at text place fits e in
          let none : f.0 ≡ 0 = omega (arith, f.1) in
          let is : text ≡ f.2.0 = f.2.1 ∙ ap (λ (n : ℕ). replicate n 0 ++ f.2.0) none in
          (omega (arith, f.2.2.0, ap (λ (n : ℕ). length {A = ℕ} (replicate n 0)) none), subst NoZero (sym is) f.2.2.1);
      only = λ at text place f. one.only at text place (0, omega arith, (text, refl, (omega (arith, f.0), f.1)));
    }

-- ---- numbers

pub number_blames : (e : Endian) (w : Width) → Blames (number_at e w) (Missing (byte_len w))
number_blames e w = record {
  found = λ at text place fits h. elim (chosen (ltb (length text) (byte_len w)) (Err at) (Ok (from_bytes e w (take (byte_len w) text), at + byte_len w, drop (byte_len w) text)) (Err place) h) [
    | inl p ↦ (sym (err_is at place p.1), ltb-true _ _ p.0)
    | inr p ↦ absurd (not_err _ place p.1)
  ];
  only = λ at text place f. let short : ltb (length text) (byte_len w) ≡ true = lt-ltb _ _ f.1 in rw short (ap (λ (p : ℕ). Err p) (sym f.0));
}

pub number_knows : (e : Endian) (w : Width) (limit : ℕ) → IsExact e w limit → IsWide e w limit → Knows (number_at e w) (λ at n. n < limit) (λ n at. to_bytes e w n)
number_knows e w limit exact wide = record {
  took = λ at text x fits h. number_takes e w limit exact at text x fits h;
  again = λ at n rest lt. number_again e w limit wide n at rest lt ∙ ap (λ (k : ℕ). Ok (n, at + k, rest)) (sym (wide.len n));
}

pub aligned_blames : (e : Endian) (w : Width) → Blames (aligned_at e w) (NumberFault w)
unfolding aligned_at
aligned_blames e w = plain_then (padding_at (byte_len w)) (number_at e w) (PaddingFault (byte_len w)) (Missing (byte_len w)) (padding (byte_len w)) (padding_knows (byte_len w)) (padding_blames (byte_len w)) (number_blames e w)

pub aligned_knows : (e : Endian) (w : Width) (limit : ℕ) → IsExact e w limit → IsWide e w limit → Knows (aligned_at e w) (λ at n. n < limit) (λ n at. aligned e w n at)
aligned_knows e w limit exact wide = record {
  took = λ at text x fits h. aligned_takes e w limit exact at text x fits h;
  again = λ at n rest lt. aligned_again e w limit wide n at rest lt;
}

-- ---- booleans

truth_fails : (place : ℕ) (n : ℕ × ℕ × List ℕ) (blamed : ℕ) → bool_of place n ≡ Err blamed → (1 < n.0) × (blamed ≡ place)
truth_fails place n blamed h =
    elim (chosen (eqb n.0 0) (Ok (false, n.1, n.2)) (cond (eqb n.0 1) (Ok (true, n.1, n.2)) (Err place)) (Err blamed) h) [
      | inl p ↦ absurd (not_err _ blamed p.1)
      | inr p ↦ elim (chosen (eqb n.0 1) (Ok (true, n.1, n.2)) (Err place) (Err blamed) p.1) [
        | inl q ↦ absurd (not_err _ blamed q.1)
        | inr q ↦ (above n.0 p.0 q.0, sym (err_is place blamed q.1))
      ]
    ]
  where
    above : (m : ℕ) → eqb m 0 ≡ false → eqb m 1 ≡ false → 1 < m
    above zero p q = absurd (false≢true (sym p))
    above (suc zero) p q = absurd (false≢true (sym q))
    above (suc (suc m)) p q = omega arith

no_truth : (place n next : ℕ) (rest : List ℕ) → 1 < n → bool_of place (n, next, rest) ≡ Err place
no_truth place n next rest lt = rw (ne_eqb n 0 (λ e. absurd (omega arith)), ne_eqb n 1 (λ e. absurd (omega arith))) refl

truth_blames : (e : Endian) → Blames (λ at text. number_at e w32 at text >>= λ number. bool_of at number) (LimitFault e 1)
truth_blames e = record {
  found = λ at text place fits h. elim (bind_err (number_at e w32 at text) (λ number. bool_of at number) place h) [
    | inl failed ↦ inl ((number_blames e w32).found at text place fits failed)
    | inr done ↦
        let t = number_takes e w32 (2 ^ 32) (exact32 e) at text done.0 fits done.1 in
        let f = truth_fails at done.0 place done.2 in
        inr (done.0.0, done.0.2, t.0.parts, f.0, t.1, f.1)
  ];
  only = λ at text place f. elim f [
    | inl failed ↦ rw ((number_blames e w32).only at text place failed) refl
    | inr above ↦ rw (above.2, number_again e w32 (2 ^ 32) (wide32 e) above.0 at above.1 above.4) (no_truth at above.0 (at + 4) above.1 above.3 ∙ ap (λ (p : ℕ). Err p) (sym above.5))
  ];
}

pub bool_blames : (e : Endian) → Blames (bool_at e) (BoolFault e)
unfolding bool_at
bool_blames e = plain_then (padding_at 4) (λ at text. number_at e w32 at text >>= λ number. bool_of at number) (PaddingFault 4) (LimitFault e 1) (padding 4) (padding_knows 4) (padding_blames 4) (truth_blames e)

-- ---- texts

ended_blames : (is_valid : List ℕ → Bool) (n : ℕ) → Blames (ended_at is_valid n) (EndedFault is_valid n)
unfolding ended_at
ended_blames is_valid n = record {
  found = λ at text place fits h. elim (chosen (ltb (length text) n) (Err at) _ (Err place) h) [
    | inl p ↦ inl (sym (err_is at place p.1), inl (ltb-true _ _ p.0))
    | inr p ↦ elim (chosen (is_valid (take n text)) (zeros_at 1 (at + n) (drop n text) >>= λ nul. Ok (take n text, nul.1, nul.2)) (Err at) (Err place) p.1) [
      | inr q ↦ inl (sym (err_is at place q.1), inr q.0)
      | inl q ↦
          let long : n ≤ length text = ltb-false _ _ p.0 in
          let len : length (take n text) ≡ n = omega (arith, length-take n text) in
          let whole = sym (take-append-drop n text) in
          let head : Takes at text (take n text) (at + n) (drop n text) = record { parts = whole; moved = rw len refl } in
          let z = (zero_blames (take n text)).found (at + n) (drop n text) place (bytes_rest at text (take n text) (at + n) (drop n text) head fits) q.1 in
          inr (take n text, len, q.0, (drop n text, whole, (omega (arith, z.0, len), z.1)))
    ]
  ];
  only = λ at text place f. elim f [
    | inl body ↦ elim body.1 [
      | inl short ↦ let is : ltb (length text) n ≡ true = lt-ltb _ _ short in rw is (ap (λ (p : ℕ). Err p) (sym body.0))
      | inr wrong ↦ not_valid at text place body.0 wrong (ltb (length text) n) refl
    ]
    | inr done ↦
        let body = done.0 in
        let rest = done.3.0 in
        let enough : ltb (length (body ++ rest)) n ≡ false = le-ltb _ _ (omega (arith, length-append body rest, done.1)) in
        let z = (zero_blames body).only (at + n) rest place (omega (arith, done.3.2.0, done.1), done.3.2.1) in
        rw (done.3.1, enough, take_at body rest n done.1, drop_at body rest n done.1, done.2) z
  ];
}
  where
    not_valid : (at : ℕ) (text : List ℕ) (place : ℕ) → place ≡ at → is_valid (take n text) ≡ false → (b : Bool) → ltb (length text) n ≡ b → ended_at is_valid n at text ≡ Err place
    not_valid at text place same wrong true is = rw is (ap (λ (p : ℕ). Err p) (sym same))
    not_valid at text place same wrong false is = rw (is, wrong) (ap (λ (p : ℕ). Err p) (sym same))

pub text_blames : (is_valid : List ℕ → Bool) (e : Endian) → Blames (text_at is_valid e) (TextFault is_valid e)
unfolding text_at
text_blames is_valid e = then_blames (aligned_at e w32) (λ n. ended_at is_valid n) (NumberFault w32) (λ at n. n < 2 ^ 32) (λ n at. aligned e w32 n at) (EndedFault is_valid)
    (aligned_knows e w32 (2 ^ 32) (exact32 e) (wide32 e)) (aligned_blames e w32) (λ at n lt. ended_blames is_valid n)

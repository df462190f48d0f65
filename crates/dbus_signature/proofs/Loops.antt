-- Reading one after the other, as a loop does.
use Rattle.std.proofs.Common.{◌≡◌, ℕ, zero, suc, ◌≤◌, ◌<◌, List, [], ◌∷◌, ◌++◌, length, Some, None, Result, Ok, Err, refl, sym, ap, ◌∙◌, append_assoc, arith}
use Rattle.std.proofs.lemmas.List.{append-nil}
use Rattle.dbus_signature.specs.declared.kind.Kind.{Kind}
use Rattle.dbus_signature.specs.declared.error.WireError.{WireError}
use Rattle.dbus_signature.specs.declared.error.WireError.TheVariants as errors
use Rattle.dbus_signature.specs.Reading.{Read, Reader, ◌>>=◌, Fails}
use Rattle.dbus_signature.specs.Signatures.{closing, members_at, kind_at, kinds_at, max_nesting}

-- A loop goes on: for a number that bounds the bytes left, what it still reads gives all that it was to read.
pub record GoesOn {A : Type 0} (still : ℕ → A) (all : A) (left first : ℕ) : Type 0 where
  pub bound : ℕ
  pub enough : left ≤ bound
  pub same : still bound ≡ all
  pub no_more : left ≤ first

-- what was read before, and what is still read
abbrev pub with_members : List Kind → Read (List Kind) → Read (List Kind)
with_members front read = read >>= λ x. Ok (front ++ x.0, x.1, x.2)

regroup : (front : List Kind) (k : Kind) (read : Read (List Kind)) → with_members front (read >>= λ x. Ok (k ∷ x.0, x.1, x.2)) ≡ with_members (front ++ k ∷ []) read
regroup front k (Ok x) = ap (λ (ks : List Kind). Ok (ks, x.1, x.2)) (simp append_assoc)
regroup front k (Err place) = refl

no_front : (read : Read (List Kind)) → with_members [] read ≡ read
no_front (Ok x) = refl
no_front (Err place) = refl

pub begins : (inner : Reader Kind) (at : ℕ) (text : List ℕ) → GoesOn (λ n. with_members [] (members_at inner n at text)) (members_at inner (length text) at text) (length text) (length text)
begins inner at text = record { bound = length text; enough = omega arith; same = no_front (members_at inner (length text) at text); no_more = omega arith }

-- the next member, behind which the struct is not closed
pub goes_on : (inner : Reader Kind) (front : List Kind) (at : ℕ) (text : List ℕ) (k : Kind) (next : ℕ) (rest : List ℕ) (all : Read (List Kind)) (first : ℕ)
    → inner at text ≡ Ok (k, next, rest) → length rest < length text → closing next rest ≡ None
    → GoesOn (λ n. with_members front (members_at inner n at text)) all (length text) first
    → GoesOn (λ n. with_members (front ++ k ∷ []) (members_at inner n next rest)) all (length rest) first
unfolding members_at
goes_on inner front at text k next rest all first is shorter unclosed goes = by_bound goes.bound goes.enough goes.same where
  by_bound : (n : ℕ) → length text ≤ n → with_members front (members_at inner n at text) ≡ all → GoesOn (λ m. with_members (front ++ k ∷ []) (members_at inner m next rest)) all (length rest) first
  by_bound zero enough same = absurd (omega arith)
  by_bound (suc n) enough same =
      let one : with_members front (members_at inner (suc n) at text) ≡ with_members (front ++ k ∷ []) (members_at inner n next rest) = rw (is, unclosed) (regroup front k (members_at inner n next rest)) in
      record { bound = n; enough = omega arith; same = sym one ∙ same; no_more = omega (arith, goes.no_more) }

-- the last member, behind which it is
pub closes : (inner : Reader Kind) (front : List Kind) (at : ℕ) (text : List ℕ) (k : Kind) (next : ℕ) (rest : List ℕ) (end : ℕ × List ℕ) (all : Read (List Kind)) (first : ℕ)
    → inner at text ≡ Ok (k, next, rest) → length rest < length text → closing next rest ≡ Some end
    → GoesOn (λ n. with_members front (members_at inner n at text)) all (length text) first
    → all ≡ Ok (front ++ k ∷ [], end.0, end.1)
unfolding members_at
closes inner front at text k next rest end all first is shorter shut goes = by_bound goes.bound goes.enough goes.same where
  by_bound : (n : ℕ) → length text ≤ n → with_members front (members_at inner n at text) ≡ all → all ≡ Ok (front ++ k ∷ [], end.0, end.1)
  by_bound zero enough same = absurd (omega arith)
  by_bound (suc n) enough same =
      let one : with_members front (members_at inner (suc n) at text) ≡ Ok (front ++ k ∷ [], end.0, end.1) = rw (is, shut) refl in
      sym same ∙ one

abbrev refused : ℕ → Read Kind
refused at = Err at

err_is : (a b : ℕ) → refused a ≡ refused b → a ≡ b
err_is a b e = cc

abbrev refused_at : ℕ → Read (List Kind)
refused_at at = Err at

-- a member at fault
pub ends : (inner : Reader Kind) (e : WireError) (front : List Kind) (at : ℕ) (text : List ℕ) (all : Read (List Kind)) (first : ℕ)
    → inner at [] ≡ Err at → Fails e (inner at text)
    → GoesOn (λ n. with_members front (members_at inner n at text)) all (length text) first
    → Fails e all
unfolding members_at
ends inner errors.Memory front at text all first at_end fails goes = tt
ends inner (errors.Bad place) front at text all first at_end fails goes = by_bound goes.bound text fails goes.enough goes.same where
  by_bound : (n : ℕ) (text : List ℕ) → inner at text ≡ Err place → length text ≤ n → with_members front (members_at inner n at text) ≡ all → all ≡ Err place
  by_bound zero [] fails enough same = sym same ∙ ap refused_at (err_is at place (sym at_end ∙ fails))
  by_bound zero (c ∷ text) fails enough same = absurd (omega arith)
  by_bound (suc n) text fails enough same =
      let one : with_members front (members_at inner (suc n) at text) ≡ Err place = rw fails refl in
      sym same ∙ one

-- ---- types in a row

-- what was read before, and what is still read
abbrev pub with_kinds : List Kind → Result (List Kind) ℕ → Result (List Kind) ℕ
with_kinds front read = read >>= λ kinds. Ok (front ++ kinds)

regroup_kinds : (front : List Kind) (k : Kind) (read : Result (List Kind) ℕ) → with_kinds front (read >>= λ kinds. Ok (k ∷ kinds)) ≡ with_kinds (front ++ k ∷ []) read
regroup_kinds front k (Ok kinds) = ap (λ (ks : List Kind). Ok ks) (simp append_assoc)
regroup_kinds front k (Err place) = refl

no_kinds : (read : Result (List Kind) ℕ) → with_kinds [] read ≡ read
no_kinds (Ok kinds) = refl
no_kinds (Err place) = refl

pub kinds_begin : (at : ℕ) (text : List ℕ) → GoesOn (λ n. with_kinds [] (kinds_at n at text)) (kinds_at (length text) at text) (length text) (length text)
kinds_begin at text = record { bound = length text; enough = omega arith; same = no_kinds (kinds_at (length text) at text); no_more = omega arith }

pub kinds_go_on : (front : List Kind) (at : ℕ) (text : List ℕ) (k : Kind) (next : ℕ) (rest : List ℕ) (all : Result (List Kind) ℕ) (first : ℕ)
    → kind_at max_nesting max_nesting at text ≡ Ok (k, next, rest) → length rest < length text
    → GoesOn (λ n. with_kinds front (kinds_at n at text)) all (length text) first
    → GoesOn (λ n. with_kinds (front ++ k ∷ []) (kinds_at n next rest)) all (length rest) first
unfolding kinds_at
kinds_go_on front at text k next rest all first is shorter goes = by_bound goes.bound text is shorter goes.enough goes.same goes.no_more where
  by_bound : (n : ℕ) (text : List ℕ) → kind_at max_nesting max_nesting at text ≡ Ok (k, next, rest) → length rest < length text → length text ≤ n → with_kinds front (kinds_at n at text) ≡ all → length text ≤ first
      → GoesOn (λ m. with_kinds (front ++ k ∷ []) (kinds_at m next rest)) all (length rest) first
  by_bound n [] is shorter enough same no_more = absurd (omega arith)
  by_bound zero (c ∷ text) is shorter enough same no_more = absurd (omega arith)
  by_bound (suc n) (c ∷ text) is shorter enough same no_more =
      let one : with_kinds front (kinds_at (suc n) at (c ∷ text)) ≡ with_kinds (front ++ k ∷ []) (kinds_at n next rest) = rw is (regroup_kinds front k (kinds_at n next rest)) in
      record { bound = n; enough = omega arith; same = sym one ∙ same; no_more = omega arith }

pub kinds_end : (e : WireError) (front : List Kind) (at : ℕ) (text : List ℕ) (all : Result (List Kind) ℕ) (first : ℕ)
    → 0 < length text → Fails e (kind_at max_nesting max_nesting at text)
    → GoesOn (λ n. with_kinds front (kinds_at n at text)) all (length text) first
    → Fails e all
unfolding kinds_at
kinds_end errors.Memory front at text all first some fails goes = tt
kinds_end (errors.Bad place) front at text all first some fails goes = by_bound goes.bound text some fails goes.enough goes.same where
  by_bound : (n : ℕ) (text : List ℕ) → 0 < length text → kind_at max_nesting max_nesting at text ≡ Err place → length text ≤ n → with_kinds front (kinds_at n at text) ≡ all → all ≡ Err place
  by_bound n [] some fails enough same = absurd (omega arith)
  by_bound zero (c ∷ text) some fails enough same = absurd (omega arith)
  by_bound (suc n) (c ∷ text) some fails enough same =
      let one : with_kinds front (kinds_at (suc n) at (c ∷ text)) ≡ Err place = rw fails refl in
      sym same ∙ one

pub kinds_done : (front : List Kind) (at : ℕ) (text : List ℕ) (all : Result (List Kind) ℕ) (first : ℕ)
    → length text ≡ 0 → GoesOn (λ n. with_kinds front (kinds_at n at text)) all (length text) first → all ≡ Ok front
unfolding kinds_at
kinds_done front at [] all first none goes = sym goes.same ∙ at_bound goes.bound where
  at_bound : (n : ℕ) → with_kinds front (kinds_at n at []) ≡ Ok front
  at_bound zero = ap (λ (ks : List Kind). Ok ks) (append-nil front)
  at_bound (suc n) = ap (λ (ks : List Kind). Ok ks) (append-nil front)
kinds_done front at (c ∷ text) all first none goes = absurd (omega arith)

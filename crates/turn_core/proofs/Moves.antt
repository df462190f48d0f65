-- Each step on the table keeps its rule, and tells what it is said to tell.
use Rattle.std.proofs.Common.{◌≡◌, ℕ, ◌+◌, ◌-◌, ◌*◌, ◌%◌, ◌<◌, ◌⊎◌, true, false, List, [], ◌∷◌, ◌++◌, length, set, get_or, eqb, replicate, sym, refl, ap, ◌∙◌, subst, subst₂, arith, Some, None, length-append}
use Rattle.std.specs.Prelude as std
use Rattle.std.proofs.lemmas.Option.{same_Some}
use mathlib.Core.Option.{Option, none, some}
use prog.Atomic.{either}
use lib.ListN.{get_elem?}
use Rattle.atomic_table.specs.Table.{State, Act, keeps, takes, gives, step, Valid, homes_after, carried_after, opening, Allows, Splits, Joins, Seen}
use Rattle.atomic_table.proofs.Lists.{set_here, set_else, exchanged}
use Rattle.turn_core.specs.Places.{IsFront, Has}
use Rattle.turn_core.specs.Knowledge.{spent, first_view, knowing, looked, took, committed, left, kept_view, new_view, joined_view}
use Rattle.turn_core.specs.History.{Moment, History}
use Rattle.turn_core.specs.Steps.{load, take, commit, slot_out}
use Rattle.turn_core.specs.Plays.{Keeps, Seated, Looked, Tries, Committed, Left, SlotOut, SlotIn}
use Rattle.turn_core.specs.declared.view.View.{View}
use Rattle.turn_core.proofs.Lists.{within}
use Rattle.turn_core.proofs.Standing.{half_is, holder_odd, based, sound}
use Rattle.turn_core.proofs.SplitAndJoin.{split_keeps, join_keeps}
use Rattle.turn_core.proofs.Stepping.{opening_stands}
use Rattle.turn_core.proofs.KindsKeep.{load_keeps, take_keeps, commit_keeps, leave_keeps, slot_out_keeps, slot_in_keeps}

module _ {S B E : Type 0} (base_of : S → B) (entries_of : S → List E) (session : E → ℕ) (base : B) where
  abbrev Slots : Type 0
  Slots = List (Option (std.Option S))

  abbrev Rule : State (std.Option S) (View B E) → Type 0
  Rule = Keeps base_of entries_of session base

  abbrev Now : ℕ → Option (std.Option S) → List (View B E) → Moment S B E
  Now word slot views = record { word = word; slot = slot; views = views }

  -- the table at the start
  pub opens : Rule (opening (1 ∷ []) (replicate 1 None) (first_view base))
  opens = (1, some None, refl, refl, opening_stands base_of entries_of session base)

  -- a step's outcome, where the word is set to k
  abbrev Sets : List ℕ → Slots → List (View B E) → ℕ → List (ℕ × std.Option S) → (ℕ → Seated base_of entries_of session → Type 0) → ℕ → Type 0
  Sets ws hs views id c then k = (w : View B E) × (a : Act (std.Option S)) × Valid hs c a × Rule (record { words = set ws 0 k; homes = homes_after hs c a; views = set views id w }) × then (get_or ws 0 0) (w, carried_after c a)

  -- it is enough to look at a table whose word and slot are in sight
  in_sight : (s : State (std.Option S) (View B E)) (word : ℕ) (slot : Option (std.Option S)) → s.words ≡ word ∷ [] → s.homes ≡ slot ∷ [] → (id : ℕ) (c : List (ℕ × std.Option S)) (f : ℕ → ℕ)
      (then : ℕ → Seated base_of entries_of session → Type 0) → Sets (word ∷ []) (slot ∷ []) s.views id c then (f word) → Sets s.words s.homes s.views id c then (f (get_or s.words 0 0))
  in_sight s word slot e d id c f then t = subst₂ (λ ws hs. Sets ws hs s.views id c then (f (get_or ws 0 0))) (sym e) (sym d) t

  -- load
  pub load_moves : (n id : ℕ) (m : Seated base_of entries_of session) → 0 < m.0.knows.parts → Allows Rule n id m 0 (λ k. k) (Looked base_of entries_of session (step n 0 0 0 none) m)
  load_moves n id m some-part s k wide g _ = let w = knowing m.0 (looked m.0.knows k.0) in let now = Now k.0 k.1 s.views in let next = load_keeps base_of entries_of session base now k.4 id m.0 g some-part in
      in_sight s k.0 k.1 k.2 k.3 id m.1 (λ x. x) (Looked base_of entries_of session (step n 0 0 0 none) m)
      (w, keeps, tt, (k.0, k.1, refl, refl, next), (refl, sound base_of entries_of session base (load now id m.0) next id w (set_here s.views id w (within s.views id m.0 g)) some-part))

  -- take, and failed take
  pub tries_moves : (n id : ℕ) (m : Seated base_of entries_of session) (old new : ℕ) → 0 < m.0.knows.parts → m.0.knows.holds ≡ false → old % 2 ≡ 0 → new ≡ old + 1
      → Allows Rule n id m 0 (λ k. either (eqb k old) new k) (Tries base_of entries_of session (step n 0 old new none) m)
  tries_moves n id m old new some-part free even more s k wide g _ = let st = step n 0 old new none in let now = Now k.0 k.1 s.views in let h = k.4 in let f = h.each id m.0 g in let T = Tries base_of entries_of session st m in
      in_sight s k.0 k.1 k.2 k.3 id m.1 (λ x. either (eqb x old) new x) T (exchanged k.0 old new (Sets (k.0 ∷ []) (k.1 ∷ []) s.views id m.1 T)
      (λ hit. let is_even : k.0 % 2 ≡ 0 = ap (λ x. x % 2) hit ∙ even in let all = h.even is_even in let there = all.2 in let value : S = there.0 in let same : entries_of value ≡ h.history = there.3 in
      let w = knowing m.0 (took m.0.knows k.0 (entries_of value)) in let next_word : k.0 + 1 ≡ new = omega arith in
      let next = subst (λ x. History base_of entries_of session base (Now x none (set s.views id w))) next_word
      (subst (λ journal. History base_of entries_of session base (take now id m.0 journal)) (sym same) (take_keeps base_of entries_of session base now h id m.0 g some-part free is_even)) in (
        w,
        takes 0 (Some value),
        ap some there.1,
        (new, none, refl, refl, next),
        (
          (λ _. (
            value,
            refl,
            based base_of entries_of session base h.history m.0 f some-part ∙ ap Some (sym there.2),
            subst (IsFront m.0.knows.seen) (sym same) f.front,
            all.0 ∙ ap (λ l. 2 * length l) (sym same),
            sound base_of entries_of session base (Now new none (set s.views id w)) next id w (set_here s.views id w (within s.views id m.0 g)) some-part,
          )),
          λ miss. absurd (miss hit),
        ),
      ))
      (λ miss. let w = knowing m.0 (looked m.0.knows k.0) in let next = load_keeps base_of entries_of session base now h id m.0 g some-part in (
        w,
        keeps,
        tt,
        (k.0, k.1, refl, refl, next),
        (
          (λ hit. absurd (miss hit)),
          λ _. (
            (refl, sound base_of entries_of session base (load now id m.0) next id w (set_here s.views id w (within s.views id m.0 g)) some-part),
            λ last e. let half = half_is base_of entries_of session base now h in let least = f.found in omega (arith, half, least),
          ),
        ),
      )))

  -- commit
  pub commit_moves : (n id : ℕ) (m : Seated base_of entries_of session) (v : View B E) (value : S) (entry : E) (new : ℕ) → m ≡ (v, (0, Some value) ∷ []) → 0 < v.knows.parts → v.knows.holds ≡ true → v.vacant ≡ false
      → v.knows.base ≡ Some (base_of value) → entries_of value ≡ v.knows.seen ++ entry ∷ [] → (session entry ≡ length v.knows.seen) ⊎ Has v.knows.mine (session entry) → new ≡ 2 * length (entries_of value)
      → Allows Rule n id m 0 (λ _. new) (λ _. Committed base_of entries_of session (step n 0 new 0 none) m new)
  commit_moves n id m v value entry new e some-part holds full same-base same own number = subst (λ (x : Seated base_of entries_of session). Allows Rule n id x 0 (λ _. new) (λ _. Committed base_of entries_of session (step n 0 new 0 none) x new)) (sym e)
      (λ s k wide g _. let now = Now k.0 k.1 s.views in let h = k.4 in let is = holder_odd base_of entries_of session base now h id v g holds in
      let c : List (ℕ × std.Option S) = (0, Some value) ∷ [] in let T = λ (_ : ℕ). Committed base_of entries_of session (step n 0 new 0 none) (v, c) new in
      let w : View B E = knowing v (committed v.knows (entries_of value)) in
      let journal : entries_of value ≡ h.history ++ entry ∷ [] = same ∙ ap (λ l. l ++ entry ∷ []) is.2 in let long = length-append h.history (entry ∷ []) in
      let next_word : k.0 + 1 ≡ new = omega (arith, is.0, number, ap length journal, long) in
      let ours : base_of value ≡ base = same_Some (base_of value) base (sym same-base ∙ based base_of entries_of session base h.history v (h.each id v g) some-part) in
      let next = subst (λ x. History base_of entries_of session base (Now x (some (Some value)) (set s.views id w))) next_word
      (subst (λ l. History base_of entries_of session base (commit now id v value l)) (sym journal) (commit_keeps base_of entries_of session base now h id v value entry g some-part holds full ours journal own)) in
      in_sight s k.0 k.1 k.2 k.3 id c (λ _. new) T (
        w,
        gives,
        tt,
        (new, some (Some value), refl, refl, next),
        λ other is_other. let one : value ≡ other = same_Some value other (ap (λ (l : List (ℕ × std.Option S)). (get_or l 0 (0, Some value)).1) is_other) in
            (ap (λ x. (knowing v (committed v.knows (entries_of x)), [])) one, sound base_of entries_of session base (Now new (some (Some value)) (set s.views id w)) next id w (set_here s.views id w (within s.views id v g)) some-part),
      ))

  -- leave
  pub leave_moves : (n id : ℕ) (m : Seated base_of entries_of session) (v : View B E) (value : S) (new : ℕ) → m ≡ (v, (0, Some value) ∷ []) → 0 < v.knows.parts → v.knows.holds ≡ true → v.vacant ≡ false
      → v.knows.base ≡ Some (base_of value) → entries_of value ≡ v.knows.seen → new ≡ 2 * length (entries_of value)
      → Allows Rule n id m 0 (λ _. new) (λ _. Left base_of entries_of session (step n 0 new 0 none) m new)
  leave_moves n id m v value new e some-part holds full same-base same number = subst (λ (x : Seated base_of entries_of session). Allows Rule n id x 0 (λ _. new) (λ _. Left base_of entries_of session (step n 0 new 0 none) x new)) (sym e)
      (λ s k wide g _. let now = Now k.0 k.1 s.views in let h = k.4 in let is = holder_odd base_of entries_of session base now h id v g holds in
      let c : List (ℕ × std.Option S) = (0, Some value) ∷ [] in let T = λ (_ : ℕ). Left base_of entries_of session (step n 0 new 0 none) (v, c) new in
      let w : View B E = knowing v (left v.knows) in
      let next_word : k.0 - 1 ≡ new = omega (arith, is.0, number, ap length (same ∙ is.2)) in
      let ours : base_of value ≡ base = same_Some (base_of value) base (sym same-base ∙ based base_of entries_of session base h.history v (h.each id v g) some-part) in
      let next = subst (λ x. History base_of entries_of session base (Now x (some (Some value)) (set s.views id w))) next_word
      (leave_keeps base_of entries_of session base now h id v value g some-part holds full ours same) in
      in_sight s k.0 k.1 k.2 k.3 id c (λ _. new) T (
        w,
        gives,
        tt,
        (new, some (Some value), refl, refl, next),
        λ other is_other. (refl, sound base_of entries_of session base (Now new (some (Some value)) (set s.views id w)) next id w (set_here s.views id w (within s.views id v g)) some-part),
      ))

  -- the empty slot goes out at the opening
  pub slot_out_moves : (n id : ℕ) (m : Seated base_of entries_of session) → 0 < m.0.knows.parts → m.0.vacant ≡ true → Allows Rule n id m 0 (λ k. k) (SlotOut base_of entries_of session (step n 0 0 0 none) m)
  slot_out_moves n id m some-part vacant s k wide g _ = let w : View B E = record m.0 { knows = looked m.0.knows k.0; vacant = false } in let now = Now k.0 k.1 s.views in let next = slot_out_keeps base_of entries_of session base now k.4 id m.0 g some-part vacant in
      in_sight s k.0 k.1 k.2 k.3 id m.1 (λ x. x) (SlotOut base_of entries_of session (step n 0 0 0 none) m)
      (w, takes 0 None, ap some (k.4.vacant id m.0 g vacant).1, (k.0, none, refl, refl, next), (refl, (let is = holder_odd base_of entries_of session base now k.4 id m.0 g (k.4.vacant id m.0 g vacant).0 in omega (arith, is.0, ap length is.2)), sound base_of entries_of session base (slot_out now id m.0) next id w (set_here s.views id w (within s.views id m.0 g)) some-part))

  -- and comes home empty at the close
  pub slot_in_moves : (n id : ℕ) (m : Seated base_of entries_of session) (v : View B E) → m ≡ (v, (0, None) ∷ []) → 0 < v.knows.parts → v.knows.holds ≡ true → Allows Rule n id m 0 (λ k. k) (SlotIn base_of entries_of session (step n 0 0 0 none) m)
  slot_in_moves n id m v e some-part holds = subst (λ (x : Seated base_of entries_of session). Allows Rule n id x 0 (λ k. k) (SlotIn base_of entries_of session (step n 0 0 0 none) x)) (sym e)
      (λ s k wide g _. let w : View B E = record v { knows = looked v.knows k.0; vacant = true } in let now = Now k.0 k.1 s.views in
      in_sight s k.0 k.1 k.2 k.3 id ((0, None) ∷ []) (λ x. x) (SlotIn base_of entries_of session (step n 0 0 0 none) (v, (0, None) ∷ []))
      (w, gives, tt, (k.0, some None, refl, refl, slot_in_keeps base_of entries_of session base now k.4 id v g some-part holds), refl))

  -- after that the slot is known to be empty
  pub closes : (s : State (std.Option S) (View B E)) (id : ℕ) (v : View B E) → Seen Rule id v s → v.vacant ≡ true → get_elem? s.homes 0 ≡ some (some None)
  closes s id v t vacant = let k = t.0 in ap (λ hs. get_elem? hs 0) k.3 ∙ ap some (k.4.vacant id v t.1 vacant).1

  -- split
  pub split_moves : (id : ℕ) (v : View B E) → 0 < v.knows.parts → v.knows.holds ≡ false → v.knows.parts % 2 ≡ 0 → Splits Rule id v (kept_view v) (new_view v)
  split_moves id v some-part free halves s k g = (k.0, k.1, k.2, k.3, split_keeps base_of entries_of session base (Now k.0 k.1 s.views) k.4 id v g some-part free halves)

  -- join
  pub join_moves : (id : ℕ) (v : View B E) (other : ℕ) (u : View B E) → 0 < v.knows.parts → v.knows.holds ≡ false → u.knows.holds ≡ false → v.vacant ≡ false → Joins Rule id v other u (joined_view v u) spent
  join_moves id v other u some-part free free' full s k g n d =
      (k.0, k.1, k.2, k.3, join_keeps base_of entries_of session base (Now k.0 k.1 s.views) k.4 id v other u g (sym (set_else s.views id other (joined_view v u) n) ∙ d) n some-part free free' full)

-- What bytes begin with when more are appended.
use Rattle.std.proofs.Common.{◌≡◌, ℕ, List, [], ◌++◌, length, take, sym, ap, ◌∙◌, append_assoc}
use Rattle.std.proofs.lemmas.List.{append-nil, take_at}
use Rattle.dbus_wire.specs.Appending.{Begins, Keeps}

pub begins_more : (front old new text : List ℕ) → new ≡ old ++ text → Begins front old → Begins front new
begins_more front old new text is b = record { more = b.more ++ text; are = is ∙ ap (λ (t : List ℕ). t ++ text) b.are ∙ append_assoc front b.more text }

pub begins_same : (front old new : List ℕ) → new ≡ old → Begins front old → Begins front new
begins_same front old new is b = record { more = b.more; are = is ∙ b.are }

pub begins_all : (bytes : List ℕ) → Begins bytes bytes
begins_all bytes = record { more = []; are = sym (append-nil bytes) }

-- what is taken back to its old length is as before
pub taken_back : (old new : List ℕ) (n : ℕ) → n ≡ length old → Keeps old new → take n new ≡ old
taken_back old new n len keeps =
    let b = keeps old (begins_all old) in
    ap (take n) b.are ∙ take_at old b.more n (sym len)

pub ruleset keeping = (begins_more, begins_same)

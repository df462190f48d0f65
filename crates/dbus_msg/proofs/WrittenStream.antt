-- A message that is written is the next one of a stream.
use Rattle.std.proofs.Common.{◌≡◌, ℕ, ◌+◌, ◌-◌, ◌≤◌, List, [], ◌∷◌, ◌++◌, length, take, drop, Some, refl, sym, ap, subst, ◌∙◌, arith}
use Rattle.std.specs.Int.{w32}
use Rattle.std.proofs.lemmas.List.{append-nil, drop_all, length-append, take_all}
use Rattle.dbus_wire.specs.declared.value.Endian.TheVariants.{Little}
use Rattle.dbus_wire.specs.Spelling.{to_bytes}
use Rattle.dbus_msg.specs.declared.message.Message.{Message}
use Rattle.dbus_msg.specs.Headers.{fixed_part, whole_len}
use Rattle.dbus_msg.specs.Messages.{message_of}
use Rattle.dbus_msg.specs.Streams.{BadAt, Split, later, next, none_whole, one_more, part, whole}
use Rattle.dbus_msg.specs.Written.{body_bytes, fields_bytes, fields_gap, written, IsMessage}
use Rattle.dbus_msg.proofs.MessageRead.{header_read, header_written, message_read, whole_len_is}
use Rattle.dbus_msg.proofs.StreamLaws.{next_more, one_way, whole_next}

long_enough : (m : Message) → fixed_part ≤ length (written m)
unfolding written
long_enough m = omega arith

written_next : (m : Message) → IsMessage m → (behind : List ℕ) → next (written m ++ behind) ≡ whole m behind
written_next m is behind =
    let len = whole_len_is m in
    next_more (written m) behind m [] (whole_next (written m) m [] (record {
      header = header_written m;
      long = long_enough m;
      start = header_read m is;
      enough = omega (arith, len);
      is = ap message_of (take_all (whole_len (header_written m)) (written m) (omega (arith, len))) ∙ message_read m is;
      behind = sym (drop_all (whole_len (header_written m)) (written m) (omega (arith, len)));
    }))

pub written_split : (m : Message) (behind left : List ℕ) (more : List Message) → IsMessage m → Split behind more left → Split (written m ++ behind) (m ∷ more) left
written_split m behind left more is s = one_more (written_next m is behind) s

pub written_bad : (m : Message) (behind : List ℕ) (more : List Message) (place : ℕ) → IsMessage m → BadAt behind more place → BadAt (written m ++ behind) (m ∷ more) (place + length (written m))
written_bad m behind more place is s =
    let same : place + (length (written m ++ behind) - length behind) ≡ place + length (written m) = omega (arith, length-append (written m) behind) in
    subst (λ (p : ℕ). BadAt (written m ++ behind) (m ∷ more) p) same (later (written_next m is behind) s)

nothing_more : next [] ≡ part
unfolding next
nothing_more = refl

pub written_alone : (m : Message) (left : List ℕ) (messages : List Message) → IsMessage m → Split (written m) messages left → (messages ≡ m ∷ []) × (left ≡ [])
written_alone m left messages is s =
    let one : Split (written m) (m ∷ []) [] = subst (λ (bytes : List ℕ). Split bytes (m ∷ []) []) (append-nil (written m)) (written_split m [] [] [] is (none_whole nothing_more)) in
    one_way (written m) left [] messages (m ∷ []) s one

-- What comes next in a stream comes whatever stands behind it.
use Rattle.std.proofs.Common.{◌≡◌, ℕ, ◌+◌, ◌-◌, ◌≤◌, Bool, true, false, cond, ltb, List, ◌∷◌, ◌++◌, length, get_or, take, drop, Option, Some, None, refl, sym, ap, subst, ◌∙◌, arith}
use Rattle.std.proofs.Math.ListN.{get_or-append}
use Rattle.std.proofs.lemmas.Bool.{ltb-false, le-ltb}
use Rattle.std.proofs.lemmas.List.{length-append, length-drop, take-append-le, drop-append-le}
use Rattle.dbus_msg.specs.declared.header.Header.{Header}
use Rattle.dbus_msg.specs.declared.message.Message.{Message}
use Rattle.std.specs.Prelude.{option_and_then}
use Rattle.std.specs.Int.{w32}
use Rattle.dbus_wire.specs.Fields.{from_bytes}
use Rattle.dbus_msg.specs.Headers.{endian_of, fixed_part, header_of, sound_header, whole_len}
use Rattle.dbus_msg.specs.Messages.{message_of}
use Rattle.dbus_msg.specs.Streams.{BadAt, here, judged, later, next, none_whole, one_more, part, Split, whole, with_start}

-- ---- the first 16 bytes tell the header

told : (letter kind flags version : ℕ) (body serial fields : List ℕ) → Option Header
told letter kind flags version body serial fields = option_and_then (λ endian. sound_header version (record {
  endian = endian;
  kind = kind;
  flags = flags;
  body_len = from_bytes endian w32 body;
  serial = from_bytes endian w32 serial;
  fields_len = from_bytes endian w32 fields;
})) (endian_of letter)

told_by : (bytes : List ℕ) → header_of bytes ≡ told (get_or bytes 0 0) (get_or bytes 1 0) (get_or bytes 2 0) (get_or bytes 3 0) (take 4 (drop 4 bytes)) (take 4 (drop 8 bytes)) (take 4 (drop 12 bytes))
unfolding told
told_by bytes = refl

four_more : (n : ℕ) (bytes behind : List ℕ) → n + 4 ≤ length bytes → take 4 (drop n (bytes ++ behind)) ≡ take 4 (drop n bytes)
four_more n bytes behind le =
    ap (take 4) (drop-append-le n bytes behind (omega arith)) ∙ take-append-le 4 (drop n bytes) behind (omega (arith, length-drop n bytes))

start_more : (bytes behind : List ℕ) → fixed_part ≤ length bytes → header_of (bytes ++ behind) ≡ header_of bytes
start_more bytes behind le =
    told_by (bytes ++ behind)
    ∙ rw (get_or-append bytes behind 0 0 (omega arith), get_or-append bytes behind 0 1 (omega arith), get_or-append bytes behind 0 2 (omega arith), get_or-append bytes behind 0 3 (omega arith), four_more 4 bytes behind (omega arith), four_more 8 bytes behind (omega arith), four_more 12 bytes behind (omega arith)) (sym (told_by bytes))

-- ---- a whole message at the front of bytes

pub record WholeAt (bytes : List ℕ) (message : Message) (rest : List ℕ) : Type 0 where
  pub header : Header
  pub long : fixed_part ≤ length bytes
  pub start : header_of bytes ≡ Some header
  pub enough : whole_len header ≤ length bytes
  pub is : message_of (take (whole_len header) bytes) ≡ Some message
  pub behind : rest ≡ drop (whole_len header) bytes

found : (bytes : List ℕ) (header : Header) (read : Option Message) (message : Message) (rest : List ℕ) → fixed_part ≤ length bytes → header_of bytes ≡ Some header → whole_len header ≤ length bytes → message_of (take (whole_len header) bytes) ≡ read
    → judged bytes (whole_len header) read ≡ whole message rest → WholeAt bytes message rest
found bytes header None message rest long start enough is e = absurd cc
found bytes header (Some m) message rest long start enough is e =
    let same : m ≡ message = cc in
    let left : drop (whole_len header) bytes ≡ rest = cc in
    record { header = header; long = long; start = start; enough = enough; is = is ∙ ap (λ (x : Message). Some x) same; behind = sym left }

enough_there : (bytes : List ℕ) (header : Header) (short : Bool) (message : Message) (rest : List ℕ) → fixed_part ≤ length bytes → header_of bytes ≡ Some header → ltb (length bytes) (whole_len header) ≡ short
    → cond short part (judged bytes (whole_len header) (message_of (take (whole_len header) bytes))) ≡ whole message rest → WholeAt bytes message rest
enough_there bytes header true message rest long start is e = absurd cc
enough_there bytes header false message rest long start is e = found bytes header (message_of (take (whole_len header) bytes)) message rest long start (ltb-false _ _ is) refl e

started : (bytes : List ℕ) (header : Option Header) (message : Message) (rest : List ℕ) → fixed_part ≤ length bytes → header_of bytes ≡ header → with_start bytes header ≡ whole message rest → WholeAt bytes message rest
started bytes None message rest long is e = absurd cc
started bytes (Some header) message rest long is e = enough_there bytes header (ltb (length bytes) (whole_len header)) message rest long is refl e

begun : (bytes : List ℕ) (short : Bool) (message : Message) (rest : List ℕ) → ltb (length bytes) fixed_part ≡ short → cond short part (with_start bytes (header_of bytes)) ≡ whole message rest → WholeAt bytes message rest
begun bytes true message rest is e = absurd cc
begun bytes false message rest is e = started bytes (header_of bytes) message rest (ltb-false _ _ is) refl e

whole_at : (bytes : List ℕ) (message : Message) (rest : List ℕ) → next bytes ≡ whole message rest → WholeAt bytes message rest
unfolding next
whole_at bytes message rest e = begun bytes (ltb (length bytes) fixed_part) message rest refl e

pub whole_next : (bytes : List ℕ) (message : Message) (rest : List ℕ) → WholeAt bytes message rest → next bytes ≡ whole message rest
unfolding next
whole_next bytes message rest w =
    let long : ltb (length bytes) fixed_part ≡ false = le-ltb _ _ w.long in
    let enough : ltb (length bytes) (whole_len w.header) ≡ false = le-ltb _ _ w.enough in
    rw (long, w.start, enough, w.is) (ap (whole message) (sym w.behind))

-- A message that is whole is whole whatever stands behind it.
pub next_more : (bytes piece : List ℕ) (message : Message) (rest : List ℕ) → next bytes ≡ whole message rest → next (bytes ++ piece) ≡ whole message (rest ++ piece)
next_more bytes piece message rest e =
    let w = whole_at bytes message rest e in
    let len = length-append bytes piece in
    whole_next (bytes ++ piece) message (rest ++ piece) (record {
      header = w.header;
      long = omega (arith, w.long, len);
      start = start_more bytes piece w.long ∙ w.start;
      enough = omega (arith, w.enough, len);
      is = ap message_of (take-append-le (whole_len w.header) bytes piece w.enough) ∙ w.is;
      behind = ap (λ (r : List ℕ). r ++ piece) w.behind ∙ sym (drop-append-le (whole_len w.header) bytes piece w.enough);
    })

next_shorter : (bytes : List ℕ) (message : Message) (rest : List ℕ) → next bytes ≡ whole message rest → length rest ≤ length bytes
next_shorter bytes message rest e = let w = whole_at bytes message rest e in omega (arith, ap length w.behind, length-drop (whole_len w.header) bytes)

split_shorter : (bytes : List ℕ) (messages : List Message) (rest : List ℕ) → Split bytes messages rest → length rest ≤ length bytes
split_shorter bytes messages rest (none_whole e) = omega arith
split_shorter bytes messages left (one_more {rest = rest} {message = message} e s) = omega (arith, next_shorter bytes message rest e, split_shorter rest _ left s)

pub split_more : (first piece rest left : List ℕ) (messages more : List Message) → Split first messages rest → Split (rest ++ piece) more left → Split (first ++ piece) (messages ++ more) left
split_more first piece rest left messages more (none_whole e) t = t
split_more first piece left end messages more (one_more {rest = rest} {message = message} e s) t = one_more (next_more first piece message rest e) (split_more rest piece left end _ more s t)

pub bad_more : (first piece rest : List ℕ) (messages more : List Message) (place : ℕ) → Split first messages rest → BadAt (rest ++ piece) more place → BadAt (first ++ piece) (messages ++ more) (place + (length first - length rest))
bad_more first piece rest messages more place (none_whole e) t = subst (λ (p : ℕ). BadAt (first ++ piece) more p) (let same : place ≡ place + (length first - length first) = omega arith in same) t
bad_more first piece left messages more place (one_more {rest = rest} {message = message} {messages = ms} e s) t =
    let ih = bad_more rest piece left ms more place s t in
    let one = later (next_more first piece message rest e) ih in
    let same : place + (length rest - length left) + (length (first ++ piece) - length (rest ++ piece)) ≡ place + (length first - length left)
    = omega (arith, length-append first piece, length-append rest piece, next_shorter first message rest e, split_shorter rest ms left s) in
    subst (λ (p : ℕ). BadAt (first ++ piece) (message ∷ (ms ++ more)) p) same one

-- ---- one way alone

rest_is : (bytes : List ℕ) (m n : Message) (r s : List ℕ) → next bytes ≡ whole m r → next bytes ≡ whole n s → (m ≡ n) × (r ≡ s)
rest_is bytes m n r s e f = parts (sym e ∙ f) where
  parts : whole m r ≡ whole n s → (m ≡ n) × (r ≡ s)
  parts same = let message : m ≡ n = cc in let rest : r ≡ s = cc in (message, rest)

pub one_way : (bytes left right : List ℕ) (messages others : List Message) → Split bytes messages left → Split bytes others right → (messages ≡ others) × (left ≡ right)
one_way bytes left right messages others (none_whole e) (none_whole f) = (refl, refl)
one_way bytes left right messages others (none_whole e) (one_more f t) = absurd cc
one_way bytes left right messages others (one_more e s) (none_whole f) = absurd cc
one_way bytes left right messages others (one_more {rest = r} {message = m} {messages = ms} e s) (one_more {rest = q} {message = n} {messages = ns} f t) =
    let same = rest_is bytes m n r q e f in
    let ih = one_way r left right ms ns s (subst (λ (x : List ℕ). Split x ns right) (sym same.1) t) in
    (ap (λ (x : Message). x ∷ ms) same.0 ∙ ap (λ (xs : List Message). n ∷ xs) ih.0, ih.1)

pub never_both : (bytes left : List ℕ) (messages others : List Message) (place : ℕ) → Split bytes messages left → BadAt bytes others place → ⊥
never_both bytes left messages others place (none_whole e) (here f) = cc
never_both bytes left messages others place (none_whole e) (later f t) = cc
never_both bytes left messages others place (one_more e s) (here f) = cc
never_both bytes left messages others place (one_more {rest = r} {message = m} {messages = ms} e s) (later {rest = q} {message = n} {messages = ns} {place = p} f t) =
    let same = rest_is bytes m n r q e f in
    never_both r left ms ns p s (subst (λ (x : List ℕ). BadAt x ns p) (sym same.1) t)

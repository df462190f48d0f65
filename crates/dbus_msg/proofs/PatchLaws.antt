-- Both lengths are set once a message is written.
use Rattle.std.proofs.Common.{◌≡◌, ℕ, ◌+◌, ◌-◌, ◌^◌, ◌<◌, ◌≤◌, List, [], ◌∷◌, ◌++◌, length, refl, sym, ap, ◌∙◌, append_assoc, arith}
use Rattle.std.specs.Int.{w32}
use Rattle.std.proofs.lemmas.List.{length-append}
use Rattle.dbus_wire.specs.declared.value.Endian.TheVariants.{Little}
use Rattle.dbus_wire.specs.declared.value.Value.{Value}
use Rattle.dbus_wire.specs.Spelling.{padding, spellings, to_bytes}
use Rattle.dbus_wire.proofs.SpellingLaws.{ends_behind}
use Rattle.dbus_msg.specs.declared.message.Message.{Message}
use Rattle.dbus_msg.specs.Headers.{max_message}
use Rattle.dbus_msg.specs.Starts.{start}
use Rattle.dbus_msg.specs.Written.{body_bytes, fields_bytes, fields_gap, header_fields, IsMessage, written, written_body_start, written_fields_end}

-- how long a message is
pub written_len : (m : Message) → length (written m) ≡ written_body_start m + length (body_bytes m)
unfolding written
written_len m =
    omega (arith, length-append (fields_bytes m) (fields_gap m ++ body_bytes m), length-append (fields_gap m) (body_bytes m))

-- what stands in the buffer before the lengths are set
pub record Parts (m : Message) (origin : ℕ) (old started fielded padded filled : List ℕ) : Type 0 where
  pub begins : origin ≡ length old
  pub starts : started ≡ old ++ start m.kind m.flags m.serial
  pub fields : fielded ≡ started ++ spellings Little (header_fields m.fields m.body) (length started - origin)
  pub gap : padded ≡ fielded ++ padding 8 (length fielded - origin)
  pub body : filled ≡ padded ++ spellings Little m.body (length padded - origin)

-- the same, each part by its definition
pub record Known (m : Message) (origin : ℕ) (old started fielded padded filled : List ℕ) : Type 0 where
  pub fields : fielded ≡ started ++ fields_bytes m
  pub fields_at : length fielded ≡ origin + written_fields_end m
  pub gap : padded ≡ fielded ++ fields_gap m
  pub gap_at : length padded ≡ origin + written_body_start m
  pub body : filled ≡ padded ++ body_bytes m
  pub body_at : length filled ≡ origin + written_body_start m + length (body_bytes m)

pub fields_known : (m : Message) (origin : ℕ) (old started fielded : List ℕ) → origin ≡ length old → started ≡ old ++ start m.kind m.flags m.serial → fielded ≡ started ++ spellings Little (header_fields m.fields m.body) (length started - origin)
    → (fielded ≡ started ++ fields_bytes m) × (length fielded ≡ origin + written_fields_end m)
fields_known m origin old started fielded begins starts is =
    let sixteen : length started ≡ origin + 16 = omega (arith, begins, ap length starts, length-append old (start m.kind m.flags m.serial)) in
    let at : length started - origin ≡ 16 = omega (arith, sixteen) in
    let known : fielded ≡ started ++ fields_bytes m = is ∙ ap (λ (n : ℕ). started ++ spellings Little (header_fields m.fields m.body) n) at in
    (known, omega (arith, ap length known, length-append started (fields_bytes m), sixteen))

pub gap_known : (m : Message) (origin : ℕ) (fielded padded : List ℕ) → length fielded ≡ origin + written_fields_end m → padded ≡ fielded ++ padding 8 (length fielded - origin)
    → (padded ≡ fielded ++ fields_gap m) × (length padded ≡ origin + written_body_start m)
gap_known m origin fielded padded long is =
    let at : length fielded - origin ≡ written_fields_end m = omega (arith, long) in
    let known : padded ≡ fielded ++ fields_gap m = is ∙ ap (λ (n : ℕ). fielded ++ padding 8 n) at in
    (known, omega (arith, ap length known, length-append fielded (fields_gap m), long))

body_known : (m : Message) (origin : ℕ) (padded filled : List ℕ) → length padded ≡ origin + written_body_start m → filled ≡ padded ++ spellings Little m.body (length padded - origin)
    → (filled ≡ padded ++ body_bytes m) × (length filled ≡ origin + written_body_start m + length (body_bytes m))
body_known m origin padded filled long is =
    let at : length padded - origin ≡ written_body_start m = omega (arith, long) in
    let known : filled ≡ padded ++ body_bytes m = is ∙ ap (λ (n : ℕ). padded ++ spellings Little m.body n) at in
    (known, omega (arith, ap length known, length-append padded (body_bytes m), long))

pub all_known : (m : Message) (origin : ℕ) (old started fielded padded filled : List ℕ) → Parts m origin old started fielded padded filled → Known m origin old started fielded padded filled
all_known m origin old started fielded padded filled p =
    let f = fields_known m origin old started fielded p.begins p.starts p.fields in
    let g = gap_known m origin fielded padded f.1 p.gap in
    let b = body_known m origin padded filled g.1 p.body in
    record { fields = f.0; fields_at = f.1; gap = g.0; gap_at = g.1; body = b.0; body_at = b.1 }

-- What setting a number of four bytes does.
abbrev pub Sets : List ℕ → ℕ → ℕ → List ℕ → Type 0
Sets old place n new = (front back : List ℕ) (a b c d : ℕ) → old ≡ front ++ (a ∷ b ∷ c ∷ d ∷ back) → place ≡ length front → new ≡ front ++ (to_bytes Little w32 n ++ back)

set_both : (kind flags serial origin body_len fields_len : ℕ) (old rest filled once twice : List ℕ) → origin ≡ length old → filled ≡ old ++ (start kind flags serial ++ rest) → Sets filled (origin + 4) body_len once → Sets once (origin + 12) fields_len twice
    → twice ≡ old ++ (108 ∷ kind ∷ flags ∷ 1 ∷ (to_bytes Little w32 body_len ++ (to_bytes Little w32 serial ++ (to_bytes Little w32 fields_len ++ rest))))
set_both kind flags serial origin body_len fields_len old rest filled once twice begins is first second =
    let head = 108 ∷ kind ∷ flags ∷ 1 ∷ [] in
    let more = to_bytes Little w32 serial ++ (0 ∷ 0 ∷ 0 ∷ 0 ∷ rest) in
    let middle = head ++ (to_bytes Little w32 body_len ++ to_bytes Little w32 serial) in
    let before : filled ≡ (old ++ head) ++ (0 ∷ 0 ∷ 0 ∷ 0 ∷ more) = is ∙ sym (append_assoc old head (0 ∷ 0 ∷ 0 ∷ 0 ∷ more)) in
    let four : origin + 4 ≡ length (old ++ head) = omega (arith, begins, length-append old head) in
    let one = first (old ++ head) more 0 0 0 0 before four ∙ append_assoc old head (to_bytes Little w32 body_len ++ more) in
    let again : once ≡ (old ++ middle) ++ (0 ∷ 0 ∷ 0 ∷ 0 ∷ rest) = one ∙ sym (append_assoc old middle (0 ∷ 0 ∷ 0 ∷ 0 ∷ rest)) in
    let twelve : origin + 12 ≡ length (old ++ middle) = omega (arith, begins, length-append old middle) in
    second (old ++ middle) rest 0 0 0 0 again twelve ∙ append_assoc old middle (to_bytes Little w32 fields_len ++ rest)

pub all_written : (m : Message) (origin body_len fields_len : ℕ) (old started fielded padded filled once twice : List ℕ) → Parts m origin old started fielded padded filled
    → body_len ≡ length filled - length padded → fields_len ≡ length fielded - origin - 16 → Sets filled (origin + 4) body_len once → Sets once (origin + 12) fields_len twice → twice ≡ old ++ written m
unfolding written
all_written m origin body_len fields_len old started fielded padded filled once twice p body_is fields_is first second =
    let k = all_known m origin old started fielded padded filled p in
    let body_len_is : body_len ≡ length (body_bytes m) = omega (arith, body_is, k.body_at, k.gap_at) in
    let fields_len_is : fields_len ≡ length (fields_bytes m) = omega (arith, fields_is, k.fields_at) in
    let head = start m.kind m.flags m.serial in
    let rest = fields_bytes m ++ (fields_gap m ++ body_bytes m) in
    let whole : filled ≡ old ++ (head ++ rest)
    = k.body ∙ ap (λ (t : List ℕ). t ++ body_bytes m) (k.gap ∙ ap (λ (t : List ℕ). t ++ fields_gap m) (k.fields ∙ ap (λ (t : List ℕ). t ++ fields_bytes m) p.starts))
    ∙ append_assoc ((old ++ head) ++ fields_bytes m) (fields_gap m) (body_bytes m)
    ∙ append_assoc (old ++ head) (fields_bytes m) (fields_gap m ++ body_bytes m)
    ∙ append_assoc old head rest in
    set_both m.kind m.flags m.serial origin body_len fields_len old rest filled once twice p.begins whole first second
    ∙ ap (λ (n : ℕ). old ++ (108 ∷ m.kind ∷ m.flags ∷ 1 ∷ (to_bytes Little w32 n ++ (to_bytes Little w32 m.serial ++ (to_bytes Little w32 fields_len ++ rest))))) body_len_is
    ∙ ap (λ (n : ℕ). old ++ (108 ∷ m.kind ∷ m.flags ∷ 1 ∷ (to_bytes Little w32 (length (body_bytes m)) ++ (to_bytes Little w32 m.serial ++ (to_bytes Little w32 n ++ rest))))) fields_len_is

-- ---- every number fits

pub body_short : (m : Message) → IsMessage m → length (body_bytes m) < 2 ^ 32
body_short m is = omega (arith, is.short, written_len m)

pub fields_len_short : (m : Message) → IsMessage m → length (fields_bytes m) < 2 ^ 32
fields_len_short m is = omega (arith, is.fields_short)

pub values_short : (m : Message) (origin : ℕ) (values : List Value) (padded : List ℕ) → IsMessage m → values ≡ m.body → length padded ≡ origin + written_body_start m → length (spellings Little values (length padded - origin)) < 2 ^ 32
values_short m origin values padded is same long =
    let at : length padded - origin ≡ written_body_start m = omega (arith, long) in
    rw (same, at) (body_short m is)

-- How header fields are written, one behind the other.
use Rattle.std.proofs.Common.{◌≡◌, ℕ, ◌+◌, ◌-◌, ◌^◌, ◌<◌, ◌≤◌, Bool, true, false, eqb, List, [], ◌∷◌, ◌++◌, length, Option, Some, None, refl, sym, ap, ◌∙◌, append_assoc, arith}
use Rattle.std.specs.Prelude.{IfSome, IsTrue, ◌↔◌}
use Rattle.std.specs.Int.{w32}
use Rattle.std.proofs.Math.ListN.{set}
use Rattle.std.proofs.Math.Seq.{set-append_seam}
use Rattle.std.proofs.lemmas.Bool.{and_parts, leb-true, true≢false}
use Rattle.std.proofs.lemmas.List.{append-nil, length-append}
use Rattle.dbus_signature.specs.Types.{codes}
use Rattle.dbus_wire.specs.declared.value.Endian.TheVariants.{Little}
use Rattle.dbus_wire.specs.declared.value.Value.{Value}
use Rattle.dbus_wire.specs.declared.value.Value.TheVariants as value
use Rattle.dbus_wire.specs.Appending.{Keeps}
use Rattle.dbus_wire.specs.Spelling.{aligned, padding, signature_spelling, spelling, spellings, text_spelling}
use Rattle.dbus_wire.specs.TypeCodes.{types_codes}
use Rattle.dbus_wire.proofs.KeepsLaws.{begins_more}
use Rattle.dbus_wire.proofs.SpellingLaws.{ends_behind, spellings_append, spelt_byte, spelt_path, spelt_sig, spelt_str, spelt_struct, spelt_u32, spelt_variant}
use Rattle.dbus_msg.specs.declared.known.Name.{Name}
use Rattle.dbus_msg.specs.declared.known.Name.TheVariants as names
use Rattle.dbus_msg.specs.declared.message.Fields.{Fields}
use Rattle.dbus_msg.specs.Written.{field, header_fields, IsNameField, IsPathField, number_field, optional, path_field, signature_field, text_field}

-- a header field: padding, the code, the signature of one letter, and what the variant holds
pub field_spelt : (code letter at : ℕ) (inner : Value) → spelling Little (field code letter inner) at ≡ padding 8 at ++ (code ∷ 1 ∷ letter ∷ 0 ∷ spelling Little inner (at + length (padding 8 at) + 4))
field_spelt code letter at inner =
    let pad = padding 8 at in
    let here = at + length pad in
    let moved : here + 1 + 3 ≡ here + 4 = omega arith in
    spelt_struct Little (value.Byte code ∷ value.Variant (letter ∷ []) inner ∷ []) at
    ∙ rw (spelt_byte Little code here, spelt_variant Little (letter ∷ []) inner (here + 1), append-nil (spelling Little inner (here + 1 + 3)), moved) refl

-- behind its start, what the variant holds
pub field_pushed : (origin code letter : ℕ) (inner : Value) (old started new : List ℕ) → origin ≤ length old → started ≡ old ++ (padding 8 (length old - origin) ++ (code ∷ 1 ∷ letter ∷ 0 ∷ [])) → new ≡ started ++ spelling Little inner (length started - origin)
    → new ≡ old ++ spellings Little (field code letter inner ∷ []) (length old - origin)
field_pushed origin code letter inner old started new le starts is =
    let at = length old - origin in
    let pad = padding 8 at in
    let head = code ∷ 1 ∷ letter ∷ 0 ∷ [] in
    let here : length started - origin ≡ at + length pad + 4 = ap (λ (t : List ℕ). length t - origin) starts ∙ ends_behind old (pad ++ head) origin le ∙ omega (arith, length-append pad head) in
    let text = spelling Little inner (at + length pad + 4) in
    is
    ∙ ap (λ (n : ℕ). started ++ spelling Little inner n) here
    ∙ ap (λ (t : List ℕ). t ++ text) starts
    ∙ append_assoc old (pad ++ head) text
    ∙ ap (λ (t : List ℕ). old ++ t) (append_assoc pad head text ∙ sym (field_spelt code letter at inner) ∙ sym (append-nil (spelling Little (field code letter inner) at)))

pub path_pushed : (origin code : ℕ) (text said : List ℕ) (found : Option (List ℕ)) (old started new : List ℕ) → found ≡ Some text → said ≡ text → origin ≤ length old → started ≡ old ++ (padding 8 (length old - origin) ++ (code ∷ 1 ∷ 111 ∷ 0 ∷ []))
    → new ≡ started ++ text_spelling Little said (length started - origin) → new ≡ old ++ spellings Little (optional (path_field code) found) (length old - origin)
path_pushed origin code text said found old started new some same le starts is =
    let at = length started - origin in
    rw some (field_pushed origin code 111 (value.Path text) old started new le starts (is ∙ ap (λ (t : List ℕ). started ++ text_spelling Little t at) same ∙ ap (λ (t : List ℕ). started ++ t) (sym (spelt_path Little text at))))

pub name_pushed : (origin code : ℕ) (text said : List ℕ) (found : Option (List ℕ)) (old started new : List ℕ) → found ≡ Some text → said ≡ text → origin ≤ length old → started ≡ old ++ (padding 8 (length old - origin) ++ (code ∷ 1 ∷ 115 ∷ 0 ∷ []))
    → new ≡ started ++ text_spelling Little said (length started - origin) → new ≡ old ++ spellings Little (optional (text_field code) found) (length old - origin)
name_pushed origin code text said found old started new some same le starts is =
    let at = length started - origin in
    rw some (field_pushed origin code 115 (value.Str text) old started new le starts (is ∙ ap (λ (t : List ℕ). started ++ text_spelling Little t at) same ∙ ap (λ (t : List ℕ). started ++ t) (sym (spelt_str Little text at))))

pub number_pushed : (origin code n : ℕ) (found : Option ℕ) (old started new : List ℕ) → found ≡ Some n → origin ≤ length old → started ≡ old ++ (padding 8 (length old - origin) ++ (code ∷ 1 ∷ 117 ∷ 0 ∷ []))
    → new ≡ started ++ aligned Little w32 n (length started - origin) → new ≡ old ++ spellings Little (optional (number_field code) found) (length old - origin)
number_pushed origin code n found old started new some le starts is =
    let at = length started - origin in
    rw some (field_pushed origin code 117 (value.U32 n) old started new le starts (is ∙ ap (λ (t : List ℕ). started ++ t) (sym (spelt_u32 Little n at))))

-- fields behind fields
pub fields_joined : (origin : ℕ) (these others : List Value) (old middle new : List ℕ) → origin ≤ length old → middle ≡ old ++ spellings Little these (length old - origin) → new ≡ middle ++ spellings Little others (length middle - origin)
    → new ≡ old ++ spellings Little (these ++ others) (length old - origin)
fields_joined origin these others old middle new le first second =
    let at = length old - origin in
    let row = spellings Little these at in
    let here : length middle - origin ≡ at + length row = ap (λ (t : List ℕ). length t - origin) first ∙ ends_behind old row origin le in
    second
    ∙ ap (λ (n : ℕ). middle ++ spellings Little others n) here
    ∙ ap (λ (t : List ℕ). t ++ spellings Little others (at + length row)) first
    ∙ append_assoc old row (spellings Little others (at + length row))
    ∙ ap (λ (t : List ℕ). old ++ t) (sym (spellings_append Little these others at))

pub longer : (origin : ℕ) (old more new : List ℕ) → origin ≤ length old → new ≡ old ++ more → origin ≤ length new
longer origin old more new le is = omega (arith, ap length is, length-append old more)

-- ---- the signature of the body

-- the length of the codes is set where a 0 was, and a NUL closes them
pub signature_set : (n place : ℕ) (started zero written new codes : List ℕ) → place ≡ length started → zero ≡ started ++ 0 ∷ [] → written ≡ zero ++ codes → n ≡ length codes → new ≡ set written place n ++ 0 ∷ [] → new ≡ started ++ signature_spelling codes
signature_set n place started zero written new codes at zeroed wrote len is =
    let whole : written ≡ started ++ (0 ∷ codes) = wrote ∙ ap (λ (t : List ℕ). t ++ codes) zeroed ∙ append_assoc started (0 ∷ []) codes in
    let done : set written place n ≡ started ++ (length codes ∷ codes) = rw (whole, at, len) (set-append_seam started 0 codes (length codes)) in
    is ∙ ap (λ (t : List ℕ). t ++ 0 ∷ []) done ∙ append_assoc started (length codes ∷ codes) (0 ∷ [])

-- the same bytes in front while the length is set
pub signature_kept : (n place : ℕ) (old more started zero written new codes : List ℕ) → started ≡ old ++ more → place ≡ length started → zero ≡ started ++ 0 ∷ [] → written ≡ zero ++ codes → new ≡ set written place n → Keeps old new
signature_kept n place old more started zero written new codes starts at zeroed wrote is =
    let whole : written ≡ started ++ (0 ∷ codes) = wrote ∙ ap (λ (t : List ℕ). t ++ codes) zeroed ∙ append_assoc started (0 ∷ []) codes in
    let done : set written place n ≡ started ++ (n ∷ codes) = rw (whole, at) (set-append_seam started 0 codes n) in
    λ front begins. begins_more front started new (n ∷ codes) (is ∙ done) (begins_more front old started more starts begins)

signature_pushed : (origin : ℕ) (body : List Value) (v : Value) (vs : List Value) (old started new : List ℕ) → body ≡ v ∷ vs → origin ≤ length old → started ≡ old ++ (padding 8 (length old - origin) ++ (8 ∷ 1 ∷ 103 ∷ 0 ∷ [])) → new ≡ started ++ signature_spelling (types_codes body)
    → new ≡ old ++ spellings Little (signature_field body) (length old - origin)
signature_pushed origin body v vs old started new some le starts is =
    let codes = types_codes (v ∷ vs) in
    rw some (field_pushed origin 8 103 (value.Sig codes) old started new le starts (rw (some, ← spelt_sig Little codes (length started - origin)) at is))

pub signature_all : (origin place total n : ℕ) (body : List Value) (old started zero written new : List ℕ) → 0 < length body → origin ≤ length old → started ≡ old ++ (padding 8 (length old - origin) ++ (8 ∷ 1 ∷ 103 ∷ 0 ∷ [])) → place ≡ length started → zero ≡ started ++ 0 ∷ []
    → written ≡ zero ++ types_codes body → total ≡ length written → n ≡ total - place - 1 → new ≡ set written place n ++ 0 ∷ [] → new ≡ old ++ spellings Little (signature_field body) (length old - origin)
signature_all origin place total n [] old started zero written new some le starts at zeroed wrote whole count is = absurd (omega arith)
signature_all origin place total n (v ∷ vs) old started zero written new some le starts at zeroed wrote whole count is =
    let codes = types_codes (v ∷ vs) in
    let len : n ≡ length codes = omega (arith, count, whole, at, ap length zeroed, length-append started (0 ∷ []), ap length wrote, length-append zero codes) in
    signature_pushed origin (v ∷ vs) v vs old started new refl le starts (signature_set n place started zero written new codes at zeroed wrote len is)

pub values_left : (values : List Value) (b : Bool) → IsTrue b ↔ (values ≡ []) → b ≡ false → 0 < length values
values_left [] b is isnt = absurd (true≢false (sym (is.1 refl) ∙ isnt))
values_left (v ∷ vs) b is isnt = omega arith

-- ---- all fields

pub fields_all : (origin : ℕ) (f : Fields) (body : List Value) (a b c d e g h i j k : List ℕ) → origin ≤ length a
    → b ≡ a ++ spellings Little (optional (path_field 1) f.path) (length a - origin)
    → c ≡ b ++ spellings Little (optional (text_field 2) f.interface) (length b - origin)
    → d ≡ c ++ spellings Little (optional (text_field 3) f.member) (length c - origin)
    → e ≡ d ++ spellings Little (optional (text_field 4) f.error) (length d - origin)
    → g ≡ e ++ spellings Little (optional (number_field 5) f.reply_serial) (length e - origin)
    → h ≡ g ++ spellings Little (optional (text_field 6) f.destination) (length g - origin)
    → i ≡ h ++ spellings Little (optional (text_field 7) f.sender) (length h - origin)
    → j ≡ i ++ spellings Little (signature_field body) (length i - origin)
    → k ≡ j ++ spellings Little (optional (number_field 9) f.fds) (length j - origin)
    → k ≡ a ++ spellings Little (header_fields f body) (length a - origin)
unfolding header_fields
fields_all origin f body a b c d e g h i j k la path interface member error reply destination sender signature fds =
    let lb = longer origin a _ b la path in
    let lc = longer origin b _ c lb interface in
    let ld = longer origin c _ d lc member in
    let le = longer origin d _ e ld error in
    let lg = longer origin e _ g le reply in
    let lh = longer origin g _ h lg destination in
    let li = longer origin h _ i lh sender in
    fields_joined origin _ _ a b k la path
    (fields_joined origin _ _ b c k lb interface
    (fields_joined origin _ _ c d k lc member
    (fields_joined origin _ _ d e k ld error
    (fields_joined origin _ _ e g k le reply
    (fields_joined origin _ _ g h k lg destination
    (fields_joined origin _ _ h i k lh sender
    (fields_joined origin _ _ i j k li signature fds)))))))

-- ---- how long texts may be

name_short : (name : Name) (text : List ℕ) → IsNameField name text → length text < 2 ^ 32
name_short names.Interface text is = omega (arith, leb-true (length text) 255 (and_parts _ _ is).0)
name_short names.Member text is = omega (arith, leb-true (length text) 255 (and_parts _ _ is).0)
name_short names.Bus text is = omega (arith, leb-true (length text) 255 (and_parts _ _ is).0)

pub names_short : (name : Name) (found : Option (List ℕ)) → IfSome found (IsNameField name) → IfSome found (λ text. length text < 2 ^ 32)
names_short name None is = tt
names_short name (Some text) is = name_short name text is

pub path_short : (found : Option (List ℕ)) → IfSome found IsPathField → IfSome found (λ text. length text < 2 ^ 32)
path_short None is = tt
path_short (Some text) is = is.1

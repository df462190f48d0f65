-- Header fields that are written are read as the same fields.
use Rattle.std.proofs.Common.{◌≡◌, ℕ, suc, ◌+◌, ◌^◌, ◌<◌, ◌≤◌, Bool, true, false, eqb, List, [], ◌∷◌, ◌++◌, length, Option, Some, None, refl, sym, ap, subst, ◌∙◌, append_assoc, arith}
use Rattle.std.specs.Prelude.{IfSome}
use Rattle.std.proofs.lemmas.Bool.{ne_eqb}
use Rattle.std.proofs.lemmas.List.{length-append}
use Rattle.dbus_signature.specs.declared.kind.Basic.{Basic}
use Rattle.dbus_signature.specs.declared.kind.Basic.TheVariants as basic
use Rattle.dbus_signature.specs.declared.kind.Kind.{Kind}
use Rattle.dbus_signature.specs.declared.kind.Kind.TheVariants.{Basic as Plain, Variant, Struct, rolls-Basic}
use Rattle.dbus_signature.specs.Signatures.{IsSignature, SpellsType}
use Rattle.dbus_signature.specs.Types.{code, codes, nests, nests_step}
use Rattle.dbus_signature.specs.declared.kind.Kind.TheFolds.{fold-roll-Kind}
use Rattle.dbus_signature.specs.declared.kind.Kind.TheOpen.{Kind-F}
use Rattle.dbus_signature.specs.declared.kind.Kind.TheViews.{out-Kind}
use Rattle.dbus_signature.proofs.KindLaws.{codes_plain}
use Rattle.dbus_wire.specs.declared.value.Endian.{Endian}
use Rattle.dbus_wire.specs.declared.value.Endian.TheVariants.{Little}
use Rattle.dbus_wire.specs.declared.value.Value.{Value}
use Rattle.dbus_wire.specs.declared.value.Value.TheVariants as value
use Rattle.dbus_wire.specs.declared.value.Value.TheVariants.{rolls-Byte, rolls-U32, rolls-Str, rolls-Path, rolls-Sig, rolls-Struct, rolls-Variant}
use Rattle.dbus_wire.specs.declared.value.Value.TheOpen.{Value-F}
use Rattle.dbus_wire.specs.declared.value.Value.TheViews.{out-Value, out-roll-Value}
use Rattle.dbus_wire.specs.Fits.{Each, Fits, FitsEntry, IsBasic, IsOpen}
use Rattle.dbus_wire.specs.Spelling.{spelling}
use Rattle.dbus_wire.specs.TypeCodes.{types_codes}
use Rattle.dbus_wire.proofs.Some.{out_plain, out_struct, out_variant}
use Rattle.dbus_msg.specs.declared.known.Known.{Known}
use Rattle.dbus_msg.specs.declared.known.Name.{Name}
use Rattle.dbus_msg.specs.declared.known.Name.TheVariants as names
use Rattle.dbus_msg.specs.declared.message.Fields.{Fields}
use Rattle.dbus_msg.specs.Known.{code_in, content_in, fill, inner_in, item_in, known_from, members_in, name_in, no_fields, number_in, path_in, serial_in, signature_in, with_field}
use Rattle.dbus_msg.proofs.NameTexts.{name_is_text}
use Rattle.dbus_msg.specs.Written.{AreFields, field, header_fields, IsBody, IsNameField, IsPathField, number_field, optional, path_field, signature_field, text_field}

-- ---- one level of a value

pub out_byte : (n : ℕ) → out-Value (value.Byte n) ≡ Value-F.Byte n
out_byte n = ap out-Value (sym (rolls-Byte n)) ∙ out-roll-Value (Value-F.Byte n)

pub out_u32 : (n : ℕ) → out-Value (value.U32 n) ≡ Value-F.U32 n
out_u32 n = ap out-Value (sym (rolls-U32 n)) ∙ out-roll-Value (Value-F.U32 n)

pub out_str : (t : List ℕ) → out-Value (value.Str t) ≡ Value-F.Str t
out_str t = ap out-Value (sym (rolls-Str t)) ∙ out-roll-Value (Value-F.Str t)

pub out_path : (t : List ℕ) → out-Value (value.Path t) ≡ Value-F.Path t
out_path t = ap out-Value (sym (rolls-Path t)) ∙ out-roll-Value (Value-F.Path t)

pub out_sig : (s : List ℕ) → out-Value (value.Sig s) ≡ Value-F.Sig s
out_sig s = ap out-Value (sym (rolls-Sig s)) ∙ out-roll-Value (Value-F.Sig s)

pub out_members : (vs : List Value) → out-Value (value.Struct vs) ≡ Value-F.Struct vs
out_members vs = ap out-Value (sym (rolls-Struct vs)) ∙ out-roll-Value (Value-F.Struct vs)

pub out_inner : (s : List ℕ) (v : Value) → out-Value (value.Variant s v) ≡ Value-F.Variant s v
out_inner s v = ap out-Value (sym (rolls-Variant s v)) ∙ out-roll-Value (Value-F.Variant s v)

-- ---- fields are taken in one after the other

-- a field is taken in by its code
pub struct_taken : (c : ℕ) (codes : List ℕ) (inner : Value) (known : Known) → item_in (value.Struct (value.Byte c ∷ value.Variant codes inner ∷ [])) known ≡ with_field c (content_in inner) known
struct_taken c codes inner known = rw (out_members (value.Byte c ∷ value.Variant codes inner ∷ []), out_byte c, out_inner codes inner) refl

-- what is known of these fields
abbrev made : (path interface member error : Option (List ℕ)) (reply : Option ℕ) (destination sender signature : Option (List ℕ)) (fds : Option ℕ) → Known
made path interface member error reply destination sender signature fds = record {
  fields = record { path = path; interface = interface; member = member; error = error; reply_serial = reply; destination = destination; sender = sender; fds = fds };
  signature = signature;
}

goes_on : (c letter : ℕ) (inner : Value) (rest : List Value) (known next : Known) → with_field c (content_in inner) known ≡ Some next → known_from (field c letter inner ∷ rest) known ≡ known_from rest next
goes_on c letter inner rest known next is = rw (struct_taken c (letter ∷ []) inner known, is) refl

take_path : (p : Option (List ℕ)) (rest : List Value) → known_from (optional (path_field 1) p ++ rest) no_fields ≡ known_from rest (made p None None None None None None None None)
unfolding with_field
take_path None rest = refl
take_path (Some t) rest = goes_on 1 111 (value.Path t) rest no_fields (made (Some t) None None None None None None None None) (rw (out_path t) refl)

take_interface : (p i : Option (List ℕ)) (rest : List Value) → IfSome i (IsNameField names.Interface) → known_from (optional (text_field 2) i ++ rest) (made p None None None None None None None None) ≡ known_from rest (made p i None None None None None None None)
unfolding with_field
take_interface p None rest is = refl
take_interface p (Some t) rest is = goes_on 2 115 (value.Str t) rest _ (made p (Some t) None None None None None None None) (rw (out_str t, is) refl)

take_member : (p i m : Option (List ℕ)) (rest : List Value) → IfSome m (IsNameField names.Member) → known_from (optional (text_field 3) m ++ rest) (made p i None None None None None None None) ≡ known_from rest (made p i m None None None None None None)
unfolding with_field
take_member p i None rest is = refl
take_member p i (Some t) rest is = goes_on 3 115 (value.Str t) rest _ (made p i (Some t) None None None None None None) (rw (out_str t, is) refl)

take_error : (p i m e : Option (List ℕ)) (rest : List Value) → IfSome e (IsNameField names.Interface) → known_from (optional (text_field 4) e ++ rest) (made p i m None None None None None None) ≡ known_from rest (made p i m e None None None None None)
unfolding with_field
take_error p i m None rest is = refl
take_error p i m (Some t) rest is = goes_on 4 115 (value.Str t) rest _ (made p i m (Some t) None None None None None) (rw (out_str t, is) refl)

take_reply : (p i m e : Option (List ℕ)) (r : Option ℕ) (rest : List Value) → IfSome r (λ n. (0 < n) × (n < 2 ^ 32)) → known_from (optional (number_field 5) r ++ rest) (made p i m e None None None None None) ≡ known_from rest (made p i m e r None None None None)
unfolding with_field
take_reply p i m e None rest is = refl
take_reply p i m e (Some n) rest is =
    let some : eqb n 0 ≡ false = ne_eqb n 0 (λ none. omega (arith, none, is.0)) in
    goes_on 5 117 (value.U32 n) rest _ (made p i m e (Some n) None None None None) (rw (out_u32 n, some) refl)

take_destination : (p i m e : Option (List ℕ)) (r : Option ℕ) (d : Option (List ℕ)) (rest : List Value) → IfSome d (IsNameField names.Bus) → known_from (optional (text_field 6) d ++ rest) (made p i m e r None None None None) ≡ known_from rest (made p i m e r d None None None)
unfolding with_field
take_destination p i m e r None rest is = refl
take_destination p i m e r (Some t) rest is = goes_on 6 115 (value.Str t) rest _ (made p i m e r (Some t) None None None) (rw (out_str t, is) refl)

take_sender : (p i m e : Option (List ℕ)) (r : Option ℕ) (d s : Option (List ℕ)) (rest : List Value) → IfSome s (IsNameField names.Bus) → known_from (optional (text_field 7) s ++ rest) (made p i m e r d None None None) ≡ known_from rest (made p i m e r d s None None)
unfolding with_field
take_sender p i m e r d None rest is = refl
take_sender p i m e r d (Some t) rest is = goes_on 7 115 (value.Str t) rest _ (made p i m e r d (Some t) None None) (rw (out_str t, is) refl)

-- the signature of a body, which an empty one has not
abbrev pub body_signature : List Value → Option (List ℕ)
body_signature [] = None
body_signature (v ∷ vs) = Some (types_codes (v ∷ vs))

take_signature : (p i m e : Option (List ℕ)) (r : Option ℕ) (d s : Option (List ℕ)) (body rest : List Value) → known_from (signature_field body ++ rest) (made p i m e r d s None None) ≡ known_from rest (made p i m e r d s (body_signature body) None)
unfolding with_field
take_signature p i m e r d s [] rest = refl
take_signature p i m e r d s (v ∷ vs) rest = goes_on 8 103 (value.Sig (types_codes (v ∷ vs))) rest _ (made p i m e r d s (Some (types_codes (v ∷ vs))) None) (rw (out_sig (types_codes (v ∷ vs))) refl)

take_fds : (p i m e : Option (List ℕ)) (r : Option ℕ) (d s g : Option (List ℕ)) (n : Option ℕ) → known_from (optional (number_field 9) n) (made p i m e r d s g None) ≡ Some (made p i m e r d s g n)
unfolding with_field
take_fds p i m e r d s g None = refl
take_fds p i m e r d s g (Some n) = goes_on 9 117 (value.U32 n) [] _ (made p i m e r d s g (Some n)) (rw (out_u32 n) refl)

pub fields_taken : (f : Fields) (body : List Value) → AreFields f → known_from (header_fields f body) no_fields ≡ Some (record { fields = f; signature = body_signature body })
unfolding header_fields
fields_taken f body are =
    take_path f.path _
    ∙ take_interface f.path f.interface _ are.interface
    ∙ take_member f.path f.interface f.member _ are.member
    ∙ take_error f.path f.interface f.member f.error _ are.error
    ∙ take_reply f.path f.interface f.member f.error f.reply_serial _ are.reply_serial
    ∙ take_destination f.path f.interface f.member f.error f.reply_serial f.destination _ are.destination
    ∙ take_sender f.path f.interface f.member f.error f.reply_serial f.destination f.sender _ are.sender
    ∙ take_signature f.path f.interface f.member f.error f.reply_serial f.destination f.sender body _
    ∙ take_fds f.path f.interface f.member f.error f.reply_serial f.destination f.sender (body_signature body) f.fds

-- ---- fields have spellings

-- the type of a header field: `(yv)`
abbrev pub item_kind : Kind
item_kind = Struct (Plain basic.Byte ∷ Variant ∷ [])

-- Values have spellings as header fields, wherever they begin.
abbrev pub AreItems : List Value → Type 0
AreItems vs = (at : ℕ) → Each Little (Fits Little 63 item_kind) vs at

pub plain_nests : (b : Basic) → nests (Plain b) 32 32 ≡ true
plain_nests b = ap (λ (k : Kind). nests k 32 32) (sym (rolls-Basic b)) ∙ ap (λ (f : ℕ → ℕ → Bool). f 32 32) (fold-roll-Kind (ℕ → ℕ → Bool) nests_step (Kind-F.Basic b))

one_letter : (b : Basic) → SpellsType (code b ∷ []) (Plain b)
one_letter b = record { spelt = sym (codes_plain b); nested = plain_nests b; short = omega arith }

-- what stands in a type of one level more
pub opened : (e : Endian) (room : ℕ) (k : Kind) (layer : Kind-F Kind) (at : ℕ) (v : Value) → out-Kind k ≡ layer → IsOpen e (Fits e room) (FitsEntry e room) k layer at v → Fits e (suc room) k at v
unfolding Fits
opened e room k layer at v is holds = subst (λ (l : Kind-F Kind). IsOpen e (Fits e room) (FitsEntry e room) k l at v) (sym is) holds

pub plain_fits : (room : ℕ) (b : Basic) (at : ℕ) (v : Value) → IsBasic b v → Fits Little (suc room) (Plain b) at v
plain_fits room b at v is = opened Little room (Plain b) (Kind-F.Basic b) at v (out_plain b) is

variant_fits : (room : ℕ) (b : Basic) (at : ℕ) (v : Value) → IsBasic b v → Fits Little (suc (suc room)) Variant at (value.Variant (code b ∷ []) v)
variant_fits room b at v is =
    opened Little (suc room) Variant Kind-F.Variant at (value.Variant (code b ∷ []) v) out_variant (code b ∷ [], Plain b, v, refl, one_letter b, plain_fits room b _ v is)

item_opens : (room c : ℕ) (b : Basic) (v : Value) → c < 256 → IsBasic b v → (at : ℕ) → Fits Little (suc (suc (suc room))) item_kind at (field c (code b) v)
item_opens room c b v lt is at =
    opened Little (suc (suc room)) item_kind (Kind-F.Struct (Plain basic.Byte ∷ Variant ∷ [])) at (field c (code b) v) (out_struct (Plain basic.Byte ∷ Variant ∷ []))
    (value.Byte c ∷ value.Variant (code b ∷ []) v ∷ [], refl, omega arith, (plain_fits (suc room) basic.Byte _ (value.Byte c) (c, refl, lt), (variant_fits room b _ v is, tt)))

item_fits : (c : ℕ) (b : Basic) (v : Value) → c < 256 → IsBasic b v → (at : ℕ) → Fits Little 63 item_kind at (field c (code b) v)
item_fits c b v lt is at = item_opens 60 c b v lt is at

one_item : (v : Value) → ((at : ℕ) → Fits Little 63 item_kind at v) → AreItems (v ∷ [])
one_item v fits at = (fits at, tt)

each_behind : (xs ys : List Value) (at : ℕ) → Each Little (Fits Little 63 item_kind) xs at → AreItems ys → Each Little (Fits Little 63 item_kind) (xs ++ ys) at
each_behind [] ys at these those = those at
each_behind (x ∷ xs) ys at these those = (these.0, each_behind xs ys (at + length (spelling Little x at)) these.1 those)

items_behind : (xs ys : List Value) → AreItems xs → AreItems ys → AreItems (xs ++ ys)
items_behind xs ys these those at = each_behind xs ys at (these at) those

path_items : (c : ℕ) (p : Option (List ℕ)) → c < 256 → IfSome p IsPathField → AreItems (optional (path_field c) p)
path_items c None lt is = λ at. tt
path_items c (Some t) lt is = one_item _ (item_fits c basic.Path (value.Path t) lt (t, refl, is.0, is.1))

text_items : (c : ℕ) (n : Name) (p : Option (List ℕ)) → c < 256 → IfSome p (IsNameField n) → IfSome p (λ text. length text < 2 ^ 32) → AreItems (optional (text_field c) p)
text_items c n None lt is short = λ at. tt
text_items c n (Some t) lt is short = one_item _ (item_fits c basic.Str (value.Str t) lt (t, refl, name_is_text n t is, short))

number_items : (c : ℕ) (p : Option ℕ) → c < 256 → IfSome p (λ n. n < 2 ^ 32) → AreItems (optional (number_field c) p)
number_items c None lt is = λ at. tt
number_items c (Some n) lt is = one_item _ (item_fits c basic.U32 (value.U32 n) lt (n, refl, is))

signature_items : (body : List Value) → IsSignature (types_codes body) → AreItems (signature_field body)
signature_items [] s = λ at. tt
signature_items (v ∷ vs) s = one_item _ (item_fits 8 basic.Sig (value.Sig (types_codes (v ∷ vs))) (omega arith) (types_codes (v ∷ vs), refl, s))

serial_small : (r : Option ℕ) → IfSome r (λ n. (0 < n) × (n < 2 ^ 32)) → IfSome r (λ n. n < 2 ^ 32)
serial_small None is = tt
serial_small (Some n) is = is.1

pub fields_are_items : (f : Fields) (body : List Value) → AreFields f → ((n : Name) (found : Option (List ℕ)) → IfSome found (IsNameField n) → IfSome found (λ text. length text < 2 ^ 32)) → IsSignature (types_codes body) → AreItems (header_fields f body)
unfolding header_fields
fields_are_items f body are short s =
    items_behind _ _ (path_items 1 f.path (omega arith) are.path)
    (items_behind _ _ (text_items 2 names.Interface f.interface (omega arith) are.interface (short names.Interface f.interface are.interface))
    (items_behind _ _ (text_items 3 names.Member f.member (omega arith) are.member (short names.Member f.member are.member))
    (items_behind _ _ (text_items 4 names.Interface f.error (omega arith) are.error (short names.Interface f.error are.error))
    (items_behind _ _ (number_items 5 f.reply_serial (omega arith) (serial_small f.reply_serial are.reply_serial))
    (items_behind _ _ (text_items 6 names.Bus f.destination (omega arith) are.destination (short names.Bus f.destination are.destination))
    (items_behind _ _ (text_items 7 names.Bus f.sender (omega arith) are.sender (short names.Bus f.sender are.sender))
    (items_behind _ _ (signature_items body s) (number_items 9 f.fds (omega arith) are.fds))))))))

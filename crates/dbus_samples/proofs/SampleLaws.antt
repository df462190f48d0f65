-- Each sample has a written form.
use Rattle.std.proofs.Common.{◌≡◌, ℕ, ◌+◌, ◌^◌, ◌<◌, ◌≤◌, Bool, true, List, [], ◌∷◌, ◌++◌, length, refl, sym, ap, ◌∙◌, arith}
use Rattle.std.specs.List.{list_all}
use Rattle.dbus_signature.specs.declared.kind.Basic.{Basic}
use Rattle.dbus_signature.specs.declared.kind.Basic.TheVariants as basic
use Rattle.dbus_signature.specs.declared.kind.Kind.TheVariants.{Basic as Plain}
use Rattle.dbus_signature.specs.Signatures.{IsSignature}
use Rattle.dbus_signature.proofs.KindLaws.{codes_plain}
use Rattle.dbus_wire.specs.declared.value.Endian.TheVariants.{Little}
use Rattle.dbus_wire.specs.declared.value.Value.{Value}
use Rattle.dbus_wire.specs.declared.value.Value.TheVariants as value
use Rattle.dbus_wire.specs.Fits.{Fits}
use Rattle.dbus_wire.specs.Spelling.{bit, padding, spellings}
use Rattle.dbus_wire.specs.TypeCodes.{types_codes}
use Rattle.dbus_wire.specs.Values.{max_open}
use Rattle.dbus_wire.proofs.SpellingLaws.{spelt_bool, spelt_sig, spelt_u32}
use Rattle.dbus_wire.proofs.TypeLaws.{typed_bool}
use Rattle.dbus_msg.specs.Written.{AreFields, body_bytes, field, fields_bytes, header_fields, IsMessage, number_field, written_body_start}
use Rattle.dbus_msg.proofs.FieldLaws.{field_spelt}
use Rattle.dbus_msg.proofs.FieldsRead.{plain_fits, plain_nests}
use Rattle.dbus_msg.proofs.PatchLaws.{written_len}
use Rattle.dbus_samples.specs.Samples.{return_of}

return_fields : (serial reply : ℕ) (body : List Value) → 0 < reply → reply < 2 ^ 32 → AreFields ((return_of serial reply body).fields)
return_fields serial reply body some fits = record { path = tt; interface = tt; member = tt; error = tt; reply_serial = (some, fits); destination = tt; sender = tt; fds = tt }

-- ---- without a body

pong_fields : (serial reply : ℕ) → length (fields_bytes (return_of serial reply [])) ≡ 8
unfolding header_fields
pong_fields serial reply = rw (field_spelt 5 117 16 (value.U32 reply), spelt_u32 Little reply 20) refl

pong_start : (serial reply : ℕ) → written_body_start (return_of serial reply []) ≡ 24
pong_start serial reply = ap (λ (n : ℕ). 16 + n + length (padding 8 (16 + n))) (pong_fields serial reply)

pub pong_is : (serial reply : ℕ) → 0 < serial → serial < 2 ^ 32 → 0 < reply → reply < 2 ^ 32 → IsMessage (return_of serial reply [])
pong_is serial reply some fits reply_some reply_fits = record {
  kind = omega arith;
  serial = some;
  serial_fits = fits;
  fields = return_fields serial reply [] reply_some reply_fits;
  required = refl;
  body = record { signature = record { kinds = []; spelt = refl; nested = refl; short = omega arith }; fits = tt };
  fields_short = omega (arith, pong_fields serial reply);
  short = omega (arith, written_len (return_of serial reply []), pong_start serial reply);
}

-- ---- with a boolean

abbrev truths : Bool → List Value
truths truth = value.Bool truth ∷ []

truth_typed : (truth : Bool) → types_codes (truths truth) ≡ 98 ∷ []
truth_typed truth = rw (typed_bool truth) refl

answer_fields : (serial reply : ℕ) (truth : Bool) → length (fields_bytes (return_of serial reply (truths truth))) ≡ 15
unfolding header_fields
answer_fields serial reply truth =
    rw (truth_typed truth, field_spelt 5 117 16 (value.U32 reply), spelt_u32 Little reply 20, field_spelt 8 103 24 (value.Sig (98 ∷ [])), spelt_sig Little (98 ∷ []) 28) refl

answer_start : (serial reply : ℕ) (truth : Bool) → written_body_start (return_of serial reply (truths truth)) ≡ 32
answer_start serial reply truth = ap (λ (n : ℕ). 16 + n + length (padding 8 (16 + n))) (answer_fields serial reply truth)

answer_body : (serial reply : ℕ) (truth : Bool) → length (body_bytes (return_of serial reply (truths truth))) ≡ 4
answer_body serial reply truth = ap (λ (n : ℕ). length (spellings Little (truths truth) n)) (answer_start serial reply truth) ∙ rw (spelt_bool Little truth 32) refl

truth_fits : (truth : Bool) (at : ℕ) → Fits Little max_open (Plain basic.Bool) at (value.Bool truth)
truth_fits truth at = plain_fits 63 basic.Bool at (value.Bool truth) (truth, refl)

abbrev truth_signature : (truth : Bool) → IsSignature (types_codes (truths truth))
truth_signature truth = record {
  kinds = Plain basic.Bool ∷ [];
  spelt = truth_typed truth ∙ rw (codes_plain basic.Bool) refl;
  nested = rw (plain_nests basic.Bool) refl;
  short = omega (arith, ap length (truth_typed truth));
}

pub answer_is : (serial reply : ℕ) (truth : Bool) → 0 < serial → serial < 2 ^ 32 → 0 < reply → reply < 2 ^ 32 → IsMessage (return_of serial reply (truths truth))
answer_is serial reply truth some fits reply_some reply_fits = record {
  kind = omega arith;
  serial = some;
  serial_fits = fits;
  fields = return_fields serial reply (truths truth) reply_some reply_fits;
  required = refl;
  body = record { signature = truth_signature truth; fits = (truth_fits truth _, tt) };
  fields_short = omega (arith, answer_fields serial reply truth);
  short = omega (arith, written_len (return_of serial reply (truths truth)), answer_start serial reply truth, answer_body serial reply truth);
}

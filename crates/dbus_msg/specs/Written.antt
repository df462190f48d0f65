-- How a message is written: in little-endian, its header fields in the order of their codes (D-Bus Specification, "Message
-- Format" and "Header Fields").
use Rattle.std.specs.Prelude.{◌≡◌, ℕ, ◌+◌, ◌^◌, ◌<◌, ◌≤◌, Bool, true, List, [], ◌∷◌, ◌++◌, length, Option, Some, None, IfSome}
use Rattle.std.specs.Int.{w32}
use Rattle.dbus_signature.specs.Signatures.{IsSignature}
use Rattle.dbus_wire.specs.declared.value.Endian.TheVariants.{Little}
use Rattle.dbus_wire.specs.declared.value.Value.{Value}
use Rattle.dbus_wire.specs.declared.value.Value.TheVariants as value
use Rattle.dbus_wire.specs.declared.strings.StringKind.TheVariants as string
use Rattle.dbus_wire.specs.Fits.{Fits, Members}
use Rattle.dbus_wire.specs.Spelling.{padding, spellings, to_bytes}
use Rattle.dbus_wire.specs.Texts.{is_string}
use Rattle.dbus_wire.specs.TypeCodes.{types_codes}
use Rattle.dbus_wire.specs.Values.{max_array, max_open}
use Rattle.dbus_msg.specs.declared.known.Name.{Name}
use Rattle.dbus_msg.specs.declared.known.Name.TheVariants as names
use Rattle.dbus_msg.specs.declared.message.Fields.{Fields}
use Rattle.dbus_msg.specs.declared.message.Message.{Message}
use Rattle.dbus_msg.specs.Headers.{fixed_part, max_message}
use Rattle.dbus_msg.specs.Known.{has_required, is_name}

-- A header field: a struct of its code and a variant, whose type has one letter.
abbrev pub field : (code letter : ℕ) → Value → Value
field code letter inner = value.Struct (value.Byte code ∷ value.Variant (letter ∷ []) inner ∷ [])

-- a field that may be missing
abbrev pub optional : {A : Type 0} → (A → Value) → Option A → List Value
optional make None = []
optional make (Some x) = make x ∷ []

abbrev pub path_field : ℕ → List ℕ → Value
path_field code text = field code 111 (value.Path text)

abbrev pub text_field : ℕ → List ℕ → Value
text_field code text = field code 115 (value.Str text)

abbrev pub number_field : ℕ → ℕ → Value
number_field code n = field code 117 (value.U32 n)

-- the signature of the body, unless that is empty
abbrev pub signature_field : List Value → List Value
signature_field [] = []
signature_field (v ∷ vs) = field 8 103 (value.Sig (types_codes (v ∷ vs))) ∷ []

-- the header fields of a message with this body
unfoldable pub header_fields : Fields → List Value → List Value
header_fields fields body =
    optional (path_field 1) fields.path
    ++ (optional (text_field 2) fields.interface
    ++ (optional (text_field 3) fields.member
    ++ (optional (text_field 4) fields.error
    ++ (optional (number_field 5) fields.reply_serial
    ++ (optional (text_field 6) fields.destination
    ++ (optional (text_field 7) fields.sender
    ++ (signature_field body
    ++ optional (number_field 9) fields.fds)))))))

-- the bytes of the header fields, behind the fixed part
abbrev pub fields_bytes : Message → List ℕ
fields_bytes message = spellings Little (header_fields message.fields message.body) fixed_part

-- where the header fields end, and the body begins
abbrev pub written_fields_end : Message → ℕ
written_fields_end message = fixed_part + length (fields_bytes message)

abbrev pub fields_gap : Message → List ℕ
fields_gap message = padding 8 (written_fields_end message)

abbrev pub written_body_start : Message → ℕ
written_body_start message = written_fields_end message + length (fields_gap message)

abbrev pub body_bytes : Message → List ℕ
body_bytes message = spellings Little message.body (written_body_start message)

-- `l`, the kind, the flags, the version 1, the length of the body, the serial, the length of the header fields, these
-- fields, zeros up to a multiple of 8, and the body.
unfoldable pub written : Message → List ℕ
written message =
    108 ∷ message.kind ∷ message.flags ∷ 1 ∷
    (to_bytes Little w32 (length (body_bytes message))
    ++ (to_bytes Little w32 message.serial
    ++ (to_bytes Little w32 (length (fields_bytes message))
    ++ (fields_bytes message ++ (fields_gap message ++ body_bytes message)))))

-- ---- which messages can be written

abbrev pub IsPathField : List ℕ → Type 0
IsPathField text = (is_string string.Path text ≡ true) × (length text < 2 ^ 32)

abbrev pub IsNameField : Name → List ℕ → Type 0
IsNameField name text = is_name name text ≡ true

-- The header fields hold what they may hold ("Header Fields", "Valid Names").
pub record AreFields (fields : Fields) : Type 0 where
  pub path : IfSome fields.path IsPathField
  pub interface : IfSome fields.interface (IsNameField names.Interface)
  pub member : IfSome fields.member (IsNameField names.Member)
  pub error : IfSome fields.error (IsNameField names.Interface)
  pub reply_serial : IfSome fields.reply_serial (λ n. (0 < n) × (n < 2 ^ 32))
  pub destination : IfSome fields.destination (IsNameField names.Bus)
  pub sender : IfSome fields.sender (IsNameField names.Bus)
  pub fds : IfSome fields.fds (λ n. n < 2 ^ 32)

-- The types of a body's values are a signature, and each value has a spelling as its type.
pub record IsBody (start : ℕ) (body : List Value) : Type 0 where
  pub signature : IsSignature (types_codes body)
  pub fits : Members Little (Fits Little max_open) signature.kinds body start

-- A message of a kind, with a serial, the header fields that its kind requires and a body, within the limits ("Message
-- Format").
pub record IsMessage (message : Message) : Type 0 where
  pub kind : 0 < message.kind
  pub serial : 0 < message.serial
  pub serial_fits : message.serial < 2 ^ 32
  pub fields : AreFields message.fields
  pub required : has_required message.kind message.fields ≡ true
  pub body : IsBody (written_body_start message) message.body
  pub fields_short : length (fields_bytes message) ≤ max_array
  pub short : length (written message) ≤ max_message

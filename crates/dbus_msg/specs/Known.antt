-- The header fields of a message that are known (D-Bus Specification, "Header Fields").
use Rattle.std.specs.Prelude.{ℕ, ◌==◌, ◌&&◌, Bool, true, is_some, List, [], ◌∷◌, Option, Some, None, option_and_then, if◌then◌else◌}
use Rattle.std.specs.Option.{option_map}
use Rattle.dbus_wire.specs.declared.value.Value.{Value}
use Rattle.dbus_wire.specs.declared.value.Value.TheViews.{out-Value}
use Rattle.dbus_wire.specs.declared.value.Value.TheOpen.{Value-F}
use Rattle.dbus_msg.specs.declared.message.Fields.{Fields}
use Rattle.dbus_msg.specs.declared.known.Known.{Known}
use Rattle.dbus_msg.specs.declared.known.Name.{Name}
use Rattle.dbus_msg.specs.declared.known.Name.TheVariants as names
use Rattle.dbus_msg.specs.Names.{is_bus_name, is_interface, is_member}

abbrev pub is_name : Name → List ℕ → Bool
is_name names.Interface text = is_interface text
is_name names.Member text = is_member text
is_name names.Bus text = is_bus_name text

-- A field is filled once.
abbrev pub fill : {A : Type 0} → Option A → Option A → Option (Option A)
fill None (Some x) = Some (Some x)
fill None None = None
fill (Some y) found = None

-- ---- what the variant of a header field holds

-- As far as header fields may hold it: an object path, a text, a signature or a number of four bytes; or any other value.
pub data Content : Type 0 where
  a_path : List ℕ → Content
  a_text : List ℕ → Content
  a_signature : List ℕ → Content
  a_number : ℕ → Content
  another : Content

abbrev pub content_of : Value-F Value → Content
content_of (Value-F.Path path) = a_path path
content_of (Value-F.Str text) = a_text text
content_of (Value-F.Sig codes) = a_signature codes
content_of (Value-F.U32 n) = a_number n
content_of layer = another

abbrev pub content_in : Value → Content
content_in value = content_of (out-Value value)

abbrev pub path_in : Content → Option (List ℕ)
path_in (a_path path) = Some path
path_in content = None

abbrev pub name_in : Name → Content → Option (List ℕ)
name_in name (a_text text) = if is_name name text then Some text else None
name_in name content = None

abbrev pub signature_in : Content → Option (List ℕ)
signature_in (a_signature codes) = Some codes
signature_in content = None

abbrev pub number_in : Content → Option ℕ
number_in (a_number n) = Some n
number_in content = None

-- a serial is not 0
abbrev pub serial_in : Content → Option ℕ
serial_in (a_number n) = if n == 0 then None else Some n
serial_in content = None

-- ---- the parts of a header field, by the one level of each

abbrev pub code_of : Value-F Value → Option ℕ
code_of (Value-F.Byte code) = Some code
code_of layer = None

abbrev pub code_in : Value → Option ℕ
code_in value = code_of (out-Value value)

abbrev pub inner_of : Value-F Value → Option Value
inner_of (Value-F.Variant codes inner) = Some inner
inner_of layer = None

abbrev pub inner_in : Value → Option Value
inner_in value = inner_of (out-Value value)

abbrev pub members_of : Value-F Value → Option (List Value)
members_of (Value-F.Struct members) = Some members
members_of layer = None

abbrev pub members_in : Value → Option (List Value)
members_in value = members_of (out-Value value)

-- ---- the fields, by their codes

abbrev pub no_fields : Known
no_fields = record {
  fields = record { path = None; interface = None; member = None; error = None; reply_serial = None; destination = None; sender = None; fds = None };
  signature = None;
}

-- The known fields with one more. Code 0 is at fault, and so is a known field that is there already, has another type or
-- no such name in it, or is a serial of 0. Other codes are ignored.
unfoldable pub with_field : ℕ → Content → Known → Option Known
with_field code content known =
    if code == 0 then None
    else (if code == 1 then option_map (λ path. record known { fields = record known.fields { path = path } }) (fill known.fields.path (path_in content))
    else (if code == 2 then option_map (λ name. record known { fields = record known.fields { interface = name } }) (fill known.fields.interface (name_in names.Interface content))
    else (if code == 3 then option_map (λ name. record known { fields = record known.fields { member = name } }) (fill known.fields.member (name_in names.Member content))
    else (if code == 4 then option_map (λ name. record known { fields = record known.fields { error = name } }) (fill known.fields.error (name_in names.Interface content))
    else (if code == 5 then option_map (λ serial. record known { fields = record known.fields { reply_serial = serial } }) (fill known.fields.reply_serial (serial_in content))
    else (if code == 6 then option_map (λ name. record known { fields = record known.fields { destination = name } }) (fill known.fields.destination (name_in names.Bus content))
    else (if code == 7 then option_map (λ name. record known { fields = record known.fields { sender = name } }) (fill known.fields.sender (name_in names.Bus content))
    else (if code == 8 then option_map (λ signature. record known { signature = signature }) (fill known.signature (signature_in content))
    else (if code == 9 then option_map (λ count. record known { fields = record known.fields { fds = count } }) (fill known.fields.fds (number_in content))
    else Some known)))))))))

-- a header field: a struct of a code and a variant
abbrev pub field_in : List Value → Known → Option Known
field_in (code ∷ variant ∷ []) known = option_and_then (λ c. option_and_then (λ inner. with_field c (content_in inner) known) (inner_in variant)) (code_in code)
field_in members known = None

-- the known fields with that of one item of the array
abbrev pub item_in : Value → Known → Option Known
item_in item known = option_and_then (λ members. field_in members known) (members_in item)

-- the known fields with those of a row of items
abbrev pub known_from : List Value → Known → Option Known
known_from [] known = Some known
known_from (item ∷ items) known = option_and_then (known_from items) (item_in item known)

-- ---- what a message of a kind has to have

-- As the table of "Header Fields" requires: a call has a path and a member, a return the serial of its call, an error its
-- name and that serial, and a signal a path, an interface and a member.
abbrev pub has_required : ℕ → Fields → Bool
has_required kind fields =
    if kind == 1 then is_some fields.path && is_some fields.member
    else (if kind == 2 then is_some fields.reply_serial
    else (if kind == 3 then is_some fields.error && is_some fields.reply_serial
    else (if kind == 4 then is_some fields.path && (is_some fields.interface && is_some fields.member) else true)))

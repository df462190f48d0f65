-- The fixed part of a message's header (D-Bus Specification, "Message Format").
use Rattle.std.specs.Prelude.{ℕ, ◌+◌, ◌==◌, ◌&&◌, not, nat_le, Bool, List, take, drop, slice_index, Option, Some, None, option_and_then, if◌then◌else◌}
use Rattle.std.specs.Int.{w32}
use Rattle.dbus_wire.specs.declared.value.Endian.{Endian}
use Rattle.dbus_wire.specs.declared.value.Endian.TheVariants.{Little, Big}
use Rattle.dbus_wire.specs.Fields.{from_bytes, gap}
use Rattle.dbus_wire.specs.Values.{max_array}
use Rattle.dbus_msg.specs.declared.header.Header.{Header}

-- how many bytes a message may have, and how many tell how many it has
abbrev pub max_message : ℕ
max_message = 134217728

abbrev pub fixed_part : ℕ
fixed_part = 16

-- `l` for little-endian, `B` for big-endian
abbrev pub endian_of : ℕ → Option Endian
endian_of letter = if letter == 108 then Some Little else (if letter == 66 then Some Big else None)

-- the number of four bytes at an offset
abbrev pub number_in : Endian → ℕ → List ℕ → ℕ
number_in endian at bytes = from_bytes endian w32 (take 4 (drop at bytes))

-- where the header fields end
abbrev pub fields_end : Header → ℕ
fields_end header = header.fields_len + fixed_part

-- where the body begins: behind the header fields, at a multiple of 8
abbrev pub body_start : Header → ℕ
body_start header = fields_end header + gap 8 (fields_end header)

-- how many bytes the whole message has
abbrev pub whole_len : Header → ℕ
whole_len header = body_start header + header.body_len

-- The kind and the serial are not 0, the version is 1, and no length is above its limit.
abbrev pub is_sound : ℕ → Header → Bool
is_sound version header =
    not (header.kind == 0) && ((version == 1) && (not (header.serial == 0) && (nat_le header.fields_len max_array && nat_le (whole_len header) max_message)))

-- The order of bytes, the kind, the flags, the version, the length of the body, the serial and the length of the header
-- fields.
abbrev pub header_in : Endian → List ℕ → Header
header_in endian bytes = record {
  endian = endian;
  kind = slice_index bytes 1;
  flags = slice_index bytes 2;
  body_len = number_in endian 4 bytes;
  serial = number_in endian 8 bytes;
  fields_len = number_in endian 12 bytes;
}

abbrev pub sound_header : ℕ → Header → Option Header
sound_header version header = if is_sound version header then Some header else None

-- the header that the first 16 bytes tell, unless they are at fault
abbrev pub header_of : List ℕ → Option Header
header_of bytes = option_and_then (λ endian. sound_header (slice_index bytes 3) (header_in endian bytes)) (endian_of (slice_index bytes 0))

-- Streams of messages, one whole message behind the other (D-Bus Specification, "Message Format").
use Rattle.std.specs.Prelude.{◌≡◌, ℕ, ◌+◌, ◌-◌, nat_lt, List, [], ◌∷◌, length, take, drop, Option, Some, None, if◌then◌else◌}
use Rattle.dbus_msg.specs.declared.header.Header.{Header}
use Rattle.dbus_msg.specs.declared.message.Message.{Message}
use Rattle.dbus_msg.specs.Headers.{fixed_part, header_of, whole_len}
use Rattle.dbus_msg.specs.Messages.{message_of}

-- What comes next in a stream.
pub data Next : Type 0 where
  -- no whole message is there yet
  part : Next
  -- what begins here is refused
  refused : Next
  -- a message, and what stands behind it
  whole : Message → List ℕ → Next

-- a whole message, or bytes that are as long as one and are none
abbrev pub judged : List ℕ → ℕ → Option Message → Next
judged bytes len None = refused
judged bytes len (Some message) = whole message (drop len bytes)

abbrev pub with_start : List ℕ → Option Header → Next
with_start bytes None = refused
with_start bytes (Some header) =
    if nat_lt (length bytes) (whole_len header) then part else judged bytes (whole_len header) (message_of (take (whole_len header) bytes))

-- The first 16 bytes are refused as soon as they are there, and a message as soon as it is whole.
unfoldable pub next : List ℕ → Next
next bytes = if nat_lt (length bytes) fixed_part then part else with_start bytes (header_of bytes)

-- The whole messages of a stream, and the rest, which is no whole message yet.
pub data Split : List ℕ → List Message → List ℕ → Type 0 where
  none_whole : {bytes : List ℕ} → next bytes ≡ part → Split bytes [] bytes
  one_more : {bytes rest left : List ℕ} {message : Message} {messages : List Message} → next bytes ≡ whole message rest → Split rest messages left → Split bytes (message ∷ messages) left

-- Behind these whole messages of a stream, what begins at this place is refused.
pub data BadAt : List ℕ → List Message → ℕ → Type 0 where
  here : {bytes : List ℕ} → next bytes ≡ refused → BadAt bytes [] 0
  later : {bytes rest : List ℕ} {message : Message} {messages : List Message} {place : ℕ} → next bytes ≡ whole message rest → BadAt rest messages place → BadAt bytes (message ∷ messages) (place + (length bytes - length rest))

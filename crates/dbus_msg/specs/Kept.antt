-- What contracts see of a decoder.
use Rattle.std.specs.Prelude.{ℕ, List}
use Rattle.dbus_msg.specs.declared.decoder.FeedEnd.{FeedEnd}

-- the bytes kept, the place of the first of them in the stream, and how the last piece left it
pub record Kept : Type 0 where
  pub bytes : List ℕ
  pub place : ℕ
  pub end : FeedEnd

-- The return of a call, as a record.
use Rattle.std.specs.Prelude.{ℕ, List, Some, None}
use Rattle.dbus_wire.specs.declared.value.Value.{Value}
use Rattle.dbus_msg.specs.declared.message.Message.{Message}

abbrev pub return_of : (serial reply : ℕ) → List Value → Message
return_of serial reply body = record {
  kind = 2;
  flags = 1;
  serial = serial;
  fields = record { path = None; interface = None; member = None; error = None; reply_serial = Some reply; destination = None; sender = None; fds = None };
  body = body;
}

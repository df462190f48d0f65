-- What each line of a script does. The script language is this project's own.
--
-- A call is answered by the settings in force. Before its reply a client is told, in order, each signal that came since
-- its session's last call, up to and with those of the call itself. A client's first call opens its session, which knows
-- of no signal that came before; `end` closes it. A call whose arguments aren't of their types opens none, changes nothing and
-- is told of no signal.
use Rattle.std.specs.Prelude.{ℕ, false, codes, decimal, drop, length, List, [], ◌∷◌, ◌++◌, Option, None, Some, slice_set}
use Rattle.std.specs.List.{flat_map}
use Rattle.std.specs.Option.{option_map}
use Rattle.fw_line.specs.Line.{line_of}
use Rattle.fw_line.specs.OutcomeText.{outcome_text}
use Rattle.fw_line.specs.declared.line.Line.{Line}
use Rattle.fw_line.specs.declared.line.Line.TheVariants as line
use Rattle.fw_answer.specs.Refusals.{Answered}
use Rattle.fw_call.specs.declared.call.Call.{Call}
use Rattle.fw_call.specs.declared.call.Call.TheVariants as call
use Rattle.fw_ipset_calls.specs.Calls.{answered as ipset_answered}
use Rattle.fw_model.specs.declared.config.Config.{Config}
use Rattle.fw_model.specs.declared.packet.Packet.{Packet}
use Rattle.fw_model.specs.declared.runtime.Runtime.{Runtime}
use Rattle.fw_run.specs.Language.{Step}
use Rattle.fw_service.specs.Configs.{built_in_config}
use Rattle.fw_told.specs.Told.{reply_line, signal_line}
use Rattle.fw_told.specs.declared.told.Reply.TheVariants as reply
use Rattle.fw_told.specs.declared.told.Signal.{Signal}
use Rattle.fw_verdict.specs.Way.{way}
use Rattle.fw_zone_calls.specs.Calls.{answered as zone_answered}
use Rattle.fw_firewall.specs.Sessions.{no_session, told_to}

-- the settings in force, the sessions, and all signals so far
pub record State : Type 0 where
  pub runtime : Runtime
  pub sessions : List (Option ℕ)
  pub signals : List Signal

-- the firewall has its built-in settings, and no client has a session
abbrev pub first_state : State
first_state = record { runtime = record { panic = false; config = built_in_config }; sessions = no_session; signals = [] }

-- how many of the signals so far a client knows of: those that its session was told, or all where its session opens now
abbrev pub known : State → Option ℕ → ℕ
known state None = length state.signals
known state (Some told) = told

-- what a call answers, by what it is about
abbrev pub answered : Config → Call → Answered Config
answered config (call.Zone zones) = zone_answered config zones
answered config (call.Ipset ipsets) = ipset_answered config ipsets

-- a call: the signals that the client is to be told, and the reply
abbrev pub call_step : State → ℕ → Call → Step State
call_step state client call =
    let answer = answered state.runtime.config call in
    let signals = state.signals ++ answer.signals in
    record {
      text = flat_map (signal_line client) (drop (known state (told_to state.sessions client)) signals) ++ reply_line client answer.reply;
      state = record {
        runtime = record state.runtime { config = answer.after };
        sessions = slice_set state.sessions client (Some (length signals));
        signals = signals;
      };
    }

-- a call whose arguments aren't of their types
abbrev pub unfit_step : State → ℕ → (signature : List ℕ) → Step State
unfit_step state client signature = record { text = reply_line client (reply.InvalidArgs signature); state = state }

-- the line of a session that is closed, or of a client that has none
abbrev pub end_text : ℕ → Option ℕ → List ℕ
end_text client None = codes "end " ++ decimal client ++ codes " not-open" ++ 10 ∷ []
end_text client (Some told) = codes "end " ++ decimal client ++ 10 ∷ []

-- the end of a client's session
abbrev pub end_step : State → ℕ → Step State
end_step state client = record {
  text = end_text client (told_to state.sessions client);
  state = record state { sessions = slice_set state.sessions client None };
}

-- a packet
abbrev pub packet_step : State → Packet → Step State
packet_step state packet = record { text = outcome_text (way state.runtime packet); state = state }

-- a line
abbrev pub line_step : State → Line → Step State
line_step state line.Skip = record { text = []; state = state }
line_step state (line.Call client call) = call_step state client call
line_step state (line.Unfit client signature) = unfit_step state client signature
line_step state (line.End client) = end_step state client
line_step state (line.Packet packet) = packet_step state packet

-- the bytes of a line, where they are in the grammar
abbrev pub step : State → List ℕ → Option (Step State)
step state bytes = option_map (line_step state) (line_of bytes)

-- Where no memory is found before the first line, no line ran and nothing was written.
use Rattle.std.proofs.Common.{◌≡◌, ℕ, List, [], ◌++◌, Option, None, Some, IfSome, refl, sym, ap, append-nil}
use Rattle.fw_firewall.specs.Script.{first_state, step}
use Rattle.fw_input.specs.Lines.{Judgement}
use Rattle.fw_run.specs.Endings.{EndsBehind, Runs, WritesAll}
use Rattle.fw_run.specs.declared.ended.Ended.TheVariants as ended
use Rattle.fw_script.specs.Ran.{HasRun}
use Rattle.fw_script.specs.declared.status.Status.TheVariants as status

as-before : (held : Option (List ℕ)) → WritesAll [] held held
as-before None = refl
as-before (Some bytes) = ap Some (sym (append-nil bytes))

no-lines : (input : Option Judgement) → IfSome input (EndsBehind step ended.Memory [] first_state)
no-lines None = tt
no-lines (Some judgement) = (judgement.lines, refl)

pub nothing_ran : (input : Option Judgement) (held : Option (List ℕ)) → HasRun status.Memory input held held
nothing_ran input held = record {
  ended = ended.Memory;
  last = first_state;
  status = refl;
  runs = record {
    lines = [];
    done = record { text = []; state = first_state };
    ran = refl;
    ends = no-lines input;
    writes = ([], ([], refl), as-before held);
    leaves = tt;
  };
}

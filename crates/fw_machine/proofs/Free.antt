-- Calls that take no memory.
use Rattle.std.proofs.Common.{◌≡◌, ℕ, List, Bool, true, Result, Ok, Err, IfOk, IsOk, subst}
use Rattle.fw_calls.specs.declared.call.Call.{Call}
use Rattle.fw_calls.specs.declared.event.Event.{Event}
use Rattle.fw_calls.specs.declared.event.Event.TheVariants as event
use Rattle.fw_machine.specs.Machine.{IsFree, IsQuiet, called, takes_none}
use Rattle.fw_machine.specs.Machine.IsFree.{asks_flag}
use Rattle.fw_settings.specs.declared.proposal.Proposal.{Proposal}
use Rattle.fw_settings.specs.declared.settings.Settings.{Settings}

free_call : (settings : Settings) (session : ℕ) (call : Call) → IsFree settings (event.Call session call) → (takes_none call ≡ true) × IsOk (called settings call)
free_call settings session call (asks_flag _ _ takes ok) = (takes, ok)

-- of such a call nobody is told
pub quiet_call : {E : Type 0} (settings : Settings) (happens : Event) (session : ℕ) (call : Call) (result : Result Proposal E)
    → happens ≡ event.Call session call
    → IfOk result (λ proposal. takes_none call ≡ true → IsOk (called settings call) → IsQuiet proposal)
    → IfOk result (λ proposal. IsFree settings happens → IsQuiet proposal)
quiet_call settings happens session call (Ok proposal) same quiet = λ free. let is = free_call settings session call (subst (IsFree settings) same free) in quiet is.0 is.1
quiet_call settings happens session call (Err error) same quiet = tt

not_tick : {Q : Type 0} (settings : Settings) (session now : ℕ) → IsFree settings (event.Tick session now) → Q
not_tick settings session now free = elim free [ ]

not_link : {Q : Type 0} (settings : Settings) (session : ℕ) (up : Bool) (name : List ℕ) → IsFree settings (event.Link session up name) → Q
not_link settings session up name free = elim free [ ]

-- neither the time nor a link is such an event
pub quiet_tick : {E : Type 0} (settings : Settings) (happens : Event) (session now : ℕ) (result : Result Proposal E)
    → happens ≡ event.Tick session now
    → IfOk result (λ proposal. IsFree settings happens → IsQuiet proposal)
quiet_tick settings happens session now (Ok proposal) same = λ free. not_tick settings session now (subst (IsFree settings) same free)
quiet_tick settings happens session now (Err error) same = tt

pub quiet_link : {E : Type 0} (settings : Settings) (happens : Event) (session : ℕ) (up : Bool) (name : List ℕ) (result : Result Proposal E)
    → happens ≡ event.Link session up name
    → IfOk result (λ proposal. IsFree settings happens → IsQuiet proposal)
quiet_link settings happens session up name (Ok proposal) same = λ free. not_link settings session up name (subst (IsFree settings) same free)
quiet_link settings happens session up name (Err error) same = tt

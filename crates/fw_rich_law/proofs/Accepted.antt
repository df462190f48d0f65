-- A rule whose parts go together isn't refused.
use Rattle.std.proofs.Common.{◌≡◌, ◌≢◌, ◌⊎◌, inl, inr, ℕ, zero, suc, Bool, true, false, if◌then◌else◌, not, ◌&&◌, ◌||◌, List, Option, None, Some, Ok, ℤ, pos, negsuc, IsSome, IsNone, is_some, is_none, codes, refl, ap, ◌∙◌, arith}
use Rattle.std.proofs.lemmas.Bool.{false≢true, ne_eqb}
use Rattle.fw_addr.specs.declared.addr.Addr.{Addr}
use Rattle.fw_addr.specs.declared.addr.Addr.TheVariants as addrs
use Rattle.fw_addr.specs.declared.icmp.IcmpNumbers.{IcmpNumbers}
use Rattle.fw_addr.specs.declared.limit.Limit.{Limit}
use Rattle.fw_addr.specs.declared.packet.Family.{Family}
use Rattle.fw_addr.specs.declared.packet.Family.TheVariants as families
use Rattle.fw_addr.specs.declared.reject.RejectType.{RejectType}
use Rattle.fw_addr.specs.declared.reject.RejectType.TheVariants as rejects
use Rattle.fw_model.specs.declared.binding.Binding.{Binding}
use Rattle.fw_model.specs.declared.binding.Binding.TheVariants as bindings
use Rattle.fw_model.specs.declared.forward.Forward.{Forward}
use Rattle.fw_model.specs.declared.rich.Act.{Act}
use Rattle.fw_model.specs.declared.rich.Act.TheVariants as acts
use Rattle.fw_model.specs.declared.rich.Action.{Action}
use Rattle.fw_model.specs.declared.rich.Element.{Element}
use Rattle.fw_model.specs.declared.rich.Element.TheVariants as elements
use Rattle.fw_model.specs.declared.rich.Rich.{Rich}
use Rattle.fw_model.specs.declared.rich.Side.{Side}
use Rattle.fw_rich.specs.Refusals.{act_fits, acts_itself, aimless_forward, audits_a_verdict, does_one_thing, fits_together, foreign_address, foreign_name, foreign_side, foreign_target, foreign_type, has_address, has_number, has_verdict, is_foreign, is_forward, is_of, is_type_of, is_verdict, is_zero, lacks_family, may_be_for_all, rejects_fit}
use Rattle.fw_rich.specs.Rich.{not_refused, of_family}
use Rattle.fw_rich_law.proofs.Canons.{dest_on, element_on, log_on}
use Rattle.fw_rich_law.proofs.Parts as parts
use Rattle.fw_rich_law.proofs.Pieces.{Piece}
use Rattle.fw_valid.specs.Each.{IfThere}
use Rattle.fw_valid.specs.Riches.{DoesSomething, HasType, IsAudited, IsNoMac, IsOfFamily, IsRich, IsVerdict, IsWhole, MayDo, MayHave, MayName, is_reject_of, number_in}

-- an address of the rule's family
of_its_family : (family : Family) (address : Addr) → IsOfFamily (Some family) address → is_of family address ≡ true
of_its_family families.V4 (addrs.V4 n) is = refl
of_its_family families.V6 (addrs.V6 n) is = refl
of_its_family families.V4 (addrs.V6 n) is = absurd (cc)
of_its_family families.V6 (addrs.V4 n) is = absurd (cc)

named_there : (family : Family) (what : Binding) → MayName (Some family) what → is_foreign family what ≡ false
named_there family (bindings.Net net) is = rw (of_its_family family net.address is) refl
named_there family (bindings.Mac mac) is = refl
named_there family (bindings.Set name) is = refl

has_number_there : (family : Family) (numbers : IcmpNumbers) → IsSome (number_in family numbers) → has_number family numbers ≡ true
has_number_there families.V4 numbers is = is
has_number_there families.V6 numbers is = is

module _ (at place : List Piece → ℕ) where
  -- a net or a forward port has a family
  no_address : (side : Option Side) (rest : List Piece) → IfThere (λ (side : Side). MayName None side.what) side → has_address (parts.source_part at place side rest) ≡ false
  no_address None rest is = refl
  no_address (Some side) rest is = by side.what is
    where
      by : (what : Binding) → MayName None what → let whole : Side = record { not = side.not; what = what } in has_address (parts.source_part at place (Some whole) rest) ≡ false
      by (bindings.Net net) is = absurd (cc)
      by (bindings.Mac mac) is = refl
      by (bindings.Set name) is = refl

  no_forward : (element : Option Element) (rest : List Piece) → IfThere (MayHave None) element → is_forward (parts.element_part at place element rest) ≡ false
  no_forward None rest is = refl
  no_forward (Some (elements.Service name)) rest is = refl
  no_forward (Some (elements.Port port)) rest is = refl
  no_forward (Some (elements.Protocol protocol)) rest is = refl
  no_forward (Some (elements.IcmpBlock name)) rest is = refl
  no_forward (Some (elements.IcmpType name)) rest is = refl
  no_forward (Some elements.Masquerade) rest is = refl
  no_forward (Some (elements.SourcePort port)) rest is = refl
  no_forward (Some (elements.Forward forward)) rest is = absurd (false≢true is.0)

  has_family : (rule : Rich) → IfThere (λ (side : Side). MayName rule.family side.what) rule.source → IfThere (λ (side : Side). MayName rule.family side.what) rule.dest → IfThere (MayHave rule.family) rule.element
      → lacks_family (parts.parts_of_rule at place rule) ≡ false
  unfolding lacks_family
  has_family rule source dest element = by rule.family source dest element
    where
      by : (of : Option Family) → IfThere (λ (side : Side). MayName of side.what) rule.source → IfThere (λ (side : Side). MayName of side.what) rule.dest → IfThere (MayHave of) rule.element
          → let whole = parts.parts_of_rule at place rule in (is_none of && (has_address whole.source || has_address whole.dest || is_forward whole.element)) ≡ false
      by (Some family) source dest element = refl
      by None source dest element =
          rw (no_address rule.source (dest_on rule) source, no_address rule.dest (element_on rule) dest, no_forward rule.element (log_on rule) element) refl

  own_side : (family : Family) (side : Option Side) (rest : List Piece) → IfThere (λ (side : Side). MayName (Some family) side.what) side
      → foreign_side family (parts.source_part at place side rest) side ≡ None
  own_side family None rest is = refl
  own_side family (Some side) rest is = rw (named_there family side.what is) refl

  own_target : (family : Family) (element : Option Element) (rest : List Piece) → IfThere (MayHave (Some family)) element → foreign_target family (parts.element_part at place element rest) element ≡ None
  own_target family None rest is = refl
  own_target family (Some (elements.Service name)) rest is = refl
  own_target family (Some (elements.Port port)) rest is = refl
  own_target family (Some (elements.Protocol protocol)) rest is = refl
  own_target family (Some (elements.IcmpBlock name)) rest is = refl
  own_target family (Some (elements.IcmpType name)) rest is = refl
  own_target family (Some elements.Masquerade) rest is = refl
  own_target family (Some (elements.SourcePort port)) rest is = refl
  own_target family (Some (elements.Forward forward)) rest is = by forward.to_addr is.2
    where
      by : (to_addr : Option Addr) → IfThere (IsOfFamily (Some family)) to_addr → let whole : Forward = record { port = forward.port; to_port = forward.to_port; to_addr = to_addr } in
          foreign_target family (parts.element_part at place (Some (elements.Forward whole)) rest) (Some (elements.Forward whole)) ≡ None
      by None own = refl
      by (Some addr) own = rw (of_its_family family addr own) refl

  own_addresses : (family : Family) (rule : Rich) → IfThere (λ (side : Side). MayName (Some family) side.what) rule.source → IfThere (λ (side : Side). MayName (Some family) side.what) rule.dest
      → IfThere (MayHave (Some family)) rule.element → foreign_address family (parts.parts_of_rule at place rule) rule ≡ None
  unfolding foreign_address
  own_addresses family rule source dest element =
      rw (own_side family rule.source (dest_on rule) source, own_side family rule.dest (element_on rule) dest, own_target family rule.element (log_on rule) element) refl

  own_name : (family : Family) (key name : List ℕ) (rest : List Piece) → HasType (Some family) name → foreign_name family (parts.given at place key name rest) ≡ None
  own_name family key name rest has = rw (has.1, has_number_there family has.0 has.2) refl

  own_type : (family : Family) (element : Option Element) (rest : List Piece) → IfThere (MayHave (Some family)) element → foreign_type family (parts.element_part at place element rest) ≡ None
  unfolding foreign_type
  own_type family None rest is = refl
  own_type family (Some (elements.Service name)) rest is = refl
  own_type family (Some (elements.Port port)) rest is = refl
  own_type family (Some (elements.Protocol protocol)) rest is = refl
  own_type family (Some (elements.IcmpBlock name)) rest is = own_name family (codes "name") name rest is
  own_type family (Some (elements.IcmpType name)) rest is = own_name family (codes "name") name rest is
  own_type family (Some elements.Masquerade) rest is = refl
  own_type family (Some (elements.SourcePort port)) rest is = refl
  own_type family (Some (elements.Forward forward)) rest is = refl

  has_target : (of : Option Family) (element : Option Element) (rest : List Piece) → IfThere (MayHave of) element → aimless_forward (parts.element_part at place element rest) ≡ None
  unfolding aimless_forward
  has_target of None rest is = refl
  has_target of (Some (elements.Service name)) rest is = refl
  has_target of (Some (elements.Port port)) rest is = refl
  has_target of (Some (elements.Protocol protocol)) rest is = refl
  has_target of (Some (elements.IcmpBlock name)) rest is = refl
  has_target of (Some (elements.IcmpType name)) rest is = refl
  has_target of (Some elements.Masquerade) rest is = refl
  has_target of (Some (elements.SourcePort port)) rest is = refl
  has_target of (Some (elements.Forward forward)) rest is = by forward.to_port forward.to_addr is.1
    where
      by : (to_port : Option ℕ) (to_addr : Option Addr) → IsSome to_port ⊎ IsSome to_addr → let whole : Forward = record { port = forward.port; to_port = to_port; to_addr = to_addr } in
          aimless_forward (parts.element_part at place (Some (elements.Forward whole)) rest) ≡ None
      by (Some port) None is = refl
      by (Some port) (Some addr) is = refl
      by None (Some addr) is = refl
      by None None (inl is) = absurd (false≢true is)
      by None None (inr is) = absurd (false≢true is)

-- the parts go together
some_thing : (action log audit : Bool) → (action ≡ true) ⊎ ((log ≡ true) ⊎ (audit ≡ true)) → (action || log || audit) ≡ true
some_thing true log audit is = refl
some_thing false true audit is = refl
some_thing false false true is = refl
some_thing false false false (inl is) = is
some_thing false false false (inr (inl is)) = is
some_thing false false false (inr (inr is)) = is

one_thing : (rule : Rich) → (IsWhole rule.element → IsNone rule.action) → (¬ (IsWhole rule.element) → DoesSomething rule) → does_one_thing rule ≡ true
unfolding does_one_thing
one_thing rule whole other = by rule.element whole other
  where
    alone : IsNone rule.action → is_none rule.action ≡ true
    alone is = rw is refl

    some : DoesSomething rule → (is_some rule.action || is_some rule.log || is_some rule.audit) ≡ true
    some is = some_thing (is_some rule.action) (is_some rule.log) (is_some rule.audit) is

    by : (element : Option Element) → (IsWhole element → IsNone rule.action) → (¬ (IsWhole element) → DoesSomething rule)
        → (if acts_itself element then is_none rule.action else is_some rule.action || is_some rule.log || is_some rule.audit) ≡ true
    by None whole other = some (other (λ is. is))
    by (Some (elements.Service name)) whole other = some (other (λ is. is))
    by (Some (elements.Port port)) whole other = some (other (λ is. is))
    by (Some (elements.Protocol protocol)) whole other = some (other (λ is. is))
    by (Some (elements.IcmpBlock name)) whole other = alone (whole tt)
    by (Some (elements.IcmpType name)) whole other = some (other (λ is. is))
    by (Some elements.Masquerade) whole other = alone (whole tt)
    by (Some (elements.SourcePort port)) whole other = some (other (λ is. is))
    by (Some (elements.Forward forward)) whole other = alone (whole tt)

audited : (audit : Option (Option Limit)) (action : Option Action) → (IsSome audit → IsAudited action) → (is_none audit || has_verdict action) ≡ true
audited None action is = refl
audited (Some limit) None is = absurd (is refl)
audited (Some limit) (Some action) is = by action.act (is refl)
  where
    by : (act : Act) → IsVerdict act → is_verdict act ≡ true
    by acts.Accept is = refl
    by (acts.Reject kind) is = refl
    by acts.Drop is = refl
    by (acts.Mark value mask) is = absurd is

verdict_audited : (rule : Rich) → (IsSome rule.audit → IsAudited rule.action) → audits_a_verdict rule ≡ true
unfolding audits_a_verdict
verdict_audited rule is = audited rule.audit rule.action is

same_types : (family : Family) (kind : RejectType) → is_type_of (Some family) kind ≡ is_reject_of family kind
same_types families.V4 rejects.IcmpNetUnreachable = refl
same_types families.V4 rejects.IcmpHostUnreachable = refl
same_types families.V4 rejects.IcmpPortUnreachable = refl
same_types families.V4 rejects.IcmpProtoUnreachable = refl
same_types families.V4 rejects.IcmpNetProhibited = refl
same_types families.V4 rejects.IcmpHostProhibited = refl
same_types families.V4 rejects.IcmpAdminProhibited = refl
same_types families.V4 rejects.Icmp6NoRoute = refl
same_types families.V4 rejects.Icmp6AddrUnreachable = refl
same_types families.V4 rejects.Icmp6PortUnreachable = refl
same_types families.V4 rejects.Icmp6AdmProhibited = refl
same_types families.V4 rejects.IcmpxAdminProhibited = refl
same_types families.V4 rejects.IcmpxPortUnreachable = refl
same_types families.V4 rejects.TcpReset = refl
same_types families.V6 rejects.IcmpNetUnreachable = refl
same_types families.V6 rejects.IcmpHostUnreachable = refl
same_types families.V6 rejects.IcmpPortUnreachable = refl
same_types families.V6 rejects.IcmpProtoUnreachable = refl
same_types families.V6 rejects.IcmpNetProhibited = refl
same_types families.V6 rejects.IcmpHostProhibited = refl
same_types families.V6 rejects.IcmpAdminProhibited = refl
same_types families.V6 rejects.Icmp6NoRoute = refl
same_types families.V6 rejects.Icmp6AddrUnreachable = refl
same_types families.V6 rejects.Icmp6PortUnreachable = refl
same_types families.V6 rejects.Icmp6AdmProhibited = refl
same_types families.V6 rejects.IcmpxAdminProhibited = refl
same_types families.V6 rejects.IcmpxPortUnreachable = refl
same_types families.V6 rejects.TcpReset = refl

act_fitting : (of : Option Family) (act : Act) → MayDo of act → act_fits of act ≡ true
act_fitting of acts.Accept may = refl
act_fitting of (acts.Reject None) may = refl
act_fitting of (acts.Reject (Some kind)) may = ap (λ family. is_type_of family kind) may.1 ∙ same_types may.0 kind ∙ may.2
act_fitting of acts.Drop may = refl
act_fitting of (acts.Mark value mask) may = refl

types_fit : (of : Option Family) (action : Option Action) → IfThere (λ (action : Action). MayDo of action.act) action → rejects_fit of action ≡ true
unfolding rejects_fit
types_fit of None may = refl
types_fit of (Some action) may = act_fitting of action.act may

not_zero : (priority : ℤ) → priority ≢ pos 0 → is_zero priority ≡ false
not_zero (pos zero) is = absurd (is refl)
not_zero (pos (suc n)) is = ne_eqb (suc n) 0 (λ none. absurd (omega (arith, none)))
not_zero (negsuc n) is = refl

has_place : (rule : Rich) → (IsNone rule.element → IsNone rule.source → IsNone rule.dest → rule.priority ≢ pos 0) → may_be_for_all rule ≡ true
unfolding may_be_for_all
has_place rule is = by (is_some rule.element) (is_some rule.source) (is_some rule.dest) is
  where
    by : (element source dest : Bool) → (element ≡ false → source ≡ false → dest ≡ false → rule.priority ≢ pos 0) → (element || source || dest || not (is_zero rule.priority)) ≡ true
    by true source dest is = refl
    by false true dest is = refl
    by false false true is = refl
    by false false false is = rw (not_zero rule.priority (is refl refl refl)) refl

together_fit : (rule : Rich) → IsRich rule → fits_together rule ≡ true
together_fit rule rich =
    rw (one_thing rule rich.whole_has_no_action rich.other_does_something, verdict_audited rule rich.audit_has_verdict, types_fit rule.family rule.action rich.action_type, has_place rule rich.all_packets_need_priority) refl

named_alone : (of : Option Family) (side : Option Side) → IfThere (λ (side : Side). MayName of side.what × IsNoMac side.what) side → IfThere (λ (side : Side). MayName of side.what) side
named_alone of None is = tt
named_alone of (Some side) is = is.0

pub no_mac : (of : Option Family) (side : Option Side) → IfThere (λ (side : Side). MayName of side.what × IsNoMac side.what) side → IfThere (λ (side : Side). IsNoMac side.what) side
no_mac of None is = tt
no_mac of (Some side) is = is.1

pub accepted : (at place : List Piece → ℕ) (rule : Rich) → IsRich rule → not_refused (parts.parts_of_rule at place rule) rule ≡ Ok tt
unfolding not_refused
accepted at place rule rich =
    let dest = named_alone rule.family rule.dest rich.destination in
    rw (
      has_family at place rule rich.source dest rich.element,
      own_all rule.family rich.source dest rich.element,
      own_types rule.family rich.element,
      has_target at place rule.family rule.element (log_on rule) rich.element,
      together_fit rule rich,
    ) refl
  where
    own_all : (of : Option Family) → IfThere (λ (side : Side). MayName of side.what) rule.source → IfThere (λ (side : Side). MayName of side.what) rule.dest → IfThere (MayHave of) rule.element
        → of_family (λ family. foreign_address family (parts.parts_of_rule at place rule) rule) of ≡ None
    own_all None source dest element = refl
    own_all (Some family) source dest element = own_addresses at place family rule source dest element

    own_types : (of : Option Family) → IfThere (MayHave of) rule.element → of_family (λ family. foreign_type family (parts.element_part at place rule.element (log_on rule))) of ≡ None
    own_types None element = refl
    own_types (Some family) element = own_type at place family rule.element (log_on rule) element

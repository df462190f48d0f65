-- The parts of a rule that isn't refused go together.
use Rattle.std.proofs.Common.{◌≡◌, ◌≢◌, ◌∙◌, ◌⊎◌, inl, inr, ℕ, Bool, true, false, if◌then◌else◌, not, ◌&&◌, ◌||◌, ◌==◌, nat_le, List, [], ◌∷◌, Option, None, Some, Ok, Err, pos, IsSome, IsNone, IsTrue, is_some, is_none, refl, sym, ap, subst, unwrap_or}
use Rattle.std.proofs.lemmas.Bool.{and_parts, both_ways, false≢true, true≢false}
use Rattle.std.specs.List.{list_all}
use Rattle.std.specs.Option.{option_and_then, option_map}
use Rattle.fw_addr.specs.Icmp.{icmp}
use Rattle.fw_addr.specs.declared.addr.Addr.{Addr}
use Rattle.fw_addr.specs.declared.addr.Addr.TheVariants as addrs
use Rattle.fw_addr.specs.declared.icmp.IcmpNumbers.{IcmpNumbers}
use Rattle.fw_addr.specs.declared.limit.Limit.{Limit}
use Rattle.fw_addr.specs.declared.log.Level.{Level}
use Rattle.fw_addr.specs.declared.log.Level.TheVariants.{Warning}
use Rattle.fw_addr.specs.declared.packet.Family.{Family}
use Rattle.fw_addr.specs.declared.packet.Family.TheVariants as families
use Rattle.fw_addr.specs.declared.reject.RejectType.{RejectType}
use Rattle.fw_addr.specs.declared.reject.RejectType.TheVariants as rejects
use Rattle.fw_addr.specs.Subnets.{Subnet}
use Rattle.fw_model.specs.declared.binding.Binding.{Binding}
use Rattle.fw_model.specs.declared.binding.Binding.TheVariants as bindings
use Rattle.fw_model.specs.declared.forward.Forward.{Forward}
use Rattle.fw_model.specs.declared.port.Port.{Port}
use Rattle.fw_model.specs.declared.rich.Act.{Act}
use Rattle.fw_model.specs.declared.rich.Act.TheVariants as acts
use Rattle.fw_model.specs.declared.rich.Action.{Action}
use Rattle.fw_model.specs.declared.rich.Element.{Element}
use Rattle.fw_model.specs.declared.rich.Element.TheVariants as elements
use Rattle.fw_model.specs.declared.rich.Rich.{Rich}
use Rattle.fw_model.specs.declared.rich.RichLog.{RichLog}
use Rattle.fw_model.specs.declared.rich.Side.{Side}
use Rattle.fw_rich.specs.Refusals.{act_fits, acts_itself, aimless_forward, audits_a_verdict, does_one_thing, foreign_name, foreign_side, foreign_target, foreign_type, has_number, has_verdict, is_address, is_foreign, is_forward, is_of, is_type_of, is_verdict, is_zero, lacks_number, may_be_for_all, rejects_fit, without_target}
use Rattle.fw_rich.specs.Rich.{of_family}
use Rattle.fw_rich.specs.Tokens.{Written, is_plain}
use Rattle.fw_rich.specs.Values.{Said, action_of, act_of, audit_of, binding_by, both, element_of, forward_of, icmp_said, ipset_said, level_said, limit_said, log_of, mac_said, maybe, net_said, port_of, prefix_said, proto_said, said_and_then, service_said, side_of, target_of, to_addr_said, to_port_said}
use Rattle.fw_rich.specs.declared.error.BadValue.{BadValue}
use Rattle.fw_rich.specs.declared.parts.ActionParts.{ActionParts}
use Rattle.fw_rich.specs.declared.parts.AuditParts.{AuditParts}
use Rattle.fw_rich.specs.declared.parts.ElementParts.{ElementParts}
use Rattle.fw_rich.specs.declared.parts.ElementParts.TheVariants as part
use Rattle.fw_rich.specs.declared.parts.ForwardParts.{ForwardParts}
use Rattle.fw_rich.specs.declared.parts.LogParts.{LogParts}
use Rattle.fw_rich.specs.declared.parts.SideKey.{SideKey}
use Rattle.fw_rich.specs.declared.parts.SideKey.TheVariants as key
use Rattle.fw_rich.specs.declared.parts.SideParts.{SideParts}
use Rattle.fw_rich_valid.proofs.Plain.{IsPlain}
use Rattle.fw_rich_valid.proofs.Saying.{IsMaybe, icmp_said_known, inner, limit_said_fits, maybe_is, ok, prefix_said_short, said_ok, some_inner}
use Rattle.fw_valid.specs.Each.{IfThere}
use Rattle.fw_valid.specs.Riches.{DoesSomething, HasType, IsAudited, IsLimit, IsNoMac, IsOfFamily, IsVerdict, IsWhole, MayDo, MayHave, MayName, is_prefix, is_reject_of, number_in}

-- an address of the rule's family
is_own : (family : Family) (address : Addr) → is_of family address ≡ true → IsOfFamily (Some family) address
is_own families.V4 (addrs.V4 n) is = refl
is_own families.V4 (addrs.V6 n) is = absurd (false≢true is)
is_own families.V6 (addrs.V4 n) is = absurd (false≢true is)
is_own families.V6 (addrs.V6 n) is = refl

-- where an address that isn't of the rule's family would be refused
abbrev Own : Option Family → (place : ℕ) → Binding → Type 0
Own of place what = of_family (λ family. if is_foreign family what then Some place else None) of ≡ None

net_named : (of : Option Family) (place : ℕ) (net : Subnet) → (is_none of && true) ≡ false → Own of place (bindings.Net net) → IsOfFamily of net.address
net_named None place net lacks own = absurd (true≢false lacks)
net_named (Some family) place net lacks own = by (is_of family net.address) refl own
  where
    by : (is : Bool) → is_of family net.address ≡ is → (if not is then Some place else None) ≡ None → IsOfFamily (Some family) net.address
    by true is own = is_own family net.address is
    by false is own = cc

what_named : (of : Option Family) (kind : SideKey) (value : Written) (what : Binding) (place : ℕ) → binding_by kind value ≡ Ok what → (is_none of && is_address kind) ≡ false → Own of place what → MayName of what
unfolding binding_by
what_named of key.Address value what place is lacks own = by (said_ok _ (net_said value) what is)
  where
    by : ((net : Subnet) × (net_said value ≡ Ok net) × (ok BadValue (bindings.Net net) ≡ Ok what)) → MayName of what
    by found =
        let same = inner (bindings.Net found.0) what found.2 in
        subst (λ (what : Binding). MayName of what) same (net_named of place found.0 lacks (subst (λ (what : Binding). Own of place what) (sym same) own))
what_named of key.Mac value what place is lacks own = by (said_ok _ (mac_said value) what is)
  where
    by : ((mac : ℕ) × (mac_said value ≡ Ok mac) × (ok BadValue (bindings.Mac mac) ≡ Ok what)) → MayName of what
    by found = subst (λ (what : Binding). MayName of what) (inner (bindings.Mac found.0) what found.2) tt
what_named of key.Ipset value what place is lacks own = by (said_ok _ (ipset_said value) what is)
  where
    by : ((set : List ℕ) × (ipset_said value ≡ Ok set) × (ok BadValue (bindings.Set set) ≡ Ok what)) → MayName of what
    by found = subst (λ (what : Binding). MayName of what) (inner (bindings.Set found.0) what found.2) tt

what_no_mac : (kind : SideKey) (value : Written) (what : Binding) → binding_by kind value ≡ Ok what → kind ≢ key.Mac → IsNoMac what
unfolding binding_by
what_no_mac key.Address value what is other = by (said_ok _ (net_said value) what is)
  where
    by : ((net : Subnet) × (net_said value ≡ Ok net) × (ok BadValue (bindings.Net net) ≡ Ok what)) → IsNoMac what
    by found = subst IsNoMac (inner (bindings.Net found.0) what found.2) tt
what_no_mac key.Mac value what is other = absurd (other refl)
what_no_mac key.Ipset value what is other = by (said_ok _ (ipset_said value) what is)
  where
    by : ((set : List ℕ) × (ipset_said value ≡ Ok set) × (ok BadValue (bindings.Set set) ≡ Ok what)) → IsNoMac what
    by found = subst IsNoMac (inner (bindings.Set found.0) what found.2) tt

-- what a side is named by
side_what : (parts : SideParts) (side : Side) → side_of parts ≡ Ok side → binding_by parts.name.key parts.name.value ≡ Ok side.what
unfolding side_of
side_what parts side is = by (said_ok _ (binding_by parts.name.key parts.name.value) side is)
  where
    by : ((what : Binding) × (binding_by parts.name.key parts.name.value ≡ Ok what) × (ok BadValue (record { not = parts.not; what = what }) ≡ Ok side)) → binding_by parts.name.key parts.name.value ≡ Ok side.what
    by found = found.1 ∙ ap (λ (side : Side). ok BadValue side.what) (inner _ side found.2)

abbrev pub has_address : Option SideParts → Bool
has_address None = false
has_address (Some parts) = is_address parts.name.key

pub source_named : (of : Option Family) (parts : Option SideParts) (side : Option Side) → IsMaybe side_of parts side → (is_none of && has_address parts) ≡ false
    → of_family (λ family. foreign_side family parts side) of ≡ None → IfThere (λ (side : Side). MayName of side.what) side
source_named of None None said lacks own = tt
source_named of None (Some side) said lacks own = absurd said
source_named of (Some parts) None said lacks own = absurd said
source_named of (Some parts) (Some side) said lacks own =
    what_named of parts.name.key parts.name.value side.what parts.name.value.place (side_what parts side said) lacks own

pub dest_no_mac : (parts : Option SideParts) (side : Option Side) → IsMaybe side_of parts side → IfThere (λ (parts : SideParts). parts.name.key ≢ key.Mac) parts → IfThere (λ (side : Side). IsNoMac side.what) side
dest_no_mac None None said other = tt
dest_no_mac None (Some side) said other = absurd said
dest_no_mac (Some parts) None said other = absurd said
dest_no_mac (Some parts) (Some side) said other = what_no_mac parts.name.key parts.name.value side.what (side_what parts side said) other

-- ICMP types
in_family : (of : Option Family) (place : ℕ) (numbers : IcmpNumbers) → of_family (λ family. if not (has_number family numbers) then Some place else None) of ≡ None → IfThere (λ family. IsSome (number_in family numbers)) of
in_family None place numbers own = tt
in_family (Some families.V4) place numbers own = by (is_some numbers.v4) refl own
  where
    by : (is : Bool) → is_some numbers.v4 ≡ is → (if not is then Some place else None) ≡ None → IsSome numbers.v4
    by true is own = is
    by false is own = cc
in_family (Some families.V6) place numbers own = by (is_some numbers.v6) refl own
  where
    by : (is : Bool) → is_some numbers.v6 ≡ is → (if not is then Some place else None) ≡ None → IsSome numbers.v6
    by true is own = is
    by false is own = cc

has_type : (of : Option Family) (value : Written) (name : List ℕ) → value.text ≡ name → IsTrue (is_some (icmp value.text)) → of_family (λ family. foreign_name family value) of ≡ None → HasType of name
has_type of value name same known own = subst (λ (name : List ℕ). HasType of name) same (by (icmp value.text) refl known own)
  where
    by : (found : Option IcmpNumbers) → icmp value.text ≡ found → IsTrue (is_some found) → of_family (λ family. if lacks_number family found then Some value.place else None) of ≡ None → HasType of value.text
    by None is known own = absurd (false≢true known)
    by (Some numbers) is known own = (numbers, is, in_family of value.place numbers own)

-- forward ports
both_ok : {X Y : Type 0} (one : Said X) (other : Said Y) (x : X) (y : Y) → both one other ≡ Ok (x, y) → (one ≡ Ok x) × (other ≡ Ok y)
both_ok (Ok a) (Ok b) x y is = let same = inner (a, b) (x, y) is in (ap (λ pair. ok BadValue pair.0) same, ap (λ pair. ok BadValue pair.1) same)
both_ok (Ok a) (Err bad) x y is = cc
both_ok (Err bad) (Ok b) x y is = cc
both_ok (Err bad) (Err worse) x y is = cc

abbrev Target : Option Family → Option ℕ → Option Addr → Type 0
Target of to_port to_addr = IsSome of × (IsSome to_port ⊎ IsSome to_addr) × IfThere (IsOfFamily of) to_addr

there_is : (of : Option Family) → (is_none of && true) ≡ false → IsSome of
there_is None lacks = absurd (true≢false lacks)
there_is (Some family) lacks = refl

target_may : (of : Option Family) (offset : ℕ) (port addr : Option Written) (to_port : Option ℕ) (to_addr : Option Addr) → IsMaybe to_port_said port to_port → IsMaybe to_addr_said addr to_addr → (is_none of && true) ≡ false
    → ((family : Family) (value : Written) (told : Addr) → addr ≡ Some value → to_addr ≡ Some told → of ≡ Some family → is_of family told ≡ true)
    → (if is_none port && is_none addr then Some offset else None) ≡ None → Target of to_port to_addr
target_may of offset None None to_port to_addr port addr lacks own aim = cc
target_may of offset (Some port) addr None to_addr is is' lacks own aim = absurd is
target_may of offset None (Some addr) (Some to_port) to_addr is is' lacks own aim = absurd is
target_may of offset (Some port) None (Some to_port) None is is' lacks own aim = (there_is of lacks, inl refl, tt)
target_may of offset (Some port) None (Some to_port) (Some told) is is' lacks own aim = absurd is'
target_may of offset port (Some value) to_port None is is' lacks own aim = absurd is'
target_may of offset port (Some value) to_port (Some told) is is' lacks own aim = (there_is of lacks, inr refl, by of lacks (λ family same. own family value told refl refl same))
  where
    by : (of : Option Family) → (is_none of && true) ≡ false → ((family : Family) → of ≡ Some family → is_of family told ≡ true) → IsOfFamily of told
    by None lacks own = absurd (true≢false lacks)
    by (Some family) lacks own = is_own family told (own family refl)

forward_may : (of : Option Family) (parts : ForwardParts) (forward : Forward) → forward_of parts ≡ Ok forward → (is_none of && true) ≡ false
    → of_family (λ family. foreign_target family (Some (part.Forward parts)) (Some (elements.Forward forward))) of ≡ None → without_target parts ≡ None → Target of forward.to_port forward.to_addr
unfolding forward_of target_of
forward_may of parts forward is lacks own aim = by (said_ok _ (both (port_of parts.from) (both (maybe to_port_said parts.to_port) (maybe to_addr_said parts.to_addr))) forward is)
  where
    -- where an address to which a port is forwarded would be refused
    target_own : (of : Option Family) (addr : Option Written) (to_addr : Option Addr)
        → of_family (λ family. option_and_then (λ place. option_and_then (λ addr. if is_of family addr then None else Some place) to_addr) (option_map (λ value. value.place) addr)) of ≡ None
        → (family : Family) (value : Written) (told : Addr) → addr ≡ Some value → to_addr ≡ Some told → of ≡ Some family → is_of family told ≡ true
    target_own None addr to_addr own family value told there said same = cc
    target_own (Some one) None to_addr own family value told there said same = cc
    target_own (Some one) (Some here) None own family value told there said same = cc
    target_own (Some one) (Some here) (Some one_told) own family value told there said same = of_it one family one_told told (some_inner one family same) (some_inner one_told told said) (no_place (is_of one one_told) refl own)
      where
        no_place : (is : Bool) → is_of one one_told ≡ is → (if is then None else Some here.place) ≡ None → is_of one one_told ≡ true
        no_place true is own = is
        no_place false is own = cc

        of_it : (one family : Family) (one_told told : Addr) → one ≡ family → one_told ≡ told → is_of one one_told ≡ true → is_of family told ≡ true
        of_it one family one_told told same said is = subst (λ (address : Addr). is_of family address ≡ true) said (subst (λ (family : Family). is_of family one_told ≡ true) same is)

    by : ((said : Port × (Option ℕ × Option Addr)) × (both (port_of parts.from) (both (maybe to_port_said parts.to_port) (maybe to_addr_said parts.to_addr)) ≡ Ok said) × (ok BadValue (record { port = said.0; to_port = said.1.0; to_addr = said.1.1 }) ≡ Ok forward)) → Target of forward.to_port forward.to_addr
    by ((port, (to_port, to_addr)), found, made) =
        let same = inner _ forward made in
        let target = (both_ok (port_of parts.from) (both (maybe to_port_said parts.to_port) (maybe to_addr_said parts.to_addr)) port (to_port, to_addr) found).1 in
        let parts_said = both_ok (maybe to_port_said parts.to_port) (maybe to_addr_said parts.to_addr) to_port to_addr target in
        let own_here = subst (λ (forward : Forward). of_family (λ family. foreign_target family (Some (part.Forward parts)) (Some (elements.Forward forward))) of ≡ None) (sym same) own in
        subst (λ (forward : Forward). Target of forward.to_port forward.to_addr) same
        (target_may of parts.offset parts.to_port parts.to_addr to_port to_addr (maybe_is to_port_said parts.to_port to_port parts_said.0) (maybe_is to_addr_said parts.to_addr to_addr parts_said.1) lacks
        (target_own of parts.to_addr to_addr own_here) aim)

-- elements
element_may : (of : Option Family) (parts : ElementParts) (element : Element) → element_of parts ≡ Ok element → (is_none of && is_forward (Some parts)) ≡ false
    → of_family (λ family. foreign_target family (Some parts) (Some element)) of ≡ None → of_family (λ family. foreign_type family (Some parts)) of ≡ None → aimless_forward (Some parts) ≡ None → MayHave of element
unfolding element_of foreign_type aimless_forward
element_may of (part.Service value) element is lacks own type aim = let found = said_ok _ (service_said value) element is in subst (λ (element : Element). MayHave of element) (inner (elements.Service found.0) element found.2) tt
element_may of (part.Port parts) element is lacks own type aim = let found = said_ok _ (port_of parts) element is in subst (λ (element : Element). MayHave of element) (inner (elements.Port found.0) element found.2) tt
element_may of (part.Protocol value) element is lacks own type aim = let found = said_ok _ (proto_said value) element is in subst (λ (element : Element). MayHave of element) (inner (elements.Protocol found.0) element found.2) tt
element_may of (part.IcmpBlock value) element is lacks own type aim =
    let found = said_ok _ (icmp_said value) element is in
    let known = icmp_said_known value found.0 found.1 in
    subst (λ (element : Element). MayHave of element) (inner (elements.IcmpBlock found.0) element found.2) (has_type of value found.0 known.0 known.1 type)
element_may of (part.IcmpType value) element is lacks own type aim =
    let found = said_ok _ (icmp_said value) element is in
    let known = icmp_said_known value found.0 found.1 in
    subst (λ (element : Element). MayHave of element) (inner (elements.IcmpType found.0) element found.2) (has_type of value found.0 known.0 known.1 type)
element_may of part.Masquerade element is lacks own type aim = subst (λ (element : Element). MayHave of element) (inner elements.Masquerade element is) tt
element_may of (part.SourcePort parts) element is lacks own type aim = let found = said_ok _ (port_of parts) element is in subst (λ (element : Element). MayHave of element) (inner (elements.SourcePort found.0) element found.2) tt
element_may of (part.Forward parts) element is lacks own type aim =
    let found = said_ok _ (forward_of parts) element is in
    let same = inner (elements.Forward found.0) element found.2 in
    let own_here = subst (λ (element : Element). of_family (λ family. foreign_target family (Some (part.Forward parts)) (Some element)) of ≡ None) (sym same) own in
    subst (λ (element : Element). MayHave of element) same (forward_may of parts found.0 found.1 lacks own_here aim)

pub element_fits : (of : Option Family) (parts : Option ElementParts) (element : Option Element) → IsMaybe element_of parts element → (is_none of && is_forward parts) ≡ false
    → of_family (λ family. foreign_target family parts element) of ≡ None → of_family (λ family. foreign_type family parts) of ≡ None → aimless_forward parts ≡ None → IfThere (MayHave of) element
element_fits of None None said lacks own type aim = tt
element_fits of None (Some element) said lacks own type aim = absurd said
element_fits of (Some parts) None said lacks own type aim = absurd said
element_fits of (Some parts) (Some element) said lacks own type aim = element_may of parts element said lacks own type aim

-- limits
limit_there : (value : Option Written) (told : Option Limit) → IsMaybe limit_said value told → IfThere IsLimit told
limit_there None None said = tt
limit_there None (Some limit) said = absurd said
limit_there (Some value) None said = absurd said
limit_there (Some value) (Some limit) said = limit_said_fits value limit said

-- log lines
in_order : (one other last : Bool) → (one && other && last) ≡ true → (one && last && other) ≡ true
in_order true true true is = refl
in_order true true false is = absurd (false≢true is)
in_order true false last is = absurd (false≢true is)
in_order false other last is = absurd (false≢true is)

plain_bytes : (text : List ℕ) → list_all is_plain text ≡ true → list_all (λ byte. nat_le 32 byte && not (byte == 34) && not (byte == 127)) text ≡ true
plain_bytes [] is = refl
plain_bytes (byte ∷ text) is =
    let parts = and_parts (is_plain byte) (list_all is_plain text) is in
    rw (in_order (nat_le 32 byte) (not (byte == 127)) (not (byte == 34)) parts.0, plain_bytes text parts.1) refl

prefix_fits : (value : Option Written) (told : Option (List ℕ)) → IsMaybe prefix_said value told → IfThere IsPlain value → IsTrue (is_prefix (unwrap_or told []))
prefix_fits None None said plain = refl
prefix_fits None (Some text) said plain = absurd said
prefix_fits (Some value) None said plain = absurd said
prefix_fits (Some value) (Some text) said plain =
    let short = prefix_said_short value text said in
    subst (λ (text : List ℕ). IsTrue (is_prefix text)) short.0 (rw (short.1, plain_bytes value.text plain) refl)

pub record IsFitLog (log : RichLog) : Type 0 where
  pub prefix : IsTrue (is_prefix log.prefix)
  pub limit : IfThere IsLimit log.limit

log_is : (parts : LogParts) (log : RichLog) → log_of parts ≡ Ok log → IfThere IsPlain parts.prefix → IsFitLog log
unfolding log_of
log_is parts log is plain = by (said_ok _ (both (maybe prefix_said parts.prefix) (maybe level_said parts.level)) log is)
  where
    made : (prefix : Option (List ℕ)) (level : Option Level) → IsMaybe prefix_said parts.prefix prefix
        → ((limit : Option Limit) × (maybe limit_said parts.limit ≡ Ok limit) × (ok BadValue (record { prefix = unwrap_or prefix []; level = unwrap_or level Warning; limit = limit }) ≡ Ok log)) → IsFitLog log
    made prefix level said found =
        subst IsFitLog (inner _ log found.2) (record { prefix = prefix_fits parts.prefix prefix said plain; limit = limit_there parts.limit found.0 (maybe_is limit_said parts.limit found.0 found.1) })

    by : ((said : Option (List ℕ) × Option Level) × (both (maybe prefix_said parts.prefix) (maybe level_said parts.level) ≡ Ok said)
        × (said_and_then (λ limit. ok BadValue (record { prefix = unwrap_or said.0 []; level = unwrap_or said.1 Warning; limit = limit })) (maybe limit_said parts.limit) ≡ Ok log)) → IsFitLog log
    by ((prefix, level), found, rest) =
        made prefix level (maybe_is prefix_said parts.prefix prefix (both_ok (maybe prefix_said parts.prefix) (maybe level_said parts.level) prefix level found).0)
        (said_ok _ (maybe limit_said parts.limit) log rest)

pub log_fits : (parts : Option LogParts) (log : Option RichLog) → IsMaybe log_of parts log → IfThere (λ (parts : LogParts). IfThere IsPlain parts.prefix) parts → IfThere IsFitLog log
log_fits None None said plain = tt
log_fits None (Some log) said plain = absurd said
log_fits (Some parts) None said plain = absurd said
log_fits (Some parts) (Some log) said plain = log_is parts log said plain

-- audits and actions
pub audit_fits : (parts : Option AuditParts) (audit : Option (Option Limit)) → IsMaybe audit_of parts audit → IfThere (IfThere IsLimit) audit
unfolding audit_of
audit_fits None None said = tt
audit_fits None (Some limit) said = absurd said
audit_fits (Some parts) None said = absurd said
audit_fits (Some parts) (Some limit) said = limit_there parts.limit limit (maybe_is limit_said parts.limit limit said)

action_limit : (parts : ActionParts) (action : Action) → action_of parts ≡ Ok action → IfThere IsLimit action.limit
unfolding action_of
action_limit parts action is =
    let act = said_ok _ (act_of parts.act) action is in
    let limit = said_ok _ (maybe limit_said parts.limit) action act.2 in
    subst (λ (action : Action). IfThere IsLimit action.limit) (inner _ action limit.2) (limit_there parts.limit limit.0 (maybe_is limit_said parts.limit limit.0 limit.1))

pub action_fits : (parts : Option ActionParts) (action : Option Action) → IsMaybe action_of parts action → IfThere (λ (action : Action). IfThere IsLimit action.limit) action
action_fits None None said = tt
action_fits None (Some action) said = absurd said
action_fits (Some parts) None said = absurd said
action_fits (Some parts) (Some action) said = action_limit parts action said

same_types : (family : Family) (kind : RejectType) → is_reject_of family kind ≡ is_type_of (Some family) kind
same_types families.V4 rejects.IcmpNetUnreachable = refl
same_types families.V4 rejects.IcmpHostUnreachable = refl
same_types families.V4 rejects.IcmpPortUnreachable = refl
same_types families.V4 rejects.IcmpProtoUnreachable = refl
same_types families.V4 rejects.IcmpNetProhibited = refl
same_types families.V4 rejects.IcmpHostProhibited = refl
same_types families.V4 rejects.IcmpAdminProhibited = refl
same_types families.V4 rejects.Icmp6NoRoute = refl
same_types families.V4 rejects.Icmp6AddrUnreachable = refl
same_types families.V4 rejects.Icmp6PortUnreachable = refl
same_types families.V4 rejects.Icmp6AdmProhibited = refl
same_types families.V4 rejects.IcmpxAdminProhibited = refl
same_types families.V4 rejects.IcmpxPortUnreachable = refl
same_types families.V4 rejects.TcpReset = refl
same_types families.V6 rejects.IcmpNetUnreachable = refl
same_types families.V6 rejects.IcmpHostUnreachable = refl
same_types families.V6 rejects.IcmpPortUnreachable = refl
same_types families.V6 rejects.IcmpProtoUnreachable = refl
same_types families.V6 rejects.IcmpNetProhibited = refl
same_types families.V6 rejects.IcmpHostProhibited = refl
same_types families.V6 rejects.IcmpAdminProhibited = refl
same_types families.V6 rejects.Icmp6NoRoute = refl
same_types families.V6 rejects.Icmp6AddrUnreachable = refl
same_types families.V6 rejects.Icmp6PortUnreachable = refl
same_types families.V6 rejects.Icmp6AdmProhibited = refl
same_types families.V6 rejects.IcmpxAdminProhibited = refl
same_types families.V6 rejects.IcmpxPortUnreachable = refl
same_types families.V6 rejects.TcpReset = refl

act_may : (of : Option Family) (act : Act) → act_fits of act ≡ true → MayDo of act
act_may of acts.Accept is = tt
act_may of (acts.Reject None) is = tt
act_may None (acts.Reject (Some kind)) is = absurd (false≢true is)
act_may (Some family) (acts.Reject (Some kind)) is = (family, refl, same_types family kind ∙ is)
act_may of acts.Drop is = tt
act_may of (acts.Mark value mask) is = tt

pub types_fit : (of : Option Family) (action : Option Action) → rejects_fit of action ≡ true → IfThere (λ (action : Action). MayDo of action.act) action
unfolding rejects_fit
types_fit of None is = tt
types_fit of (Some action) is = act_may of action.act is

-- what goes together
alone : (action : Option Action) → is_none action ≡ true → IsNone action
alone None is = refl
alone (Some action) is = absurd (false≢true is)

something : (action log audit : Bool) → (action || log || audit) ≡ true → (action ≡ true) ⊎ ((log ≡ true) ⊎ (audit ≡ true))
something true log audit is = inl refl
something false true audit is = inr (inl refl)
something false false true is = inr (inr refl)
something false false false is = absurd (false≢true is)

pub one_thing : (rule : Rich) → does_one_thing rule ≡ true → (IsWhole rule.element → IsNone rule.action) × (¬ (IsWhole rule.element) → DoesSomething rule)
unfolding does_one_thing
one_thing rule is = by rule.element is
  where
    some : (is_some rule.action || is_some rule.log || is_some rule.audit) ≡ true → DoesSomething rule
    some is = something (is_some rule.action) (is_some rule.log) (is_some rule.audit) is

    by : (element : Option Element) → (if acts_itself element then is_none rule.action else is_some rule.action || is_some rule.log || is_some rule.audit) ≡ true
        → (IsWhole element → IsNone rule.action) × (¬ (IsWhole element) → DoesSomething rule)
    by None is = ((λ never. absurd never), (λ other. some is))
    by (Some (elements.Service name)) is = ((λ never. absurd never), (λ other. some is))
    by (Some (elements.Port port)) is = ((λ never. absurd never), (λ other. some is))
    by (Some (elements.Protocol protocol)) is = ((λ never. absurd never), (λ other. some is))
    by (Some (elements.IcmpBlock name)) is = ((λ whole. alone rule.action is), (λ other. absurd (other tt)))
    by (Some (elements.IcmpType name)) is = ((λ never. absurd never), (λ other. some is))
    by (Some elements.Masquerade) is = ((λ whole. alone rule.action is), (λ other. absurd (other tt)))
    by (Some (elements.SourcePort port)) is = ((λ never. absurd never), (λ other. some is))
    by (Some (elements.Forward forward)) is = ((λ whole. alone rule.action is), (λ other. absurd (other tt)))

pub audited : (rule : Rich) → audits_a_verdict rule ≡ true → IsSome rule.audit → IsAudited rule.action
unfolding audits_a_verdict
audited rule is = by rule.audit rule.action is
  where
    verdict : (act : Act) → is_verdict act ≡ true → IsVerdict act
    verdict acts.Accept is = tt
    verdict (acts.Reject kind) is = tt
    verdict acts.Drop is = tt
    verdict (acts.Mark value mask) is = absurd (false≢true is)

    by : (audit : Option (Option Limit)) (action : Option Action) → (is_none audit || has_verdict action) ≡ true → IsSome audit → IsAudited action
    by None action is there = absurd (false≢true there)
    by (Some limit) None is there = absurd (false≢true is)
    by (Some limit) (Some action) is there = verdict action.act is

pub has_place : (rule : Rich) → may_be_for_all rule ≡ true → IsNone rule.element → IsNone rule.source → IsNone rule.dest → rule.priority ≢ pos 0
unfolding may_be_for_all
has_place rule is element source dest = λ same. both_ways (is_zero rule.priority) (by (is_some rule.element) (is_some rule.source) (is_some rule.dest) (is_zero rule.priority) is element source dest) (ap is_zero same)
  where
    by : (element source dest zero : Bool) → (element || source || dest || not zero) ≡ true → element ≡ false → source ≡ false → dest ≡ false → zero ≡ false
    by element source dest false is none none' none'' = refl
    by true source dest true is none none' none'' = absurd (true≢false none)
    by false true dest true is none none' none'' = absurd (true≢false none')
    by false false true true is none none' none'' = absurd (true≢false none'')
    by false false false true is none none' none'' = absurd (false≢true is)

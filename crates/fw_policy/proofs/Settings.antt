-- Settings of policies that can stand between their sides.
use Rattle.std.proofs.Common.{◌≡◌, ◌≢◌, ℕ, ◌⊎◌, inl, inr, Bool, true, false, not, ◌&&◌, ◌||◌, List, [], ◌∷◌, Option, None, Some, IsTrue, refl, sym, subst}
use Rattle.std.specs.Prelude.{IsNone, IsSome, ℤ, pos, negsuc, int_lt, is_none, if◌then◌else◌}
use Rattle.std.specs.Bool.{Decides}
use Rattle.std.specs.Ordering.{int_eq}
use Rattle.std.proofs.Common.{arith}
use Rattle.std.proofs.lemmas.Bool.{both_ways, false≢true}
use Rattle.std.proofs.lemmas.Bool.Decides.{Decides-and, Decides-int_eq, Decides-like, Decides-or}
use Rattle.std.proofs.lemmas.Int.{ints}
use Rattle.fw_addr.specs.declared.addr.Addr.{Addr}
use Rattle.fw_model.specs.declared.forward.Forward.{Forward}
use Rattle.fw_model.specs.declared.rich.Act.{Act}
use Rattle.fw_model.specs.declared.rich.Act.TheVariants as act
use Rattle.fw_model.specs.declared.rich.Action.{Action}
use Rattle.fw_model.specs.declared.rich.Element.{Element}
use Rattle.fw_model.specs.declared.rich.Element.TheVariants as element
use Rattle.fw_model.specs.declared.rich.Rich.{Rich}
use Rattle.fw_model.specs.declared.rules.Rules.{Rules}
use Rattle.fw_policy.specs.Faults.{action_marks, element_fits_egress, fits_egress, forwards_fit, is_bad_priority, is_mark, is_masquerade, marks, masquerades}
use Rattle.fw_policy.specs.Sides.{is_only}
use Rattle.fw_policy.proofs.Members.{all_in, any_in}
use Rattle.fw_policy.proofs.SideTests.{only}
use Rattle.fw_valid.specs.Names.{any, host}
use Rattle.fw_valid.specs.Policies.{Forwards, Marks, Masquerades}
use Rattle.fw_valid.specs.Riches.{IsPriority}
use Rattle.fw_zone.specs.Lists.{IsIn}

pub priority : (number : ℤ) → Decides (not (is_bad_priority number)) (IsPriority number × (number ≢ pos 0))
priority number = by (int_eq number (pos 0)) (int_lt number (negsuc 32767)) (int_lt (pos 32767) number) refl refl refl
  where
    by : (zero low high : Bool) → int_eq number (pos 0) ≡ zero → int_lt number (negsuc 32767) ≡ low → int_lt (pos 32767) number ≡ high
        → Decides (not (zero || (low || high))) (IsPriority number × (number ≢ pos 0))
    by true low high is is' is'' = (λ so. absurd (false≢true so), λ so. absurd (so.1 ((Decides-int_eq number (pos 0)).0 is)))
    by false true high is is' is'' = (λ so. absurd (false≢true so), λ so. let low = so.0.0 in let none_such : ⊥ = omega (arith, ints) in absurd none_such)
    by false false true is is' is'' = (λ so. absurd (false≢true so), λ so. let high = so.0.1 in let none_such : ⊥ = omega (arith, ints) in absurd none_such)
    by false false false is is' is'' =
        (λ so. ((omega (arith, ints), omega (arith, ints)), λ zero. both_ways _ is ((Decides-int_eq number (pos 0)).1 zero)), λ so. refl)

masquerade : (it : Option Element) → Decides (is_masquerade it) (it ≡ Some element.Masquerade)
masquerade None = (λ is. absurd (false≢true is), λ is. cc)
masquerade (Some (element.Service name)) = (λ is. absurd (false≢true is), λ is. cc)
masquerade (Some (element.Port port)) = (λ is. absurd (false≢true is), λ is. cc)
masquerade (Some (element.Protocol protocol)) = (λ is. absurd (false≢true is), λ is. cc)
masquerade (Some (element.IcmpBlock name)) = (λ is. absurd (false≢true is), λ is. cc)
masquerade (Some (element.IcmpType name)) = (λ is. absurd (false≢true is), λ is. cc)
masquerade (Some element.Masquerade) = (λ is. refl, λ is. refl)
masquerade (Some (element.SourcePort port)) = (λ is. absurd (false≢true is), λ is. cc)
masquerade (Some (element.Forward forward)) = (λ is. absurd (false≢true is), λ is. cc)

pub masquerades_decides : (rules : Rules) → Decides (masquerades rules) (Masquerades rules)
masquerades_decides rules =
    Decides-or _ _ ((λ is. is, λ is. is))
    (any_in (λ (rule : Rich). is_masquerade rule.element) (λ (rule : Rich). rule.element ≡ Some element.Masquerade) (λ rule. masquerade rule.element) rules.rich)

-- to the host itself, or to another in any zone
abbrev pub Fits : List (List ℕ) → Forward → Type 0
Fits egress forward = (IsNone forward.to_addr → egress ≡ host ∷ []) × (IsSome forward.to_addr → egress ≡ any ∷ [])

fits : (egress : List (List ℕ)) (forward : Forward) → Decides (fits_egress egress forward) (Fits egress forward)
fits egress forward = by forward.to_addr
  where
    by : (address : Option Addr) → Decides (if is_none address then is_only host egress else is_only any egress) ((IsNone address → egress ≡ host ∷ []) × (IsSome address → egress ≡ any ∷ []))
    by None = Decides-like _ (λ is. (λ none. is, λ some. absurd (false≢true some))) (λ both. both.0 refl) (only host egress)
    by (Some address) = Decides-like _ (λ is. (λ none. absurd (false≢true (sym none)), λ some. is)) (λ both. both.1 refl) (only any egress)

element_fits : (egress : List (List ℕ)) (it : Option Element) → Decides (element_fits_egress egress it) ((forward : Forward) → it ≡ Some (element.Forward forward) → Fits egress forward)
element_fits egress None = (λ so forward is. cc, λ so. refl)
element_fits egress (Some (element.Service name)) = (λ so forward is. cc, λ so. refl)
element_fits egress (Some (element.Port port)) = (λ so forward is. cc, λ so. refl)
element_fits egress (Some (element.Protocol protocol)) = (λ so forward is. cc, λ so. refl)
element_fits egress (Some (element.IcmpBlock name)) = (λ so forward is. cc, λ so. refl)
element_fits egress (Some (element.IcmpType name)) = (λ so forward is. cc, λ so. refl)
element_fits egress (Some element.Masquerade) = (λ so forward is. cc, λ so. refl)
element_fits egress (Some (element.SourcePort port)) = (λ so forward is. cc, λ so. refl)
element_fits egress (Some (element.Forward other)) =
    Decides-like _ (λ so forward is. let same : other ≡ forward = cc in subst (Fits egress) same so) (λ all. all other refl) (fits egress other)

-- all ports that plain settings forward fit, and all that rich rules forward
abbrev Plain : List (List ℕ) → Rules → Type 0
Plain egress rules = (forward : Forward) → IsIn forward rules.forwards → Fits egress forward

abbrev InRich : List (List ℕ) → Rules → Type 0
InRich egress rules =
    (rule : Rich) → IsIn rule rules.rich → (forward : Forward) → rule.element ≡ Some (element.Forward forward) → Fits egress forward

pub forwards_decides : (egress : List (List ℕ)) (rules : Rules) → Decides (forwards_fit egress rules) ((forward : Forward) → Forwards rules forward → Fits egress forward)
forwards_decides egress rules =
    Decides-like _ to from
    (Decides-and _ _ (all_in (fits_egress egress) (Fits egress) (fits egress) rules.forwards)
    (all_in (λ (rule : Rich). element_fits_egress egress rule.element) (λ (rule : Rich). (forward : Forward) → rule.element ≡ Some (element.Forward forward) → Fits egress forward)
    (λ rule. element_fits egress rule.element) rules.rich))
  where
    to : Plain egress rules × InRich egress rules → (forward : Forward) → Forwards rules forward → Fits egress forward
    to both forward (inl plain) = both.0 forward plain
    to both forward (inr rich) = both.1 rich.0 rich.1 forward rich.2

    from : ((forward : Forward) → Forwards rules forward → Fits egress forward) → Plain egress rules × InRich egress rules
    from all = (λ forward plain. all forward (inl plain), λ rule found forward is. all forward (inr (rule, found, is)))

-- an action that marks
abbrev MarksBy : Option Action → Type 0
MarksBy it = (action : Action) × (value : ℕ) × (mask : ℕ) × (it ≡ Some action) × (action.act ≡ act.Mark value mask)

action_decides : (it : Option Action) → Decides (action_marks it) (MarksBy it)
action_decides None = (λ is. absurd (false≢true is), λ so. let no = so.3 in cc)
action_decides (Some action) = by action.act refl
  where
    by : (done : Act) → action.act ≡ done → Decides (is_mark done) (MarksBy (Some action))
    by act.Accept is = (λ so. absurd (false≢true so), λ so. let first = so.3 in let second = so.4 in cc)
    by (act.Reject type) is = (λ so. absurd (false≢true so), λ so. let first = so.3 in let second = so.4 in cc)
    by act.Drop is = (λ so. absurd (false≢true so), λ so. let first = so.3 in let second = so.4 in cc)
    by (act.Mark value mask) is = (λ so. (action, value, mask, refl, is), λ so. refl)

pub marks_decides : (rules : Rules) → Decides (marks rules) (Marks rules)
marks_decides rules =
    Decides-like _ (λ found. (found.0, found.2.0, found.2.1, found.2.2, found.1, found.2.3, found.2.4))
    (λ found. (found.0, found.4, (found.1, found.2, found.3, found.5, found.6)))
    (any_in (λ (rule : Rich). action_marks rule.action) (λ (rule : Rich). MarksBy rule.action) (λ rule. action_decides rule.action) rules.rich)

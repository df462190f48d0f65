-- What the parts and the values of a rule say, where none is refused.
use Rattle.std.proofs.Common.{◌≡◌, ◌≢◌, ℕ, zero, suc, ◌≤◌, ◌==◌, nat_le, Bool, true, false, if◌then◌else◌, List, [], ◌∷◌, length, Option, None, Some, Result, Ok, Err, ℤ, pos, neg_ℤ, IsTrue, is_some, refl, subst, arith, unwrap_or}
use Rattle.std.proofs.lemmas.Bool.{eqb-false, leb-true}
use Rattle.std.proofs.lemmas.Int.{ints}
use Rattle.std.specs.List.{before_first, after_first}
use Rattle.std.specs.Option.{ok_or, option_and_then, option_map}
use Rattle.fw_addr.specs.Icmp.{icmp}
use Rattle.fw_addr.specs.declared.limit.Limit.{Limit}
use Rattle.fw_limit.specs.Limits.{above_zero, count, is_slash, limit, units}
use Rattle.fw_model.specs.declared.rich.Rich.{Rich}
use Rattle.fw_rich.specs.Names.{icmp_name, prefix}
use Rattle.fw_rich.specs.Numbers.{priority}
use Rattle.fw_rich.specs.Numbers as numbers
use Rattle.fw_rich.specs.Tokens.{Written}
use Rattle.fw_rich.specs.Values.{Said, action_of, audit_of, element_of, icmp_said, limit_said, log_of, maybe, prefix_said, priority_of, priority_said, rule_of, said_and_then, side_of}
use Rattle.fw_rich.specs.declared.error.BadValue.{BadValue}
use Rattle.fw_rich.specs.declared.parts.RuleParts.{RuleParts}
use Rattle.fw_text.specs.Names.{named}
use Rattle.fw_text.specs.Number.{at_most, number, number_to}
use Rattle.fw_valid.specs.Riches.{IsLimit, IsPriority}

abbrev pub ok : {X : Type 0} → (E : Type 0) → X → Result X E
ok E x = Ok x

pub inner : {X E : Type 0} (x y : X) → ok E x ≡ ok E y → x ≡ y
inner x y is = cc

pub some_inner : {X : Type 0} (x y : X) → Some x ≡ Some y → x ≡ y
some_inner x y is = cc

-- the first step said something, of which the second made what is said
pub said_ok : {X Y : Type 0} (next : X → Said Y) (step : Said X) (y : Y) → said_and_then next step ≡ Ok y → (x : X) × (step ≡ Ok x) × (next x ≡ Ok y)
said_ok next (Ok x) y is = (x, refl, is)
said_ok next (Err bad) y is = cc

pub some_then : {X Y : Type 0} (next : X → Option Y) (found : Option X) (y : Y) → option_and_then next found ≡ Some y → (x : X) × (found ≡ Some x) × (next x ≡ Some y)
some_then next None y is = cc
some_then next (Some x) y is = (x, refl, is)

pub some_mapped : {X Y : Type 0} (of : X → Y) (found : Option X) (y : Y) → option_map of found ≡ Some y → (x : X) × (found ≡ Some x) × (of x ≡ y)
some_mapped of None y is = cc
some_mapped of (Some x) y is = (x, refl, some_inner (of x) y is)

pub ok_found : {X E : Type 0} (found : Option X) (error : E) (x : X) → ok_or found error ≡ Ok x → found ≡ Some x
ok_found None error x is = cc
ok_found (Some one) error x is = cc

-- an absent part says nothing, and another says what it says
module _ {X Y : Type 0} (reading : X → Said Y) where
  abbrev IsStep : Said Y → Option Y → Type 0
  IsStep step None = ⊥
  IsStep step (Some y) = step ≡ Ok y

  abbrev pub IsMaybe : Option X → Option Y → Type 0
  IsMaybe None None = Unit {0}
  IsMaybe None (Some y) = ⊥
  IsMaybe (Some x) value = IsStep (reading x) value

  step_is : (step : Said Y) (value : Option Y) → said_and_then (λ y. Ok (Some y)) step ≡ Ok value → IsStep step value
  step_is (Ok y) None is = cc
  step_is (Ok y) (Some other) is = cc
  step_is (Err bad) None is = cc
  step_is (Err bad) (Some other) is = cc

  pub maybe_is : (found : Option X) (value : Option Y) → maybe reading found ≡ Ok value → IsMaybe found value
  maybe_is None None is = tt
  maybe_is None (Some y) is = cc
  maybe_is (Some x) value is = step_is (reading x) value is

-- what is said of each part
pub record AreSaid (parts : RuleParts) (rule : Rich) : Type 0 where
  pub priority : priority_of parts.priority ≡ Ok rule.priority
  pub family : parts.family ≡ rule.family
  pub source : IsMaybe side_of parts.source rule.source
  pub dest : IsMaybe side_of parts.dest rule.dest
  pub element : IsMaybe element_of parts.element rule.element
  pub log : IsMaybe log_of parts.log rule.log
  pub audit : IsMaybe audit_of parts.audit rule.audit
  pub action : IsMaybe action_of parts.action rule.action

pub all_said : (parts : RuleParts) (rule : Rich) → rule_of parts ≡ Ok rule → AreSaid parts rule
unfolding rule_of
all_said parts rule is =
    let one = said_ok _ (priority_of parts.priority) rule is in
    let two = said_ok _ (maybe side_of parts.source) rule one.2 in
    let three = said_ok _ (maybe side_of parts.dest) rule two.2 in
    let four = said_ok _ (maybe element_of parts.element) rule three.2 in
    let five = said_ok _ (maybe log_of parts.log) rule four.2 in
    let six = said_ok _ (maybe audit_of parts.audit) rule five.2 in
    let seven = said_ok _ (maybe action_of parts.action) rule six.2 in
    let same = inner _ rule seven.2 in
    record {
      priority = subst (λ (told : Rich). priority_of parts.priority ≡ Ok told.priority) same one.1;
      family = subst (λ (told : Rich). parts.family ≡ told.family) same refl;
      source = subst (λ (told : Rich). IsMaybe side_of parts.source told.source) same (maybe_is side_of parts.source two.0 two.1);
      dest = subst (λ (told : Rich). IsMaybe side_of parts.dest told.dest) same (maybe_is side_of parts.dest three.0 three.1);
      element = subst (λ (told : Rich). IsMaybe element_of parts.element told.element) same (maybe_is element_of parts.element four.0 four.1);
      log = subst (λ (told : Rich). IsMaybe log_of parts.log told.log) same (maybe_is log_of parts.log five.0 five.1);
      audit = subst (λ (told : Rich). IsMaybe audit_of parts.audit told.audit) same (maybe_is audit_of parts.audit six.0 six.1);
      action = subst (λ (told : Rich). IsMaybe action_of parts.action told.action) same (maybe_is action_of parts.action seven.0 seven.1);
    }

-- a number is within its bound
pub within : (most : ℕ) (text : List ℕ) (n : ℕ) → number_to most text ≡ Some n → n ≤ most
within most text n is = by (some_then (at_most most) (number text) n is)
  where
    holds : (least : ℕ) (fits : Bool) → nat_le least most ≡ fits → (if fits then Some least else None) ≡ Some n → n ≤ most
    holds least true fits is = subst (λ (it : ℕ). it ≤ most) (some_inner least n is) (leb-true least most fits)
    holds least false fits is = cc

    by : ((x : ℕ) × (number text ≡ Some x) × (at_most most x ≡ Some n)) → n ≤ most
    by found = holds found.0 (nat_le found.0 most) refl found.2

not_none : (n m : ℕ) → (if n == 0 then None else Some n) ≡ Some m → (n ≡ m) × (n ≢ 0)
not_none n m is = by (n == 0) refl is
  where
    by : (none : Bool) → (n == 0) ≡ none → (if none then None else Some n) ≡ Some m → (n ≡ m) × (n ≢ 0)
    by true is found = cc
    by false is found = (some_inner n m found, eqb-false n 0 is)

pub count_fits : (text : List ℕ) (n : ℕ) → count text ≡ Some n → (1 ≤ n) × (n ≤ 10000)
count_fits text n is = by (some_then above_zero (number_to 10000 text) n is)
  where
    by : ((x : ℕ) × (number_to 10000 text ≡ Some x) × (above_zero x ≡ Some n)) → (1 ≤ n) × (n ≤ 10000)
    by found =
        let same = not_none found.0 n found.2 in
        let most = within 10000 text found.0 found.1 in
        let below : n ≤ 10000 = subst (λ (it : ℕ). it ≤ 10000) same.0 most in
        let above : n ≢ 0 = subst (λ (it : ℕ). it ≢ 0) same.0 same.1 in
        (positive n above, below)
      where
        positive : (n : ℕ) → n ≢ 0 → 1 ≤ n
        positive zero not = absurd (not refl)
        positive (suc n) not = omega arith

pub limit_fits : (text : List ℕ) (told : Limit) → limit text ≡ Some told → IsLimit told
limit_fits text told is =
    let times = some_then _ (count (before_first is_slash text)) told is in
    let unit = some_then _ (named units (after_first is_slash text)) told times.2 in
    subst IsLimit (some_inner _ told unit.2) (count_fits (before_first is_slash text) times.0 times.1)

pub limit_said_fits : (value : Written) (told : Limit) → limit_said value ≡ Ok told → IsLimit told
unfolding limit_said
limit_said_fits value told is = limit_fits value.text told (ok_found (limit value.text) _ told is)

-- priorities
priority_fits : (text : List ℕ) (told : ℤ) → priority text ≡ Some told → IsPriority told
unfolding priority
priority_fits [] told is = cc
priority_fits (byte ∷ text) told is = by (byte == 45) is
  where
    negative : (n : ℕ) → n ≤ 32768 → n ≢ 0 → IsPriority (neg_ℤ (pos n))
    negative zero most not = absurd (not refl)
    negative (suc n) most not = (omega (arith, ints), omega (arith, ints))

    below : ((x : ℕ) × (option_and_then numbers.above_zero (number_to 32768 text) ≡ Some x) × (neg_ℤ (pos x) ≡ told)) → IsPriority told
    below found = with_number (some_then numbers.above_zero (number_to 32768 text) found.0 found.1)
      where
        with_number : ((n : ℕ) × (number_to 32768 text ≡ Some n) × (numbers.above_zero n ≡ Some found.0)) → IsPriority told
        with_number number =
            let same = not_none number.0 found.0 number.2 in
            let most : found.0 ≤ 32768 = subst (λ (it : ℕ). it ≤ 32768) same.0 (within 32768 text number.0 number.1) in
            let not : found.0 ≢ 0 = subst (λ (it : ℕ). it ≢ 0) same.0 same.1 in
            subst IsPriority found.2 (negative found.0 most not)

    above : ((x : ℕ) × (number_to 32767 (byte ∷ text) ≡ Some x) × (pos x ≡ told)) → IsPriority told
    above found =
        let most = within 32767 (byte ∷ text) found.0 found.1 in
        let fits : IsPriority (pos found.0) = (omega (arith, ints), omega (arith, ints)) in
        subst IsPriority found.2 fits

    by : (minus : Bool) → (if minus then option_map (λ n. neg_ℤ (pos n)) (option_and_then numbers.above_zero (number_to 32768 text)) else option_map pos (number_to 32767 (byte ∷ text))) ≡ Some told → IsPriority told
    by true found = below (some_mapped (λ n. neg_ℤ (pos n)) (option_and_then numbers.above_zero (number_to 32768 text)) told found)
    by false found = above (some_mapped pos (number_to 32767 (byte ∷ text)) told found)

priority_said_fits : (value : Written) (told : ℤ) → priority_said value ≡ Ok told → IsPriority told
unfolding priority_said
priority_said_fits value told is = priority_fits value.text told (ok_found (priority value.text) _ told is)

pub priority_of_fits : (value : Option Written) (told : ℤ) → priority_of value ≡ Ok told → IsPriority told
unfolding priority_of
priority_of_fits value told is = with_said (said_ok _ (maybe priority_said value) told is)
  where
    by : (value : Option Written) (found : Option ℤ) → IsMaybe priority_said value found → IsPriority (unwrap_or found (pos 0))
    by None None said = (omega (arith, ints), omega (arith, ints))
    by None (Some told) said = absurd said
    by (Some value) None said = absurd said
    by (Some value) (Some told) said = priority_said_fits value told said

    with_said : ((found : Option ℤ) × (maybe priority_said value ≡ Ok found) × (ok BadValue (unwrap_or found (pos 0)) ≡ Ok told)) → IsPriority told
    with_said found = subst IsPriority (inner (unwrap_or found.0 (pos 0)) told found.2) (by value found.0 (maybe_is priority_said value found.0 found.1))

-- names and texts
pub icmp_said_known : (value : Written) (name : List ℕ) → icmp_said value ≡ Ok name → (value.text ≡ name) × IsTrue (is_some (icmp value.text))
unfolding icmp_said icmp_name
icmp_said_known value name is = by (is_some (icmp value.text)) refl (ok_found (icmp_name value.text) _ name is)
  where
    by : (known : Bool) → is_some (icmp value.text) ≡ known → (if known then Some value.text else None) ≡ Some name → (value.text ≡ name) × IsTrue known
    by true is found = (some_inner value.text name found, refl)
    by false is found = cc

pub prefix_said_short : (value : Written) (text : List ℕ) → prefix_said value ≡ Ok text → (value.text ≡ text) × IsTrue (nat_le (length value.text) 127)
unfolding prefix_said prefix
prefix_said_short value text is = by (nat_le (length value.text) 127) refl (ok_found (prefix value.text) _ text is)
  where
    by : (short : Bool) → nat_le (length value.text) 127 ≡ short → (if short then Some value.text else None) ≡ Some text → (value.text ≡ text) × IsTrue short
    by true is found = (some_inner value.text text found, refl)
    by false is found = cc

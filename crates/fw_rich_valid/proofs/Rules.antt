-- What is read of the text of a rich rule is a rule.
use Rattle.std.proofs.Common.{◌≡◌, ℕ, Bool, true, false, ◌&&◌, ◌||◌, List, length, Option, None, Some, Ok, Err, is_none, refl, subst}
use Rattle.std.proofs.lemmas.Bool.{false≢true, true≢false}
use Rattle.std.specs.Option.{option_or}
use Rattle.fw_addr.specs.declared.packet.Family.{Family}
use Rattle.fw_model.specs.declared.code.Code.{Code}
use Rattle.fw_model.specs.declared.code.Code.TheVariants.{InvalidAddr, InvalidForward, InvalidIcmptype}
use Rattle.fw_model.specs.declared.rich.Rich.{Rich}
use Rattle.fw_model.specs.declared.rich.Side.{Side}
use Rattle.fw_rich.specs.Grammar as grammar
use Rattle.fw_rich.specs.Reading.{Parsed}
use Rattle.fw_rich.specs.Refusals.{aimless_forward, audits_a_verdict, does_one_thing, fits_together, foreign_address, foreign_side, foreign_target, foreign_type, has_address, is_forward, lacks_family, may_be_for_all, rejects_fit}
use Rattle.fw_rich.specs.Rich.{Refusable, not_refused, of_family, parsed, parts_of, rich_text, said, together, unless_refused, with_family, without}
use Rattle.fw_rich.specs.Tokens.{tokens}
use Rattle.fw_rich.specs.Values.{Said, rule_of}
use Rattle.fw_rich.specs.declared.parts.RuleParts.{RuleParts}
use Rattle.fw_rich_valid.proofs.Fitting.{IsFitLog, action_fits, audit_fits, audited, dest_no_mac, element_fits, has_place, log_fits, one_thing, source_named, types_fit}
use Rattle.fw_rich_valid.proofs.Given.{AreGiven, GivenBy, rule_gives}
use Rattle.fw_rich_valid.proofs.Plain.{tokens_fair}
use Rattle.fw_rich_valid.proofs.Saying.{AreSaid, all_said, priority_of_fits}
use Rattle.fw_valid.specs.Each.{IfThere}
use Rattle.fw_valid.specs.Riches.{IsNoMac, IsRich, MayName}

-- the first step gave something, of which the second made what there is
then_ok : {X Y : Type 0} (next : X → Refusable Y) (step : Refusable X) (y : Y) → unless_refused next step ≡ Ok y → (x : X) × (step ≡ Ok x) × (next x ≡ Ok y)
then_ok next (Ok x) y is = (x, refl, is)
then_ok next (Err refusal) y is = cc

said_is : (told : Said Rich) (rule : Rich) → said told ≡ Ok rule → told ≡ Ok rule
said_is (Ok one) rule is = cc
said_is (Err bad) rule is = cc

given_parts : (size : ℕ) (told : Parsed RuleParts) (parts : RuleParts) → parsed size told ≡ Ok parts → GivenBy AreGiven told → AreGiven parts
given_parts size (Ok (one, rest)) parts is given = let same : one ≡ parts = cc in subst AreGiven same given.0
given_parts size (Err stop) parts is given = cc

family_there : (lacks : Bool) → with_family lacks ≡ Ok tt → lacks ≡ false
family_there true is = cc
family_there false is = refl

no_place : (code : Code) (place : Option ℕ) → without code place ≡ Ok tt → place ≡ None
no_place code None is = refl
no_place code (Some place) is = cc

fit_together : (fits : Bool) → together fits ≡ Ok tt → fits ≡ true
fit_together true is = refl
fit_together false is = cc

record AreFree (parts : RuleParts) (rule : Rich) : Type 0 where
  family : lacks_family parts ≡ false
  addresses : of_family (λ family. foreign_address family parts rule) rule.family ≡ None
  types : of_family (λ family. foreign_type family parts.element) rule.family ≡ None
  targets : aimless_forward parts.element ≡ None
  fits : fits_together rule ≡ true

-- nothing of the rule is refused
all_free : (parts : RuleParts) (rule : Rich) → not_refused parts rule ≡ Ok tt → AreFree parts rule
unfolding not_refused
all_free parts rule is =
    let one = then_ok _ (with_family (lacks_family parts)) tt is in
    let two = then_ok _ (without InvalidAddr (of_family (λ family. foreign_address family parts rule) rule.family)) tt one.2 in
    let three = then_ok _ (without InvalidIcmptype (of_family (λ family. foreign_type family parts.element) rule.family)) tt two.2 in
    let four = then_ok _ (without InvalidForward (aimless_forward parts.element)) tt three.2 in
    record {
      family = family_there (lacks_family parts) one.1;
      addresses = no_place InvalidAddr (of_family (λ family. foreign_address family parts rule) rule.family) two.1;
      types = no_place InvalidIcmptype (of_family (λ family. foreign_type family parts.element) rule.family) three.1;
      targets = no_place InvalidForward (aimless_forward parts.element) four.1;
      fits = fit_together (fits_together rule) four.2;
    }

each_of_three : (none one other last : Bool) → (none && (one || other || last)) ≡ false → ((none && one) ≡ false) × (((none && other) ≡ false) × ((none && last) ≡ false))
each_of_three false one other last is = (refl, (refl, refl))
each_of_three true false false false is = (refl, (refl, refl))
each_of_three true true other last is = absurd (true≢false is)
each_of_three true false true last is = absurd (true≢false is)
each_of_three true false false true is = absurd (true≢false is)

none_of_three : (one other last : Option ℕ) → option_or one (option_or other last) ≡ None → (one ≡ None) × ((other ≡ None) × (last ≡ None))
none_of_three None None None is = (refl, (refl, refl))
none_of_three (Some place) other last is = cc
none_of_three None (Some place) last is = cc
none_of_three None None (Some place) is = cc

four_hold : (one two three four : Bool) → (one && two && three && four) ≡ true → (one ≡ true) × ((two ≡ true) × ((three ≡ true) × (four ≡ true)))
four_hold true true true true is = (refl, (refl, (refl, refl)))
four_hold true true true false is = absurd (false≢true is)
four_hold true true false four is = absurd (false≢true is)
four_hold true false three four is = absurd (false≢true is)
four_hold false two three four is = absurd (false≢true is)

-- each address is of the rule's family
own_addresses : (of : Option Family) (parts : RuleParts) (rule : Rich) → of_family (λ family. foreign_address family parts rule) of ≡ None
    → (of_family (λ family. foreign_side family parts.source rule.source) of ≡ None)
    × ((of_family (λ family. foreign_side family parts.dest rule.dest) of ≡ None) × (of_family (λ family. foreign_target family parts.element rule.element) of ≡ None))
unfolding foreign_address
own_addresses None parts rule is = (refl, (refl, refl))
own_addresses (Some family) parts rule is = none_of_three (foreign_side family parts.source rule.source) (foreign_side family parts.dest rule.dest) (foreign_target family parts.element rule.element) is

both_there : {A : Type 0} (P Q : A → Type 0) (found : Option A) → IfThere P found → IfThere Q found → IfThere (λ value. P value × Q value) found
both_there P Q None one other = tt
both_there P Q (Some value) one other = (one, other)

there_weaker : {A : Type 0} (P Q : A → Type 0) (found : Option A) → ((value : A) → P value → Q value) → IfThere P found → IfThere Q found
there_weaker P Q None so is = tt
there_weaker P Q (Some value) so is = so value is

put_together : (parts : RuleParts) (rule : Rich) → AreGiven parts → AreSaid parts rule → AreFree parts rule → IsRich rule
unfolding lacks_family
put_together parts rule given told free =
    let lacks = subst (λ (of : Option Family). (is_none of && (has_address parts.source || has_address parts.dest || is_forward parts.element)) ≡ false) told.family free.family in
    let families = each_of_three (is_none rule.family) (has_address parts.source) (has_address parts.dest) (is_forward parts.element) lacks in
    let own = own_addresses rule.family parts rule free.addresses in
    let fits = four_hold (does_one_thing rule) (audits_a_verdict rule) (rejects_fit rule.family rule.action) (may_be_for_all rule) free.fits in
    let thing = one_thing rule fits.0 in
    let lines = log_fits parts.log rule.log told.log given.plain in
    record {
      priority = priority_of_fits parts.priority rule.priority told.priority;
      source = source_named rule.family parts.source rule.source told.source families.0 own.0;
      destination =
          both_there (λ (side : Side). MayName rule.family side.what) (λ (side : Side). IsNoMac side.what) rule.dest
          (source_named rule.family parts.dest rule.dest told.dest families.1.0 own.1.0) (dest_no_mac parts.dest rule.dest told.dest given.no_mac);
      element = element_fits rule.family parts.element rule.element told.element families.1.1 own.1.1 free.types free.targets;
      log_prefix = there_weaker IsFitLog _ rule.log (λ log is. is.prefix) lines;
      log_limit = there_weaker IsFitLog _ rule.log (λ log is. is.limit) lines;
      audit_limit = audit_fits parts.audit rule.audit told.audit;
      action_limit = action_fits parts.action rule.action told.action;
      action_type = types_fit rule.family rule.action fits.1.1.0;
      whole_has_no_action = thing.0;
      other_does_something = thing.1;
      audit_has_verdict = audited rule fits.1.0;
      all_packets_need_priority = has_place rule fits.1.1.1;
    }

pub said_is_rich : (text : List ℕ) (rule : Rich) → rich_text text ≡ Ok rule → IsRich rule
unfolding rich_text parts_of
said_is_rich text rule is =
    let read = then_ok _ (parsed (length text) (grammar.rule (tokens text))) rule is in
    let told = then_ok _ (said (rule_of read.0)) rule read.2 in
    let last = then_ok _ (not_refused read.0 told.0) rule told.2 in
    let same : told.0 ≡ rule = cc in
    let given = given_parts (length text) (grammar.rule (tokens text)) read.0 read.1 (rule_gives (tokens text) (tokens_fair (length text) (length text) text)) in
    subst IsRich same (put_together read.0 told.0 given (all_said read.0 told.0 (said_is (rule_of read.0) told.0 told.1)) (all_free read.0 told.0 last.1))

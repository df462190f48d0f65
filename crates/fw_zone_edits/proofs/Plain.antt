-- What the edits of a list of settings did, as relations say it and as tests do.
use Rattle.std.proofs.Common.{◌≡◌, ◌↔◌, Bool, true, false, ◌||◌, List, [], ◌∷◌, Result, Ok, Err, IsTrue, IsErr, OnOk, OnErr, refl, sym, ap, ◌∙◌, nat_eq}
use Rattle.std.specs.Bool.{Decides}
use Rattle.std.specs.Str.{bytes_eq}
use Rattle.std.proofs.lemmas.Bool.{false_from_ne_true}
use Rattle.std.proofs.lemmas.Bool.Decides.{not_from_Decides}
use Rattle.fw_model.specs.declared.rules.Rules.{Rules}
use Rattle.fw_model.specs.declared.setting.Setting.{Setting}
use Rattle.fw_model.specs.declared.setting.Setting.TheVariants as setting
use Rattle.fw_model.specs.declared.zone.Zone.{Zone}
use Rattle.fw_zone.specs.Settings.{Has, IsWithout, with_setting}
use Rattle.fw_zone.specs.declared.settings.AddError.{AddError}
use Rattle.fw_zone.specs.declared.settings.AddError.TheVariants as add
use Rattle.fw_zone.specs.declared.settings.NotEnabled.{NotEnabled}
use Rattle.fw_act.specs.Acts.{Edits}
use Rattle.fw_answer.proofs.Equality as equality
use Rattle.fw_answer.proofs.Items.{is_in_decides, removed_is_without}
use Rattle.fw_answer.proofs.Rules.{same_rules}
use Rattle.fw_answer.specs.Equal.{same_port, same_rule}
use Rattle.fw_answer.specs.Lists.{is_in, without}
use Rattle.fw_zone_edits.proofs.Forwards.{same_forwards}
use Rattle.fw_zone_edits.specs.Settings.{added, has, removed, same_forward, without_setting}
use Rattle.fw_zone_edits.specs.Settled.{settled_add, settled_remove}

itself : (b : Bool) → Decides b (IsTrue b)
itself true = (λ is. refl, λ is. refl)
itself false = (λ is. cc, λ is. cc)

-- whether a setting is there
pub has_decides : (rules : Rules) (one : Setting) → Decides (has rules one) (Has rules one)
unfolding has
has_decides rules (setting.Service name) = is_in_decides bytes_eq equality.texts name rules.services
has_decides rules (setting.Port port) = is_in_decides same_port equality.ports port rules.ports
has_decides rules (setting.Protocol protocol) = is_in_decides nat_eq equality.numbers protocol rules.protocols
has_decides rules (setting.SourcePort port) = is_in_decides same_port equality.ports port rules.source_ports
has_decides rules (setting.IcmpBlock name) = is_in_decides bytes_eq equality.texts name rules.icmp_blocks
has_decides rules setting.Masquerade = itself rules.masquerade
has_decides rules (setting.Forward forward) = is_in_decides same_forward same_forwards forward rules.forwards
has_decides rules (setting.Rich rule) = is_in_decides same_rule same_rules rule rules.rich

pub not_there : (rules : Rules) (one : Setting) → ¬ (Has rules one) → has rules one ≡ false
not_there rules one absent = false_from_ne_true (has rules one) (λ there. absent ((has_decides rules one).0 there))

pub there : (rules : Rules) (one : Setting) → Has rules one → has rules one ≡ true
there rules one = (has_decides rules one).1

pub has_is : (rules : Rules) (one : Setting) (result : Bool) → (IsTrue result ↔ Has rules one) → result ≡ has rules one
has_is rules one true is = sym (there rules one (is.0 refl))
has_is rules one false is = sym (not_there rules one (λ found. let impossible = is.1 found in cc))

-- a setting less
pub without_is : (old new : Rules) (one : Setting) → IsWithout old one new → new ≡ without_setting old one
without_is old new (setting.Service name) (left, gone, is) =
    is ∙ ap (λ items. record old { services = items }) (removed_is_without bytes_eq equality.texts name old.services left gone)
without_is old new (setting.Port port) (left, gone, is) =
    is ∙ ap (λ items. record old { ports = items }) (removed_is_without same_port equality.ports port old.ports left gone)
without_is old new (setting.Protocol protocol) (left, gone, is) =
    is ∙ ap (λ items. record old { protocols = items }) (removed_is_without nat_eq equality.numbers protocol old.protocols left gone)
without_is old new (setting.SourcePort port) (left, gone, is) =
    is ∙ ap (λ items. record old { source_ports = items }) (removed_is_without same_port equality.ports port old.source_ports left gone)
without_is old new (setting.IcmpBlock name) (left, gone, is) =
    is ∙ ap (λ items. record old { icmp_blocks = items }) (removed_is_without bytes_eq equality.texts name old.icmp_blocks left gone)
without_is old new setting.Masquerade is = is
without_is old new (setting.Forward forward) (left, gone, is) =
    is ∙ ap (λ items. record old { forwards = items }) (removed_is_without same_forward same_forwards forward old.forwards left gone)
without_is old new (setting.Rich rule) (left, gone, is) =
    is ∙ ap (λ items. record old { rich = items }) (removed_is_without same_rule same_rules rule old.rich left gone)

-- a list without an item that isn't in it
absent_by : {A : Type 0} (same : A → A → Bool) (item first : A) (others : List A) (b : Bool) → same first item ≡ b → (b || is_in same item others) ≡ false → (is_in same item others ≡ false → without same item others ≡ others)
    → without same item (first ∷ others) ≡ first ∷ others
absent_by same item first others true here is rest = cc
absent_by same item first others false here is rest = rw here (ap (λ items. first ∷ items) (rest is))

without_absent : {A : Type 0} (same : A → A → Bool) (item : A) (items : List A) → is_in same item items ≡ false → without same item items ≡ items
without_absent same item [] is = refl
without_absent same item (first ∷ others) is =
    absent_by same item first others (same first item) refl is (without_absent same item others)

not_masked : (rules : Rules) (b : Bool) → rules.masquerade ≡ b → b ≡ false → record rules { masquerade = false } ≡ rules
not_masked rules b is no_mask = λ i. record rules { masquerade = sym (is ∙ no_mask) i }

-- the settings without one that isn't there
pub without_none : (rules : Rules) (one : Setting) → has rules one ≡ false → without_setting rules one ≡ rules
unfolding has
without_none rules (setting.Service name) is = ap (λ items. record rules { services = items }) (without_absent bytes_eq name rules.services is)
without_none rules (setting.Port port) is = ap (λ items. record rules { ports = items }) (without_absent same_port port rules.ports is)
without_none rules (setting.Protocol protocol) is = ap (λ items. record rules { protocols = items }) (without_absent nat_eq protocol rules.protocols is)
without_none rules (setting.SourcePort port) is = ap (λ items. record rules { source_ports = items }) (without_absent same_port port rules.source_ports is)
without_none rules (setting.IcmpBlock name) is = ap (λ items. record rules { icmp_blocks = items }) (without_absent bytes_eq name rules.icmp_blocks is)
without_none rules setting.Masquerade is = not_masked rules rules.masquerade refl is
without_none rules (setting.Forward forward) is = ap (λ items. record rules { forwards = items }) (without_absent same_forward forward rules.forwards is)
without_none rules (setting.Rich rule) is = ap (λ items. record rules { rich = items }) (without_absent same_rule rule rules.rich is)

-- what a removal leaves, if it's refused or not
pub left_out : (old new : Rules) (one : Setting) (result : Result (Unit {0}) NotEnabled)
    → OnOk result (IsWithout old one new)
    → (IsErr result ↔ (¬ (Has old one)))
    → OnErr result (new ≡ old)
    → new ≡ without_setting old one
left_out old new one (Ok done) gone absent kept = without_is old new one gone
left_out old new one (Err error) gone absent kept = kept ∙ sym (without_none old one (not_there old one (absent.0 refl)))

true_from : (b : Bool) → ¬ (b ≡ false) → b ≡ true
true_from true differs = refl
true_from false differs = absurd (differs refl)

abbrev with_rules : Zone → Rules → Zone
with_rules zone rules = record zone { rules = rules }

-- what an edit did that adds a setting
pub add_edits : (zone : Zone) (new : Rules) (one : Setting) (result : Result (Unit {0}) AddError)
    → OnOk result (new ≡ with_setting zone.rules one)
    → ((result ≡ Err add.AlreadyEnabled) ↔ Has zone.rules one)
    → OnErr result (new ≡ zone.rules)
    → Edits zone (with_rules zone new) (settled_add result) (added zone one)
add_edits zone new one (Ok done) made already kept =
    let absent : ¬ (Has zone.rules one) = λ has_it. let no_error = already.1 has_it in cc in
    rw (not_there zone.rules one absent) (ap (λ rules. Ok (with_rules zone rules)) (sym made))
add_edits zone new one (Err add.AlreadyEnabled) made already kept =
    (rw (there zone.rules one (already.0 refl)) refl, ap (with_rules zone) kept)
add_edits zone new one (Err add.Memory) made already kept = ap (with_rules zone) kept

-- what an edit did that removes a setting
pub remove_edits : (zone : Zone) (new : Rules) (one : Setting) (result : Result (Unit {0}) NotEnabled)
    → OnOk result (IsWithout zone.rules one new)
    → (IsErr result ↔ (¬ (Has zone.rules one)))
    → OnErr result (new ≡ zone.rules)
    → Edits zone (with_rules zone new) (settled_remove result) (removed zone one)
remove_edits zone new one (Ok done) gone absent kept =
    let has_it : has zone.rules one ≡ true = true_from (has zone.rules one)
    (λ none_there. let is_err = absent.1 (λ found. not_from_Decides (has zone.rules one) (has_decides zone.rules one) none_there found) in cc) in
    rw has_it (ap (λ rules. Ok (with_rules zone rules)) (sym (without_is zone.rules new one gone)))
remove_edits zone new one (Err error) gone absent kept =
    (rw (not_there zone.rules one (absent.0 refl)) refl, ap (with_rules zone) kept)

-- an edit that isn't made keeps what holds then
pub add_kept : (P : Type 0) (result : Result (Unit {0}) AddError) → OnErr result P → OnErr (settled_add result) P
add_kept P (Ok done) kept = kept
add_kept P (Err add.AlreadyEnabled) kept = kept
add_kept P (Err add.Memory) kept = kept

pub remove_kept : (P : Type 0) (result : Result (Unit {0}) NotEnabled) → OnErr result P → OnErr (settled_remove result) P
remove_kept P (Ok done) kept = kept
remove_kept P (Err error) kept = kept

pub rules_kept : {E : Type 0} (zone : Zone) (new : Rules) (result : Result (Unit {0}) E) → OnErr result (new ≡ zone.rules) → OnErr result (with_rules zone new ≡ zone)
rules_kept zone new (Ok done) kept = kept
rules_kept zone new (Err error) kept = ap (with_rules zone) kept

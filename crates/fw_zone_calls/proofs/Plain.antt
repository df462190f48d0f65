-- What the edits of a list of settings did, as relations say it and as tests do.
use Rattle.std.proofs.Common.{◌≡◌, ℕ, ◌↔◌, Bool, true, false, List, Result, Ok, Err, IsTrue, IsErr, OnOk, OnErr, refl, sym, ap, ◌∙◌, subst, nat_eq}
use Rattle.std.specs.Bool.{Decides}
use Rattle.std.specs.Str.{bytes_eq}
use Rattle.std.proofs.lemmas.Bool.{false_from_ne_true}
use Rattle.std.proofs.lemmas.Bool.Decides.{not_from_Decides}
use Rattle.fw_model.specs.declared.code.Code.TheVariants as code
use Rattle.fw_model.specs.declared.rules.Rules.{Rules}
use Rattle.fw_zone.specs.Settings.{Has, IsWithout, with_setting}
use Rattle.fw_model.specs.declared.setting.Setting.{Setting}
use Rattle.fw_zone.specs.declared.settings.AddError.{AddError}
use Rattle.fw_zone.specs.declared.settings.AddError.TheVariants as add
use Rattle.fw_zone.specs.declared.settings.NotEnabled.{NotEnabled}
use Rattle.fw_answer.proofs.Equality as equality
use Rattle.fw_answer.proofs.Items.{is_in_decides, removed_is_without}
use Rattle.fw_answer.proofs.Rules.{same_rules}
use Rattle.fw_answer.specs.Equal.{same_port, same_rule}
use Rattle.fw_answer.specs.Refusals.{Edits}
use Rattle.fw_zone_calls.specs.Settings.{added, has, removed, whole, with_one, without_one}
use Rattle.fw_zone_calls.specs.Settled.{settled_add, settled_remove}
use Rattle.fw_zone_calls.specs.declared.setting.PlainSetting.{PlainSetting}
use Rattle.fw_zone_calls.specs.declared.setting.PlainSetting.TheVariants as plain

-- whether a setting is there
pub has_decides : (rules : Rules) (setting : PlainSetting) → Decides (has rules setting) (Has rules (whole setting))
has_decides rules (plain.Port port) = is_in_decides same_port equality.ports port rules.ports
has_decides rules (plain.SourcePort port) = is_in_decides same_port equality.ports port rules.source_ports
has_decides rules (plain.Protocol protocol) = is_in_decides nat_eq equality.numbers protocol rules.protocols
has_decides rules (plain.IcmpBlock name) = is_in_decides bytes_eq equality.texts name rules.icmp_blocks
has_decides rules (plain.Service name) = is_in_decides bytes_eq equality.texts name rules.services
has_decides rules (plain.Rich rule) = is_in_decides same_rule same_rules rule rules.rich

pub has_is : (rules : Rules) (setting : PlainSetting) (result : Bool) → (IsTrue result ↔ Has rules (whole setting)) → result ≡ has rules setting
has_is rules setting true is = sym ((has_decides rules setting).1 (is.0 refl))
has_is rules setting false is = sym (false_from_ne_true (has rules setting) (λ there. let impossible = is.1 ((has_decides rules setting).0 there) in cc))

pub not_there : (rules : Rules) (setting : PlainSetting) → ¬ (Has rules (whole setting)) → has rules setting ≡ false
not_there rules setting absent = false_from_ne_true (has rules setting) (λ there. absent ((has_decides rules setting).0 there))

pub there : (rules : Rules) (setting : PlainSetting) → Has rules (whole setting) → has rules setting ≡ true
there rules setting = (has_decides rules setting).1

-- a setting more
pub with_is : (rules : Rules) (setting : PlainSetting) → with_setting rules (whole setting) ≡ with_one rules setting
with_is rules (plain.Port port) = refl
with_is rules (plain.SourcePort port) = refl
with_is rules (plain.Protocol protocol) = refl
with_is rules (plain.IcmpBlock name) = refl
with_is rules (plain.Service name) = refl
with_is rules (plain.Rich rule) = refl

-- a setting less
pub without_is : (old new : Rules) (setting : PlainSetting) → IsWithout old (whole setting) new → new ≡ without_one old setting
without_is old new (plain.Port port) (left, gone, is) =
    is ∙ ap (λ items. record old { ports = items }) (removed_is_without same_port equality.ports port old.ports left gone)
without_is old new (plain.SourcePort port) (left, gone, is) =
    is ∙ ap (λ items. record old { source_ports = items }) (removed_is_without same_port equality.ports port old.source_ports left gone)
without_is old new (plain.Protocol protocol) (left, gone, is) =
    is ∙ ap (λ items. record old { protocols = items }) (removed_is_without nat_eq equality.numbers protocol old.protocols left gone)
without_is old new (plain.IcmpBlock name) (left, gone, is) =
    is ∙ ap (λ items. record old { icmp_blocks = items }) (removed_is_without bytes_eq equality.texts name old.icmp_blocks left gone)
without_is old new (plain.Service name) (left, gone, is) =
    is ∙ ap (λ items. record old { services = items }) (removed_is_without bytes_eq equality.texts name old.services left gone)
without_is old new (plain.Rich rule) (left, gone, is) =
    is ∙ ap (λ items. record old { rich = items }) (removed_is_without same_rule same_rules rule old.rich left gone)

true_from : (b : Bool) → ¬ (b ≡ false) → b ≡ true
true_from true differs = refl
true_from false differs = absurd (differs refl)

-- what an edit did that adds a setting
pub add_edits : (old new : Rules) (setting : PlainSetting) (meant : Setting) (result : Result (Unit {0}) AddError) → meant ≡ whole setting
    → OnOk result (new ≡ with_setting old meant)
    → ((result ≡ Err add.AlreadyEnabled) ↔ Has old meant)
    → OnErr result (new ≡ old)
    → Edits old new (settled_add result) (added old setting)
add_edits old new setting meant (Ok done) is made already kept =
    let absent : ¬ (Has old (whole setting)) = λ has_it. let no_error = already.1 (subst (λ m. Has old m) (sym is) has_it) in cc in
    rw (not_there old setting absent) (ap Ok (sym (made ∙ ap (λ m. with_setting old m) is ∙ with_is old setting)))
add_edits old new setting meant (Err add.AlreadyEnabled) is made already kept =
    (rw (there old setting (subst (λ m. Has old m) is (already.0 refl))) refl, kept)
add_edits old new setting meant (Err add.Memory) is made already kept = kept

-- what an edit did that removes a setting
pub remove_edits : (old new : Rules) (setting : PlainSetting) (meant : Setting) (result : Result (Unit {0}) NotEnabled) → meant ≡ whole setting
    → OnOk result (IsWithout old meant new)
    → (IsErr result ↔ (¬ (Has old meant)))
    → OnErr result (new ≡ old)
    → Edits old new (settled_remove result) (removed old setting)
remove_edits old new setting meant (Ok done) is gone absent kept =
    let has_it : has old setting ≡ true = true_from (has old setting)
    (λ none_there. let is_err = absent.1 (λ there. not_from_Decides (has old setting) (has_decides old setting) none_there (subst (λ m. Has old m) is there)) in cc) in
    rw has_it (ap Ok (sym (without_is old new setting (subst (λ m. IsWithout old m new) is gone))))
remove_edits old new setting meant (Err error) is gone absent kept =
    (rw (not_there old setting (λ there. absent.0 refl (subst (λ m. Has old m) (sym is) there))) refl, kept)

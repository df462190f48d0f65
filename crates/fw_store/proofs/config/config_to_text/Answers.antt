-- What is written has no float and doesn't nest deep, so its text is known and is read back.
use Rattle.std.proofs.Common.{◌≡◌, ◌≤◌, Some, false, sym, ap, subst, ◌∙◌, arith}
use Rattle.fw_store.specs.Objects.{config_data}
use Rattle.fw_store.proofs.Plain.{IsPlain, config_plain}
use Rattle.serde_json.specs.Data.{depth}
use Rattle.serde_json.specs.Read.{max_depth}
use Rattle.serde_json.specs.View.{view}
use Rattle.serde_json.specs.Written.{compact_text, has_float}
use Rattle.fw_store.proofs.config.config_to_text.Goals as goal

pub returns-clause-text : goal.returns-clause-text
returns-clause-text c =
    let same : view c.in_ok-value.value ≡ config_data c.args.config.now = c.in_ok-value.ensures in
    c.in_ok-to_vec.ensures.text (ap has_float same ∙ (config_plain c.args.config.now).whole) ∙ ap compact_text same

pub returns-clause-read_back : goal.returns-clause-read_back
returns-clause-read_back c =
    let same : view c.in_ok-value.value ≡ config_data c.args.config.now = c.in_ok-value.ensures in
    let shallow : depth (config_data c.args.config.now) ≤ 5 = (config_plain c.args.config.now).shallow in
    let deep : depth (config_data c.args.config.now) ≤ max_depth = omega (arith, shallow) in
    c.in_ok-to_vec.ensures.reads_back (subst (λ value. depth value ≤ max_depth) (sym same) deep) ∙ ap Some same

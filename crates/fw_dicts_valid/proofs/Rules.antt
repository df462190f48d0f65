-- Settings that a dict says fit.
use Rattle.std.proofs.Common.{◌≡◌, ℕ, List, [], ◌∷◌, Option, None, Some, Result, Ok, subst}
use Rattle.fw_calls.specs.declared.reply.Refusal.{Refusal}
use Rattle.fw_dicts.specs.Keys.{Fields}
use Rattle.fw_dicts.specs.Lists.{lists_told, row_key, row_setting, rows_in, rows_told, rules_told, text_key, text_setting, texts_in, texts_told, with_all, with_masquerade, with_new, without_rows, without_texts}
use Rattle.fw_dicts.specs.Values.{rows_at, texts_at}
use Rattle.fw_dicts.specs.declared.lists.RowList.{RowList}
use Rattle.fw_dicts.specs.declared.lists.RowList.TheVariants as rows
use Rattle.fw_dicts.specs.declared.lists.TextList.{TextList}
use Rattle.fw_dicts.specs.declared.lists.TextList.TheVariants as texts
use Rattle.fw_dicts.specs.declared.shape.Owner.{Owner}
use Rattle.fw_dicts_valid.proofs.Added.{new_fits}
use Rattle.fw_dicts_valid.proofs.Reading.{row_fits, text_fits}
use Rattle.fw_dicts_valid.proofs.Steps.{inner, then_ok}
use Rattle.fw_dicts_valid.specs.Settings.{IsFitSetting}
use Rattle.fw_model.specs.declared.config.Config.{Config}
use Rattle.fw_model.specs.declared.rules.Rules.{Rules}
use Rattle.fw_model.specs.declared.setting.Setting.{Setting}
use Rattle.fw_valid_edits.specs.Fit.{AreFit}

-- elements come one after another
all_fit : {E : Type 0} (config : Config) (read : E → Result Setting Refusal) (rules told : Rules) (elements : List E) → ((element : E) (new : Setting) → read element ≡ Ok new → IsFitSetting config new)
    → AreFit config rules → with_all read rules elements ≡ Ok told → AreFit config told
all_fit config read rules told [] reads fit is = subst (AreFit config) (inner rules told is) fit
all_fit config read rules told (element ∷ elements) reads fit is =
    let new = then_ok _ (read element) told is in
    all_fit config read (with_new rules new.0) told elements reads (new_fits config rules new.0 fit (reads element new.0 new.1)) new.2

-- an emptied list
no_texts : (config : Config) (list : TextList) (rules : Rules) → AreFit config rules → AreFit config (without_texts list rules)
no_texts config texts.Services rules fit = record {
  known = record { services = tt; icmp_types = fit.known.icmp_types; rich_services = fit.known.rich_services; rich_icmp_types = fit.known.rich_icmp_types };
  sets = fit.sets;
  once = record { services = tt; ports = fit.once.ports; protocols = fit.once.protocols; source_ports = fit.once.source_ports; icmp_blocks = fit.once.icmp_blocks; forwards = fit.once.forwards; rich = fit.once.rich };
  written = record { rich_rules = fit.written.rich_rules; forward_ports = fit.written.forward_ports };
}
no_texts config texts.Protocols rules fit = record {
  known = record { services = fit.known.services; icmp_types = fit.known.icmp_types; rich_services = fit.known.rich_services; rich_icmp_types = fit.known.rich_icmp_types };
  sets = fit.sets;
  once = record { services = fit.once.services; ports = fit.once.ports; protocols = tt; source_ports = fit.once.source_ports; icmp_blocks = fit.once.icmp_blocks; forwards = fit.once.forwards; rich = fit.once.rich };
  written = record { rich_rules = fit.written.rich_rules; forward_ports = fit.written.forward_ports };
}
no_texts config texts.IcmpBlocks rules fit = record {
  known = record { services = fit.known.services; icmp_types = tt; rich_services = fit.known.rich_services; rich_icmp_types = fit.known.rich_icmp_types };
  sets = fit.sets;
  once = record { services = fit.once.services; ports = fit.once.ports; protocols = fit.once.protocols; source_ports = fit.once.source_ports; icmp_blocks = tt; forwards = fit.once.forwards; rich = fit.once.rich };
  written = record { rich_rules = fit.written.rich_rules; forward_ports = fit.written.forward_ports };
}
no_texts config texts.RichRules rules fit = record {
  known = record { services = fit.known.services; icmp_types = fit.known.icmp_types; rich_services = λ one name there named. absurd there; rich_icmp_types = λ one name there named. absurd there };
  sets = λ one name there named. absurd there;
  once = record { services = fit.once.services; ports = fit.once.ports; protocols = fit.once.protocols; source_ports = fit.once.source_ports; icmp_blocks = fit.once.icmp_blocks; forwards = fit.once.forwards; rich = tt };
  written = record { rich_rules = tt; forward_ports = fit.written.forward_ports };
}

no_rows : (config : Config) (list : RowList) (rules : Rules) → AreFit config rules → AreFit config (without_rows list rules)
no_rows config rows.Ports rules fit = record {
  known = record { services = fit.known.services; icmp_types = fit.known.icmp_types; rich_services = fit.known.rich_services; rich_icmp_types = fit.known.rich_icmp_types };
  sets = fit.sets;
  once = record { services = fit.once.services; ports = tt; protocols = fit.once.protocols; source_ports = fit.once.source_ports; icmp_blocks = fit.once.icmp_blocks; forwards = fit.once.forwards; rich = fit.once.rich };
  written = record { rich_rules = fit.written.rich_rules; forward_ports = fit.written.forward_ports };
}
no_rows config rows.SourcePorts rules fit = record {
  known = record { services = fit.known.services; icmp_types = fit.known.icmp_types; rich_services = fit.known.rich_services; rich_icmp_types = fit.known.rich_icmp_types };
  sets = fit.sets;
  once = record { services = fit.once.services; ports = fit.once.ports; protocols = fit.once.protocols; source_ports = tt; icmp_blocks = fit.once.icmp_blocks; forwards = fit.once.forwards; rich = fit.once.rich };
  written = record { rich_rules = fit.written.rich_rules; forward_ports = fit.written.forward_ports };
}
no_rows config rows.ForwardPorts rules fit = record {
  known = record { services = fit.known.services; icmp_types = fit.known.icmp_types; rich_services = fit.known.rich_services; rich_icmp_types = fit.known.rich_icmp_types };
  sets = fit.sets;
  once = record { services = fit.once.services; ports = fit.once.ports; protocols = fit.once.protocols; source_ports = fit.once.source_ports; icmp_blocks = fit.once.icmp_blocks; forwards = tt; rich = fit.once.rich };
  written = record { rich_rules = fit.written.rich_rules; forward_ports = tt };
}

texts_fit : (config : Config) (owner : Owner) (fields : Fields) (list : TextList) (rules told : Rules) → AreFit config rules → texts_told config owner fields list rules ≡ Ok told → AreFit config told
unfolding texts_told
texts_fit config owner fields list rules told fit is = by (texts_at fields (text_key owner list)) is
  where
    by : (found : Option (List (List ℕ))) → texts_in config list rules found ≡ Ok told → AreFit config told
    by None is = subst (AreFit config) (inner rules told is) fit
    by (Some elements) is = all_fit config (text_setting config list) (without_texts list rules) told elements (text_fits config list) (no_texts config list rules fit) is

rows_fit : (config : Config) (fields : Fields) (list : RowList) (rules told : Rules) → AreFit config rules → rows_told fields list rules ≡ Ok told → AreFit config told
unfolding rows_told
rows_fit config fields list rules told fit is = by (rows_at fields (row_key list)) is
  where
    by : (found : Option (List (List (List ℕ)))) → rows_in list rules found ≡ Ok told → AreFit config told
    by None is = subst (AreFit config) (inner rules told is) fit
    by (Some elements) is = all_fit config (row_setting list) (without_rows list rules) told elements (row_fits config list) (no_rows config list rules fit) is

masquerade_fits : (config : Config) (fields : Fields) (rules : Rules) → AreFit config rules → AreFit config (with_masquerade fields rules)
masquerade_fits config fields rules fit = record {
  known = record { services = fit.known.services; icmp_types = fit.known.icmp_types; rich_services = fit.known.rich_services; rich_icmp_types = fit.known.rich_icmp_types };
  sets = fit.sets;
  once = record { services = fit.once.services; ports = fit.once.ports; protocols = fit.once.protocols; source_ports = fit.once.source_ports; icmp_blocks = fit.once.icmp_blocks; forwards = fit.once.forwards; rich = fit.once.rich };
  written = record { rich_rules = fit.written.rich_rules; forward_ports = fit.written.forward_ports };
}

pub told_fit : (config : Config) (owner : Owner) (fields : Fields) (rules told : Rules) → AreFit config rules → rules_told config owner fields rules ≡ Ok told → AreFit config told
unfolding rules_told lists_told
told_fit config owner fields rules told fit is =
    let one = then_ok _ (texts_told config owner fields texts.Services (with_masquerade fields rules)) told is in
    let two = then_ok _ (rows_told fields rows.Ports one.0) told one.2 in
    let three = then_ok _ (texts_told config owner fields texts.Protocols two.0) told two.2 in
    let four = then_ok _ (rows_told fields rows.SourcePorts three.0) told three.2 in
    let five = then_ok _ (texts_told config owner fields texts.IcmpBlocks four.0) told four.2 in
    let six = then_ok _ (rows_told fields rows.ForwardPorts five.0) told five.2 in
    let fit1 = texts_fit config owner fields texts.Services (with_masquerade fields rules) one.0 (masquerade_fits config fields rules fit) one.1 in
    let fit2 = rows_fit config fields rows.Ports one.0 two.0 fit1 two.1 in
    let fit3 = texts_fit config owner fields texts.Protocols two.0 three.0 fit2 three.1 in
    let fit4 = rows_fit config fields rows.SourcePorts three.0 four.0 fit3 four.1 in
    let fit5 = texts_fit config owner fields texts.IcmpBlocks four.0 five.0 fit4 five.1 in
    let fit6 = rows_fit config fields rows.ForwardPorts five.0 six.0 fit5 six.1 in
    texts_fit config owner fields texts.RichRules six.0 told fit6 six.2

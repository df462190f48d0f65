-- The settings that zones and policies have alike, as their dicts list them (firewalld.dbus(5), `getZoneSettings2`). An element is read
-- as the arguments of `addService`, `addPort` and their kin are.
use Rattle.std.specs.Prelude.{ℕ, Bool, if◌then◌else◌, codes, get_or, List, [], ◌∷◌, Option, None, Some, Result, Ok}
use Rattle.std.specs.Option.{unwrap_or}
use Rattle.fw_act.specs.Acts.{◌>>=◌}
use Rattle.fw_addr.specs.Protocols.{proto}
use Rattle.fw_calls.specs.declared.reply.Refusal.{Refusal}
use Rattle.fw_dicts.specs.Keys.{Fields}
use Rattle.fw_dicts.specs.Values.{flag_at, rows_at, texts_at}
use Rattle.fw_dicts.specs.declared.lists.RowList.{RowList}
use Rattle.fw_dicts.specs.declared.lists.RowList.TheVariants as rows
use Rattle.fw_dicts.specs.declared.lists.TextList.{TextList}
use Rattle.fw_dicts.specs.declared.lists.TextList.TheVariants as texts
use Rattle.fw_dicts.specs.declared.shape.Owner.{Owner}
use Rattle.fw_dicts.specs.declared.shape.Owner.TheVariants as owner
use Rattle.fw_model.specs.declared.config.Config.{Config}
use Rattle.fw_model.specs.declared.rules.Rules.{Rules}
use Rattle.fw_model.specs.declared.setting.Setting.{Setting}
use Rattle.fw_model.specs.declared.setting.Setting.TheVariants as setting
use Rattle.fw_zone.specs.Settings.{with_setting}
use Rattle.fw_zone_edits.specs.Settings.{has}
use Rattle.fw_zone_members.specs.Reading.{forward_of, icmp_of, port_of, protocol_from, service_of}
use Rattle.fw_zone_members.specs.RichRules.{rule_of}

-- the setting that a text says, or its refusal
unfoldable pub text_setting : Config → TextList → (text : List ℕ) → Result Setting Refusal
text_setting config texts.Services text = service_of config.services text
text_setting config texts.Protocols text = protocol_from text (proto text)
text_setting config texts.IcmpBlocks text = icmp_of text
text_setting config texts.RichRules text = do
  rule ← rule_of config text
  Ok (setting.Rich rule)

-- the text at a place of a row
abbrev pub cell : List (List ℕ) → (place : ℕ) → List ℕ
cell row place = get_or row place []

-- the setting that a row says, or its refusal
unfoldable pub row_setting : RowList → (row : List (List ℕ)) → Result Setting Refusal
row_setting rows.Ports row = do
  port ← port_of (cell row 0) (cell row 1)
  Ok (setting.Port port)
row_setting rows.SourcePorts row = do
  port ← port_of (cell row 0) (cell row 1)
  Ok (setting.SourcePort port)
row_setting rows.ForwardPorts row = do
  forward ← forward_of (cell row 0) (cell row 1) (cell row 2) (cell row 3)
  Ok (setting.Forward forward)

-- a setting more, unless it is there
unfoldable pub with_new : Rules → Setting → Rules
with_new rules setting = if has rules setting then rules else with_setting rules setting

-- the settings that elements say come one after another; or the first refusal
abbrev pub with_all : {E : Type 0} → (E → Result Setting Refusal) → Rules → List E → Result Rules Refusal
with_all read rules [] = Ok rules
with_all read rules (element ∷ elements) = do
  setting ← read element
  with_all read (with_new rules setting) elements

-- a list without its elements
abbrev pub without_texts : TextList → Rules → Rules
without_texts texts.Services rules = record rules { services = [] }
without_texts texts.Protocols rules = record rules { protocols = [] }
without_texts texts.IcmpBlocks rules = record rules { icmp_blocks = [] }
without_texts texts.RichRules rules = record rules { rich = [] }

abbrev pub without_rows : RowList → Rules → Rules
without_rows rows.Ports rules = record rules { ports = [] }
without_rows rows.SourcePorts rules = record rules { source_ports = [] }
without_rows rows.ForwardPorts rules = record rules { forwards = [] }

-- other elements of a list; where its key is absent, they stay
abbrev pub texts_in : Config → TextList → Rules → Option (List (List ℕ)) → Result Rules Refusal
texts_in config list rules None = Ok rules
texts_in config list rules (Some elements) = with_all (text_setting config list) (without_texts list rules) elements

abbrev pub rows_in : RowList → Rules → Option (List (List (List ℕ))) → Result Rules Refusal
rows_in list rules None = Ok rules
rows_in list rules (Some elements) = with_all (row_setting list) (without_rows list rules) elements

-- the key of rich rules is another one in policies
abbrev pub rich_key : Owner → List ℕ
rich_key owner.Zone = codes "rules_str"
rich_key owner.Policy = codes "rich_rules"

abbrev pub text_key : Owner → TextList → List ℕ
text_key owner texts.Services = codes "services"
text_key owner texts.Protocols = codes "protocols"
text_key owner texts.IcmpBlocks = codes "icmp_blocks"
text_key owner texts.RichRules = rich_key owner

abbrev pub row_key : RowList → List ℕ
row_key rows.Ports = codes "ports"
row_key rows.SourcePorts = codes "source_ports"
row_key rows.ForwardPorts = codes "forward_ports"

unfoldable pub texts_told : Config → Owner → Fields → TextList → Rules → Result Rules Refusal
texts_told config owner fields list rules = texts_in config list rules (texts_at fields (text_key owner list))

unfoldable pub rows_told : Fields → RowList → Rules → Result Rules Refusal
rows_told fields list rules = rows_in list rules (rows_at fields (row_key list))

-- packets masquerade, or don't
abbrev pub with_masquerade : Fields → Rules → Rules
with_masquerade fields rules = record rules { masquerade = unwrap_or (flag_at fields (codes "masquerade")) rules.masquerade }

-- the lists in the order of their keys; or the first refusal
unfoldable pub lists_told : Config → Owner → Fields → Rules → Result Rules Refusal
lists_told config owner fields rules = do
  rules ← texts_told config owner fields texts.Services rules
  rules ← rows_told fields rows.Ports rules
  rules ← texts_told config owner fields texts.Protocols rules
  rules ← rows_told fields rows.SourcePorts rules
  rules ← texts_told config owner fields texts.IcmpBlocks rules
  rules ← rows_told fields rows.ForwardPorts rules
  texts_told config owner fields texts.RichRules rules

-- all settings that zones and policies have alike
unfoldable pub rules_told : Config → Owner → Fields → Rules → Result Rules Refusal
rules_told config owner fields rules = lists_told config owner fields (with_masquerade fields rules)

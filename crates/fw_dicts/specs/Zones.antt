-- What a dict makes of a zone (firewalld.dbus(5), `setZoneSettings2`, `addZone2` and `update2`; the order of the refusals is this
-- project's own).
use Rattle.std.specs.Prelude.{ℕ, suc, false, codes, List, [], ◌++◌, drop, take, Result, Ok}
use Rattle.std.specs.Option.{unwrap_or}
use Rattle.fw_act.specs.Acts.{◌>>=◌}
use Rattle.fw_calls.specs.declared.dict.Dict.{Dict}
use Rattle.fw_calls.specs.declared.member.BindingKind.TheVariants as kind
use Rattle.fw_calls.specs.declared.reply.Refusal.{Refusal}
use Rattle.fw_dicts.specs.Bindings.{entries_told}
use Rattle.fw_dicts.specs.Keys.{Fields, known_keys}
use Rattle.fw_dicts.specs.Lists.{rules_told}
use Rattle.fw_dicts.specs.Targets.{zone_target_told}
use Rattle.fw_dicts.specs.Values.{flag_at, notes_told, text_at}
use Rattle.fw_dicts.specs.declared.shape.Owner.TheVariants as owner
use Rattle.fw_model.specs.declared.config.Config.{Config}
use Rattle.fw_model.specs.declared.rules.Rules.{Rules}
use Rattle.fw_model.specs.declared.zone.Zone.{Zone}
use Rattle.fw_model.specs.declared.zone.ZoneTarget.{ZoneTarget}
use Rattle.fw_model.specs.declared.zone.ZoneTarget.TheVariants as target

-- a zone with other settings; its bindings are as they were
unfoldable pub with_settings : Fields → Zone → ZoneTarget → Rules → Zone
with_settings fields zone target rules = record zone {
  notes = notes_told fields zone.notes;
  target = target;
  rules = rules;
  inversion = unwrap_or (flag_at fields (codes "icmp_block_inversion")) zone.inversion;
  forward = unwrap_or (flag_at fields (codes "forward")) zone.forward;
}

-- the zone that a dict makes of a zone, beside other zones; or the first refusal. An absent key leaves what there is. Services and
-- ipsets are those of the configuration.
unfoldable pub zone_told : Config → (others : List Zone) → Zone → Dict → Result Zone Refusal
zone_told config others zone dict = do
  known ← known_keys owner.Zone dict.fields
  target ← zone_target_told zone.target (text_at dict.fields (codes "target"))
  rules ← rules_told config owner.Zone dict.fields zone.rules
  zone ← entries_told config.ipsets others dict.fields kind.Interface (with_settings dict.fields zone target rules)
  entries_told config.ipsets others dict.fields kind.Source zone

-- the zones but the one at a place
abbrev pub others : List Zone → (place : ℕ) → List Zone
others zones place = take place zones ++ drop (suc place) zones

-- settings of which there is none
abbrev pub no_rules : Rules
no_rules = record {
  services = [];
  ports = [];
  protocols = [];
  source_ports = [];
  icmp_blocks = [];
  masquerade = false;
  forwards = [];
  rich = [];
}

-- a zone before a dict says its settings
abbrev pub new_zone : (name : List ℕ) → Zone
new_zone name = record {
  name = name;
  notes = record { version = []; short = []; description = [] };
  target = target.Default;
  rules = no_rules;
  inversion = false;
  forward = false;
  interfaces = [];
  sources = [];
}

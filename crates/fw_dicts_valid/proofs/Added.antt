-- Settings and entries that come to a zone, and lists that are emptied.
use Rattle.std.proofs.Common.{◌≡◌, ◌⊎◌, inl, inr, ℕ, Bool, true, false, if◌then◌else◌, nat_eq, List, Some, refl, sym, subst}
use Rattle.std.proofs.lemmas.Bool.{both_ways}
use Rattle.std.specs.Str.{bytes_eq}
use Rattle.fw_answer.proofs.Equality as equality
use Rattle.fw_answer.proofs.Items.{IsEquality, is_in_decides}
use Rattle.fw_answer.proofs.Rules.{same_rules}
use Rattle.fw_answer.specs.Equal.{same_port, same_rule, same_source}
use Rattle.fw_answer.specs.Lists.{is_in}
use Rattle.fw_dicts.specs.Bindings as bindings
use Rattle.fw_dicts.specs.Lists as lists
use Rattle.fw_dicts_valid.specs.Settings.{IsFitEntry, IsFitSetting}
use Rattle.fw_model.specs.declared.binding.Binding.{Binding}
use Rattle.fw_model.specs.declared.binding.Binding.TheVariants as binding
use Rattle.fw_model.specs.declared.config.Config.{Config}
use Rattle.fw_model.specs.declared.rich.Element.TheVariants as element
use Rattle.fw_model.specs.declared.rich.Rich.{Rich}
use Rattle.fw_model.specs.declared.rules.Rules.{Rules}
use Rattle.fw_model.specs.declared.setting.Setting.{Setting}
use Rattle.fw_model.specs.declared.setting.Setting.TheVariants as setting
use Rattle.fw_model.specs.declared.zone.Zone.{Zone}
use Rattle.fw_valid.specs.Each.{Each}
use Rattle.fw_valid.specs.Names.{IsIcmpType, service_names}
use Rattle.fw_valid.specs.Riches.{IsRich}
use Rattle.fw_valid.specs.Rules.{IsPlainForward, NamesSet}
use Rattle.fw_valid_edits.proofs.Edited.{each_pushed, in_pushed, once_pushed}
use Rattle.fw_valid_edits.specs.Fit.{AreFit, IsFitZone}
use Rattle.fw_zone.specs.Lists.{IsIn}
use Rattle.fw_zone.specs.Settings.{with_setting}
use Rattle.fw_zone_edits.proofs.Forwards.{same_forwards}
use Rattle.fw_zone_edits.specs.Entries as entries
use Rattle.fw_zone_edits.specs.Settings.{has, same_forward}
use Rattle.fw_zone_edits.specs.declared.entry.Entry.{Entry}
use Rattle.fw_zone_edits.specs.declared.entry.Entry.TheVariants as entry

-- what a test doesn't find isn't there
pub absent : {A : Type 0} (same : A → A → Bool) → IsEquality same → (item : A) (items : List A) → is_in same item items ≡ false → ¬ (IsIn item items)
absent same decides item items is found = both_ways (is_in same item items) is ((is_in_decides same decides item items).1 found)

-- a setting more that fits and isn't there
added : (config : Config) (rules : Rules) (new : Setting) → AreFit config rules → IsFitSetting config new → has rules new ≡ false → AreFit config (with_setting rules new)
unfolding has
added config rules (setting.Service name) fit is none = record {
  known = record {
    services = each_pushed (λ name. IsIn name (service_names config)) rules.services name fit.known.services is;
    icmp_types = fit.known.icmp_types;
    rich_services = fit.known.rich_services;
    rich_icmp_types = fit.known.rich_icmp_types;
  };
  sets = fit.sets;
  once = record {
    services = once_pushed rules.services name fit.once.services (absent bytes_eq equality.texts name rules.services none);
    ports = fit.once.ports;
    protocols = fit.once.protocols;
    source_ports = fit.once.source_ports;
    icmp_blocks = fit.once.icmp_blocks;
    forwards = fit.once.forwards;
    rich = fit.once.rich;
  };
  written = record { rich_rules = fit.written.rich_rules; forward_ports = fit.written.forward_ports };
}
added config rules (setting.Port port) fit is none = record {
  known = record { services = fit.known.services; icmp_types = fit.known.icmp_types; rich_services = fit.known.rich_services; rich_icmp_types = fit.known.rich_icmp_types };
  sets = fit.sets;
  once = record {
    services = fit.once.services;
    ports = once_pushed rules.ports port fit.once.ports (absent same_port equality.ports port rules.ports none);
    protocols = fit.once.protocols;
    source_ports = fit.once.source_ports;
    icmp_blocks = fit.once.icmp_blocks;
    forwards = fit.once.forwards;
    rich = fit.once.rich;
  };
  written = record { rich_rules = fit.written.rich_rules; forward_ports = fit.written.forward_ports };
}
added config rules (setting.Protocol protocol) fit is none = record {
  known = record { services = fit.known.services; icmp_types = fit.known.icmp_types; rich_services = fit.known.rich_services; rich_icmp_types = fit.known.rich_icmp_types };
  sets = fit.sets;
  once = record {
    services = fit.once.services;
    ports = fit.once.ports;
    protocols = once_pushed rules.protocols protocol fit.once.protocols (absent nat_eq equality.numbers protocol rules.protocols none);
    source_ports = fit.once.source_ports;
    icmp_blocks = fit.once.icmp_blocks;
    forwards = fit.once.forwards;
    rich = fit.once.rich;
  };
  written = record { rich_rules = fit.written.rich_rules; forward_ports = fit.written.forward_ports };
}
added config rules (setting.SourcePort port) fit is none = record {
  known = record { services = fit.known.services; icmp_types = fit.known.icmp_types; rich_services = fit.known.rich_services; rich_icmp_types = fit.known.rich_icmp_types };
  sets = fit.sets;
  once = record {
    services = fit.once.services;
    ports = fit.once.ports;
    protocols = fit.once.protocols;
    source_ports = once_pushed rules.source_ports port fit.once.source_ports (absent same_port equality.ports port rules.source_ports none);
    icmp_blocks = fit.once.icmp_blocks;
    forwards = fit.once.forwards;
    rich = fit.once.rich;
  };
  written = record { rich_rules = fit.written.rich_rules; forward_ports = fit.written.forward_ports };
}
added config rules (setting.IcmpBlock name) fit is none = record {
  known = record {
    services = fit.known.services;
    icmp_types = each_pushed IsIcmpType rules.icmp_blocks name fit.known.icmp_types is;
    rich_services = fit.known.rich_services;
    rich_icmp_types = fit.known.rich_icmp_types;
  };
  sets = fit.sets;
  once = record {
    services = fit.once.services;
    ports = fit.once.ports;
    protocols = fit.once.protocols;
    source_ports = fit.once.source_ports;
    icmp_blocks = once_pushed rules.icmp_blocks name fit.once.icmp_blocks (absent bytes_eq equality.texts name rules.icmp_blocks none);
    forwards = fit.once.forwards;
    rich = fit.once.rich;
  };
  written = record { rich_rules = fit.written.rich_rules; forward_ports = fit.written.forward_ports };
}
added config rules setting.Masquerade fit is none = record {
  known = record { services = fit.known.services; icmp_types = fit.known.icmp_types; rich_services = fit.known.rich_services; rich_icmp_types = fit.known.rich_icmp_types };
  sets = fit.sets;
  once = record {
    services = fit.once.services;
    ports = fit.once.ports;
    protocols = fit.once.protocols;
    source_ports = fit.once.source_ports;
    icmp_blocks = fit.once.icmp_blocks;
    forwards = fit.once.forwards;
    rich = fit.once.rich;
  };
  written = record { rich_rules = fit.written.rich_rules; forward_ports = fit.written.forward_ports };
}
added config rules (setting.Forward forward) fit is none = record {
  known = record { services = fit.known.services; icmp_types = fit.known.icmp_types; rich_services = fit.known.rich_services; rich_icmp_types = fit.known.rich_icmp_types };
  sets = fit.sets;
  once = record {
    services = fit.once.services;
    ports = fit.once.ports;
    protocols = fit.once.protocols;
    source_ports = fit.once.source_ports;
    icmp_blocks = fit.once.icmp_blocks;
    forwards = once_pushed rules.forwards forward fit.once.forwards (absent same_forward same_forwards forward rules.forwards none);
    rich = fit.once.rich;
  };
  written = record { rich_rules = fit.written.rich_rules; forward_ports = each_pushed IsPlainForward rules.forwards forward fit.written.forward_ports is };
}
added config rules (setting.Rich rule) fit is none = record {
  known = record {
    services = fit.known.services;
    icmp_types = fit.known.icmp_types;
    rich_services = λ one name there named. elim (in_pushed rules.rich rule one there) [
      | inl found ↦ fit.known.rich_services one name found named
      | inr last ↦ is.service name (subst (λ (one : Rich). one.element ≡ Some (element.Service name)) (sym last) named)
    ];
    rich_icmp_types = λ one name there named. elim (in_pushed rules.rich rule one there) [
      | inl found ↦ fit.known.rich_icmp_types one name found named
      | inr last ↦ is.icmp_type name (subst (λ (one : Rich). (one.element ≡ Some (element.IcmpBlock name)) ⊎ (one.element ≡ Some (element.IcmpType name))) (sym last) named)
    ];
  };
  sets = λ one name there named. elim (in_pushed rules.rich rule one there) [
    | inl found ↦ fit.sets one name found named
    | inr last ↦ is.sets name (subst (λ (one : Rich). NamesSet one.source name ⊎ NamesSet one.dest name) (sym last) named)
  ];
  once = record {
    services = fit.once.services;
    ports = fit.once.ports;
    protocols = fit.once.protocols;
    source_ports = fit.once.source_ports;
    icmp_blocks = fit.once.icmp_blocks;
    forwards = fit.once.forwards;
    rich = once_pushed rules.rich rule fit.once.rich (absent same_rule same_rules rule rules.rich none);
  };
  written = record { rich_rules = each_pushed IsRich rules.rich rule fit.written.rich_rules is.rich; forward_ports = fit.written.forward_ports };
}

-- a setting more that fits, unless it is there
pub new_fits : (config : Config) (rules : Rules) (new : Setting) → AreFit config rules → IsFitSetting config new → AreFit config (lists.with_new rules new)
unfolding lists.with_new
new_fits config rules new fit is = by (has rules new) refl
  where
    by : (there : Bool) → has rules new ≡ there → AreFit config (if there then rules else with_setting rules new)
    by true found = fit
    by false none = added config rules new fit is none

-- an entry more, unless it is there
entered : (config : Config) (others : List Zone) (zone : Zone) (new : Entry) → IsFitZone config others zone → IsFitEntry config others new → entries.lists new zone ≡ false → IsFitZone config others (entries.with_entry zone new)
entered config others zone (entry.Interface name) fit is none = record {
  rules = fit.rules;
  sets = fit.sets;
  interfaces_once = once_pushed zone.interfaces name fit.interfaces_once (absent bytes_eq equality.texts name zone.interfaces none);
  sources_once = fit.sources_once;
  interfaces_free = λ one there. elim (in_pushed zone.interfaces name one there) [
    | inl found ↦ fit.interfaces_free one found
    | inr last ↦ subst (λ (one : List ℕ). Each (λ (other : Zone). ¬ (IsIn one other.interfaces)) others) last is
  ];
  sources_free = fit.sources_free;
}
entered config others zone (entry.Source source) fit is none = record {
  rules = fit.rules;
  sets = λ name there. elim (in_pushed zone.sources source (binding.Set name) there) [
    | inl found ↦ fit.sets name found
    | inr last ↦ is.1 name last
  ];
  interfaces_once = fit.interfaces_once;
  sources_once = once_pushed zone.sources source fit.sources_once (absent same_source equality.sources source zone.sources none);
  interfaces_free = fit.interfaces_free;
  sources_free = λ one there. elim (in_pushed zone.sources source one there) [
    | inl found ↦ fit.sources_free one found
    | inr last ↦ subst (λ (one : Binding). Each (λ (other : Zone). ¬ (IsIn one other.sources)) others) last is.0
  ];
}

pub new_entry_fits : (config : Config) (others : List Zone) (zone : Zone) (new : Entry) → IsFitZone config others zone → IsFitEntry config others new → IsFitZone config others (bindings.with_new zone new)
unfolding bindings.with_new
new_entry_fits config others zone new fit is = by (entries.lists new zone) refl
  where
    by : (there : Bool) → entries.lists new zone ≡ there → IsFitZone config others (if there then zone else entries.with_entry zone new)
    by true found = fit
    by false none = entered config others zone new fit is none

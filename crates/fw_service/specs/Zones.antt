-- The zones that there are from the start, by the table of firewalld.zones(5); which services each lets in is this project's
-- own table. All let packets go from the zone to itself, one masquerades, and none has any other setting.
use Rattle.std.specs.Prelude.{ℕ, Bool, true, false, List, [], ◌∷◌, codes}
use Rattle.fw_model.specs.declared.notes.Notes.{Notes}
use Rattle.fw_model.specs.declared.rules.Rules.{Rules}
use Rattle.fw_model.specs.declared.zone.Zone.{Zone}
use Rattle.fw_model.specs.declared.zone.ZoneTarget.{ZoneTarget}
use Rattle.fw_model.specs.declared.zone.ZoneTarget.TheVariants.{Accept, Default, Drop, Reject}

abbrev pub no_notes : Notes
no_notes = record { version = []; short = []; description = [] }

-- some services are let in, and nothing else is let in or blocked
abbrev pub rules_of : List (List ℕ) → Bool → Rules
rules_of services masquerade = record {
  services = services;
  ports = [];
  protocols = [];
  source_ports = [];
  icmp_blocks = [];
  masquerade = masquerade;
  forwards = [];
  rich = [];
}

abbrev pub zone : List ℕ → ZoneTarget → List (List ℕ) → Bool → Zone
zone name target services masquerade = record {
  name = name;
  notes = no_notes;
  target = target;
  rules = rules_of services masquerade;
  inversion = false;
  forward = true;
  interfaces = [];
  sources = [];
}

-- the services of zones whose other hosts are trusted
abbrev pub home_services : List (List ℕ)
home_services = codes "ssh" ∷ codes "mdns" ∷ codes "samba-client" ∷ codes "dhcpv6-client" ∷ []

-- the name, the target, the services, and whether it masquerades
abbrev pub built_in_zones : List Zone
built_in_zones =
    zone (codes "block") Reject [] false
    ∷ zone (codes "dmz") Default (codes "ssh" ∷ []) false
    ∷ zone (codes "drop") Drop [] false
    ∷ zone (codes "external") Default (codes "ssh" ∷ []) true
    ∷ zone (codes "home") Default home_services false
    ∷ zone (codes "internal") Default home_services false
    ∷ zone (codes "public") Default (codes "ssh" ∷ codes "dhcpv6-client" ∷ []) false
    ∷ zone (codes "trusted") Accept [] false
    ∷ zone (codes "work") Default (codes "ssh" ∷ codes "dhcpv6-client" ∷ []) false
    ∷ []

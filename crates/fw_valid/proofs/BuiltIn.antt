-- The built-in configuration is valid.
use Rattle.std.proofs.Common.{◌≡◌, ℕ, inl, inr, Bool, true, false, List, [], ◌∷◌, map, refl, sym, ap, IsTrue, codes}
use Rattle.std.proofs.lemmas.Bool.{eqb-false}
use Rattle.std.specs.List.{list_all}
use Rattle.fw_addr.specs.WellFormed.{is_name}
use Rattle.fw_model.specs.declared.config.Config.{Config}
use Rattle.fw_model.specs.declared.port.Port.{Port}
use Rattle.fw_model.specs.declared.rules.Rules.{Rules}
use Rattle.fw_service.specs.Configs.{built_in_config}
use Rattle.fw_service.specs.Services.{built_in_services, service, tcp, udp}
use Rattle.fw_service.specs.Zones.{built_in_zones, home_services, rules_of}
use Rattle.fw_valid.proofs.Tests.{absent_from_test, all_in_from_test, apart_from_test, are_apart, each_from_test, in_from_test, is_among, none_listed}
use Rattle.fw_valid.specs.Each.{Each, IsWithoutRepeats}
use Rattle.fw_valid.specs.Names.{AreNamed, AreNames, any, host, service_names, zone_names}
use Rattle.fw_valid.specs.Rules.{AreOnce, IsService, NamesKnown, SetsKnown, all_rules}
use Rattle.fw_valid.specs.Valid.{AreKnown, AreSets, AreWritten, HasNoRepeats, IsValid}
use Rattle.fw_zone.specs.Bindings.{interfaces_of, sources_of, with_interfaces, with_sources}

names_from_tests : (names : List (List ℕ)) → list_all is_name names ≡ true → are_apart names ≡ true → AreNames names
names_from_tests names formed apart = record { well_formed = each_from_test is_name names formed; unique = apart_from_test names apart }

-- settings that let some services in, and nothing else
known_rules : (config : Config) (services : List (List ℕ)) (masquerade : Bool) → list_all (is_among (service_names config)) services ≡ true → NamesKnown config (rules_of services masquerade)
known_rules config services masquerade is = record { services = all_in_from_test (service_names config) services is; icmp_types = tt; rich_services = λ rule name never named. absurd never; rich_icmp_types = λ rule name never named. absurd never }

no_sets : (config : Config) (services : List (List ℕ)) (masquerade : Bool) → SetsKnown config (rules_of services masquerade)
no_sets config services masquerade rule name never named = absurd never

once : (services : List (List ℕ)) (masquerade : Bool) → are_apart services ≡ true → AreOnce (rules_of services masquerade)
once services masquerade is = record {
  services = apart_from_test services is;
  ports = tt;
  protocols = tt;
  source_ports = tt;
  icmp_blocks = tt;
  forwards = tt;
  rich = tt;
}

-- what holds of such settings holds of all zones
each_zone : (P : Rules → Type 0) → ((services : List (List ℕ)) (masquerade : Bool) → list_all (is_among (service_names built_in_config)) services ≡ true → are_apart services ≡ true → P (rules_of services masquerade)) → Each P (all_rules built_in_config)
each_zone P holds = (
  holds [] false refl refl,
  (
    holds (codes "ssh" ∷ []) false refl refl,
    (
      holds [] false refl refl,
      (
        holds (codes "ssh" ∷ []) true refl refl,
        (
          holds home_services false refl refl,
          (
            holds home_services false refl refl,
            (
              holds (codes "ssh" ∷ codes "dhcpv6-client" ∷ []) false refl refl,
              (
                holds [] false refl refl,
                (
                  holds (codes "ssh" ∷ codes "dhcpv6-client" ∷ []) false refl refl,
                  tt,
                ),
              ),
            ),
          ),
        ),
      ),
    ),
  ),
)

apart_ports : (one other : Port) → ¬ (one ≡ other) → IsWithoutRepeats (one ∷ other ∷ [])
apart_ports one other differ = (λ found. elim found [ inl same ↦ differ (sym same) | inr never ↦ absurd never ], ((λ never. absurd never), tt))

one_port : (one : Port) → IsWithoutRepeats (one ∷ [])
one_port one = ((λ never. absurd never), tt)

dns_differ : ¬ (tcp 53 ≡ udp 53)
dns_differ same = let protocols = ap (λ (port : Port). port.proto) same in cc

samba_differ : ¬ (udp 137 ≡ udp 138)
samba_differ same = eqb-false 137 138 refl (ap (λ (port : Port). port.range.first) same)

-- a service with ports alone, or with destinations of their families
no_includes : (name : List ℕ) (ports : List Port) → IsService built_in_config (service name ports)
no_includes name ports = record { includes = tt; in_ipv4 = tt; in_ipv6 = tt }

pub built_in_is_valid : IsValid built_in_config
built_in_is_valid = record {
  names = record {
    zones = names_from_tests (zone_names built_in_config) refl refl;
    policies = names_from_tests [] refl refl;
    services = names_from_tests (service_names built_in_config) refl refl;
    ipsets = names_from_tests [] refl refl;
    no_host = absent_from_test (zone_names built_in_config) host refl;
    no_any = absent_from_test (zone_names built_in_config) any refl;
  };
  default_zone = in_from_test (zone_names built_in_config) (codes "public") refl;
  interfaces = λ entry one other first second. absurd (none_listed interfaces_of with_interfaces built_in_zones (refl, (refl, (refl, (refl, (refl, (refl, (refl, (refl, (refl, tt))))))))) one entry first);
  sources = λ entry one other first second. absurd (none_listed sources_of with_sources built_in_zones (refl, (refl, (refl, (refl, (refl, (refl, (refl, (refl, (refl, tt))))))))) one entry first);
  ipsets = record {
    in_sources = (
      (λ name never. absurd never),
      (
        (λ name never. absurd never),
        (
          (λ name never. absurd never),
          (
            (λ name never. absurd never),
            (
              (λ name never. absurd never),
              (
                (λ name never. absurd never),
                (
                  (λ name never. absurd never),
                  (
                    (λ name never. absurd never),
                    (
                      (λ name never. absurd never),
                      tt,
                    ),
                  ),
                ),
              ),
            ),
          ),
        ),
      ),
    );
    in_rich_rules = each_zone (SetsKnown built_in_config) (λ services masquerade known apart. no_sets built_in_config services masquerade);
    sets = tt;
  };
  known = record {
    in_rules = each_zone (NamesKnown built_in_config) (λ services masquerade known apart. known_rules built_in_config services masquerade known);
    in_services = (
      no_includes (codes "dhcp") (udp 67 ∷ []),
      (
        record { includes = tt; in_ipv4 = tt; in_ipv6 = refl },
        (
          no_includes (codes "dns") (tcp 53 ∷ udp 53 ∷ []),
          (
            no_includes (codes "http") (tcp 80 ∷ []),
            (
              no_includes (codes "https") (tcp 443 ∷ []),
              (
                no_includes (codes "ipp-client") (udp 631 ∷ []),
                (
                  record { includes = tt; in_ipv4 = refl; in_ipv6 = refl },
                  (
                    no_includes (codes "ntp") (udp 123 ∷ []),
                    (
                      no_includes (codes "samba-client") (udp 137 ∷ udp 138 ∷ []),
                      (
                        no_includes (codes "smtp") (tcp 25 ∷ []),
                        (
                          no_includes (codes "ssh") (tcp 22 ∷ []),
                          (
                            record { includes = all_in_from_test (service_names built_in_config) (codes "http" ∷ codes "https" ∷ []) refl; in_ipv4 = tt; in_ipv6 = tt },
                            tt,
                          ),
                        ),
                      ),
                    ),
                  ),
                ),
              ),
            ),
          ),
        ),
      ),
    );
  };
  policies = tt;
  no_repeats = record {
    rules = each_zone AreOnce (λ services masquerade known apart. once services masquerade apart);
    interfaces = (tt, (tt, (tt, (tt, (tt, (tt, (tt, (tt, (tt, tt)))))))));
    sources = (tt, (tt, (tt, (tt, (tt, (tt, (tt, (tt, (tt, tt)))))))));
    ingress = tt;
    egress = tt;
    includes = (
      tt,
      (
        tt,
        (
          tt,
          (
            tt,
            (
              tt,
              (
                tt,
                (
                  tt,
                  (
                    tt,
                    (
                      tt,
                      (
                        tt,
                        (
                          tt,
                          (
                            apart_from_test (codes "http" ∷ codes "https" ∷ []) refl,
                            tt,
                          ),
                        ),
                      ),
                    ),
                  ),
                ),
              ),
            ),
          ),
        ),
      ),
    );
    ports = (
      one_port (udp 67),
      (
        one_port (udp 546),
        (
          apart_ports (tcp 53) (udp 53) dns_differ,
          (
            one_port (tcp 80),
            (
              one_port (tcp 443),
              (
                one_port (udp 631),
                (
                  one_port (udp 5353),
                  (
                    one_port (udp 123),
                    (
                      apart_ports (udp 137) (udp 138) samba_differ,
                      (
                        one_port (tcp 25),
                        (
                          one_port (tcp 22),
                          (
                            tt,
                            tt,
                          ),
                        ),
                      ),
                    ),
                  ),
                ),
              ),
            ),
          ),
        ),
      ),
    );
    protocols = (tt, (tt, (tt, (tt, (tt, (tt, (tt, (tt, (tt, (tt, (tt, (tt, tt))))))))))));
    source_ports = (tt, (tt, (tt, (tt, (tt, (tt, (tt, (tt, (tt, (tt, (tt, (tt, tt))))))))))));
    items = tt;
  };
  written = each_zone AreWritten (λ services masquerade known apart. record { rich_rules = tt; forward_ports = tt });
}

-- The rules of bindings lead to the chain of the zone that a packet belongs to.
use Rattle.std.proofs.Common.{◌≡◌, ◌∙◌, ℕ, List, [], ◌∷◌, ◌++◌, map, Bool, true, false, ◌&&◌, ◌||◌, Option, None, Some, refl, sym, ap}
use Rattle.std.specs.Prelude.{if◌then◌else◌}
use Rattle.std.specs.List.{filter, find, flat_map, list_any}
use Rattle.std.specs.Option.{option_map, option_or}
use Rattle.fw_addr.specs.Interfaces.{matches}
use Rattle.fw_addr.specs.declared.addr.Addr.{Addr}
use Rattle.fw_hits.specs.Bindings.{Entry, default_zone, entries_for, entry_order, first_by, has_source, ingress_from, interface_zone, source_zone, zone_of, zone_order}
use Rattle.fw_hits.specs.Sources.{matches_source}
use Rattle.fw_model.specs.declared.binding.Binding.{Binding}
use Rattle.fw_model.specs.declared.config.Config.{Config}
use Rattle.fw_model.specs.declared.packet.Origin.{Origin}
use Rattle.fw_model.specs.declared.packet.Origin.TheVariants as origin
use Rattle.fw_model.specs.declared.packet.Packet.{Packet}
use Rattle.fw_model.specs.declared.zone.Zone.{Zone}
use Rattle.lower_dispatch.proofs.Found.{first_in_order}
use Rattle.lower_dispatch.proofs.Led.{leads, led, led_joined}
use Rattle.lower_dispatch.proofs.Orders.{entry_total, zone_total}
use Rattle.lower_dispatch.specs.Dispatch.{Dispatches, LeadTo, zone_on}
use Rattle.lower_dispatch.specs.Forms.{by_name, entries_in_order, entry_rule, goto_zone, interface_rules, last_rules, link_test, peer_test, rule_where, source_rules, zone_dispatch, zone_entries, zone_rules}
use Rattle.lower_dispatch.specs.declared.direction.Direction.{Direction}
use Rattle.lower_dispatch.specs.declared.direction.Direction.TheVariants as direction
use Rattle.lower_match.specs.Forms.{is}
use Rattle.lower_match.specs.Laws.{AreSourcesTold, asked_holds}
use Rattle.lower_match.specs.Lowers.{EachStands}
use Rattle.nf_chains.specs.Moments.{Moment}
use Rattle.nf_chains.specs.Tests.{test_at}
use Rattle.nf_eval.specs.Tests.{came_in_by}
use Rattle.nf_rules.specs.declared.rule.Rule.{Rule}
use Rattle.nf_rules.specs.declared.ruleset.Ruleset.{Ruleset}
use Rattle.nf_rules.specs.declared.set.NfSet.{NfSet}
use Rattle.nf_rules.specs.declared.statement.Stmt.{Stmt}
use Rattle.nf_rules.specs.declared.statement.Stmt.TheVariants as stmt
use Rattle.nf_rules.specs.declared.test.Test.{Test}

kept_joined : {A : Type 0} (passes : A → Bool) (xs ys : List A) → filter passes (xs ++ ys) ≡ filter passes xs ++ filter passes ys
kept_joined passes [] ys = refl
kept_joined passes (x ∷ xs) ys = by (passes x) (kept_joined passes xs ys)
  where
    by : (b : Bool) → filter passes (xs ++ ys) ≡ filter passes xs ++ filter passes ys
        → (if b then x ∷ filter passes (xs ++ ys) else filter passes (xs ++ ys)) ≡ (if b then x ∷ filter passes xs else filter passes xs) ++ filter passes ys
    by true rest = ap (λ items. x ∷ items) rest
    by false rest = rest

kept_mapped : {A B : Type 0} (passes : B → Bool) (f : A → B) (xs : List A) → filter passes (map f xs) ≡ map f (filter (λ x. passes (f x)) xs)
kept_mapped passes f [] = refl
kept_mapped passes f (x ∷ xs) = by (passes (f x)) (kept_mapped passes f xs)
  where
    by : (b : Bool) → filter passes (map f xs) ≡ map f (filter (λ other. passes (f other)) xs)
        → (if b then f x ∷ filter passes (map f xs) else filter passes (map f xs)) ≡ map f (if b then x ∷ filter (λ other. passes (f other)) xs else filter (λ other. passes (f other)) xs)
    by true rest = ap (λ items. f x ∷ items) rest
    by false rest = rest

-- the entries of all zones that stand for a name
entries_kept : (name : List ℕ) (zones : List Zone)
    → filter (λ (entry : Entry). matches entry.text name) (flat_map zone_entries zones) ≡ flat_map (entries_for name) zones
entries_kept name [] = refl
entries_kept name (zone ∷ zones) =
    kept_joined (λ (entry : Entry). matches entry.text name) (zone_entries zone) (flat_map zone_entries zones)
    ∙ ap (λ (items : List Entry). items ++ filter (λ (entry : Entry). matches entry.text name) (flat_map zone_entries zones))
    (kept_mapped (λ (entry : Entry). matches entry.text name) (λ text. record { zone = zone; text = text }) zone.interfaces)
    ∙ ap (λ (items : List Entry). entries_for name zone ++ items) (entries_kept name zones)

-- the statements that lead to the chain of a zone
abbrev toward : List ℕ → Option Zone → Option (List Stmt)
toward start found = option_map (λ zone. stmt.Goto (start ++ zone.name) ∷ []) found

in_turn : (start : List ℕ) (one two three : Option Zone)
    → option_or (option_or (toward start one) (toward start two)) (toward start three) ≡ toward start (option_or one (option_or two three))
in_turn start (Some zone) two three = refl
in_turn start None (Some zone) three = refl
in_turn start None None three = refl

toward_zone : (start : List ℕ) (found : Option Entry) → option_map (λ (entry : Entry). stmt.Goto (start ++ entry.zone.name) ∷ []) found ≡ toward start (option_map (λ entry. entry.zone) found)
toward_zone start None = refl
toward_zone start (Some entry) = refl

module _ (towards : Direction) (config : Config) (start : List ℕ) (leaving : Option (List ℕ)) (sets : List NfSet) (packet : Packet) where
  abbrev where_led : List Rule → Option (List Stmt)
  where_led made = led leaving sets packet made

  -- one rule with one test
  led_once : (zone : Zone) (asked : Test) → where_led (goto_zone start zone (is asked ∷ []) ∷ []) ≡ (if test_at leaving sets packet asked then toward start (Some zone) else None)
  led_once zone asked = by (test_at leaving sets packet asked)
    where
      by : (b : Bool) → option_map (λ (rule : Rule). rule.stmts) (if b && true then Some (goto_zone start zone (is asked ∷ [])) else None) ≡ (if b then toward start (Some zone) else None)
      by true = refl
      by false = refl

  led_where : (zone : Zone) (asked : Option Test) → where_led (rule_where start zone asked) ≡ (if asked_holds leaving sets packet asked then toward start (Some zone) else None)
  led_where zone None = refl
  led_where zone (Some asked) = led_once zone asked

  led_last : (found : Option Zone) → where_led (last_rules start found) ≡ toward start found
  led_last None = refl
  led_last (Some zone) = refl

  module _ (address : Addr) (mac : Option ℕ) (name : List ℕ)
      (peers : (told : Binding) → matches_source config.ipsets address mac told ≡ asked_holds leaving sets packet (peer_test towards config.ipsets told))
      (links : (entry : List ℕ) → matches entry name ≡ test_at leaving sets packet (link_test towards entry)) where
    abbrev nowhere : Option (List Stmt)
    nowhere = None

    one_of_two : (one other : Bool) (found : Option (List Stmt))
        → option_or (if one then found else None) (if other then found else None) ≡ (if one || other then found else None)
    one_of_two true other None = by other
      where
        by : (b : Bool) → (if b then nowhere else nowhere) ≡ nowhere
        by true = refl
        by false = refl
    one_of_two true other (Some statements) = refl
    one_of_two false other found = refl

    led_sources : (zone : Zone) (sources : List Binding)
        → where_led (flat_map (λ told. rule_where start zone (peer_test towards config.ipsets told)) sources)
        ≡ (if list_any (matches_source config.ipsets address mac) sources then toward start (Some zone) else None)
    led_sources zone [] = refl
    led_sources zone (told ∷ others) =
        led_joined leaving sets packet (rule_where start zone (peer_test towards config.ipsets told)) (flat_map (λ other. rule_where start zone (peer_test towards config.ipsets other)) others)
        ∙ ap (λ (first : Option (List Stmt)). option_or first (where_led (flat_map (λ other. rule_where start zone (peer_test towards config.ipsets other)) others)))
        (led_where zone (peer_test towards config.ipsets told) ∙ ap (λ (b : Bool). if b then toward start (Some zone) else None) (sym (peers told)))
        ∙ ap (option_or (if matches_source config.ipsets address mac told then toward start (Some zone) else None)) (led_sources zone others)
        ∙ one_of_two (matches_source config.ipsets address mac told) (list_any (matches_source config.ipsets address mac) others) (toward start (Some zone))

    led_zones : (zones : List Zone) → where_led (flat_map (zone_rules towards config.ipsets start) zones) ≡ toward start (find (has_source config address mac) zones)
    led_zones [] = refl
    led_zones (zone ∷ zones) =
        led_joined leaving sets packet (zone_rules towards config.ipsets start zone) (flat_map (zone_rules towards config.ipsets start) zones)
        ∙ ap (λ (first : Option (List Stmt)). option_or first (where_led (flat_map (zone_rules towards config.ipsets start) zones))) (led_sources zone zone.sources)
        ∙ ap (option_or (if has_source config address mac zone then toward start (Some zone) else None)) (led_zones zones)
        ∙ by (has_source config address mac zone)
      where
        by : (b : Bool) → option_or (if b then toward start (Some zone) else None) (toward start (find (has_source config address mac) zones))
            ≡ toward start (if b then Some zone else find (has_source config address mac) zones)
        by true = refl
        by false = refl

    led_by_sources : where_led (source_rules towards config start) ≡ toward start (source_zone config address mac)
    led_by_sources =
        led_zones (by_name config.zones)
        ∙ ap (toward start) (first_in_order zone_order zone_total (has_source config address mac) config.zones)

    led_entries : (entries : List Entry) → where_led (map (entry_rule towards start) entries)
        ≡ toward start (option_map (λ entry. entry.zone) (find (λ (entry : Entry). matches entry.text name) entries))
    led_entries [] = refl
    led_entries (entry ∷ entries) =
        led_joined leaving sets packet (entry_rule towards start entry ∷ []) (map (entry_rule towards start) entries)
        ∙ ap (λ (first : Option (List Stmt)). option_or first (where_led (map (entry_rule towards start) entries)))
        (led_once entry.zone (link_test towards entry.text) ∙ ap (λ (b : Bool). if b then toward start (Some entry.zone) else None) (sym (links entry.text)))
        ∙ ap (option_or (if matches entry.text name then toward start (Some entry.zone) else None)) (led_entries entries)
        ∙ by (matches entry.text name)
      where
        by : (b : Bool) → option_or (if b then toward start (Some entry.zone) else None) (toward start (option_map (λ (other : Entry). other.zone) (find (λ (other : Entry). matches other.text name) entries)))
            ≡ toward start (option_map (λ (other : Entry). other.zone) (if b then Some entry else find (λ (other : Entry). matches other.text name) entries))
        by true = refl
        by false = refl

    led_by_interfaces : where_led (interface_rules towards config start) ≡ toward start (interface_zone config name)
    led_by_interfaces =
        led_entries (entries_in_order config.zones)
        ∙ ap (λ (found : Option Entry). toward start (option_map (λ entry. entry.zone) found))
        (first_in_order entry_order entry_total (λ (entry : Entry). matches entry.text name) (flat_map zone_entries config.zones)
        ∙ ap (first_by entry_order) (entries_kept name config.zones))

    pub led_to_zone : where_led (zone_dispatch towards config start) ≡ toward start (zone_of config address mac name)
    led_to_zone =
        led_joined leaving sets packet (source_rules towards config start ++ interface_rules towards config start) (last_rules start (default_zone config))
        ∙ ap (λ (first : Option (List Stmt)). option_or first (where_led (last_rules start (default_zone config))))
        (led_joined leaving sets packet (source_rules towards config start) (interface_rules towards config start)
        ∙ ap (λ (first : Option (List Stmt)). option_or first (where_led (interface_rules towards config start))) led_by_sources
        ∙ ap (option_or (toward start (source_zone config address mac))) led_by_interfaces)
        ∙ ap (option_or (option_or (toward start (source_zone config address mac)) (toward start (interface_zone config name)))) (led_last (default_zone config))
        ∙ in_turn start (source_zone config address mac) (interface_zone config name) (default_zone config)

module _ (told : AreSourcesTold) (config : Config) (start : List ℕ) (rules : Ruleset) (now : Moment) (zone : Zone) (stand : EachStands config.ipsets rules.sets) where
  from : (leaving : Option (List ℕ)) (where_from : Origin) → now.packet.origin ≡ where_from → ingress_from config now.packet where_from ≡ Some zone
      → LeadTo rules leaving (zone_dispatch direction.Ingress config start) now (start ++ zone.name)
  from leaving origin.Host is found = cc
  from leaving (origin.Link name) is found =
      leads rules leaving (zone_dispatch direction.Ingress config start) now (start ++ zone.name)
      (led_to_zone direction.Ingress config start leaving rules.sets now.packet now.packet.src now.packet.mac name
      (λ source. told.senders config.ipsets leaving rules.sets now.packet source stand)
      (λ entry. ap (came_in_by entry) (sym is))
      ∙ ap (toward start) found)

  to : (leaving : Option (List ℕ)) → zone_on direction.Egress config leaving now.packet ≡ Some zone
      → LeadTo rules leaving (zone_dispatch direction.Egress config start) now (start ++ zone.name)
  to None found = cc
  to (Some name) found =
      leads rules (Some name) (zone_dispatch direction.Egress config start) now (start ++ zone.name)
      (led_to_zone direction.Egress config start (Some name) rules.sets now.packet now.packet.dst None name
      (λ source. told.receivers config.ipsets (Some name) rules.sets now.packet source stand)
      (λ entry. refl)
      ∙ ap (toward start) found)

pub dispatches : AreSourcesTold → (config : Config) (towards : Direction) (start : List ℕ) → Dispatches config towards start (zone_dispatch towards config start)
dispatches told config direction.Ingress start rules leaving now zone stand found = from told config start rules now zone stand leaving now.packet.origin refl found
dispatches told config direction.Egress start rules leaving now zone stand found = to told config start rules now zone stand leaving found

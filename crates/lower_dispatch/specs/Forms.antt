-- The rules that are made of bindings, as lists.
use Rattle.std.specs.Prelude.{ℕ, List, [], ◌∷◌, ◌++◌, map, Bool, Option, None, Some}
use Rattle.std.specs.List.{flat_map}
use Rattle.std.specs.Ordering.{is_lt}
use Rattle.fw_hits.specs.Bindings.{Entry, default_zone, entry_order, zone_order}
use Rattle.fw_model.specs.declared.binding.Binding.{Binding}
use Rattle.fw_model.specs.declared.config.Config.{Config}
use Rattle.fw_model.specs.declared.ipset.IpSet.{IpSet}
use Rattle.fw_model.specs.declared.zone.Zone.{Zone}
use Rattle.fw_order.specs.Order.{in_order}
use Rattle.lower_dispatch.specs.declared.direction.Direction.{Direction}
use Rattle.lower_dispatch.specs.declared.direction.Direction.TheVariants as direction
use Rattle.lower_match.specs.Forms.{is}
use Rattle.lower_match.specs.RichForms.{receiver_test, source_test}
use Rattle.nf_rules.specs.declared.rule.Match.{Match}
use Rattle.nf_rules.specs.declared.rule.Rule.{Rule}
use Rattle.nf_rules.specs.declared.statement.Stmt.TheVariants as stmt
use Rattle.nf_rules.specs.declared.test.Test.{Test}
use Rattle.nf_rules.specs.declared.test.Test.TheVariants as test

-- a rule that goes to the chain of a zone for good
abbrev pub goto_zone : List ℕ → Zone → List Match → Rule
goto_zone start zone matches = record { matches = matches; stmts = stmt.Goto (start ++ zone.name) ∷ [] }

-- what a source asks of a packet; nothing is known of the receiver's hardware address
abbrev pub peer_test : Direction → List IpSet → Binding → Option Test
peer_test direction.Ingress sets told = source_test sets told
peer_test direction.Egress sets told = receiver_test sets told

-- what an interface entry asks of it
abbrev pub link_test : Direction → List ℕ → Test
link_test direction.Ingress entry = test.In entry
link_test direction.Egress entry = test.Out entry

-- a rule where a test holds, or none where it never does
abbrev pub rule_where : List ℕ → Zone → Option Test → List Rule
rule_where start zone None = []
rule_where start zone (Some asked) = goto_zone start zone (is asked ∷ []) ∷ []

-- a rule for each source of a zone
abbrev pub zone_rules : Direction → List IpSet → List ℕ → Zone → List Rule
zone_rules direction sets start zone = flat_map (λ told. rule_where start zone (peer_test direction sets told)) zone.sources

abbrev pub has_lesser_name : Zone → Zone → Bool
has_lesser_name one other = is_lt (zone_order one other)

-- zones by their names
abbrev pub by_name : List Zone → List Zone
by_name zones = in_order has_lesser_name zones

abbrev pub source_rules : Direction → Config → List ℕ → List Rule
source_rules direction config start = flat_map (zone_rules direction config.ipsets start) (by_name config.zones)

-- the interface entries of a zone
abbrev pub zone_entries : Zone → List Entry
zone_entries zone = map (λ text. record { zone = zone; text = text }) zone.interfaces

abbrev pub comes_first : Entry → Entry → Bool
comes_first one other = is_lt (entry_order one other)

-- entries in the order in which they decide
abbrev pub entries_in_order : List Zone → List Entry
entries_in_order zones = in_order comes_first (flat_map zone_entries zones)

abbrev pub entry_rule : Direction → List ℕ → Entry → Rule
entry_rule direction start entry = goto_zone start entry.zone (is (link_test direction entry.text) ∷ [])

abbrev pub interface_rules : Direction → Config → List ℕ → List Rule
interface_rules direction config start = map (entry_rule direction start) (entries_in_order config.zones)

-- the last rule, for all other packets
abbrev pub last_rules : List ℕ → Option Zone → List Rule
last_rules start None = []
last_rules start (Some zone) = goto_zone start zone [] ∷ []

-- sources, then interfaces, then the default zone
abbrev pub zone_dispatch : Direction → Config → List ℕ → List Rule
zone_dispatch direction config start =
    (source_rules direction config start ++ interface_rules direction config start) ++ last_rules start (default_zone config)

-- The alternatives that are made of rich rules: what each part of a rule asks, as matches that must all hold, or as nothing that
-- any packet meets (None).
use Rattle.std.specs.Prelude.{ℕ, List, [], ◌∷◌, ◌++◌, map, Bool, true, false, Option, None, Some, is_some, unwrap_or, ◌≡◌}
use Rattle.std.specs.List.{find}
use Rattle.std.specs.Str.{bytes_eq}
use Rattle.fw_addr.specs.declared.packet.Family.{Family}
use Rattle.fw_addr.specs.declared.packet.Family.TheVariants.{V4}
use Rattle.fw_model.specs.declared.binding.Binding.{Binding}
use Rattle.fw_model.specs.declared.binding.Binding.TheVariants as binding
use Rattle.fw_model.specs.declared.ipset.IpSet.{IpSet}
use Rattle.fw_model.specs.declared.ipset.SetKind.{SetKind}
use Rattle.fw_model.specs.declared.ipset.SetKind.TheVariants as kind
use Rattle.fw_model.specs.declared.rich.Element.{Element}
use Rattle.fw_model.specs.declared.rich.Rich.{Rich}
use Rattle.fw_model.specs.declared.rich.Side.{Side}
use Rattle.fw_model.specs.declared.service.Service.{Service}
use Rattle.fw_model.specs.declared.config.Config.{Config}
use Rattle.fw_model.specs.declared.packet.Packet.{Packet}
use Rattle.fw_model.specs.Packets.{IsPacket}
use Rattle.fw_hits.specs.Rich.{is_of_element}
use Rattle.nf_rules.specs.declared.set.NfSet.{NfSet}
use Rattle.lower_match.specs.Forms.{is}
use Rattle.lower_match.specs.Lowers.{one_holds, set_name}
use Rattle.nf_rules.specs.declared.rule.Match.{Match}
use Rattle.nf_rules.specs.declared.test.Test.{Test}
use Rattle.nf_rules.specs.declared.test.Test.TheVariants as test

abbrev pub family_matches : Option Family → List Match
family_matches None = []
family_matches (Some family) = is (test.Family family) ∷ []

-- the test of a set of addresses, or of one of hardware addresses
abbrev pub source_kind : List ℕ → SetKind → Test
source_kind name kind.Ip = test.SrcSet (set_name name)
source_kind name kind.Net = test.SrcSet (set_name name)
source_kind name kind.Mac = test.SrcMacSet (set_name name)

-- a set that isn't known holds nothing
abbrev pub source_set : List ℕ → Option IpSet → Option Test
source_set name None = None
source_set name (Some set) = Some (source_kind name set.kind)

-- the first set of a name
abbrev pub set_named : List IpSet → List ℕ → Option IpSet
set_named sets name = find (λ set. bytes_eq set.name name) sets

abbrev pub source_test : List IpSet → Binding → Option Test
source_test sets (binding.Net net) = Some (test.Src net)
source_test sets (binding.Mac mac) = Some (test.SrcMac mac)
source_test sets (binding.Set name) = source_set name (set_named sets name)

-- nothing is known of the receiver's hardware address
abbrev pub receiver_kind : List ℕ → SetKind → Option Test
receiver_kind name kind.Ip = Some (test.DstSet (set_name name))
receiver_kind name kind.Net = Some (test.DstSet (set_name name))
receiver_kind name kind.Mac = None

abbrev pub receiver_set : List ℕ → Option IpSet → Option Test
receiver_set name None = None
receiver_set name (Some set) = receiver_kind name set.kind

abbrev pub receiver_test : List IpSet → Binding → Option Test
receiver_test sets (binding.Net net) = Some (test.Dst net)
receiver_test sets (binding.Mac mac) = None
receiver_test sets (binding.Set name) = receiver_set name (set_named sets name)

-- `NOT` turns the test round; what never holds holds always, turned round.
abbrev pub turned_test : (inverted : Bool) → Option Test → Option (List Match)
turned_test inverted (Some asked) = Some (record { not = inverted; test = asked } ∷ [])
turned_test true None = Some []
turned_test false None = None

abbrev pub source_matches : List IpSet → Option Side → Option (List Match)
source_matches sets None = Some []
source_matches sets (Some side) = turned_test side.not (source_test sets side.what)

abbrev pub receiver_matches : List IpSet → Option Side → Option (List Match)
receiver_matches sets None = Some []
receiver_matches sets (Some side) = turned_test side.not (receiver_test sets side.what)

-- what two parts ask
abbrev pub both_ask : Option (List Match) → Option (List Match) → Option (List Match)
both_ask None other = None
both_ask (Some one) None = None
both_ask (Some one) (Some other) = Some (one ++ other)

-- what a rule's family, source and destination ask
abbrev pub sides_ask : List IpSet → Rich → Option (List Match)
sides_ask sets rule =
    both_ask (both_ask (Some (family_matches rule.family)) (source_matches sets rule.source)) (receiver_matches sets rule.dest)

-- A part's matches come behind those that are there, and a packet may meet it.
pub record Adds (asked : Option (List Match)) (old new : List Match) (met : Bool) : Type 0 where
  pub meets : met ≡ is_some asked
  pub matches : new ≡ old ++ unwrap_or asked []

-- masquerade without a family is for IPv4 alone
abbrev pub masquerade_matches : Option Family → List Match
masquerade_matches None = is (test.Family V4) ∷ []
masquerade_matches (Some family) = []

-- each alternative behind what all of them ask
abbrev pub behind : List Match → List (List Match) → List (List Match)
behind front alternatives = map (λ alternative. front ++ alternative) alternatives

-- An element is told in alternatives: a packet is of it exactly where all matches of one hold.
abbrev pub LowersElement : List Service → Option Family → Option Element → List (List Match) → Type 0
LowersElement services family told alternatives =
    (config : Config) (leaving : Option (List ℕ)) (sets : List NfSet) (packet : Packet)
    → config.services ≡ services
    → IsPacket packet
    → is_of_element config family packet told ≡ one_holds leaving sets packet alternatives

-- Of what the ruleset of a configuration consists.
use Rattle.std.specs.Prelude.{◌≡◌, ℕ, if◌then◌else◌, List, [], ◌∷◌, ◌++◌, codes, map, IsPermutation}
use Rattle.std.specs.List.{filter, flat_map}
use Rattle.fw_addr.specs.Subnets.{Subnet}
use Rattle.fw_model.specs.declared.config.Config.{Config}
use Rattle.fw_model.specs.declared.ipset.IpSet.{IpSet}
use Rattle.fw_model.specs.declared.ipset.Item.{Item}
use Rattle.fw_model.specs.declared.ipset.Item.TheVariants as item
use Rattle.fw_model.specs.declared.ipset.SetKind.{SetKind}
use Rattle.fw_model.specs.declared.ipset.SetKind.TheVariants as kind
use Rattle.fw_model.specs.declared.zone.Zone.{Zone}
use Rattle.fw_verdict.specs.declared.sides.Side.TheVariants as side
use Rattle.lower_dispatch.specs.Uses.{is_in_use}
use Rattle.lower_all.specs.Ordered.{IsOrdered}
use Rattle.lower_blocks.specs.Blocks.{AreBlocks}
use Rattle.lower_blocks.specs.Needed.{all_told}
use Rattle.lower_changes.specs.Sides.{IsSide}
use Rattle.lower_hooks.specs.Chains.{ForwardWorks, InputWorks, OutputWorks}
use Rattle.lower_hooks.specs.Leads.{ForwardLeads, InputLeads, OutputLeads}
use Rattle.lower_hooks.specs.Names.{forward_names, input_start, names_of, output_start, zone_names}
use Rattle.lower_match.specs.Lowers.{set_name}
use Rattle.nf_rules.specs.declared.chain.Chain.{Chain}
use Rattle.nf_rules.specs.declared.set.NfSet.{NfSet}
use Rattle.nf_rules.specs.declared.set.SetBody.{SetBody}
use Rattle.nf_rules.specs.declared.set.SetBody.TheVariants as body

-- the zones that packets may belong to
abbrev pub used_zones : Config → List Zone
used_zones config = filter (is_in_use config) config.zones

-- The chains outside the filter: those of what marks packets, of what translates their destination, and of what has them leave with the
-- host's own address.
pub record AreOutside (config : Config) (zones : List Zone) (chains : List Chain) : Type 0 where
  pub marks : List Chain
  pub targets : List Chain
  pub masks : List Chain
  pub marked : IsSide config side.Marked zones marks
  pub translated : IsSide config side.Translated zones targets
  pub leaving : IsSide config side.Leaving zones masks
  pub are : chains ≡ (marks ++ targets) ++ masks

-- The chains of the hooks, which do there what is done with packets on their way through the firewall, the chains of the settings to
-- which they lead, and those outside the filter; all of them in order of their names.
pub record AreJoined (config : Config) (chains : List Chain) : Type 0 where
  pub inputs : List Chain
  pub forwards : List Chain
  pub outputs : List Chain
  pub settings : List Chain
  pub outside : List Chain
  pub input : InputWorks config (used_zones config) inputs
  pub forward : ForwardWorks config (used_zones config) forwards
  pub output : OutputWorks config (used_zones config) outputs
  pub input_leads : InputLeads config (used_zones config) inputs
  pub forward_leads : ForwardLeads config (used_zones config) forwards
  pub output_leads : OutputLeads config (used_zones config) outputs
  pub input_names : names_of inputs ≡ codes "filter_INPUT" ∷ zone_names input_start (used_zones config)
  pub forward_names : names_of forwards ≡ codes "filter_FORWARD" ∷ forward_names (used_zones config) (used_zones config)
  pub output_names : names_of outputs ≡ codes "filter_OUTPUT" ∷ zone_names output_start (used_zones config)
  pub blocks : AreBlocks config (all_told config (used_zones config)) settings
  pub sides : AreOutside config (used_zones config) outside
  pub all : IsPermutation ((((inputs ++ forwards) ++ outputs) ++ settings) ++ outside) chains
  pub sorted : IsOrdered (λ (chain : Chain). chain.name) chains

-- the entries that a set keeps: none where they come with a timeout (firewalld.ipset(5), `timeout`)
abbrev pub kept : IpSet → List Item
kept set = if set.timeout then [] else set.items

-- nets among items, and hardware addresses
abbrev pub net_of : Item → List Subnet
net_of (item.Net net) = net ∷ []
net_of (item.Mac address) = []

abbrev pub mac_of : Item → List ℕ
mac_of (item.Net net) = []
mac_of (item.Mac address) = address ∷ []

-- a set of hardware addresses by its kind, and else one of nets
abbrev pub body_of : SetKind → List Item → SetBody
body_of kind.Ip items = body.Nets (flat_map net_of items)
body_of kind.Net items = body.Nets (flat_map net_of items)
body_of kind.Mac items = body.Macs (flat_map mac_of items)

-- the set of nft(8) that stands for an ipset
abbrev pub set_of : IpSet → NfSet
set_of set = record { name = set_name set.name; body = body_of set.kind (kept set) }

-- one for each ipset, in order of their names
pub record HaveSets (ipsets : List IpSet) (sets : List NfSet) : Type 0 where
  pub all : IsPermutation (map set_of ipsets) sets
  pub sorted : IsOrdered (λ (set : NfSet). set.name) sets

abbrev pub AreSetsOf : Config → List NfSet → Type 0
AreSetsOf config sets = HaveSets config.ipsets sets

-- What it means that a setting of firewalld is told in matches of nft(8): the setting is about the packets of which the
-- matches hold. The manuals of firewalld (`hits`) stand on one side, the evaluation of nft(8) (`match_at`) on the other.
use Rattle.std.specs.Prelude.{◌≡◌, ℕ, List, ◌++◌, codes, Bool, ◌||◌, Option}
use Rattle.std.specs.List.{list_all, list_any}
use Rattle.fw_addr.specs.declared.addr.Addr.{Addr}
use Rattle.fw_model.specs.Packets.{IsPacket}
use Rattle.fw_model.specs.declared.config.Config.{Config}
use Rattle.fw_model.specs.declared.ipset.IpSet.{IpSet}
use Rattle.fw_model.specs.declared.packet.Packet.{Packet}
use Rattle.fw_model.specs.declared.service.Service.{Service}
use Rattle.fw_model.specs.declared.setting.Setting.{Setting}
use Rattle.fw_hits.specs.Hits.{hits}
use Rattle.fw_hits.specs.Sources.{set_holds}
use Rattle.fw_zone.specs.Lists.{IsIn}
use Rattle.nf_eval.specs.Sets.{holds_address}
use Rattle.nf_chains.specs.Tests.{match_at}
use Rattle.nf_eval.specs.Tests.{is_from_set}
use Rattle.nf_rules.specs.declared.rule.Match.{Match}
use Rattle.nf_rules.specs.declared.ruleset.Ruleset.{Ruleset}
use Rattle.nf_rules.specs.declared.set.NfSet.{NfSet}

-- the name under which an ipset stands in a ruleset
abbrev pub set_name : List ℕ → List ℕ
set_name name = codes "ipset_" ++ name

-- Under an ipset's name the sets hold a sender, by its address or by its hardware address, exactly where the ipset holds it.
abbrev pub StandsFor : List NfSet → IpSet → Type 0
StandsFor sets ipset =
    (address : Addr) (mac : Option ℕ)
    → set_holds ipset address mac ≡ (holds_address sets (set_name ipset.name) address || is_from_set sets (set_name ipset.name) mac)

-- each ipset stands among the sets
abbrev pub EachStands : List IpSet → List NfSet → Type 0
EachStands ipsets sets = (ipset : IpSet) → IsIn ipset ipsets → StandsFor sets ipset

-- all matches of one alternative hold
abbrev pub one_holds : Option (List ℕ) → List NfSet → Packet → List (List Match) → Bool
one_holds leaving sets packet alternatives = list_any (list_all (match_at leaving sets packet)) alternatives

-- A setting, with these services and ipsets, is told in alternatives: for every packet, the setting is about it exactly where all
-- matches of one alternative hold, in every ruleset in which each ipset stands as the set of its name, and by whatever interface the
-- packet leaves, if any.
abbrev pub Lowers : List Service → List IpSet → Setting → List (List Match) → Type 0
Lowers services ipsets told alternatives =
    (config : Config) (rules : Ruleset) (leaving : Option (List ℕ)) (packet : Packet)
    → config.services ≡ services
    → config.ipsets ≡ ipsets
    → EachStands ipsets rules.sets
    → IsPacket packet
    → hits config told packet ≡ one_holds leaving rules.sets packet alternatives

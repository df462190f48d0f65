-- A rich rule is about the packets of which one of its alternatives holds.
use Rattle.std.proofs.Common.{◌≡◌, ◌∙◌, ℕ, Bool, true, false, ◌&&◌, List, [], ◌∷◌, ◌++◌, map, Option, None, Some, refl, sym, ap}
use Rattle.std.proofs.lemmas.List.Folds.{list_all-append}
use Rattle.std.specs.List.{list_all, list_any}
use Rattle.fw_addr.specs.Icmp.{icmp}
use Rattle.fw_addr.specs.declared.packet.Family.{Family}
use Rattle.fw_hits.specs.Hits.{hits}
use Rattle.fw_hits.specs.Plain.{hits_icmp, hits_numbers}
use Rattle.fw_hits.specs.Services.{service_hits}
use Rattle.fw_model.specs.declared.rich.Element.{Element}
use Rattle.fw_model.specs.declared.rich.Element.TheVariants as element
use Rattle.lower_match.specs.Forms.{icmp_alternatives}
use Rattle.lower_match.proofs.Lowered.{numbers_hold}
use Rattle.fw_hits.specs.Rich.{is_at, is_of_element, is_of_rule}
use Rattle.fw_model.specs.Packets.{IsPacket}
use Rattle.fw_model.specs.declared.config.Config.{Config}
use Rattle.fw_model.specs.declared.ipset.IpSet.{IpSet}
use Rattle.fw_model.specs.declared.packet.Packet.{Packet}
use Rattle.fw_model.specs.declared.rich.Rich.{Rich}
use Rattle.fw_model.specs.declared.service.Service.{Service}
use Rattle.fw_model.specs.declared.setting.Setting.TheVariants as setting
use Rattle.lower_match.specs.Lowers.{Lowers, one_holds}
use Rattle.lower_match.specs.RichForms.{LowersElement, behind, sides_ask}
use Rattle.lower_match.proofs.RichSides.{all_hold, sides_hold}
use Rattle.lower_match.proofs.Tests.{any_map, any_same, any_under}
use Rattle.nf_chains.specs.Tests.{match_at}
use Rattle.nf_rules.specs.declared.rule.Match.{Match}
use Rattle.nf_rules.specs.declared.ruleset.Ruleset.{Ruleset}
use Rattle.nf_rules.specs.declared.set.NfSet.{NfSet}

behind_holds : (leaving : Option (List ℕ)) (sets : List NfSet) (packet : Packet) (front : List Match) (alternatives : List (List Match))
    → one_holds leaving sets packet (behind front alternatives) ≡ (list_all (match_at leaving sets packet) front && one_holds leaving sets packet alternatives)
behind_holds leaving sets packet front alternatives =
    any_map (list_all (match_at leaving sets packet)) (λ alternative. front ++ alternative) alternatives
    ∙ any_same (λ alternative. list_all (match_at leaving sets packet) (front ++ alternative)) (λ alternative. list_all (match_at leaving sets packet) front && list_all (match_at leaving sets packet) alternative)
    (λ alternative. list_all-append (match_at leaving sets packet) front alternative) alternatives
    ∙ any_under (list_all (match_at leaving sets packet) front) (list_all (match_at leaving sets packet)) alternatives

-- the parts of a rule, by what they ask
parts : (config : Config) (ipsets : List IpSet) (rules : Ruleset) (leaving : Option (List ℕ)) (packet : Packet) (rule : Rich) (asked : Option (List Match)) (of_element : Bool)
    → config.ipsets ≡ ipsets
    → (is_of_rule rule.family packet && is_at ipsets packet.src packet.mac rule.source && is_at ipsets packet.dst None rule.dest) ≡ all_hold leaving rules.sets packet asked
    → is_of_element config rule.family packet rule.element ≡ of_element
    → hits config (setting.Rich rule) packet ≡ (all_hold leaving rules.sets packet asked && of_element)
parts config ipsets rules leaving packet rule asked of_element same sides is =
    ap (λ (known : List IpSet). (is_of_rule rule.family packet && is_at known packet.src packet.mac rule.source && is_at known packet.dst None rule.dest) && is_of_element config rule.family packet rule.element) same
    ∙ ap (λ (front : Bool). front && is_of_element config rule.family packet rule.element) sides
    ∙ ap (λ (behind : Bool). all_hold leaving rules.sets packet asked && behind) is

-- a rule that no packet meets has no alternative
pub lowers_nothing : (services : List Service) (ipsets : List IpSet) (rule : Rich) → sides_ask ipsets rule ≡ None → Lowers services ipsets (setting.Rich rule) []
lowers_nothing services ipsets rule none config rules leaving packet same same_sets stand is_packet =
    parts config ipsets rules leaving packet rule None (is_of_element config rule.family packet rule.element) same_sets
    (sides_hold ipsets leaving rules.sets stand packet rule ∙ ap (all_hold leaving rules.sets packet) none) refl

pub lowers_rich : (services : List Service) (ipsets : List IpSet) (rule : Rich) (front : List Match) (elements alternatives : List (List Match))
    → sides_ask ipsets rule ≡ Some front
    → LowersElement services rule.family rule.element elements
    → alternatives ≡ behind front elements
    → Lowers services ipsets (setting.Rich rule) alternatives
lowers_rich services ipsets rule front elements alternatives asks lowers made config rules leaving packet same same_sets stand is_packet =
    parts config ipsets rules leaving packet rule (Some front) (one_holds leaving rules.sets packet elements) same_sets
    (sides_hold ipsets leaving rules.sets stand packet rule ∙ ap (all_hold leaving rules.sets packet) asks)
    (lowers config leaving rules.sets packet same is_packet)
    ∙ sym (ap (one_holds leaving rules.sets packet) made ∙ behind_holds leaving rules.sets packet front elements)

pub service_element : (services : List Service) (family : Option Family) (told : Option Element) (name text : List ℕ) (alternatives : List (List Match))
    → told ≡ Some (element.Service name) → text ≡ name
    → ((leaving : Option (List ℕ)) (sets : List NfSet) (packet : Packet) → service_hits services text packet ≡ one_holds leaving sets packet alternatives)
    → LowersElement services family told alternatives
service_element services family told name text alternatives is same_text holds config leaving sets packet same is_packet =
    ap (is_of_element config family packet) is
    ∙ ap (λ (known : List Service). service_hits known name packet) same
    ∙ ap (λ (asked : List ℕ). service_hits services asked packet) (sym same_text)
    ∙ holds leaving sets packet

pub icmp_element : (services : List Service) (family : Option Family) (told : Option Element) (name text : List ℕ) (alternatives : List (List Match))
    → ((config : Config) (packet : Packet) → is_of_element config family packet told ≡ hits_icmp name packet) → text ≡ name
    → alternatives ≡ icmp_alternatives (icmp text)
    → LowersElement services family told alternatives
icmp_element services family told name text alternatives is same_text made config leaving sets packet same is_packet =
    is config packet
    ∙ ap (λ (asked : List ℕ). hits_numbers (icmp asked) packet) (sym same_text)
    ∙ numbers_hold leaving sets packet (icmp text) is_packet
    ∙ ap (one_holds leaving sets packet) (sym made)

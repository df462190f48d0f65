-- No rich rule looks at the mark of a packet.
use Rattle.std.proofs.Common.{◌≡◌, ◌∙◌, ℕ, [], ◌∷◌, Bool, ◌&&◌, ◌||◌, Option, None, Some, refl, ap}
use Rattle.std.specs.Prelude.{if◌then◌else◌}
use Rattle.fw_addr.specs.Icmp.{icmp}
use Rattle.fw_addr.specs.declared.icmp.IcmpNumbers.{IcmpNumbers}
use Rattle.fw_addr.specs.declared.limit.Limit.{Limit}
use Rattle.fw_addr.specs.declared.log.LogKind.TheVariants as kind
use Rattle.fw_addr.specs.declared.packet.Family.{Family}
use Rattle.fw_hits.specs.Plain.{hits_numbers, is_icmpv4, is_icmpv6, is_type}
use Rattle.fw_hits.specs.Rich.{hits_rich, is_at, is_of_element, is_of_rule, may_masquerade}
use Rattle.fw_model.specs.declared.config.Config.{Config}
use Rattle.fw_model.specs.declared.packet.Packet.{Packet}
use Rattle.fw_model.specs.declared.rich.Element.{Element}
use Rattle.fw_model.specs.declared.rich.Element.TheVariants as element
use Rattle.fw_model.specs.declared.rich.Rich.{Rich}
use Rattle.fw_model.specs.declared.rich.RichLog.{RichLog}
use Rattle.fw_verdict.specs.Changes.{with_mark}
use Rattle.fw_verdict.specs.Given.{log_given}
use Rattle.fw_verdict.specs.Rich.{passes}

module _ (mark : ℕ) (packet : Packet) where
  same_family : (wanted : Option Family) → is_of_rule wanted (with_mark mark packet) ≡ is_of_rule wanted packet
  same_family None = refl
  same_family (Some family) = refl

  same_type : (number : Option ℕ) → is_type number (with_mark mark packet) ≡ is_type number packet
  same_type None = refl
  same_type (Some number) = refl

  pub same_numbers : (numbers : Option IcmpNumbers) → hits_numbers numbers (with_mark mark packet) ≡ hits_numbers numbers packet
  same_numbers None = refl
  same_numbers (Some numbers) =
      ap (λ (one : Bool). (is_icmpv4 packet && one) || (is_icmpv6 packet && is_type numbers.v6 (with_mark mark packet))) (same_type numbers.v4)
      ∙ ap (λ (one : Bool). (is_icmpv4 packet && is_type numbers.v4 packet) || (is_icmpv6 packet && one)) (same_type numbers.v6)

  same_masquerade : (wanted : Option Family) → may_masquerade wanted (with_mark mark packet) ≡ may_masquerade wanted packet
  same_masquerade None = refl
  same_masquerade (Some family) = refl

  same_element : (config : Config) (wanted : Option Family) (what : Option Element)
      → is_of_element config wanted (with_mark mark packet) what ≡ is_of_element config wanted packet what
  same_element config wanted None = refl
  same_element config wanted (Some (element.Service name)) = refl
  same_element config wanted (Some (element.Port port)) = refl
  same_element config wanted (Some (element.Protocol protocol)) = refl
  same_element config wanted (Some (element.IcmpBlock name)) = same_numbers (icmp name)
  same_element config wanted (Some (element.IcmpType name)) = same_numbers (icmp name)
  same_element config wanted (Some element.Masquerade) = same_masquerade wanted
  same_element config wanted (Some (element.SourcePort port)) = refl
  same_element config wanted (Some (element.Forward forward)) = refl

  pub same_hit : (config : Config) (rule : Rich) → hits_rich config rule (with_mark mark packet) ≡ hits_rich config rule packet
  same_hit config rule =
      ap (λ (one : Bool). ((one && is_at config.ipsets packet.src packet.mac rule.source) && is_at config.ipsets packet.dst None rule.dest)
      && is_of_element config rule.family (with_mark mark packet) rule.element) (same_family rule.family)
      ∙ ap (λ (one : Bool). ((is_of_rule rule.family packet && is_at config.ipsets packet.src packet.mac rule.source) && is_at config.ipsets packet.dst None rule.dest) && one)
      (same_element config rule.family rule.element)

  pub same_pass : (limit : Option Limit) → passes limit (with_mark mark packet) ≡ passes limit packet
  same_pass None = refl
  same_pass (Some limit) = refl

  pub same_lines : (rich : Option RichLog) → log_given (with_mark mark packet) rich ≡ log_given packet rich
  same_lines None = refl
  same_lines (Some rich) = ap (λ (pass : Bool). if pass then record { kind = kind.Rich; level = rich.level; prefix = rich.prefix } ∷ [] else []) (same_pass rich.limit)

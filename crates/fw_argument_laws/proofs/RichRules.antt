-- Rich rules that texts say name only what there is.
use Rattle.std.proofs.Common.{◌≡◌, ℕ, ◌⊎◌, inl, inr, true, List, Option, None, Some, Ok, Err, is_some, refl, ap, subst}
use Rattle.std.proofs.lemmas.Bool.{and_parts}
use Rattle.fw_act.specs.Acts.{required}
use Rattle.fw_addr.specs.declared.packet.Family.{Family}
use Rattle.fw_model.specs.declared.binding.Binding.{Binding}
use Rattle.fw_model.specs.declared.code.Code.TheVariants as code
use Rattle.fw_model.specs.declared.config.Config.{Config}
use Rattle.fw_model.specs.declared.ipset.IpSet.{IpSet}
use Rattle.fw_model.specs.declared.rich.Element.{Element}
use Rattle.fw_model.specs.declared.rich.Element.TheVariants as element
use Rattle.fw_model.specs.declared.rich.Rich.{Rich}
use Rattle.fw_model.specs.declared.rich.Side.{Side}
use Rattle.fw_model.specs.declared.service.Service.{Service}
use Rattle.fw_rich.specs.Rich.{Refusable, rich_text}
use Rattle.fw_rich.specs.declared.error.RichError.{RichError}
use Rattle.fw_rich.specs.declared.error.RichError.TheVariants as reason
use Rattle.fw_rich_valid.proofs.Rules.{said_is_rich}
use Rattle.fw_valid.specs.Each.{IfThere}
use Rattle.fw_valid.specs.Names.{IsIcmpType, ipset_names, service_names}
use Rattle.fw_valid.specs.Riches.{HasType, IsRich, MayHave}
use Rattle.fw_valid.specs.Rules.{NamesSet}
use Rattle.fw_zone.specs.Lists.{IsIn}
use Rattle.fw_zone_laws.specs.Settings.{IsKnownRule}
use Rattle.fw_zone_members.specs.RichRules.{ipset_known, rule_of, rule_read, service_known, side_known, sides_known, unread}
use Rattle.fw_argument_laws.proofs.Names.{name_among}
use Rattle.fw_argument_laws.proofs.Steps.{both, holds, same_made}

-- what is refused is no rule
refused_unread : (text : List ℕ) (error : RichError) (rule : Rich) → unread text error ≡ Ok rule → ⊥
refused_unread text (reason.Rule offset) rule is = cc
refused_unread text (reason.Part code place) rule is = cc
refused_unread text reason.MissingFamily rule is = cc
refused_unread text reason.Memory rule is = cc

was_read : (text : List ℕ) (read : Refusable Rich) (rule : Rich) → rule_read text read ≡ Ok rule → read ≡ Ok rule
was_read text (Ok other) rule is = ap Ok (same_made other rule (Ok other) refl is)
was_read text (Err error) rule is = absurd (refused_unread text error rule is)

module _ (config : Config) where
  -- the service of an element is there
  known_service : (of : Option Element) (name : List ℕ) → service_known config.services of ≡ true → of ≡ Some (element.Service name) → IsIn name (service_names config)
  known_service of name known is =
      (name_among (λ (service : Service). service.name) config.services name).0 (subst (λ of. service_known config.services of ≡ true) is known)

  -- its ICMP type is, too
  has_type : (of : Option Family) (name : List ℕ) → HasType of name → IsIcmpType name
  has_type of name has = ap (λ found. is_some found) has.1

  known_type : (of : Option Family) (found : Option Element) (name : List ℕ) → IfThere (MayHave of) found
      → ((found ≡ Some (element.IcmpBlock name)) ⊎ (found ≡ Some (element.IcmpType name))) → IsIcmpType name
  known_type of found name may (inl is) = has_type of name (subst (IfThere (MayHave of)) is may)
  known_type of found name may (inr is) = has_type of name (subst (IfThere (MayHave of)) is may)

  -- the ipset of a side is there
  known_set : (side : Option Side) (name : List ℕ) → side_known config.ipsets side ≡ true → NamesSet side name → IsIn name (ipset_names config)
  known_set None name known names = absurd names
  known_set (Some side) name known is =
      (name_among (λ (set : IpSet). set.name) config.ipsets name).0 (subst (λ (what : Binding). ipset_known config.ipsets what ≡ true) is known)

  known_sets : (rule : Rich) (name : List ℕ) → sides_known config.ipsets rule ≡ true → (NamesSet rule.source name ⊎ NamesSet rule.dest name) → IsIn name (ipset_names config)
  known_sets rule name known (inl names) = known_set rule.source name (and_parts _ _ known).0 names
  known_sets rule name known (inr names) = known_set rule.dest name (and_parts _ _ known).1 names

  pub rule_known : (text : List ℕ) (rule : Rich) → rule_of config text ≡ Ok rule → IsKnownRule config rule
  unfolding rule_of
  rule_known text rule is =
      let read = both (rule_read text (rich_text text)) _ rule is in
      let service = both (required (service_known config.services read.0.element) code.InvalidService text) _ rule read.2 in
      let sets = both (required (sides_known config.ipsets read.0) code.InvalidIpset text) _ rule service.2 in
      let rich : IsRich read.0 = said_is_rich text read.0 (was_read text (rich_text text) read.0 read.1) in
      subst (IsKnownRule config) (same_made read.0 rule (Ok read.0) refl sets.2) (record {
        rich = rich;
        service = λ name is_service. known_service read.0.element name (holds _ _ _ service.0 service.1) is_service;
        icmp_type = λ name is_type. known_type read.0.family read.0.element name rich.element is_type;
        ipsets = λ name names. known_sets read.0 name (holds _ _ _ sets.0 sets.1) names;
      })

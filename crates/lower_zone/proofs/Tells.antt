-- Conditions that are told in alternatives.
use Rattle.std.proofs.Common.{◌≡◌, ◌∙◌, ◌==◌, ℕ, Bool, true, false, not, ◌&&◌, ◌||◌, List, [], ◌∷◌, ◌++◌, map, Option, None, Some, refl, sym, ap, subst}
use Rattle.std.proofs.lemmas.Bool.{eqb-true}
use Rattle.std.proofs.lemmas.List.Folds.{list_all-append, list_any-append}
use Rattle.std.specs.List.{list_all, list_any}
use Rattle.fw_addr.specs.Protocols.{icmp_protocol, icmpv6_protocol}
use Rattle.fw_addr.specs.Subnets.{family}
use Rattle.fw_addr.specs.declared.addr.Addr.{Addr}
use Rattle.fw_addr.specs.declared.addr.Addr.TheVariants as addr
use Rattle.fw_addr.specs.declared.limit.Limit.{Limit}
use Rattle.fw_addr.specs.declared.packet.Family.TheVariants.{V4, V6}
use Rattle.fw_hits.specs.Hits.{hits}
use Rattle.fw_hits.specs.Plain.{is_icmp, is_icmpv4, is_icmpv6, is_ipv4}
use Rattle.fw_limit.specs.Within.{is_within}
use Rattle.fw_model.specs.Packets.{IsPacket, is_v4}
use Rattle.fw_model.specs.declared.config.Config.{Config}
use Rattle.fw_model.specs.declared.ipset.IpSet.{IpSet}
use Rattle.fw_model.specs.declared.packet.Packet.{Packet}
use Rattle.fw_model.specs.declared.service.Service.{Service}
use Rattle.fw_model.specs.declared.setting.Setting.{Setting}
use Rattle.fw_verdict.specs.Rich.{passes}
use Rattle.lower_match.specs.Lowers.{EachStands, Lowers}
use Rattle.lower_match.specs.Stands.{Stand, alternatives_stand, matches_stand}
use Rattle.lower_zone.proofs.Built.{all_joined, both}
use Rattle.lower_zone.specs.Evaluates.{Meeting}
use Rattle.lower_zone.specs.Forms.{icmp_alternatives, limit_matches, limited}
use Rattle.lower_zone.specs.Work.{Tells, one_holds_at}
use Rattle.nf_chains.specs.Moments.{Moment}
use Rattle.nf_chains.specs.Tests.{match_at}
use Rattle.nf_rules.specs.declared.rule.Match.{Match}
use Rattle.nf_rules.specs.declared.ruleset.Ruleset.{Ruleset}
use Rattle.nf_rules.specs.declared.set.NfSet.{NfSet}
use Rattle.nf_sound.specs.Sound.{test_stands}

pub any_map : {A B : Type 0} (test : B → Bool) (of : A → B) (xs : List A) → list_any test (map of xs) ≡ list_any (λ x. test (of x)) xs
any_map test of [] = refl
any_map test of (x ∷ xs) = ap (λ (rest : Bool). test (of x) || rest) (any_map test of xs)

pub any_same : {A : Type 0} (one other : A → Bool) → ((x : A) → one x ≡ other x) → (xs : List A) → list_any one xs ≡ list_any other xs
any_same one other same [] = refl
any_same one other same (x ∷ xs) =
    ap (λ (first : Bool). first || list_any one xs) (same x)
    ∙ ap (λ (rest : Bool). other x || rest) (any_same one other same xs)

distributed : (one other condition : Bool) → ((one && condition) || (other && condition)) ≡ ((one || other) && condition)
distributed true other true = refl
distributed true true false = refl
distributed true false false = refl
distributed false other condition = refl

and_true : (b : Bool) → (b && true) ≡ b
and_true true = refl
and_true false = refl

or_false : (b : Bool) → (b || false) ≡ b
or_false true = refl
or_false false = refl

any_with : {A : Type 0} (condition : Bool) (test : A → Bool) (xs : List A) → list_any (λ x. test x && condition) xs ≡ (list_any test xs && condition)
any_with condition test [] = refl
any_with condition test (x ∷ xs) =
    ap (λ (rest : Bool). (test x && condition) || rest) (any_with condition test xs)
    ∙ distributed (test x) (list_any test xs) condition

-- the alternatives of a setting
pub tells_setting : (config : Config) (told : Setting) (alternatives : List (List Match)) (services : List Service) (ipsets : List IpSet)
    → services ≡ config.services → ipsets ≡ config.ipsets
    → Lowers services ipsets told alternatives → Stand ipsets alternatives → Tells config alternatives (hits config told)
tells_setting config told alternatives services ipsets same same_sets lowers stand = record {
  holds = λ rules leaving now meeting.
      lowers config rules leaving now.packet (sym same) (sym same_sets)
      (subst (λ (sets : List IpSet). EachStands sets rules.sets) (sym same_sets) meeting.sets) meeting.packet;
  stand = subst (λ (sets : List IpSet). Stand sets alternatives) same_sets stand;
}

-- nothing is told by no alternative
pub tells_nothing : (config : Config) → Tells config [] (λ packet. false)
tells_nothing config = record { holds = λ rules leaving now meeting. refl; stand = λ rules sets. refl }

-- one of two conditions
pub tells_either : (config : Config) (one other : List (List Match)) (first second : Packet → Bool)
    → Tells config one first → Tells config other second → Tells config (one ++ other) (λ packet. first packet || second packet)
tells_either config one other first second is is' = record {
  holds = λ rules leaving now meeting.
      ap (λ (hit : Bool). hit || second now.packet) (is.holds rules leaving now meeting)
      ∙ ap (λ (hit : Bool). one_holds_at leaving rules now.packet one || hit) (is'.holds rules leaving now meeting)
      ∙ sym (list_any-append (list_all (match_at leaving rules.sets now.packet)) one other);
  stand = λ rules sets. all_joined (matches_stand rules) one other (is.stand rules sets) (is'.stand rules sets);
}

pub tells_same : (config : Config) (alternatives : List (List Match)) (one other : Packet → Bool)
    → ((packet : Packet) → other packet ≡ one packet) → Tells config alternatives one → Tells config alternatives other
tells_same config alternatives one other same is = record {
  holds = λ rules leaving now meeting. same now.packet ∙ is.holds rules leaving now meeting;
  stand = is.stand;
}

-- a limit is passed where its test holds
limit_holds : (sets : List NfSet) (leaving : Option (List ℕ)) (packet : Packet) (limit : Option Limit)
    → passes limit packet ≡ list_all (match_at leaving sets packet) (limit_matches limit)
limit_holds sets leaving packet None = refl
limit_holds sets leaving packet (Some limit) =
    sym (and_true (is_within limit packet.limits))

-- a limit looks up no set
limited_stands : (rules : Ruleset) (limit : Option Limit) (alternatives : List (List Match)) → alternatives_stand rules alternatives ≡ true → alternatives_stand rules (limited limit alternatives) ≡ true
limited_stands rules limit [] all = refl
limited_stands rules limit (alternative ∷ others) all =
    both (matches_stand rules (alternative ++ limit_matches limit)) _
    (all_joined (λ (tested : Match). test_stands rules tested.test) alternative (limit_matches limit) (left (matches_stand rules alternative) _ all) (one limit))
    (limited_stands rules limit others (right (matches_stand rules alternative) _ all))
  where
    one : (some : Option Limit) → matches_stand rules (limit_matches some) ≡ true
    one None = refl
    one (Some limit) = refl

    left : (a b : Bool) → (a && b) ≡ true → a ≡ true
    left true b is = refl
    left false b is = cc

    right : (a b : Bool) → (a && b) ≡ true → b ≡ true
    right true b is = is
    right false b is = cc

-- what is told, within a limit
pub tells_limited : (config : Config) (alternatives : List (List Match)) (condition : Packet → Bool) (limit : Option Limit)
    → Tells config alternatives condition → Tells config (limited limit alternatives) (λ packet. condition packet && passes limit packet)
tells_limited config alternatives condition limit is = record {
  holds = λ rules leaving now meeting.
      let each_holds = list_all (match_at leaving rules.sets now.packet) in
      ap (λ (hit : Bool). hit && passes limit now.packet) (is.holds rules leaving now meeting)
      ∙ ap (λ (passed : Bool). list_any each_holds alternatives && passed) (limit_holds rules.sets leaving now.packet limit)
      ∙ sym (any_with (each_holds (limit_matches limit)) each_holds alternatives)
      ∙ sym (any_same (λ alternative. each_holds (alternative ++ limit_matches limit)) (λ alternative. each_holds alternative && each_holds (limit_matches limit))
      (λ alternative. list_all-append (match_at leaving rules.sets now.packet) alternative (limit_matches limit)) alternatives)
      ∙ sym (any_map each_holds (λ alternative. alternative ++ limit_matches limit) alternatives);
  stand = λ rules sets. limited_stands rules limit alternatives (is.stand rules sets);
}

of_v4 : (address : Addr) → family address ≡ V4 → is_v4 address ≡ true
of_v4 (addr.V4 number) same = refl
of_v4 (addr.V6 number) same = cc

of_v6 : (address : Addr) → family address ≡ V6 → is_v4 address ≡ false
of_v6 (addr.V4 number) same = cc
of_v6 (addr.V6 number) same = refl

-- what follows from a test may be asked with it
implied : (one other : Bool) → (one ≡ true → other ≡ true) → (one && other) ≡ one
implied true other gives = gives refl
implied false other gives = refl

icmp_of : (packet : Packet) → IsPacket packet → is_icmp packet ≡ (packet.proto == icmp_protocol || packet.proto == icmpv6_protocol)
icmp_of packet is_packet =
    ap (λ (hit : Bool). hit || is_icmpv6 packet)
    (implied (packet.proto == icmp_protocol) (is_ipv4 packet) (λ same. of_v4 packet.src (is_packet.icmp (eqb-true packet.proto icmp_protocol same))))
    ∙ ap (λ (hit : Bool). packet.proto == icmp_protocol || hit)
    (implied (packet.proto == icmpv6_protocol) (not (is_ipv4 packet)) (λ same. ap not (of_v6 packet.src (is_packet.icmpv6 (eqb-true packet.proto icmpv6_protocol same)))))

-- two alternatives of one test each
two_hold : (one other : Bool) → (one || other) ≡ ((one && true) || ((other && true) || false))
two_hold true other = refl
two_hold false true = refl
two_hold false false = refl

-- ICMP is told by its two protocols
pub tells_icmp : (config : Config) → Tells config icmp_alternatives is_icmp
tells_icmp config = record {
  holds = λ rules leaving now meeting.
      icmp_of now.packet meeting.packet ∙ two_hold (now.packet.proto == icmp_protocol) (now.packet.proto == icmpv6_protocol);
  stand = λ rules sets. refl;
}

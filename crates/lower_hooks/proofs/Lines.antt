-- What the lines of denied packets do.
use Rattle.std.proofs.Common.{◌≡◌, ◌∙◌, ◌≤◌, ℕ, Bool, true, false, ◌&&◌, ◌||◌, List, [], ◌∷◌, ◌++◌, length, Option, refl, ap, subst, arith}
use Rattle.std.proofs.lemmas.List.Folds.{list_all-append}
use Rattle.std.specs.Prelude.{if◌then◌else◌}
use Rattle.std.specs.List.{list_all}
use Rattle.fw_addr.specs.declared.log.LogLine.{LogLine}
use Rattle.fw_addr.specs.declared.packet.PktType.{PktType}
use Rattle.fw_addr.specs.declared.packet.PktType.TheVariants as to
use Rattle.fw_model.specs.declared.config.LogDenied.{LogDenied}
use Rattle.fw_model.specs.declared.config.LogDenied.TheVariants as denied
use Rattle.fw_model.specs.declared.packet.Packet.{Packet}
use Rattle.fw_verdict.specs.Denied.{denial, is_told}
use Rattle.fw_verdict.specs.Walk.{Walked, done, nothing}
use Rattle.fw_verdict.specs.Walk.Effect.{log}
use Rattle.lower_hooks.specs.Rules.{denial_rules, told_of}
use Rattle.lower_zone.proofs.Alternatives.{alone_logs}
use Rattle.lower_zone.specs.Forms.{is}
use Rattle.lower_zone.specs.Work.{Do, one_holds_at}
use Rattle.nf_chains.specs.Moments.{Moment}
use Rattle.nf_chains.specs.Tests.{match_at}
use Rattle.nf_eval.specs.Tests.{is_same_type}
use Rattle.nf_rules.specs.declared.rule.Match.{Match}
use Rattle.nf_rules.specs.declared.ruleset.Ruleset.{Ruleset}
use Rattle.nf_rules.specs.declared.test.Test.TheVariants as test

-- a line under a condition
abbrev pub line_when : Bool → LogLine → Walked
line_when hit line = if hit then done (log line) else nothing

both_hold : (one other : Bool) → ((one && (other && true)) || false) ≡ (one && other)
both_hold true true = refl
both_hold true false = refl
both_hold false other = refl

alone_holds : (one : Bool) → (one || false) ≡ (one && true)
alone_holds true = refl
alone_holds false = refl

never_holds : (one : Bool) → false ≡ (one && false)
never_holds true = refl
never_holds false = refl

to_unicast : (kind : PktType) → is_same_type kind to.Unicast ≡ is_told denied.Unicast kind
to_unicast to.Unicast = refl
to_unicast to.Broadcast = refl
to_unicast to.Multicast = refl

to_broadcast : (kind : PktType) → is_same_type kind to.Broadcast ≡ is_told denied.Broadcast kind
to_broadcast to.Unicast = refl
to_broadcast to.Broadcast = refl
to_broadcast to.Multicast = refl

to_multicast : (kind : PktType) → is_same_type kind to.Multicast ≡ is_told denied.Multicast kind
to_multicast to.Unicast = refl
to_multicast to.Broadcast = refl
to_multicast to.Multicast = refl

few : (asked : List Match) (told : LogDenied) → length (told_of asked told) ≤ 1
few asked denied.Off = omega arith
few asked denied.All = omega arith
few asked denied.Unicast = omega arith
few asked denied.Broadcast = omega arith
few asked denied.Multicast = omega arith

module _ (table : Ruleset) (leaving : Option (List ℕ)) where
  module _ (packet : Packet) (asked : List Match) where
    abbrev asks : Bool
    asks = list_all (match_at leaving table.sets packet) asked

    addressed_hold : (kind : PktType) (told : Bool) → is_same_type packet.pkt kind ≡ told
        → one_holds_at leaving table packet ((asked ++ is (test.Pkt kind) ∷ []) ∷ []) ≡ (asks && told)
    addressed_hold kind told same =
        ap (λ (all : Bool). all || false) (list_all-append (match_at leaving table.sets packet) asked (is (test.Pkt kind) ∷ []))
        ∙ both_hold asks (is_same_type packet.pkt kind)
        ∙ ap (λ (one : Bool). asks && one) same

    told_hold : (told : LogDenied) → one_holds_at leaving table packet (told_of asked told) ≡ (asks && is_told told packet.pkt)
    told_hold denied.Off = never_holds asks
    told_hold denied.All = alone_holds asks
    told_hold denied.Unicast = addressed_hold to.Unicast (is_told denied.Unicast packet.pkt) (to_unicast packet.pkt)
    told_hold denied.Broadcast = addressed_hold to.Broadcast (is_told denied.Broadcast packet.pkt) (to_broadcast packet.pkt)
    told_hold denied.Multicast = addressed_hold to.Multicast (is_told denied.Multicast packet.pkt) (to_multicast packet.pkt)

  -- The line of a denial is logged of the packets of these matches that are told of.
  pub denial_does : (asked : List Match) (told : LogDenied) (prefix : List ℕ) (now : Moment) (hit : Bool)
      → list_all (match_at leaving table.sets now.packet) asked ≡ hit
      → Do table leaving (denial_rules asked told prefix) now (line_when (hit && is_told told now.packet.pkt) (denial prefix))
  denial_does asked told prefix now hit is =
      subst (λ (one : Bool). Do table leaving (denial_rules asked told prefix) now (line_when one (denial prefix)))
      (told_hold now.packet asked told ∙ ap (λ (one : Bool). one && is_told told now.packet.pkt) is)
      (alone_logs table leaving (denial prefix) (told_of asked told) now (few asked told))

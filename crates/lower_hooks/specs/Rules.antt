-- Rules of one statement, lines of denied packets, and the rules that stand first at the hooks.
use Rattle.std.specs.Prelude.{ℕ, List, [], ◌∷◌, ◌++◌, codes}
use Rattle.fw_addr.specs.Protocols.{icmp_protocol, icmpv6_protocol}
use Rattle.fw_addr.specs.declared.packet.CtState.TheVariants as state
use Rattle.fw_addr.specs.declared.packet.PktType.{PktType}
use Rattle.fw_addr.specs.declared.packet.PktType.TheVariants as to
use Rattle.fw_model.specs.declared.config.Config.{Config}
use Rattle.fw_model.specs.declared.config.LogDenied.{LogDenied}
use Rattle.fw_model.specs.declared.config.LogDenied.TheVariants as denied
use Rattle.fw_model.specs.declared.outcome.Verdict.{Verdict}
use Rattle.fw_model.specs.declared.outcome.Verdict.TheVariants as verdict
use Rattle.fw_verdict.specs.Denied.{denial, invalid_prefix}
use Rattle.lower_zone.specs.Forms.{each, is, statement}
use Rattle.nf_rules.specs.declared.rule.Match.{Match}
use Rattle.nf_rules.specs.declared.rule.Rule.{Rule}
use Rattle.nf_rules.specs.declared.statement.Stmt.TheVariants as stmt
use Rattle.nf_rules.specs.declared.test.Test.{Test}
use Rattle.nf_rules.specs.declared.test.Test.TheVariants as test

-- decides of every packet
abbrev pub always : Verdict → List Rule
always chosen = each (statement chosen ∷ []) ([] ∷ [])

-- decides of the packets of a test
abbrev pub where_is : Test → Verdict → List Rule
where_is asked chosen = each (statement chosen ∷ []) ((is asked ∷ []) ∷ [])

-- which of the packets of these matches are told of: all, or those that the link layer addressed so (nft(8), META EXPRESSIONS, pkttype)
abbrev pub addressed : List Match → PktType → List (List Match)
addressed asked kind = (asked ++ is (test.Pkt kind) ∷ []) ∷ []

abbrev pub told_of : List Match → LogDenied → List (List Match)
told_of asked denied.Off = []
told_of asked denied.All = asked ∷ []
told_of asked denied.Unicast = addressed asked to.Unicast
told_of asked denied.Broadcast = addressed asked to.Broadcast
told_of asked denied.Multicast = addressed asked to.Multicast

-- the line before a denial of packets of these matches
abbrev pub denial_rules : List Match → LogDenied → (prefix : List ℕ) → List Rule
denial_rules asked told prefix = each (stmt.Log (denial prefix) ∷ []) (told_of asked told)

-- packets of connections that were let in
abbrev pub known_rules : List Rule
known_rules = where_is (test.State state.Established) verdict.Accept ++ where_is (test.State state.Related) verdict.Accept

-- ICMP is accepted
abbrev pub icmp_rules : List Rule
icmp_rules = where_is (test.Proto icmp_protocol) verdict.Accept ++ where_is (test.Proto icmpv6_protocol) verdict.Accept

-- packets of no connection are dropped, behind a line where denied packets are told of
abbrev pub invalid_rules : Config → List Rule
invalid_rules config = denial_rules (is (test.State state.Invalid) ∷ []) config.log_denied invalid_prefix ++ where_is (test.State state.Invalid) verdict.Drop

-- what is decided first of packets to the host and of those that are forwarded
abbrev pub early_rules : Config → List Rule
early_rules config = known_rules ++ where_is test.Dnat verdict.Accept ++ where_is (test.In (codes "lo")) verdict.Accept ++ invalid_rules config

-- packets of the host that leave by the loopback interface
abbrev pub lo_out : List Rule
lo_out = where_is (test.Out (codes "lo")) verdict.Accept

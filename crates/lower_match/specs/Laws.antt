-- Laws of sources: what their tests ask of a packet (firewalld.zone(5), `source`).
use Rattle.std.specs.Prelude.{◌≡◌, ℕ, List, Bool, false, Option, None, Some, IsTrue}
use Rattle.fw_hits.specs.Sources.{matches_source}
use Rattle.fw_model.specs.declared.binding.Binding.{Binding}
use Rattle.fw_model.specs.declared.ipset.IpSet.{IpSet}
use Rattle.fw_model.specs.declared.packet.Packet.{Packet}
use Rattle.lower_match.specs.Lowers.{EachStands}
use Rattle.lower_match.specs.RichForms.{receiver_test, source_test}
use Rattle.lower_match.specs.Stands.{EachHasSet, asked_stands}
use Rattle.nf_chains.specs.Tests.{test_at}
use Rattle.nf_rules.specs.declared.ruleset.Ruleset.{Ruleset}
use Rattle.nf_rules.specs.declared.set.NfSet.{NfSet}
use Rattle.nf_rules.specs.declared.test.Test.{Test}

-- a test, or what never holds
abbrev pub asked_holds : Option (List ℕ) → List NfSet → Packet → Option Test → Bool
asked_holds leaving sets packet None = false
asked_holds leaving sets packet (Some asked) = test_at leaving sets packet asked

-- A source means the packets of which its test holds, and none where there is no test. Of receivers no hardware address is known.
pub record AreSourcesTold : Type 0 where
  pub senders : (ipsets : List IpSet) (leaving : Option (List ℕ)) (sets : List NfSet) (packet : Packet) (told : Binding)
      → EachStands ipsets sets
      → matches_source ipsets packet.src packet.mac told ≡ asked_holds leaving sets packet (source_test ipsets told)
  pub receivers : (ipsets : List IpSet) (leaving : Option (List ℕ)) (sets : List NfSet) (packet : Packet) (told : Binding)
      → EachStands ipsets sets
      → matches_source ipsets packet.dst None told ≡ asked_holds leaving sets packet (receiver_test ipsets told)
  -- their tests look up sets of ipsets alone
  pub senders_stand : (ipsets : List IpSet) (rules : Ruleset) (told : Binding)
      → EachHasSet ipsets rules → IsTrue (asked_stands rules (source_test ipsets told))
  pub receivers_stand : (ipsets : List IpSet) (rules : Ruleset) (told : Binding)
      → EachHasSet ipsets rules → IsTrue (asked_stands rules (receiver_test ipsets told))

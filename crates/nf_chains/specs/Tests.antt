-- Tests where it is known by which interface a packet leaves (nft(8), META EXPRESSIONS, oifname).
use Rattle.std.specs.Prelude.{ℕ, List, Bool, false, not, if◌then◌else◌, Option, None, Some}
use Rattle.fw_addr.specs.Interfaces.{matches}
use Rattle.fw_model.specs.declared.packet.Packet.{Packet}
use Rattle.nf_eval.specs.Tests.{test_holds}
use Rattle.nf_rules.specs.declared.rule.Match.{Match}
use Rattle.nf_rules.specs.declared.set.NfSet.{NfSet}
use Rattle.nf_rules.specs.declared.test.Test.{Test}
use Rattle.nf_rules.specs.declared.test.Test.TheVariants as test

-- An interface entry stands for the interface by which a packet leaves. Before routing, and to the host, it leaves by none.
abbrev pub leaves_by : List ℕ → Option (List ℕ) → Bool
leaves_by entry None = false
leaves_by entry (Some name) = matches entry name

-- All other tests are those of `test_holds`.
abbrev pub test_at : Option (List ℕ) → List NfSet → Packet → Test → Bool
test_at leaving sets packet (test.Out entry) = leaves_by entry leaving
test_at leaving sets packet other = test_holds sets packet other

-- `not` turns the whole test round.
abbrev pub match_at : Option (List ℕ) → List NfSet → Packet → Match → Bool
match_at leaving sets packet tested =
    if tested.not then not (test_at leaving sets packet tested.test) else test_at leaving sets packet tested.test

-- Four pieces, one behind the other.
use Rattle.std.proofs.Common.{ℕ, List, ◌++◌, codes, string_bytes}
use Rattle.std.proofs.lemmas.Result.{on_ok_weaker}
use Rattle.nf_rules.proofs.Joins.{four_joined}
use Rattle.nf_rules.specs.Statements.{hex_word, inverted, mark_text}
use Rattle.nf_rules.proofs.printing.statements.push_mark.Goals as goal

pub returns : goal.returns
unfolding mark_text
returns c =
    on_ok_weaker c.push_word-2.result
    (four_joined (string_bytes c.args.out.now) _ _ _ _ (codes "meta mark set mark and 0x") (hex_word (inverted c.args.mask)) (codes " xor 0x") (hex_word c.args.value)
    c.in_ok-push_str.ensures.bytes c.in_ok-push_word.ensures c.in_ok-push_str-2.ensures.bytes)
    c.push_word-2.ensures

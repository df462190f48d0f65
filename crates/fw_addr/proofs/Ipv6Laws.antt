-- An IPv6 text that was printed: its zeros, and that it is read back.
use Rattle.std.proofs.Common.{◌≡◌, ◌≢◌, ℕ, zero, suc, ◌/◌, ◌^◌, ◌<◌, List, [], ◌∷◌, length, get_or, Some, None, refl, ap, ◌∙◌, arith, lit<, zero-add}
use Rattle.std.specs.Int.Digits.{number_from_digits}
use Rattle.std.specs.Net.Text.{hex_groups_text, longest_zero_run}
use Rattle.std.specs.Option.{option_map}
use Rattle.std.proofs.NetLemmas.Alphabet.{All-hex_groups_text, IsHexOrColon}
use Rattle.std.proofs.NetLemmas.Texts.{AllSegments, IsColonHex-hex_groups_text, IsZeroRun-longest_zero_run, longest_zero_run_first}
use Rattle.std.proofs.lemmas.Bool.{ne_eqb}
use Rattle.std.proofs.lemmas.Nat.{mod_below}
use Rattle.fw_addr.specs.Addresses.{ipv4, ipv6, octets}
use Rattle.fw_addr.specs.Canonical.{LeavesLongestOut, groups_of, ipv6_text}
use Rattle.fw_addr.proofs.Ipv6Grammar.{colon_hex_some}
use Rattle.fw_addr.proofs.LawLemmas.{Lacks, ReadsDecimals, lowest, pieces_last, recompose}

-- each group has 16 bits
abbrev AllSmall : List ℕ → Type 0
AllSmall [] = Unit {0}
AllSmall (value ∷ values) = (value < 65536) × AllSmall values

small_at : (values : List ℕ) → AllSmall values → AllSegments values
small_at [] small k = omega arith
small_at (value ∷ values) small k =
    let later = small_at values small.1 in
    elim k as (λ j. get_or (value ∷ values) j 0 < 2 ^ 16) [ zero ↦ small.0 | suc j ↦ later j ]

small_groups : (n : ℕ) → n < 2 ^ 128 → AllSegments (groups_of n)
small_groups n small =
    let low = λ (k : ℕ). mod_below (n / 2 ^ k) 65536 (lit< tt) in
    small_at (groups_of n) (omega arith, (low 96, (low 80, (low 64, (low 48, (low 32, (low 16, (mod_below n 65536 (lit< tt), tt))))))))

number_back : (n : ℕ) → number_from_digits 65536 (groups_of n) ≡ n
number_back n = rw (zero-add, recompose n 96 16, recompose n 80 16, recompose n 64 16, recompose n 48 16, recompose n 32 16, recompose n 16 16) (lowest n 16)

pub ipv6_back : ReadsDecimals → (n : ℕ) → n < 2 ^ 128 → ipv6 (ipv6_text n) ≡ Some n
ipv6_back reads n small =
    let spells = IsColonHex-hex_groups_text (groups_of n) refl (small_groups n small) in
    ap (option_map (number_from_digits 65536)) (colon_hex_some reads (ipv6_text n) (groups_of n) spells) ∙ ap Some (number_back n)

pub leaves_longest_out : (n : ℕ) → LeavesLongestOut (groups_of n) (ipv6_text n)
unfolding hex_groups_text
leaves_longest_out n = record {
  start = (longest_zero_run (groups_of n)).0;
  count = (longest_zero_run (groups_of n)).1;
  text_is = refl;
  zeros = IsZeroRun-longest_zero_run (groups_of n);
  longest = λ from many is. (longest_zero_run_first (groups_of n) from many is).0;
  first = λ from many is. (longest_zero_run_first (groups_of n) from many is).1;
}

-- the text has neither `.` nor `/`
lacks_from : (byte : ℕ) (text : List ℕ) → ((c : ℕ) → IsHexOrColon c → c ≢ byte) → ((k : ℕ) → k < length text → IsHexOrColon (get_or text k 0)) → Lacks byte text
lacks_from byte [] other all = tt
lacks_from byte (first ∷ text) other all = (ne_eqb first byte (other first (all 0 (omega arith))), lacks_from byte text other (λ k below. all (suc k) (omega arith)))

pub ipv6_lacks : (byte n : ℕ) → ((c : ℕ) → IsHexOrColon c → c ≢ byte) → n < 2 ^ 128 → Lacks byte (ipv6_text n)
ipv6_lacks byte n other small =
    let all = All-hex_groups_text (groups_of n) (small_groups n small) in
    lacks_from byte (ipv6_text n) other (λ k below. all k 0 below)

-- so it is no IPv4 text
pub ipv6_no_ipv4 : (n : ℕ) → n < 2 ^ 128 → ipv4 (ipv6_text n) ≡ None
ipv6_no_ipv4 n small = ap octets (pieces_last 46 (ipv6_text n) (ipv6_lacks 46 n (λ c is same. omega (arith, is, same)) small))

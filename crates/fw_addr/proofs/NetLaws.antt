-- The text of a net that was printed is read back.
use Rattle.std.proofs.Common.{◌≡◌, ℕ, ◌-◌, ◌^◌, ◌%◌, ◌<◌, ◌≤◌, Bool, true, false, cond, eqb, List, [], ◌∷◌, ◌++◌, Some, refl, sym, ap, ◌∙◌, arith, lit≤}
use Rattle.std.specs.Fmt.{decimal}
use Rattle.std.proofs.lemmas.Bool.{and_parts, eqb-true, leb-true}
use Rattle.fw_text.specs.Pieces.{pieces}
use Rattle.fw_addr.specs.Addresses.{address}
use Rattle.fw_addr.specs.Canonical.{address_text}
use Rattle.fw_addr.specs.Nets.{net, net_of, net_text, prefix_length}
use Rattle.fw_addr.specs.Subnets.{Subnet, bits, is_subnet, subnet, width}
use Rattle.fw_addr.specs.declared.addr.Addr.{Addr}
use Rattle.fw_addr.specs.declared.addr.Addr.TheVariants.{V4, V6}
use Rattle.fw_addr.proofs.Ipv6Laws.{ipv6_back, ipv6_lacks, ipv6_no_ipv4}
use Rattle.fw_addr.proofs.LawLemmas.{Lacks, ReadsDecimals, decimal_lacks, ipv4_back, ipv4_lacks, number_to-decimal, pieces_last, pieces_next}
use Rattle.fw_addr.proofs.NetLemmas.{cleared_self}

pub address_back : ReadsDecimals → (host : Addr) → bits host < 2 ^ width host → address (address_text host) ≡ Some host
address_back reads (V4 n) small = rw (ipv4_back reads n small) refl
address_back reads (V6 n) small = rw (ipv6_no_ipv4 n small, ipv6_back reads n small) refl

-- no address has a `/`
address_lacks : (host : Addr) → bits host < 2 ^ width host → Lacks 47 (address_text host)
address_lacks (V4 n) small = ipv4_lacks n small
address_lacks (V6 n) small = ipv6_lacks 47 n (λ c is same. omega (arith, is, same)) small

-- a net is the net of its own address
subnet_self : (host : Addr) (prefix : ℕ) → is_subnet (record { address = host; prefix = prefix }) ≡ true → subnet host prefix ≡ record { address = host; prefix = prefix }
subnet_self (V4 n) prefix is =
    let parts = and_parts _ (eqb (n % 2 ^ (32 - prefix)) 0) is in
    let make : ℕ → Subnet = λ m. record { address = V4 m; prefix = prefix } in
    ap make (cleared_self n (32 - prefix) (eqb-true _ _ parts.1))
subnet_self (V6 n) prefix is =
    let parts = and_parts _ (eqb (n % 2 ^ (128 - prefix)) 0) is in
    let make : ℕ → Subnet = λ m. record { address = V6 m; prefix = prefix } in
    ap make (cleared_self n (128 - prefix) (eqb-true _ _ parts.1))

prefix_back : ReadsDecimals → (host : Addr) (prefix : ℕ) → prefix ≤ width host → prefix_length host (decimal prefix) ≡ Some prefix
prefix_back reads (V4 n) prefix fits = rw (number_to-decimal reads 32 prefix fits (omega arith)) refl
prefix_back reads (V6 n) prefix fits = number_to-decimal reads 128 prefix fits (omega arith)

width_small : (host : Addr) → width host ≤ 128
width_small (V4 n) = lit≤ tt
width_small (V6 n) = lit≤ tt

pub net_back : ReadsDecimals → (whole : Subnet) → is_subnet whole ≡ true → bits whole.address < 2 ^ width whole.address → net (net_text whole) ≡ Some whole
net_back reads whole is small = by_test (eqb whole.prefix (width whole.address)) refl
  where
    by_test : (t : Bool) → eqb whole.prefix (width whole.address) ≡ t
        → net (cond t (address_text whole.address) (address_text whole.address ++ 47 ∷ decimal whole.prefix)) ≡ Some whole
    by_test true full =
        let prefix_is : whole.prefix ≡ width whole.address = eqb-true _ _ full in
        let self : subnet whole.address whole.prefix ≡ whole = subnet_self whole.address whole.prefix is in
        let alone = pieces_last 47 (address_text whole.address) (address_lacks whole.address small) in
        ap net_of alone ∙ rw (address_back reads whole.address small) (ap Some (ap (λ n. subnet whole.address n) (sym prefix_is) ∙ self))
    by_test false part =
        let fits : whole.prefix ≤ width whole.address = leb-true _ _ (and_parts _ _ is).0 in
        let self : subnet whole.address whole.prefix ≡ whole = subnet_self whole.address whole.prefix is in
        let most = width_small whole.address in
        let two : pieces 47 (address_text whole.address ++ 47 ∷ decimal whole.prefix) ≡ address_text whole.address ∷ decimal whole.prefix ∷ [] =
        pieces_next 47 (address_text whole.address) (decimal whole.prefix) (address_lacks whole.address small)
        ∙ ap (λ (rest : List (List ℕ)). address_text whole.address ∷ rest) (pieces_last 47 (decimal whole.prefix) (decimal_lacks 47 whole.prefix (lit≤ tt) (omega (arith, fits, most)))) in
        ap net_of two ∙ rw (address_back reads whole.address small, prefix_back reads whole.address whole.prefix fits) (ap Some self)

-- What named sets hold (nft(8), "SETS"). A set of another kind than is asked for holds nothing, and so does a name that no
-- set has.
use Rattle.std.specs.Prelude.{ℕ, List, Bool, false, ◌==◌, ◌&&◌}
use Rattle.std.specs.List.{list_any}
use Rattle.std.specs.Str.{bytes_eq}
use Rattle.fw_addr.specs.Ports.{in_range}
use Rattle.fw_addr.specs.Subnets.{in_net}
use Rattle.fw_addr.specs.declared.addr.Addr.{Addr}
use Rattle.nf_rules.specs.declared.set.NfSet.{NfSet}
use Rattle.nf_rules.specs.declared.set.SetBody.{SetBody}
use Rattle.nf_rules.specs.declared.set.SetBody.TheVariants.{Nets, Macs, Ports}

abbrev pub has_address : Addr → SetBody → Bool
has_address address (Nets nets) = list_any (λ net. in_net net address) nets
has_address address (Macs macs) = false
has_address address (Ports ports) = false

abbrev pub has_mac : ℕ → SetBody → Bool
has_mac mac (Nets nets) = false
has_mac mac (Macs macs) = list_any (λ one. one == mac) macs
has_mac mac (Ports ports) = false

abbrev pub has_port : ℕ → SetBody → Bool
has_port port (Nets nets) = false
has_port port (Macs macs) = false
has_port port (Ports ranges) = list_any (λ range. in_range range port) ranges

-- what the set of a name holds
abbrev pub holds_address : List NfSet → List ℕ → Addr → Bool
holds_address sets name address = list_any (λ set. bytes_eq set.name name && has_address address set.body) sets

abbrev pub holds_mac : List NfSet → List ℕ → ℕ → Bool
holds_mac sets name mac = list_any (λ set. bytes_eq set.name name && has_mac mac set.body) sets

abbrev pub holds_port : List NfSet → List ℕ → ℕ → Bool
holds_port sets name port = list_any (λ set. bytes_eq set.name name && has_port port set.body) sets

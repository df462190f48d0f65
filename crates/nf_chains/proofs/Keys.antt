-- A map leads to one of its chains.
use Rattle.std.proofs.Common.{◌≡◌, ℕ, ◌⊎◌, inl, inr, Bool, true, false, List, [], ◌∷◌, map, cond, Option, None, Some}
use Rattle.std.specs.List.{find}
use Rattle.std.specs.Option.{option_map}
use Rattle.fw_addr.specs.Interfaces.{matches}
use Rattle.fw_addr.specs.Subnets.{in_net}
use Rattle.fw_addr.specs.declared.addr.Addr.{Addr}
use Rattle.nf_chains.specs.Maps.{by_address, by_link, by_map}
use Rattle.nf_rules.specs.declared.map.MapBody.{MapBody}
use Rattle.nf_rules.specs.declared.map.MapBody.TheVariants.{Ifaces, Nets}
use Rattle.nf_rules.specs.declared.map.NfMap.{NfMap}
use Rattle.nf_sound.specs.Sound.{IsIn}
use Rattle.nf_sound.specs.Targets.{map_values, values}

abbrev value_of : {K : Type 0} → Option (K × List ℕ) → Option (List ℕ)
value_of found = option_map (λ pair. pair.1) found

here_or_later : {K : Type 0} (test : Bool) (pair : K × List ℕ) (rest : Option (K × List ℕ)) (to : List ℕ) → value_of (cond test (Some pair) rest) ≡ Some to → (pair.1 ≡ to) ⊎ (value_of rest ≡ Some to)
here_or_later true pair rest to is = inl cc
here_or_later false pair rest to is = inr is

key_among : {K : Type 0} (test : K × List ℕ → Bool) (pairs : List (K × List ℕ)) (to : List ℕ) → value_of (find test pairs) ≡ Some to → IsIn to (map (λ pair. pair.1) pairs)
key_among test [] to is = cc
key_among test (pair ∷ pairs) to is = elim (here_or_later (test pair) pair (find test pairs) to is) [
  | inl here ↦ inl here
  | inr later ↦ inr (key_among test pairs to later)
]

pub link_key : (link : Option (List ℕ)) (body : MapBody) (to : List ℕ) → by_link link body ≡ Some to → IsIn to (values body)
link_key None body to is = cc
link_key (Some name) (Ifaces pairs) to is = key_among (λ pair. matches pair.0 name) pairs to is
link_key (Some name) (Nets pairs) to is = cc

pub address_key : (address : Addr) (body : MapBody) (to : List ℕ) → by_address address body ≡ Some to → IsIn to (values body)
address_key address (Ifaces pairs) to is = cc
address_key address (Nets pairs) to is = key_among (λ pair. in_net pair.0 address) pairs to is

pub map_key : (look : MapBody → Option (List ℕ)) → ((body : MapBody) (to : List ℕ) → look body ≡ Some to → IsIn to (values body)) → (found : Option NfMap) (to : List ℕ) → by_map look found ≡ Some to → IsIn to (map_values found)
map_key look each None to is = cc
map_key look each (Some found) to is = each found.body to is

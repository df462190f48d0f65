-- The ipset that a call names (firewalld.dbus(5), interface `org.fedoraproject.FirewallD1.ipset`).
use Rattle.std.specs.Prelude.{ℕ, Bool, List, Option, Some, position, slice_get}
use Rattle.std.specs.List.{list_any}
use Rattle.std.specs.Str.{bytes_eq}
use Rattle.fw_model.specs.declared.ipset.IpSet.{IpSet}
use Rattle.fw_text.specs.Steps.{◌>>=◌}

-- whether there is an ipset of a name
unfoldable pub is_known : List IpSet → (name : List ℕ) → Bool
is_known sets name = list_any (λ set. bytes_eq set.name name) sets

-- an ipset, and its place in the list of ipsets
pub record Found : Type 0 where
  pub place : ℕ
  pub set : IpSet

-- the first ipset of a name
abbrev pub set_named : List IpSet → (name : List ℕ) → Option Found
set_named sets name = do
  place ← position (λ set. bytes_eq set.name name) sets
  set ← slice_get sets place
  Some (record { place = place; set = set })

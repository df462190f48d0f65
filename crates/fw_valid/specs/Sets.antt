-- Sets of addresses (firewalld.ipset(5)).
use Rattle.std.specs.Prelude.{◌≡◌, [], IsTrue}
use Rattle.fw_addr.specs.declared.packet.Family.TheVariants.{V4}
use Rattle.fw_ipset.specs.Entries.{fits}
use Rattle.fw_model.specs.declared.ipset.IpSet.{IpSet}
use Rattle.fw_model.specs.declared.ipset.SetKind.TheVariants as kind
use Rattle.fw_valid.specs.Each.{Each}

-- A set of hardware addresses has the family inet, items fit their set, and a set whose entries come with a timeout has none.
pub record IsSet (set : IpSet) : Type 0 where
  pub hardware_is_inet : set.kind ≡ kind.Mac → set.family ≡ V4
  pub items_fit : Each (λ item. IsTrue (fits set item)) set.items
  pub timeout_is_empty : IsTrue set.timeout → set.items ≡ []

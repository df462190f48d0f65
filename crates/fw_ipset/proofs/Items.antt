-- Items by what a reader found.
use Rattle.std.proofs.Common.{◌≡◌, ◌∙◌, sym, Option, None, Some, Result, Ok, Err}
use Rattle.std.specs.Option.{ok_or}
use Rattle.fw_addr.specs.Subnets.{Subnet}
use Rattle.fw_addr.specs.declared.error.AddrError.{AddrError}
use Rattle.fw_model.specs.declared.ipset.Item.{Item}
use Rattle.fw_model.specs.declared.ipset.Item.TheVariants.{Net}
use Rattle.fw_text.specs.Steps.{◌>>=◌}

pub net_some : (found : Option Subnet) (refusal : AddrError) (net : Subnet) (read : Result Subnet AddrError) → read ≡ ok_or found refusal → read ≡ Ok net → Some (Net net) ≡ (found >>= λ net. Some (Net net))
net_some None refusal net read answered is = cc
net_some (Some found) refusal net read answered is = cc

pub net_none : (found : Option Subnet) (refusal other : AddrError) (read : Result Subnet AddrError) → read ≡ ok_or found refusal → read ≡ Err other → None ≡ (found >>= λ net. Some (Net net))
net_none None refusal other read answered is = cc
net_none (Some found) refusal other read answered is = cc

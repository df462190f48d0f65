-- Of the policies of a configuration.
use Rattle.std.proofs.Common.{subst}
use Rattle.std.specs.Bool.{Decides}
use Rattle.fw_valid.specs.Each.{Each}
use Rattle.fw_valid.specs.Policies.{IsPolicy}
use Rattle.fw_broken.proofs.broken.are_policies.Goals as goal

pub returns : goal.returns
returns c = subst (λ policies. Decides c.each.result (Each (IsPolicy c.args.config.now) policies)) c.as_slice.ensures c.each.ensures

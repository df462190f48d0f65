use Rattle.fw_dicts_valid.proofs.Policies.{policy_fits}
use Rattle.fw_dicts_valid.proofs.laws.dicts_make_fit_policies.Goals as goal

pub returns : goal.returns
returns c = policy_fits

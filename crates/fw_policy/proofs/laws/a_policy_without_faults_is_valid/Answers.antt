use Rattle.fw_policy.proofs.Faults.{faultless, valid}
use Rattle.fw_policy.proofs.laws.a_policy_without_faults_is_valid.Goals as goal

pub returns : goal.returns
returns c = λ config policy. (valid config policy, faultless config policy)

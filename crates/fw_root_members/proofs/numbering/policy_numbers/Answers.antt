use Rattle.std.proofs.Common.{rules}
use Rattle.fw_model.specs.declared.policy.Policy.{Policy}
use Rattle.fw_root_members.proofs.Slices.{numbers_of}
use Rattle.fw_root_members.proofs.numbering.policy_numbers.Goals as goal

pub returns : goal.returns
returns c =
    numbers_of (λ (policy : Policy). policy.name) c.as_slice.result.now c.args.settings.now.permanent.policies c.as_slice-2.result.now c.args.settings.now.policy_ids
    c.args.settings.now.next_policy c.as_slice-3.result.now c.args.settings.now.runtime.config.policies c.numbered.result
    (search rules) (search rules) (search rules) c.numbered.ensures

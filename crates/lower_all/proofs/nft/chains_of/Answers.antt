-- All chains, put together.
use Rattle.std.proofs.Common.{◌≡◌, ◌∙◌, ap}
use Rattle.fw_order.specs.Borrowed.{lent}
use Rattle.lower_all.proofs.Joining.{both_ok, joined}
use Rattle.lower_all.proofs.nft.chains_of.Goals as goal

pub returns : goal.returns
returns c = both_ok c.by_name.result _ _ _
    (λ all moved sorted. joined c.args.runtime.now.config _ _ _ _ _ _ _ _ _ _ all
    c.requires (ap lent c.as_slice-zones.ensures.value ∙ c.in_ok-used.ensures)
    c.in_ok-chains.ensures.works c.in_ok-chains.ensures.leads c.in_ok-chains.ensures.names
    c.in_ok-forward_chains.ensures.works c.in_ok-forward_chains.ensures.leads c.in_ok-forward_chains.ensures.names
    c.in_ok-output_chains.ensures.works c.in_ok-output_chains.ensures.leads c.in_ok-output_chains.ensures.names
    c.in_ok-settings_chains.ensures c.in_ok-outside_chains.ensures
    c.in_ok-push_block.ensures c.in_ok-push_block-2.ensures c.in_ok-push_block-3.ensures c.in_ok-push_block-4.ensures
    moved sorted)
    c.by_name.ensures.moved c.by_name.ensures.sorted

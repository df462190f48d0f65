-- The items of a part: those of rich rules, and then what stands beside them.
use Rattle.std.specs.Prelude.{List, [], ◌++◌, Bool}
use Rattle.fw_model.specs.declared.config.Config.{Config}
use Rattle.fw_model.specs.declared.rules.Rules.{Rules}
use Rattle.fw_verdict.specs.Items.{icmp_denied, listed_items}
use Rattle.fw_verdict.specs.Rich.{rich_items}
use Rattle.fw_verdict.specs.Walk.{Item}
use Rattle.fw_verdict.specs.declared.rich.Part.{Part}
use Rattle.fw_verdict.specs.declared.rich.Part.TheVariants as part

abbrev pub plain_items : Config → Rules → Bool → Part → List Item
plain_items config rules inversion part.Pre = []
plain_items config rules inversion part.Log = []
plain_items config rules inversion part.Deny = icmp_denied config rules inversion
plain_items config rules inversion part.Allow = listed_items config rules inversion
plain_items config rules inversion part.Post = []

abbrev pub part_items : Config → Rules → Bool → Part → List Item
part_items config rules inversion stage = rich_items config stage rules.rich ++ plain_items config rules inversion stage

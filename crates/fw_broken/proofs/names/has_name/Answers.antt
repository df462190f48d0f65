-- A name is one of theirs where one of them is called so.
use Rattle.std.proofs.lemmas.Bool.Decides.{Decides-at}
use Rattle.fw_broken.proofs.Lists.{name_among}
use Rattle.fw_broken.proofs.names.has_name.Goals as goal

pub returns : goal.returns
returns g c = Decides-at _ _ c.any_is_called.ensures (name_among g.T.Named.name_of c.args.items.now c.args.name.now)

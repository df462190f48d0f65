use Rattle.std.proofs.Common.{rules}
use Rattle.lower_match.proofs.Members.{nothing_past}
use Rattle.lower_match.proofs.service.push_place.Goals as goal

pub returns-in-None : goal.returns-in-None
returns-in-None c = nothing_past c.args.services.now c.args.place c.args.alternatives.now (search rules)

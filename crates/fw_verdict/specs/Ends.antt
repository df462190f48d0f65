-- What an end of a packet's way stands for where the zone is lent.
use Rattle.std.specs.Option.{option_copied}
use Rattle.fw_verdict.specs.Policies.{End}
use Rattle.fw_verdict.specs.Policies.End.{at_host, in_zone}
use Rattle.fw_verdict.specs.declared.policies.End as lent_end
use Rattle.fw_verdict.specs.declared.policies.End.TheVariants as lent

abbrev pub end_of : lent_end.End → End
end_of lent.Host = at_host
end_of (lent.Zone zone) = in_zone (option_copied zone)

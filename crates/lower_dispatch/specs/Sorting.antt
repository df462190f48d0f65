-- What a reference to an interface entry and its zone stands for.
use Rattle.fw_hits.specs.Bindings.{Entry}
use Rattle.lower_dispatch.specs.declared.interfaces.Bound.{Bound}

abbrev pub entry_of : Bound → Entry
entry_of bound = record { zone = bound.zone.now; text = bound.iface.now }

-- What a reference to an interface entry and its zone stands for.
use Rattle.fw_hits.specs.Bindings.{Entry}
use Rattle.fw_hits.specs.declared.interfaces.Found.{Found}

abbrev pub entry_of : Found → Entry
entry_of found = record { zone = found.zone.now; text = found.iface.now }

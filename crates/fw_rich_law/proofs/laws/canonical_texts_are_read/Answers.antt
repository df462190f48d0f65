use Rattle.fw_rich_law.proofs.Law.{read_back, told_apart}
use Rattle.fw_rich_law.proofs.laws.canonical_texts_are_read.Goals as goal

pub returns-clause-read : goal.returns-clause-read
returns-clause-read c =
    read_back
    (record {
      decimals = c.decimal_is_read.ensures.read;
      ports = c.printed_ports_are_read.ensures;
      protocols = c.printed_protocols_are_read.ensures.all;
      port_protocols = c.printed_protocols_are_read.ensures.with_ports;
      macs = c.printed_hardware_addresses_are_read.ensures;
      addresses = c.printed_addresses_are_read.ensures;
      nets = c.printed_nets_are_read.ensures;
    })

pub returns-clause-only : goal.returns-clause-only
returns-clause-only c = told_apart (returns-clause-read c)

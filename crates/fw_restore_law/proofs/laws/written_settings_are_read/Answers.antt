use Rattle.fw_restore_law.proofs.Objects.{config_read}
use Rattle.fw_restore_law.proofs.Texts.{printed}
use Rattle.fw_store.specs.Objects.{config_data}
use Rattle.fw_restore_law.proofs.laws.written_settings_are_read.Goals as goal

pub returns-clause-said : goal.returns-clause-said
returns-clause-said c = config_read (printed (record {
  decimals = c.decimal_is_read.ensures.read;
  ports = c.printed_ports_are_read.ensures;
  protocols = c.printed_protocols_are_read.ensures.all;
  port_protocols = c.printed_protocols_are_read.ensures.with_ports;
  macs = c.printed_hardware_addresses_are_read.ensures;
  addresses = c.printed_addresses_are_read.ensures;
  nets = c.printed_nets_are_read.ensures;
  rules = c.canonical_texts_are_read.ensures.read;
}))

pub returns-clause-reads : goal.returns-clause-reads
returns-clause-reads c text written utf8 read range valid = record {
  value = config_data written;
  json = record { utf8 = utf8; reads = read };
  says = returns-clause-said c written range valid;
}

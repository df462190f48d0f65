use Rattle.fw_addr.proofs.Ipv6Grammar.{colon_hex_is, colon_hex_some}
use Rattle.fw_addr.proofs.laws.ipv6_texts_are_those_of_std.Goals as goal

pub returns : goal.returns
returns c text values =
    (colon_hex_some c.decimal_is_read.ensures.read text values, colon_hex_is c.decimal_is_read.ensures.only text values)

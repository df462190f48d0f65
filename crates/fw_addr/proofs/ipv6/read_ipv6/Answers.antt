use Rattle.std.proofs.Common.{◌∙◌, ap, sym, Some}
use Rattle.std.specs.Int.Digits.{number_from_digits}
use Rattle.fw_addr.proofs.Ipv6Grammar.{found_groups, found_none}
use Rattle.fw_addr.proofs.ipv6.read_ipv6.Goals as goal

pub returns-in-Ok : goal.returns-in-Ok
returns-in-Ok c =
    ap Some (c.number.ensures ∙ ap (number_from_digits 65536) c.segments.ensures)
    ∙ sym (found_groups c.decimal_is_read.ensures.read c.args.text.now c.in-Ok.address c.in-Ok.ensures)

pub returns-in-Err : goal.returns-in-Err
returns-in-Err c = sym (found_none c.decimal_is_read.ensures.only c.args.text.now c.in-Err.ensures)

use Rattle.std.proofs.Common.{◌≡◌, ℕ, ◌^◌, ◌<◌, ◌∙◌, ap, subst}
use Rattle.fw_addr.specs.Hardware.{mac, mac_text}
use Rattle.fw_addr.proofs.mac.print_mac.Goals as goal

pub returns-clause-read_back : goal.returns-clause-read_back
returns-clause-read_back c =
    let text : c.from_string.result ≡ mac_text c.args.address.now = c.from_string.ensures ∙ c.in_ok-string.ensures.ok in
    let small : c.args.address.now < 2 ^ 48 = subst (λ (n : ℕ). n < 2 ^ 48) c.address.view_is c.address.invariant in
    ap mac text ∙ c.printed_hardware_addresses_are_read.ensures c.args.address.now small

-- The links of a packet and of its routes, by the names of their interfaces (ip-link(8), ip-route(8); the spelling is this
-- project's own).
use Rattle.std.specs.Prelude.{ℕ, ◌==◌, ◌&&◌, Bool, true, if◌then◌else◌, codes, is_none, List, Option, None, Some}
use Rattle.std.specs.List.{after_first, before_first}
use Rattle.std.specs.Option.{option_map}
use Rattle.std.specs.Str.{bytes_eq}
use Rattle.fw_text.specs.Steps.{◌>>=◌}
use Rattle.fw_addr.specs.Interfaces.{before_plus, is_interface}
use Rattle.fw_addr.specs.Nets.{net}
use Rattle.fw_addr.specs.Subnets.{Subnet}
use Rattle.fw_model.specs.declared.packet.Origin.{Origin}
use Rattle.fw_model.specs.declared.packet.Origin.TheVariants as origins
use Rattle.fw_model.specs.declared.packet.Via.{Via}
use Rattle.fw_model.specs.declared.packet.Via.TheVariants.{Local, Link}

-- the name of an interface, which has no `+`
abbrev pub link_name : List ℕ → Option (List ℕ)
link_name text = if is_interface text && is_none (before_plus text) then Some text else None

-- the link that a packet came by
abbrev pub origin : List ℕ → Option Origin
origin text = option_map origins.Link (link_name text)

-- where a packet comes from: the host itself, or a link, and one of them alone
abbrev pub origin_by : Option Bool → Option Origin → Option Origin
origin_by None None = None
origin_by None (Some link) = Some link
origin_by (Some given) None = Some origins.Host
origin_by (Some given) (Some link) = None

-- The host itself, or a link by a name that doesn't end in `+`, as an entry for many names does.
abbrev pub is_plain : Origin → Bool
is_plain origins.Host = true
is_plain (origins.Link link) = is_none (before_plus link)

-- where a route leads: to the host itself, or out by a link
abbrev pub via : List ℕ → Option Via
via text = if bytes_eq text (codes "local") then Some Local else option_map Link (link_name text)

-- `,`
abbrev pub is_comma : ℕ → Bool
is_comma byte = byte == 44

-- a net before the first `,`, and behind it where packets to it go; without a `,` nothing is behind it, which is no name
abbrev pub route : List ℕ → Option (Subnet × Via)
route text = do
  by ← via (after_first is_comma text)
  to ← net (before_first is_comma text)
  Some (to, by)

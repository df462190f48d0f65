-- What is asked of services before includes are followed, and of those that are found by their places.
use Rattle.std.specs.Prelude.{ℕ, ◌==◌, List, length, Bool, false, not, ◌&&◌, ◌||◌, Option, None, Some, slice_get}
use Rattle.std.specs.List.{list_any}
use Rattle.std.specs.Str.{bytes_eq}
use Rattle.fw_model.specs.declared.packet.Packet.{Packet}
use Rattle.fw_model.specs.declared.service.Service.{Service}
use Rattle.fw_hits.specs.Services.{member_hits}

-- some service of the name is about the packet by itself
abbrev pub own_hits : List Service → List ℕ → Packet → Bool
own_hits services name packet = list_any (λ service. bytes_eq service.name name && member_hits service packet) services

-- some service of the name is about the packet by itself, or includes others
abbrev pub may_hit : List Service → List ℕ → Packet → Bool
may_hit services name packet =
    list_any (λ service. bytes_eq service.name name && (member_hits service packet || not (length service.includes == 0))) services

-- some service is about the packet by itself
abbrev pub any_member_hits : List Service → Packet → Bool
any_member_hits services packet = list_any (λ service. member_hits service packet) services

abbrev pub is_hit : Packet → Option Service → Bool
is_hit packet None = false
is_hit packet (Some service) = member_hits service packet

-- the service at one of the places is about the packet by itself
abbrev pub hits_among : List Service → List ℕ → Packet → Bool
hits_among services places packet = list_any (λ place. is_hit packet (slice_get services place)) places

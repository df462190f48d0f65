-- The places so far and then those of what is left are those of the whole text.
use Rattle.std.proofs.Common.{◌≡◌, ◌++◌, length, suc}
use Rattle.std.specs.Option.{option_copied, option_map, option_map_or}
use Rattle.fw_text.specs.Pieces.{later_pieces}
use Rattle.fw_command.specs.Numbers.{places, places_after}
use Rattle.fw_command.proofs.places.read_places.Given as goal

abbrev pub invariant-loop-left : goal.invariant-loop-left
invariant-loop-left l =
    option_map (λ others. l.found ++ others) (places_after l.before (later_pieces 44 (option_copied l.left))) ≡ places l.fn.text

abbrev pub decreases-loop-left : goal.decreases-loop-left
decreases-loop-left l = option_map_or (λ left. suc (length left)) (option_copied l.left) 0

-- The values of a key in the middle of their reading: those found so far, and those of the words that are left.
use Rattle.std.proofs.Common.{◌≡◌, ℕ, List, ◌++◌, drop, Option, Bor, All}
use Rattle.std.specs.Option.{option_map}
use Rattle.fw_words.specs.Keys.{texts, values}
use Rattle.fw_packet.specs.PacketWords.{read_all}

pub record Collects {X : Type 0} (read : List ℕ → Option X) (range : X → Type 0) (key : List ℕ) (words : List (Bor (List ℕ))) (found : List X) (turns : ℕ) : Type 0 where
  pub says : read_all read (values key (texts words)) ≡ option_map (λ others. found ++ others) (read_all read (values key (texts (drop turns words))))
  pub in_range : All range found

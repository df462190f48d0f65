-- The words of a packet, each a key and a value (this project's own spelling; states and packet types by nft(8)).
use Rattle.std.specs.Prelude.{ℕ, Bool, true, codes, is_some, List, [], ◌∷◌, Option, None, Some}
use Rattle.std.specs.List.{list_any}
use Rattle.std.specs.Option.{option_map}
use Rattle.fw_text.specs.Steps.{◌>>=◌}
use Rattle.fw_addr.specs.declared.packet.CtState.{CtState}
use Rattle.fw_addr.specs.declared.packet.CtState.TheVariants as state
use Rattle.fw_addr.specs.declared.packet.PktType.{PktType}
use Rattle.fw_addr.specs.declared.packet.PktType.TheVariants as type
use Rattle.fw_words.specs.Keys.{after_key, at_most_one, only, values}

-- the keys, none of which begins another
abbrev pub keys : List (List ℕ)
keys =
    codes "in=" ∷ codes "host" ∷ codes "src=" ∷ codes "dst=" ∷ codes "proto=" ∷ codes "mac=" ∷ codes "sport=" ∷ codes "dport="
    ∷ codes "type=" ∷ codes "code=" ∷ codes "state=" ∷ codes "dnat" ∷ codes "pkt=" ∷ codes "mark=" ∷ codes "limit="
    ∷ codes "route=" ∷ []

-- a word with one of them
unfoldable pub is_known : List ℕ → Bool
is_known word = list_any (λ key. is_some (after_key key word)) keys

-- the one word of a key
unfoldable pub required : {X : Type 0} → (key : List ℕ) → (read : List ℕ → Option X) → List (List ℕ) → Option X
required key read words = only (values key words) >>= read

-- what a value says, where there is one
abbrev pub read_given : {X : Type 0} → (read : List ℕ → Option X) → Option (List ℕ) → Option (Option X)
read_given read None = Some None
read_given read (Some text) = option_map Some (read text)

-- the word of a key, of which there is at most one
unfoldable pub optional : {X : Type 0} → (key : List ℕ) → (read : List ℕ → Option X) → List (List ℕ) → Option (Option X)
optional key read words = at_most_one (values key words) >>= read_given read

-- what each of some values says
abbrev pub read_all : {X : Type 0} → (read : List ℕ → Option X) → List (List ℕ) → Option (List X)
read_all read [] = Some []
read_all read (text ∷ texts) = do
  first ← read text
  others ← read_all read texts
  Some (first ∷ others)

-- the words of a key, in order
unfoldable pub repeated : {X : Type 0} → (key : List ℕ) → (read : List ℕ → Option X) → List (List ℕ) → Option (List X)
repeated key read words = read_all read (values key words)

-- of a word without a value: that it is there
abbrev pub given : List ℕ → Option Bool
given [] = Some true
given (byte ∷ text) = None

-- the state of its connection
abbrev pub states : List (List ℕ × CtState)
states =
    (codes "new", state.New) ∷ (codes "established", state.Established) ∷ (codes "related", state.Related)
    ∷ (codes "invalid", state.Invalid) ∷ []

-- to whom the link layer addressed it
abbrev pub packet_types : List (List ℕ × PktType)
packet_types = (codes "unicast", type.Unicast) ∷ (codes "broadcast", type.Broadcast) ∷ (codes "multicast", type.Multicast) ∷ []

-- The steps of settings on the way to rules: what is done, and the packets of which it is done, told in alternatives.
use Rattle.std.specs.Prelude.{◌≡◌, ◌<◌, ◌^◌, List, [], ◌∷◌, ◌++◌, Bool, true, ◌&&◌, Option}
use Rattle.fw_addr.specs.declared.dnat.Dnat.{Dnat}
use Rattle.fw_addr.specs.declared.limit.Limit.{Limit}
use Rattle.fw_model.specs.Packets.{IsAddress}
use Rattle.fw_model.specs.declared.config.Config.{Config}
use Rattle.fw_model.specs.declared.packet.Packet.{Packet}
use Rattle.fw_valid.specs.Each.{IfThere}
use Rattle.fw_verdict.specs.Changes.{Change, ChangeItem}
use Rattle.fw_verdict.specs.Changes.Change.{log, mark, masquerade, translate}
use Rattle.fw_verdict.specs.Rich.{passes}
use Rattle.lower_outside.specs.declared.steps.Step.{Step}
use Rattle.lower_zone.specs.Work.{Tells}
use Rattle.nf_chains.specs.Marks.{can_translate}
use Rattle.nf_rules.specs.declared.statement.Stmt.{Stmt}
use Rattle.nf_rules.specs.declared.statement.Stmt.TheVariants as stmt

-- the statement of a change
abbrev pub statement_of : Change → Stmt
statement_of (log line) = stmt.Log line
statement_of (mark value mask) = stmt.Mark value mask
statement_of (translate dnat) = stmt.DnatTo dnat
statement_of masquerade = stmt.Masquerade

-- an address and a port that a header can have
pub record IsTarget (dnat : Dnat) : Type 0 where
  pub address : IfThere IsAddress dnat.addr
  pub port : IfThere (λ port. port < 2 ^ 16) dnat.port

-- A change can be made of all the packets of a condition, and leaves a packet: a mark has 32 bits, and an address is of the packet's
-- family.
abbrev pub CanBeMade : (Packet → Bool) → Change → Type 0
CanBeMade condition (log line) = Unit {0}
CanBeMade condition (mark value mask) = value < 2 ^ 32
CanBeMade condition (translate dnat) = IsTarget dnat × ((packet : Packet) → condition packet ≡ true → can_translate dnat packet ≡ true)
CanBeMade condition masquerade = Unit {0}

-- A step tells an item.
pub record IsTold (config : Config) (step : Step) (item : ChangeItem) : Type 0 where
  pub tells : Tells config step.alternatives item.hits
  pub statement : step.stmt ≡ statement_of item.change
  pub can : CanBeMade item.hits item.change

-- Steps tell the items of a list, one by one.
pub data AreTold (config : Config) : List Step → List ChangeItem → Type 0 where
  none : AreTold config [] []
  also : (step : Step) (steps : List Step) (item : ChangeItem) (items : List ChangeItem)
      → IsTold config step item → AreTold config steps items → AreTold config (step ∷ steps) (item ∷ items)

-- Steps that tell these items came behind those so far.
abbrev pub Tell : Config → List ChangeItem → List Step → List Step → Type 0
Tell config items old new = (told : List ChangeItem) → AreTold config old told → AreTold config new (told ++ items)

-- a change of the packets of a condition that are within a limit
abbrev pub within : (Packet → Bool) → Option Limit → Change → ChangeItem
within condition limit change = record { hits = λ packet. condition packet && passes limit packet; change = change }

-- a change of all packets of a condition
abbrev pub item_of : (Packet → Bool) → Change → ChangeItem
item_of condition change = record { hits = condition; change = change }

-- The grammar of rich rules (firewalld.richlanguage(5), "General rule structure" and the sections behind it), one
-- production for each part, over tokens. Pairs of one part come in any order, each at most once.
use Rattle.std.specs.Prelude.{ℕ, codes, Bool, true, false, List, [], ◌∷◌, Option, None, Some, Ok, Err}
use Rattle.std.specs.Option.{option_map}
use Rattle.fw_text.specs.Names.{named}
use Rattle.fw_addr.specs.declared.packet.Family.{Family}
use Rattle.fw_addr.specs.declared.packet.Family.TheVariants as family
use Rattle.fw_rich.specs.Tokens.{Written, tokens}
use Rattle.fw_rich.specs.Reading.{Parser, ◌>>=◌, at_end, expect, flag, give, needed, offset_here, one_of, optional, optionally, or_pair, pair, stop_here, value}
use Rattle.fw_rich.specs.declared.parts.ActParts.{ActParts}
use Rattle.fw_rich.specs.declared.parts.ActParts.TheVariants as act
use Rattle.fw_rich.specs.declared.parts.ActionParts.{ActionParts}
use Rattle.fw_rich.specs.declared.parts.ActionWord.{ActionWord}
use Rattle.fw_rich.specs.declared.parts.ActionWord.TheVariants.{Accept, Reject, Drop, Mark}
use Rattle.fw_rich.specs.declared.parts.AuditParts.{AuditParts}
use Rattle.fw_rich.specs.declared.parts.ElementParts.{ElementParts}
use Rattle.fw_rich.specs.declared.parts.ElementParts.TheVariants as part
use Rattle.fw_rich.specs.declared.parts.ElementWord.{ElementWord}
use Rattle.fw_rich.specs.declared.parts.ElementWord.TheVariants.{Service, Port, Protocol, IcmpBlock, IcmpType, Masquerade, SourcePort, ForwardPort}
use Rattle.fw_rich.specs.declared.parts.ForwardPairs.{ForwardPairs}
use Rattle.fw_rich.specs.declared.parts.ForwardParts.{ForwardParts}
use Rattle.fw_rich.specs.declared.parts.HeadParts.{HeadParts}
use Rattle.fw_rich.specs.declared.parts.LogParts.{LogParts}
use Rattle.fw_rich.specs.declared.parts.PortParts.{PortParts}
use Rattle.fw_rich.specs.declared.parts.RuleParts.{RuleParts}
use Rattle.fw_rich.specs.declared.parts.SideKey.{SideKey}
use Rattle.fw_rich.specs.declared.parts.SideKey.TheVariants.{Address, Mac, Ipset}
use Rattle.fw_rich.specs.declared.parts.SideName.{SideName}
use Rattle.fw_rich.specs.declared.parts.SideParts.{SideParts}
use Rattle.fw_rich.specs.declared.tokens.Stop.{Stop}

abbrev pub families : List (List ℕ × Family)
families = (codes "ipv4", family.V4) ∷ (codes "ipv6", family.V6) ∷ []

-- another family than these stops the grammar at its token
abbrev pub known_family : Stop → Option Family → Parser (Option Family)
known_family at None tokens = Err at
known_family at (Some family) tokens = Ok (Some family, tokens)

abbrev pub family_of : Stop → Option Written → Parser (Option Family)
family_of at None = give None
family_of at (Some value) = known_family at (named families value.text)

-- family="ipv4|ipv6"
abbrev pub family_pair : Parser (Option Family)
family_pair = do
  at ← stop_here
  value ← pair (codes "family")
  family_of at value

abbrev pub or_family : Option Family → Parser (Option Family)
or_family None = family_pair
or_family (Some family) = give (Some family)

-- [family="ipv4|ipv6"] [priority="priority"]
unfoldable pub head : Parser HeadParts
head = do
  early ← family_pair
  priority ← pair (codes "priority")
  family ← or_family early
  give (record { family = family; priority = priority })

-- one of several keys, where none was found before
abbrev pub or_name : List ℕ → SideKey → Option SideName → Parser (Option SideName)
or_name key kind None = do
  found ← pair key
  give (option_map (λ value. record { key = kind; value = value }) found)
or_name key kind (Some name) = give (Some name)

-- address="address[/mask]" | mac="mac-address" | ipset="ipset"
unfoldable pub source_name : Parser SideName
source_name = do
  address ← or_name (codes "address") Address None
  mac ← or_name (codes "mac") Mac address
  found ← or_name (codes "ipset") Ipset mac
  needed found

-- address="address[/mask]" | ipset="ipset"
unfoldable pub destination_name : Parser SideName
destination_name = do
  address ← or_name (codes "address") Address None
  found ← or_name (codes "ipset") Ipset address
  needed found

abbrev pub or_flag : List ℕ → Bool → Parser Bool
or_flag word true = give true
or_flag word false = flag word

-- [not|NOT]
abbrev pub inversion : Parser Bool
inversion = do
  lower ← flag (codes "not")
  or_flag (codes "NOT") lower

unfoldable pub side : Parser SideName → Parser SideParts
side name = do
  not ← inversion
  name ← name
  give (record { not = not; name = name })

-- port="port value" protocol="tcp|udp|sctp|dccp"
unfoldable pub ports : Parser PortParts
ports = do
  early ← pair (codes "port")
  protocol ← pair (codes "protocol")
  port ← or_pair (codes "port") early
  port ← needed port
  protocol ← needed protocol
  give (record { port = port; protocol = protocol })

-- a pair of a forward port at least, where one comes next
unfoldable pub forward_round : ForwardPairs → Parser ForwardPairs
forward_round found = do
  port ← or_pair (codes "port") found.port
  protocol ← or_pair (codes "protocol") found.protocol
  to_port ← or_pair (codes "to-port") found.to_port
  to_addr ← or_pair (codes "to-addr") found.to_addr
  give (record { port = port; protocol = protocol; to_port = to_port; to_addr = to_addr })

abbrev pub no_pairs : ForwardPairs
no_pairs = record { port = None; protocol = None; to_port = None; to_addr = None }

-- all of them: there are at most four
unfoldable pub forward_pairs : Parser ForwardPairs
forward_pairs = do
  first ← forward_round no_pairs
  second ← forward_round first
  third ← forward_round second
  forward_round third

-- port="port value" protocol="tcp|udp|sctp|dccp" [to-port="port value"] [to-addr="address"]
unfoldable pub forward : (offset : ℕ) → Parser ForwardParts
forward offset = do
  pairs ← forward_pairs
  port ← needed pairs.port
  protocol ← needed pairs.protocol
  give (record { offset = offset; from = record { port = port; protocol = protocol }; to_port = pairs.to_port; to_addr = pairs.to_addr })

abbrev pub element_words : List (List ℕ × ElementWord)
element_words =
    (codes "service", Service) ∷ (codes "port", Port) ∷ (codes "protocol", Protocol) ∷ (codes "icmp-block", IcmpBlock)
    ∷ (codes "icmp-type", IcmpType) ∷ (codes "masquerade", Masquerade) ∷ (codes "source-port", SourcePort) ∷ (codes "forward-port", ForwardPort) ∷ []

-- what follows the word of an element
unfoldable pub element_of : (offset : ℕ) → ElementWord → Parser ElementParts
element_of offset Service = do
  name ← value (codes "name")
  give (part.Service name)
element_of offset Port = do
  ports ← ports
  give (part.Port ports)
element_of offset Protocol = do
  protocol ← value (codes "value")
  give (part.Protocol protocol)
element_of offset IcmpBlock = do
  name ← value (codes "name")
  give (part.IcmpBlock name)
element_of offset IcmpType = do
  name ← value (codes "name")
  give (part.IcmpType name)
element_of offset Masquerade = give part.Masquerade
element_of offset SourcePort = do
  ports ← ports
  give (part.SourcePort ports)
element_of offset ForwardPort = do
  forward ← forward offset
  give (part.Forward forward)

-- [service|port|protocol|icmp-block|icmp-type|masquerade|source-port|forward-port]
unfoldable pub element : Parser (Option ElementParts)
element = do
  offset ← offset_here
  word ← one_of element_words
  optionally (element_of offset) word

-- [limit value="rate/duration"]
unfoldable pub limit : Parser (Option Written)
limit = optional (codes "limit") (value (codes "value"))

-- [prefix="prefix text"] [level="log level"] [limit value="rate/duration"]
unfoldable pub log : Parser LogParts
log = do
  early ← pair (codes "prefix")
  level ← pair (codes "level")
  prefix ← or_pair (codes "prefix") early
  limit ← limit
  give (record { prefix = prefix; level = level; limit = limit })

-- [limit value="rate/duration"]
unfoldable pub audit : Parser AuditParts
audit = do
  limit ← limit
  give (record { limit = limit })

abbrev pub action_words : List (List ℕ × ActionWord)
action_words = (codes "accept", Accept) ∷ (codes "reject", Reject) ∷ (codes "drop", Drop) ∷ (codes "mark", Mark) ∷ []

-- accept | reject [type="reject type"] | drop | mark set="mark[/mask]"
unfoldable pub act_of : ActionWord → Parser ActParts
act_of Accept = give act.Accept
act_of Reject = do
  kind ← pair (codes "type")
  give (act.Reject kind)
act_of Drop = give act.Drop
act_of Mark = do
  mark ← value (codes "set")
  give (act.Mark mark)

-- .. [limit value="rate/duration"]
unfoldable pub action_of : ActionWord → Parser ActionParts
action_of word = do
  act ← act_of word
  limit ← limit
  give (record { act = act; limit = limit })

-- [accept|reject|drop|mark]
unfoldable pub action : Parser (Option ActionParts)
action = do
  word ← one_of action_words
  optionally action_of word

-- rule [head] [source] [destination] [element] [log] [audit] [action]
unfoldable pub rule : Parser RuleParts
rule = do
  begins ← expect (codes "rule")
  head ← head
  source ← optional (codes "source") (side source_name)
  dest ← optional (codes "destination") (side destination_name)
  element ← element
  log ← optional (codes "log") log
  audit ← optional (codes "audit") audit
  action ← action
  ends ← at_end
  give (record { family = head.family; priority = head.priority; source = source; dest = dest; element = element; log = log; audit = audit; action = action })

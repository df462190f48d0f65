-- What productions give of tokens whose values are plain: the text before a log line is plain, and no destination is named by a hardware
-- address.
use Rattle.std.proofs.Common.{◌≢◌, ℕ, Bool, true, false, if◌then◌else◌, codes, List, [], ◌∷◌, Option, None, Some, Ok, Err}
use Rattle.std.specs.Option.{option_map}
use Rattle.std.specs.Str.{bytes_eq}
use Rattle.fw_addr.specs.declared.packet.Family.{Family}
use Rattle.fw_rich.specs.Grammar.{act_of, action, action_of, action_words, audit, destination_name, element, element_of, element_words, family_of, family_pair, forward, forward_pairs, forward_round, head, inversion, known_family, limit, log, no_pairs, or_family, or_flag, or_name, ports, rule, side, source_name}
use Rattle.fw_rich.specs.Reading.{Parsed, Parser, at_end, expect, holds, if_there, is_text, needed, offset, optional, optionally, or_pair, pop, read_on, stop, take_pair, take_word, taken_if, value, value_of, word_in, word_key}
use Rattle.fw_rich.specs.Tokens.{Token, Written}
use Rattle.fw_rich.specs.declared.parts.ActionWord.{ActionWord}
use Rattle.fw_rich.specs.declared.parts.ActionWord.TheVariants as action_word
use Rattle.fw_rich.specs.declared.parts.ElementWord.{ElementWord}
use Rattle.fw_rich.specs.declared.parts.ElementWord.TheVariants as element_word
use Rattle.fw_rich.specs.declared.parts.ForwardPairs.{ForwardPairs}
use Rattle.fw_rich.specs.declared.parts.LogParts.{LogParts}
use Rattle.fw_rich.specs.declared.parts.RuleParts.{RuleParts}
use Rattle.fw_rich.specs.declared.parts.SideKey.{SideKey}
use Rattle.fw_rich.specs.declared.parts.SideKey.TheVariants as key
use Rattle.fw_rich.specs.declared.parts.SideName.{SideName}
use Rattle.fw_rich.specs.declared.parts.SideParts.{SideParts}
use Rattle.fw_rich.specs.declared.tokens.Stop.{Stop}
use Rattle.fw_rich_valid.proofs.Plain.{AreFair, IsPlain}
use Rattle.fw_valid.specs.Each.{IfThere}

abbrev pub GivenBy : {X : Type 0} → (X → Type 0) → Parsed X → Type 0
GivenBy P (Ok (x, rest)) = P x × AreFair rest
GivenBy P (Err stop) = Unit {0}

-- what a production gives of plain tokens, and that those which are left are plain
abbrev pub Gives : {X : Type 0} → (X → Type 0) → Parser X → Type 0
Gives P parser = (tokens : List Token) → AreFair tokens → GivenBy P (parser tokens)

abbrev Any : {X : Type 0} → X → Type 0
Any x = Unit {0}

-- one production behind another
behind_it : {X Y : Type 0} (P : X → Type 0) (Q : Y → Type 0) (next : X → Parser Y) (step : Parsed X) → GivenBy P step → ((x : X) → P x → Gives Q (next x)) → GivenBy Q (read_on next step)
behind_it P Q next (Ok (x, rest)) is so = so x is.0 rest is.1
behind_it P Q next (Err at) is so = tt

needed_gives : {X : Type 0} (P : X → Type 0) (found : Option X) → IfThere P found → Gives P (needed found)
needed_gives P None is tokens fair = tt
needed_gives P (Some x) is tokens fair = (is, fair)

fair_behind : (tokens : List Token) → AreFair tokens → AreFair (pop tokens).1
fair_behind [] fair = tt
fair_behind (token ∷ tokens) fair = fair.1

word_fair : (word : List ℕ) (tokens : List Token) → AreFair tokens → AreFair (take_word word tokens).1
word_fair word tokens fair = by (is_text word (word_key tokens))
  where
    by : (there : Bool) → AreFair (if◌then◌else◌ {A = Bool × List Token} there (true, (pop tokens).1) (false, tokens)).1
    by true = fair_behind tokens fair
    by false = fair

holds_gives : (there : Bool) → Gives Any (holds there)
holds_gives true tokens fair = (tt, fair)
holds_gives false tokens fair = tt

expect_gives : (word : List ℕ) → Gives Any (expect word)
expect_gives word tokens fair = holds_gives (take_word word tokens).0 (take_word word tokens).1 (word_fair word tokens fair)

end_gives : Gives Any at_end
end_gives [] fair = (tt, tt)
end_gives (token ∷ tokens) fair = tt

taken_fair : {X : Type 0} (found : Option X) (behind tokens : List Token) → AreFair behind → AreFair tokens → AreFair (taken_if found behind tokens).1
taken_fair None behind tokens after all = all
taken_fair (Some x) behind tokens after all = after

one_fair : {X : Type 0} (table : List (List ℕ × X)) (tokens : List Token) → AreFair tokens → AreFair (word_in table tokens).1
one_fair table tokens fair = taken_fair _ (pop tokens).1 tokens (fair_behind tokens fair) fair

-- the value of a pair, and the tokens behind it
taken : (key : List ℕ) (tokens : List Token) → AreFair tokens → IfThere IsPlain (take_pair key tokens).0 × AreFair (take_pair key tokens).1
taken key [] fair = (tt, tt)
taken key (token ∷ tokens) fair = of_value (value_of key token) (plain_value (bytes_eq token.key key) token.value fair.0)
  where
    of_value : (value : Option Written) → IfThere IsPlain value → IfThere IsPlain (taken_if value tokens (token ∷ tokens)).0 × AreFair (taken_if value tokens (token ∷ tokens)).1
    of_value None plain = (tt, fair)
    of_value (Some value) plain = (plain, fair.1)

    plain_value : (same : Bool) (value : Option Written) → IfThere IsPlain value → IfThere IsPlain (if same then value else None)
    plain_value true value plain = plain
    plain_value false value plain = tt

or_pair_gives : (key : List ℕ) (found : Option Written) → IfThere IsPlain found → Gives (IfThere IsPlain) (or_pair key found)
or_pair_gives key None plain tokens fair = taken key tokens fair
or_pair_gives key (Some value) plain tokens fair = (plain, fair)

value_gives : (key : List ℕ) → Gives IsPlain (value key)
value_gives key tokens fair = needed_gives IsPlain (take_pair key tokens).0 (taken key tokens fair).0 (take_pair key tokens).1 (taken key tokens fair).1

module _ {X : Type 0} (P : X → Type 0) where
  if_there_gives : (parser : Parser X) (there : Bool) → Gives P parser → Gives (IfThere P) (if_there parser there)
  if_there_gives parser true so tokens fair = behind_it P (IfThere P) _ (parser tokens) (so tokens fair) (λ x is rest fair. (is, fair))
  if_there_gives parser false so tokens fair = (tt, fair)

  optional_gives : (word : List ℕ) (parser : Parser X) → Gives P parser → Gives (IfThere P) (optional word parser)
  optional_gives word parser so tokens fair = if_there_gives parser (take_word word tokens).0 so (take_word word tokens).1 (word_fair word tokens fair)

  optionally_gives : {W : Type 0} (parser : W → Parser X) (word : Option W) → ((word : W) → Gives P (parser word)) → Gives (IfThere P) (optionally parser word)
  optionally_gives parser None so tokens fair = (tt, fair)
  optionally_gives parser (Some word) so tokens fair = behind_it P (IfThere P) _ (parser word tokens) (so word tokens fair) (λ x is rest fair. (is, fair))

-- any result will do
any_there : {X : Type 0} (found : Option X) → IfThere Any found
any_there None = tt
any_there (Some x) = tt

-- productions
family_of_gives : (at : Stop) (value : Option Written) → Gives Any (family_of at value)
family_of_gives at None tokens fair = (tt, fair)
family_of_gives at (Some value) tokens fair = by _
  where
    by : (found : Option Family) → GivenBy Any (known_family at found tokens)
    by None = tt
    by (Some family) = (tt, fair)

family_gives : Gives Any family_pair
family_gives tokens fair = family_of_gives (stop tokens) (take_pair (codes "family") tokens).0 (take_pair (codes "family") tokens).1 (taken (codes "family") tokens fair).1

or_family_gives : (found : Option Family) → Gives Any (or_family found)
or_family_gives None tokens fair = family_gives tokens fair
or_family_gives (Some family) tokens fair = (tt, fair)

head_gives : Gives Any head
unfolding head
head_gives tokens fair =
    behind_it Any Any _ (family_pair tokens) (family_gives tokens fair) (λ early any rest fair.
    behind_it Any Any _ (or_family early (take_pair (codes "priority") rest).1) (or_family_gives early (take_pair (codes "priority") rest).1 (taken (codes "priority") rest fair).1) (λ family any rest fair. (tt, fair)))

-- a side isn't named by a hardware address
abbrev pub IsNoMacName : SideName → Type 0
IsNoMacName name = name.key ≢ key.Mac

or_name_gives : (word : List ℕ) (kind : SideKey) (found : Option SideName) → Gives Any (or_name word kind found)
or_name_gives word kind None tokens fair = (tt, (taken word tokens fair).1)
or_name_gives word kind (Some name) tokens fair = (tt, fair)

or_other_gives : (word : List ℕ) (kind : SideKey) → kind ≢ key.Mac → (found : Option SideName) → IfThere IsNoMacName found → Gives (IfThere IsNoMacName) (or_name word kind found)
or_other_gives word kind other None is tokens fair = (by (take_pair word tokens).0, (taken word tokens fair).1)
  where
    by : (value : Option Written) → IfThere IsNoMacName (option_map (λ value. record { key = kind; value = value }) value)
    by None = tt
    by (Some value) = other
or_other_gives word kind other (Some name) is tokens fair = (is, fair)

source_name_gives : Gives Any source_name
unfolding source_name
source_name_gives tokens fair =
    behind_it Any Any _ (or_name (codes "address") key.Address None tokens) (or_name_gives (codes "address") key.Address None tokens fair) (λ address any rest fair.
    behind_it Any Any _ (or_name (codes "mac") key.Mac address rest) (or_name_gives (codes "mac") key.Mac address rest fair) (λ mac any rest fair.
    behind_it Any Any _ (or_name (codes "ipset") key.Ipset mac rest) (or_name_gives (codes "ipset") key.Ipset mac rest fair) (λ found any rest fair. needed_gives Any found (any_there found) rest fair)))

destination_name_gives : Gives IsNoMacName destination_name
unfolding destination_name
destination_name_gives tokens fair =
    behind_it (IfThere IsNoMacName) IsNoMacName _ (or_name (codes "address") key.Address None tokens) (or_other_gives (codes "address") key.Address (λ same. cc) None tt tokens fair) (λ address is rest fair.
    behind_it (IfThere IsNoMacName) IsNoMacName _ (or_name (codes "ipset") key.Ipset address rest) (or_other_gives (codes "ipset") key.Ipset (λ same. cc) address is rest fair) (λ found is rest fair. needed_gives IsNoMacName found is rest fair))

inversion_gives : Gives Any inversion
inversion_gives tokens fair = by (take_word (codes "not") tokens).0 (take_word (codes "not") tokens).1 (word_fair (codes "not") tokens fair)
  where
    by : (lower : Bool) → Gives Any (or_flag (codes "NOT") lower)
    by true rest fair = (tt, fair)
    by false rest fair = (tt, word_fair (codes "NOT") rest fair)

side_gives : (P : SideName → Type 0) (name : Parser SideName) → Gives P name → Gives (λ (parts : SideParts). P parts.name) (side name)
unfolding side
side_gives P name so tokens fair =
    behind_it Any (λ (parts : SideParts). P parts.name) _ (inversion tokens) (inversion_gives tokens fair) (λ not any rest fair. behind_it P (λ (parts : SideParts). P parts.name) _ (name rest) (so rest fair) (λ name is rest fair. (is, fair)))

ports_gives : Gives Any ports
unfolding ports
ports_gives tokens fair =
    let port = take_pair (codes "port") tokens in
    let protocol = take_pair (codes "protocol") port.1 in
    let one = taken (codes "port") tokens fair in
    let other = taken (codes "protocol") port.1 one.1 in
    behind_it (IfThere IsPlain) Any _ (or_pair (codes "port") port.0 protocol.1) (or_pair_gives (codes "port") port.0 one.0 protocol.1 other.1) (λ found is rest fair.
    behind_it IsPlain Any _ (needed found rest) (needed_gives IsPlain found is rest fair) (λ port is rest fair.
    behind_it IsPlain Any _ (needed protocol.0 rest) (needed_gives IsPlain protocol.0 other.0 rest fair) (λ protocol is rest fair. (tt, fair))))

abbrev PlainPairs : ForwardPairs → Type 0
PlainPairs pairs = IfThere IsPlain pairs.port × (IfThere IsPlain pairs.protocol × (IfThere IsPlain pairs.to_port × IfThere IsPlain pairs.to_addr))

round_gives : (found : ForwardPairs) → PlainPairs found → Gives PlainPairs (forward_round found)
unfolding forward_round
round_gives found plain tokens fair =
    behind_it (IfThere IsPlain) PlainPairs _ (or_pair (codes "port") found.port tokens) (or_pair_gives (codes "port") found.port plain.0 tokens fair) (λ port one rest fair.
    behind_it (IfThere IsPlain) PlainPairs _ (or_pair (codes "protocol") found.protocol rest) (or_pair_gives (codes "protocol") found.protocol plain.1.0 rest fair) (λ protocol two rest fair.
    behind_it (IfThere IsPlain) PlainPairs _ (or_pair (codes "to-port") found.to_port rest) (or_pair_gives (codes "to-port") found.to_port plain.1.1.0 rest fair) (λ to_port three rest fair.
    behind_it (IfThere IsPlain) PlainPairs _ (or_pair (codes "to-addr") found.to_addr rest) (or_pair_gives (codes "to-addr") found.to_addr plain.1.1.1 rest fair) (λ to_addr four rest fair. ((one, (two, (three, four))), fair)))))

pairs_gives : Gives PlainPairs forward_pairs
unfolding forward_pairs
pairs_gives tokens fair =
    behind_it PlainPairs PlainPairs _ (forward_round no_pairs tokens) (round_gives no_pairs (tt, (tt, (tt, tt))) tokens fair) (λ first is rest fair.
    behind_it PlainPairs PlainPairs _ (forward_round first rest) (round_gives first is rest fair) (λ second is rest fair.
    behind_it PlainPairs PlainPairs _ (forward_round second rest) (round_gives second is rest fair) (λ third is rest fair. round_gives third is rest fair)))

forward_gives : (offset : ℕ) → Gives Any (forward offset)
unfolding forward
forward_gives offset tokens fair =
    behind_it PlainPairs Any _ (forward_pairs tokens) (pairs_gives tokens fair) (λ pairs plain rest fair.
    behind_it IsPlain Any _ (needed pairs.port rest) (needed_gives IsPlain pairs.port plain.0 rest fair) (λ port is rest fair.
    behind_it IsPlain Any _ (needed pairs.protocol rest) (needed_gives IsPlain pairs.protocol plain.1.0 rest fair) (λ protocol is rest fair. (tt, fair))))

element_of_gives : (offset : ℕ) (word : ElementWord) → Gives Any (element_of offset word)
unfolding element_of
element_of_gives offset element_word.Service tokens fair = behind_it IsPlain Any _ (value (codes "name") tokens) (value_gives (codes "name") tokens fair) (λ name is rest fair. (tt, fair))
element_of_gives offset element_word.Port tokens fair = behind_it Any Any _ (ports tokens) (ports_gives tokens fair) (λ ports is rest fair. (tt, fair))
element_of_gives offset element_word.Protocol tokens fair = behind_it IsPlain Any _ (value (codes "value") tokens) (value_gives (codes "value") tokens fair) (λ protocol is rest fair. (tt, fair))
element_of_gives offset element_word.IcmpBlock tokens fair = behind_it IsPlain Any _ (value (codes "name") tokens) (value_gives (codes "name") tokens fair) (λ name is rest fair. (tt, fair))
element_of_gives offset element_word.IcmpType tokens fair = behind_it IsPlain Any _ (value (codes "name") tokens) (value_gives (codes "name") tokens fair) (λ name is rest fair. (tt, fair))
element_of_gives offset element_word.Masquerade tokens fair = (tt, fair)
element_of_gives offset element_word.SourcePort tokens fair = behind_it Any Any _ (ports tokens) (ports_gives tokens fair) (λ ports is rest fair. (tt, fair))
element_of_gives offset element_word.ForwardPort tokens fair = behind_it Any Any _ (forward offset tokens) (forward_gives offset tokens fair) (λ forward is rest fair. (tt, fair))

element_gives : Gives (IfThere Any) element
unfolding element
element_gives tokens fair =
    optionally_gives Any (element_of (offset tokens)) (word_in element_words tokens).0 (element_of_gives (offset tokens)) (word_in element_words tokens).1 (one_fair element_words tokens fair)

limit_gives : Gives (IfThere IsPlain) limit
unfolding limit
limit_gives tokens fair = optional_gives IsPlain (codes "limit") (value (codes "value")) (value_gives (codes "value")) tokens fair

abbrev pub PlainPrefix : LogParts → Type 0
PlainPrefix parts = IfThere IsPlain parts.prefix

log_gives : Gives PlainPrefix log
unfolding log
log_gives tokens fair =
    let prefix = take_pair (codes "prefix") tokens in
    let level = take_pair (codes "level") prefix.1 in
    let one = taken (codes "prefix") tokens fair in
    let other = taken (codes "level") prefix.1 one.1 in
    behind_it (IfThere IsPlain) PlainPrefix _ (or_pair (codes "prefix") prefix.0 level.1) (or_pair_gives (codes "prefix") prefix.0 one.0 level.1 other.1) (λ found is rest fair.
    behind_it (IfThere IsPlain) PlainPrefix _ (limit rest) (limit_gives rest fair) (λ limit plain rest fair. (is, fair)))

audit_gives : Gives Any audit
unfolding audit
audit_gives tokens fair = behind_it (IfThere IsPlain) Any _ (limit tokens) (limit_gives tokens fair) (λ limit plain rest fair. (tt, fair))

act_of_gives : (word : ActionWord) → Gives Any (act_of word)
unfolding act_of
act_of_gives action_word.Accept tokens fair = (tt, fair)
act_of_gives action_word.Reject tokens fair = (tt, (taken (codes "type") tokens fair).1)
act_of_gives action_word.Drop tokens fair = (tt, fair)
act_of_gives action_word.Mark tokens fair = behind_it IsPlain Any _ (value (codes "set") tokens) (value_gives (codes "set") tokens fair) (λ mark is rest fair. (tt, fair))

action_of_gives : (word : ActionWord) → Gives Any (action_of word)
unfolding action_of
action_of_gives word tokens fair =
    behind_it Any Any _ (act_of word tokens) (act_of_gives word tokens fair) (λ act any rest fair. behind_it (IfThere IsPlain) Any _ (limit rest) (limit_gives rest fair) (λ limit plain rest fair. (tt, fair)))

action_gives : Gives (IfThere Any) action
unfolding action
action_gives tokens fair =
    optionally_gives Any action_of (word_in action_words tokens).0 action_of_gives (word_in action_words tokens).1 (one_fair action_words tokens fair)

-- what is known of the parts of a rule beside their grammar
pub record AreGiven (parts : RuleParts) : Type 0 where
  pub no_mac : IfThere (λ (side : SideParts). IsNoMacName side.name) parts.dest
  pub plain : IfThere PlainPrefix parts.log

pub rule_gives : Gives AreGiven rule
unfolding rule
rule_gives tokens fair =
    behind_it Any AreGiven _ (expect (codes "rule") tokens) (expect_gives (codes "rule") tokens fair) (λ begins any rest fair.
    behind_it Any AreGiven _ (head rest) (head_gives rest fair) (λ head any rest fair.
    behind_it (IfThere (λ (side : SideParts). Any side.name)) AreGiven _ (optional (codes "source") (side source_name) rest) (optional_gives (λ (side : SideParts). Any side.name) (codes "source") (side source_name) (side_gives Any source_name source_name_gives) rest fair) (λ source any rest fair.
    behind_it (IfThere (λ (side : SideParts). IsNoMacName side.name)) AreGiven _ (optional (codes "destination") (side destination_name) rest) (optional_gives (λ (side : SideParts). IsNoMacName side.name) (codes "destination") (side destination_name) (side_gives IsNoMacName destination_name destination_name_gives) rest fair) (λ dest no_mac rest fair.
    behind_it (IfThere Any) AreGiven _ (element rest) (element_gives rest fair) (λ element any rest fair.
    behind_it (IfThere PlainPrefix) AreGiven _ (optional (codes "log") log rest) (optional_gives PlainPrefix (codes "log") log log_gives rest fair) (λ log plain rest fair.
    behind_it (IfThere Any) AreGiven _ (optional (codes "audit") audit rest) (optional_gives Any (codes "audit") audit audit_gives rest fair) (λ audit any rest fair.
    behind_it (IfThere Any) AreGiven _ (action rest) (action_gives rest fair) (λ action any rest fair.
    behind_it Any AreGiven _ (at_end rest) (end_gives rest fair) (λ ends any rest fair. (record { no_mac = no_mac; plain = plain }, fair))))))))))

-- Dicts, as a script's output has them (the spelling is this project's own): `key=value` between braces, with the keys of settings in
-- ascending order.
use Rattle.std.specs.Prelude.{ℕ, length, ◌==◌, ◌||◌, if◌then◌else◌, codes, List, [], ◌∷◌, ◌++◌, Option, None, Some}
use Rattle.fw_calls.specs.declared.dict.Dict.{Dict}
use Rattle.fw_calls.specs.declared.dict.DictField.{DictField}
use Rattle.fw_calls.specs.declared.reply.Active.{Active}
use Rattle.fw_dicts.specs.Keys.{Fields, value_at}
use Rattle.fw_event_told.specs.Joined.{joined}
use Rattle.fw_event_told.specs.Values.{field_text, texts_text}
use Rattle.fw_quote.specs.Quoted.{quoted}

-- the keys of a zone's settings, and those of a policy's, in ascending order
unfoldable pub zone_keys : List (List ℕ)
zone_keys =
    codes "description" ∷ codes "forward" ∷ codes "forward_ports" ∷ codes "icmp_block_inversion" ∷ codes "icmp_blocks"
    ∷ codes "interfaces" ∷ codes "masquerade" ∷ codes "ports" ∷ codes "protocols" ∷ codes "rules_str" ∷ codes "services"
    ∷ codes "short" ∷ codes "source_ports" ∷ codes "sources" ∷ codes "target" ∷ codes "version" ∷ []

unfoldable pub policy_keys : List (List ℕ)
policy_keys =
    codes "description" ∷ codes "egress_zones" ∷ codes "forward_ports" ∷ codes "icmp_blocks" ∷ codes "ingress_zones"
    ∷ codes "masquerade" ∷ codes "ports" ∷ codes "priority" ∷ codes "protocols" ∷ codes "rich_rules" ∷ codes "services"
    ∷ codes "short" ∷ codes "source_ports" ∷ codes "target" ∷ codes "version" ∷ []

-- the value of a key, or nothing
abbrev pub value_text : Option DictField → List ℕ
value_text None = []
value_text (Some field) = field_text field

unfoldable pub entry_text : Fields → (key : List ℕ) → List ℕ
entry_text fields key = quoted key ++ 61 ∷ value_text (value_at fields key)

-- a dict with these keys
unfoldable pub dict_text : (keys : List (List ℕ)) → Dict → List ℕ
dict_text keys dict = 123 ∷ joined (entry_text dict.fields) keys ++ 125 ∷ []

-- a key with its list, where that isn't empty
abbrev pub list_text : (key : List ℕ) → List (List ℕ) → List ℕ
list_text key [] = []
list_text key (first ∷ others) = quoted key ++ 61 ∷ texts_text (first ∷ others)

-- a blank between two lists that both aren't empty
abbrev pub between_text : (first second : List (List ℕ)) → List ℕ
between_text first second = if length first == 0 || length second == 0 then [] else 32 ∷ []

-- the dict of two lists
unfoldable pub lists_text : (key : List ℕ) → (first : List (List ℕ)) → (other_key : List ℕ) → (second : List (List ℕ)) → List ℕ
lists_text key first other_key second =
    123 ∷ list_text key first ++ between_text first second ++ list_text other_key second ++ 125 ∷ []

-- a name and its two lists
unfoldable pub active_text : (key other_key : List ℕ) → Active → List ℕ
active_text key other_key active = quoted active.name ++ 61 ∷ lists_text key active.first other_key active.second

-- the dict of all that are active
unfoldable pub actives_text : (key other_key : List ℕ) → List Active → List ℕ
actives_text key other_key actives = 123 ∷ joined (active_text key other_key) actives ++ 125 ∷ []

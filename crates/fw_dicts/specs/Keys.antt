-- The keys of settings dicts and the types of their values (firewalld.dbus(5), `getZoneSettings2` of zones and `getPolicySettings` of
-- policies).
use Rattle.std.specs.Prelude.{ℕ, ◌==◌, Bool, true, false, not, if◌then◌else◌, codes, fold, List, [], ◌∷◌, length, Option, None, Some, find, Result, Ok}
use Rattle.std.specs.Cmp.Lexicographic.{slice_cmp}
use Rattle.std.specs.List.{list_all}
use Rattle.std.specs.Option.{option_map}
use Rattle.std.specs.Ordering.{is_lt, nat_cmp}
use Rattle.std.specs.Str.{bytes_eq}
use Rattle.fw_act.specs.Acts.{refused}
use Rattle.fw_calls.specs.declared.dict.Dict.{Dict}
use Rattle.fw_calls.specs.declared.dict.DictField.{DictField}
use Rattle.fw_calls.specs.declared.dict.DictField.TheVariants as value
use Rattle.fw_calls.specs.declared.reply.Refusal.{Refusal}
use Rattle.fw_dicts.specs.declared.shape.Owner.{Owner}
use Rattle.fw_dicts.specs.declared.shape.Owner.TheVariants as owner
use Rattle.fw_dicts.specs.declared.shape.Shape.{Shape}
use Rattle.fw_dicts.specs.declared.shape.Shape.TheVariants as shape
use Rattle.fw_model.specs.declared.code.Code.TheVariants as code
use Rattle.fw_text.specs.Names.{named}

-- a zone's keys, in order; a row of ports has a port and a protocol, one of forward ports a port and an address, too
abbrev pub zone_keys : List (List ℕ × Shape)
zone_keys =
    (codes "version", shape.Text) ∷ (codes "short", shape.Text) ∷ (codes "description", shape.Text) ∷ (codes "target", shape.Text)
    ∷ (codes "services", shape.Texts) ∷ (codes "ports", shape.Rows 2) ∷ (codes "protocols", shape.Texts) ∷ (codes "source_ports", shape.Rows 2)
    ∷ (codes "icmp_blocks", shape.Texts) ∷ (codes "icmp_block_inversion", shape.Flag) ∷ (codes "masquerade", shape.Flag)
    ∷ (codes "forward_ports", shape.Rows 4) ∷ (codes "rules_str", shape.Texts) ∷ (codes "interfaces", shape.Texts)
    ∷ (codes "sources", shape.Texts) ∷ (codes "forward", shape.Flag) ∷ []

-- a policy's keys, likewise
abbrev pub policy_keys : List (List ℕ × Shape)
policy_keys =
    (codes "version", shape.Text) ∷ (codes "short", shape.Text) ∷ (codes "description", shape.Text) ∷ (codes "target", shape.Text)
    ∷ (codes "priority", shape.Number) ∷ (codes "ingress_zones", shape.Texts) ∷ (codes "egress_zones", shape.Texts)
    ∷ (codes "services", shape.Texts) ∷ (codes "ports", shape.Rows 2) ∷ (codes "protocols", shape.Texts) ∷ (codes "source_ports", shape.Rows 2)
    ∷ (codes "icmp_blocks", shape.Texts) ∷ (codes "masquerade", shape.Flag) ∷ (codes "forward_ports", shape.Rows 4)
    ∷ (codes "rich_rules", shape.Texts) ∷ []

unfoldable pub zone_shape : (key : List ℕ) → Option Shape
zone_shape key = named zone_keys key

unfoldable pub policy_shape : (key : List ℕ) → Option Shape
policy_shape key = named policy_keys key

-- the type of a key's value, if the key is one of these
abbrev pub shape_of : Owner → (key : List ℕ) → Option Shape
shape_of owner.Zone key = zone_shape key
shape_of owner.Policy key = policy_shape key

abbrev pub are_rows : (width : ℕ) → DictField → Bool
are_rows width (value.Rows rows) = list_all (λ (row : List (List ℕ)). length row == width) rows
are_rows width other = false

-- whether a value is of a type
unfoldable pub fits : Shape → DictField → Bool
fits shape.Text (value.Text text) = true
fits shape.Text other = false
fits shape.Flag (value.Bool flag) = true
fits shape.Flag other = false
fits shape.Number (value.Int number) = true
fits shape.Number other = false
fits shape.Texts (value.Texts texts) = true
fits shape.Texts other = false
fits (shape.Rows width) other = are_rows width other

-- keys with their values
abbrev pub Fields : Type 0
Fields = List (List ℕ × DictField)

-- the value of a key: of equal keys the first alone counts
unfoldable pub value_at : Fields → (key : List ℕ) → Option DictField
value_at fields key = option_map (λ (field : List ℕ × DictField). field.1) (find (λ (field : List ℕ × DictField). bytes_eq field.0 key) fields)

abbrev pub misfits : Option Shape → Option DictField → Bool
misfits None value = true
misfits (Some shape) None = true
misfits (Some shape) (Some value) = not (fits shape value)

-- A key is unknown that isn't listed above, and so is one whose value is of another type.
unfoldable pub is_unknown : Owner → Fields → (key : List ℕ) → Bool
is_unknown owner fields key = misfits (shape_of owner key) (value_at fields key)

-- the lesser text in byte order
unfoldable pub lesser : Option (List ℕ) → List ℕ → Option (List ℕ)
lesser None key = Some key
lesser (Some least) key = if is_lt (slice_cmp nat_cmp key least) then Some key else Some least

abbrev pub with_key : Owner → Fields → (least : Option (List ℕ)) → List ℕ × DictField → Option (List ℕ)
with_key owner fields least field = if is_unknown owner fields field.0 then lesser least field.0 else least

-- the least unknown key in byte order
unfoldable pub first_unknown : Owner → Fields → Option (List ℕ)
first_unknown owner fields = fold (with_key owner fields) None fields

abbrev pub without_unknown : (unknown : Option (List ℕ)) → Result (Unit {0}) Refusal
without_unknown None = Ok tt
without_unknown (Some key) = refused code.InvalidValue key

-- all keys have to be known
unfoldable pub known_keys : Owner → Fields → Result (Unit {0}) Refusal
known_keys owner fields = without_unknown (first_unknown owner fields)

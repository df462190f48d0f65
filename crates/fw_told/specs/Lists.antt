-- Lists and dicts of texts, as a script's output has them (the spelling is this project's own): a list is its items between
-- `[` and `]`, a dict its entries `key=value` between `{` and `}`, both joined by blanks; texts stand in quotes.
use Rattle.std.specs.Prelude.{ℕ, codes, ◌==◌, Bool, ◌||◌, if◌then◌else◌, List, [], ◌∷◌, ◌++◌, length}
use Rattle.std.specs.List.{flat_map}
use Rattle.fw_quote.specs.Quoted.{quoted}
use Rattle.fw_told.specs.declared.told.Active.{Active}

-- items, each behind a blank
abbrev pub other_items_text : List (List ℕ) → List ℕ
other_items_text others = flat_map (λ other. 32 ∷ quoted other) others

-- items joined by blanks
abbrev pub items_text : List (List ℕ) → List ℕ
items_text [] = []
items_text (first ∷ others) = quoted first ++ other_items_text others

-- a list of texts
unfoldable pub texts_text : List (List ℕ) → List ℕ
texts_text texts = 91 ∷ items_text texts ++ 93 ∷ []

-- a key with its list, where that isn't empty
abbrev pub entry_text : (key : List ℕ) → List (List ℕ) → List ℕ
entry_text key [] = []
entry_text key (first ∷ others) = quoted key ++ 61 ∷ texts_text (first ∷ others)

-- a blank between two lists that both aren't empty
abbrev pub between_text : (interfaces sources : List (List ℕ)) → List ℕ
between_text interfaces sources = if length interfaces == 0 || length sources == 0 then [] else 32 ∷ []

-- the dict of a zone's interfaces and sources
unfoldable pub bindings_text : (interfaces sources : List (List ℕ)) → List ℕ
bindings_text interfaces sources =
    123 ∷ entry_text (codes "interfaces") interfaces ++ between_text interfaces sources
    ++ entry_text (codes "sources") sources ++ 125 ∷ []

-- a zone's name and its bindings
abbrev pub active_text : Active → List ℕ
active_text zone = quoted zone.name ++ 61 ∷ bindings_text zone.interfaces zone.sources

abbrev pub other_zones_text : List Active → List ℕ
other_zones_text others = flat_map (λ other. 32 ∷ active_text other) others

-- zones joined by blanks
abbrev pub zones_text : List Active → List ℕ
zones_text [] = []
zones_text (first ∷ others) = active_text first ++ other_zones_text others

-- the dict of zones, each a dict of its bindings
unfoldable pub active_zones_text : List Active → List ℕ
active_zones_text zones = 123 ∷ zones_text zones ++ 125 ∷ []

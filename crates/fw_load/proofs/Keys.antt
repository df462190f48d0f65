-- The keys of an object are those of its entries.
use Rattle.std.proofs.Common.{◌≡◌, List, [], ◌∷◌, map, String, string_bytes, refl, ap}
use Rattle.std.specs.Map.{keys_of}
use Rattle.std.specs.declared.alloc.Global.{Global}
use Rattle.serde_json.specs.View.{members_view}
use Rattle.serde_json.specs.declared.value.Value.{Value}
use Rattle.fw_load.specs.Fields.{keys_in}

pub entry_keys : (entries : List (String Global × Value)) → map string_bytes (keys_of entries) ≡ keys_in (members_view entries)
entry_keys [] = refl
entry_keys (entry ∷ entries) = ap (λ keys. string_bytes entry.0 ∷ keys) (entry_keys entries)

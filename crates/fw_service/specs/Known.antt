-- Services by their names.
use Rattle.std.specs.Prelude.{ℕ, Bool, List}
use Rattle.std.specs.List.{list_any}
use Rattle.std.specs.Str.{bytes_eq}
use Rattle.fw_model.specs.declared.service.Service.{Service}

-- some service has a name
abbrev pub is_known : List Service → List ℕ → Bool
is_known services name = list_any (λ service. bytes_eq service.name name) services

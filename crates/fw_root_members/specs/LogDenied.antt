-- Which denied packets are logged, as a call spells it and is told it (firewalld.conf(5), `LogDenied`; firewalld.dbus(5),
-- `setLogDenied`).
use Rattle.std.specs.Prelude.{ℕ, Bool, codes, List, [], ◌∷◌, Option}
use Rattle.std.specs.Str.{bytes_eq}
use Rattle.fw_model.specs.declared.config.LogDenied.{LogDenied}
use Rattle.fw_model.specs.declared.config.LogDenied.TheVariants as denied
use Rattle.fw_text.specs.Names.{named}

abbrev pub log_denied_names : List (List ℕ × LogDenied)
log_denied_names =
    (codes "off", denied.Off) ∷ (codes "all", denied.All) ∷ (codes "unicast", denied.Unicast) ∷ (codes "broadcast", denied.Broadcast)
    ∷ (codes "multicast", denied.Multicast) ∷ []

abbrev pub log_denied : (text : List ℕ) → Option LogDenied
log_denied text = named log_denied_names text

abbrev pub log_denied_text : LogDenied → List ℕ
log_denied_text denied.Off = codes "off"
log_denied_text denied.All = codes "all"
log_denied_text denied.Unicast = codes "unicast"
log_denied_text denied.Broadcast = codes "broadcast"
log_denied_text denied.Multicast = codes "multicast"

-- whether two are one
abbrev pub same_log_denied : LogDenied → LogDenied → Bool
same_log_denied one other = bytes_eq (log_denied_text one) (log_denied_text other)

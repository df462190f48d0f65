-- Policies (firewalld.policies(5)): between which zones they stand, and what they may do there.
use Rattle.std.specs.Prelude.{◌≡◌, ◌≢◌, ◌⊎◌, ℕ, List, [], ◌∷◌, Option, None, Some, IsNone, IsSome, IsTrue, pos}
use Rattle.fw_addr.specs.declared.packet.Family.TheVariants as families
use Rattle.fw_model.specs.declared.config.Config.{Config}
use Rattle.fw_model.specs.declared.forward.Forward.{Forward}
use Rattle.fw_model.specs.declared.policy.Policy.{Policy}
use Rattle.fw_model.specs.declared.rich.Act.TheVariants as act
use Rattle.fw_model.specs.declared.rich.Action.{Action}
use Rattle.fw_model.specs.declared.rich.Element.TheVariants as element
use Rattle.fw_model.specs.declared.rich.Rich.{Rich}
use Rattle.fw_model.specs.declared.rules.Rules.{Rules}
use Rattle.fw_valid.specs.Each.{Each}
use Rattle.fw_valid.specs.Names.{any, host, zone_names}
use Rattle.fw_valid.specs.Riches.{IsPriority}
use Rattle.fw_zone.specs.Lists.{IsIn}

-- a zone that there is, under a name that means nothing else here
pub record IsNamedZone (config : Config) (name : List ℕ) : Type 0 where
  pub known : IsIn name (zone_names config)
  pub not_host : name ≢ host
  pub not_any : name ≢ any

-- A side of a policy names zones that there are, or is the host alone, or every zone alone. It may be empty.
abbrev pub IsSide : Config → List (List ℕ) → Type 0
IsSide config names =
    (names ≡ host ∷ []) ⊎ ((names ≡ any ∷ []) ⊎ Each (IsNamedZone config) names)

-- packets masquerade, by the plain setting or by a rich rule
abbrev pub Masquerades : Rules → Type 0
Masquerades rules =
    IsTrue rules.masquerade ⊎ ((rule : Rich) × IsIn rule rules.rich × (rule.element ≡ Some element.Masquerade))

-- a port is forwarded, by a plain setting or by a rich rule
abbrev pub Forwards : Rules → Forward → Type 0
Forwards rules forward =
    IsIn forward rules.forwards ⊎ ((rule : Rich) × IsIn rule rules.rich × (rule.element ≡ Some (element.Forward forward)))

-- packets are marked by a rich rule
abbrev pub Marks : Rules → Type 0
Marks rules =
    (rule : Rich) × (action : Action) × (value : ℕ) × (mask : ℕ) × IsIn rule rules.rich × (rule.action ≡ Some action) × (action.act ≡ act.Mark value mask)

-- a policy as the manual page has it
pub record IsPolicy (config : Config) (policy : Policy) : Type 0 where
  pub priority : IsPriority policy.priority
  pub not_with_zones : policy.priority ≢ pos 0
  pub ingress : IsSide config policy.ingress
  pub egress : IsSide config policy.egress
  pub not_host_to_host : policy.ingress ≡ host ∷ [] → policy.egress ≢ host ∷ []
  -- masquerade comes behind routing, so it stands where packets of every zone go out
  pub masquerade : Masquerades policy.rules → (policy.ingress ≡ any ∷ []) × (policy.egress ≢ host ∷ [])
  -- a port of this host is forwarded to another of its ports
  pub forward_here : (forward : Forward) → Forwards policy.rules forward → IsNone forward.to_addr → policy.egress ≡ host ∷ []
  -- or to a host in any zone
  pub forward_there : (forward : Forward) → Forwards policy.rules forward → IsSome forward.to_addr → policy.egress ≡ any ∷ []
  pub mark : Marks policy.rules → policy.egress ≡ any ∷ []

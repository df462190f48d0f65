-- A zone has what it had, with a setting more, and all but one with that one less.
use Rattle.std.proofs.Common.{◌≡◌, ◌≢◌, ◌∙◌, ℕ, inl, inr, Bool, true, false, IsTrue, if◌then◌else◌, List, [], ◌∷◌, ◌++◌, nat_eq, refl, sym, ap, subst}
use Rattle.std.specs.Str.{bytes_eq}
use Rattle.fw_answer.proofs.Equality as equality
use Rattle.fw_answer.proofs.Items.{IsEquality}
use Rattle.fw_answer.proofs.Rules.{same_rules}
use Rattle.fw_answer.specs.Equal.{same_port, same_rule}
use Rattle.fw_answer.specs.Lists.{without}
use Rattle.fw_model.specs.declared.forward.Forward.{Forward}
use Rattle.fw_model.specs.declared.port.Port.{Port}
use Rattle.fw_model.specs.declared.rich.Rich.{Rich}
use Rattle.fw_model.specs.declared.rules.Rules.{Rules}
use Rattle.fw_model.specs.declared.setting.Setting.TheVariants as setting
use Rattle.fw_model.specs.declared.setting.Setting.{Setting}
use Rattle.fw_valid.specs.Each.{IsWithoutRepeats}
use Rattle.fw_valid_edits.proofs.Edited.{in_front}
use Rattle.fw_zone.specs.Lists.{IsIn}
use Rattle.fw_zone.specs.Settings.{Has, with_setting}
use Rattle.fw_zone_edits.proofs.Forwards.{same_forwards}
use Rattle.fw_zone_edits.specs.Settings.{same_forward, without_setting}

-- an item that came is there
last_in : {A : Type 0} (items : List A) (item : A) → IsIn item (items ++ item ∷ [])
last_in [] item = inl refl
last_in (first ∷ others) item = inr (last_in others item)

module _ {A : Type 0} (same : A → A → Bool) (equal : IsEquality same) where
  -- another item than the one that went is still there
  stays_by : (gone first item : A) (others : List A) (here : Bool) → same first gone ≡ here → gone ≢ item → IsIn item (first ∷ others) → (IsIn item others → IsIn item (without same gone others))
      → IsIn item (if here then others else first ∷ without same gone others)
  stays_by gone first item others true is differs (inl one) rest = absurd (differs (sym ((equal.decides first gone).0 is) ∙ one))
  stays_by gone first item others true is differs (inr there) rest = there
  stays_by gone first item others false is differs (inl one) rest = inl one
  stays_by gone first item others false is differs (inr there) rest = inr (rest there)

  stays_without : (gone item : A) (items : List A) → gone ≢ item → IsIn item items → IsIn item (without same gone items)
  stays_without gone item [] differs there = there
  stays_without gone item (first ∷ others) differs there =
      stays_by gone first item others (same first gone) refl differs there (λ rest. stays_without gone item others differs rest)

  -- and that one isn't, where no item was there twice
  gone_by : (gone first : A) (others : List A) (here : Bool) → same first gone ≡ here → IsWithoutRepeats (first ∷ others) → ¬ (IsIn gone (without same gone others))
      → ¬ (IsIn gone (if here then others else first ∷ without same gone others))
  gone_by gone first others true is once rest there = once.0 (subst (λ (item : A). IsIn item others) (sym ((equal.decides first gone).0 is)) there)
  gone_by gone first others false is once rest (inl one) = let impossible = sym is ∙ (equal.decides first gone).1 one in cc
  gone_by gone first others false is once rest (inr there) = rest there

  pub gone_without : (gone : A) (items : List A) → IsWithoutRepeats items → ¬ (IsIn gone (without same gone items))
  gone_without gone [] once there = there
  gone_without gone (first ∷ others) once there = gone_by gone first others (same first gone) refl once (gone_without gone others once.1) there

-- settings of which one list is another
services_set : (rules : Rules) (new : List (List ℕ)) (other : Setting) → ((item : List ℕ) → other ≡ setting.Service item → IsIn item rules.services → IsIn item new) → Has rules other → Has (record rules { services = new }) other
services_set rules new (setting.Service name) goes has = goes name refl has
services_set rules new (setting.Port port) goes has = has
services_set rules new (setting.Protocol protocol) goes has = has
services_set rules new (setting.SourcePort port) goes has = has
services_set rules new (setting.IcmpBlock name) goes has = has
services_set rules new setting.Masquerade goes has = has
services_set rules new (setting.Forward forward) goes has = has
services_set rules new (setting.Rich rule) goes has = has

ports_set : (rules : Rules) (new : List Port) (other : Setting) → ((item : Port) → other ≡ setting.Port item → IsIn item rules.ports → IsIn item new) → Has rules other → Has (record rules { ports = new }) other
ports_set rules new (setting.Service name) goes has = has
ports_set rules new (setting.Port port) goes has = goes port refl has
ports_set rules new (setting.Protocol protocol) goes has = has
ports_set rules new (setting.SourcePort port) goes has = has
ports_set rules new (setting.IcmpBlock name) goes has = has
ports_set rules new setting.Masquerade goes has = has
ports_set rules new (setting.Forward forward) goes has = has
ports_set rules new (setting.Rich rule) goes has = has

protocols_set : (rules : Rules) (new : List ℕ) (other : Setting) → ((item : ℕ) → other ≡ setting.Protocol item → IsIn item rules.protocols → IsIn item new) → Has rules other → Has (record rules { protocols = new }) other
protocols_set rules new (setting.Service name) goes has = has
protocols_set rules new (setting.Port port) goes has = has
protocols_set rules new (setting.Protocol protocol) goes has = goes protocol refl has
protocols_set rules new (setting.SourcePort port) goes has = has
protocols_set rules new (setting.IcmpBlock name) goes has = has
protocols_set rules new setting.Masquerade goes has = has
protocols_set rules new (setting.Forward forward) goes has = has
protocols_set rules new (setting.Rich rule) goes has = has

source_ports_set : (rules : Rules) (new : List Port) (other : Setting) → ((item : Port) → other ≡ setting.SourcePort item → IsIn item rules.source_ports → IsIn item new) → Has rules other → Has (record rules { source_ports = new }) other
source_ports_set rules new (setting.Service name) goes has = has
source_ports_set rules new (setting.Port port) goes has = has
source_ports_set rules new (setting.Protocol protocol) goes has = has
source_ports_set rules new (setting.SourcePort port) goes has = goes port refl has
source_ports_set rules new (setting.IcmpBlock name) goes has = has
source_ports_set rules new setting.Masquerade goes has = has
source_ports_set rules new (setting.Forward forward) goes has = has
source_ports_set rules new (setting.Rich rule) goes has = has

icmp_blocks_set : (rules : Rules) (new : List (List ℕ)) (other : Setting) → ((item : List ℕ) → other ≡ setting.IcmpBlock item → IsIn item rules.icmp_blocks → IsIn item new) → Has rules other → Has (record rules { icmp_blocks = new }) other
icmp_blocks_set rules new (setting.Service name) goes has = has
icmp_blocks_set rules new (setting.Port port) goes has = has
icmp_blocks_set rules new (setting.Protocol protocol) goes has = has
icmp_blocks_set rules new (setting.SourcePort port) goes has = has
icmp_blocks_set rules new (setting.IcmpBlock name) goes has = goes name refl has
icmp_blocks_set rules new setting.Masquerade goes has = has
icmp_blocks_set rules new (setting.Forward forward) goes has = has
icmp_blocks_set rules new (setting.Rich rule) goes has = has

masquerade_set : (rules : Rules) (new : Bool) (other : Setting) → (other ≡ setting.Masquerade → IsTrue rules.masquerade → IsTrue new) → Has rules other → Has (record rules { masquerade = new }) other
masquerade_set rules new (setting.Service name) goes has = has
masquerade_set rules new (setting.Port port) goes has = has
masquerade_set rules new (setting.Protocol protocol) goes has = has
masquerade_set rules new (setting.SourcePort port) goes has = has
masquerade_set rules new (setting.IcmpBlock name) goes has = has
masquerade_set rules new setting.Masquerade goes has = goes refl has
masquerade_set rules new (setting.Forward forward) goes has = has
masquerade_set rules new (setting.Rich rule) goes has = has

forwards_set : (rules : Rules) (new : List Forward) (other : Setting) → ((item : Forward) → other ≡ setting.Forward item → IsIn item rules.forwards → IsIn item new) → Has rules other → Has (record rules { forwards = new }) other
forwards_set rules new (setting.Service name) goes has = has
forwards_set rules new (setting.Port port) goes has = has
forwards_set rules new (setting.Protocol protocol) goes has = has
forwards_set rules new (setting.SourcePort port) goes has = has
forwards_set rules new (setting.IcmpBlock name) goes has = has
forwards_set rules new setting.Masquerade goes has = has
forwards_set rules new (setting.Forward forward) goes has = goes forward refl has
forwards_set rules new (setting.Rich rule) goes has = has

rich_set : (rules : Rules) (new : List Rich) (other : Setting) → ((item : Rich) → other ≡ setting.Rich item → IsIn item rules.rich → IsIn item new) → Has rules other → Has (record rules { rich = new }) other
rich_set rules new (setting.Service name) goes has = has
rich_set rules new (setting.Port port) goes has = has
rich_set rules new (setting.Protocol protocol) goes has = has
rich_set rules new (setting.SourcePort port) goes has = has
rich_set rules new (setting.IcmpBlock name) goes has = has
rich_set rules new setting.Masquerade goes has = has
rich_set rules new (setting.Forward forward) goes has = has
rich_set rules new (setting.Rich rule) goes has = goes rule refl has

-- with a setting more
pub has_more : (rules : Rules) (one other : Setting) → Has rules other → Has (with_setting rules one) other
has_more rules (setting.Service name) other has = services_set rules (rules.services ++ name ∷ []) other (λ item is there. in_front rules.services (name ∷ []) item there) has
has_more rules (setting.Port port) other has = ports_set rules (rules.ports ++ port ∷ []) other (λ item is there. in_front rules.ports (port ∷ []) item there) has
has_more rules (setting.Protocol protocol) other has = protocols_set rules (rules.protocols ++ protocol ∷ []) other (λ item is there. in_front rules.protocols (protocol ∷ []) item there) has
has_more rules (setting.SourcePort port) other has = source_ports_set rules (rules.source_ports ++ port ∷ []) other (λ item is there. in_front rules.source_ports (port ∷ []) item there) has
has_more rules (setting.IcmpBlock name) other has = icmp_blocks_set rules (rules.icmp_blocks ++ name ∷ []) other (λ item is there. in_front rules.icmp_blocks (name ∷ []) item there) has
has_more rules setting.Masquerade other has = masquerade_set rules true other (λ is there. refl) has
has_more rules (setting.Forward forward) other has = forwards_set rules (rules.forwards ++ forward ∷ []) other (λ item is there. in_front rules.forwards (forward ∷ []) item there) has
has_more rules (setting.Rich rule) other has = rich_set rules (rules.rich ++ rule ∷ []) other (λ item is there. in_front rules.rich (rule ∷ []) item there) has

-- and that setting
pub has_new : (rules : Rules) (one : Setting) → Has (with_setting rules one) one
has_new rules (setting.Service name) = last_in rules.services name
has_new rules (setting.Port port) = last_in rules.ports port
has_new rules (setting.Protocol protocol) = last_in rules.protocols protocol
has_new rules (setting.SourcePort port) = last_in rules.source_ports port
has_new rules (setting.IcmpBlock name) = last_in rules.icmp_blocks name
has_new rules setting.Masquerade = refl
has_new rules (setting.Forward forward) = last_in rules.forwards forward
has_new rules (setting.Rich rule) = last_in rules.rich rule

-- with a setting less, another one
pub has_still : (rules : Rules) (one other : Setting) → one ≢ other → Has rules other → Has (without_setting rules one) other
has_still rules (setting.Service name) other differs has =
    services_set rules (without bytes_eq name rules.services) other (λ item is there. stays_without bytes_eq equality.texts name item rules.services (λ same. differs (ap setting.Service same ∙ sym is)) there) has
has_still rules (setting.Port port) other differs has =
    ports_set rules (without same_port port rules.ports) other (λ item is there. stays_without same_port equality.ports port item rules.ports (λ same. differs (ap setting.Port same ∙ sym is)) there) has
has_still rules (setting.Protocol protocol) other differs has =
    protocols_set rules (without nat_eq protocol rules.protocols) other (λ item is there. stays_without nat_eq equality.numbers protocol item rules.protocols (λ same. differs (ap setting.Protocol same ∙ sym is)) there) has
has_still rules (setting.SourcePort port) other differs has =
    source_ports_set rules (without same_port port rules.source_ports) other (λ item is there. stays_without same_port equality.ports port item rules.source_ports (λ same. differs (ap setting.SourcePort same ∙ sym is)) there) has
has_still rules (setting.IcmpBlock name) other differs has =
    icmp_blocks_set rules (without bytes_eq name rules.icmp_blocks) other (λ item is there. stays_without bytes_eq equality.texts name item rules.icmp_blocks (λ same. differs (ap setting.IcmpBlock same ∙ sym is)) there) has
has_still rules setting.Masquerade other differs has = masquerade_set rules false other (λ is there. absurd (differs (sym is))) has
has_still rules (setting.Forward forward) other differs has =
    forwards_set rules (without same_forward forward rules.forwards) other (λ item is there. stays_without same_forward same_forwards forward item rules.forwards (λ same. differs (ap setting.Forward same ∙ sym is)) there) has
has_still rules (setting.Rich rule) other differs has =
    rich_set rules (without same_rule rule rules.rich) other (λ item is there. stays_without same_rule same_rules rule item rules.rich (λ same. differs (ap setting.Rich same ∙ sym is)) there) has

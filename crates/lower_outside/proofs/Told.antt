-- Steps that tell items, one behind another.
use Rattle.std.proofs.Common.{◌≡◌, Bool, true, false, ◌&&◌, List, [], ◌∷◌, ◌++◌, Option, None, Some, refl, sym, ap, subst, append-nil, append_assoc}
use Rattle.fw_addr.specs.Subnets.{family}
use Rattle.fw_addr.specs.declared.addr.Addr.{Addr}
use Rattle.fw_addr.specs.declared.addr.Addr.TheVariants as addr
use Rattle.fw_addr.specs.declared.limit.Limit.{Limit}
use Rattle.fw_addr.specs.declared.packet.Family.{Family}
use Rattle.fw_addr.specs.declared.packet.Family.TheVariants.{V4}
use Rattle.fw_hits.specs.Hits.{hits}
use Rattle.fw_hits.specs.Plain.{is_ipv4}
use Rattle.fw_model.specs.Packets.{is_v4}
use Rattle.fw_model.specs.Ports.{port_matches}
use Rattle.fw_model.specs.declared.forward.Forward.{Forward}
use Rattle.fw_model.specs.declared.setting.Setting.TheVariants as setting
use Rattle.fw_valid.specs.Each.{IfThere}
use Rattle.fw_valid.specs.Rules.{IsPlainForward}
use Rattle.fw_verdict.specs.Outside.{target_of}
use Rattle.nf_chains.specs.Marks.{can_translate, is_of_family}
use Rattle.nf_eval.specs.Tests.{is_same_family}
use Rattle.fw_model.specs.declared.config.Config.{Config}
use Rattle.fw_model.specs.declared.packet.Packet.{Packet}
use Rattle.fw_verdict.specs.Changes.{Change, ChangeItem}
use Rattle.fw_verdict.specs.Rich.{passes}
use Rattle.lower_outside.specs.Steps.{AreTold, CanBeMade, IsTold, Tell, statement_of, within}
use Rattle.lower_outside.specs.Steps.AreTold.{also, none}
use Rattle.lower_outside.specs.declared.steps.Step.{Step}
use Rattle.lower_zone.specs.Forms.{limited}
use Rattle.lower_zone.specs.Work.{Tells}
use Rattle.lower_zone.proofs.Tells.{tells_limited}
use Rattle.nf_rules.specs.declared.rule.Match.{Match}
use Rattle.nf_rules.specs.declared.statement.Stmt.{Stmt}

pub tell_nothing : (config : Config) (steps : List Step) → Tell config [] steps steps
tell_nothing config steps told are = subst (λ (items : List ChangeItem). AreTold config steps items) (sym (append-nil told)) are

pub tell_both : (config : Config) (one other : List ChangeItem) (old between new : List Step)
    → Tell config one old between → Tell config other between new → Tell config (one ++ other) old new
tell_both config one other old between new first second told are =
    subst (λ (items : List ChangeItem). AreTold config new items) (append_assoc told one other) (second (told ++ one) (first told are))

told_more : (config : Config) (step : Step) (item : ChangeItem) (steps : List Step) (items : List ChangeItem)
    → IsTold config step item → AreTold config steps items → AreTold config (steps ++ step ∷ []) (items ++ item ∷ [])
told_more config step item _ _ is none = also step [] item [] is none
told_more config step item _ _ is (also first others told items same rest) =
    also first (others ++ step ∷ []) told (items ++ item ∷ []) same (told_more config step item others items is rest)

pub tell_step : (config : Config) (step : Step) (item : ChangeItem) (old new : List Step)
    → new ≡ old ++ step ∷ [] → IsTold config step item → Tell config (item ∷ []) old new
tell_step config step item old new are is told before =
    subst (λ (steps : List Step). AreTold config steps (told ++ item ∷ [])) (sym are) (told_more config step item old told is before)

pub told_none : (config : Config) (items : List ChangeItem) → AreTold config [] items → items ≡ []
told_none config _ none = refl

-- what the last step tells, behind those before it
pub record Last (config : Config) (steps : List Step) (step : Step) (items : List ChangeItem) : Type 0 where
  pub before : List ChangeItem
  pub item : ChangeItem
  pub items_are : items ≡ before ++ item ∷ []
  pub told : AreTold config steps before
  pub is : IsTold config step item

pub told_last : (config : Config) (steps : List Step) (step : Step) (items : List ChangeItem)
    → AreTold config (steps ++ step ∷ []) items → Last config steps step items
told_last config [] step _ (also _ _ item _ is none) = record { before = []; item = item; items_are = refl; told = none; is = is }
told_last config (first ∷ others) step _ (also _ _ item items same rest) =
    let last = told_last config others step items rest in
    record {
      before = item ∷ last.before;
      item = last.item;
      items_are = ap (λ (list : List ChangeItem). item ∷ list) last.items_are;
      told = also first others item last.before same last.told;
      is = last.is;
    }

-- a change of what is told in alternatives
pub tell_change : (config : Config) (condition : Packet → Bool) (change : Change) (alternatives : List (List Match)) (statement : Stmt) (old new : List Step)
    → new ≡ old ++ record { alternatives = alternatives; stmt = statement } ∷ []
    → statement ≡ statement_of change
    → Tells config alternatives condition
    → CanBeMade condition change
    → Tell config (record { hits = condition; change = change } ∷ []) old new
tell_change config condition change alternatives statement old new are same tells can =
    tell_step config (record { alternatives = alternatives; stmt = statement }) (record { hits = condition; change = change }) old new are
    (record { tells = tells; statement = same; can = can })

-- and within a limit
pub tell_within : (config : Config) (condition : Packet → Bool) (limit : Option Limit) (change : Change) (alternatives kept : List (List Match)) (statement : Stmt) (old new : List Step)
    → new ≡ old ++ record { alternatives = kept; stmt = statement } ∷ []
    → kept ≡ limited limit alternatives
    → statement ≡ statement_of change
    → Tells config alternatives condition
    → CanBeMade (λ packet. condition packet && passes limit packet) change
    → Tell config (within condition limit change ∷ []) old new
tell_within config condition limit change alternatives kept statement old new are kept_are same tells can =
    tell_change config (λ packet. condition packet && passes limit packet) change kept statement old new are same
    (subst (λ (list : List (List Match)). Tells config list (λ packet. condition packet && passes limit packet)) (sym kept_are) (tells_limited config alternatives condition limit tells))
    can

-- forwarded ports that are no rich rules are of IPv4
of_v4 : (address : Addr) → is_v4 address ≡ true → family address ≡ V4
of_v4 (addr.V4 number) is = refl
of_v4 (addr.V6 number) is = cc

same_v4 : (one other : Family) → one ≡ V4 → other ≡ V4 → is_same_family one other ≡ true
same_v4 one other is is' = rw (is, is') refl

left : (a b : Bool) → (a && b) ≡ true → a ≡ true
left true b is = refl
left false b is = cc

to_v4 : (told : Option Addr) (source : Addr) → IfThere (λ address. family address ≡ V4) told → is_v4 source ≡ true → is_of_family told (family source) ≡ true
to_v4 None source there is = refl
to_v4 (Some address) source there is = same_v4 (family address) (family source) there (of_v4 source is)

pub port_can : (config : Config) (forward : Forward) (packet : Packet) → IsPlainForward forward → hits config (setting.Forward forward) packet ≡ true
    → can_translate (target_of forward) packet ≡ true
port_can config forward packet plain hit = to_v4 forward.to_addr packet.src plain.in_ipv4 (left (is_ipv4 packet) (port_matches forward.port packet) hit)

pub told_from_none : (config : Config) (items : List ChangeItem) (old new : List Step) → old ≡ [] → Tell config items old new → AreTold config new items
told_from_none config items old new empty tell = tell [] (subst (λ (steps : List Step). AreTold config steps []) (sym empty) none)

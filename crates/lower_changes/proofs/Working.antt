-- The way of a packet through the chains of a side: the base chain, the bindings of zones, and the chain of its zone.
use Rattle.std.proofs.Common.{◌≡◌, ◌∙◌, ◌&&◌, ℕ, suc, inl, inr, Bool, true, false, List, [], ◌∷◌, ◌++◌, map, Option, None, Some, refl, sym, ap, subst, append-nil}
use Rattle.std.specs.Prelude.{if◌then◌else◌, codes, is_some}
use Rattle.std.specs.List.{flat_map}
use Rattle.std.specs.Str.{bytes_eq}
use Rattle.fw_model.specs.declared.config.Config.{Config}
use Rattle.fw_model.specs.declared.outcome.Verdict.TheVariants.{Accept}
use Rattle.fw_model.specs.declared.policy.Policy.{Policy}
use Rattle.fw_model.specs.declared.zone.Zone.{Zone}
use Rattle.fw_verdict.specs.Changes.{ChangeItem, Passing, Reached, going_on, through}
use Rattle.fw_verdict.specs.Sides.{all_items, policies_beside, policy_items, side_items}
use Rattle.fw_verdict.specs.declared.policies.Stage.{Stage}
use Rattle.fw_verdict.specs.declared.policies.Stage.TheVariants as stage
use Rattle.fw_verdict.specs.declared.sides.Side.{Side}
use Rattle.fw_verdict.specs.declared.sides.Side.TheVariants as side
use Rattle.fw_zone.specs.Lists.{IsIn}
use Rattle.lower_blocks.specs.Blocks.{Told}
use Rattle.lower_blocks.specs.Blocks.Told.{of_policy, of_zone}
use Rattle.lower_blocks.proofs.Lists.{in_first, in_map, in_second}
use Rattle.lower_changes.specs.Blocks.{AreBlocks}
use Rattle.lower_changes.specs.Chains.{IsHook, base_chain, direction_of, zone_chain}
use Rattle.lower_changes.specs.Names.{start}
use Rattle.lower_changes.specs.Needed.{needed}
use Rattle.lower_changes.specs.Rules.{early, zone_rules}
use Rattle.lower_changes.specs.Sides.IsSide.{full as full_side, idle as idle_side}
use Rattle.lower_changes.specs.Works.{LetOn, SideWorks, SidesWork, bases_of, keeps_own, side_reached}
use Rattle.lower_changes.specs.Works.SideWorks.{full, idle}
use Rattle.lower_changes.proofs.Doing.{Do, do_all, policy_told, zone_told}
use Rattle.lower_changes.proofs.There.{of_block}
use Rattle.lower_dispatch.specs.Dispatch.{LeadTo, at_count, zone_on}
use Rattle.lower_outside.specs.Does.{FromThere, Reach, moment_of, passing_of}
use Rattle.lower_outside.specs.Needed.{has_changes}
use Rattle.lower_outside.proofs.Idle.{do_nothing}
use Rattle.lower_zone.specs.Evaluates.{EachIsThere, Meeting}
use Rattle.nf_chains.specs.Evaluation.{Ends}
use Rattle.nf_chains.specs.Evaluation.Ends.{accepts, ends, goes, looks, looks_past}
use Rattle.nf_chains.specs.Moments.{Moment}
use Rattle.nf_rules.specs.declared.chain.Chain.{Chain}
use Rattle.nf_rules.specs.declared.rule.Rule.{Rule}
use Rattle.nf_rules.specs.declared.ruleset.Ruleset.{Ruleset}
use Rattle.nf_sound.specs.Names.{chain_of}

module _ (table : Ruleset) (leaving : Option (List ℕ)) where
  -- at the end of a base chain
  from_there : (next : Passing) (over : Bool) (count : ℕ) → FromThere table leaving [] [] (record { now = next; over = over }) count Accept (moment_of next count)
  from_there next true count = (refl, refl)
  from_there next false count = ends

  chain_lets_on : (made : List Rule) (now : Moment) (reached : Reached) → Reach table leaving made now reached → LetOn table leaving made now reached.now
  chain_lets_on made now reached does = record {
    looked_at = does.looked_at;
    ends = subst (λ (list : List Rule). Ends table leaving [] list [] now Accept (moment_of reached.now does.looked_at)) (append-nil made)
        (does.ends [] [] Accept (moment_of reached.now does.looked_at) (from_there reached.now reached.over does.looked_at));
  }

  -- rules that lead to a chain let on what it lets on
  led_lets_on : (made : List Rule) (now : Moment) (name : List ℕ) (chain : Chain) (next : Passing)
      → (leads : LeadTo table leaving made now name)
      → chain_of table.chains name ≡ Some chain
      → LetOn table leaving chain.rules (at_count leads.looked_at now) next
      → LetOn table leaving made now next
  led_lets_on made now name chain next leads is end = record {
    looked_at = end.looked_at;
    ends = subst (λ (list : List Rule). Ends table leaving [] list [] now Accept (moment_of next end.looked_at)) (append-nil made)
        (leads.ends [] [] [] Accept (moment_of next end.looked_at) (goes is end.ends));
  }

-- what leaves by the loopback interface
abbrev chosen : Bool → Passing → Reached → Reached
chosen own now reached = if own then going_on now else reached

lo_and_on : (own : Bool) → (own && true) ≡ own
lo_and_on true = refl
lo_and_on false = refl

leaving_lets_on : (table : Ruleset) (name : List ℕ) (made : List Rule) (now : Moment) (reached : Reached) (own : Bool)
    → bytes_eq name (codes "lo") ≡ own
    → ((count : ℕ) → LetOn table (Some name) made (at_count count now) reached.now)
    → LetOn table (Some name) (early side.Leaving ++ made) now (chosen own (passing_of now) reached).now
leaving_lets_on table name made now reached true is rest = record {
  looked_at = suc now.looked_at;
  ends = looks (lo_and_on (bytes_eq name (codes "lo")) ∙ is) accepts;
}
leaving_lets_on table name made now reached false is rest =
    let end = rest (suc now.looked_at) in
    record {
      looked_at = end.looked_at;
      ends = looks_past (lo_and_on (bytes_eq name (codes "lo")) ∙ is) end.ends;
    }

base_lets_on : (table : Ruleset) (config : Config) (of : Side) (leaving : Option (List ℕ)) (made : List Rule) (now : Moment) (zone : Zone) (reached : Reached)
    → zone_on (direction_of of) config leaving now.packet ≡ Some zone
    → ((count : ℕ) → LetOn table leaving made (at_count count now) reached.now)
    → LetOn table leaving (early of ++ made) now (chosen (keeps_own of leaving) (passing_of now) reached).now
base_lets_on table config side.Marked leaving made now zone reached on rest = rest now.looked_at
base_lets_on table config side.Translated leaving made now zone reached on rest = rest now.looked_at
base_lets_on table config side.Leaving None made now zone reached on rest = cc
base_lets_on table config side.Leaving (Some name) made now zone reached on rest =
    leaving_lets_on table name made now reached (bytes_eq name (codes "lo")) refl rest

-- where no settings are told, nothing changes
no_policies : (config : Config) (of : Side) (policies : List Policy) → ((policy : Policy) → IsIn policy policies → side_items config of policy.rules ≡ [])
    → flat_map (λ policy. side_items config of policy.rules) policies ≡ []
no_policies config of [] none = refl
no_policies config of (policy ∷ others) none =
    ap (λ (list : List ChangeItem). list ++ flat_map (λ one. side_items config of one.rules) others) (none policy (inl refl))
    ∙ no_policies config of others (λ one among. none one (inr among))

nothing_by : (config : Config) (of : Side) (told : Told) (all : List Told) (some : Bool) (items : List ChangeItem)
    → all ≡ []
    → (some ≡ true → IsIn told all)
    → (some ≡ false → items ≡ [])
    → items ≡ []
nothing_by config of told all false items empty listed nothing = nothing refl
nothing_by config of told all true items empty listed nothing = absurd (subst (IsIn told) empty (listed refl))

all_idle : (config : Config) (of : Side) (zones : List Zone) (zone : Zone) → needed config of zones ≡ [] → IsIn zone zones → all_items config of (Some zone) ≡ []
all_idle config of zones zone empty among =
    three (policies stage.BeforeZone)
    (nothing_by config of (of_zone zone) (needed config of zones) (has_changes of zone.rules) (side_items config of zone.rules) empty (zone_told config of zones zone among) (do_nothing config of zone.rules))
    (policies stage.BehindZone)
  where
    three : {one two last : List ChangeItem} → one ≡ [] → two ≡ [] → last ≡ [] → one ++ (two ++ last) ≡ []
    three is is' is'' = rw (is, is', is'') refl

    policies : (at : Stage) → policy_items config of at (Some zone) ≡ []
    policies at =
        no_policies config of (policies_beside config of at (Some zone))
        (λ policy there.
        nothing_by config of (of_policy policy) (needed config of zones) (has_changes of policy.rules) (side_items config of policy.rules) empty
        (policy_told config of zones at zone policy among there) (do_nothing config of policy.rules))

-- the base chains among chains
bases_joined : (one other : List Chain) → bases_of (one ++ other) ≡ bases_of one ++ bases_of other
bases_joined [] other = refl
bases_joined (chain ∷ chains) other = by (is_some chain.base) (bases_joined chains other)
  where
    by : (b : Bool) → bases_of (chains ++ other) ≡ bases_of chains ++ bases_of other
        → (if b then chain ∷ bases_of (chains ++ other) else bases_of (chains ++ other)) ≡ (if b then chain ∷ bases_of chains else bases_of chains) ++ bases_of other
    by true rest = ap (λ (list : List Chain). chain ∷ list) rest
    by false rest = rest

no_bases : (chains : List Chain) → ((chain : Chain) → IsIn chain chains → chain.base ≡ None) → bases_of chains ≡ []
no_bases [] none = refl
no_bases (chain ∷ chains) none =
    ap (λ (b : Bool). if b then chain ∷ bases_of chains else bases_of chains) (ap is_some (none chain (inl refl)))
    ∙ no_bases chains (λ one among. none one (inr among))

zone_bases : (config : Config) (of : Side) (zones : List Zone) → bases_of (map (zone_chain config of) zones) ≡ []
zone_bases config of [] = refl
zone_bases config of (zone ∷ zones) = zone_bases config of zones

block_bases : (config : Config) (of : Side) (told : List Told) (blocks : List Chain) → AreBlocks config of told blocks → bases_of blocks ≡ []
block_bases config of told blocks are =
    no_bases blocks (λ chain among. (let block = of_block chain are among in block.is.does.stands.no_base chain block.chain_in))

module _ (config : Config) (of : Side) (zones : List Zone) (table : Ruleset) (hook blocks : List Chain)
    (is : IsHook config of zones hook) (are : AreBlocks config of (needed config of zones) blocks) (there : EachIsThere (hook ++ blocks) table) where
  abbrev base_rules : List Rule
  base_rules = early of ++ is.dispatched

  one_base : bases_of (hook ++ blocks) ≡ base_chain of base_rules ∷ []
  one_base =
      bases_joined hook blocks
      ∙ ap (λ (list : List Chain). bases_of list ++ bases_of blocks) is.are
      ∙ ap (λ (list : List Chain). (base_chain of base_rules ∷ list) ++ bases_of blocks) (zone_bases config of zones)
      ∙ ap (λ (list : List Chain). base_chain of base_rules ∷ list) (block_bases config of (needed config of zones) blocks are)

  blocks_there : EachIsThere blocks table
  blocks_there chain among = there chain (in_second chain hook blocks among)

  zone_there : (zone : Zone) → IsIn zone zones → chain_of table.chains (start of ++ zone.name) ≡ Some (zone_chain config of zone)
  zone_there zone among =
      there (zone_chain config of zone)
      (in_first (zone_chain config of zone) hook blocks
      (subst (IsIn (zone_chain config of zone)) (sym is.are) (inr (in_map (zone_chain config of) zone zones among))))

  does : (zone : Zone) → IsIn zone zones → Do config table (zone_rules config of zone) (all_items config of (Some zone))
  does zone among = do_all config table of zones blocks are blocks_there zone among

  works : (leaving : Option (List ℕ)) (now : Moment) (zone : Zone)
      → Meeting config table now
      → zone_on (direction_of of) config leaving now.packet ≡ Some zone
      → IsIn zone zones
      → LetOn table leaving base_rules now (side_reached config of leaving zone (passing_of now)).now
  works leaving now zone meeting on among =
      base_lets_on table config of leaving is.dispatched now zone (through (all_items config of (Some zone)) (passing_of now)) on
      (λ count.
      let led = is.dispatches table leaving (at_count count now) zone meeting.sets on in
      led_lets_on table leaving is.dispatched (at_count count now) (start of ++ zone.name) (zone_chain config of zone) (through (all_items config of (Some zone)) (passing_of now)).now
      led (zone_there zone among)
      (chain_lets_on table leaving (zone_rules config of zone) (at_count led.looked_at (at_count count now)) (through (all_items config of (Some zone)) (passing_of now))
      ((does zone among).work leaving (at_count led.looked_at (at_count count now)) (record { sets = meeting.sets; packet = meeting.packet }))))

  pub side_works : SideWorks config of zones table (hook ++ blocks)
  side_works = full base_rules one_base works (λ zone among. (does zone among).keep)

pub sides_work : SidesWork
sides_work config of zones chains table (idle_side empty none) there = idle empty (λ zone among. all_idle config of zones zone none among)
sides_work config of zones chains table (full_side hook blocks joined is are) there =
    subst (λ (list : List Chain). SideWorks config of zones table list) (sym joined)
    (side_works config of zones table hook blocks is are (subst (λ (list : List Chain). EachIsThere list table) joined there))

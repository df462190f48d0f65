-- What the rules of the chains of a side name is there, and no path from them has more than three links.
use Rattle.std.proofs.Common.{◌≡◌, ◌∙◌, ◌≤◌, ◌&&◌, ℕ, suc, inl, inr, Bool, true, false, List, [], ◌∷◌, ◌++◌, map, Some, refl, sym, ap, subst, arith, ⊎_elim}
use Rattle.std.specs.Prelude.{is_some}
use Rattle.std.specs.List.{flat_map, list_all}
use Rattle.fw_model.specs.declared.config.Config.{Config}
use Rattle.fw_model.specs.declared.policy.Policy.{Policy}
use Rattle.fw_model.specs.declared.zone.Zone.{Zone}
use Rattle.fw_verdict.specs.Sides.{policies_beside}
use Rattle.fw_verdict.specs.declared.policies.Stage.TheVariants as stage
use Rattle.fw_verdict.specs.declared.sides.Side.{Side}
use Rattle.fw_verdict.specs.declared.sides.Side.TheVariants as side
use Rattle.fw_zone.specs.Lists.{IsIn}
use Rattle.lower_blocks.specs.Blocks.{Told}
use Rattle.lower_blocks.specs.Blocks.Told.{of_policy, of_zone}
use Rattle.lower_blocks.proofs.Lists.{from_map, in_either, in_first, in_map, in_second}
use Rattle.lower_changes.specs.Blocks.{AreBlocks, block_of}
use Rattle.lower_changes.specs.Chains.{IsHook, base_chain, zone_chain}
use Rattle.lower_changes.specs.Names.{base_name, start}
use Rattle.lower_changes.specs.Needed.{needed}
use Rattle.lower_changes.specs.Rules.{early, jump_where, policy_jump, rules_at, zone_jump, zone_rules}
use Rattle.lower_changes.specs.Sides.IsSide.{full, idle}
use Rattle.lower_changes.specs.Stands.{SidesHold, StandIn}
use Rattle.lower_changes.proofs.Doing.{policy_told, zone_told}
use Rattle.lower_changes.proofs.There.{block_in, of_block}
use Rattle.lower_dispatch.specs.Uses.{EachHasChain, IsUsed}
use Rattle.lower_match.specs.Stands.{EachHasSet}
use Rattle.lower_outside.specs.Names.{block_name, policy_block, zone_block}
use Rattle.lower_outside.specs.Needed.{has_changes}
use Rattle.lower_zone.specs.Evaluates.{EachIsThere}
use Rattle.lower_zone.specs.Forms.{jump_to}
use Rattle.lower_zone.proofs.Built.{all_joined, both}
use Rattle.nf_rules.specs.declared.chain.Chain.{Chain}
use Rattle.nf_rules.specs.declared.rule.Rule.{Rule}
use Rattle.nf_rules.specs.declared.ruleset.Ruleset.{Ruleset}
use Rattle.nf_sound.specs.Names.{chain_of}
use Rattle.nf_sound.specs.Sound.{IsIn as IsNameIn, Path, rule_stands}
use Rattle.nf_sound.specs.Sound.Path.{link, stays}
use Rattle.nf_sound.specs.Targets.{rule_targets}
use Rattle.lower_outside.proofs.Built.{names_in, targets_joined}

-- from a chain one link more than from where its rules lead
path_from : (table : Ruleset) (name : List ℕ) (chain : Chain) (depth : ℕ)
    → chain_of table.chains name ≡ Some chain
    → ((to : List ℕ) → IsNameIn to (rule_targets table.maps chain.rules) → (links : ℕ) → Path table to links → suc links ≤ depth)
    → {links : ℕ} → Path table name links → links ≤ depth
path_from table name chain depth found next stays = omega arith
path_from table name chain depth found next (link {to = to} {chain = one} {links = links} there among rest) =
    let same : one ≡ chain = cc in
    next to (subst (λ (it : Chain). IsNameIn to (rule_targets table.maps it.rules)) same among) links rest

-- Rules stand, and lead to chains that lead so many links on at most.
record Lead (table : Ruleset) (depth : ℕ) (made : List Rule) : Type 0 where
  stand : list_all (rule_stands table) made ≡ true
  short : (to : List ℕ) → IsNameIn to (rule_targets table.maps made) → (links : ℕ) → Path table to links → links ≤ depth

module _ (table : Ruleset) (depth : ℕ) where
  lead_none : Lead table depth []
  lead_none = record { stand = refl; short = λ to among links path. absurd among }

  lead_both : (one other : List Rule) → Lead table depth one → Lead table depth other → Lead table depth (one ++ other)
  lead_both one other first second = record {
    stand = all_joined (rule_stands table) one other first.stand second.stand;
    short = λ to among links path.
        names_in (λ name. Path table name links → links ≤ depth) (rule_targets table.maps one) (rule_targets table.maps other)
        (λ name is. first.short name is links) (λ name is. second.short name is links)
        to (subst (IsNameIn to) (targets_joined table.maps one other) among) path;
  }

  lead_jump : (name : List ℕ) → is_some (chain_of table.chains name) ≡ true → ((links : ℕ) → Path table name links → links ≤ depth) → Lead table depth (jump_to name ∷ [])
  lead_jump name there few = record {
    stand = both _ true (both _ true there refl) refl;
    short = short;
  }
    where
      short : (to : List ℕ) → IsNameIn to (name ∷ []) → (links : ℕ) → Path table to links → links ≤ depth
      short to (inl same) links path = few links (subst (λ (one : List ℕ). Path table one links) (sym same) path)
      short to (inr among) links path = absurd among

  lead_where : (some : Bool) (name : List ℕ) → (some ≡ true → Lead table depth (jump_to name ∷ [])) → Lead table depth (jump_where some name)
  lead_where true name jump = jump refl
  lead_where false name jump = lead_none

module _ (config : Config) (of : Side) (zones : List Zone) (table : Ruleset) (hook blocks : List Chain)
    (is : IsHook config of zones hook) (are : AreBlocks config of (needed config of zones) blocks) (there : EachIsThere (hook ++ blocks) table)
    (sets : EachHasSet config.ipsets table) (used : (zone : Zone) → IsUsed config zone → IsIn zone zones) where
  blocks_there : EachIsThere blocks table
  blocks_there chain among = there chain (in_second chain hook blocks among)

  -- the chains of settings
  block_short : (chain : Chain) → IsIn chain blocks → (links : ℕ) → Path table chain.name links → links ≤ 1
  block_short chain among links path =
      let block = of_block chain are among in
      block.is.does.stands.short table (λ one within. blocks_there one (block.among one within)) chain block.chain_in links path

  block_stands : (chain : Chain) → IsIn chain blocks → list_all (rule_stands table) chain.rules ≡ true
  block_stands chain among =
      let block = of_block chain are among in
      one_of block.block (block.is.does.stands.stand table (λ one within. blocks_there one (block.among one within)) sets) chain block.chain_in
    where
      left : (a b : Bool) → (a && b) ≡ true → a ≡ true
      left true b so = refl
      left false b so = cc

      right : (a b : Bool) → (a && b) ≡ true → b ≡ true
      right true b so = so
      right false b so = cc

      one_of : (chains : List Chain) → list_all (λ one. list_all (rule_stands table) one.rules) chains ≡ true → (one : Chain) → IsIn one chains → list_all (rule_stands table) one.rules ≡ true
      one_of [] all one within = absurd within
      one_of (first ∷ others) all one (inl same) =
          subst (λ (it : Chain). list_all (rule_stands table) it.rules ≡ true) same (left (list_all (rule_stands table) first.rules) _ all)
      one_of (first ∷ others) all one (inr within) = one_of others (right (list_all (rule_stands table) first.rules) _ all) one within

  lead_told : (told : Told) → IsIn told (needed config of zones) → Lead table 1 (jump_to (block_name of (block_of of told)) ∷ [])
  lead_told told listed =
      let block = block_in told are listed in
      let stands = block.is.does.stands in
      let entry_in = block.among stands.entry stands.entry_is_in in
      lead_jump table 1 (block_name of (block_of of told))
      (ap (λ (name : List ℕ). is_some (chain_of table.chains name)) (sym stands.entry_named) ∙ ap is_some (blocks_there stands.entry entry_in))
      (λ links path. block_short stands.entry entry_in links (subst (λ (name : List ℕ). Path table name links) (sym stands.entry_named) path))

  -- those of zones
  lead_policies : (policies : List Policy) → ((policy : Policy) → IsIn policy policies → has_changes of policy.rules ≡ true → IsIn (of_policy policy) (needed config of zones))
      → Lead table 1 (flat_map (policy_jump of) policies)
  lead_policies [] told = lead_none table 1
  lead_policies (policy ∷ others) told =
      lead_both table 1 (policy_jump of policy) (flat_map (policy_jump of) others)
      (lead_where table 1 (has_changes of policy.rules) (block_name of (policy_block of policy.name)) (λ has. lead_told (of_policy policy) (told policy (inl refl) has)))
      (lead_policies others (λ one among. told one (inr among)))

  lead_zone : (zone : Zone) → IsIn zone zones → Lead table 1 (zone_rules config of zone)
  lead_zone zone among =
      lead_both table 1 (rules_at config of stage.BeforeZone zone) (zone_jump of zone ++ rules_at config of stage.BehindZone zone)
      (lead_policies (policies_beside config of stage.BeforeZone (Some zone)) (λ policy. policy_told config of zones stage.BeforeZone zone policy among))
      (lead_both table 1 (zone_jump of zone) (rules_at config of stage.BehindZone zone)
      (lead_where table 1 (has_changes of zone.rules) (block_name of (zone_block of zone.name)) (λ has. lead_told (of_zone zone) (zone_told config of zones zone among has)))
      (lead_policies (policies_beside config of stage.BehindZone (Some zone)) (λ policy. policy_told config of zones stage.BehindZone zone policy among)))

  zone_there : (zone : Zone) → IsIn zone zones → chain_of table.chains (start of ++ zone.name) ≡ Some (zone_chain config of zone)
  zone_there zone among =
      there (zone_chain config of zone)
      (in_first (zone_chain config of zone) hook blocks
      (subst (IsIn (zone_chain config of zone)) (sym is.are) (inr (in_map (zone_chain config of) zone zones among))))

  zone_short : (zone : Zone) → IsIn zone zones → (links : ℕ) → Path table (start of ++ zone.name) links → links ≤ 2
  zone_short zone among links path =
      path_from table (start of ++ zone.name) (zone_chain config of zone) 2 (zone_there zone among)
      (λ to within more on. (let few = (lead_zone zone among).short to within more on in omega (arith, few))) path

  -- the base chain
  abbrev base : Chain
  base = base_chain of (early of ++ is.dispatched)

  base_there : chain_of table.chains (base_name of) ≡ Some base
  base_there = there base (in_first base hook blocks (subst (IsIn base) (sym is.are) (inl refl)))

  early_stands : (on : Side) → list_all (rule_stands table) (early on) ≡ true
  early_stands side.Marked = refl
  early_stands side.Translated = refl
  early_stands side.Leaving = refl

  early_nowhere : (on : Side) (to : List ℕ) → ¬ (IsNameIn to (rule_targets table.maps (early on)))
  early_nowhere side.Marked to among = among
  early_nowhere side.Translated to among = among
  early_nowhere side.Leaving to among = among

  chains_there : EachHasChain config (start of) table
  chains_there zone is_used = ap is_some (zone_there zone (used zone is_used))

  base_stands : list_all (rule_stands table) (early of ++ is.dispatched) ≡ true
  base_stands = all_joined (rule_stands table) (early of) is.dispatched (early_stands of) (is.leads.stand table chains_there sets)

  base_short : (links : ℕ) → Path table (base_name of) links → links ≤ 3
  base_short links path =
      path_from table (base_name of) base 3 base_there
      (λ to within more on.
      names_in (λ name. Path table name more → suc more ≤ 3) (rule_targets table.maps (early of)) (rule_targets table.maps is.dispatched)
      (λ name among route. absurd (early_nowhere of name among))
      (λ name among route.
      let zone = is.leads.targets table.maps name among in
      let few = zone_short zone.zone (used zone.zone zone.used) more (subst (λ (one : List ℕ). Path table one more) zone.is route) in
      omega (arith, few))
      to (subst (IsNameIn to) (targets_joined table.maps (early of) is.dispatched) within) on) path

  zones_stand : (some : List Zone) → ((zone : Zone) → IsIn zone some → IsIn zone zones) → list_all (λ chain. list_all (rule_stands table) chain.rules) (map (zone_chain config of) some) ≡ true
  zones_stand [] among = refl
  zones_stand (zone ∷ others) among =
      both (list_all (rule_stands table) (zone_rules config of zone)) _ (lead_zone zone (among zone (inl refl))).stand (zones_stand others (λ one within. among one (inr within)))

  all_of : (chains : List Chain) → ((chain : Chain) → IsIn chain chains → list_all (rule_stands table) chain.rules ≡ true) → list_all (λ chain. list_all (rule_stands table) chain.rules) chains ≡ true
  all_of [] each = refl
  all_of (chain ∷ others) each = both (list_all (rule_stands table) chain.rules) _ (each chain (inl refl)) (all_of others (λ one within. each one (inr within)))

  hook_short : (chain : Chain) → IsIn chain (base ∷ map (zone_chain config of) zones) → (links : ℕ) → Path table chain.name links → links ≤ 3
  hook_short chain (inl same) links path = base_short links (subst (λ (one : Chain). Path table one.name links) (sym same) path)
  hook_short chain (inr among) links path =
      let zone = from_map (zone_chain config of) chain zones among in
      let few = zone_short zone.0 zone.1 links (subst (λ (one : Chain). Path table one.name links) (sym zone.2) path) in
      omega (arith, few)

  pub stand_in : StandIn table (hook ++ blocks)
  stand_in = record {
    rules_stand = all_joined (λ chain. list_all (rule_stands table) chain.rules) hook blocks
        (subst (λ (list : List Chain). list_all (λ chain. list_all (rule_stands table) chain.rules) list ≡ true) (sym is.are)
        (both (list_all (rule_stands table) base.rules) _ base_stands (zones_stand zones (λ zone within. within))))
        (all_of blocks block_stands);
    short = λ chain among links path.
        ⊎_elim
        (λ old. hook_short chain (subst (IsIn chain) is.are old) links path)
        (λ new. (let few = block_short chain new links path in omega (arith, few)))
        (in_either chain hook blocks among);
  }

pub sides_hold : SidesHold
sides_hold config of zones chains table (idle empty none) there sets used =
    subst (λ (list : List Chain). StandIn table list) (sym empty) (record { rules_stand = refl; short = λ chain among links path. absurd among })
sides_hold config of zones chains table (full hook blocks joined is are) there sets used =
    subst (λ (list : List Chain). StandIn table list) (sym joined)
    (stand_in config of zones table hook blocks is are (subst (λ (list : List Chain). EachIsThere list table) joined there) sets used)

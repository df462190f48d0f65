-- What the rules of the chains of zones do, one after another.
use Rattle.std.proofs.Common.{◌≡◌, ◌∙◌, ◌&&◌, ◌||◌, ℕ, inl, inr, Bool, true, false, List, [], ◌∷◌, ◌++◌, Option, Some, refl, sym, ap, subst}
use Rattle.std.specs.Prelude.{if◌then◌else◌}
use Rattle.std.specs.List.{filter, flat_map, list_any}
use Rattle.std.proofs.lemmas.Bool.{and_parts}
use Rattle.fw_model.specs.declared.config.Config.{Config}
use Rattle.fw_model.specs.declared.policy.Policy.{Policy}
use Rattle.fw_model.specs.declared.zone.Zone.{Zone}
use Rattle.fw_order.specs.Policies.{comes_before}
use Rattle.fw_verdict.specs.Changes.{ChangeItem, Reached, through}
use Rattle.fw_verdict.specs.Policies.{acts_at, stands_for}
use Rattle.fw_verdict.specs.Policies.End.{in_zone}
use Rattle.fw_verdict.specs.Sides.{all_items, is_beside, policies_beside, policy_items, side_items, zone_items}
use Rattle.fw_verdict.specs.declared.policies.Stage.{Stage}
use Rattle.fw_verdict.specs.declared.policies.Stage.TheVariants as stage
use Rattle.fw_verdict.specs.declared.sides.Side.{Side}
use Rattle.fw_verdict.specs.declared.sides.Side.TheVariants as side
use Rattle.fw_zone.specs.Lists.{IsIn}
use Rattle.lower_blocks.specs.Blocks.{Told}
use Rattle.lower_blocks.specs.Blocks.Told.{of_policy, of_zone}
use Rattle.lower_blocks.proofs.Lists.{in_first, in_second}
use Rattle.lower_changes.specs.Blocks.{AreBlocks, block_of, rules_of}
use Rattle.lower_changes.specs.Needed.{ends_of, is_needed, needed, told_policy, told_zone}
use Rattle.lower_changes.specs.Rules.{jump_where, policy_jump, rules_at, zone_jump, zone_rules}
use Rattle.lower_changes.proofs.There.{block_in}
use Rattle.lower_dispatch.proofs.Every.{Every, every_in_order, every_kept}
use Rattle.lower_outside.specs.Does.{KeepPackets, Reach, moment_of, passing_of}
use Rattle.lower_outside.specs.Names.{block_name, policy_block, zone_block}
use Rattle.lower_outside.specs.Needed.{has_changes}
use Rattle.lower_outside.proofs.Idle.{do_nothing}
use Rattle.lower_outside.proofs.Packets.{keep_both, keep_nothing}
use Rattle.lower_outside.proofs.Sequences.{both_reach, nothing_reached, through_append}
use Rattle.lower_zone.specs.Evaluates.{EachIsThere, Meeting}
use Rattle.lower_zone.specs.Forms.{jump_to}
use Rattle.nf_chains.specs.Evaluation.Ends.{looks}
use Rattle.nf_chains.specs.Moments.{Moment, looking}
use Rattle.nf_rules.specs.declared.chain.Chain.{Chain}
use Rattle.nf_rules.specs.declared.rule.Rule.{Rule}
use Rattle.nf_rules.specs.declared.ruleset.Ruleset.{Ruleset}

-- what is among what each item gives
in_each : {A B : Type 0} (f : A → List B) (other : B) (items : List A) (item : A) → IsIn item items → IsIn other (f item) → IsIn other (flat_map f items)
in_each f other [] item there given = absurd there
in_each f other (first ∷ others) item (inl same) given = in_first other (f first) (flat_map f others) (subst (λ one. IsIn other (f one)) (sym same) given)
in_each f other (first ∷ others) item (inr there) given = in_second other (f first) (flat_map f others) (in_each f other others item there given)

any_in : {A : Type 0} (test : A → Bool) (xs : List A) (x : A) → IsIn x xs → test x ≡ true → list_any test xs ≡ true
any_in test [] x there holds = absurd there
any_in test (first ∷ others) x (inl same) holds = ap (λ (b : Bool). b || list_any test others) (ap test same ∙ holds)
any_in test (first ∷ others) x (inr there) holds = either (test first) (list_any test others) (any_in test others x there holds)
  where
    either : (b c : Bool) → c ≡ true → (b || c) ≡ true
    either true c is = refl
    either false c is = is

given_where : {A : Type 0} (some : Bool) (item : A) → some ≡ true → IsIn item (if some then item ∷ [] else [])
given_where true item is = inl refl
given_where false item is = cc

of_every : {A : Type 0} (P : A → Type 0) (xs : List A) → Every P xs → (x : A) → IsIn x xs → P x
of_every P [] all x there = absurd there
of_every P (first ∷ others) all x (inl same) = subst P same all.0
of_every P (first ∷ others) all x (inr there) = of_every P others all.1 x there

-- a policy that takes part in a step has the end for it
beside_stands : (of : Side) (at : Stage) (zone : Zone) (policy : Policy) → is_beside of at (Some zone) policy ≡ true
    → stands_for (ends_of of policy) (in_zone (Some zone)) ≡ true
unfolding is_beside
beside_stands side.Marked at zone policy is =
    (and_parts (stands_for policy.ingress (in_zone (Some zone))) _ (and_parts (acts_at at policy) _ is).1).0
beside_stands side.Translated at zone policy is = (and_parts (acts_at at policy) _ is).1
beside_stands side.Leaving at zone policy is = (and_parts (acts_at at policy) _ is).1

record TakesPart (config : Config) (of : Side) (zone : Zone) (policy : Policy) : Type 0 where
  listed : IsIn policy config.policies
  stands : stands_for (ends_of of policy) (in_zone (Some zone)) ≡ true

takes_part : (config : Config) (of : Side) (at : Stage) (zone : Zone) (policy : Policy) → IsIn policy (policies_beside config of at (Some zone)) → TakesPart config of zone policy
takes_part config of at zone policy there =
    of_every (TakesPart config of zone) (policies_beside config of at (Some zone))
    (every_in_order (TakesPart config of zone) comes_before (filter (is_beside of at (Some zone)) config.policies)
    (every_kept (TakesPart config of zone) (is_beside of at (Some zone)) config.policies
    (λ one listed is. record { listed = listed; stands = beside_stands of at zone one is })))
    policy there

-- the settings that rules lead to are told
pub policy_told : (config : Config) (of : Side) (zones : List Zone) (at : Stage) (zone : Zone) (policy : Policy)
    → IsIn zone zones → IsIn policy (policies_beside config of at (Some zone)) → has_changes of policy.rules ≡ true
    → IsIn (of_policy policy) (needed config of zones)
policy_told config of zones at zone policy among there has =
    let part = takes_part config of at zone policy there in
    in_second (of_policy policy) (flat_map (told_zone of) zones) (flat_map (told_policy of zones) config.policies)
    (in_each (told_policy of zones) (of_policy policy) config.policies policy part.listed
    (given_where (is_needed of zones policy) (of_policy policy)
    (ap (λ (some : Bool). some && list_any (λ (one : Zone). stands_for (ends_of of policy) (in_zone (Some one))) zones) has
    ∙ any_in (λ (one : Zone). stands_for (ends_of of policy) (in_zone (Some one))) zones zone among part.stands)))

pub zone_told : (config : Config) (of : Side) (zones : List Zone) (zone : Zone) → IsIn zone zones → has_changes of zone.rules ≡ true
    → IsIn (of_zone zone) (needed config of zones)
zone_told config of zones zone among has =
    in_first (of_zone zone) (flat_map (told_zone of) zones) (flat_map (told_policy of zones) config.policies)
    (in_each (told_zone of) (of_zone zone) zones zone among (given_where (has_changes of zone.rules) (of_zone zone) has))

-- Rules do what a list of changes does, and leave packets.
pub record Do (config : Config) (table : Ruleset) (made : List Rule) (items : List ChangeItem) : Type 0 where
  pub work : (leaving : Option (List ℕ)) (now : Moment) → Meeting config table now → Reach table leaving made now (through items (passing_of now))
  pub keep : KeepPackets items

module _ (config : Config) (table : Ruleset) where
  do_none : Do config table [] []
  do_none = record { work = λ leaving now meeting. nothing_reached table leaving now; keep = keep_nothing }

  do_both : (one other : List Rule) (first second : List ChangeItem) → Do config table one first → Do config table other second → Do config table (one ++ other) (first ++ second)
  do_both one other first second does behind = record {
    work = λ leaving now meeting.
        let reached = through first (passing_of now) in
        subst (λ (come : Reached). Reach table leaving (one ++ other) now come) (sym (through_append first second (passing_of now)))
        (both_reach table leaving one other now reached.now reached.over (through second) (does.work leaving now meeting)
        (λ count. behind.work leaving (moment_of reached.now count) (record { sets = meeting.sets; packet = does.keep (passing_of now) meeting.packet })));
    keep = keep_both first second does.keep behind.keep;
  }

  -- a jump to the chain of settings that are told
  do_jump : (of : Side) (told : List Told) (one : Told) (blocks : List Chain)
      → AreBlocks config of told blocks → EachIsThere blocks table → IsIn one told
      → Do config table (jump_to (block_name of (block_of of one)) ∷ []) (side_items config of (rules_of one))
  do_jump of told one blocks are there among =
      let block = block_in one are among in
      let does = block.is.does in
      record {
        work = λ leaving now meeting.
            let jump = does.changes table leaving (looking now) (λ chain is. there chain (block.among chain is)) (record { sets = meeting.sets; packet = meeting.packet }) in
            record {
              looked_at = jump.looked_at;
              ends = λ behind returns verdict end follows. looks refl (jump.ends [] behind returns verdict end follows);
            };
        keep = does.keep;
      }

  -- and none where they do nothing
  do_where : (some : Bool) (name : List ℕ) (items : List ChangeItem)
      → (some ≡ false → items ≡ [])
      → (some ≡ true → Do config table (jump_to name ∷ []) items)
      → Do config table (jump_where some name) items
  do_where true name items nothing jump = jump refl
  do_where false name items nothing jump = subst (λ (list : List ChangeItem). Do config table [] list) (sym (nothing refl)) do_none

  module _ (of : Side) (zones : List Zone) (blocks : List Chain) (are : AreBlocks config of (needed config of zones) blocks) (there : EachIsThere blocks table) where
    do_policy : (policy : Policy) → (has_changes of policy.rules ≡ true → IsIn (of_policy policy) (needed config of zones))
        → Do config table (policy_jump of policy) (side_items config of policy.rules)
    do_policy policy told =
        do_where (has_changes of policy.rules) (block_name of (policy_block of policy.name)) (side_items config of policy.rules)
        (do_nothing config of policy.rules)
        (λ has. do_jump of (needed config of zones) (of_policy policy) blocks are there (told has))

    do_policies : (policies : List Policy) → ((policy : Policy) → IsIn policy policies → has_changes of policy.rules ≡ true → IsIn (of_policy policy) (needed config of zones))
        → Do config table (flat_map (policy_jump of) policies) (flat_map (λ policy. side_items config of policy.rules) policies)
    do_policies [] told = do_none
    do_policies (policy ∷ others) told =
        do_both (policy_jump of policy) (flat_map (policy_jump of) others) (side_items config of policy.rules) (flat_map (λ one. side_items config of one.rules) others)
        (do_policy policy (told policy (inl refl))) (do_policies others (λ one among. told one (inr among)))

    do_zone : (zone : Zone) → IsIn zone zones → Do config table (zone_jump of zone) (side_items config of zone.rules)
    do_zone zone among =
        do_where (has_changes of zone.rules) (block_name of (zone_block of zone.name)) (side_items config of zone.rules)
        (do_nothing config of zone.rules)
        (λ has. do_jump of (needed config of zones) (of_zone zone) blocks are there (zone_told config of zones zone among has))

    -- the rules of the chain of a zone
    pub do_all : (zone : Zone) → IsIn zone zones → Do config table (zone_rules config of zone) (all_items config of (Some zone))
    do_all zone among =
        do_both (rules_at config of stage.BeforeZone zone) (zone_jump of zone ++ rules_at config of stage.BehindZone zone)
        (policy_items config of stage.BeforeZone (Some zone)) (zone_items config of (Some zone) ++ policy_items config of stage.BehindZone (Some zone))
        (do_policies (policies_beside config of stage.BeforeZone (Some zone)) (λ policy. policy_told config of zones stage.BeforeZone zone policy among))
        (do_both (zone_jump of zone) (rules_at config of stage.BehindZone zone) (zone_items config of (Some zone)) (policy_items config of stage.BehindZone (Some zone))
        (do_zone zone among)
        (do_policies (policies_beside config of stage.BehindZone (Some zone)) (λ policy. policy_told config of zones stage.BehindZone zone policy among)))

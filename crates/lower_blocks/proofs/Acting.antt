-- Policies that act on packets of some zones are told.
use Rattle.std.proofs.Common.{◌≡◌, ◌∙◌, ◌&&◌, ◌||◌, inl, inr, List, [], ◌∷◌, map, Bool, true, false, ℕ, None, Some, refl, ap, subst}
use Rattle.std.specs.List.{filter, list_any}
use Rattle.std.proofs.lemmas.Bool.{and_parts}
use Rattle.fw_model.specs.declared.config.Config.{Config}
use Rattle.fw_model.specs.declared.policy.Policy.{Policy}
use Rattle.fw_model.specs.declared.zone.Zone.{Zone}
use Rattle.fw_order.specs.Policies.{comes_before}
use Rattle.fw_verdict.specs.Policies.{End, acts_at, acts_between, applies, policies_at, stands_for}
use Rattle.fw_verdict.specs.Policies.End.{at_host, in_zone}
use Rattle.fw_verdict.specs.declared.policies.Stage.{Stage}
use Rattle.fw_zone.specs.Lists.{IsIn}
use Rattle.lower_blocks.specs.Blocks.Told.{of_policy, of_zone}
use Rattle.lower_blocks.specs.Needed.{ActingPoliciesAreTold, IsEnd, is_needed, is_told, stands_for_any}
use Rattle.lower_blocks.proofs.Lists.{in_map, in_second, kept_in}
use Rattle.lower_dispatch.proofs.Every.{Every, every_in_order, every_kept}

-- what holds of every item holds of this one
of_every : {A : Type 0} (P : A → Type 0) (xs : List A) → Every P xs → (x : A) → IsIn x xs → P x
of_every P [] all x there = absurd there
of_every P (first ∷ others) all x (inl same) = subst P same all.0
of_every P (first ∷ others) all x (inr there) = of_every P others all.1 x there

any_in : {A : Type 0} (test : A → Bool) (xs : List A) (x : A) → IsIn x xs → test x ≡ true → list_any test xs ≡ true
any_in test [] x there holds = absurd there
any_in test (first ∷ others) x (inl same) holds = ap (λ (b : Bool). b || list_any test others) (ap test same ∙ holds)
any_in test (first ∷ others) x (inr there) holds = either (test first) (list_any test others) (any_in test others x there holds)
  where
    either : (b c : Bool) → c ≡ true → (b || c) ≡ true
    either true c is = refl
    either false c is = is

-- a side that stands for an end of packets of these zones
any_end : (side : List (List ℕ)) (zones : List Zone) (end : End) → IsEnd zones end → stands_for side end ≡ true → stands_for_any side zones ≡ true
any_end side zones at_host is stands = ap (λ (b : Bool). b || list_any (λ zone. stands_for side (in_zone (Some zone))) zones) stands
any_end side zones (in_zone None) is stands = absurd is
any_end side zones (in_zone (Some zone)) is stands = either (stands_for side at_host) _ (any_in (λ one. stands_for side (in_zone (Some one))) zones zone is stands)
  where
    either : (b c : Bool) → c ≡ true → (b || c) ≡ true
    either true c are = refl
    either false c are = are

-- what is asked of a policy that acts
record Acts (config : Config) (from to : End) (policy : Policy) : Type 0 where
  listed : IsIn policy config.policies
  leaves : stands_for policy.ingress from ≡ true
  arrives : stands_for policy.egress to ≡ true

acts : (config : Config) (stage : Stage) (from to : End) (policy : Policy) → IsIn policy config.policies → acts_between stage from to policy ≡ true → Acts config from to policy
unfolding acts_between
acts config stage from to policy there is =
    let both = and_parts (acts_at stage policy) (applies policy from to) is in
    let sides = and_parts (stands_for policy.ingress from) (stands_for policy.egress to) both.1 in
    record { listed = there; leaves = sides.0; arrives = sides.1 }

pub acting_are_told : ActingPoliciesAreTold
acting_are_told config zones stage from to policy from_is to_is there has =
    in_second (of_policy policy) (map of_zone (filter (is_told config) config.zones)) (map of_policy (filter (is_needed zones) config.policies))
    (in_map of_policy policy (filter (is_needed zones) config.policies)
    (kept_in (is_needed zones) policy config.policies it.listed needed))
  where
    it : Acts config from to policy
    it =
        of_every (Acts config from to) (policies_at config stage from to)
        (every_in_order (Acts config from to) comes_before (filter (acts_between stage from to) config.policies)
        (every_kept (Acts config from to) (acts_between stage from to) config.policies (acts config stage from to)))
        policy there

    needed : is_needed zones policy ≡ true
    needed =
        ap (λ (b : Bool). b && stands_for_any policy.ingress zones && stands_for_any policy.egress zones) has
        ∙ ap (λ (b : Bool). b && stands_for_any policy.egress zones) (any_end policy.ingress zones from from_is it.leaves)
        ∙ any_end policy.egress zones to to_is it.arrives

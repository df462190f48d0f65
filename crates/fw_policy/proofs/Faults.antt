-- A policy without faults is one that a valid configuration may have.
use Rattle.std.proofs.Common.{◌≡◌, ◌≢◌, ℕ, Bool, true, false, not, ◌&&◌, List, [], ◌∷◌, Option, None, Some, refl}
use Rattle.std.specs.Bool.{Decides}
use Rattle.std.specs.List.{list_all}
use Rattle.std.specs.Option.{option_map, option_or}
use Rattle.std.specs.Prelude.{pos}
use Rattle.std.proofs.lemmas.Bool.{and_from, and_parts, false≢true}
use Rattle.std.proofs.lemmas.Bool.Decides.{Decides-and, Decides-like, Decides-not}
use Rattle.fw_model.specs.declared.config.Config.{Config}
use Rattle.fw_model.specs.declared.forward.Forward.{Forward}
use Rattle.fw_model.specs.declared.policy.Policy.{Policy}
use Rattle.fw_policy.specs.Faults.{fault_if, first_fault}
use Rattle.fw_policy.specs.Sides.{is_known, is_only, stand_alone}
use Rattle.fw_policy.specs.declared.fault.Fault.{Fault}
use Rattle.fw_policy.proofs.Members.{implied, twice}
use Rattle.fw_policy.proofs.Settings.{Fits, forwards_decides, marks_decides, masquerades_decides, priority}
use Rattle.fw_policy.proofs.SideTests.{all_known, is_side, only, side_alone, side_known}
use Rattle.fw_valid.specs.Names.{any, host}
use Rattle.fw_valid.specs.Policies.{Forwards, IsPolicy, Marks, Masquerades}
use Rattle.fw_valid.specs.Riches.{IsPriority}

-- nothing was found exactly where this is so
abbrev NoneWhere : {A : Type 0} → Option A → Type 0 → Type 0
NoneWhere found P = (found ≡ None → P) × (P → found ≡ None)

both : {A P Q : Type 0} (one other : Option A) → NoneWhere one P → NoneWhere other Q → NoneWhere (option_or one other) (P × Q)
both None other first second = (λ is. (first.0 refl, second.0 is), λ so. second.1 so.1)
both (Some it) other first second = (λ is. cc, λ so. let none = first.1 so.0 in cc)

kept : {P : Type 0} (broken : Bool) (fault : Fault) → Decides (not broken) P → NoneWhere (fault_if broken fault) P
kept true fault decides = (λ is. cc, λ so. absurd (false≢true (decides.1 so)))
kept false fault decides = (λ is. decides.0 refl, λ so. refl)

mapped : {A B P : Type 0} (of : A → B) (found : Option A) → NoneWhere found P → NoneWhere (option_map of found) P
mapped of None where_none = (λ is. where_none.0 refl, λ so. refl)
mapped of (Some it) where_none = (λ is. cc, λ so. let none = where_none.1 so in cc)

module _ (config : Config) (policy : Policy) where
  -- what each of the rules asks
  none_where : NoneWhere (first_fault policy config.zones)
      ((IsPriority policy.priority × (policy.priority ≢ pos 0))
      × ((list_all (is_known config.zones) policy.ingress ≡ true)
      × ((list_all (is_known config.zones) policy.egress ≡ true)
      × (((stand_alone policy.ingress ≡ true) × (stand_alone policy.egress ≡ true))
      × ((policy.ingress ≡ host ∷ [] → policy.egress ≢ host ∷ [])
      × ((Masquerades policy.rules → (policy.ingress ≡ any ∷ []) × (policy.egress ≢ host ∷ []))
      × (((forward : Forward) → Forwards policy.rules forward → Fits policy.egress forward)
      × (Marks policy.rules → policy.egress ≡ any ∷ []))))))))
  none_where =
      both _ _ (kept _ _ (priority policy.priority))
      (both _ _ (mapped _ _ (all_known config.zones policy.ingress))
      (both _ _ (mapped _ _ (all_known config.zones policy.egress))
      (both _ _ (kept _ _ (twice _ (Decides-and _ _ (λ is. is, λ is. is) (λ is. is, λ is. is))))
      (both _ _ (kept _ _ (Decides-like _ (λ so one other. so (one, other)) (λ so pair. so pair.0 pair.1) (Decides-not _ (Decides-and _ _ (only host policy.ingress) (only host policy.egress)))))
      (both _ _ (kept _ _ (implied _ _ (masquerades_decides policy.rules) (Decides-and _ _ (only any policy.ingress) (Decides-not _ (only host policy.egress)))))
      (both _ _ (kept _ _ (twice _ (forwards_decides policy.egress policy.rules)))
      (kept _ _ (implied _ _ (marks_decides policy.rules) (only any policy.egress)))))))))

  pub valid : first_fault policy config.zones ≡ None → IsPolicy config policy
  valid is =
      let so = none_where.0 is in
      record {
        priority = so.0.0;
        not_with_zones = so.0.1;
        ingress = is_side config policy.ingress so.1.0 so.1.1.1.0.0;
        egress = is_side config policy.egress so.1.1.0 so.1.1.1.0.1;
        not_host_to_host = so.1.1.1.1.0;
        masquerade = so.1.1.1.1.1.0;
        forward_here = λ forward has none. (so.1.1.1.1.1.1.0 forward has).0 none;
        forward_there = λ forward has some. (so.1.1.1.1.1.1.0 forward has).1 some;
        mark = so.1.1.1.1.1.1.1;
      }

  pub faultless : IsPolicy config policy → first_fault policy config.zones ≡ None
  faultless is =
      none_where.1 (
        (is.priority, is.not_with_zones),
        (
          side_known config policy.ingress is.ingress,
          (
            side_known config policy.egress is.egress,
            (
              (side_alone config policy.ingress is.ingress, side_alone config policy.egress is.egress),
              (
                is.not_host_to_host,
                (
                  is.masquerade,
                  (
                    (λ forward has. (is.forward_here forward has, is.forward_there forward has)),
                    is.mark,
                  ),
                ),
              ),
            ),
          ),
        ),
      )

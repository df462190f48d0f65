-- The settings that take part in a step give its changes.
use Rattle.std.proofs.Common.{◌≡◌, ◌∙◌, List, ◌++◌, Option, None, Some, refl, ap, append-nil, append_assoc}
use Rattle.std.specs.List.{flat_map}
use Rattle.std.proofs.lemmas.Grind.{flat_map-append}
use Rattle.std.proofs.lemmas.List.Folds.{flat_map-map}
use Rattle.fw_model.specs.declared.config.Config.{Config}
use Rattle.fw_model.specs.declared.policy.Policy.{Policy}
use Rattle.fw_model.specs.declared.rules.Rules.{Rules}
use Rattle.fw_model.specs.declared.zone.Zone.{Zone}
use Rattle.fw_verdict.specs.Changes.{ChangeItem}
use Rattle.fw_verdict.specs.Led.{policy_settings, settings_given, zone_settings}
use Rattle.fw_verdict.specs.Sides.{all_items, policies_beside, policy_items, side_items, zone_items}
use Rattle.fw_verdict.specs.declared.policies.Stage.{Stage}
use Rattle.fw_verdict.specs.declared.policies.Stage.TheVariants as stage
use Rattle.fw_verdict.specs.declared.sides.Side.{Side}

module _ (config : Config) (side : Side) where
  abbrev of_all : List Rules → List ChangeItem
  of_all settings = flat_map (side_items config side) settings

  of_policies : (at : Stage) (zone : Option Zone) → of_all (policy_settings (policies_beside config side at zone)) ≡ policy_items config side at zone
  of_policies at zone = flat_map-map (side_items config side) (λ (policy : Policy). policy.rules) (policies_beside config side at zone)

  of_zone : (zone : Option Zone) → of_all (zone_settings zone) ≡ zone_items config side zone
  of_zone None = refl
  of_zone (Some zone) = append-nil (side_items config side zone.rules)

  pub settings_give : (zone : Option Zone) → of_all (settings_given config side zone) ≡ all_items config side zone
  settings_give zone =
      let before = policy_settings (policies_beside config side stage.BeforeZone zone) in
      let behind = policy_settings (policies_beside config side stage.BehindZone zone) in
      flat_map-append (side_items config side) (before ++ zone_settings zone) behind
      ∙ ap (λ (items : List ChangeItem). items ++ of_all behind) (flat_map-append (side_items config side) before (zone_settings zone))
      ∙ append_assoc (of_all before) (of_all (zone_settings zone)) (of_all behind)
      ∙ ap (λ (items : List ChangeItem). items ++ (of_all (zone_settings zone) ++ of_all behind)) (of_policies stage.BeforeZone zone)
      ∙ ap (λ (items : List ChangeItem). policy_items config side stage.BeforeZone zone ++ (items ++ of_all behind)) (of_zone zone)
      ∙ ap (λ (items : List ChangeItem). policy_items config side stage.BeforeZone zone ++ (zone_items config side zone ++ items)) (of_policies stage.BehindZone zone)

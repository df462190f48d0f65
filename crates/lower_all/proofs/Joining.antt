-- The chains, put together.
use Rattle.std.proofs.Common.{◌≡◌, ◌∙◌, List, ◌∷◌, ◌++◌, map, IsPermutation, sym, ap, subst, Result, Ok, Err, IfOk}
use Rattle.std.specs.Prelude.{codes}
use Rattle.fw_model.specs.declared.config.Config.{Config}
use Rattle.fw_model.specs.declared.policy.Policy.{Policy}
use Rattle.fw_model.specs.declared.rules.Rules.{Rules}
use Rattle.fw_model.specs.declared.zone.Zone.{Zone}
use Rattle.fw_valid.specs.Valid.{AreWritten, IsValid}
use Rattle.fw_valid.specs.Rules.{all_rules}
use Rattle.fw_verdict.specs.declared.sides.Side.TheVariants as side
use Rattle.fw_zone.specs.Lists.{IsIn}
use Rattle.lower_all.specs.Joined.{AreJoined, AreOutside, used_zones}
use Rattle.lower_all.specs.Ordered.{IsOrdered}
use Rattle.lower_blocks.specs.Blocks.{AreBlocks}
use Rattle.lower_blocks.specs.Needed.{all_told}
use Rattle.lower_blocks.proofs.Lists.{in_first, in_map, in_second, was_in}
use Rattle.lower_changes.specs.Sides.{IsSide, IsWritten}
use Rattle.lower_dispatch.specs.Uses.{is_in_use}
use Rattle.lower_hooks.specs.Chains.{ForwardWorks, InputWorks, OutputWorks}
use Rattle.lower_hooks.specs.Leads.{ForwardLeads, InputLeads, OutputLeads}
use Rattle.lower_hooks.specs.Names.{forward_names, input_start, names_of, output_start, zone_names}
use Rattle.nf_rules.specs.declared.chain.Chain.{Chain}
use Rattle.lower_all.proofs.Distinct.{each_from, each_of}

-- the settings of all zones in use and of all policies are as they can be written
is_written : (config : Config) → IsValid config → IsWritten config (used_zones config)
is_written config valid = record {
  of_zones = each_from (λ (zone : Zone). AreWritten zone.rules) (used_zones config)
      (λ zone among.
      of_all zone.rules
      (in_first zone.rules (map (λ (one : Zone). one.rules) config.zones) (map (λ (one : Policy). one.rules) config.policies)
      (in_map (λ (one : Zone). one.rules) zone config.zones (was_in (is_in_use config) zone config.zones among))));
  of_policies = each_from (λ (policy : Policy). AreWritten policy.rules) config.policies
      (λ policy among.
      of_all policy.rules
      (in_second policy.rules (map (λ (one : Zone). one.rules) config.zones) (map (λ (one : Policy). one.rules) config.policies)
      (in_map (λ (one : Policy). one.rules) policy config.policies among)));
}
  where
    of_all : (rules : Rules) → IsIn rules (all_rules config) → AreWritten rules
    of_all rules among = each_of AreWritten (all_rules config) valid.written rules among

-- those of the three sides, one behind another
pub outside_joined : (config : Config) (zones : List Zone) (marks targets masks second third : List Chain)
    → (IsWritten config zones → IsSide config side.Marked zones marks)
    → (IsWritten config zones → IsSide config side.Translated zones targets)
    → (IsWritten config zones → IsSide config side.Leaving zones masks)
    → second ≡ marks ++ targets
    → third ≡ second ++ masks
    → IsWritten config zones
    → AreOutside config zones third
outside_joined config zones marks targets masks second third marked translated leaving one two written = record {
  marks = marks;
  targets = targets;
  masks = masks;
  marked = marked written;
  translated = translated written;
  leaving = leaving written;
  are = two ∙ ap (λ (list : List Chain). list ++ masks) one;
}

pub joined : (config : Config) (zones : List Zone) (inputs forwards outputs settings outside first second third fourth all : List Chain)
    → IsValid config
    → zones ≡ used_zones config
    → InputWorks config zones inputs
    → InputLeads config zones inputs
    → names_of inputs ≡ codes "filter_INPUT" ∷ zone_names input_start zones
    → ForwardWorks config zones forwards
    → ForwardLeads config zones forwards
    → names_of forwards ≡ codes "filter_FORWARD" ∷ forward_names zones zones
    → OutputWorks config zones outputs
    → OutputLeads config zones outputs
    → names_of outputs ≡ codes "filter_OUTPUT" ∷ zone_names output_start zones
    → AreBlocks config (all_told config zones) settings
    → (IsWritten config zones → AreOutside config zones outside)
    → first ≡ inputs ++ forwards
    → second ≡ first ++ outputs
    → third ≡ second ++ settings
    → fourth ≡ third ++ outside
    → IsPermutation fourth all
    → IsOrdered (λ (chain : Chain). chain.name) all
    → AreJoined config all
joined config zones inputs forwards outputs settings outside first second third fourth all valid are iw il iname fw fl fname ow ol oname blocks sides one two three four moved sorted = record {
  inputs = inputs;
  forwards = forwards;
  outputs = outputs;
  settings = settings;
  outside = outside;
  input = subst (λ (zones : List Zone). InputWorks config zones inputs) are iw;
  forward = subst (λ (zones : List Zone). ForwardWorks config zones forwards) are fw;
  output = subst (λ (zones : List Zone). OutputWorks config zones outputs) are ow;
  input_leads = subst (λ (zones : List Zone). InputLeads config zones inputs) are il;
  forward_leads = subst (λ (zones : List Zone). ForwardLeads config zones forwards) are fl;
  output_leads = subst (λ (zones : List Zone). OutputLeads config zones outputs) are ol;
  input_names = subst (λ (zones : List Zone). names_of inputs ≡ codes "filter_INPUT" ∷ zone_names input_start zones) are iname;
  forward_names = subst (λ (zones : List Zone). names_of forwards ≡ codes "filter_FORWARD" ∷ forward_names zones zones) are fname;
  output_names = subst (λ (zones : List Zone). names_of outputs ≡ codes "filter_OUTPUT" ∷ zone_names output_start zones) are oname;
  blocks = subst (λ (zones : List Zone). AreBlocks config (all_told config zones) settings) are blocks;
  sides = subst (λ (zones : List Zone). AreOutside config zones outside) are
      (sides (subst (λ (zones : List Zone). IsWritten config zones) (sym are) (is_written config valid)));
  all = subst (λ (chains : List Chain). IsPermutation chains all)
      (four ∙ ap (λ (list : List Chain). list ++ outside) (three ∙ ap (λ (list : List Chain). list ++ settings) (two ∙ ap (λ (list : List Chain). list ++ outputs) one)))
      moved;
  sorted = sorted;
}

-- two clauses on a result, as one
pub both_ok : {X E : Type 0} (result : Result X E) (One Other Joined : X → Type 0)
    → ((x : X) → One x → Other x → Joined x)
    → IfOk result One → IfOk result Other → IfOk result Joined
both_ok (Ok x) One Other Joined join one other = join x one other
both_ok (Err error) One Other Joined join one other = other

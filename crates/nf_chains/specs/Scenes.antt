-- The words of `Runs.antt` of a scene: a ruleset, a packet, and the interface by which it leaves.
use Rattle.std.specs.Prelude.{ℕ, List, Bool, Option}
use Rattle.std.specs.Option.{option_map}
use Rattle.nf_chains.specs.Runs.{Step, act, calls, holds, meet_all, meet_one, run, run_base}
use Rattle.nf_chains.specs.declared.course.Course.{Course}
use Rattle.nf_chains.specs.declared.flow.Flow.{Flow}
use Rattle.nf_chains.specs.declared.flow.Next.{Next}
use Rattle.nf_chains.specs.declared.scene.Scene.{Scene}
use Rattle.fw_model.specs.declared.outcome.Verdict.{Verdict}
use Rattle.nf_rules.specs.declared.chain.Chain.{Chain}
use Rattle.nf_rules.specs.declared.chain.Hook.{Hook}
use Rattle.nf_rules.specs.declared.rule.Rule.{Rule}
use Rattle.nf_rules.specs.declared.statement.Stmt.{Stmt}

abbrev pub leaving_of : Scene → Option (List ℕ)
leaving_of scene = option_map (λ name. name.now) scene.leaving

abbrev pub holds_in : Scene → Rule → Course → Bool
holds_in scene rule = holds scene.rules.now (leaving_of scene) scene.packet.now rule

abbrev pub calls_in : Scene → ℕ → List ℕ → Step Flow
calls_in scene links name = calls scene.rules.now (leaving_of scene) scene.packet.now links name

abbrev pub act_in : Scene → ℕ → Stmt → Step Next
act_in scene links statement = act scene.rules.now (leaving_of scene) scene.packet.now (calls_in scene links) statement

abbrev pub run_in : Scene → ℕ → List Rule → Step Flow
run_in scene links list = run scene.rules.now (leaving_of scene) scene.packet.now links list

abbrev pub run_base_in : Scene → Chain → Step Verdict
run_base_in scene chain = run_base scene.rules.now (leaving_of scene) scene.packet.now chain

abbrev pub meet_one_in : Scene → Chain → Step Verdict
meet_one_in scene chain = meet_one scene.rules.now (leaving_of scene) scene.packet.now chain

abbrev pub meet_all_in : Scene → Hook → Step Verdict
meet_all_in scene wanted = meet_all scene.rules.now (leaving_of scene) scene.packet.now wanted

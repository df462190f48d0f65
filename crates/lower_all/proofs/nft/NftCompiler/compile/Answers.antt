use Rattle.std.proofs.Common.{refl}
use Rattle.nf_goal.specs.Compiles.{Compiles}
use Rattle.lower_all.specs.Compiled.{IsMade}
use Rattle.lower_all.proofs.Laws.{Laws}
use Rattle.lower_all.proofs.Whole.{made_compiles}
use Rattle.std.proofs.lemmas.Result.{IfOk-weaker}
use Rattle.lower_all.proofs.nft.NftCompiler.compile.Goals as goal

pub returns-clause-compiles : goal.returns-clause-compiles
returns-clause-compiles c =
    let runtime = c.args.runtime.now in
    IfOk-weaker c.made.result (IsMade runtime.panic runtime.config) (λ rules. Compiles rules runtime)
    (λ rules made. made_compiles laws rules runtime runtime.panic refl made c.requires)
    c.made.ensures
  where
    laws : Laws
    laws = record {
      filter = record {
        decide = c.hooks_decide.ensures;
        one_runs = c.one_runs_at_each_hook.ensures;
        acting = c.acting_policies_are_told.ensures;
      };
      names = record {
        apart = c.chains_are_apart.ensures;
        across = c.sides_are_apart.ensures;
        outside = c.sides_stand_outside.ensures;
      };
      sides = record {
        work = c.sides_work.ensures;
        hold = c.sides_hold.ensures;
        run = c.bases_run.ensures;
        led = c.way_is_led.ensures;
      };
      panic = c.panic_rules_compile.ensures;
    }

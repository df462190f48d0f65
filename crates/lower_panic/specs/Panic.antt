-- The ruleset of panic mode (firewalld.dbus(5), `enablePanicMode`): a base chain that drops what comes by an interface, before routing,
-- and one that drops what the host sends, each before all others at its hook (nft(8), "CHAINS", priority `raw`).
use Rattle.std.specs.Prelude.{ℕ, ℤ, negsuc, List, [], ◌∷◌, codes, Some}
use Rattle.nf_rules.specs.declared.chain.Chain.{Chain}
use Rattle.nf_rules.specs.declared.chain.ChainKind.TheVariants as kind
use Rattle.nf_rules.specs.declared.chain.Hook.{Hook}
use Rattle.nf_rules.specs.declared.chain.Hook.TheVariants as hook
use Rattle.nf_rules.specs.declared.ruleset.Ruleset.{Ruleset}
use Rattle.nf_rules.specs.declared.statement.Stmt.TheVariants as stmt

-- the priority -300
abbrev pub raw : ℤ
raw = negsuc 299

abbrev pub dropping : List ℕ → Hook → Chain
dropping name at = record {
  name = name;
  base = Some (record { kind = kind.Filter; hook = at; priority = raw });
  rules = record { matches = []; stmts = stmt.Drop ∷ [] } ∷ [];
}

abbrev pub panic_rules : Ruleset
panic_rules = record {
  chains = dropping (codes "raw_OUTPUT") hook.Output ∷ dropping (codes "raw_PREROUTING") hook.Prerouting ∷ [];
  sets = [];
  maps = [];
}

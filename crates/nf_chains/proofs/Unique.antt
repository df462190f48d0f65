-- Evaluation has one end.
use Rattle.std.proofs.Common.{◌≡◌, ℕ, true, false, List, [], ◌∷◌, Option, Some, refl, sym, ap, subst, ◌∙◌}
use Rattle.fw_model.specs.declared.outcome.Verdict.{Verdict}
use Rattle.fw_model.specs.declared.outcome.Verdict.TheVariants as verdict
use Rattle.fw_model.specs.declared.packet.Packet.{Packet}
use Rattle.nf_chains.specs.Evaluation.{Ends}
use Rattle.nf_chains.specs.Evaluation.Ends.{accepts, drops, rejects, passes_over, logs, jumps, goes, returns, looks, looks_past, comes_back, ends, marks, translates, translates_nothing, masquerades, leads_in, misses_in, leads_out, misses_out, leads_src, misses_src, leads_dst, misses_dst}
use Rattle.nf_chains.specs.Hooks.{Goes, Meets, Passes, Stop, is_accept, is_filter, routed, stops_behind}
use Rattle.nf_chains.specs.Hooks.Goes.{refused as turned_away, routed_on}
use Rattle.nf_chains.specs.Hooks.Meets.{passed, accepted, refused, translated, held_back, passed_by}
use Rattle.nf_chains.specs.Hooks.Passes.{through, further, stopped}
use Rattle.nf_chains.specs.Laws.{HasOneCount, HasOneOutcome}
use Rattle.nf_chains.specs.Maps.{led_dst, led_in, led_out, led_src}
use Rattle.nf_chains.specs.Moments.{Moment, outcome_of}
use Rattle.nf_rules.specs.declared.chain.Chain.{Chain}
use Rattle.nf_rules.specs.declared.chain.Hook.{Hook}
use Rattle.nf_rules.specs.declared.ruleset.Ruleset.{Ruleset}
use Rattle.nf_rules.specs.declared.rule.Rule.{Rule}
use Rattle.nf_rules.specs.declared.statement.Stmt.{Stmt}
use Rattle.nf_sound.specs.Names.{chain_of}

-- two ends are one
pub record Same (v v' : Verdict) (e e' : Moment) : Type 0 where
  pub verdict : v ≡ v'
  pub moment : e ≡ e'

-- what is found under one name is one chain
one_chain : (rules : Ruleset) (found found' : Option (List ℕ)) (name name' : List ℕ) (chain chain' : Chain) → found ≡ found' → found ≡ Some name → found' ≡ Some name' → chain_of rules.chains name ≡ Some chain → chain_of rules.chains name' ≡ Some chain' → chain' ≡ chain
one_chain rules found found' name name' chain chain' same is is' at at' =
    let names : name' ≡ name = cc in
    let there : chain_of rules.chains name ≡ Some chain' = subst (λ (one : List ℕ). chain_of rules.chains one ≡ Some chain') names at' in
    cc

ends_same : {rules : Ruleset} {leaving : Option (List ℕ)} {statements : List Stmt} {behind : List Rule} {back : List (List Rule)} {now e e' : Moment} {v v' : Verdict} → Ends rules leaving statements behind back now v e → Ends rules leaving statements behind back now v' e' → Same v v' e e'
ends_same accepts accepts = record { verdict = refl; moment = refl }
ends_same drops drops = record { verdict = refl; moment = refl }
ends_same (rejects can) (rejects can') = record { verdict = refl; moment = refl }
ends_same (rejects can) (passes_over not there') = cc
ends_same (passes_over not there) (rejects can') = cc
ends_same (passes_over not there) (passes_over not' there') = ends_same there there'
ends_same (logs there) (logs there') = ends_same there there'
ends_same {rules} {leaving} {back = back} {now = now} {e' = e'} {v' = v'} (jumps {chain = chain} {behind = behind} found there) (jumps {chain = other} found' there') =
    let same : other ≡ chain = cc in
    ends_same there (subst (λ (one : Chain). Ends rules leaving [] one.rules (behind ∷ back) now v' e') same there')
ends_same {rules} {leaving} {back = back} {now = now} {e' = e'} {v' = v'} (goes {chain = chain} found there) (goes {chain = other} found' there') =
    let same : other ≡ chain = cc in
    ends_same there (subst (λ (one : Chain). Ends rules leaving [] one.rules back now v' e') same there')
ends_same (marks there) (marks there') = ends_same there there'
ends_same (translates can) (translates can') = record { verdict = refl; moment = refl }
ends_same (translates can) (translates_nothing not there') = cc
ends_same (translates_nothing not there) (translates can') = cc
ends_same (translates_nothing not there) (translates_nothing not' there') = ends_same there there'
ends_same masquerades masquerades = record { verdict = refl; moment = refl }
ends_same {rules} {leaving} {back = back} {now = now} {e' = e'} {v' = v'} (leads_in {map = map} {name = name} {chain = chain} is found there) (leads_in {name = name'} {chain = other} is' found' there') =
    let same = one_chain rules (led_in rules now.packet map) (led_in rules now.packet map) name name' chain other refl is is' found found' in
    ends_same there (subst (λ (one : Chain). Ends rules leaving [] one.rules back now v' e') same there')
ends_same (leads_in is found there) (misses_in none there') = cc
ends_same (misses_in none there) (leads_in is' found' there') = cc
ends_same (misses_in none there) (misses_in none' there') = ends_same there there'
ends_same {rules} {leaving} {back = back} {now = now} {e' = e'} {v' = v'} (leads_out {map = map} {name = name} {chain = chain} is found there) (leads_out {name = name'} {chain = other} is' found' there') =
    let same = one_chain rules (led_out rules leaving map) (led_out rules leaving map) name name' chain other refl is is' found found' in
    ends_same there (subst (λ (one : Chain). Ends rules leaving [] one.rules back now v' e') same there')
ends_same (leads_out is found there) (misses_out none there') = cc
ends_same (misses_out none there) (leads_out is' found' there') = cc
ends_same (misses_out none there) (misses_out none' there') = ends_same there there'
ends_same {rules} {leaving} {back = back} {now = now} {e' = e'} {v' = v'} (leads_src {map = map} {name = name} {chain = chain} is found there) (leads_src {name = name'} {chain = other} is' found' there') =
    let same = one_chain rules (led_src rules now.packet map) (led_src rules now.packet map) name name' chain other refl is is' found found' in
    ends_same there (subst (λ (one : Chain). Ends rules leaving [] one.rules back now v' e') same there')
ends_same (leads_src is found there) (misses_src none there') = cc
ends_same (misses_src none there) (leads_src is' found' there') = cc
ends_same (misses_src none there) (misses_src none' there') = ends_same there there'
ends_same {rules} {leaving} {back = back} {now = now} {e' = e'} {v' = v'} (leads_dst {map = map} {name = name} {chain = chain} is found there) (leads_dst {name = name'} {chain = other} is' found' there') =
    let same = one_chain rules (led_dst rules now.packet map) (led_dst rules now.packet map) name name' chain other refl is is' found found' in
    ends_same there (subst (λ (one : Chain). Ends rules leaving [] one.rules back now v' e') same there')
ends_same (leads_dst is found there) (misses_dst none there') = cc
ends_same (misses_dst none there) (leads_dst is' found' there') = cc
ends_same (misses_dst none there) (misses_dst none' there') = ends_same there there'
ends_same (returns there) (returns there') = ends_same there there'
ends_same (looks all there) (looks all' there') = ends_same there there'
ends_same (looks all there) (looks_past not there') = cc
ends_same (looks_past not there) (looks all' there') = cc
ends_same (looks_past not there) (looks_past not' there') = ends_same there there'
ends_same (comes_back there) (comes_back there') = ends_same there there'
ends_same ends ends = record { verdict = refl; moment = refl }

meets_same : {rules : Ruleset} {leaving : Option (List ℕ)} {wanted : Hook} {last : Option Chain} {now e e' : Moment} {v v' : Verdict} → Meets rules leaving wanted last now v e → Meets rules leaving wanted last now v' e' → Same v v' e e'
meets_same (passed none) (passed none') = record { verdict = refl; moment = refl }
meets_same (passed none) (accepted found' filter' here' there') = cc
meets_same (passed none) (refused found' filter' here' not') = cc
meets_same (accepted found filter here there) (passed none') = cc
meets_same (refused found filter here not) (passed none') = cc
meets_same {rules} {leaving} {wanted} {now = now} {e' = e'} {v' = v'} (accepted {chain = chain} {next = next} found filter here there) (accepted {chain = other} {next = next'} found' filter' here' there') =
    let same : other ≡ chain = cc in
    let ended = ends_same here (subst (λ (one : Chain). Ends rules leaving [] one.rules [] now verdict.Accept next') same here') in
    meets_same there (subst (λ (one : Chain). Meets rules leaving wanted (Some one) next v' e') same (subst (λ (one : Moment). Meets rules leaving wanted (Some other) one v' e') (sym ended.moment) there'))
meets_same {rules} {leaving} {wanted} {now = now} {e' = e'} {v' = v'} (accepted {chain = chain} found filter here there) (refused {chain = other} found' filter' here' not') =
    let same : other ≡ chain = cc in
    let ended = ends_same here (subst (λ (one : Chain). Ends rules leaving [] one.rules [] now v' e') same here') in
    let is : is_accept v' ≡ true = ap is_accept (sym ended.verdict) in
    cc
meets_same {rules} {leaving} {wanted} {now = now} {e = e} {v = v} (refused {chain = chain} found filter here not) (accepted {chain = other} {next = next'} found' filter' here' there') =
    let same : other ≡ chain = cc in
    let ended = ends_same here (subst (λ (one : Chain). Ends rules leaving [] one.rules [] now verdict.Accept next') same here') in
    let is : is_accept v ≡ true = ap is_accept ended.verdict in
    cc
meets_same {rules} {leaving} {now = now} {e' = e'} {v' = v'} (refused {chain = chain} found filter here not) (refused {chain = other} found' filter' here' not') =
    let same : other ≡ chain = cc in
    ends_same here (subst (λ (one : Chain). Ends rules leaving [] one.rules [] now v' e') same here')
meets_same (passed none) (translated found' nat' new' here' there') = cc
meets_same (passed none) (held_back found' nat' new' here' not') = cc
meets_same (passed none) (passed_by found' nat' old' there') = cc
meets_same (translated found nat new here there) (passed none') = cc
meets_same (held_back found nat new here not) (passed none') = cc
meets_same (passed_by found nat old there) (passed none') = cc
meets_same (accepted {chain = chain} found filter here there) (translated {chain = other} found' nat' new' here' there') =
    let same : other ≡ chain = cc in
    let kind : is_filter chain.base ≡ false = subst (λ (one : Chain). is_filter one.base ≡ false) same nat' in
    cc
meets_same (translated {chain = chain} found nat new here there) (accepted {chain = other} found' filter' here' there') =
    let same : other ≡ chain = cc in
    let kind : is_filter chain.base ≡ true = subst (λ (one : Chain). is_filter one.base ≡ true) same filter' in
    cc
meets_same (accepted {chain = chain} found filter here there) (held_back {chain = other} found' nat' new' here' not') =
    let same : other ≡ chain = cc in
    let kind : is_filter chain.base ≡ false = subst (λ (one : Chain). is_filter one.base ≡ false) same nat' in
    cc
meets_same (held_back {chain = chain} found nat new here not) (accepted {chain = other} found' filter' here' there') =
    let same : other ≡ chain = cc in
    let kind : is_filter chain.base ≡ true = subst (λ (one : Chain). is_filter one.base ≡ true) same filter' in
    cc
meets_same (accepted {chain = chain} found filter here there) (passed_by {chain = other} found' nat' old' there') =
    let same : other ≡ chain = cc in
    let kind : is_filter chain.base ≡ false = subst (λ (one : Chain). is_filter one.base ≡ false) same nat' in
    cc
meets_same (passed_by {chain = chain} found nat old there) (accepted {chain = other} found' filter' here' there') =
    let same : other ≡ chain = cc in
    let kind : is_filter chain.base ≡ true = subst (λ (one : Chain). is_filter one.base ≡ true) same filter' in
    cc
meets_same (refused {chain = chain} found filter here not) (translated {chain = other} found' nat' new' here' there') =
    let same : other ≡ chain = cc in
    let kind : is_filter chain.base ≡ false = subst (λ (one : Chain). is_filter one.base ≡ false) same nat' in
    cc
meets_same (translated {chain = chain} found nat new here there) (refused {chain = other} found' filter' here' not') =
    let same : other ≡ chain = cc in
    let kind : is_filter chain.base ≡ true = subst (λ (one : Chain). is_filter one.base ≡ true) same filter' in
    cc
meets_same (refused {chain = chain} found filter here not) (held_back {chain = other} found' nat' new' here' not') =
    let same : other ≡ chain = cc in
    let kind : is_filter chain.base ≡ false = subst (λ (one : Chain). is_filter one.base ≡ false) same nat' in
    cc
meets_same (held_back {chain = chain} found nat new here not) (refused {chain = other} found' filter' here' not') =
    let same : other ≡ chain = cc in
    let kind : is_filter chain.base ≡ true = subst (λ (one : Chain). is_filter one.base ≡ true) same filter' in
    cc
meets_same (refused {chain = chain} found filter here not) (passed_by {chain = other} found' nat' old' there') =
    let same : other ≡ chain = cc in
    let kind : is_filter chain.base ≡ false = subst (λ (one : Chain). is_filter one.base ≡ false) same nat' in
    cc
meets_same (passed_by {chain = chain} found nat old there) (refused {chain = other} found' filter' here' not') =
    let same : other ≡ chain = cc in
    let kind : is_filter chain.base ≡ true = subst (λ (one : Chain). is_filter one.base ≡ true) same filter' in
    cc
meets_same (translated found nat new here there) (passed_by found' nat' old' there') = cc
meets_same (held_back found nat new here not) (passed_by found' nat' old' there') = cc
meets_same (passed_by found nat old there) (translated found' nat' new' here' there') = cc
meets_same (passed_by found nat old there) (held_back found' nat' new' here' not') = cc
meets_same {rules} {leaving} {wanted} {now = now} {e' = e'} {v' = v'} (translated {chain = chain} {next = next} found nat new here there) (translated {chain = other} {next = next'} found' nat' new' here' there') =
    let same : other ≡ chain = cc in
    let ended = ends_same here (subst (λ (one : Chain). Ends rules leaving [] one.rules [] now verdict.Accept next') same here') in
    meets_same there (subst (λ (one : Chain). Meets rules leaving wanted (Some one) next v' e') same (subst (λ (one : Moment). Meets rules leaving wanted (Some other) one v' e') (sym ended.moment) there'))
meets_same {rules} {leaving} {wanted} {now = now} {e' = e'} {v' = v'} (translated {chain = chain} found nat new here there) (held_back {chain = other} found' nat' new' here' not') =
    let same : other ≡ chain = cc in
    let ended = ends_same here (subst (λ (one : Chain). Ends rules leaving [] one.rules [] now v' e') same here') in
    let is : is_accept v' ≡ true = ap is_accept (sym ended.verdict) in
    cc
meets_same {rules} {leaving} {wanted} {now = now} {e = e} {v = v} (held_back {chain = chain} found nat new here not) (translated {chain = other} {next = next'} found' nat' new' here' there') =
    let same : other ≡ chain = cc in
    let ended = ends_same here (subst (λ (one : Chain). Ends rules leaving [] one.rules [] now verdict.Accept next') same here') in
    let is : is_accept v ≡ true = ap is_accept ended.verdict in
    cc
meets_same {rules} {leaving} {now = now} {e' = e'} {v' = v'} (held_back {chain = chain} found nat new here not) (held_back {chain = other} found' nat' new' here' not') =
    let same : other ≡ chain = cc in
    ends_same here (subst (λ (one : Chain). Ends rules leaving [] one.rules [] now v' e') same here')
meets_same {rules} {leaving} {wanted} {now = now} {e' = e'} {v' = v'} (passed_by {chain = chain} found nat old there) (passed_by {chain = other} found' nat' old' there') =
    let same : other ≡ chain = cc in
    meets_same there (subst (λ (one : Chain). Meets rules leaving wanted (Some one) now v' e') same there')

passes_same : {rules : Ruleset} {stops : List Stop} {now e e' : Moment} {v v' : Verdict} → Passes rules stops now v e → Passes rules stops now v' e' → Same v v' e e'
passes_same through through = record { verdict = refl; moment = refl }
passes_same {rules} {e' = e'} {v' = v'} (further {stops = stops} here there) (further here' there') =
    let met = meets_same here here' in
    passes_same there (subst (λ (one : Moment). Passes rules stops one v' e') (sym met.moment) there')
passes_same {v' = v'} (further here there) (stopped here' not') =
    let met = meets_same here here' in
    let is : is_accept v' ≡ true = ap is_accept (sym met.verdict) in
    cc
passes_same {v = v} (stopped here not) (further here' there') =
    let met = meets_same here here' in
    let is : is_accept v ≡ true = ap is_accept met.verdict in
    cc
passes_same (stopped here not) (stopped here' not') = meets_same here here'

goes_same : {rules : Ruleset} {packet : Packet} {e e' : Moment} {v v' : Verdict} → Goes rules packet v e → Goes rules packet v' e' → Same v v' e e'
goes_same (turned_away before not) (turned_away before' not') = passes_same before before'
goes_same {v = v} (turned_away before not) (routed_on before' behind') =
    let met = passes_same before before' in
    let is : is_accept v ≡ true = ap is_accept met.verdict in
    cc
goes_same {v' = v'} (routed_on before behind) (turned_away before' not') =
    let met = passes_same before before' in
    let is : is_accept v' ≡ true = ap is_accept (sym met.verdict) in
    cc
goes_same {rules} {e' = e'} {v' = v'} (routed_on before behind) (routed_on before' behind') =
    let met = passes_same before before' in
    passes_same behind (subst (λ (now : Moment). Passes rules (stops_behind now.packet.origin (routed now)) now v' e') (sym met.moment) behind')

pub one_outcome : HasOneOutcome
one_outcome rules packet one other first second =
    let same = goes_same first.goes second.goes in
    first.is ∙ ap (λ v. outcome_of v first.end) same.verdict ∙ ap (λ e. outcome_of second.verdict e) same.moment ∙ sym second.is

pub one_count : HasOneCount
one_count rules packet one other first second =
    let same = goes_same first.goes second.goes in
    first.is ∙ ap (λ (e : Moment). e.looked_at) same.moment ∙ sym second.is

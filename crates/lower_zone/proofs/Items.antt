-- What was added for items.
use Rattle.std.proofs.Common.{◌≡◌, ◌∙◌, ◌+◌, ◌<◌, ℕ, Bool, true, false, not, ◌&&◌, ◌||◌, List, [], ◌∷◌, ◌++◌, length, map, get_or, take, codes, Option, None, Some, refl, sym, ap, subst, append-nil, append_assoc, Bor}
use Rattle.std.specs.Prelude.{if◌then◌else◌}
use Rattle.std.specs.List.{flat_map, list_any}
use Rattle.std.proofs.lemmas.List.{map-append, take_more}
use Rattle.std.proofs.lemmas.List.Concat.{flat_map-append}
use Rattle.std.proofs.lemmas.List.Folds.{list_any-append}
use Rattle.fw_addr.specs.declared.limit.Limit.{Limit}
use Rattle.fw_addr.specs.declared.reject.RejectType.{RejectType}
use Rattle.fw_addr.specs.declared.reject.RejectType.TheVariants as type
use Rattle.fw_hits.specs.Hits.{hits}
use Rattle.fw_hits.specs.Plain.{is_icmp}
use Rattle.fw_hits.specs.Rich.{hits_rich}
use Rattle.fw_model.specs.declared.config.Config.{Config}
use Rattle.fw_model.specs.declared.outcome.Verdict.{Verdict}
use Rattle.fw_model.specs.declared.outcome.Verdict.TheVariants as verdict
use Rattle.fw_model.specs.declared.packet.Packet.{Packet}
use Rattle.fw_model.specs.declared.rich.Act.{Act}
use Rattle.fw_model.specs.declared.rich.Act.TheVariants as act
use Rattle.fw_model.specs.declared.rich.Rich.{Rich}
use Rattle.fw_model.specs.declared.rules.Rules.{Rules}
use Rattle.fw_model.specs.declared.setting.Setting.{Setting}
use Rattle.fw_model.specs.declared.setting.Setting.TheVariants as setting
use Rattle.fw_order.specs.Borrowed.{lent}
use Rattle.fw_verdict.specs.Given.{audit_name}
use Rattle.fw_verdict.specs.Items.{accepted, allow_items, deny_items, is_other_icmp, items, listed_items, rejected}
use Rattle.fw_verdict.specs.Rich.{acted_as, audit_line, audited_as, can_answer, passes, reject_type, rich_items}
use Rattle.fw_verdict.specs.Walk.{Effect, Item, Walked, done, nothing, or_then, walk}
use Rattle.fw_verdict.specs.Walk.Effect.{decide, log}
use Rattle.fw_verdict.specs.declared.rich.Part.TheVariants as part
use Rattle.lower_zone.specs.Evaluates.{Meeting}
use Rattle.lower_zone.specs.Forms.{each, icmp_alternatives, other_icmp_rules, statement}
use Rattle.lower_zone.specs.Parts.{part_items}
use Rattle.lower_zone.specs.Verdicts.{can_decide, decided_by, listed_icmp, listed_settings, verdict_of}
use Rattle.lower_zone.specs.Work.{Adds, ChainDoes, HasOwn, Tells, one_holds_at, under}
use Rattle.lower_zone.proofs.Alternatives.{chain_returns, each_decides}
use Rattle.lower_zone.proofs.Sequences.{whole}
use Rattle.lower_zone.proofs.Built.{AreLeaves, leaves_other_icmp}
use Rattle.lower_zone.proofs.Tells.{any_map, tells_icmp}
use Rattle.lower_zone.proofs.Works.{adds_lists, adds_nothing, adds_own, adds_same}
use Rattle.nf_chains.specs.Moments.{Moment}
use Rattle.nf_chains.specs.Rejects.{can_reject}
use Rattle.nf_rules.specs.declared.chain.Chain.{Chain}
use Rattle.nf_rules.specs.declared.rule.Match.{Match}
use Rattle.nf_rules.specs.declared.ruleset.Ruleset.{Ruleset}
use Rattle.nf_rules.specs.declared.rule.Rule.{Rule}

one_does : (hit : Bool) (effect : Effect) → (if hit then done effect else nothing) ≡ or_then (if hit then done effect else nothing).decided (if hit then done effect else nothing).logs nothing
one_does true (log line) = refl
one_does true (decide chosen) = refl
one_does false effect = refl

-- one item, by its condition
pub adds_item : (config : Config) (item : Item) (condition : Packet → Bool) (old_rules new_rules : List Rule) (old_chains new_chains : List Chain)
    → ((packet : Packet) → condition packet ≡ item.hits packet)
    → Adds config (under condition (done item.effect)) old_rules new_rules old_chains new_chains
    → Adds config (walk (item ∷ [])) old_rules new_rules old_chains new_chains
adds_item config item condition old_rules new_rules old_chains new_chains same added =
    adds_same config (under condition (done item.effect)) (walk (item ∷ [])) old_rules new_rules old_chains new_chains
    (λ packet. ap (λ (hit : Bool). if hit then done item.effect else nothing) (same packet) ∙ one_does (item.hits packet) item.effect) added

pub and_true : (b : Bool) → (b && true) ≡ b
and_true true = refl
and_true false = refl

and_and : (one two three : Bool) → ((one && two) && three) ≡ (one && (two && three))
and_and true two three = refl
and_and false two three = refl

or_false : (b : Bool) → (b || false) ≡ b
or_false true = refl
or_false false = refl

-- which packets a reject can answer
answers : (kind : RejectType) (packet : Packet) → can_reject kind packet ≡ can_answer kind packet
answers type.IcmpNetUnreachable packet = refl
answers type.IcmpHostUnreachable packet = refl
answers type.IcmpPortUnreachable packet = refl
answers type.IcmpProtoUnreachable packet = refl
answers type.IcmpNetProhibited packet = refl
answers type.IcmpHostProhibited packet = refl
answers type.IcmpAdminProhibited packet = refl
answers type.Icmp6NoRoute packet = refl
answers type.Icmp6AddrUnreachable packet = refl
answers type.Icmp6PortUnreachable packet = refl
answers type.Icmp6AdmProhibited packet = refl
answers type.IcmpxAdminProhibited packet = refl
answers type.IcmpxPortUnreachable packet = refl
answers type.TcpReset packet = refl

module _ (config : Config) (rule : Rich) (limit : Option Limit) (old_rules new_rules : List Rule) (old_chains new_chains : List Chain) where
  abbrev AddsWalk : List Item → Type 0
  AddsWalk list = Adds config (walk list) old_rules new_rules old_chains new_chains

  abbrev hit : Packet → Bool
  hit packet = hits_rich config rule packet && passes limit packet

  abbrev AddsDecision : Verdict → Type 0
  AddsDecision chosen = Adds config (under (λ packet. hit packet && can_decide chosen packet) (done (decide chosen))) old_rules new_rules old_chains new_chains

  -- what an action decides
  pub adds_act : (done_so : Act) (chosen : Verdict) → verdict_of done_so ≡ Some chosen → AddsDecision chosen → AddsWalk (acted_as config rule limit done_so)
  adds_act act.Accept chosen is added =
      let same : chosen ≡ verdict.Accept = cc in
      adds_item config (record { hits = hit; effect = decide verdict.Accept }) (λ packet. hit packet && true) old_rules new_rules old_chains new_chains
      (λ packet. and_true (hit packet)) (subst AddsDecision same added)
  adds_act (act.Reject kind) chosen is added =
      let same : chosen ≡ verdict.Reject (reject_type kind) = cc in
      adds_item config (record { hits = λ packet. hits_rich config rule packet && (passes limit packet && can_answer (reject_type kind) packet); effect = decide (verdict.Reject (reject_type kind)) })
      (λ packet. hit packet && can_reject (reject_type kind) packet) old_rules new_rules old_chains new_chains
      (λ packet. ap (λ (can : Bool). hit packet && can) (answers (reject_type kind) packet) ∙ and_and (hits_rich config rule packet) (passes limit packet) (can_answer (reject_type kind) packet))
      (subst AddsDecision same added)
  adds_act act.Drop chosen is added =
      let same : chosen ≡ verdict.Drop = cc in
      adds_item config (record { hits = hit; effect = decide verdict.Drop }) (λ packet. hit packet && true) old_rules new_rules old_chains new_chains
      (λ packet. and_true (hit packet)) (subst AddsDecision same added)
  adds_act (act.Mark value mask) chosen is added = cc

  -- the line of an audit
  abbrev AddsAudit : List ℕ → Type 0
  AddsAudit name = AddsWalk (record { hits = hit; effect = log (audit_line name) } ∷ [])

  one_audit : (name told : List ℕ) → Some name ≡ Some told → AddsAudit told → AddsWalk (record { hits = hit; effect = log (audit_line name) } ∷ [])
  one_audit name told is added =
      let same : told ≡ name = cc in subst AddsAudit same added

  pub adds_audit : (done_so : Act) (told : List ℕ) → audit_name done_so ≡ Some told → AddsAudit told → AddsWalk (audited_as config rule limit done_so)
  adds_audit act.Accept told is added = one_audit (codes "accept") told is added
  adds_audit (act.Reject kind) told is added = one_audit (codes "reject") told is added
  adds_audit act.Drop told is added = one_audit (codes "drop") told is added
  adds_audit (act.Mark value mask) told is added = cc

-- a mark does nothing here
pub adds_no_act : (config : Config) (rule : Rich) (limit : Option Limit) (done_so : Act) (rules : List Rule) (chains : List Chain)
    → verdict_of done_so ≡ None → Adds config (walk (acted_as config rule limit done_so)) rules rules chains chains
adds_no_act config rule limit act.Accept rules chains is = cc
adds_no_act config rule limit (act.Reject kind) rules chains is = cc
adds_no_act config rule limit act.Drop rules chains is = cc
adds_no_act config rule limit (act.Mark value mask) rules chains is = adds_nothing config rules chains

pub adds_no_audit : (config : Config) (rule : Rich) (limit : Option Limit) (done_so : Act) (rules : List Rule) (chains : List Chain)
    → audit_name done_so ≡ None → Adds config (walk (audited_as config rule limit done_so)) rules rules chains chains
adds_no_audit config rule limit act.Accept rules chains is = cc
adds_no_audit config rule limit (act.Reject kind) rules chains is = cc
adds_no_audit config rule limit act.Drop rules chains is = cc
adds_no_audit config rule limit (act.Mark value mask) rules chains is = adds_nothing config rules chains

-- what a setting decides
pub adds_setting : (config : Config) (chosen : Verdict) (told : Setting) (old_rules new_rules : List Rule) (chains : List Chain)
    → ((packet : Packet) → can_decide chosen packet ≡ true)
    → Adds config (under (λ packet. hits config told packet && can_decide chosen packet) (done (decide chosen))) old_rules new_rules chains chains
    → Adds config (walk (decided_by config chosen told ∷ [])) old_rules new_rules chains chains
adds_setting config chosen told old_rules new_rules chains can added =
    adds_item config (decided_by config chosen told) (λ packet. hits config told packet && can_decide chosen packet) old_rules new_rules chains chains
    (λ packet. ap (λ (one : Bool). hits config told packet && one) (can packet) ∙ and_true (hits config told packet)) added

-- one item more of a list
pub map_more : {A B : Type 0} (f : A → B) (xs : List A) (at : ℕ) (x : A) → at < length xs → x ≡ get_or xs at x
    → map f (take (at + 1) xs) ≡ map f (take at xs) ++ f x ∷ []
map_more f xs at x below is =
    ap (map f) (take_more xs at x below) ∙ map-append f (take at xs) (get_or xs at x ∷ []) ∙ ap (λ one. map f (take at xs) ++ f one ∷ []) (sym is)

pub flat_more : {A B : Type 0} (f : A → List B) (xs : List (Bor A)) (at : ℕ) (x : Bor A) → at < length xs → x ≡ get_or xs at x
    → flat_map f (lent (take (at + 1) xs)) ≡ flat_map f (lent (take at xs)) ++ f x.now
flat_more {A = A} f xs at x below is =
    ap (flat_map f) (map_more (λ (one : Bor A). one.now) xs at x below is)
    ∙ flat_map-append f (lent (take at xs)) (x.now ∷ [])
    ∙ ap (λ rest. flat_map f (lent (take at xs)) ++ rest) (append-nil (f x.now))

pub any_more : {A : Type 0} (test : A → Bool) (xs : List A) (at : ℕ) (x : A) → at < length xs → x ≡ get_or xs at x
    → list_any test (take (at + 1) xs) ≡ (list_any test (take at xs) || test x)
any_more test xs at x below is =
    ap (list_any test) (take_more xs at x below)
    ∙ list_any-append test (take at xs) (get_or xs at x ∷ [])
    ∙ ap (λ one. list_any test (take at xs) || (test one || false)) (sym is)
    ∙ ap (λ rest. list_any test (take at xs) || rest) (or_false (test x))

-- the settings that let packets in
two_lists : {A B : Type 0} (f : A → B) (one other : List A) (first second : List B) → map f one ≡ first → map f other ≡ second → map f (one ++ other) ≡ first ++ second
two_lists f one other first second is is' = map-append f one other ∙ ap (λ list. list ++ map f other) is ∙ ap (λ list. first ++ list) is'

pub twice : {A B C : Type 0} (f : B → C) (g : A → B) (xs : List A) → map f (map g xs) ≡ map (λ x. f (g x)) xs
twice f g [] = refl
twice f g (x ∷ xs) = ap (λ rest. f (g x) ∷ rest) (twice f g xs)

listed_icmp_are : (config : Config) (rules : Rules) (inversion : Bool)
    → map (decided_by config verdict.Accept) (listed_icmp rules inversion) ≡ (if inversion then map (λ name. accepted (hits config (setting.IcmpBlock name))) rules.icmp_blocks else [])
listed_icmp_are config rules true = twice (decided_by config verdict.Accept) setting.IcmpBlock rules.icmp_blocks
listed_icmp_are config rules false = refl

pub listed_are : (config : Config) (rules : Rules) (inversion : Bool)
    → map (decided_by config verdict.Accept) (listed_settings rules inversion) ≡ listed_items config rules inversion
listed_are config rules inversion =
    let f = decided_by config verdict.Accept in
    two_lists f (map setting.Service rules.services ++ map setting.Port rules.ports ++ map setting.Protocol rules.protocols ++ map setting.SourcePort rules.source_ports) (listed_icmp rules inversion) _ _
    (two_lists f (map setting.Service rules.services ++ map setting.Port rules.ports ++ map setting.Protocol rules.protocols) (map setting.SourcePort rules.source_ports) _ _
    (two_lists f (map setting.Service rules.services ++ map setting.Port rules.ports) (map setting.Protocol rules.protocols) _ _
    (two_lists f (map setting.Service rules.services) (map setting.Port rules.ports) _ _
    (twice f setting.Service rules.services) (twice f setting.Port rules.ports))
    (twice f setting.Protocol rules.protocols))
    (twice f setting.SourcePort rules.source_ports))
    (listed_icmp_are config rules inversion)

-- ICMP of no listed type
others_go : (listed icmp : Bool) (chosen : Verdict)
    → (if listed then nothing else (if icmp && true then done (decide chosen) else nothing)) ≡ (if icmp && not listed then done (decide chosen) else nothing)
others_go true true chosen = refl
others_go true false chosen = refl
others_go false true chosen = refl
others_go false false chosen = refl

pub adds_others : (config : Config) (block : List ℕ) (names : List (List ℕ)) (settings : List Setting) (listed : List (List Match)) (own old_rules new_rules : List Rule) (old_chains new_chains : List Chain)
    → settings ≡ map setting.IcmpBlock names
    → Tells config listed (λ packet. list_any (λ told. hits config told packet) settings)
    → own ≡ other_icmp_rules listed
    → HasOwn block own old_rules new_rules old_chains new_chains
    → Adds config (walk (rejected (is_other_icmp config names) ∷ [])) old_rules new_rules old_chains new_chains
adds_others config block names settings listed own old_rules new_rules old_chains new_chains are tells own_is has =
    let reject : Verdict = verdict.Reject type.IcmpxAdminProhibited in
    let condition = λ (packet : Packet). is_icmp packet && not (list_any (λ told. hits config told packet) settings) in
    adds_item config (rejected (is_other_icmp config names)) condition old_rules new_rules old_chains new_chains
    (λ packet. ap (λ (hit : Bool). is_icmp packet && not hit)
    (ap (list_any (λ told. hits config told packet)) are ∙ any_map (λ told. hits config told packet) setting.IcmpBlock names))
    (adds_own config block own (under condition (done (decide reject))) old_rules new_rules old_chains new_chains has
    (subst (AreLeaves config) (sym own_is) (leaves_other_icmp config listed tells.stand))
    (λ table leaving now meeting.
    subst (λ (list : List Rule). ChainDoes table leaving list now (under condition (done (decide reject)) now.packet)) (sym own_is)
    (subst (λ (walked : Walked). ChainDoes table leaving (other_icmp_rules listed) now walked)
    (ap (λ (hit : Bool). if hit then nothing else (if one_holds_at leaving table now.packet icmp_alternatives && true then done (decide reject) else nothing)) (sym (tells.holds table leaving now meeting))
    ∙ ap (λ (hit : Bool). if list_any (λ told. hits config told now.packet) settings then nothing else (if hit && true then done (decide reject) else nothing)) (sym ((tells_icmp config).holds table leaving now meeting))
    ∙ others_go (list_any (λ told. hits config told now.packet) settings) (is_icmp now.packet) reject)
    (chain_returns table leaving listed (each (statement reject ∷ []) icmp_alternatives) (if one_holds_at leaving table now.packet icmp_alternatives && true then done (decide reject) else nothing) now
    (λ count. whole table leaving (each (statement reject ∷ []) icmp_alternatives) (record now { looked_at = count }) (if one_holds_at leaving table now.packet icmp_alternatives && true then done (decide reject) else nothing)
    (each_decides table leaving reject icmp_alternatives (record now { looked_at = count })))))))

-- the five parts
five : {A : Type 0} (first second third fourth fifth : List A)
    → (first ++ []) ++ ((second ++ []) ++ (third ++ (fourth ++ (fifth ++ [])))) ≡ first ++ ((second ++ (third ++ fourth)) ++ fifth)
five first second third fourth fifth =
    ap (λ one. one ++ ((second ++ []) ++ (third ++ (fourth ++ (fifth ++ []))))) (append-nil first)
    ∙ ap (λ two. first ++ (two ++ (third ++ (fourth ++ (fifth ++ []))))) (append-nil second)
    ∙ ap (λ last. first ++ (second ++ (third ++ (fourth ++ last)))) (append-nil fifth)
    ∙ ap (λ rest. first ++ (second ++ rest)) (sym (append_assoc third fourth fifth))
    ∙ ap (λ rest. first ++ rest) (sym (append_assoc second (third ++ fourth) fifth))

pub parts_are : (config : Config) (rules : Rules) (inversion : Bool)
    → part_items config rules inversion part.Pre ++ (part_items config rules inversion part.Log ++ (part_items config rules inversion part.Deny ++ (part_items config rules inversion part.Allow ++ part_items config rules inversion part.Post)))
    ≡ items config rules inversion
parts_are config rules inversion =
    five (rich_items config part.Pre rules.rich) (rich_items config part.Log rules.rich) (deny_items config rules inversion) (allow_items config rules inversion) (rich_items config part.Post rules.rich)

use Rattle.std.proofs.Common.{◌∙◌, sym, ap, List, ℕ}
use Rattle.fw_hits.proofs.Reached.{no_member_hits, none_may_hit, own_hits_it, reached_hits}
use Rattle.fw_hits.specs.Members.{hits_among}
use Rattle.fw_hits.proofs.services.service_hits.Goals as goal

pub returns-then-not-may_hit : goal.returns-then-not-may_hit
returns-then-not-may_hit c =
    sym (none_may_hit c.args.services.now c.args.name.now c.args.packet.now (c.chains_are_short.ensures c.args.services.now) (sym c.may_hit.ensures ∙ c.if-not-may_hit.true))

pub returns-then-own_hits : goal.returns-then-own_hits
returns-then-own_hits c =
    sym (own_hits_it c.args.services.now c.args.name.now c.args.packet.now (c.chains_are_short.ensures c.args.services.now) (sym c.own_hits.ensures ∙ c.if-own_hits.true))

pub returns-then-not-any_member_hits : goal.returns-then-not-any_member_hits
returns-then-not-any_member_hits c =
    sym (no_member_hits c.args.services.now c.args.name.now c.args.packet.now (c.chains_are_short.ensures c.args.services.now) (sym c.any_member_hits.ensures ∙ c.if-not-any_member_hits.true))

pub returns : goal.returns
returns c =
    c.hits_among.ensures
    ∙ ap (λ (places : List ℕ). hits_among c.args.services.now places c.args.packet.now) c.deref.ensures.value
    ∙ reached_hits c.args.services.now c.args.name.now c.args.packet.now c.in_ok-places.places.items (c.chains_are_short.ensures c.args.services.now) c.in_ok-places.ensures

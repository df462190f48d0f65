-- Walks of lists that are joined, and of lists whose items all decide the same.
use Rattle.std.proofs.Common.{◌≡◌, ◌∙◌, List, [], ◌∷◌, ◌++◌, map, Bool, true, false, ◌||◌, Option, None, Some, refl, sym, ap, append_assoc}
use Rattle.std.specs.Prelude.{if◌then◌else◌}
use Rattle.std.specs.List.{list_any}
use Rattle.std.specs.Option.{option_or}
use Rattle.fw_addr.specs.declared.log.LogLine.{LogLine}
use Rattle.fw_model.specs.declared.outcome.Verdict.{Verdict}
use Rattle.fw_model.specs.declared.packet.Packet.{Packet}
use Rattle.fw_verdict.specs.Walk.{Item, Walked, does, nothing, or_then, silently, walk}
use Rattle.fw_verdict.specs.Walk.Effect.{decide}

-- of three, one after another
or_then_then : (one : Option Verdict) (lines : List LogLine) (two : Option Verdict) (more : List LogLine) (three : Walked)
    → or_then one lines (or_then two more three) ≡ or_then (or_then one lines (record { decided = two; logs = more })).decided (or_then one lines (record { decided = two; logs = more })).logs three
or_then_then (Some verdict) lines two more three = refl
or_then_then None lines (Some verdict) more three = refl
or_then_then None lines None more three = ap (λ logs. record { decided = three.decided; logs = logs }) (sym (append_assoc lines more three.logs))

-- two lists, one behind the other
pub walk_append : (one other : List Item) (packet : Packet) → walk (one ++ other) packet ≡ or_then (walk one packet).decided (walk one packet).logs (walk other packet)
walk_append [] other packet = refl
walk_append (item ∷ items) other packet =
    ap (or_then (does packet item).decided (does packet item).logs) (walk_append items other packet)
    ∙ or_then_then (does packet item).decided (does packet item).logs (walk items packet).decided (walk items packet).logs (walk other packet)

or_silently : (one other : Option Verdict) → or_then one [] (silently other) ≡ silently (option_or one other)
or_silently None other = refl
or_silently (Some verdict) other = refl

pub then_silently : (one other : Walked) (first second : Option Verdict) → one ≡ silently first → other ≡ silently second → or_then one.decided one.logs other ≡ silently (option_or first second)
then_silently one other first second is is' =
    ap (λ (walked : Walked). or_then walked.decided walked.logs other) is
    ∙ ap (or_then first []) is'
    ∙ or_silently first second

-- two lists that log nothing
pub walk_both : (one other : List Item) (packet : Packet) (first second : Option Verdict)
    → walk one packet ≡ silently first
    → walk other packet ≡ silently second
    → walk (one ++ other) packet ≡ silently (option_or first second)
walk_both one other packet first second is is' = walk_append one other packet ∙ then_silently (walk one packet) (walk other packet) first second is is'

option_or-if : (verdict : Verdict) (one other : Bool) → option_or (if one then Some verdict else None) (if other then Some verdict else None) ≡ (if one || other then Some verdict else None)
option_or-if verdict true other = refl
option_or-if verdict false other = refl

-- two lists of which each decides this, where a condition holds
pub walk_either : (one other : List Item) (packet : Packet) (verdict : Verdict) (first second : Bool)
    → walk one packet ≡ silently (if first then Some verdict else None)
    → walk other packet ≡ silently (if second then Some verdict else None)
    → walk (one ++ other) packet ≡ silently (if first || second then Some verdict else None)
walk_either one other packet verdict first second is is' =
    walk_both one other packet _ _ is is' ∙ ap silently (option_or-if verdict first second)

one_more : (hit later : Bool) (verdict : Verdict) (walked : Walked)
    → walked ≡ silently (if later then Some verdict else None)
    → or_then (if hit then silently (Some verdict) else nothing).decided (if hit then silently (Some verdict) else nothing).logs walked ≡ silently (if hit || later then Some verdict else None)
one_more true later verdict walked is = refl
one_more false later verdict walked is = is

-- a list whose items decide this, each where its own condition holds
pub walk_same : {A : Type 0} (condition : A → Packet → Bool) (verdict : Verdict) (entries : List A) (packet : Packet)
    → walk (map (λ entry. record { hits = condition entry; effect = decide verdict }) entries) packet ≡ silently (if list_any (λ entry. condition entry packet) entries then Some verdict else None)
walk_same condition verdict [] packet = refl
walk_same condition verdict (entry ∷ entries) packet =
    one_more (condition entry packet) (list_any (λ other. condition other packet) entries) verdict _ (walk_same condition verdict entries packet)

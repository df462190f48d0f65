-- What a rich rule outside the filter does to a packet that it is about, and that it does nothing to others.
use Rattle.std.proofs.Common.{◌≡◌, ◌∙◌, ℕ, List, [], ◌∷◌, ◌++◌, Bool, true, false, ◌&&◌, Option, None, Some, refl, sym, ap, append-nil}
use Rattle.std.specs.Prelude.{if◌then◌else◌}
use Rattle.fw_addr.specs.declared.dnat.Dnat.{Dnat}
use Rattle.fw_addr.specs.declared.limit.Limit.{Limit}
use Rattle.fw_addr.specs.declared.log.LogKind.TheVariants as kind
use Rattle.fw_addr.specs.declared.log.LogLine.{LogLine}
use Rattle.fw_hits.specs.Rich.{hits_rich}
use Rattle.fw_model.specs.declared.config.Config.{Config}
use Rattle.fw_model.specs.declared.packet.Packet.{Packet}
use Rattle.fw_model.specs.declared.rich.Act.{Act}
use Rattle.fw_model.specs.declared.rich.Act.TheVariants as act
use Rattle.fw_model.specs.declared.rich.Action.{Action}
use Rattle.fw_model.specs.declared.rich.Element.{Element}
use Rattle.fw_model.specs.declared.rich.Element.TheVariants as element
use Rattle.fw_model.specs.declared.rich.Rich.{Rich}
use Rattle.fw_model.specs.declared.rich.RichLog.{RichLog}
use Rattle.fw_verdict.specs.Changes.{ChangeItem, Passing, and_on, changed, ends as is_end, going_on, new_mark, through, with_mark}
use Rattle.fw_verdict.specs.Changes.Change.{log, mark, translate}
use Rattle.fw_verdict.specs.Given.{log_given}
use Rattle.fw_verdict.specs.Led.{MarksTo, SendsTo, forward_rule_items, mark_by_act, mark_given, sent_on, standing, target_given}
use Rattle.fw_verdict.specs.Outside.{act_items, action_items, forward_items, log_items, outside_items, target_of}
use Rattle.fw_verdict.specs.Rich.{passes}
use Rattle.fw_verdict.specs.declared.outside.Place.TheVariants as place
use Rattle.fw_verdict.proofs.Through.{goes_there}
use Rattle.fw_verdict.proofs.Unseen.{same_hit, same_lines, same_pass}

-- a packet with these lines more
line_more : (packet : Packet) (dnat : Option Dnat) (logs more : List LogLine) (pass : Bool) (line : LogLine)
    → more ≡ (if pass then line ∷ [] else [])
    → and_on (if pass then record { now = changed (log line) (standing packet dnat logs); over = false } else going_on (standing packet dnat logs)) going_on
    ≡ going_on (standing packet dnat (logs ++ more))
line_more packet dnat logs more true line is = ap (λ (some : List LogLine). going_on (standing packet dnat (logs ++ some))) (sym is)
line_more packet dnat logs more false line is =
    ap (λ (some : List LogLine). going_on (standing packet dnat some)) (sym (append-nil logs))
    ∙ ap (λ (some : List LogLine). going_on (standing packet dnat (logs ++ some))) (sym is)

abbrev line_of : RichLog → LogLine
line_of rich = record { kind = kind.Rich; level = rich.level; prefix = rich.prefix }

-- the line of a rule
logged_through : (config : Config) (rule : Rich) (packet : Packet) (dnat : Option Dnat) (logs : List LogLine) (rich : Option RichLog)
    → hits_rich config rule packet ≡ true
    → through (log_items config rule rich) (standing packet dnat logs) ≡ going_on (standing packet dnat (logs ++ log_given packet rich))
logged_through config rule packet dnat logs None hit = ap (λ (some : List LogLine). going_on (standing packet dnat some)) (sym (append-nil logs))
logged_through config rule packet dnat logs (Some rich) hit =
    ap (λ (one : Bool). and_on (if one && passes rich.limit packet then record { now = changed (log (line_of rich)) (standing packet dnat logs); over = false } else going_on (standing packet dnat logs)) going_on) hit
    ∙ line_more packet dnat logs (log_given packet (Some rich)) (passes rich.limit packet) (line_of rich) refl

unlogged_through : (config : Config) (rule : Rich) (now : Passing) (rich : Option RichLog)
    → hits_rich config rule now.packet ≡ false
    → through (log_items config rule rich) now ≡ going_on now
unlogged_through config rule now None missed = refl
unlogged_through config rule now (Some rich) missed =
    ap (λ (one : Bool). and_on (if one && passes rich.limit now.packet then record { now = changed (log (line_of rich)) now; over = false } else going_on now) going_on) missed

-- A rule does nothing to a packet that it isn't about.
module _ (config : Config) (rule : Rich) (now : Passing) (missed : hits_rich config rule now.packet ≡ false) where
  without : (item : ChangeItem) (others : List ChangeItem) → through others now ≡ going_on now
      → item.hits now.packet ≡ false
      → through (item ∷ others) now ≡ going_on now
  without item others is past =
      ap (λ (one : Bool). and_on (if one then record { now = changed item.change now; over = is_end item.change } else going_on now) (through others)) past ∙ is

  no_act : (limit : Option Limit) (done_so : Act) → through (act_items config rule limit done_so) now ≡ going_on now
  no_act limit act.Accept = refl
  no_act limit (act.Reject type) = refl
  no_act limit act.Drop = refl
  no_act limit (act.Mark value mask) =
      without (record { hits = λ packet. hits_rich config rule packet && passes limit packet; change = mark value mask }) [] refl
      (ap (λ (one : Bool). one && passes limit now.packet) missed)

  no_action : (action : Option Action) → through (action_items config rule action) now ≡ going_on now
  no_action None = refl
  no_action (Some action) = no_act action.limit action.act

  no_forward : (what : Option Element) → through (forward_items config rule what) now ≡ going_on now
  no_forward None = refl
  no_forward (Some (element.Service name)) = refl
  no_forward (Some (element.Port port)) = refl
  no_forward (Some (element.Protocol protocol)) = refl
  no_forward (Some (element.IcmpBlock name)) = refl
  no_forward (Some (element.IcmpType name)) = refl
  no_forward (Some element.Masquerade) = refl
  no_forward (Some (element.SourcePort port)) = refl
  no_forward (Some (element.Forward forward)) =
      without (record { hits = hits_rich config rule; change = translate (target_of forward) }) [] refl missed

  no_line : (others : List ChangeItem) → through others now ≡ going_on now → through (log_items config rule rule.log ++ others) now ≡ going_on now
  no_line others is =
      goes_there (log_items config rule rule.log) others now (going_on now) refl (unlogged_through config rule now rule.log missed) ∙ is

-- A rule that marks.
mark_hit : (packet : Packet) (dnat : Option Dnat) (logs : List LogLine) (value mask : ℕ) (pass : Bool) (old new : ℕ)
    → new ≡ (if pass then new_mark value mask old else old)
    → and_on (if pass then record { now = changed (mark value mask) (standing (with_mark old packet) dnat logs); over = false } else going_on (standing (with_mark old packet) dnat logs)) going_on
    ≡ going_on (standing (with_mark new packet) dnat logs)
mark_hit packet dnat logs value mask true old new is = ap (λ (number : ℕ). going_on (standing (with_mark number packet) dnat logs)) (sym is)
mark_hit packet dnat logs value mask false old new is = ap (λ (number : ℕ). going_on (standing (with_mark number packet) dnat logs)) (sym is)

module _ (config : Config) (rule : Rich) (packet : Packet) (hit : hits_rich config rule packet ≡ true) where
  act_marks : (limit : Option Limit) (done_so : Act) (old : ℕ) (logs : List LogLine)
      → through (act_items config rule limit done_so) (standing (with_mark old packet) None logs) ≡ going_on (standing (with_mark (mark_by_act packet limit done_so old) packet) None logs)
  act_marks limit act.Accept old logs = refl
  act_marks limit (act.Reject type) old logs = refl
  act_marks limit act.Drop old logs = refl
  act_marks limit (act.Mark value mask) old logs =
      ap (λ (one : Bool). and_on (if one && passes limit (with_mark old packet) then record { now = changed (mark value mask) (standing (with_mark old packet) None logs); over = false } else going_on (standing (with_mark old packet) None logs)) going_on)
      (same_hit old packet config rule ∙ hit)
      ∙ ap (λ (one : Bool). and_on (if one then record { now = changed (mark value mask) (standing (with_mark old packet) None logs); over = false } else going_on (standing (with_mark old packet) None logs)) going_on)
      (same_pass old packet limit)
      ∙ mark_hit packet None logs value mask (passes limit packet) old (mark_by_act packet limit (act.Mark value mask) old) refl

  action_marks : (action : Option Action) (old : ℕ) (logs : List LogLine)
      → through (action_items config rule action) (standing (with_mark old packet) None logs) ≡ going_on (standing (with_mark (mark_given packet action old) packet) None logs)
  action_marks None old logs = refl
  action_marks (Some action) old logs = act_marks action.limit action.act old logs

  -- A rule that forwards a port.
  forwards_it : (what : Option Element) (number : ℕ) (logs : List LogLine)
      → through (forward_items config rule what) (standing (with_mark number packet) None logs) ≡ sent_on (target_given what) (standing (with_mark number packet) None logs)
  forwards_it None number logs = refl
  forwards_it (Some (element.Service name)) number logs = refl
  forwards_it (Some (element.Port port)) number logs = refl
  forwards_it (Some (element.Protocol protocol)) number logs = refl
  forwards_it (Some (element.IcmpBlock name)) number logs = refl
  forwards_it (Some (element.IcmpType name)) number logs = refl
  forwards_it (Some element.Masquerade) number logs = refl
  forwards_it (Some (element.SourcePort port)) number logs = refl
  forwards_it (Some (element.Forward forward)) number logs =
      ap (λ (one : Bool). and_on (if one then record { now = changed (translate (target_of forward)) (standing (with_mark number packet) None logs); over = true } else going_on (standing (with_mark number packet) None logs)) going_on)
      (same_hit number packet config rule ∙ hit)

pub marks_missed : (config : Config) (rule : Rich) (packet : Packet) (old : ℕ) (logs : List LogLine)
    → hits_rich config rule packet ≡ false
    → MarksTo (outside_items config place.Marks rule) packet old old logs logs
marks_missed config rule packet old logs missed = record {
  is = no_line config rule (standing (with_mark old packet) None logs) (same_hit old packet config rule ∙ missed) (action_items config rule rule.action)
      (no_action config rule (standing (with_mark old packet) None logs) (same_hit old packet config rule ∙ missed) rule.action);
}

pub marks_hit : (config : Config) (rule : Rich) (packet : Packet) (old new : ℕ) (logs more : List LogLine)
    → hits_rich config rule packet ≡ true
    → more ≡ logs ++ log_given packet rule.log
    → new ≡ mark_given packet rule.action old
    → MarksTo (outside_items config place.Marks rule) packet old new logs more
marks_hit config rule packet old new logs more hit lines is = record {
  is = goes_there (log_items config rule rule.log) (action_items config rule rule.action) (standing (with_mark old packet) None logs) _ refl
      (logged_through config rule (with_mark old packet) None logs rule.log (same_hit old packet config rule ∙ hit))
      ∙ ap (λ (some : List LogLine). through (action_items config rule rule.action) (standing (with_mark old packet) None (logs ++ some))) (same_lines old packet rule.log)
      ∙ action_marks config rule packet hit rule.action old (logs ++ log_given packet rule.log)
      ∙ ap (λ (number : ℕ). going_on (standing (with_mark number packet) None (logs ++ log_given packet rule.log))) (sym is)
      ∙ ap (λ (some : List LogLine). going_on (standing (with_mark new packet) None some)) (sym lines);
}

pub sends_missed : (config : Config) (rule : Rich) (packet : Packet) (logs : List LogLine)
    → hits_rich config rule packet ≡ false
    → SendsTo (forward_rule_items config rule) packet logs logs None
sends_missed config rule packet logs missed = record {
  is = λ number. no_line config rule (standing (with_mark number packet) None logs) (same_hit number packet config rule ∙ missed) (forward_items config rule rule.element)
      (no_forward config rule (standing (with_mark number packet) None logs) (same_hit number packet config rule ∙ missed) rule.element);
}

pub sends_hit : (config : Config) (rule : Rich) (packet : Packet) (logs more : List LogLine) (found : Option Dnat)
    → hits_rich config rule packet ≡ true
    → more ≡ logs ++ log_given packet rule.log
    → found ≡ target_given rule.element
    → SendsTo (forward_rule_items config rule) packet logs more found
sends_hit config rule packet logs more found hit lines is = record {
  is = λ number. goes_there (log_items config rule rule.log) (forward_items config rule rule.element) (standing (with_mark number packet) None logs) _ refl
      (logged_through config rule (with_mark number packet) None logs rule.log (same_hit number packet config rule ∙ hit))
      ∙ ap (λ (some : List LogLine). through (forward_items config rule rule.element) (standing (with_mark number packet) None (logs ++ some))) (same_lines number packet rule.log)
      ∙ forwards_it config rule packet hit rule.element number (logs ++ log_given packet rule.log)
      ∙ ap (λ (some : List LogLine). sent_on (target_given rule.element) (standing (with_mark number packet) None some)) (sym lines)
      ∙ ap (λ (one : Option Dnat). sent_on one (standing (with_mark number packet) None more)) (sym is);
}

-- What the code tells of a packet's whole way is the outcome, the number of rules and the verdict of the relation.
use Rattle.std.proofs.Common.{◌≡◌, ℕ, ◌+◌, List, [], Option, Some, unwrap_or, refl, sym, ap, subst, ◌∙◌}
use Rattle.fw_addr.specs.declared.log.LogLine.{LogLine}
use Rattle.fw_model.specs.declared.outcome.Outcome.{Outcome}
use Rattle.fw_model.specs.declared.outcome.Verdict.{Verdict}
use Rattle.fw_model.specs.declared.packet.Packet.{Packet}
use Rattle.nf_chains.proofs.Ways.{goes_so}
use Rattle.nf_chains.specs.Courses.{moment, started}
use Rattle.nf_chains.specs.Hooks.{Eval, Goes, HasVerdict, Visits}
use Rattle.nf_chains.specs.Runs.{Tells, evaluated, noted}
use Rattle.nf_chains.specs.declared.course.Course.{Course}
use Rattle.nf_rules.specs.declared.ruleset.Ruleset.{Ruleset}
use Rattle.nf_sound.specs.Sound.{SoundRules}

-- what the code makes of the verdict, the course and the lines
abbrev outcome : Verdict → Course → List LogLine → Outcome
outcome verdict course lines = record {
  verdict = verdict;
  mark = course.parts.mark;
  dnat = course.translation;
  masquerade = course.masquerade;
  logs = lines;
}

pub eval_told : (rules : Ruleset) (packet : Packet) (verdict : Verdict) (first last : Course) (before after : Option (List LogLine)) (start end : ℕ) (lines : List LogLine) → SoundRules rules → Tells verdict (evaluated rules packet packet.origin) first last before after start end → first ≡ started packet → before ≡ Some [] → lines ≡ unwrap_or after [] → Eval rules packet (outcome verdict last lines)
eval_told rules packet verdict first last before after start end lines sound told starts fresh kept =
    let told = subst (λ (one : Course). Tells verdict (evaluated rules packet packet.origin) one last before after start end) starts told in
    let seen = evaluated rules packet packet.origin (started packet) in
    let all : after ≡ Some seen.lines = told.kept ∙ ap (noted seen.lines) fresh in
    let same : lines ≡ seen.lines = kept ∙ ap (λ journal. unwrap_or journal []) all in
    record {
      verdict = seen.found;
      end = moment packet seen.course seen.lines seen.looked;
      goes = goes_so rules packet sound packet.origin refl;
      is = ap (λ one. outcome one last lines) told.is ∙ ap (λ one. outcome seen.found one lines) told.went ∙ ap (λ l. outcome seen.found seen.course l) same;
    }

pub visits_told : (rules : Ruleset) (packet : Packet) (verdict : Verdict) (first last : Course) (before after : Option (List LogLine)) (start end : ℕ) → SoundRules rules → Tells verdict (evaluated rules packet packet.origin) first last before after start end → first ≡ started packet → (looked : ℕ) × Visits rules packet looked × (end ≡ start + looked)
visits_told rules packet verdict first last before after start end sound told starts =
    let told = subst (λ (one : Course). Tells verdict (evaluated rules packet packet.origin) one last before after start end) starts told in
    let seen = evaluated rules packet packet.origin (started packet) in
    (seen.looked, record { verdict = seen.found; end = moment packet seen.course seen.lines seen.looked; goes = goes_so rules packet sound packet.origin refl; is = refl }, told.counted)

pub verdict_told : (rules : Ruleset) (packet : Packet) (verdict : Verdict) (first last : Course) (before after : Option (List LogLine)) (start end : ℕ) → SoundRules rules → Tells verdict (evaluated rules packet packet.origin) first last before after start end → first ≡ started packet → HasVerdict rules packet verdict
verdict_told rules packet verdict first last before after start end sound told starts =
    let told = subst (λ (one : Course). Tells verdict (evaluated rules packet packet.origin) one last before after start end) starts told in
    let seen = evaluated rules packet packet.origin (started packet) in
    let end = moment packet seen.course seen.lines seen.looked in
    (end, subst (λ (one : Verdict). Goes rules packet one end) (sym told.is) (goes_so rules packet sound packet.origin refl))

-- By what the text that is left begins with.
use Rattle.std.proofs.Common.{rules, Option, Bor, List, ℕ, Some, ap, ◌∙◌, arith}
use Rattle.std.specs.Option.{option_copied}
use Rattle.fw_words.proofs.Splitting.{split-last, split-more, split-none, split-spent}
use Rattle.fw_words.proofs.words.split_words.Goals as goal

pub returns-in_default : goal.returns-in_default
returns-in_default c _ = split-none c.args.line.now c.loop.text.now c.loop.found.items c.loop.counter c.loop.invariant.1 (omega arith) c.in_default.ensures

pub returns-in-None : goal.returns-in-None
returns-in-None c =
    split-last c.args.line.now c.loop.text.now c.loop.found.items c.push.new.self.items c.in-Some.front.word c.loop.counter c.loop.invariant.1 (omega arith)
    (c.in-Some.ensures ∙ ap (λ (rest : Option (Bor (List ℕ))). Some (c.in-Some.front.word.now, option_copied rest)) c.in-None.is)
    c.in_ok-push.ensures.items

pub loop-preserved : goal.loop-preserved
loop-preserved c = (
  search rules,
  split-more c.args.line.now c.loop.text.now c.in-Some-rest.rest.now c.loop.found.items c.push.new.self.items c.in-Some.front.word c.loop.counter c.loop.invariant.1 (omega arith)
      (c.in-Some.ensures ∙ ap (λ (rest : Option (Bor (List ℕ))). Some (c.in-Some.front.word.now, option_copied rest)) c.in-Some-rest.is)
      c.in_ok-push.ensures.items,
)

pub returns : goal.returns
returns c _ = split-spent c.args.line.now c.loop.text.now c.loop.found.items c.loop.counter c.loop.invariant.1 (omega arith)

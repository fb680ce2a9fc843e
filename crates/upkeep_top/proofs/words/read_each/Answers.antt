use Rattle.std.proofs.Common.{inl, inr, ◌+◌, take, List, sym, subst}
use Rattle.upkeep_top.specs.Words.{AskFrom}
use Rattle.upkeep_top.specs.declared.task.Task.{Task}
use Rattle.upkeep_top.proofs.WordSteps.{asked_more, bad_word}
use Rattle.upkeep_top.proofs.words.read_each.Goals as goal

pub returns-in-Err-clause-refused : goal.returns-in-Err-clause-refused
returns-in-Err-clause-refused c =
    let w = c.index-words-word.result in
    elim c.in-Err.ensures.refused [
      | inl bad ↦ inl (bad_word c.args.words.now c.loop-word.word c.loop-word-test.true w c.index-words-word.is c.loop-word.tasks c.loop-word.invariant c.in-Err.status bad)
      | inr memory ↦ inr memory
    ]

pub loop-word-preserved : goal.loop-word-preserved
loop-word-preserved c =
    let words = c.args.words.now in
    let i = c.loop-word.word in
    let more = asked_more words i c.loop-word-test.true c.index-words-word.result c.index-words-word.is c.loop-word.tasks c.loop-word.invariant c.in-Ok.task c.in-Ok.ensures.ok in
    subst (λ (ts : List Task). AskFrom 0 (take (i + 1) words) ts) (sym c.in-Ok-push.ensures.ok) more

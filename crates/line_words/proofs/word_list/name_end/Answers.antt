use Rattle.std.proofs.Common.{arith, sym, ◌∙◌}
use Rattle.line_words.proofs.NameWords.{name_end_is}
use Rattle.line_words.proofs.word_list.name_end.Goals as goal

pub returns-else-may_be_in_name-clause-value : goal.returns-else-may_be_in_name-clause-value
returns-else-may_be_in_name-clause-value c =
    name_end_is c.args.bytes.now c.args.start c.loop-place.place c.loop-place.invariant.behind c.loop-place.invariant.within c.loop-place.invariant.before
    (λ lt. sym c.may_be_in_name.ensures ∙ c.if-may_be_in_name.false)

pub returns-after-loop-place-clause-value : goal.returns-after-loop-place-clause-value
returns-after-loop-place-clause-value c =
    name_end_is c.args.bytes.now c.args.start c.loop-place.place c.loop-place.invariant.behind c.loop-place.invariant.within c.loop-place.invariant.before (λ lt. absurd (omega arith))

use Rattle.std.proofs.Common.{◌≡◌, ◌+◌, ℕ, List, length, ap, ◌∙◌}
use Rattle.line_words.proofs.NameWords.{name_end_there}
use Rattle.line_words.proofs.word_list.name_end_by.Goals as goal

pub returns-in-Some-clause-value : goal.returns-in-Some-clause-value
returns-in-Some-clause-value c =
    let there = c.if-has_name_at.ensures in
    let same : c.args.start + length c.as_str.result.now ≡ c.args.start + length c.in-Some.name.now = ap (λ (w : List ℕ). c.args.start + length w) c.as_str.ensures.text in
    same ∙ name_end_there c.args.line.now c.args.start c.in-Some.name.now c.as_str.ensures.name there.within there.name there.colon

use Rattle.std.proofs.Common.{ap, ◌∙◌}
use Rattle.line_words.specs.Words.{is_name}
use Rattle.line_words.proofs.NameWords.{name-no_space}
use Rattle.line_words.proofs.word_list.Words.next_same.Goals as goal

pub next_is-requires : goal.next_is-requires
next_is-requires c =
    let named = c.as_bytes.ensures.value ∙ c.as_str.ensures.text in
    name-no_space c.as_bytes.result.now (ap is_name named ∙ c.as_str.ensures.name)

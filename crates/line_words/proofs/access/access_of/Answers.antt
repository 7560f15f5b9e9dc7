use Rattle.std.proofs.Common.{sym, ap, ◌∙◌}
use Rattle.line_words.specs.Words.{plain, is_name}
use Rattle.line_words.specs.Access.{letters, before_colon, after_colon, is_letters}
use Rattle.line_words.proofs.AccessLemmas.{access_is}
use Rattle.line_words.proofs.access.access_of.Goals as goal

pub returns-clause-ok : goal.returns-clause-ok
returns-clause-ok c =
    let k = c.in-Some-kinds_of.kinds in
    let named = c.in-Some-kinds_of.ensures in
    let r = access_is c.args.word.now c.of-table.result c.in-Some.row (letters k)
    (c.of-table.ensures ∙ c.cut.ensures.before)
    (ap plain (ap before_colon (sym c.cut.ensures.behind) ∙ sym c.cut-2.ensures.before) ∙ sym c.plain_value.ensures ∙ c.in-Some.is)
    (sym named.0 ∙ c.cut-2.ensures.behind ∙ ap after_colon c.cut.ensures.behind)
    (ap is_letters (sym named.0) ∙ named.1) in
    (r.0, (ap is_name c.of-table.ensures ∙ sym c.has_name_form.ensures ∙ c.if-not-has_name_form.false, r.1, r.2))

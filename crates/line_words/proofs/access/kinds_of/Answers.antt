use Rattle.std.proofs.Common.{◌≡◌, false, [], ◌∷◌, sym, ◌∙◌}
use Rattle.std.specs.Prelude.{length}
use Rattle.std.proofs.lemmas.Bool.{eqb-false}
use Rattle.line_words.specs.Access.{is_in_order}
use Rattle.line_words.proofs.AccessLemmas.{none_in_order, no_letters}
use Rattle.line_words.proofs.access.kinds_of.Goals as goal

pub returns-then-not-is_empty : goal.returns-then-not-is_empty
returns-then-not-is_empty c =
    let word = c.args.word.now in
    let rest = c.strip-delete.result.1.now in
    let left : is_in_order [] rest ≡ false = none_in_order rest (eqb-false (length rest) 0 (sym c.if-not-is_empty.ensures)) in
    no_letters word (c.strip-read.ensures.order (73 ∷ 85 ∷ 68 ∷ []) ∙ c.strip-insert.ensures.order (85 ∷ 68 ∷ []) ∙ c.strip-update.ensures.order (68 ∷ []) ∙ c.strip-delete.ensures.order [] ∙ left)

use Rattle.std.proofs.Common.{ℕ, Bool, ◌∷◌, [], List, sym, subst}
use Rattle.words.specs.Legal.{legal}
use Rattle.words.specs.Views.{first_view}
use Rattle.words.proofs.words.begun.Goals as goal

pub of_words-requires : goal.of_words-requires
of_words-requires g c =
    let b = g.K.BatchData.batch c.args.key.now in
    let listed = g.K.BatchData.listed c.args.key.now in
    subst (λ (placed : Bool). legal b listed c.as_slice-2.result.now (first_view placed ∷ [])) (sym c.requires)
    (subst (λ (l : List ℕ). legal b listed l (first_view c.args.placed ∷ [])) (sym c.as_slice-2.ensures.value) c.in_ok-row.ensures.legal)

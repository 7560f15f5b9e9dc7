use Rattle.std.proofs.Common.{◌≡◌, ℕ, ◌+◌, Bool, false, ◌∷◌, [], List, replicate, ◌∙◌, sym, ap, subst, arith}
use Rattle.std.proofs.lemmas.Result.{IfOk-weaker}
use Rattle.words.specs.Layout.{total}
use Rattle.words.specs.Legal.{legal}
use Rattle.words.specs.Views.{first_view}
use Rattle.words.proofs.Cutting.{begins as begins-right, begins_placed}
use Rattle.words.proofs.Writing.{shows-written}
use Rattle.words.proofs.words.first_row.Goals as goal

pub returns-then-placed-clause-legal : goal.returns-then-placed-clause-legal
returns-then-placed-clause-legal g c =
    let b = g.K.BatchData.batch c.args.key.now in
    let listed = g.K.BatchData.listed c.args.key.now in
    IfOk-weaker c.placed_row.result _ _
    (λ row written.
    subst (λ (placed : Bool). legal b listed row.items (first_view placed ∷ [])) (sym c.if-placed.true)
    (begins_placed b listed c.requires.sound c.ends.ensures.listed row.items
    (shows-written b listed row.items c.requires.sound c.ends.ensures.listed written)))
    c.placed_row.ensures

pub returns-else-placed-clause-legal : goal.returns-else-placed-clause-legal
returns-else-placed-clause-legal g c =
    let b = g.K.BatchData.batch c.args.key.now in
    let listed = g.K.BatchData.listed c.args.key.now in
    let next = c.requires.end in
    let more = c.ends.ensures.value in
    let count : c.args.ends + c.ends.result ≡ total b listed = omega arith in
    IfOk-weaker c.all_zero.result _ _
    (λ row zeros.
    subst (λ (placed : Bool). legal b listed row.items (first_view placed ∷ [])) (sym c.if-placed.false)
    (subst (λ (l : List ℕ). legal b listed l (first_view false ∷ [])) (sym (zeros ∙ ap (λ (n : ℕ). replicate n 0) count))
    (begins-right b listed c.requires.sound c.ends.ensures.listed)))
    c.all_zero.ensures

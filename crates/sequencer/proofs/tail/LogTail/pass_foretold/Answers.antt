use Rattle.std.proofs.Common.{◌≡◌, ◌++◌, ◌∷◌, [], List, ap, sym, ◌∙◌, subst, arith, length}
use Rattle.std.proofs.lemmas.List.{append-nil, length-append, nil_from_length}
use Rattle.model_base.specs.declared.statement.Statement.{Statement}
use Rattle.sequencer.specs.Catalog.{Names}
use Rattle.sequencer.specs.Foretelling.{IsForetold}
use Rattle.sequencer.specs.Log.{Accepted}
use Rattle.sequencer.specs.Tail.{Tail}
use Rattle.sequencer.specs.Whole.{IsKept}
use Rattle.sequencer.proofs.WholeLogs.{kept_foretold}
use Rattle.sequencer.proofs.tail.LogTail.pass_foretold.Goals as goal

pub invariant_of-self : goal.invariant_of-self
invariant_of-self c =
    let past : List Statement = c.self.inside.past.items in
    let log : Accepted = record { names = c.self.inside.catalog; statements = past ++ c.self.inside.kept.items } in
    let sentence = c.requires.foretold.0 in
    let foretold : Statement = c.args.statement.now in
    let dropped : length past ≡ length log.statements = subst (λ (tail : Tail). tail.dropped ≡ length tail.log.statements) (sym c.self.view_is) c.requires.none in
    let none : c.self.inside.kept.items ≡ [] = nil_from_length c.self.inside.kept.items (omega (arith, dropped, length-append past c.self.inside.kept.items)) in
    let statements = ap (λ (ss : List Statement). ss ++ c.self.inside.kept.items) c.with-self-inside.ensures
    ∙ ap (λ (ss : List Statement). (past ++ foretold ∷ []) ++ ss) none ∙ append-nil (past ++ foretold ∷ [])
    ∙ ap (λ (ss : List Statement). ss ++ foretold ∷ []) (sym (append-nil past))
    ∙ ap (λ (ss : List Statement). (past ++ ss) ++ foretold ∷ []) (sym none) in
    subst (λ (ss : List Statement). IsKept record { names = c.take_foretold.new.self; statements = ss }) (sym statements)
    (subst (λ (ns : Names). IsKept record { names = ns; statements = log.statements ++ foretold ∷ [] }) (sym c.take_foretold.ensures)
    (kept_foretold log sentence foretold
    (subst (λ (tail : Tail). IsForetold tail.log.names sentence foretold) (sym c.self.view_is) c.requires.foretold.1.1)
    c.self.invariant c.requires.foretold.1.0))

use Rattle.std.proofs.Common.{◌++◌, ℕ, drop, ap, sym, ◌∙◌}
use Rattle.std.proofs.Math.Seq.{drop-append_seam}
use Rattle.engine.specs.Engine.{Run}
use Rattle.engine.proofs.run.Engine.kept_outcomes.Goals as goal

pub returns : goal.returns
returns c =
    let e = c.self.inside in
    c.deref.ensures.value ∙ sym (drop-append_seam e.past.items e.outcomes.items)
    ∙ ap (λ (count : ℕ). drop count (e.past.items ++ e.outcomes.items)) c.self.invariant.same
    ∙ ap (λ (run : Run). drop run.dropped run.outcomes) c.self.view_is

use Rattle.std.proofs.Common.{◌≡◌, ℕ, map, replicate, add-one, refl, ap, sym, ◌∙◌}
use Rattle.bohm_core_base.specs.Batch.{reference_words}
use Rattle.bohm_core.proofs.Vectors.{lists-more, zeros-each}
use Rattle.bohm_core.proofs.start.no_references.Goals as goal

pub loop-index-preserved : goal.loop-index-preserved
loop-index-preserved g c =
    let batch = g.S.Statements.batch c.args.statements.now in
    let index = c.loop-index.index in
    let zeros : c.in_ok-zeros.field-0.items ≡ map {B = ℕ} (λ _. 0) (reference_words batch index) =
    c.in_ok-zeros.ensures ∙ ap (λ count. replicate count 0) c.references_length.ensures ∙ sym (zeros-each (reference_words batch index)) in
    rw (add-one, c.in_ok-push.ensures.items, lists-more, c.loop-index.invariant, zeros) refl

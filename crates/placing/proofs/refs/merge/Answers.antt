use Rattle.std.proofs.Common.{◌≡◌, List, [], drop, fold, replicate, sym, ◌∙◌, ap, arith}
use Rattle.std.proofs.Math.ListN.{drop_of_length-le}
use Rattle.model_base.specs.declared.reference.Reference.{Reference}
use Rattle.model_base.specs.declared.reference.Reference.TheVariants.{Base}
use Rattle.placing.specs.Parts.{PartOf}
use Rattle.placing.specs.Refs.{first_count, first_ends, pieces, with_part}
use Rattle.placing.proofs.Merged.{merged}
use Rattle.placing.proofs.refs.merge.Goals as goal

pub returns : goal.returns
returns c = λ partitions log first places are.
    let parts = c.args.parts.items in
    let over : drop c.loop-part.part-index c.deref-part-items.result.now ≡ [] = drop_of_length-le c.deref-part-items.result.now (omega arith) in
    let references : c.loop-part.references.items ≡ fold with_part (replicate (first_count parts) Base) parts =
    sym (ap (fold with_part c.loop-part.references.items) over)
    ∙ c.loop-part.invariant.references
    ∙ ap (λ (start : List Reference). fold with_part start c.deref-part-items.result.now) (c.in_ok-references.ensures ∙ ap (λ n. replicate n Base) c.first_count.ensures ∙ ap (λ (from : List PartOf). replicate (first_count from) Base) c.deref.ensures.value)
    ∙ ap (λ (from : List PartOf). fold with_part (replicate (first_count parts) Base) from) c.deref-part-items.ensures.value in
    ap (λ ends. pieces 0 ends c.loop-part.references.items) c.first_ends-ends.ensures.ends
    ∙ ap (pieces 0 (first_ends parts)) references
    ∙ merged parts partitions log first places are

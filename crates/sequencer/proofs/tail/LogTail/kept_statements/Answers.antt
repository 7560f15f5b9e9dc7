use Rattle.std.proofs.Common.{drop, ap, sym, ◌∙◌}
use Rattle.std.proofs.Math.Seq.{drop-append_seam}
use Rattle.sequencer.specs.Tail.{Tail}
use Rattle.sequencer.proofs.tail.LogTail.kept_statements.Goals as goal

pub returns : goal.returns
returns c =
    c.deref.ensures.value ∙ sym (drop-append_seam c.self.inside.past.items c.self.inside.kept.items)
    ∙ ap (λ (tail : Tail). drop tail.dropped tail.log.statements) c.self.view_is

use Rattle.std.proofs.Common.{◌≡◌, ltb, [], ◌∷◌, ◌++◌, filter, subst, sym, ◌∙◌, ap}
use Rattle.std.proofs.lemmas.List.{append-nil}
use Rattle.chains.specs.declared.writes.Written.{Written}
use Rattle.chains.specs.Kept.{AreWrittenInOrder}
use Rattle.chains.proofs.Cutting.{all-below, below-kept, last-not-low}
use Rattle.chains.proofs.Order.{rising-start}
use Rattle.chains.proofs.writes.cut_writes.Goals as goal

pub loop-write-preserved : goal.loop-write-preserved
loop-write-preserved c =
    let write = c.in-Some._write in
    let later = c.take_write_from.new.writes.items in
    let is : c.loop-write.writes.items ≡ later ++ write ∷ [] = c.in-Some.ensures.items in
    record {
      below =
          last-not-low c.args.first later write c.in-Some.ensures.from
          ∙ ap (filter (λ (one : Written). ltb one.place c.args.first)) (sym is)
          ∙ c.loop-write.invariant.below;
      rising = λ from end rising.
          rising-start from end later (write ∷ []) (subst (AreWrittenInOrder from end) is (c.loop-write.invariant.rising from end rising));
    }

pub returns : goal.returns
returns c =
    let left = c.take_write_from.new.writes.items in
    let is : c.loop-write.writes.items ≡ left = c.in_default.ensures.items ∙ append-nil left in
    let rising : AreWrittenInOrder c.requires.0 c.requires.1 left =
    subst (AreWrittenInOrder c.requires.0 c.requires.1) is (c.loop-write.invariant.rising c.requires.0 c.requires.1 c.requires.2) in
    sym (below-kept c.args.first left (all-below c.args.first c.requires.0 c.requires.1 left rising c.in_default.ensures.rest))
    ∙ ap (filter (λ (one : Written). ltb one.place c.args.first)) (sym is)
    ∙ c.loop-write.invariant.below

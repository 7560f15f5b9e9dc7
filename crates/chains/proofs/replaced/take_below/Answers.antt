use Rattle.std.proofs.Common.{◌<◌, List, ◌∷◌, [], ◌++◌, map, subst, sym, ◌∙◌, ap, arith}
use Rattle.std.proofs.lemmas.List.{append_assoc, length-append, map-append}
use Rattle.chains.specs.declared.replaced.Replaced.{Replaced}
use Rattle.chains.specs.declared.writes.Written.{Written}
use Rattle.chains.specs.Kept.{AreWrittenBelow}
use Rattle.chains.specs.Keyed.{replacing_write}
use Rattle.chains.proofs.Sweeping.{all-append}
use Rattle.chains.proofs.replaced.take_below.Goals as goal

pub loop-one-preserved : goal.loop-one-preserved
loop-one-preserved c =
    let taken = c.loop-one.invariant.0 in
    let one = c.in-Some._one in (
      taken ++ one ∷ [],
      c.loop-one.invariant.1
          ∙ ap (λ (items : List Replaced). taken ++ items) c.in-Some.ensures.items
          ∙ sym (append_assoc taken (one ∷ []) c.take_first_below.new.older.items),
      omega (arith, c.loop-one.invariant.2, c.in-Some.ensures.len, length-append taken (one ∷ [])),
      subst (AreWrittenBelow c.args.mark) (sym (map-append replacing_write taken (one ∷ [])))
          (all-append (λ (write : Written). write.place < c.args.mark) (map replacing_write taken) (replacing_write one ∷ []) c.loop-one.invariant.3
          (c.in-Some.ensures.below, tt)),
    )

use Rattle.std.proofs.Common.{ℕ, ◌∙◌, ap, subst}
use Rattle.atomic_table.specs.Table.{Splits}
use Rattle.words.specs.Legal.{legal}
use Rattle.words.proofs.table.BatchWords.cut_placer_off.Goals as goal

pub split_seat-requires : goal.split_seat-requires
split_seat-requires g c =
    let seat = c.args.seat.now in (
      c.requires.same_table ∙ ap (λ w. w.table) c.shared.ensures.same,
      c.shared.ensures.some,
      subst (λ w. Splits {S = ℕ} (λ s. legal (g.K.BatchData.batch w.key) (g.K.BatchData.listed w.key) s.words s.views) seat.id seat.me.0 (g.M.Split.left seat.me.0) (g.M.Split.right seat.me.0)) c.shared.ensures.same
          c.requires.splits,
    )

use Rattle.std.proofs.Common.{◌∙◌, ap}
use Rattle.words.proofs.Cutting.{joins}
use Rattle.words.proofs.table.BatchWords.take_in.Goals as goal

pub join_seat-requires : goal.join_seat-requires
join_seat-requires g c =
    let seat = c.args.seat in
    let other = c.args.other in
    let key = c.shared.result.now.key in (
      c.requires.same_table.0 ∙ ap (λ w. w.table) c.shared.ensures.same,
      c.requires.same_table.1 ∙ ap (λ w. w.table) c.shared.ensures.same,
      c.requires.bare,
      c.shared.ensures.some,
      joins (g.K.BatchData.batch key) (g.K.BatchData.listed key) seat.id seat.me.0 other.id other.me.0 c.requires.alive.0 c.requires.pass.0 c.requires.alive.1 c.requires.pass.1,
    )

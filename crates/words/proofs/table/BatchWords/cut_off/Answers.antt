use Rattle.std.proofs.Common.{◌∙◌, ap}
use Rattle.words.proofs.Cutting.{splits}
use Rattle.words.proofs.table.BatchWords.cut_off.Goals as goal

pub split_seat-requires : goal.split_seat-requires
split_seat-requires g c =
    let seat = c.args.seat.now in
    let key = c.shared.result.now.key in (
      c.requires.same_table ∙ ap (λ w. w.table) c.shared.ensures.same,
      c.shared.ensures.some,
      splits (g.K.BatchData.batch key) (g.K.BatchData.listed key) seat.id seat.me.0 c.requires.alive c.requires.pass,
    )

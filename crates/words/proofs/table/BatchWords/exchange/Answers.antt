use Rattle.std.proofs.Common.{◌==◌, ◌<◌, sym, ap, ◌∙◌, subst}
use mathlib.Core.Option.{none}
use prog.Atomic.{either}
use Rattle.atomic_table.specs.Table.{Allows, step}
use Rattle.words.specs.Legal.{legal}
use Rattle.words.proofs.table.BatchWords.exchange.Goals as goal

pub compare_exchange-requires : goal.compare_exchange-requires
compare_exchange-requires g c =
    let seat = c.args.seat.now in
    let same = c.shared.ensures.same in (
      c.requires.same_table ∙ ap (λ w. w.table) same,
      subst (λ w. c.args.at < w.table.words) same c.requires.within,
      subst (λ w. Allows (λ s. legal (g.K.BatchData.batch w.key) (g.K.BatchData.listed w.key) s.words s.views) w.table.slots seat.id seat.me c.args.at (λ n. either (n == 0) 1 n) (g.M.Play.then (step w.table.slots c.args.at 0 1 none) seat.me)) same c.requires.allows,
    )

pub returns-clause-then : goal.returns-clause-then
returns-clause-then g c =
    subst (λ w. g.M.Play.then (step w.table.slots c.args.at 0 1 none) c.args.seat.now.me c.compare_exchange.result c.compare_exchange.new.seat.me) (sym c.shared.ensures.same)
    c.compare_exchange.ensures.2

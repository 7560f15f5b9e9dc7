use Rattle.std.proofs.Common.{◌≡◌, ◌<◌, ◌+◌, ap, ◌∙◌, subst, arith}
use Rattle.placing.specs.Latest.{IsLatest}
use Rattle.log_batch.specs.Supplied.{LogRange}
use Rattle.filling.specs.Keys.{Key}
use Rattle.filling.specs.declared.placer.Placer.{Placer}
use Rattle.filling.specs.Placers.{placer_front}
use Rattle.filling.proofs.Placing.{placer-more}
use Rattle.filling.proofs.placer.Placer.place_next.Goals as goal

pub returns-in-Ok-clause-same_table : goal.returns-in-Ok-clause-same_table
returns-in-Ok-clause-same_table c =
    let words = c.args.batch.now in
    let ranged = words.key.batch in
    let placer = c.args.self.now in
    let after : Placer = record { token = c.place_statement.new.token; finder = c.find.new.finder } in
    let same : c.batch-range.result.now ≡ ranged = c.batch-range.ensures ∙ ap (λ (k : Key). k.batch) c.key-key.ensures in
    let size : c.size.result ≡ ranged.size = c.size.ensures ∙ ap (λ (r : LogRange). r.size) same in
    let front : c.front-index.result ≡ placer_front placer = c.front-index.ensures in
    let low : placer_front placer < ranged.size = omega arith in
    let latest : IsLatest after.finder.latest ranged.log.statements ranged.first (ranged.first + placer_front placer) =
    subst (λ n. IsLatest after.finder.latest ranged.log.statements ranged.first (ranged.first + n)) front
    (subst (λ (r : LogRange). IsLatest after.finder.latest r.log.statements r.first (r.first + c.front-index.result)) same c.in-Ok.ensures.latest) in
    placer-more words placer after c.requires.same_table low c.find.ensures.partition c.find.ensures.partitions latest c.place_statement.ensures

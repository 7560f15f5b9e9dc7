use Rattle.std.proofs.Common.{◌≡◌, ◌≤◌, ◌+◌, ap, sym, ◌∙◌, subst, arith}
use Rattle.log_batch.specs.Laws.{word_of}
use Rattle.log_batch.specs.Supplied.{LogRange, batch_of}
use Rattle.filling.specs.Keys.{Key}
use Rattle.words.specs.Layout.{reference_at}
use Rattle.words.specs.Views.{front_in}
use Rattle.words.proofs.Lower.{reference-most}
use Rattle.filling.proofs.Placing.{stored-more}
use Rattle.filling.proofs.storing.store_reference.Goals as goal

pub word_of-word-requires : goal.word_of-word-requires
word_of-word-requires c =
    let ranged = c.args.words.now.key.batch in
    let front = front_in c.args.token.now.view in
    let same : c.batch.result.now ≡ ranged = c.batch.ensures ∙ ap (λ (k : Key). k.batch) (sym c.requires.key) in
    let first : c.first_place.result ≡ ranged.first = c.first_place.ensures.value ∙ ap (λ (r : LogRange). r.first) same in
    let mine : c.args.partition ≡ c.args.token.now.view.partition = c.if-partition.true ∙ c.partition.ensures in
    let right : word_of ranged.first c.args.reference ≡ reference_at (batch_of ranged) front c.args.number = c.requires.right mine in
    let most = reference-most (batch_of ranged) front c.args.number in
    let few : ranged.first + ranged.size ≤ 4294967295 = subst (λ (r : LogRange). r.first + r.size ≤ 4294967295) same c.first_place.ensures.small in
    let word : word_of c.first_place.result c.args.reference ≡ reference_at (batch_of ranged) front c.args.number =
    ap (λ n. word_of n c.args.reference) first ∙ right in
    let within = c.requires.within in
    rw word (omega arith)

pub returns-then-partition-clause-stored : goal.returns-then-partition-clause-stored
returns-then-partition-clause-stored c =
    stored-more (batch_of c.args.words.now.key.batch) c.args.token.now c.set_reference.new.placer c.args.number c.set_reference.ensures
    c.requires.before

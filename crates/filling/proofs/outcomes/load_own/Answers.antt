use Rattle.std.proofs.Common.{◌≡◌, length, take, sym, ◌∙◌, subst, arith}
use Rattle.std.proofs.lemmas.Grind.{same_number_lists}
use Rattle.std.proofs.lemmas.List.{get_or-take, length-take-le}
use Rattle.bohm_core_base.specs.Batch.{IsSoundBatch}
use Rattle.bohm_core_base.specs.Serial.{serial_words}
use Rattle.bohm_core_base.proofs.Kept.{serial-length}
use Rattle.words.specs.Passes.{IsPassOf, PassState}
use Rattle.words.specs.Views.{In}
use Rattle.filling.proofs.outcomes.load_own.Goals as goal

pub own-requires-clause-same_table : goal.own-requires-clause-same_table
own-requires-clause-same_table g c = subst (λ (pass : PassState). IsPassOf c.args.words.now pass) (sym c.loop-number.invariant.same) c.requires.pass.same_table

pub own-requires-clause-known : goal.own-requires-clause-known
own-requires-clause-known g c = subst (λ (pass : PassState). In c.args.index pass.view.known) (sym c.loop-number.invariant.same) c.requires.known

pub returns-clause-value : goal.returns-clause-value
returns-clause-value g c =
    let b = g.K.BatchData.batch c.args.words.now.key in
    let count = c.args.count in
    let own = c.loop-number.own in
    let invariant = c.loop-number.invariant in
    let wide = invariant.long in
    let few = c.requires.few in
    let sound = subst (λ key. IsSoundBatch (g.K.BatchData.batch key)) (sym c.requires.pass.key) c.places-places.ensures.sound in
    let long : length (take count own) ≡ count = length-take-le count own (omega arith) in
    same_number_lists (take count own) (serial_words b c.args.index) (long ∙ c.requires.count ∙ sym (serial-length b sound c.args.index))
    (λ k low. get_or-take count own k 0 (omega arith) ∙ invariant.own k (omega arith))

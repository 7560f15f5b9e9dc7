use Rattle.std.proofs.Common.{◌==◌, sym, ap, ◌∙◌, subst, arith}
use Rattle.bohm_core_base.specs.Batch.{IsSoundBatch, was_done}
use Rattle.evaluation.proofs.Referred.{word-there}
use Rattle.words.specs.declared.claims.Seen.{Seen}
use Rattle.words.specs.Passes.{gone_on}
use Rattle.words.specs.Meanings.{LookMeans}
use Rattle.words.specs.Views.{In}
use Rattle.words.specs.declared.knowledge.Knowledge.{Knowledge}
use Rattle.filling.proofs.Telling.{deed-settled}
use Rattle.filling.proofs.loads.deed_was_done.Goals as goal

pub look-seen-requires-clause-within : goal.look-seen-requires-clause-within
look-seen-requires-clause-within g c = let before = c.requires.deed.before in let within = c.requires.within in omega arith

pub own-requires-clause-within : goal.own-requires-clause-within
own-requires-clause-within g c =
    let before = c.requires.deed.before in
    let within = c.requires.within in
    let sound = subst (λ key. IsSoundBatch (g.K.BatchData.batch key)) (sym c.requires.pass.key) c.places-places.ensures.sound in
    (omega arith, word-there (g.K.BatchData.batch c.args.words.now.key) sound c.args.index)

pub own-requires-clause-known : goal.own-requires-clause-known
own-requires-clause-known g c =
    let b = g.K.BatchData.batch c.args.words.now.key in
    let view = c.args.holding.now.view in
    let done = c.look-seen.ensures.settled (deed-settled b view c.args.reader c.args.index c.requires.within c.requires.ready c.requires.deed) in
    let found = subst (λ (seen : Seen). LookMeans c.args.index view seen c.look-seen.new.pass.view) done c.look-seen.ensures.tells in
    subst (λ (v : Knowledge). In c.args.index v.known) (sym found) (c.passes_keep_what_they_know.ensures.learned view c.args.index)

pub returns-clause-same : goal.returns-clause-same
returns-clause-same g c =
    let b = g.K.BatchData.batch c.args.words.now.key in
    let view = c.args.holding.now.view in
    let done = c.look-seen.ensures.settled (deed-settled b view c.args.reader c.args.index c.requires.within c.requires.ready c.requires.deed) in
    let found = subst (λ (seen : Seen). LookMeans c.args.index view seen c.look-seen.new.pass.view) done c.look-seen.ensures.tells in
    c.own.ensures.same ∙ c.look-seen.ensures.same ∙ ap (gone_on c.args.holding.now) found

pub returns-clause-value : goal.returns-clause-value
unfolding was_done
returns-clause-value g c = ap (λ word. word == 1) c.own.ensures.value

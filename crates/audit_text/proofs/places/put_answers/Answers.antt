use Rattle.std.proofs.Common.{◌++◌, ◌∙◌, ℕ, List, ap, get_or}
use Rattle.std.proofs.lemmas.List.{get_or_default}
use Rattle.std.proofs.lemmas.List.Elements.{Contains-get_or}
use Rattle.std.proofs.lemmas.List.Sorted.{Contains-permutation}
use Rattle.audit_text.proofs.Several.{puts_next}
use Rattle.audit_text.proofs.places.put_answers.Goals as goal

pub index_of-index-requires-clause-there : goal.index_of-index-requires-clause-there
index_of-index-requires-clause-there c =
    let places : List ℕ = c.args.places.now in
    Contains-permutation places c.args.sorted.now (get_or places c.loop-place.place-index 0) c.requires.permutation
    (Contains-get_or places c.loop-place.place-index 0 c.loop-place-test.true)

pub loop-place-preserved : goal.loop-place-preserved
loop-place-preserved c =
    let places : List ℕ = c.args.places.now in
    let index = c.loop-place.place-index in
    let place : ℕ = get_or places index 0 in
    λ log names checked all.
    puts_next log names checked places c.args.sorted.now c.args.texts.now index c.index_of-index.result place c.index-texts-index.result c.args.text.now.items c.loop-place.text.items
    c.extend_from_slice.new.self.items all c.loop-place-test.true (get_or_default places index 0 place c.loop-place-test.true) c.index_of-index.ensures.within
    c.index_of-index.ensures.at c.index-texts-index.is
    (c.in_ok-extend_from_slice.ensures.items ∙ ap (λ (t : List ℕ). c.loop-place.text.items ++ t) c.deref.ensures.value)
    (c.loop-place.invariant log names checked all)

use Rattle.std.proofs.Common.{◌≡◌, ◌+◌, ◌++◌, ℕ, List, [], get_or, sym, ap, ◌∙◌}
use Rattle.std.specs.Cmp.{nat_cmp_total}
use Rattle.std.specs.Map.Iter.{deref_pair}
use Rattle.std.proofs.lemmas.List.{append-nil}
use Rattle.std.proofs.lemmas.Map.Entries.{btree_map_get_place}
use Rattle.std.proofs.lemmas.Map.Iter.{btree_map_turn, rest_all}
use Rattle.log_batch.specs.Supplied.{batch_of}
use Rattle.filling.specs.Ends.{ended_among}
use Rattle.filling.proofs.Sparse.{ended-right}
use Rattle.filling.proofs.completion.ends.Ends.by_place.Goals as goal

pub put_ended-requires : goal.put_ended-requires
put_ended-requires c =
    let turn = btree_map_turn deref_pair c.loop-slot.yielded c.into_iter-slot-iterator.result c.loop-slot.slot-iterator c.next.new.self c.next.result (c.in-Some.slot, c.in-Some.end) c.loop-slot.yielded_by c.in-Some.is c.next.ensures.steps
    nat_cmp_total c.args.self.now.places (c.into_iter-slot-iterator.ensures.into_iter_gives ∙ c.iter-slot-items.ensures.rest) c.iter-slot-items.ensures.ordered in
    c.requires.told.slots c.in-Some.slot.now c.in-Some.end.now turn.1

pub returns : goal.returns
returns c index within =
    let b = batch_of c.args.batch.now in
    let ends = c.args.self.now in
    let place = c.args.batch.now.first + index in
    let found = get_or c.loop-slot.groups index [] in
    let nothing : c.loop-slot.slot-iterator ≡ [] = rest_all deref_pair c.loop-slot.slot-iterator c.next.new.self c.next.result c.in-None.is c.next.ensures.steps in
    sym (append-nil found)
    ∙ ap (λ (rest : List (ℕ × ℕ)). found ++ ended_among b place rest) (sym nothing)
    ∙ c.loop-slot.invariant.each index within
    ∙ ended-right b index ends c.requires.told (c.requires.all index within) c.iter-slot-items.ensures.ordered
    (λ i slot end at. c.requires.told.slots slot end (btree_map_get_place nat_cmp_total ends.places i slot end c.iter-slot-items.ensures.ordered at))

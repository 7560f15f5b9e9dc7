use Rattle.std.proofs.Common.{◌≡◌, ◌∷◌}
use Rattle.explain.proofs.Showing.{chain_told}
use Rattle.explain.proofs.grant_chains.is_chain.Goals as goal

pub returns : goal.returns
returns c = λ owners deeds shows.
    let split : c.args.names.now ≡ c.in-Some.name.now ∷ c.in-Some.later.now =
    rw (c.in-Some.name-is, c.in-Some.later-is) c.in-Some.ensures.cases.0 in
    chain_told c.args.book.now owners deeds c.args.place c.args.user c.owner_of-owner.result c.args.need.now c.in-Some.name.now c.in-Some.later.now c.args.names.now
    c.records-records.result.now c.bears.result shows c.requires.covered c.owner_of-owner.ensures split c.records-records.ensures.records c.bears.ensures

use Rattle.std.proofs.Common.{arith, inl, inr}
use Rattle.std.proofs.lemmas.Bool.{cases_lt}
use Rattle.workers.proofs.Going.{in_none}
use Rattle.workers.proofs.rounds.all_places.Goals as goal

pub returns : goal.returns
returns c =
    let first = c.add_range.ensures in
    let second = c.add_range-2.ensures in
    record {
      within = λ index there. elim (second.within index there) [
        | inl later ↦ elim (first.within index later) [ inl none ↦ absurd (in_none index c.in_ok-rest.rest.items c.in_ok-rest.ensures.items none) | inr less ↦ less ]
        | inr less ↦ omega (arith, less, c.requires)
      ];
      every = λ index less. inr (elim (cases_lt index c.args.first) [
        | inl before ↦ second.adds index (omega arith) before
        | inr from ↦ second.keeps index (first.adds index from less)
      ]);
    }

use Rattle.std.proofs.Common.{rules}
use Rattle.std.proofs.lemmas.List.Sorted.{answers_always}
use Rattle.chains.specs.declared.listing.RowThere.{RowThere}
use Rattle.chains.proofs.Listed.{listed-sorted}
use Rattle.chains.proofs.listing.sort_rows.Goals as goal

pub returns-clause-sorted : goal.returns-clause-sorted
returns-clause-sorted c =
    listed-sorted c.sort_unstable_by_key.new.self.items
    (c.sort_unstable_by_key.ensures.sorted (λ (row : RowThere). row.key) (answers_always _ _ _ (λ f a r g called. search rules)))

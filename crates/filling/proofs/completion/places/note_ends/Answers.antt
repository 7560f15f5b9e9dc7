use Rattle.std.proofs.Common.{◌≤◌, ◌==◌, ℕ, List, get_or, length, sym, ap, ◌∙◌, arith, inl, inr}
use Rattle.std.specs.List.{list_any}
use Rattle.std.proofs.lemmas.Bool.{eqb-true}
use Rattle.std.proofs.lemmas.List.{get_or_default, take_all}
use Rattle.model_base.specs.Ranks.{rank}
use Rattle.bohm_core_base.specs.Batch.{batch_slots}
use Rattle.log_batch.specs.Supplied.{batch_of}
use Rattle.filling.proofs.Grouped.{there}
use Rattle.filling.proofs.Kept.{any-at, any-more}
use Rattle.filling.proofs.completion.places.note_ends.Goals as goal

pub note_end-requires-clause-ends : goal.note_end-requires-clause-ends
note_end-requires-clause-ends c slot grant at same =
    let names = c.args.names.now in
    let k = c.loop-name.name-index in
    let item = c.name-item.is ∙ get_or_default names k c.name-item.result 0 c.loop-name-test.true in
    sym (c.requires.ends slot grant at) ∙ any-at names k (rank grant) (omega arith) (same ∙ item)

pub loop-name-preserved : goal.loop-name-preserved
loop-name-preserved c =
    let ranks = c.args.names.now in
    let k = c.loop-name.name-index in
    let done = c.in_ok-note_end.ensures in
    let item = c.name-item.is ∙ get_or_default ranks k c.name-item.result 0 c.loop-name-test.true in
    record {
      told = done.told;
      kept = λ slot end is. done.kept slot end (c.loop-name.invariant.kept slot end is);
      found = λ slot grant at any. elim (any-more (λ name. name == rank grant) ranks k (omega arith) any) [
        | inl earlier ↦ done.kept slot _ (c.loop-name.invariant.found slot grant at earlier)
        | inr here ↦ done.found slot grant at (sym (item ∙ eqb-true (get_or ranks k 0) (rank grant) here))
      ];
    }

pub returns-clause-all : goal.returns-clause-all
returns-clause-all c slot within ends =
    let ranks = c.args.names.now in
    let one = there (batch_slots (batch_of c.args.batch.now)) slot within in
    let grant = one.0 in
    let all : length ranks ≤ c.loop-name.name-index = omega arith in
    c.loop-name.invariant.found slot grant one.1
    (ap (λ (list : List ℕ). list_any (λ name. name == rank grant) list) (take_all c.loop-name.name-index ranks all) ∙ c.requires.ends slot grant one.1 ∙ ends)

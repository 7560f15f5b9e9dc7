use Rattle.std.proofs.Common.{List, Option, ℕ, sym, subst}
use Rattle.std.proofs.lemmas.Option.{slice_get-get_or}
use Rattle.model_base.specs.declared.deed.Record.{Record}
use Rattle.grants_base.specs.InForce.{KeepsInForce}
use Rattle.grants_base.specs.Marks.{EndBy}
use Rattle.grants_base.proofs.Indexing.{ends_slot}
use Rattle.grants_base.proofs.indexed.end_one.Goals as goal

pub returns-clause-kept : goal.returns-clause-kept
returns-clause-kept c =
    subst (λ (es : List Record). KeepsInForce c.end.new.self es) (sym c.set_end.ensures)
    (c.end.ensures.kept c.args.records.now (slice_get-get_or c.args.records.now c.args.end.now.slot c.index-records-end.result c.requires.slot) c.requires.kept)

pub returns-clause-last : goal.returns-clause-last
returns-clause-last c =
    subst (λ (last : Option ℕ). EndBy last c.set_end.new.records) (sym c.later.ensures)
    (subst (EndBy _) (sym c.set_end.ensures) (ends_slot c.args.last_end.now c.args.records.now c.args.end.now.slot c.args.end.now.place c.requires.last))

use Rattle.std.proofs.Common.{◌≡◌, List, Some, sym, ◌∙◌, subst}
use Rattle.std.specs.Prelude.{slice_get}
use Rattle.std.proofs.lemmas.Bool.{lt-ltb}
use Rattle.model_base.specs.Laws.{IsRising}
use Rattle.model_base.specs.Records.{recorded}
use Rattle.model_base.specs.declared.deed.Record.{Record}
use Rattle.grants_base.proofs.Indexing.{ends_below}
use Rattle.grants_base.proofs.indexed.IndexedRecords.lie_below.Goals as goal

pub made_below-requires : goal.made_below-requires
made_below-requires c = subst (λ (es : List Record). IsRising (recorded es)) (sym (c.deref.ensures.value ∙ c.self.view_is)) c.requires

pub returns-then-made_below : goal.returns-then-made_below
returns-then-made_below c = λ is slot entry at.
    let made = c.made_below.ensures c.if-made_below.true slot entry (subst (λ (es : List Record). slice_get es slot ≡ Some entry) (sym (c.deref.ensures.value ∙ c.self.view_is)) at) in
    let there = subst (λ (es : List Record). slice_get es slot ≡ Some entry) (sym c.self.view_is) at in
    rw (lt-ltb entry.grant.place c.args.place made)
    (ends_below c.args.place entry.end (λ q of. c.ended_below.ensures is q (c.self.invariant.last slot q entry there of)))

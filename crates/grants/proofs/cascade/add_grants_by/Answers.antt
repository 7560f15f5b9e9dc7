use Rattle.std.proofs.Common.{◌≡◌, ◌<◌, length, sym, ◌∙◌, subst, arith, inl, inr, eq-eqb}
use Rattle.std.specs.Prelude.{◌==◌}
use Rattle.std.proofs.lemmas.Bool.{cases_lt, eqb-true, or_cases, or_right}
use Rattle.grants_base.specs.Index.{AreAsked, is_by}
use Rattle.grants_base.specs.Index.{is_one_of}
use Rattle.grants_base.specs.View.{View}
use Rattle.grants.proofs.Worklist.{slot_more}
use Rattle.grants.proofs.Asked.{by-skipped, found_within, nothing_past, or_first}
use Rattle.grants.proofs.cascade.add_grants_by.Goals as goal

pub loop-from-preserved : goal.loop-from-preserved
loop-from-preserved g c =
    let view = g.V.Records.shown c.args.view.now in
    let revocation = c.args.revocation.now in
    let asked = g.V.Records.asked c.loop-from.view in
    let are : AreAsked view asked = subst (λ (v : View). AreAsked v asked) c.loop-from.invariant.same c.in-Some.ensures.asked in
    let i = c.in-Some.i in
    let within : i < length view.slots = found_within view asked are (is_by c.args.holder.now.user c.args.holder.now.kind revocation.table) i c.in-Some.ensures.next.1 in
    let more = slot_more c.loop-from.due c.insert.new.self i c.in_ok-insert-in-Some.ensures.ok in
    record {
      same = c.in-Some.ensures.same ∙ c.loop-from.invariant.same;
      slots = c.slots-end.ensures;
      start = omega (arith, c.loop-from.invariant.start, c.in-Some.ensures.next.0);
      found = λ j grant from less is by kind.
          elim (cases_lt j i) [
            | inl earlier ↦ elim (cases_lt j c.loop-from.from) [
              | inl before ↦ more j ∙ or_right (i == j) (is_one_of c.loop-from.due j) (c.loop-from.invariant.found j grant from before is by kind)
              | inr after ↦ absurd (by-skipped view asked are revocation c.args.holder.now.user c.args.holder.now.kind j grant (c.in-Some.ensures.next.2 j after earlier) is by kind)
            ]
            | inr later ↦ let here : i ≡ j = omega arith in more j ∙ or_first (i == j) (is_one_of c.loop-from.due j) (eq-eqb i j here)
          ];
      kept = λ j is. more j ∙ or_right (i == j) (is_one_of c.loop-from.due j) (c.loop-from.invariant.kept j is);
      within = λ j is.
          elim (or_cases (i == j) (is_one_of c.loop-from.due j) (sym (more j) ∙ is)) [
            | inl now ↦ let here : i ≡ j = eqb-true i j now in inr (omega (arith, c.loop-from.invariant.start, c.in-Some.ensures.next.0), omega arith)
            | inr before ↦ c.loop-from.invariant.within j before
          ];
    }

pub returns-in_default-clause-found : goal.returns-in_default-clause-found
returns-in_default-clause-found g c = λ j grant from low is by kind.
    let view = g.V.Records.shown c.args.view.now in
    let asked = g.V.Records.asked c.loop-from.view in
    let are : AreAsked view asked = subst (λ (v : View). AreAsked v asked) c.loop-from.invariant.same c.in-Some.ensures.asked in
    elim (cases_lt j c.loop-from.from) [
      | inl before ↦ c.loop-from.invariant.found j grant from before is by kind
      | inr after ↦ absurd (by-skipped view asked are c.args.revocation.now c.args.holder.now.user c.args.holder.now.kind j grant (c.in-Some.ensures.next.2 j after (omega (arith, low, c.if-i-last.false))) is by kind)
    ]

pub returns-in_default-2-clause-found : goal.returns-in_default-2-clause-found
returns-in_default-2-clause-found g c = λ j grant from low is by kind.
    let view = g.V.Records.shown c.args.view.now in
    let asked = g.V.Records.asked c.loop-from.view in
    let are : AreAsked view asked = subst (λ (v : View). AreAsked v asked) c.loop-from.invariant.same c.in_default.ensures.asked in
    elim (cases_lt j c.loop-from.from) [
      | inl before ↦ c.loop-from.invariant.found j grant from before is by kind
      | inr after ↦ absurd (by-skipped view asked are c.args.revocation.now c.args.holder.now.user c.args.holder.now.kind j grant (c.in_default.ensures.next j after) is by kind)
    ]

pub returns-clause-found : goal.returns-clause-found
returns-clause-found g c = λ j grant from low is by kind.
    let view = g.V.Records.shown c.args.view.now in
    elim (cases_lt j (length view.slots)) [
      | inl within ↦ c.loop-from.invariant.found j grant from (omega (arith, c.loop-from-test.false, c.slots-end.ensures)) is by kind
      | inr over ↦ absurd (nothing_past view c.args.revocation.now j grant over is)
    ]

use Rattle.std.proofs.Common.{refl, ◌≡◌, ◌+◌, length, Some, None, false, sym, ◌∙◌, ap, subst, arith, inl, inr, eq-eqb}
use Rattle.std.specs.Prelude.{◌==◌}
use Rattle.std.specs.Option.{option_map_or}
use Rattle.std.proofs.lemmas.Bool.{true≢false, cases_lt, eqb-true, or_cases, or_right}
use Rattle.model_base.specs.Privileges.{names}
use Rattle.grants.specs.Pass.{concerned}
use Rattle.grants.specs.Work.{IsNextNamed}
use Rattle.grants_base.specs.Index.{is_one_of}
use Rattle.grants_base.specs.View.{View, slot_at}
use Rattle.grants.proofs.Worklist.{slot_more}
use Rattle.grants.proofs.Asked.{HaveNamed, named_step, nothing_past, or_first}
use Rattle.grants.proofs.cascade.add_each_named.Goals as goal
use Rattle.grants.proofs.cascade.add_each_named.Goals.{then-is_named+in_ok-insert-in-Some, else-is_named}

pub loop-from-preserved : goal.loop-from-preserved
loop-from-preserved g c =
    let view = g.V.Records.shown c.args.view.now in
    let revocation = c.args.revocation.now in
    let grantee = c.args.grantee.now in
    let kind = c.args.kind in
    let i = c.in-Some.i in
    let found : IsNextNamed revocation grantee kind view c.loop-from.from (Some i) =
    subst (λ (v : View). IsNextNamed revocation grantee kind v c.loop-from.from (Some i)) c.loop-from.invariant.same c.in-Some.ensures.next in
    let same = c.in-Some.ensures.same ∙ c.loop-from.invariant.same in
    let told : c.is_named.result ≡ option_map_or (names revocation) (concerned (slot_at view i) revocation) false =
    c.is_named.ensures.value ∙ ap (λ (v : View). option_map_or (names revocation) (concerned (slot_at v i) revocation) false) same in
    let so_far : HaveNamed view revocation grantee kind c.args.due.now c.loop-from.due c.loop-from.from =
    record { found = c.loop-from.invariant.found; kept = c.loop-from.invariant.kept; within = c.loop-from.invariant.within } in
    let step : HaveNamed view revocation grantee kind c.args.due.now c.if-is_named.due (i + 1) =
    elim c.if-is_named.branch [
      | then-is_named+in_ok-insert-in-Some w ↦
          let more = slot_more c.loop-from.due w.insert.new.self i w.in_ok-insert-in-Some.ensures.ok in
          rw (w.due-is)
          (named_step view revocation grantee kind c.args.due.now c.loop-from.due w.insert.new.self c.loop-from.from i found.there.1 found.passed so_far
          (λ j is. more j ∙ or_right (i == j) (is_one_of c.loop-from.due j) is)
          (λ _. more i ∙ or_first (i == i) (is_one_of c.loop-from.due i) (eq-eqb i i refl))
          (λ j is. elim (or_cases (i == j) (is_one_of c.loop-from.due j) (sym (more j) ∙ is)) [ inl now ↦ inr (eqb-true i j now) | inr before ↦ inl before ]))
      | else-is_named w ↦
          rw (w.due-is)
          (named_step view revocation grantee kind c.args.due.now c.loop-from.due c.loop-from.due c.loop-from.from i found.there.1 found.passed so_far
          (λ j is. is) (λ named. absurd (true≢false (sym named ∙ sym told ∙ w.if-is_named.false))) (λ j is. inl is))
    ] in
    record {
      same = c.is_named.ensures.same ∙ same;
      slots = c.slots-end.ensures;
      found = step.found;
      kept = step.kept;
      within = step.within;
    }

pub returns-in-None-clause-found : goal.returns-in-None-clause-found
returns-in-None-clause-found g c = λ j grant is to same named.
    let view = g.V.Records.shown c.args.view.now in
    let revocation = c.args.revocation.now in
    let grantee = c.args.grantee.now in
    let kind = c.args.kind in
    let none : IsNextNamed revocation grantee kind view c.loop-from.from None =
    subst (λ (v : View). IsNextNamed revocation grantee kind v c.loop-from.from None) c.loop-from.invariant.same c.in-None.ensures.next in
    elim (cases_lt j c.loop-from.from) [
      | inl before ↦ c.loop-from.invariant.found j grant before is to same named
      | inr after ↦ absurd (none.passed j grant after tt is to same named)
    ]

pub returns-clause-found : goal.returns-clause-found
returns-clause-found g c = λ j grant is to same named.
    let view = g.V.Records.shown c.args.view.now in
    elim (cases_lt j (length view.slots)) [
      | inl within ↦ c.loop-from.invariant.found j grant (omega (arith, c.loop-from-test.false, c.slots-end.ensures)) is to same named
      | inr over ↦ absurd (nothing_past view c.args.revocation.now j grant over is)
    ]

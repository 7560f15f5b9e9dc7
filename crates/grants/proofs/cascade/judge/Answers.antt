use Rattle.std.proofs.Common.{◌≡◌, ◌<◌, ◌≤◌, ◌++◌, ◌∷◌, [], Some, length, true, false, refl, sym, ◌∙◌, ap, subst, arith, inl, ℕ}
use Rattle.std.specs.Prelude.{◌⊎◌}
use Rattle.model_base.specs.declared.deed.Kind.{Kind}
use Rattle.grants.specs.Pass.{concerned, outlasts}
use Rattle.grants_base.specs.Index.{is_one_of}
use Rattle.grants.specs.Work.{AllPassed, AreDue, AreEnds, Ends, IsStillBorne, slots_of, staying}
use Rattle.grants_base.specs.View.{View, slot_at}
use Rattle.grants.proofs.Asking.{passed_ended}
use Rattle.grants.proofs.EndedLaws.{are_more, end_more}
use Rattle.grants.proofs.Worklist.{due_more, ends_from, over_none, over_staying, unended_at, whole_ending}
use Rattle.grants_base.proofs.Walks.{nothing}
use Rattle.grants.proofs.cascade.judge.Goals as goal

pub returns-in_default-clause-whole : goal.returns-in_default-clause-whole
returns-in_default-clause-whole g c =
    let view = g.V.Records.shown c.args.view.now in
    rw (c.requires.next)
    (ap (λ rest. c.args.work.now.ended.ranks ++ rest)
    (over_none c.args.revocation.now view c.args.owner (slots_of c.args.work.now.ended.ends) c.args.slot c.requires.within
    (nothing (concerned (slot_at view c.args.slot) c.args.revocation.now) (λ grant is. c.in_default.not-Some grant (c.concerned.ensures.value ∙ is)))))

pub returns-then-stays-clause-whole : goal.returns-then-stays-clause-whole
returns-then-stays-clause-whole g c =
    let view = g.V.Records.shown c.args.view.now in
    let ended = slots_of c.args.work.now.ended.ends in
    let found : concerned (slot_at view c.args.slot) c.args.revocation.now ≡ Some c.in-Some.grant = sym c.in-Some.ensures.value in
    let told : outlasts c.args.owner (staying c.args.revocation.now view ended c.args.slot) c.args.revocation.now c.in-Some.grant ≡ true =
    ap (λ (v : View). outlasts c.args.owner (staying c.args.revocation.now v ended c.args.slot) c.args.revocation.now c.in-Some.grant) (sym c.in-Some.ensures.same) ∙ sym c.stays.ensures.value ∙ c.if-stays.true in
    rw (c.requires.next)
    (ap (λ rest. c.args.work.now.ended.ranks ++ rest)
    (over_staying c.args.revocation.now view c.args.owner ended c.args.slot c.in-Some.grant c.requires.within found (unended_at ended c.args.slot c.requires.behind) told))

pub returns-in_ok-lose-clause-due : goal.returns-in_ok-lose-clause-due
returns-in_ok-lose-clause-due g c =
    let view = g.V.Records.shown c.args.view.now in
    let seen = g.V.Records.shown c.stays.new.view in
    let same : seen ≡ view = c.if-stays.ensures.same ∙ c.in-Some.ensures.same in
    let found : concerned (slot_at view c.args.slot) c.args.revocation.now ≡ Some c.in-Some.grant = sym c.in-Some.ensures.value in
    subst (λ (done : Ends). AreDue c.args.revocation.now view c.lose.new.work.due (slots_of done.ends) c.args.next) (sym c.lose.ensures.ended)
    (due_more c.args.revocation.now view c.args.slot c.args.work.now.due c.lose.new.work.due (slots_of c.args.work.now.ended.ends) (slots_of c.push.new.self.ends) c.in-Some.grant c.args.next
    (omega (arith, c.requires.next)) c.requires.due found
    (end_more c.args.work.now.ended.ends c.push.new.self.ends (record { slot = c.args.slot; place = c.args.revocation.now.place }) c.in_ok-push.ensures.ends)
    c.in_ok-lose.ensures.kept
    (λ j is. subst (λ (v : View). (is_one_of c.args.work.now.due j ≡ true) ⊎ ((c.args.next ≤ j) × (j < length v.slots))) same (c.in_ok-lose.ensures.within j is))
    (λ j other heir kind from here.
    let who = by other.grantor (sym c.in-Some-option_holder.is ∙ c.option_holder.ensures ∙ heir) in
    subst (λ (v : View). (is_one_of c.lose.new.work.due j ≡ true) ⊎ IsStillBorne c.args.revocation.now v (slots_of c.push.new.self.ends) other.grantor other.kind j) same
    (subst (λ (of : Kind). (is_one_of c.lose.new.work.due j ≡ true) ⊎ IsStillBorne c.args.revocation.now seen (slots_of c.push.new.self.ends) other.grantor of j) kind
    (subst (λ user. (is_one_of c.lose.new.work.due j ≡ true) ⊎ IsStillBorne c.args.revocation.now seen (slots_of c.push.new.self.ends) user c.in-Some.grant.kind j) (sym who)
    (c.in_ok-lose.ensures.found j other from (ap (λ (v : View). concerned (slot_at v j) c.args.revocation.now) same ∙ here) who (sym kind))))))
  where
    by : (grantor : ℕ) → Some c.in-Some-option_holder.user ≡ Some grantor → grantor ≡ c.in-Some-option_holder.user
    by grantor same = cc

pub returns-in_ok-lose-clause-whole : goal.returns-in_ok-lose-clause-whole
returns-in_ok-lose-clause-whole g c =
    let view = g.V.Records.shown c.args.view.now in
    let ended = slots_of c.args.work.now.ended.ends in
    let found : concerned (slot_at view c.args.slot) c.args.revocation.now ≡ Some c.in-Some.grant = sym c.in-Some.ensures.value in
    let told : outlasts c.args.owner (staying c.args.revocation.now view ended c.args.slot) c.args.revocation.now c.in-Some.grant ≡ false =
    ap (λ (v : View). outlasts c.args.owner (staying c.args.revocation.now v ended c.args.slot) c.args.revocation.now c.in-Some.grant) (sym c.in-Some.ensures.same) ∙ sym c.stays.ensures.value ∙ c.if-stays.false in
    subst (λ (done : Ends). done.ranks ++ ends_from c.args.revocation.now view c.args.owner (slots_of done.ends) c.args.next
    ≡ c.args.work.now.ended.ranks ++ ends_from c.args.revocation.now view c.args.owner ended c.args.slot) (sym c.lose.ensures.ended)
    (whole_ending c.args.revocation.now view c.args.owner c.args.work.now.ended.ranks c.push.new.self.ranks ended (slots_of c.push.new.self.ends) c.args.slot c.args.next c.in-Some.grant
    c.requires.next c.requires.within (c.in_ok-push.ensures.ranks ∙ ap (λ ranked. c.args.work.now.ended.ranks ++ ranked ∷ []) c.name.ensures) found (end_more c.args.work.now.ended.ends c.push.new.self.ends (record { slot = c.args.slot; place = c.args.revocation.now.place }) c.in_ok-push.ensures.ends) told)

pub returns-in_default-option_holder-clause-due : goal.returns-in_default-option_holder-clause-due
returns-in_default-option_holder-clause-due g c =
    let view = g.V.Records.shown c.args.view.now in
    let found : concerned (slot_at view c.args.slot) c.args.revocation.now ≡ Some c.in-Some.grant = sym c.in-Some.ensures.value in
    due_more c.args.revocation.now view c.args.slot c.args.work.now.due c.args.work.now.due (slots_of c.args.work.now.ended.ends) (slots_of c.push.new.self.ends) c.in-Some.grant c.args.next
    (omega (arith, c.requires.next)) c.requires.due found
    (end_more c.args.work.now.ended.ends c.push.new.self.ends (record { slot = c.args.slot; place = c.args.revocation.now.place }) c.in_ok-push.ensures.ends)
    (λ j is. is) (λ j is. inl is) (λ j other heir kind from here. absurd (c.in_default-option_holder.not-Some other.grantor (c.option_holder.ensures ∙ heir)))

pub returns-in_default-option_holder-clause-whole : goal.returns-in_default-option_holder-clause-whole
returns-in_default-option_holder-clause-whole g c =
    let view = g.V.Records.shown c.args.view.now in
    let ended = slots_of c.args.work.now.ended.ends in
    let found : concerned (slot_at view c.args.slot) c.args.revocation.now ≡ Some c.in-Some.grant = sym c.in-Some.ensures.value in
    let told : outlasts c.args.owner (staying c.args.revocation.now view ended c.args.slot) c.args.revocation.now c.in-Some.grant ≡ false =
    ap (λ (v : View). outlasts c.args.owner (staying c.args.revocation.now v ended c.args.slot) c.args.revocation.now c.in-Some.grant) (sym c.in-Some.ensures.same) ∙ sym c.stays.ensures.value ∙ c.if-stays.false in
    whole_ending c.args.revocation.now view c.args.owner c.args.work.now.ended.ranks c.push.new.self.ranks ended (slots_of c.push.new.self.ends) c.args.slot c.args.next c.in-Some.grant
    c.requires.next c.requires.within (c.in_ok-push.ensures.ranks ∙ ap (λ ranked. c.args.work.now.ended.ranks ++ ranked ∷ []) c.name.ensures) found (end_more c.args.work.now.ended.ends c.push.new.self.ends (record { slot = c.args.slot; place = c.args.revocation.now.place }) c.in_ok-push.ensures.ends) told

pub stays-requires-clause-passed : goal.stays-requires-clause-passed
stays-requires-clause-passed g c =
    subst (λ (v : View). AllPassed c.args.revocation.now v (slots_of c.args.work.now.ended.ends) c.args.work.now.lost) (sym c.in-Some.ensures.same) c.requires.passed

pub returns-then-stays-clause-passed : goal.returns-then-stays-clause-passed
returns-then-stays-clause-passed g c =
    c.requires.passed

pub returns-in_default-option_holder-clause-passed : goal.returns-in_default-option_holder-clause-passed
returns-in_default-option_holder-clause-passed g c =
    let view = g.V.Records.shown c.args.view.now in
    let before = c.requires.passed in
    passed_ended c.args.revocation.now view (slots_of c.args.work.now.ended.ends) (slots_of c.push.new.self.ends) c.args.slot c.args.work.now.lost
    (end_more c.args.work.now.ended.ends c.push.new.self.ends (record { slot = c.args.slot; place = c.args.revocation.now.place }) c.in_ok-push.ensures.ends) before

pub returns-in_ok-lose-clause-ends : goal.returns-in_ok-lose-clause-ends
returns-in_ok-lose-clause-ends g c =
    subst (λ (done : Ends). AreEnds c.args.revocation.now (g.V.Records.shown c.args.view.now) done.ends done.ranks) (sym c.lose.ensures.ended)
    (are_more c.args.revocation.now (g.V.Records.shown c.args.view.now) c.args.work.now.ended.ends c.push.new.self.ends c.args.work.now.ended.ranks c.push.new.self.ranks
    (record { slot = c.args.slot; place = c.args.revocation.now.place }) c.name.result c.in_ok-push.ensures.ends c.in_ok-push.ensures.ranks c.requires.ends
    (record { grant = c.in-Some.grant; found = sym c.in-Some.ensures.value; named = sym c.name.ensures; place = refl }))

pub returns-in_default-option_holder-clause-ends : goal.returns-in_default-option_holder-clause-ends
returns-in_default-option_holder-clause-ends g c =
    are_more c.args.revocation.now (g.V.Records.shown c.args.view.now) c.args.work.now.ended.ends c.push.new.self.ends c.args.work.now.ended.ranks c.push.new.self.ranks
    (record { slot = c.args.slot; place = c.args.revocation.now.place }) c.name.result c.in_ok-push.ensures.ends c.in_ok-push.ensures.ranks c.requires.ends
    (record { grant = c.in-Some.grant; found = sym c.in-Some.ensures.value; named = sym c.name.ensures; place = refl })

pub lose-requires : goal.lose-requires
lose-requires g c =
    let seen = g.V.Records.shown c.stays.new.view in
    let before = subst (λ (v : View). AllPassed c.args.revocation.now v (slots_of c.args.work.now.ended.ends) c.args.work.now.lost) (sym (c.if-stays.ensures.same ∙ c.in-Some.ensures.same)) c.requires.passed in
    passed_ended c.args.revocation.now seen (slots_of c.args.work.now.ended.ends) (slots_of c.push.new.self.ends) c.args.slot c.args.work.now.lost
    (end_more c.args.work.now.ended.ends c.push.new.self.ends (record { slot = c.args.slot; place = c.args.revocation.now.place }) c.in_ok-push.ensures.ends) before

pub returns-in_ok-lose-clause-passed : goal.returns-in_ok-lose-clause-passed
returns-in_ok-lose-clause-passed g c =
    subst (λ (done : Ends). AllPassed c.args.revocation.now (g.V.Records.shown c.args.view.now) (slots_of done.ends) c.lose.new.work.lost) (sym c.lose.ensures.ended)
    (subst (λ (v : View). AllPassed c.args.revocation.now v (slots_of c.push.new.self.ends) c.lose.new.work.lost) (c.if-stays.ensures.same ∙ c.in-Some.ensures.same) c.in_ok-lose.ensures.passed)

use Rattle.std.proofs.Common.{◌≡◌, ◌∙◌, ℕ, List, ap, arith, inl, inr, length, rules, subst, sym, take}
use Rattle.std.proofs.lemmas.Bool.{cases_lt}
use Rattle.fed_run.specs.Stands.{TextExplains}
use Rattle.bohm_c.specs.declared.TheConstants.{DONE, ROOM}
use Rattle.bohm_c.proofs.write_explanation.Goals as goal

pub returns-in-Ok-clause-told : goal.returns-in-Ok-clause-told
returns-in-Ok-clause-told c = λ is.
    let wrote = c.write_whole.ensures in
    let made = c.write_whole.new.made in
    let done : c.write_whole.result ≡ DONE = search rules in
    let whole : take made c.write_whole.new.out ≡ c.explain.new.text.items = wrote.whole done ∙ c.deref.ensures.value in (
      subst (TextExplains c.args.run.now c.args.place) (sym whole) c.in-Ok.ensures.told,
      omega (arith, wrote.made, wrote.room.0 done),
    )

pub returns-in-Ok-clause-room : goal.returns-in-Ok-clause-room
returns-in-Ok-clause-room c = λ is.
    let wrote = c.write_whole.ensures in
    let text : List ℕ = c.explain.new.text.items in
    let room : c.write_whole.result ≡ ROOM = search rules in
    let size : length text ≡ c.write_whole.new.made = ap length (sym c.deref.ensures.value) ∙ sym wrote.made in
    elim (cases_lt (length c.args.out.now) c.write_whole.new.made) [
      | inl less ↦ (less, (text, (c.in-Ok.ensures.told, size)))
      | inr more ↦ absurd (let done : c.write_whole.result ≡ DONE = wrote.room.1 (omega (arith, wrote.made, more)) in cc)
    ]

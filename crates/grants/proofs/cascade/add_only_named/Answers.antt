use Rattle.std.proofs.Common.{◌≡◌, true, false, refl, sym, ◌∙◌, ap, arith, eq-eqb}
use Rattle.std.specs.Prelude.{◌==◌}
use Rattle.std.specs.Option.{option_map_or}
use Rattle.std.proofs.lemmas.Bool.{true≢false}
use Rattle.model_base.specs.Privileges.{names}
use Rattle.grants.specs.Pass.{concerned}
use Rattle.grants_base.specs.Index.{is_one_of}
use Rattle.grants_base.specs.View.{slot_at}
use Rattle.grants.proofs.Asked.{nothing_past, or_first}
use Rattle.grants.proofs.Named.{named_only}
use Rattle.grants.proofs.Worklist.{slot_more}
use Rattle.grants.proofs.cascade.add_only_named.Goals as goal
use Rattle.grants.proofs.cascade.add_only_named.Goals.{else-slot-slots-via-then-slot-slots+else-is_named, else-slot-slots-via-else-slot-slots}

pub returns-in_ok-insert-clause-found : goal.returns-in_ok-insert-clause-found
returns-in_ok-insert-clause-found g c = λ j grant is to same named.
    let slot = c.args.slot in
    let at = named_only (g.V.Records.shown c.args.view.now) c.args.revocation.now c.args.grantee.now c.args.kind slot c.requires.only j grant is to same named in
    ap (is_one_of c.insert.new.self) at
    ∙ slot_more c.args.due.now c.insert.new.self slot c.in_ok-insert.ensures.ok slot
    ∙ or_first (slot == slot) (is_one_of c.args.due.now slot) (eq-eqb slot slot refl)

pub returns-else-slot-slots-clause-found : goal.returns-else-slot-slots-clause-found
returns-else-slot-slots-clause-found g c = λ j grant is to same named.
    let view = g.V.Records.shown c.args.view.now in
    let revocation = c.args.revocation.now in
    let slot = c.args.slot in
    let at = named_only view revocation c.args.grantee.now c.args.kind slot c.requires.only j grant is to same named in
    elim c.else-slot-slots.branch [
      | else-slot-slots-via-then-slot-slots+else-is_named w ↦
          let here : option_map_or (names revocation) (concerned (slot_at view slot) revocation) false ≡ true =
          ap (λ k. option_map_or (names revocation) (concerned (slot_at view k) revocation) false) (sym at) ∙ ap (λ found. option_map_or (names revocation) found false) is ∙ named in
          absurd (true≢false (sym here ∙ sym w.is_named.ensures.value ∙ w.if-is_named.false))
      | else-slot-slots-via-else-slot-slots w ↦ absurd (nothing_past view revocation j grant (omega (arith, at, w.if-slot-slots.false, c.slots.ensures)) is)
    ]

-- `of_parts` moves two fields, and what they own goes with them.
use Rattle.std.proofs.Common.{List, [], ◌∷◌, ◌++◌, refl}
use mathlib.Core.Bool.{true}
use seplogic.Ra.Ura.{Ura}
use mir.Val.{Val, vbool}
use base.Logic.{SProp, ent, emp, id⊢}
use base.Fml.{ftrue, fsep}
use prog.Memory.{Memory}
use prog.Routine.{Routine}
use prog.Wp.{WpFn, Tables}
use types.Logic.{Logic}
use contract.Monad.{Fun}
use contract.Running.{tables, tables_of}
use sound.WpLaws.{WpFn-mono}
use types.Part.{whole, sub, agg}
use denote.Exit.{yes}
use denote.RawPtr.{ptr_val}
use denote.Signature.{plain, Slot}
use denote.Steps.{nothing}
use denote.Triple.Spec.{triple_of}
use denote.Triple.Table.{entered}
use denote.Triple.Walked.{says, Stays, stay_dropped, walk_of, ends_at, Goes-dropped, walk_Meets}
use Rattle.core.proofs.atomic.Steps.{Ptr-Good}
use Rattle.bohm_c.proofs.Boxes.{bits, Cut, parts_out}
use Rattle.bohm_c.specs.Held.{handle_owns}
use Rattle.std.specs.Prelude.{Some}
use Rattle.bohm_c.proofs.Values.{E, Z, three, handle_in, handle_good}
use Rattle.bohm_c.specs.contracts.handle.Handle as Handle
use Rattle.bohm_c.specs.contracts.parts.Parts as Parts
use types.Kit.{‵, raw, ◌⊛◌, ◌$◌, ◌∵◌, !, qed, prop, regoal, move, drop, use1, join, split, fsplit, fjoin, suffices, done}
use types.Run.{stop, fld, no_more, and_then, of_opd, true_lit, returns, enter}
use types.ByLocal.{alloc_all, pass_all, free_all, look_at, get, get_in, sets}
use Rattle.bohm_c.specs.contracts.handle.Handle.of_parts as F
use Rattle.bohm_c.specs.contracts.handle.Handle.of_parts.Key.{name as #self}
use Rattle.bohm_c.proofs.handle.Handle.of_parts.Statement as stated
use Rattle.bohm_c.proofs.handle.Handle.of_parts.Code as code

abbrev From : Slot 0
From = plain (λ _. Parts.the_row (E.row) Z (E.al).g)

abbrev stayed : Stays (F.ended).signature.params (F.ended).kept
stayed = (stay_dropped From yes, tt)

module _ {M : Type 1} {𝓤 : Ura M} (𝓛 : Logic 𝓤) (at_mem : Memory → SProp 𝓤) (run : Routine → Fun 𝓤) (𝓣 : Tables 𝓤 𝓛.H) where
  open 𝓛 use {H}

  walk : (z : (walk_of 𝓛 F.ended stayed (F.clauses 𝓛 at_mem run)).Ghost)
      → ent 𝓤 ((walk_of 𝓛 F.ended stayed (F.clauses 𝓛 at_mem run)).pre z) (WpFn 𝓤 H 𝓣.C 𝓣.Λ code.function (z.0.4.0 ++ []) ((walk_of 𝓛 F.ended stayed (F.clauses 𝓛 at_mem run)).post z))
  walk z =
      let Post = (walk_of 𝓛 F.ended stayed (F.clauses 𝓛 at_mem run)).post z in
      let v = z.0.3.0 in
      qed 𝓛 ((‵ ftrue ⊛ ‵ (fsep ((Cut E).own_val v z.0.4.0) ftrue)) ∷ raw (emp 𝓤) ∷ []) ∵ split ! $ drop ! $ fsplit ! $
      parts_out E ! v z.0.4.0 (λ h is fits.
      let made : (Handle.the_row).Denot = record { at = v.ptr; is_open = true; alloc = v.alloc; run = Some v.value } in
      let u = three (ptr_val v.ptr) (vbool true) h in
      use1 𝓛 (‵ (handle_owns true v.alloc v.ptr (Some v.value))) (id⊢ 𝓤 _) $ handle_in ! made h $ move ! (1 ∷ 2 ∷ []) $ drop ! $ drop ! $
      regoal ! (λ (us : List Val). prop (WpFn 𝓤 H 𝓣.C 𝓣.Λ code.function (us ++ []) Post)) is refl $
      enter ! 𝓣.C 𝓣.Λ code.function _ _ $ alloc_all ! (λ ls. pass_all ! refl (bits E v.ptr h fits, tt) $
      sets ! (of_opd ! (get_in ! (fld ! refl (stop !)) (sub ! 0 refl (whole !)))) refl (Ptr-Good v.ptr) $ sets ! (of_opd ! (get_in ! (fld ! refl (stop !)) (sub ! 1 refl (whole !)))) refl fits $
      sets ! (of_opd ! (get ! refl)) refl (Ptr-Good v.ptr) $
      sets ! (agg ! (and_then ! (get ! refl) (and_then ! (true_lit !) (and_then ! (get ! refl) (no_more !))))) refl (handle_good v.ptr true h fits) $ returns ! (look_at ! 0 refl) $ free_all ! refl $
      suffices ! _ (ends_at 𝓛 F.ended stayed (F.clauses 𝓛 at_mem run) z u made (tt, tt) (tt, tt)) $ says ! refl $
      nothing ! $ nothing ! $ fjoin ! $ join ! $ nothing ! $ join ! $ done !))

pub of_parts_spec : {M : Type 1} → stated.statement M
unfolding tables_of
of_parts_spec 𝓤 𝓛 𝓜 𝓡 wired =
    let 𝓣 : Tables 𝓤 𝓛.H = tables_of 𝓤 𝓛.H 𝓜 (tables 𝓤 𝓛.H 𝓜 𝓡 𝓡.env) in
    entered 𝓤 𝓛.H (triple_of 𝓛 F.signature (F.spec 𝓛 𝓜.mem 𝓡.returns)) 𝓣.C 𝓣.Λ #self code.function (code.unfolded 𝓤 𝓛.H 𝓜 𝓡 wired)
    (walk_Meets 𝓛 F.ended stayed (Goes-dropped 𝓛 0 From yes (λ κs x f. refl), tt) (F.clauses 𝓛 𝓜.mem 𝓡.returns) (WpFn 𝓤 𝓛.H 𝓣.C 𝓣.Λ code.function) (WpFn-mono 𝓤 𝓛.H 𝓛.laws 𝓣 code.function)
    (walk 𝓛 𝓜.mem 𝓡.returns 𝓣))

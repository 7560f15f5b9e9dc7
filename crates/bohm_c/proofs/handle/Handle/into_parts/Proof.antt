-- `into_parts` moves two fields where the handle is open, and what they own goes with them.
use Rattle.std.proofs.Common.{List, [], ◌∷◌, ◌++◌, refl, sym, subst}
use mathlib.Core.Bool.{Bool}
use seplogic.Ra.Ura.{Ura}
use mir.Val.{Val, vbool}
use base.Logic.{SProp, ent, emp, id⊢}
use base.Fml.{ftrue, fsep}
use prog.Memory.{Memory}
use prog.Routine.{Routine}
use prog.Wp.{WpFn, Tables}
use types.Logic.{Logic}
use contract.Monad.{Fun}
use contract.Running.{tables, tables_of}
use sound.WpLaws.{WpFn-mono}
use types.Part.{whole, sub, agg}
use denote.Exit.{yes}
use denote.RawPtr.{ptr_val}
use denote.Signature.{type_at, plain, Slot}
use denote.Steps.{nothing}
use denote.Triple.Spec.{triple_of}
use denote.Triple.Table.{entered}
use denote.Triple.Walked.{Stays, stay_dropped, walk_of, ends_at, Goes-dropped, walk_Meets}
use Rattle.bohm_c.proofs.Boxes.{both, bits, Cut, parts_in}
use Rattle.std.specs.Prelude.{Some, None}
use Rattle.bohm_c.proofs.Values.{E, Z, three, handle_out, handle_good, truly, falsely, opened, shut}
use Rattle.bohm_c.specs.Held.{handle_owns}
use Rattle.bohm_c.specs.contracts.handle.Handle as Handle
use Rattle.bohm_c.specs.contracts.parts.Parts as Parts
use types.Kit.{Item, Sq, at_ret, prop, ‵, raw, ◌⊛◌, ◌$◌, ◌∵◌, !, qed, by, move, drop, use0, use1, rewrite, join, split, fsplit, fjoin, suffices, done}
use types.Run.{stop, fld, no_more, and_then, of_opd, lit, first, branches, skips, exec, returns, returns_within, enter}
use types.ByLocal.{alloc_all, pass_all, free_all, look_at, get, get_in, sets, env}
use types.Match.{live}
use mir.Val.{vcons, vnil}
use denote.RattleType.{RattleType}
use Rattle.std.proofs.Common.{lit<}
use Rattle.core.proofs.option.Made.{Some-of, none_of}
use Rattle.std_alloc.proofs.ResultValues.{and_tt}
use Rattle.core.proofs.mem.Facts.{says_two}
use Rattle.core.proofs.atomic.Steps.{Ptr-Good}
use Rattle.bohm_c.specs.contracts.handle.Handle.into_parts as F
use Rattle.bohm_c.specs.contracts.handle.Handle.into_parts.Key.{name as #self}
use Rattle.bohm_c.proofs.handle.Handle.into_parts.Statement as stated
use Rattle.bohm_c.proofs.handle.Handle.into_parts.Code as code

abbrev From : Slot 0
From = plain (λ _. Handle.the_row)

abbrev Pr : RattleType
Pr = Parts.the_row (E.row) Z (E.al).g

abbrev stayed : Stays (F.ended).signature.params (F.ended).kept
stayed = (stay_dropped From yes, tt)

module _ {M : Type 1} {𝓤 : Ura M} (𝓛 : Logic 𝓤) (at_mem : Memory → SProp 𝓤) (run : Routine → Fun 𝓤) (𝓣 : Tables 𝓤 𝓛.H) where
  open 𝓛 use {H}

  walk : (z : (walk_of 𝓛 F.ended stayed (F.clauses 𝓛 at_mem run)).Ghost)
      → ent 𝓤 ((walk_of 𝓛 F.ended stayed (F.clauses 𝓛 at_mem run)).pre z) (WpFn 𝓤 H 𝓣.C 𝓣.Λ code.function (z.0.4.0 ++ []) ((walk_of 𝓛 F.ended stayed (F.clauses 𝓛 at_mem run)).post z))
  walk z =
      let Post = (walk_of 𝓛 F.ended stayed (F.clauses 𝓛 at_mem run)).post z in
      let d = z.0.3.0 in let a = d.alloc in
      qed 𝓛 ((‵ ftrue ⊛ ‵ (fsep ((Handle.the_row).own_val d z.0.4.0) ftrue)) ∷ raw (emp 𝓤) ∷ []) ∵ split ! $ drop ! $ fsplit ! $
      handle_out ! d z.0.4.0 (λ h ws fits. move ! (2 ∷ 3 ∷ []) $ drop ! $ drop ! $
      let u = three (ptr_val d.at) (vbool d.is_open) h in
      let Γ : List (Item 𝓤) = ‵ (handle_owns d.is_open a d.at d.run) ∷ ‵ (Z.own_val a (h ∷ [])) ∷ [] in
      by ! (subst (λ (us : List Val). ent 𝓤 (types.Kit.⋆ 𝓛 Γ) (WpFn 𝓤 H 𝓣.C 𝓣.Λ code.function (us ++ []) Post)) (sym ws)
      (qed 𝓛 Γ ∵ enter ! 𝓣.C 𝓣.Λ code.function (u ∷ []) _ $ alloc_all ! (λ ls. pass_all ! refl (handle_good d.at d.is_open h fits, tt) $
      sets ! (of_opd ! (get_in ! (fld ! refl (stop !)) (sub ! 0 refl (whole !)))) refl (Ptr-Good d.at) $ sets ! (of_opd ! (get_in ! (fld ! refl (stop !)) (sub ! 1 refl (whole !)))) refl (tt, tt) $
      sets ! (of_opd ! (get_in ! (fld ! refl (stop !)) (sub ! 2 refl (whole !)))) refl fits $
      sets ! (of_opd ! (get ! refl)) refl (tt, tt) $ first ! $ branches ! (get ! refl)
      (λ yes. rewrite ! 0 (λ (t : Bool). ‵ (handle_owns t a d.at d.run)) (truly d.is_open yes) refl $ opened ! a d.at d.run (λ x er.
      let made : (Cut E).Denot = record { ptr = d.at; alloc = a; value = x } in
      let pair : Val = both (ptr_val d.at) h in let fit = bits E d.at h fits in
      let put : Val = live 1 (vcons pair vnil) in
      let Out = type_at (F.signature).result tt in
      parts_in E ! made h $ use1 𝓛 (‵ (Pr.own_val made (pair ∷ []))) (id⊢ 𝓤 _) $ use1 𝓛 (‵ (Out.own_val (Some made) (put ∷ []))) (Some-of 𝓛 Pr made pair) $
      sets ! (of_opd ! (get ! refl)) refl (Ptr-Good d.at) $
      sets ! (agg ! (and_then ! (get ! refl) (and_then ! (get ! refl) (no_more !)))) refl fit $
      sets ! (agg ! (and_then ! (lit ! tt) (and_then ! (get ! refl) (no_more !)))) refl (and_tt _ fit.0, (record { fits = lit< tt }, (fit.1, tt))) $
      returns_within ! Post refl (look_at ! 0 refl) $ free_all ! refl $
      suffices ! _ (ends_at 𝓛 F.ended stayed (F.clauses 𝓛 at_mem run) z put (Some made) (tt, tt) (tt, tt)) $ says_two ! (er, tt) $
      nothing ! $ nothing ! $ fjoin ! $ join ! $ nothing ! $ join ! $ done !))
      (λ no. rewrite ! 0 (λ (t : Bool). ‵ (handle_owns t a d.at d.run)) (falsely d.is_open no) refl $ shut ! a d.at d.run (λ er.
      let Out = type_at (F.signature).result tt in
      drop ! $ use0 𝓛 (‵ (Out.own_val None (live 0 vnil ∷ []))) (none_of 𝓛 Pr) $
      skips ! $ exec ! 𝓣.C 𝓣.Λ (env (code.function).locals ls) code.Mir.t-6 (at_ret _ Post) $
      sets ! (agg ! (and_then ! (lit ! tt) (no_more !))) refl (tt, (record { fits = lit< tt }, tt)) $
      returns ! (look_at ! 0 refl) $ free_all ! refl $
      suffices ! _ (ends_at 𝓛 F.ended stayed (F.clauses 𝓛 at_mem run) z (live 0 vnil) None (tt, tt) (tt, tt)) $ says_two ! (tt, er) $
      nothing ! $ nothing ! $ fjoin ! $ join ! $ nothing ! $ join ! $ done !))))))

pub into_parts_spec : {M : Type 1} → stated.statement M
unfolding tables_of
into_parts_spec 𝓤 𝓛 𝓜 𝓡 wired =
    let 𝓣 : Tables 𝓤 𝓛.H = tables_of 𝓤 𝓛.H 𝓜 (tables 𝓤 𝓛.H 𝓜 𝓡 𝓡.env) in
    entered 𝓤 𝓛.H (triple_of 𝓛 F.signature (F.spec 𝓛 𝓜.mem 𝓡.returns)) 𝓣.C 𝓣.Λ #self code.function (code.unfolded 𝓤 𝓛.H 𝓜 𝓡 wired)
    (walk_Meets 𝓛 F.ended stayed (Goes-dropped 𝓛 0 From yes (λ κs x f. refl), tt) (F.clauses 𝓛 𝓜.mem 𝓡.returns) (WpFn 𝓤 𝓛.H 𝓣.C 𝓣.Λ code.function) (WpFn-mono 𝓤 𝓛.H 𝓛.laws 𝓣 code.function)
    (walk 𝓛 𝓜.mem 𝓡.returns 𝓣))

-- `with` makes a value of no bytes, whose list is the one that it is given with the item after it.
use Rattle.std.proofs.Common.{[], ◌∷◌, ◌++◌, refl}
use seplogic.Ra.Ura.{Ura}
use mir.Syntax.{Fn, a_type}
use mir.Val.{Val, vptr, vstruct, vcons, vnil}
use mir.MapTy.{inst_fn}
use mathlib.Core.List.{List}
use base.Logic.{SProp, ent}
use base.Fml.{Fml}
use prog.Memory.{Memory}
use prog.Routine.{Routine}
use prog.Wp.{Calls, Loops, WpFn, Tables}
use types.Logic.{Logic}
use contract.Monad.{Fun}
use contract.Running.{tables, tables_of}
use sound.WpLaws.{WpFn-mono}
use types.Kit.{‵, raw, ◌⊛◌, prop, ◌$◌, ◌∵◌, !, qed, move, keep, drop, split, fsplit, fjoin, join, feq_l, regoal, use0, suffices, done}
use types.Run.{no_more, and_then, returns, enter}
use types.Part.{agg}
use types.ByLocal.{alloc_all, pass_all, free_all, look_at, get, sets}
use denote.Exit.{yes}
use denote.RattleType.{RattleType, owns}
use denote.Builtin.{RefOf}
use denote.Param.{param, layouts}
use denote.Shadow.{makes_shadow}
use denote.Signature.{plain, types_at, type_at}
use denote.Steps.{nothing}
use denote.Triple.Clauses.{Clauses, Ended, closing}
use denote.Triple.Entry.{alive}
use denote.Triple.Spec.{Meets, triple_of}
use denote.Triple.Table.{entered}
use denote.Triple.Walked.{says, Stays, stay_dropped, walk_of, ends_at, Goes-dropped, walk_Meets}
use Rattle.sequencer.specs.contracts.past.Past as made
use Rattle.sequencer.specs.contracts.past.Past.with as f
use Rattle.sequencer.specs.contracts.past.Past.with.Key.{name as key}
use Rattle.sequencer.proofs.past.Past.with.Statement as stated
use Rattle.sequencer.proofs.past.Past.with.Code as code

module _ (T : RattleType) where
  abbrev function : Fn
  function = inst_fn (layouts (a_type ∷ []) (T, tt)) code.function

  abbrev ended : Ended
  ended = f.ended T

  abbrev past_ref : RattleType
  past_ref = made.the_row (param 0 T)

  abbrev stayed : Stays ended.signature.params ended.kept
  stayed = (stay_dropped (RefOf (0 ∷ []) tt (plain (λ _. past_ref)) (λ _. tt)) yes, (stay_dropped (RefOf (1 ∷ []) tt (plain (λ _. param 0 T)) (λ _. tt)) yes, tt))

  module _ {M : Type 1} {𝓤 : Ura M} (𝓛 : Logic 𝓤) (at_mem : Memory → SProp 𝓤) (run : Routine → Fun 𝓤) where
    open 𝓛 use {H}

    abbrev held : Clauses 𝓤 ended
    held = f.clauses T 𝓛 at_mem run

    module _ (C : Calls 𝓤 H) (Λ : Loops 𝓤 H) (z : (walk_of 𝓛 ended stayed held).Ghost) where
      abbrev Post : Val → SProp 𝓤
      Post = (walk_of 𝓛 ended stayed held).post z

      walks : ent 𝓤 ((walk_of 𝓛 ended stayed held).pre z) (WpFn 𝓤 H C Λ function ((walk_of 𝓛 ended stayed held).args z) Post)
      walks =
          let a = z.0.3 in
          let vss = z.0.4 in
          let p : Val = vptr a.0.ref_ptr.0 a.0.ref_ptr.1 in
          let q : Val = vptr a.1.0.ref_ptr.0 a.1.0.ref_ptr.1 in
          let v : Val = vstruct (vcons (vstruct vnil) vnil) in
          let r : (made.the_row (param 0 T)).Denot = record { of = record {}; items = a.0.now.items ++ a.1.0.now ∷ [] } in
          let O : Fml = (type_at ended.signature.result z.0.0).own_val r (v ∷ []) in
          qed 𝓛 ((raw (alive 𝓛 ended.signature z.0.0 z.0.1) ⊛ ‵ (owns (types_at ended.signature.params z.0.0) a vss)) ∷ raw ((held z.0.0 a).requires z.1) ∷ []) ∵
          keep ! (0 ∷ []) $ split ! $ move ! (1 ∷ []) $
          fsplit ! $ fsplit ! $ feq_l ! (λ is₀. drop ! $ fsplit ! $ fsplit ! $ feq_l ! (λ is₁. drop ! $ drop ! $
          regoal ! (λ (us : List Val). prop (WpFn 𝓤 H C Λ function (us ++ (vss.1.0 ++ [])) Post)) is₀ refl $
          regoal ! (λ (us : List Val). prop (WpFn 𝓤 H C Λ function ((p ∷ []) ++ (us ++ [])) Post)) is₁ refl $
          enter ! C Λ function (p ∷ q ∷ []) Post $ alloc_all ! (λ l. pass_all ! refl ((tt, tt), ((tt, tt), tt)) $
          sets ! (agg ! (no_more !)) refl (tt, tt) $ sets ! (agg ! (and_then ! (get ! refl) (no_more !))) refl (tt, (tt, tt)) $
          returns ! (look_at ! 0 refl) $ free_all ! refl $
          use0 𝓛 (‵ O) (makes_shadow 𝓛 O ((λ uss. (tt, ((λ wss. (tt, tt)), tt))), tt) (((vstruct vnil ∷ [], tt), (refl, ((tt, (refl, tt)), tt))), tt)) $
          suffices ! _ (ends_at 𝓛 ended stayed held z v r (tt, (tt, tt)) (tt, (tt, tt))) $ says ! refl $
          nothing ! $ nothing ! $ fjoin ! $ nothing ! $ fjoin ! $ join ! $ move ! (1 ∷ 0 ∷ []) $ join ! $ done !)))

    meets : (𝓣 : Tables 𝓤 H) → Meets 𝓛 ended.signature (WpFn 𝓤 H 𝓣.C 𝓣.Λ function) (closing 𝓛 ended held)
    meets 𝓣 =
        walk_Meets 𝓛 ended stayed (
          Goes-dropped 𝓛 3 (RefOf (0 ∷ []) tt (plain (λ _. past_ref)) (λ _. tt)) yes (λ κs x f. refl),
          (Goes-dropped 𝓛 3 (RefOf (1 ∷ []) tt (plain (λ _. param 0 T)) (λ _. tt)) yes (λ κs x f. refl), tt),
        ) held
        (WpFn 𝓤 H 𝓣.C 𝓣.Λ function) (WpFn-mono 𝓤 H 𝓛.laws 𝓣 function) (walks 𝓣.C 𝓣.Λ)

pub with_spec : {M : Type 1} → stated.statement M
unfolding tables_of
with_spec 𝓤 𝓛 𝓜 𝓡 wired T laws =
    let 𝓣 : Tables 𝓤 𝓛.H = tables_of 𝓤 𝓛.H 𝓜 (tables 𝓤 𝓛.H 𝓜 𝓡 𝓡.env) in
    entered 𝓤 𝓛.H (triple_of 𝓛 (ended T).signature (closing 𝓛 (ended T) (held T 𝓛 𝓜.mem 𝓡.returns))) 𝓣.C 𝓣.Λ (key (layouts (a_type ∷ []) (T, tt))) (function T)
    (code.unfolded 𝓤 𝓛.H 𝓜 𝓡 wired (T, tt)) (meets T 𝓛 𝓜.mem 𝓡.returns 𝓣)

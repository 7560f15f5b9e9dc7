-- `into_box` gives up the parts: the callee has their pointer, their handle and what they own, and its box is returned as it is.
use Rattle.std.proofs.Common.{◌≡◌, List, [], ◌∷◌, ◌++◌, refl}
use mir.Syntax.{a_type, dcons, dnil}
use mir.MapTy.{inst_fn}
use mir.Val.{Val}
use base.Logic.{id⊢}
use base.Fml.{ftrue, fsep, flft}
use contract.BorrowLft.{◌⊑◌}
use prog.Wp.{WpFn}
use contract.Monad.{fact}
use contract.Running.{tables}
use types.Kit.{Item, at_ret, prop, ‵, raw, ◌⊛◌, some, later, ◌$◌, ◌∵◌, !, qed, move, drop, use1, join, group, split, split3, pick, regoal, fsplit, fjoin, feq_i, suffices, await, done}
use types.Part.{whole, sub}
use types.Run.{stop, fld, no_more, and_then, of_opd, returns, enter, first, blocks, exec}
use types.ByLocal.{alloc_all, pass_all, free_all, look_at, get, get_in, sets, lands_last, env}
use denote.Exit.{no}
use denote.Param.{bounded}
use denote.Laws.{Is, shows}
use denote.RawPtr.{ptr_val}
use denote.Signature.{plain}
use denote.Steps.{heard, nothing, peeks}
use denote.Triple.Call.{calls_at_last}
use denote.Triple.Spec.{triple_of}
use denote.Triple.Table.{framed}
use denote.Triple.Walked.{says, Stays, stay_dropped, walk_of, ends_at}
use Rattle.core.proofs.alloc.Calls.{Goes-blank}
use Rattle.core.proofs.alloc.Shapes.{after}
use Rattle.core.proofs.atomic.Steps.{Ptr-Good}
use Rattle.std.proofs.raw_atomic.Walks.{proved_at}
use Rattle.std_alloc.specs.contracts.boxed.Box.from_raw as g
use Rattle.std_alloc.proofs.boxed.Box.from_raw.Met.{met}
use Rattle.std_alloc.proofs.BoxSteps.Form.{Bx, D, B}
use Rattle.bohm_c.proofs.Boxes.{bits, typed, Cut, parts_out}
use Rattle.bohm_c.specs.contracts.parts.Parts.into_box as f
use Rattle.bohm_c.proofs.parts.Parts.into_box.Statement.{statement}
use Rattle.bohm_c.proofs.parts.Parts.into_box.Code as code

pub into_box_spec : {M : Type 1} → statement M
into_box_spec 𝓤 𝓛 𝓜 𝓡 wired X Z LX LZ γ d dd allocator glue =
    let E : Bx = record { row = X; laws = LX; al = record { row = Z; laws = LZ; g = γ; d = d; drops = dd } } in
    let 𝓣 = tables 𝓤 𝓛.H 𝓜 𝓡 𝓡.env in
    let inst = bounded (a_type ∷ a_type ∷ []) (X, (Z, tt)) (dcons d (dcons dd dnil)) in
    let fn = inst_fn inst code.function in
    let En = f.ended X Z γ d dd in
    let stayed : Stays En.signature.params En.kept = (stay_dropped (plain (λ _. Cut E)) no, tt) in
    let c = f.clauses X Z γ d dd 𝓛 𝓜.mem 𝓡.returns in
    let W = walk_of 𝓛 En stayed c in
    let G = triple_of 𝓛 (g.signature X Z γ d dd) (g.spec X Z γ d dd 𝓛 𝓜.mem 𝓡.returns) in
    proved_at 𝓛 En stayed c 𝓜 𝓡 (Goes-blank 𝓛 2 (plain (λ _. Cut E)) no (λ κs x w. tt), tt) (f.Key.name inst) fn (code.unfolded 𝓤 𝓛.H 𝓜 𝓡 wired (X, (Z, tt)) d dd) (λ z are.
    let κs = z.0.0 in let qs = z.0.1 in let v = z.0.3.0 in
    let tokens : Item 𝓤 = ‵ (flft κs.0 qs.0) ⊛ ‵ (flft κs.1.0 qs.1.0) ⊛ ‵ ftrue in
    qed 𝓛 ((tokens ⊛ ‵ (fsep ((Cut E).own_val v z.0.4.0) ftrue)) ∷ raw (fact 𝓤 (κs.0 ⊑ X.lives)) ∷ raw (fact 𝓤 (κs.1.0 ⊑ Z.lives)) ∷ ‵ ftrue ∷ []) ∵
    move ! (3 ∷ []) $ drop ! $ split ! $ move ! (1 ∷ []) $ fsplit ! $ parts_out E ! v z.0.4.0 (λ h is fits.
    regoal ! (λ (vs : List Val). prop (WpFn 𝓤 𝓛.H 𝓣.C 𝓣.Λ fn (vs ++ []) (W.post z))) is refl $
    enter ! _ _ _ _ _ $ alloc_all ! (λ l. pass_all ! refl (bits E v.ptr h fits, tt) $
    sets ! (of_opd ! (get_in ! (fld ! refl (stop !)) (sub ! 0 refl (whole !)))) refl (Ptr-Good v.ptr) $
    sets ! (of_opd ! (get_in ! (fld ! refl (stop !)) (sub ! 1 refl (whole !)))) refl fits $
    first ! $ blocks ! $ sets ! (of_opd ! (get ! refl)) refl fits $
    -- [what the parts owned; the handle; true; the tokens; both lifetimes last]
    move ! (4 ∷ 5 ∷ 0 ∷ []) $ group ! 3 $ move ! (2 ∷ []) $ feq_i ! (List Val) (ptr_val v.ptr ∷ []) (ptr_val v.ptr ∷ []) refl $ fjoin ! $
    -- [the pointer; what is asked; the handle; the tokens]
    move ! (2 ∷ 0 ∷ []) $ fjoin ! $ move ! (2 ∷ 0 ∷ []) $ join ! $ join ! $
    let y : G.Ghost = ((κs, qs, tt, (v.alloc, (v.ptr, tt)), (h ∷ [], (ptr_val v.ptr ∷ [], tt))), v.value) in
    use1 𝓛 (raw (G.pre y)) (id⊢ 𝓤 _) $
    calls_at_last ! (framed 𝓤 𝓛.H 𝓜 𝓣) G (met 𝓤 𝓛 𝓜 𝓡 (code.calls-std_alloc::boxed::Box::from_raw 𝓡.env wired) X Z LX LZ γ d dd allocator glue) y
    (and_then ! (get ! refl) (and_then ! (get ! refl) (no_more !))) (λ u.
    use1 𝓛 (later (some (λ (r : D E). (tokens ⊛ ‵ ((B E).own_val r (u ∷ []))) ⊛ some (λ (_ : Unit {0} × (Unit {0} × Unit {0})).
    ‵ (fsep ftrue (fsep ftrue ftrue)) ⊛ (raw (fact 𝓤 (r.value ≡ v.value)) ⊛ raw (fact 𝓤 (r.alloc ≡ v.alloc))))))) (id⊢ 𝓤 _) $
    await ! tt $ pick ! (λ r. split ! $ move ! (1 ∷ []) $ pick ! (λ _. split3 ! $ drop ! $ heard ! (r.value ≡ v.value) (λ same. drop ! $
    split ! $ move ! (1 ∷ []) $ peeks ! (B E) (Is (B E)) (shows 𝓛 (B E)) r (u ∷ []) (λ boxed.
    lands_last ! refl (typed E 𝓛 r u boxed) $ exec ! 𝓣.C 𝓣.Λ (env fn.locals l) (after 3 fn.body) (at_ret (env fn.locals l) (W.post z)) $
    sets ! (of_opd ! (get ! refl)) refl (typed E 𝓛 r u boxed) $
    returns ! (look_at ! 0 refl) $ free_all ! refl $
    suffices ! _ (ends_at 𝓛 En stayed c z u r ((tt, (tt, tt)), tt) (tt, tt)) $ says ! same $
    nothing ! $ nothing ! $ fjoin ! $ join ! $ move ! (1 ∷ 0 ∷ []) $ join ! $ done !))))))))

-- `of` takes the box apart, and the parts own what it owned. The callee asks for what `of` is given, so nothing of the box is looked at.
use Rattle.std.proofs.Common.{◌≡◌, List, [], ◌∷◌, ◌++◌, refl, sym, subst}
use mir.Syntax.{a_type, dcons, dnil}
use mir.MapTy.{inst_fn}
use mir.Val.{Val}
use base.Logic.{ent, id⊢}
use base.Fml.{ftrue, fsep, flft}
use prog.Wp.{WpFn}
use contract.Monad.{fact}
use contract.Running.{tables}
use types.Kit.{Item, ‵, raw, ◌⊛◌, some, later, ◌$◌, ◌∵◌, !, qed, move, drop, use1, join, split, split3, pick, rewrite, fjoin, suffices, await, done}
use types.Part.{whole, sub, agg}
use types.Run.{stop, fld, no_more, and_then, of_opd, returns, enter}
use types.ByLocal.{alloc_all, pass_all, free_all, look_at, get, get_in, sets, lands_as}
use denote.Exit.{no}
use denote.Param.{bounded}
use denote.RawPtr.{Ptr, ptr_val}
use denote.Signature.{plain}
use denote.Steps.{heard, nothing}
use denote.Triple.Call.{calls_at}
use denote.Triple.Spec.{triple_of}
use denote.Triple.Table.{framed}
use denote.Triple.Walked.{says, Stays, stay_dropped, walk_of, ends_at}
use Rattle.core.proofs.alloc.Calls.{token, Goes-blank}
use Rattle.core.proofs.atomic.Steps.{Ptr-Good}
use Rattle.std.proofs.raw_atomic.Walks.{proved_at}
use Rattle.std_alloc.specs.Box.Ownership.{box_owns}
use Rattle.std_alloc.specs.contracts.boxed.Box.into_raw_with_allocator as g
use Rattle.std_alloc.proofs.boxed.Box.into_raw_with_allocator.Met.{met}
use Rattle.std_alloc.proofs.BoxSteps.Form.{Bx, R, B}
use Rattle.bohm_c.proofs.Boxes.{both, bits, word_of, Pair, Cut, pair_out, parts_in}
use Rattle.bohm_c.specs.contracts.parts.Parts.of as f
use Rattle.bohm_c.proofs.parts.Parts.of.Statement.{statement}
use Rattle.bohm_c.proofs.parts.Parts.of.Code as code

pub of_spec : {M : Type 1} → statement M
of_spec 𝓤 𝓛 𝓜 𝓡 wired X Z LX LZ γ d dd dx allocator glue_a glue_t =
    let E : Bx = record { row = X; laws = LX; al = record { row = Z; laws = LZ; g = γ; d = d; drops = dd } } in
    let 𝓣 = tables 𝓤 𝓛.H 𝓜 𝓡 𝓡.env in
    let inst = bounded (a_type ∷ a_type ∷ []) (X, (Z, tt)) (dcons d (dcons dd (dcons dx dnil))) in
    let fn = inst_fn inst code.function in
    let En = f.ended X Z γ d dd dx in
    let stayed : Stays En.signature.params En.kept = (stay_dropped (plain (λ _. B E)) no, tt) in
    let c = f.clauses X Z γ d dd dx 𝓛 𝓜.mem 𝓡.returns in
    let W = walk_of 𝓛 En stayed c in
    let G = triple_of 𝓛 (g.signature X Z γ d dd dx) (g.spec X Z γ d dd dx 𝓛 𝓜.mem 𝓡.returns) in
    proved_at 𝓛 En stayed c 𝓜 𝓡 (Goes-blank 𝓛 2 (plain (λ _. B E)) no (λ κs x w. tt), tt) (f.Key.name inst) fn (code.unfolded 𝓤 𝓛.H 𝓜 𝓡 wired (X, (Z, tt)) d dd dx) (λ z are.
    let κs = z.0.0 in let qs = z.0.1 in let v = z.0.3.0 in
    let tokens : Item 𝓤 = ‵ (flft κs.0 qs.0) ⊛ ‵ (flft κs.1.0 qs.1.0) ⊛ ‵ ftrue in
    let given : List Val → G.Ghost = λ vs. ((κs, qs, tt, (v, tt), (vs, tt)), tt) in
    let word = word_of E 𝓛 v z.0.4.0 are.0 in let w = word.0 in
    subst (λ (vs : List Val). ent 𝓤 (G.pre (given vs)) (WpFn 𝓤 𝓛.H 𝓣.C 𝓣.Λ fn (vs ++ []) (W.post z))) (sym word.1.0)
    (qed 𝓛 (raw (G.pre (given (w ∷ []))) ∷ []) ∵ enter ! _ _ _ _ _ $ alloc_all ! (λ l. pass_all ! refl (word.1.1, tt) $ sets ! (of_opd ! (get ! refl)) refl word.1.1 $
    calls_at ! (framed 𝓤 𝓛.H 𝓜 𝓣) G (met 𝓤 𝓛 𝓜 𝓡 (code.calls-std_alloc::boxed::Box::into_raw_with_allocator 𝓡.env wired) X Z LX LZ γ d dd dx allocator glue_a glue_t) (given (w ∷ []))
    (and_then ! (get ! refl) (no_more !)) (λ u.
    use1 𝓛 (later (some (λ (r : Ptr × Z.Denot). (tokens ⊛ ‵ ((Pair E).own_val r (u ∷ []))) ⊛ some (λ (_ : (Unit {0} × (Unit {0} × Unit {0})) × Unit {0}).
    ‵ (fsep (fsep ftrue (fsep ftrue ftrue)) ftrue) ⊛ (raw (fact 𝓤 (r.1 ≡ v.alloc)) ⊛ ‵ (box_owns (token E.al v.alloc) (R E) r.0 v.value)))))) (id⊢ 𝓤 _) $
    await ! tt $ pick ! (λ r. split ! $ move ! (1 ∷ []) $ pick ! (λ _. split3 ! $ drop ! $ heard ! (r.1 ≡ v.alloc) (λ same.
    rewrite ! 0 (λ (a : Z.Denot). ‵ (box_owns (token E.al a) (R E) r.0 v.value)) (sym same) refl $
    -- [what the box owned; the tokens with the pair]
    move ! (1 ∷ []) $ split ! $ move ! (1 ∷ []) $ pair_out E ! r u (λ h is fits.
    lands_as ! is refl (bits E r.0 h fits) $
    sets ! (of_opd ! (get_in ! (fld ! refl (stop !)) (sub ! 0 refl (whole !)))) refl (Ptr-Good r.0) $
    sets ! (of_opd ! (get_in ! (fld ! refl (stop !)) (sub ! 1 refl (whole !)))) refl fits $
    sets ! (of_opd ! (get ! refl)) refl fits $
    sets ! (agg ! (and_then ! (get ! refl) (and_then ! (get ! refl) (no_more !)))) refl (bits E r.0 h fits) $
    returns ! (look_at ! 0 refl) $ free_all ! refl $
    -- [the handle; the tokens; what the box owned]
    let made : (Cut E).Denot = record { ptr = r.0; alloc = r.1; value = v.value } in
    move ! (2 ∷ 0 ∷ []) $ parts_in E ! made h $
    suffices ! _ (ends_at 𝓛 En stayed c z (both (ptr_val r.0) h) made ((tt, (tt, tt)), tt) (tt, tt)) $ says ! refl $
    nothing ! $ nothing ! $ fjoin ! $ join ! $ move ! (1 ∷ 0 ∷ []) $ join ! $ done !))))))))

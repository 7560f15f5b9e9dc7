-- A box as one machine value, and parts as a pointer that owns what a box owns. Nothing here looks into a block. Assumes `Logic`.
--     Bits, bits     what a pointer and an allocator's handle are together, and that it has its type
--     word_of        a box is one machine value, of its type, which `typed` says of one
--     pair_out       a pointer with a handle, and the handle's machine value
--     parts_out      what parts own, and their handle's machine value
--     parts_in       parts are made of both
use Rattle.std.proofs.Common.{◌≡◌, List, [], ◌∷◌, ◌++◌, refl, ap, subst}
use lib.Dec.{T}
use seplogic.Ra.Ura.{Ura}
use mir.Syntax.{Ty}
use mir.Val.{Val, vstruct, vcons, vnil, of_list, has_ty, WT}
use types.Logic.{Logic}
use types.Kit.{Item, Goal, Seq, Step, step, ‵, ◌$◌, move, drop, fsplit, fjoin, fpick, fpack, feq_i, feq_l}
use denote.RattleType.{RattleType, Valss}
use denote.Laws.{Is, Typed}
use denote.Param.Laws.{Laws, param_laws}
use denote.RawPtr.{Ptr, RawPtr, block_ptr, null_ptr, ptr_val}
use denote.Steps.{nothing, only}
use denote.Struct.Struct.{within}
use denote.Struct.Owning.{shape, to}
use denote.Struct.Tuple.{Tuple}
use Rattle.core.proofs.alloc.Calls.{Fits, token, α, handle_tells}
use Rattle.core.proofs.atomic.Steps.{Ptr-Good}
use Rattle.std_alloc.specs.Box.Ownership.{box_owns}
use Rattle.std_alloc.proofs.BoxSteps.Form.{Bx, D, R, P, B, box_ty}
use Rattle.std_alloc.proofs.ResultValues.{and_tt}
use Rattle.std_alloc.proofs.boxed.Box.TheLaws as box
use Rattle.bohm_c.specs.contracts.parts.Parts as Parts

abbrev pub both : Val → Val → Val
both at handle = vstruct (vcons at (vcons handle vnil))

-- a list of values of one type is one value
sole : (τ : Ty) (vs : List Val) → Typed (τ ∷ []) vs → (v : Val) × ((vs ≡ v ∷ []) × (T (has_ty τ v) × WT v))
sole τ [] t = absurd t
sole τ (v ∷ []) t = (v, (refl, t.0))
sole τ (v ∷ w ∷ vs) t = absurd t.1

module _ (E : Bx) where
  abbrev pub Bits : Val → Type 0
  Bits v = T (has_ty (box_ty E) v) × WT v

  pub bits : (p : Ptr) (handle : Val) → Fits E.al handle → Bits (both (ptr_val p) handle)
  bits (block_ptr b o) handle fits = (and_tt (has_ty (α E.al) handle) fits.0, (tt, (fits.1, tt)))
  bits null_ptr handle fits = (and_tt (has_ty (α E.al) handle) fits.0, ((Ptr-Good null_ptr).1, (fits.1, tt)))

  abbrev pub Cut : RattleType
  Cut = Parts.the_row (R E) (P E) E.al.g

  abbrev pub Pair : RattleType
  Pair = Tuple (RawPtr ∷ P E ∷ [])

  laws : Laws (B E)
  laws = box.the_row_laws (R E) (P E) E.al.g (param_laws 0 E.row E.laws) (param_laws 1 E.al.row E.al.laws)

  module _ {M : Type 1} {𝓤 : Ura M} (𝓛 : Logic 𝓤) where
    pub word_of : (v : D E) (vs : List Val) → Is (B E) v vs → (w : Val) × ((vs ≡ w ∷ []) × Bits w)
    word_of v vs is = sole (box_ty E) vs ((laws.lawful 𝓛).typed v vs is)

    pub typed : (v : D E) (w : Val) → Is (B E) v (w ∷ []) → Bits w
    typed v w is = ((laws.lawful 𝓛).typed v (w ∷ []) is).0

  module _ {M : Type 1} {𝓤 : Ura M} {𝓛 : Logic 𝓤} {K : Type 0} {Γ : List (Item 𝓤)} {G : Goal 𝓤 𝓛.H} where
    pub pair_out : K → (r : Ptr × E.al.row.Denot) (v : Val)
        → ((handle : Val) → v ≡ both (ptr_val r.0) handle → Fits E.al handle → Seq K 𝓛 (‵ ((P E).own_val r.1 (handle ∷ [])) ∷ Γ) G)
        → Seq K 𝓛 (‵ ((Pair).own_val r (v ∷ [])) ∷ Γ) G
    pair_out t r v k =
        fpick t (λ vss. fsplit t $ feq_l t (λ is. fsplit t $ feq_l t (λ at. fsplit t $ handle_tells E.al t r.1 vss.1.0 (λ handle one fits. move t (1 ∷ []) $ drop t $
        let is' : v ∷ [] ≡ vstruct (of_list (ptr_val r.0 ∷ (vss.1.0 ++ []))) ∷ [] = subst (λ (ps : List Val). v ∷ [] ≡ vstruct (of_list (ps ++ (vss.1.0 ++ []))) ∷ []) at is in
        k handle (ap only (subst (λ (hs : List Val). v ∷ [] ≡ vstruct (of_list (ptr_val r.0 ∷ (hs ++ []))) ∷ []) one is')) fits))))

    pub parts_out : K → (d : (Cut).Denot) (vs : List Val)
        → ((handle : Val) → vs ≡ both (ptr_val d.ptr) handle ∷ [] → Fits E.al handle
        → Seq K 𝓛 (‵ (box_owns (token E.al d.alloc) (R E) d.ptr d.value) ∷ ‵ ((P E).own_val d.alloc (handle ∷ [])) ∷ Γ) G)
        → Seq K 𝓛 (‵ ((Cut).own_val d vs) ∷ Γ) G
    parts_out t d vs k =
        fsplit t $ fpick t (λ vss. fsplit t $ feq_l t (λ is. fsplit t $ feq_l t (λ at. fsplit t $ handle_tells E.al t d.alloc vss.1.0 (λ handle one fits. move t (1 ∷ []) $ drop t $ move t (1 ∷ []) $
        let is' : vs ≡ vstruct (of_list (ptr_val d.ptr ∷ (vss.1.0 ++ []))) ∷ [] = subst (λ (ps : List Val). vs ≡ vstruct (of_list (ps ++ (vss.1.0 ++ []))) ∷ []) at is in
        k handle (subst (λ (hs : List Val). vs ≡ vstruct (of_list (ptr_val d.ptr ∷ (hs ++ []))) ∷ []) one is') fits))))

    pub parts_in : K → (d : (Cut).Denot) (handle : Val)
        → Step K 𝓛 (‵ ((Cut).own_val d (both (ptr_val d.ptr) handle ∷ [])) ∷ Γ) G
        (‵ (box_owns (token E.al d.alloc) (R E) d.ptr d.value) ∷ ‵ ((P E).own_val d.alloc (handle ∷ [])) ∷ Γ) G
    parts_in t d handle = step (λ s. let v : Val = both (ptr_val d.ptr) handle in
        nothing t $ move t (2 ∷ 0 ∷ []) $ fjoin t $ feq_i t (List Val) (ptr_val d.ptr ∷ []) (ptr_val d.ptr ∷ []) refl $ fjoin t $
        feq_i t (List Val) (v ∷ []) (v ∷ []) refl $ fjoin t $
        fpack t (Valss (RawPtr ∷ P E ∷ [])) (within (shape (Parts.the_type (R E) (P E) E.al.g)) (to (Parts.the_type (R E) (P E) E.al.g) d) (v ∷ [])) (ptr_val d.ptr ∷ [], (handle ∷ [], tt)) $ fjoin t $ s)

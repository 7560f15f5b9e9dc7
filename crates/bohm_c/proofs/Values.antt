-- The machine value of a `Handle`, taken apart and put together, and what it owns. Assumes `Logic`.
use Rattle.std.proofs.Common.{◌≡◌, List, [], ◌∷◌, ◌++◌, refl, subst}
use mathlib.Core.Bool.{Bool, true, false, not}
use lib.Dec.{T}
use seplogic.Ra.Ura.{Ura}
use mir.Syntax.{impl, tnil, dnil}
use mir.Val.{Val, vbool, vstruct, vcons, vnil, of_list, has_ty, WT}
use base.Logic.{never_e}
use base.Fml.{ftrue}
use types.Logic.{Logic}
use types.Kit.{Item, Goal, Seq, Step, step, given, learn, use1, ‵, ◌$◌, move, drop, fsplit, fjoin, fpick, fpack, feq_i, feq_l}
use denote.RattleType.{RattleType, Valss}
use denote.Builtin.{RawPtr, bool}
use denote.RawPtr.{Ptr, block_ptr, null_ptr, ptr_val}
use Rattle.core.proofs.atomic.Steps.{Ptr-Good}
use denote.Steps.{nothing}
use denote.Param.{layout}
use Rattle.std_alloc.proofs.ResultValues.{and_tt}
use denote.Struct.Struct.{within}
use denote.Struct.Owning.{shape, to}
use Rattle.core.proofs.alloc.Calls.{Fits, token, handle_tells}
use Rattle.std.specs.Prelude.{Option, Some, None}
use Rattle.std.specs.Global.{Global}
use Rattle.std_alloc.specs.Box.Ownership.{box_owns}
use Rattle.std_alloc.proofs.BoxSteps.Form.{Bx, R}
use Rattle.std_heap.specs.contracts.Global as Heap
use Rattle.std_heap.specs.contracts.GlobalAllocator.TheImpl.{ghosts, dict}
use Rattle.std_heap.proofs.Global.TheLaws as heap
use Rattle.fed_run.specs.contracts.fed.FedRun as Run
use Rattle.fed_run.proofs.fed.FedRun.TheLaws as run
use Rattle.bohm_c.specs.Held.{handle_owns}
use Rattle.bohm_c.specs.contracts.handle.Handle as Handle

abbrev pub E : Bx
E = record { row = Run.the_row; laws = run.the_row_laws; al = record { row = Heap.the_row; laws = heap.the_row_laws; g = ghosts; d = dict; drops = impl [] tnil dnil } }

abbrev pub Z : RattleType
Z = Heap.the_row

abbrev pub three : Val → Val → Val → Val
three v w h = vstruct (vcons v (vcons w (vcons h vnil)))

-- of the type of a handle's machine value
abbrev pub Good : Val → Type 0
Good v = T (has_ty (layout Handle.the_row) v) × WT v

pub handle_good : (p : Ptr) (t : Bool) (h : Val) → Fits E.al h → Good (three (ptr_val p) (vbool t) h)
handle_good (block_ptr b o) t h fits = (and_tt (has_ty (layout Z) h) fits.0, (tt, (tt, (fits.1, tt))))
handle_good null_ptr t h fits = (and_tt (has_ty (layout Z) h) fits.0, ((Ptr-Good null_ptr).1, (tt, (fits.1, tt))))

pub truly : (t : Bool) → T t → t ≡ true
truly true y = refl
truly false y = absurd y

pub falsely : (t : Bool) → T (not t) → t ≡ false
falsely true y = absurd y
falsely false y = refl

module _ {M : Type 1} {𝓤 : Ura M} {𝓛 : Logic 𝓤} {K : Type 0} {Γ : List (Item 𝓤)} {G : Goal 𝓤 𝓛.H} where
  pub handle_out : K → (d : (Handle.the_row).Denot) (vs : List Val)
      → ((h : Val) → vs ≡ three (ptr_val d.at) (vbool d.is_open) h ∷ [] → Fits E.al h
      → Seq K 𝓛 (‵ (handle_owns d.is_open d.alloc d.at d.run) ∷ ‵ (Z.own_val d.alloc (h ∷ [])) ∷ Γ) G)
      → Seq K 𝓛 (‵ ((Handle.the_row).own_val d vs) ∷ Γ) G
  handle_out t d vs k =
      fsplit t $ fpick t (λ vss. fsplit t $ feq_l t (λ ev. fsplit t $ feq_l t (λ ep. fsplit t $ feq_l t (λ eb. fsplit t $ handle_tells E.al t d.alloc vss.1.1.0 (λ h ea fits. move t (1 ∷ []) $ drop t $ move t (1 ∷ []) $
      k h
      (subst (λ (ws : List Val). vs ≡ vstruct (of_list (ptr_val d.at ∷ (vbool d.is_open ∷ (ws ++ [])))) ∷ []) ea
      (subst (λ (bs : List Val). vs ≡ vstruct (of_list (ptr_val d.at ∷ (bs ++ (vss.1.1.0 ++ [])))) ∷ []) eb
      (subst (λ (ps : List Val). vs ≡ vstruct (of_list (ps ++ (vss.1.0 ++ (vss.1.1.0 ++ [])))) ∷ []) ep ev))) fits)))))

  pub handle_in : K → (d : (Handle.the_row).Denot) (h : Val)
      → Step K 𝓛 (‵ ((Handle.the_row).own_val d (three (ptr_val d.at) (vbool d.is_open) h ∷ [])) ∷ Γ) G
      (‵ (handle_owns d.is_open d.alloc d.at d.run) ∷ ‵ (Z.own_val d.alloc (h ∷ [])) ∷ Γ) G
  handle_in t d h = step (λ s. let v : Val = three (ptr_val d.at) (vbool d.is_open) h in
      nothing t $ move t (2 ∷ 0 ∷ []) $ fjoin t $ feq_i t (List Val) (vbool d.is_open ∷ []) (vbool d.is_open ∷ []) refl $ fjoin t $
      feq_i t (List Val) (ptr_val d.at ∷ []) (ptr_val d.at ∷ []) refl $ fjoin t $ feq_i t (List Val) (v ∷ []) (v ∷ []) refl $ fjoin t $
      fpack t (Valss (RawPtr ∷ bool ∷ Z ∷ [])) (within (shape Handle.the_type) (to Handle.the_type d) (v ∷ [])) (ptr_val d.at ∷ [], (vbool d.is_open ∷ [], (h ∷ [], tt))) $ fjoin t $ s)

  pub opened : K → (a : Global) (p : Ptr) (r : Option (E.row).Denot)
      → ((x : (E.row).Denot) → r ≡ Some x → Seq K 𝓛 (‵ (box_owns (token E.al a) (R E) p x) ∷ Γ) G) → Seq K 𝓛 (‵ (handle_owns true a p r) ∷ Γ) G
  opened t a p (Some x) k = k x refl
  opened t a p None k = use1 𝓛 (given ⊥ (‵ ftrue)) (never_e 𝓤 _) $ learn t (λ z. absurd z)

  pub shut : K → (a : Global) (p : Ptr) (r : Option (E.row).Denot) → (r ≡ None → Seq K 𝓛 Γ G) → Seq K 𝓛 (‵ (handle_owns false a p r) ∷ Γ) G
  shut t a p (Some x) k = use1 𝓛 (given ⊥ (‵ ftrue)) (never_e 𝓤 _) $ learn t (λ z. absurd z)
  shut t a p None k = drop t $ k refl

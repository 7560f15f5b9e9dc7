-- The places that wait for one another.
use Rattle.std.proofs.Common.{◌≡◌, ◌⊎◌, ℕ, zero, suc, ◌<◌, ◌≤◌, List, [], ◌∷◌, ◌++◌, length, get_or, refl, sym, ap, ◌∙◌, subst, inl, inr, ⊎_elim, arith}
use Rattle.bohm_core_base.specs.Batch.{Batch, reference_words}
use Rattle.words.specs.declared.knowledge.Knowledge.{Knowledge}
use Rattle.words.specs.Views.{In, KnowsReferences}
use Rattle.filling_base.specs.declared.walk.Frame.{Frame}
use Rattle.filling_base.specs.References.{reference}
use Rattle.filling_base.specs.Walks.{IsPath, KnownTo, WaitsFor, bottom, waiting}
use Rattle.filling_base.proofs.Falling.{falls-at}
use Rattle.filling_base.proofs.Members.{in_back, in_cases, in_front}

every : (l known : List ℕ) → ((m other : ℕ) → m < length l → get_or l m 0 ≡ suc other → In other known) → (other : ℕ) → In (suc other) l → In other known
every [] known all other has = absurd has
every (x ∷ l) known all other has =
    ⊎_elim (λ is. all 0 other (omega arith) (sym is)) (λ more. every l known (λ m r below is. all (suc m) r (omega arith) is) other more) has

pub knows-all : (b : Batch) (v : Knowledge) (i n : ℕ) → length (reference_words b i) ≤ n → KnownTo b v.known i n → KnowsReferences b v i
knows-all b v i n all ready = every (reference_words b i) v.known (λ m other below is. ready m other (omega arith) is)

pub below-suc : (m n : ℕ) → m < suc n → (m ≡ n) ⊎ (m < n)
below-suc zero zero h = inl refl
below-suc zero (suc n) h = inr (omega arith)
below-suc (suc m) zero h = absurd (omega arith)
below-suc (suc m) (suc n) h = ⊎_elim (λ is. inl (ap suc is)) (λ less. inr (omega arith)) (below-suc m n (omega arith))

pub one-more : (b : Batch) (known : List ℕ) (i n : ℕ) → KnownTo b known i n → ((other : ℕ) → reference b i n ≡ suc other → In other known) → KnownTo b known i (suc n)
one-more b known i n ready here m other below is =
    ⊎_elim (λ same. here other (ap (λ (x : ℕ). reference b i x) (sym same) ∙ is)) (λ less. ready m other less is) (below-suc m n below)

pub known-more : (b : Batch) (k l : List ℕ) (i n : ℕ) → ((x : ℕ) → In x k → In x l) → KnownTo b k i n → KnownTo b l i n
known-more b k l i n more ready m other below is = more other (ready m other below is)

waiting-snoc : (fs : List Frame) (f : Frame) → waiting (fs ++ f ∷ []) ≡ waiting fs ++ f.index ∷ []
waiting-snoc [] f = refl
waiting-snoc (g ∷ fs) f = ap (λ (l : List ℕ). g.index ∷ l) (waiting-snoc fs f)

pub to-front : (fs : List Frame) (f : Frame) (i : ℕ) → In i (waiting (fs ++ f ∷ [])) → In i (f.index ∷ waiting fs)
to-front fs f i has =
    ⊎_elim (λ old. inr old) (λ new. ⊎_elim (λ is. inl is) (λ none. absurd none) new)
    (in_cases i (waiting fs) (f.index ∷ []) (subst (λ (l : List ℕ). In i l) (waiting-snoc fs f) has))

pub to-back : (fs : List Frame) (f : Frame) (i : ℕ) → In i (f.index ∷ waiting fs) → In i (waiting (fs ++ f ∷ []))
to-back fs f i has =
    subst (λ (l : List ℕ). In i l) (sym (waiting-snoc fs f))
    (⊎_elim (λ is. in_back i (waiting fs) (f.index ∷ []) (inl is)) (λ old. in_front i (waiting fs) (f.index ∷ []) old) has)

pub bottom-snoc : (fs : List Frame) (f : Frame) (at : ℕ) → bottom (fs ++ f ∷ []) at ≡ bottom fs f.index
bottom-snoc [] f at = refl
bottom-snoc (g ∷ fs) f at = refl

pub waits-falls : (b : Batch) (known : List ℕ) (f : Frame) (r : ℕ) → WaitsFor b known f r → r < f.index
waits-falls b known f r waits = falls-at b f.index waits.number r waits.short waits.names

waits-more : (b : Batch) (k l : List ℕ) → ((x : ℕ) → In x k → In x l) → (f : Frame) (r : ℕ) → WaitsFor b k f r → WaitsFor b l f r
waits-more b k l more f r waits = record {
  number = waits.number;
  next = waits.next;
  short = waits.short;
  ready = known-more b k l f.index waits.number more waits.ready;
  names = waits.names;
}

module _ (b : Batch) (known : List ℕ) where
  pub path-top : (fs : List Frame) (at : ℕ) → IsPath b known fs at → at ≤ bottom fs at
  path-top [] at path = omega arith
  path-top (f ∷ fs) at path = let rest = path-top fs at path.1 in let below = waits-falls b known f (bottom fs at) path.0 in omega arith

  pub path-over : (fs : List Frame) (at : ℕ) → IsPath b known fs at → (i : ℕ) → In i (waiting fs) → at < i
  path-over [] at path i has = absurd has
  path-over (f ∷ fs) at path i has =
      let top = path-top fs at path.1 in
      let below = waits-falls b known f (bottom fs at) path.0 in
      ⊎_elim (λ is. omega arith) (λ more. path-over fs at path.1 i more) has

  -- what the place at hand is referred to lies below each place that is held
  pub under : (fs : List Frame) (at n r : ℕ) → IsPath b known fs at → n < length (reference_words b at) → reference b at n ≡ suc r → (i : ℕ) → In i (at ∷ waiting fs) → r < i
  under fs at n r path short names i has =
      let below = falls-at b at n r short names in
      ⊎_elim (λ is. omega arith) (λ more. let over = path-over fs at path i more in omega arith) has

  pub path-push : (fs : List Frame) (f : Frame) (r : ℕ) → IsPath b known fs f.index → WaitsFor b known f r → IsPath b known (fs ++ f ∷ []) r
  path-push [] f r path waits = (waits, tt)
  path-push (g ∷ fs) f r path waits =
      (subst (λ (x : ℕ). WaitsFor b known g x) (sym (bottom-snoc fs f r)) path.0, path-push fs f r path.1 waits)

  pub path-pop : (fs : List Frame) (f : Frame) (at : ℕ) → IsPath b known (fs ++ f ∷ []) at → IsPath b known fs f.index × WaitsFor b known f at
  path-pop [] f at path = (tt, path.0)
  path-pop (g ∷ fs) f at path =
      let rest = path-pop fs f at path.1 in
      ((subst (λ (x : ℕ). WaitsFor b known g x) (bottom-snoc fs f at) path.0, rest.0), rest.1)

pub path-more : (b : Batch) (k l : List ℕ) → ((x : ℕ) → In x k → In x l) → (fs : List Frame) (at : ℕ) → IsPath b k fs at → IsPath b l fs at
path-more b k l more [] at path = tt
path-more b k l more (f ∷ fs) at path = (waits-more b k l more f (bottom fs at) path.0, path-more b k l more fs at path.1)

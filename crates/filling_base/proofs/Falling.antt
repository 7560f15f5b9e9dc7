-- References name earlier places.
use Rattle.std.proofs.Common.{◌≡◌, ℕ, zero, suc, ◌<◌, Bool, true, false, List, [], ◌∷◌, map, length, get_or, refl, sym, ◌∙◌, subst, inl, inr, ⊎_elim, arith}
use Rattle.std.specs.Prelude.{if◌then◌else◌}
use Rattle.model_base.specs.declared.row.Key.{Key}
use Rattle.bohm_core_base.specs.Batch.{Access, Batch, changes_key, place_has_deed_on, prior_reference, reference_words, writer_reference}
use Rattle.words.specs.Views.{In}
use Rattle.filling_base.specs.References.{reference}
use Rattle.filling_base.proofs.Members.{in_cases}

pub at-in : (l : List ℕ) (m : ℕ) → m < length l → In (get_or l m 0) l
at-in [] m below = absurd (omega arith)
at-in (x ∷ l) zero below = inl refl
at-in (x ∷ l) (suc m) below = inr (at-in l m (omega arith))

chosen : (P : ℕ → Type 0) (test : Bool) (x y : ℕ) → P x → P y → P (if test then x else y)
chosen P true x y a b = a
chosen P false x y a b = b

abbrev Below : ℕ → ℕ → Type 0
Below n x = (r : ℕ) → x ≡ suc r → r < n

writer-below : (b : Batch) (n : ℕ) (key : Key) → Below n (writer_reference b n key)
writer-below b zero key = λ r is. absurd (omega arith)
writer-below b (suc n) key =
    chosen (Below (suc n)) (changes_key (b.accesses n) key) (suc n) (writer_reference b n key)
    (λ r is. omega arith)
    (λ r is. let less = writer-below b n key r is in omega arith)

prior-below : (b : Batch) (n table : ℕ) → Below n (prior_reference b n table)
prior-below b zero table = λ r is. absurd (omega arith)
prior-below b (suc n) table =
    chosen (Below (suc n)) (place_has_deed_on b n table) (suc n) (prior_reference b n table)
    (λ r is. omega arith)
    (λ r is. let less = prior-below b n table r is in omega arith)

each : {A : Type 0} (f : A → ℕ) (n : ℕ) (xs : List A) → ((a : A) → Below n (f a)) → (x : ℕ) → In x (map f xs) → Below n x
each f n [] all x has = absurd has
each f n (a ∷ xs) all x has = ⊎_elim (λ is r e. all a r (sym is ∙ e)) (λ more. each f n xs all x more) has

-- a place is referred to earlier ones alone
pub falls : (b : Batch) (i r : ℕ) → In (suc r) (reference_words b i) → r < i
unfolding reference_words
falls b i r has =
    ⊎_elim
    (λ here. each (λ (a : Access). writer_reference b i a.key) i (b.accesses i) (λ a. writer-below b i a.key) (suc r) here r refl)
    (λ here. each (λ table. prior_reference b i table) i (b.tables i) (λ table. prior-below b i table) (suc r) here r refl)
    (in_cases (suc r) (map (λ (a : Access). writer_reference b i a.key) (b.accesses i)) (map (λ table. prior_reference b i table) (b.tables i)) has)

-- the reference of a number is one of them
pub named : (b : Batch) (i m r : ℕ) → m < length (reference_words b i) → reference b i m ≡ suc r → In (suc r) (reference_words b i)
named b i m r below is = subst (λ (x : ℕ). In x (reference_words b i)) is (at-in (reference_words b i) m below)

pub falls-at : (b : Batch) (i m r : ℕ) → m < length (reference_words b i) → reference b i m ≡ suc r → r < i
falls-at b i m r below is = falls b i r (named b i m r below is)

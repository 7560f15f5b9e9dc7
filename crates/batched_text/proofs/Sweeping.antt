-- The versions that are left once rows are trimmed and swept.
use Rattle.std.proofs.Common.{◌≡◌, ◌≤◌, ◌-◌, ◌&&◌, ◌∷◌, [], ℕ, Bool, true, false, List, Result, Ok, Err, length, filter, refl, sym, ◌∙◌, ap, subst, arith, is_none}
use Rattle.std.specs.List.{list_all}
use Rattle.std.specs.Prelude.{◌==◌, ◌||◌, IfOk, is_err, nat_lt, not}
use Rattle.std.proofs.Math.Bool.{and-false}
use Rattle.std.proofs.lemmas.Bool.{cond-false, cond_both, le-ltb}
use Rattle.std.proofs.lemmas.List.{length-append, length-drop}
use Rattle.std.proofs.lemmas.List.Elements.{filter-append}
use Rattle.model_base.specs.declared.row.Key.{Key}
use Rattle.chains.specs.Store.{Store, Sweeps, Trims, is_spent, newest_alone, of_key, swept, trimmed}
use Rattle.chains.specs.declared.version.Version.{Version}
use Rattle.batched_text.specs.Sweeping.{IsSwept}

-- whether a version lies below the mark
abbrev below : ℕ → Version → Bool
below mark version = nat_lt version.place mark

-- no more pass a test than there are
some-pass : (test : Version → Bool) (versions : List Version) → length (filter test versions) ≤ length versions
some-pass test [] = omega arith
some-pass test (version ∷ versions) =
    let fewer = some-pass test versions in
    cond_both (test version) (version ∷ filter test versions) (filter test versions) (λ (vs : List Version). length vs ≤ length (version ∷ versions))
    (λ passes. omega (arith, fewer)) (λ fails. omega (arith, fewer))

-- of those that fail it none pass
fails : (b : Bool) → not b ≡ true → b ≡ false
fails true is = sym is
fails false is = refl

none-pass : (test : Version → Bool) (versions : List Version) → filter test (filter (λ (version : Version). not (test version)) versions) ≡ []
none-pass test [] = refl
none-pass test (version ∷ versions) =
    let others : List Version = filter (λ (other : Version). not (test other)) versions in
    cond_both (not (test version)) (version ∷ others) others (λ (vs : List Version). filter test vs ≡ [])
    (λ is. cond-false (test version) (version ∷ filter test others) (filter test others) (fails (test version) is) ∙ none-pass test versions)
    (λ is. none-pass test versions)

-- of what is trimmed at most one version lies below the mark
newest-one : (versions : List Version) → length (newest_alone versions) ≤ 1
newest-one versions = omega (arith, length-drop (length versions - 1) versions)

trimmed-one : (mark : ℕ) (own : List Version) → length (filter (below mark) (trimmed mark own)) ≤ 1
trimmed-one mark own =
    let newest : List Version = newest_alone (filter (below mark) own) in
    let later : List Version = filter (λ (version : Version). not (below mark version)) own in
    let parts = ap length (filter-append (below mark) newest later) ∙ length-append (filter (below mark) newest) (filter (below mark) later) in
    let none = ap length (none-pass (below mark) own) in
    omega (arith, parts, none, some-pass (below mark) newest, newest-one (filter (below mark) own))

-- and no more of what is swept; no key is spent then
swept-one : (mark : ℕ) (own : List Version) → length (filter (below mark) own) ≤ 1 → length (filter (below mark) (swept mark own)) ≤ 1
swept-one mark own one =
    cond_both (is_spent mark own) [] own (λ (vs : List Version). length (filter (below mark) vs) ≤ 1) (λ spent. omega arith) (λ told. one)

swept-told : (mark : ℕ) (own : List Version) → is_spent mark (swept mark own) ≡ false
swept-told mark own = cond_both (is_spent mark own) [] own (λ (vs : List Version). is_spent mark vs ≡ false) (λ spent. refl) (λ told. told)

swept_after : (old mid new : Store) (mark gone swept_out : ℕ) → Trims old mid mark gone → Sweeps mid new swept_out → IsSwept new
swept_after old mid new mark gone swept_out trims sweeps =
    let same : new.mark ≡ mark = sweeps.mark ∙ trims.to in
    let left : (key : Key) → of_key key new.versions ≡ swept mark (trimmed mark (of_key key old.versions)) =
    λ key. sweeps.left key ∙ ap (λ (at : ℕ). swept at (of_key key mid.versions)) trims.to ∙ ap (swept mark) (trims.left key) in
    record {
      one = λ key.
          subst (λ (at : ℕ). length (filter (below at) (of_key key new.versions)) ≤ 1) (sym same)
          (subst (λ (vs : List Version). length (filter (below mark) vs) ≤ 1) (sym (left key))
          (swept-one mark (trimmed mark (of_key key old.versions)) (trimmed-one mark (of_key key old.versions))));
      told = λ key.
          subst (λ (at : ℕ). is_spent at (of_key key new.versions) ≡ false) (sym same)
          (subst (λ (vs : List Version). is_spent mark vs ≡ false) (sym (left key)) (swept-told mark (trimmed mark (of_key key old.versions))));
    }

-- rows that were trimmed to a mark within its limits, and then swept
pub swept_of : {E : Type 0} (old mid new : Store) (mark bound swept_out : ℕ) (trimmed_to : Result ℕ E) → Sweeps mid new swept_out
    → IfOk trimmed_to (λ gone. Trims old mid mark gone) → is_err trimmed_to ≡ (nat_lt mark old.mark || nat_lt bound mark)
    → old.mark ≤ mark → mark ≤ bound → IsSwept new
swept_of old mid new mark bound swept_out (Ok gone) sweeps trims fails_by order within = swept_after old mid new mark gone swept_out trims sweeps
swept_of old mid new mark bound swept_out (Err bad) sweeps trims fails_by order within =
    let none : (nat_lt mark old.mark || nat_lt bound mark) ≡ false =
    ap (λ (b : Bool). b || nat_lt bound mark) (le-ltb mark old.mark order) ∙ le-ltb bound mark within in
    absurd (cc (fails_by, none))

-- below the first place there is none
none-below : (mark : ℕ) (versions : List Version) → mark ≡ 0 → filter (below mark) versions ≡ []
none-below mark [] at_zero = refl
none-below mark (version ∷ versions) at_zero =
    cond-false (below mark version) (version ∷ filter (below mark) versions) (filter (below mark) versions) (le-ltb version.place mark (omega (arith, at_zero)))
    ∙ none-below mark versions at_zero

none-spent : (mark : ℕ) (versions : List Version) → mark ≡ 0 → is_spent mark versions ≡ false
none-spent mark [] at_zero = refl
none-spent mark (version ∷ versions) at_zero =
    let test : Version → Bool = λ (other : Version). below mark other && is_none other.row in
    ap (λ (b : Bool). (length (version ∷ versions) == 1) && ((b && is_none version.row) && list_all test versions)) (le-ltb version.place mark (omega (arith, at_zero)))
    ∙ and-false (length (version ∷ versions) == 1)

pub swept_first : (store : Store) → store.mark ≡ 0 → IsSwept store
swept_first store at_zero = record {
  one = λ key. omega (arith, ap length (none-below store.mark (of_key key store.versions) at_zero));
  told = λ key. none-spent store.mark (of_key key store.versions) at_zero;
}

-- Words without a fault are those of steps and of deeds.
use Rattle.std.proofs.Common.{◌≡◌, ℕ, not, suc, zero, ◌+◌, ◌<◌, ◌≤◌, ◌^◌, Bool, true, false, ltb, cond, ◌&&◌, ℤ, List, [], ◌∷◌, ◌++◌, length, map, Option, Some, None, refl, ap, sym, ◌∙◌, inl, inr, arith}
use Rattle.std.specs.Prelude.{bytes_eq, codes, decimal, IsTrue, if◌then◌else◌}
use Rattle.std.specs.Fmt.{signed_decimal}
use Rattle.std.specs.List.{list_any, AllByRecursion, sum_by}
use Rattle.std.proofs.lemmas.List.Sums.{sum_by-cons}
use Rattle.std.proofs.lemmas.Bool.{cases_Bool, cond-true, cond-false, ltb-true, and_parts, or_cases}
use Rattle.std.proofs.lemmas.Slice.Eq.{bytes_eq-Decides}
use Rattle.line_words.specs.StepWords.{step_name}
use Rattle.line_words.specs.Words.{plain, is_name}
use Rattle.line_words.specs.Access.{access_word, IsAccess}
use Rattle.line_words.specs.Faults.{unless, or_else}
use Rattle.log_text.specs.Fault.{Expected, OfGrantees, OfName, OfPlain, OfWhole, OfRegister, OfRow, OfKinds, OfOption, OfAccess, OfStep, OfBar, OfMore, fault_from, grantees_fault, is_public, misfit, expected_behind, may_end, is_bar, is_deed, step_fault, expected_in, expected_in_deed, expected_in_grant, expected_in_revoke, register_fault}
use Rattle.log_text.specs.Statement.{body_words, deed_words, kinds_word, option_words, row_word, IsDeed, IsDeedOf, IsLastDeed, IsLastDeedOf, IsRegister, IsRowNumber, IsStep, step_words, outs_of}
use Rattle.log_text.specs.Grantees.{grantees_word, is_everyone}
use Rattle.line_words.specs.declared.fault.LineFault.TheVariants.{UnknownWord, BadNumber, BadName, TooManySteps}
use Rattle.line_words.specs.declared.access.RawAccess.{RawAccess}
use Rattle.model_base.specs.declared.deed.Kinds.{Kinds}
use Rattle.log_text.specs.Versions.{has_lists, parts_of}
use Rattle.log_text.specs.declared.statement.RawDeed.{RawDeed}
use Rattle.log_text.specs.declared.statement.RawDeed.TheVariants as deed
use Rattle.log_text.specs.declared.grantees.RawGrantee.{RawGrantee}
use Rattle.log_text.specs.declared.statement.RawStep.{RawStep}
use Rattle.line_words.specs.declared.step_name.StepName.{StepName}
use Rattle.line_words.specs.declared.step_name.StepName.TheVariants as name
use Rattle.log_text.specs.declared.statement.RawStep.TheVariants as step
use Rattle.model_base.specs.declared.statement.RowName.{RowName}
use Rattle.model_base.specs.Body.{fits_64_bits}
use Rattle.line_words.proofs.Plain.{plain_empty}
use Rattle.log_text.proofs.Missing.{whole_missing}
use Rattle.log_text.proofs.GranteeLists.{grantees_spell, public_parts, AreGranteesOf}
use Rattle.log_text.proofs.KindLists.{kinds_spell, AreKinds}
use Rattle.line_words.proofs.StepNames.{named_word}
use Rattle.log_text.proofs.StepNames.{at_step}
use Rattle.log_text.proofs.Tails.{body_more}
use Rattle.log_text.proofs.TotalWords.{Spells, both_none, unless_none, plain_spells, whole_spells, register_spells, row_spells, access_spells}

-- a missing word is none of kinds, nor of grantees
no_kinds : (v : ℕ) → misfit (OfKinds v) [] ≡ None → ⊥
no_kinds v e = elim (cases_Bool (has_lists v)) [
  | inl lists ↦ let f = rw lists at e in cc
  | inr none ↦ let f = rw none at e in cc
]

no_grantees : (v : ℕ) → grantees_fault [] (parts_of v []) ≡ None → ⊥
no_grantees v e = elim (cases_Bool (has_lists v)) [
  | inl lists ↦ let f = rw lists at e in cc
  | inr none ↦ let f = rw none at e in cc
]

-- the first word spells a value of this kind, and the others have no fault
pub record Next (A : Type 0) (word_of : A → List ℕ) (Is : A → Type 0) (ps : List Expected) (ws : List (List ℕ)) : Type 0 where
  pub value : A
  pub rest : List (List ℕ)
  pub same : ws ≡ word_of value ∷ rest
  pub good : Is value
  pub goes : fault_from ps rest ≡ None

next : {A : Type 0} (word_of : A → List ℕ) (Is : A → Type 0) (p : Expected) (ps : List Expected) (ws : List (List ℕ)) →
    may_end p ≡ false → ((w : List ℕ) → expected_behind p w ≡ []) → (misfit p [] ≡ None → ⊥) → ((w : List ℕ) → misfit p w ≡ None → Spells A word_of Is w) →
    fault_from (p ∷ ps) ws ≡ None → Next A word_of Is ps ws
next word_of Is p ps [] stays adds some spells e = absurd (some (sym (cond-false (may_end p) None (misfit p []) stays) ∙ e))
next word_of Is p ps (w ∷ ws) stays adds some spells e =
    let b = both_none (misfit p w) (fault_from (expected_behind p w ++ ps) ws) e in
    let s = spells w b.0 in
    record { value = s.value; rest = ws; same = ap (λ v. v ∷ ws) s.same; good = s.good; goes = ap (λ qs. fault_from (qs ++ ps) ws) (sym (adds w)) ∙ b.1 }

pub name_next : (ps : List Expected) (ws : List (List ℕ)) → fault_from (OfName ∷ ps) ws ≡ None → Next (List ℕ) (λ w. w) (λ w. IsTrue (is_name w)) ps ws
name_next ps ws e =
    next (λ w. w) (λ w. IsTrue (is_name w)) OfName ps ws refl (λ w. refl) (λ f. cc) (λ w f. record { value = w; same = refl; good = unless_none (is_name w) BadName f }) e

pub plain_next : (ps : List Expected) (ws : List (List ℕ)) → fault_from (OfPlain ∷ ps) ws ≡ None → Next ℕ decimal (λ n. n < 2 ^ 32) ps ws
plain_next ps ws e =
    next decimal (λ n. n < 2 ^ 32) OfPlain ps ws refl (λ w. refl) (λ f. let g = rw plain_empty at f in cc) (λ w f. plain_spells w (unless_none _ BadNumber f)) e

pub whole_next : (ps : List Expected) (ws : List (List ℕ)) → fault_from (OfWhole ∷ ps) ws ≡ None → Next ℤ signed_decimal (λ z. IsTrue (fits_64_bits z)) ps ws
whole_next ps ws e =
    next signed_decimal (λ z. IsTrue (fits_64_bits z)) OfWhole ps ws refl (λ w. refl) (λ f. cc whole_missing) (λ w f. whole_spells w (unless_none _ BadNumber f)) e

pub register_next : (ps : List Expected) (ws : List (List ℕ)) → fault_from (OfRegister ∷ ps) ws ≡ None → Next ℕ decimal IsRegister ps ws
register_next ps ws e =
    next decimal IsRegister OfRegister ps ws refl (λ w. refl) (λ f. let g = rw plain_empty at f in cc) register_spells e

pub row_next : (ps : List Expected) (ws : List (List ℕ)) → fault_from (OfRow ∷ ps) ws ≡ None → Next RowName row_word IsRowNumber ps ws
row_next ps ws e = next row_word IsRowNumber OfRow ps ws refl (λ w. refl) (λ f. cc) row_spells e

pub kinds_next : (v : ℕ) (ps : List Expected) (ws : List (List ℕ)) → fault_from (OfKinds v ∷ ps) ws ≡ None → Next Kinds kinds_word (AreKinds v) ps ws
kinds_next v ps ws e = next kinds_word (AreKinds v) (OfKinds v) ps ws refl (λ w. refl) (λ f. no_kinds v f) (kinds_spell v) e

pub grantees_next : (v : ℕ) (ps : List Expected) (ws : List (List ℕ)) → fault_from (OfGrantees v false ∷ ps) ws ≡ None → Next (List RawGrantee) grantees_word (AreGranteesOf v) ps ws
grantees_next v ps ws e = next grantees_word (AreGranteesOf v) (OfGrantees v false) ps ws refl (λ w. refl) (λ f. no_grantees v f) (grantees_spell v) e

pub access_next : (ps : List Expected) (ws : List (List ℕ)) → fault_from (OfAccess ∷ ps) ws ≡ None → Next RawAccess access_word IsAccess ps ws
access_next ps ws e = next access_word IsAccess OfAccess ps ws refl (λ w. refl) (λ f. cc) access_spells e

-- the words are those of further steps and a deed, when there are this many steps and outs before them
pub record Further (v n o : ℕ) (ws : List (List ℕ)) : Type 0 where
  pub steps : List RawStep
  pub deed : Option RawDeed
  pub same : ws ≡ body_words steps deed
  pub room : n + length steps ≤ 64
  pub few : o + sum_by outs_of steps ≤ 8
  pub each : AllByRecursion IsStep steps
  pub last : IsLastDeed deed
  pub lists : IsLastDeedOf v deed

-- the words are those of a deed
pub record DeedIn (v : ℕ) (ws : List (List ℕ)) : Type 0 where
  pub deed : RawDeed
  pub same : ws ≡ deed_words deed
  pub is : IsDeed deed
  pub lists : IsDeedOf v deed

pub ended : (ws : List (List ℕ)) → fault_from [] ws ≡ None → ws ≡ []
ended [] e = refl
ended (w ∷ ws) e = absurd cc

-- the words tell whether a grant is with the option
option_from : (ws : List (List ℕ)) → fault_from (OfOption ∷ []) ws ≡ None → (option : Bool) × (ws ≡ option_words option)
option_from [] e = (false, refl)
option_from (w ∷ ws) e =
    let b = both_none (unless (bytes_eq w (codes "OPTION")) UnknownWord) (fault_from [] ws) e in
    let word = (bytes_eq-Decides w (codes "OPTION")).0 (unless_none (bytes_eq w (codes "OPTION")) UnknownWord b.0) in
    let none = ended ws b.1 in
    (true, cc)

-- the words tell the grantees of a grant, and whether it is with the option
record Granted (v : ℕ) (ws : List (List ℕ)) : Type 0 where
  grantees : List RawGrantee
  option : Bool
  same : ws ≡ grantees_word grantees ∷ option_words option
  are : AreGranteesOf v grantees
  may : IsTrue (not (option && list_any is_everyone grantees))

option_after : (b : Bool) (ws : List (List ℕ)) → fault_from ((if true && not b then OfOption ∷ [] else []) ++ []) ws ≡ None → (option : Bool) × (ws ≡ option_words option) × (not (option && b) ≡ true)
option_after true ws e = (false, ended ws e, refl)
option_after false ws e = let o = option_from ws e in (o.0, o.1, may o.0)
  where
    may : (option : Bool) → not (option && false) ≡ true
    may true = refl
    may false = refl

grantees_from : (v : ℕ) (ws : List (List ℕ)) → fault_from (OfGrantees v true ∷ []) ws ≡ None → Granted v ws
grantees_from v [] e = absurd (no_grantees v e)
grantees_from v (w ∷ ws) e =
    let b = both_none (grantees_fault [] (parts_of v w)) (fault_from (expected_behind (OfGrantees v true) w ++ []) ws) e in
    let s = grantees_spell v w b.0 in
    let public : list_any is_public (parts_of v w) ≡ list_any is_everyone s.value =
    ap (λ u. list_any is_public (parts_of v u)) s.same ∙ public_parts v s.value s.good.0 s.good.1 in
    let goes : fault_from ((if true && not (list_any is_everyone s.value) then OfOption ∷ [] else []) ++ []) ws ≡ None =
    sym (ap (λ t. fault_from ((if true && not t then OfOption ∷ [] else []) ++ []) ws) public) ∙ b.1 in
    let o = option_after (list_any is_everyone s.value) ws goes in
    record { grantees = s.value; option = o.0; same = ap (λ u. u ∷ ws) s.same ∙ ap (λ us. grantees_word s.value ∷ us) o.1; are = s.good; may = o.2 }

grant_from : (v : ℕ) (w : List ℕ) (ws : List (List ℕ)) → w ≡ codes "GRANT" → fault_from (expected_in_grant v) ws ≡ None → DeedIn v (w ∷ ws)
grant_from v w ws is e =
    let k = kinds_next v (OfName ∷ OfGrantees v true ∷ []) ws e in
    let t = name_next (OfGrantees v true ∷ []) k.rest k.goes in
    let g = grantees_from v t.rest t.goes in
    record {
      deed = deed.Grant k.value t.value g.grantees g.option;
      same = ap (λ u. u ∷ ws) is ∙ ap (λ us. codes "GRANT" ∷ us) (k.same ∙ ap (λ us. kinds_word k.value ∷ us) (t.same ∙ ap (λ us. t.value ∷ us) g.same));
      is = (k.good.0, t.good, g.are.0, g.may);
      lists = (k.good.1, g.are.1);
    }

revoke_from : (v : ℕ) (w : List ℕ) (ws : List (List ℕ)) → w ≡ codes "REVOKE" → fault_from (expected_in_revoke v) ws ≡ None → DeedIn v (w ∷ ws)
revoke_from v w ws is e =
    let k = kinds_next v (OfName ∷ OfGrantees v false ∷ []) ws e in
    let t = name_next (OfGrantees v false ∷ []) k.rest k.goes in
    let g = grantees_next v [] t.rest t.goes in
    let last = ended g.rest g.goes in
    record {
      deed = deed.Revoke k.value t.value g.value;
      same = ap (λ u. u ∷ ws) is
          ∙ ap (λ us. codes "REVOKE" ∷ us) (k.same ∙ ap (λ us. kinds_word k.value ∷ us) (t.same ∙ ap (λ us. t.value ∷ us) (g.same ∙ ap (λ us. grantees_word g.value ∷ us) last)));
      is = (k.good.0, t.good, g.good.0);
      lists = (k.good.1, g.good.1);
    }

-- a word that begins a deed, and what follows it
pub deed_from : (v : ℕ) (w : List ℕ) (ws : List (List ℕ)) → is_deed w ≡ true → fault_from (expected_in_deed v w ++ []) ws ≡ None → DeedIn v (w ∷ ws)
deed_from v w ws begins e =
    let grants = bytes_eq w (codes "GRANT") in
    let revokes = bytes_eq w (codes "REVOKE") in
    elim (cases_Bool grants) [
      | inl grant ↦ grant_from v w ws ((bytes_eq-Decides w (codes "GRANT")).0 grant) (rw grant at e)
      | inr other ↦
          let revoke : revokes ≡ true = elim (or_cases grants revokes begins) [ inl grant ↦ absurd cc | inr r ↦ r ] in
          revoke_from v w ws ((bytes_eq-Decides w (codes "REVOKE")).0 revoke) (rw other at e)
    ]

-- words of at most this number are those of further steps, if they have no fault
abbrev Reader : ℕ → ℕ → Type 0
Reader v fuel = (n o : ℕ) (ws : List (List ℕ)) → length ws ≤ fuel → n ≤ 64 → o ≤ 8 → fault_from (OfBar v n o ∷ []) ws ≡ None → Further v n o ws

-- the words begin with registers, and go on with further steps
record Registers (v k n o : ℕ) (ws : List (List ℕ)) : Type 0 where
  registers : List ℕ
  left : List (List ℕ)
  further : Further v n o left
  same : ws ≡ map decimal registers ++ left
  room : k + length registers ≤ 8
  each : AllByRecursion IsRegister registers

registers_from : (ws : List (List ℕ)) (v fuel k n o : ℕ) → Reader v fuel → length ws ≤ fuel → k ≤ 8 → n ≤ 64 → o ≤ 8 → fault_from (OfMore v k n o ∷ []) ws ≡ None → Registers v k n o ws
registers_from [] v fuel k n o read low room steps few e = record { registers = []; left = []; further = read n o [] low steps few refl; same = refl; room = omega arith; each = tt }
registers_from (w ∷ ws) v fuel k n o read low room steps few e = elim (cases_Bool (is_bar w)) [
  | inl bar ↦
      let f : fault_from (OfBar v n o ∷ []) (w ∷ ws) ≡ None = rw bar (rw bar at e) in
      record { registers = []; left = w ∷ ws; further = read n o (w ∷ ws) low steps few f; same = refl; room = omega arith; each = tt }
  | inr word ↦
      let f : or_else (cond (ltb k 8) (register_fault (plain w)) (Some UnknownWord)) (fault_from (OfMore v (k + 1) n o ∷ []) ws) ≡ None = rw word at e in
      let b = both_none (cond (ltb k 8) (register_fault (plain w)) (Some UnknownWord)) (fault_from (OfMore v (k + 1) n o ∷ []) ws) f in
      elim (cases_Bool (ltb k 8)) [
        | inl more ↦
            let r = register_spells w (sym (cond-true (ltb k 8) (register_fault (plain w)) (Some UnknownWord) more) ∙ b.0) in
            let below = ltb-true k 8 more in
            let t = registers_from ws v fuel (k + 1) n o read (omega arith) (omega arith) steps few b.1 in
            record {
              registers = r.value ∷ t.registers;
              left = t.left;
              further = t.further;
              same = ap (λ v. v ∷ ws) r.same ∙ ap (λ v. decimal r.value ∷ v) t.same;
              room = omega (arith, t.room);
              each = (r.good, t.each);
            }
        | inr full ↦ absurd (let g = sym (cond-false (ltb k 8) (register_fault (plain w)) (Some UnknownWord) full) ∙ b.0 in cc)
      ]
]

-- the words begin with a step, and go on with further steps
record Step (v n o : ℕ) (ws : List (List ℕ)) : Type 0 where
  step : RawStep
  left : List (List ℕ)
  outs : ℕ
  outs_are : outs ≡ o + outs_of step
  further : Further v (n + 1) outs left
  same : ws ≡ step_words step ++ left
  is : IsStep step

-- what the name of a step says of the words after it
step_from : (v fuel n o : ℕ) (w : List ℕ) (ws : List (List ℕ)) (s : Option StepName) → Reader v fuel → length ws ≤ fuel → step_name w ≡ s → step_fault s n o ≡ None → fault_from (expected_in s v n o ++ []) ws ≡ None → n ≤ 64 → o ≤ 8 → Step v n o (w ∷ ws)
step_from v fuel n o w ws None read low is fits e steps few = absurd cc
step_from v fuel n o w ws (Some name.Const) read low is fits e steps few =
    let below = ltb-true n 64 (unless_none (ltb n 64) TooManySteps fits) in
    let a = register_next (OfWhole ∷ OfBar v (n + 1) o ∷ []) ws e in
    let b = whole_next (OfBar v (n + 1) o ∷ []) a.rest a.goes in
    let t = read (n + 1) o b.rest (omega (arith, low, ap length a.same, ap length b.same)) (omega arith) few b.goes in
    let word = (named_word w name.Const is).0 in
    let first = a.same in
    let second = b.same in
    record { step = step.Const a.value b.value; left = b.rest; outs = o; outs_are = omega arith; further = t; same = cc; is = (a.good, b.good) }
step_from v fuel n o w ws (Some (name.Compute operation)) read low is fits e steps few =
    let below = ltb-true n 64 (unless_none (ltb n 64) TooManySteps fits) in
    let a = register_next (OfRegister ∷ OfRegister ∷ OfBar v (n + 1) o ∷ []) ws e in
    let b = register_next (OfRegister ∷ OfBar v (n + 1) o ∷ []) a.rest a.goes in
    let c = register_next (OfBar v (n + 1) o ∷ []) b.rest b.goes in
    let t = read (n + 1) o c.rest (omega (arith, low, ap length a.same, ap length b.same, ap length c.same)) (omega arith) few c.goes in
    let word = (named_word w (name.Compute operation) is).0 in
    let first = a.same in
    let second = b.same in
    let third = c.same in
    record { step = step.Compute operation a.value b.value c.value; left = c.rest; outs = o; outs_are = omega arith; further = t; same = cc; is = (a.good, b.good, c.good) }
step_from v fuel n o w ws (Some name.Has) read low is fits e steps few =
    let below = ltb-true n 64 (unless_none (ltb n 64) TooManySteps fits) in
    let a = register_next (OfName ∷ OfRow ∷ OfBar v (n + 1) o ∷ []) ws e in
    let b = name_next (OfRow ∷ OfBar v (n + 1) o ∷ []) a.rest a.goes in
    let c = row_next (OfBar v (n + 1) o ∷ []) b.rest b.goes in
    let t = read (n + 1) o c.rest (omega (arith, low, ap length a.same, ap length b.same, ap length c.same)) (omega arith) few c.goes in
    let word = (named_word w name.Has is).0 in
    let first = a.same in
    let second = b.same in
    let third = c.same in
    record { step = step.Has a.value b.value c.value; left = c.rest; outs = o; outs_are = omega arith; further = t; same = cc; is = (a.good, b.good, c.good) }
step_from v fuel n o w ws (Some name.Load) read low is fits e steps few =
    let below = ltb-true n 64 (unless_none (ltb n 64) TooManySteps fits) in
    let a = register_next (OfName ∷ OfRow ∷ OfPlain ∷ OfBar v (n + 1) o ∷ []) ws e in
    let b = name_next (OfRow ∷ OfPlain ∷ OfBar v (n + 1) o ∷ []) a.rest a.goes in
    let c = row_next (OfPlain ∷ OfBar v (n + 1) o ∷ []) b.rest b.goes in
    let d = plain_next (OfBar v (n + 1) o ∷ []) c.rest c.goes in
    let t = read (n + 1) o d.rest (omega (arith, low, ap length a.same, ap length b.same, ap length c.same, ap length d.same)) (omega arith) few d.goes in
    let word = (named_word w name.Load is).0 in
    let first = a.same in
    let second = b.same in
    let third = c.same in
    let fourth = d.same in
    record { step = step.Load a.value b.value c.value d.value; left = d.rest; outs = o; outs_are = omega arith; further = t; same = cc; is = (a.good, b.good, c.good, d.good) }
step_from v fuel n o w ws (Some name.Store) read low is fits e steps few =
    let below = ltb-true n 64 (unless_none (ltb n 64) TooManySteps fits) in
    let a = name_next (OfRow ∷ OfPlain ∷ OfRegister ∷ OfBar v (n + 1) o ∷ []) ws e in
    let b = row_next (OfPlain ∷ OfRegister ∷ OfBar v (n + 1) o ∷ []) a.rest a.goes in
    let c = plain_next (OfRegister ∷ OfBar v (n + 1) o ∷ []) b.rest b.goes in
    let d = register_next (OfBar v (n + 1) o ∷ []) c.rest c.goes in
    let t = read (n + 1) o d.rest (omega (arith, low, ap length a.same, ap length b.same, ap length c.same, ap length d.same)) (omega arith) few d.goes in
    let word = (named_word w name.Store is).0 in
    let first = a.same in
    let second = b.same in
    let third = c.same in
    let fourth = d.same in
    record { step = step.Store a.value b.value c.value d.value; left = d.rest; outs = o; outs_are = omega arith; further = t; same = cc; is = (a.good, b.good, c.good, d.good) }
step_from v fuel n o w ws (Some name.Insert) read low is fits e steps few =
    let below = ltb-true n 64 (unless_none (ltb n 64) TooManySteps fits) in
    let a = name_next (OfRow ∷ OfRegister ∷ OfMore v 1 (n + 1) o ∷ []) ws e in
    let b = row_next (OfRegister ∷ OfMore v 1 (n + 1) o ∷ []) a.rest a.goes in
    let c = register_next (OfMore v 1 (n + 1) o ∷ []) b.rest b.goes in
    let r = registers_from c.rest v fuel 1 (n + 1) o read (omega (arith, low, ap length a.same, ap length b.same, ap length c.same)) (omega arith) (omega arith) few c.goes in
    let word = (named_word w name.Insert is).0 in
    let first = a.same in
    let second = b.same in
    let third = c.same in
    let fourth = r.same in
    record {
      step = step.Insert a.value b.value (c.value ∷ r.registers);
      left = r.left;
      outs = o;
      outs_are = omega arith;
      further = r.further;
      same = cc;
      is = (a.good, b.good, omega arith, omega (arith, r.room), (c.good, r.each));
    }
step_from v fuel n o w ws (Some name.Delete) read low is fits e steps few =
    let below = ltb-true n 64 (unless_none (ltb n 64) TooManySteps fits) in
    let a = name_next (OfRow ∷ OfBar v (n + 1) o ∷ []) ws e in
    let b = row_next (OfBar v (n + 1) o ∷ []) a.rest a.goes in
    let t = read (n + 1) o b.rest (omega (arith, low, ap length a.same, ap length b.same)) (omega arith) few b.goes in
    let word = (named_word w name.Delete is).0 in
    let first = a.same in
    let second = b.same in
    record { step = step.Delete a.value b.value; left = b.rest; outs = o; outs_are = omega arith; further = t; same = cc; is = (a.good, b.good) }
step_from v fuel n o w ws (Some name.Check) read low is fits e steps few =
    let below = ltb-true n 64 (unless_none (ltb n 64) TooManySteps fits) in
    let a = register_next (OfBar v (n + 1) o ∷ []) ws e in
    let t = read (n + 1) o a.rest (omega (arith, low, ap length a.same)) (omega arith) few a.goes in
    let word = (named_word w name.Check is).0 in
    let first = a.same in
    record { step = step.Check a.value; left = a.rest; outs = o; outs_are = omega arith; further = t; same = cc; is = a.good }
step_from v fuel n o w ws (Some name.Skip) read low is fits e steps few =
    let below = ltb-true n 64 (unless_none (ltb n 64) TooManySteps fits) in
    let a = register_next (OfPlain ∷ OfBar v (n + 1) o ∷ []) ws e in
    let b = plain_next (OfBar v (n + 1) o ∷ []) a.rest a.goes in
    let t = read (n + 1) o b.rest (omega (arith, low, ap length a.same, ap length b.same)) (omega arith) few b.goes in
    let word = (named_word w name.Skip is).0 in
    let first = a.same in
    let second = b.same in
    record { step = step.Skip a.value b.value; left = b.rest; outs = o; outs_are = omega arith; further = t; same = cc; is = (a.good, b.good) }
step_from v fuel n o w ws (Some name.Out) read low is fits e steps few =
    let both = and_parts (ltb n 64) (ltb o 8) (unless_none (ltb n 64 && ltb o 8) TooManySteps fits) in
    let below = ltb-true n 64 both.0 in
    let rare = ltb-true o 8 both.1 in
    let a = register_next (OfBar v (n + 1) (o + 1) ∷ []) ws e in
    let t = read (n + 1) (o + 1) a.rest (omega (arith, low, ap length a.same)) (omega arith) (omega arith) a.goes in
    let word = (named_word w name.Out is).0 in
    let first = a.same in
    record { step = step.Out a.value; left = a.rest; outs = o + 1; outs_are = omega arith; further = t; same = cc; is = a.good }

-- where a bar stood: a step, or a deed and the end
data Behind (v n o : ℕ) (ws : List (List ℕ)) : Type 0 where
  a_step : Step v n o ws → Behind v n o ws
  a_deed : DeedIn v ws → Behind v n o ws

behind_bar : (v fuel n o : ℕ) (ws : List (List ℕ)) → Reader v fuel → length ws ≤ fuel → n ≤ 64 → o ≤ 8 → fault_from (OfStep v n o ∷ []) ws ≡ None → Behind v n o ws
behind_bar v fuel n o [] read low steps few e = absurd cc
behind_bar v fuel n o (w ∷ ws) read low steps few e = elim (cases_Bool (is_deed w)) [
  | inl deed ↦
      let f : fault_from (expected_in_deed v w ++ []) ws ≡ None = rw deed at e in
      a_deed (deed_from v w ws deed f)
  | inr other ↦
      let f = sym (at_step w ws v n o other) ∙ e in
      let b = both_none (step_fault (step_name w) n o) (fault_from (expected_in (step_name w) v n o ++ []) ws) f in
      a_step (step_from v fuel n o w ws (step_name w) read (omega arith) refl b.0 b.1 steps few)
]

-- what is after a bar, read
further_with : (v n o : ℕ) (w : List ℕ) (ws : List (List ℕ)) → w ≡ codes "|" → n ≤ 64 → o ≤ 8 → Behind v n o ws → Further v n o (w ∷ ws)
further_with v n o w ws bar steps few (a_deed d) = record {
  steps = [];
  deed = Some d.deed;
  same = ap (λ v. v ∷ ws) bar ∙ ap (λ v. codes "|" ∷ v) d.same;
  room = omega arith;
  few = omega arith;
  each = tt;
  last = d.is;
  lists = d.lists;
}
further_with v n o w ws bar steps few (a_step s) =
    let t = s.further in
    record {
      steps = s.step ∷ t.steps;
      deed = t.deed;
      same = ap (λ v. v ∷ ws) bar ∙ ap (λ v. codes "|" ∷ v) (s.same ∙ ap (λ v. step_words s.step ++ v) t.same) ∙ sym (body_more s.step t.steps t.deed);
      room = omega (arith, t.room);
      few = omega (arith, t.few, s.outs_are, sum_by-cons outs_of s.step t.steps);
      each = (s.is, t.each);
      last = t.last;
      lists = t.lists;
    }

-- words without a fault, where a bar or the end may be, are those of further steps and a deed
pub further_from : (v fuel : ℕ) → Reader v fuel
further_from v fuel n o [] low steps few e = record { steps = []; deed = None; same = refl; room = omega arith; few = omega arith; each = tt; last = tt; lists = tt }
further_from v zero n o (w ∷ ws) low steps few e = absurd (omega arith)
further_from v (suc fuel) n o (w ∷ ws) low steps few e =
    let b = both_none (unless (is_bar w) UnknownWord) (fault_from (OfStep v n o ∷ []) ws) e in
    let bar : w ≡ codes "|" = (bytes_eq-Decides w (codes "|")).0 (unless_none (is_bar w) UnknownWord b.0) in
    further_with v n o w ws bar steps few (behind_bar v fuel n o ws (further_from v fuel) (omega arith) steps few b.1)

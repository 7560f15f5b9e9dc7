-- A word without a fault spells what its place expects.
use Rattle.std.proofs.Common.{◌≡◌, ℕ, ◌<◌, ◌^◌, Bool, true, false, not, eqb, ltb, ℤ, List, [], ◌∷◌, ◌++◌, length, Option, Some, None, refl, ap, sym, ◌∙◌, inl, inr}
use Rattle.std.specs.Prelude.{codes, decimal, is_some, IsTrue}
use Rattle.std.specs.Fmt.{signed_decimal}
use Rattle.std.proofs.lemmas.List.{append-nil}
use Rattle.std.proofs.lemmas.Bool.{cases_Bool, cond-true, cond-false, eqb-true, ltb-true, and_parts}
use Rattle.line_words.specs.Words.{plain, signed_of, is_name}
use Rattle.line_words.specs.Access.{letter_if, letters, access_word, IsAccess, is_in_order, is_letters, before_colon, after_colon, access_fault}
use Rattle.line_words.specs.Faults.{unless, or_else}
use Rattle.log_text.specs.Fault.{register_fault, row_fault}
use Rattle.log_text.specs.Statement.{row_word, IsRegister, IsRowNumber}
use Rattle.line_words.specs.declared.fault.LineFault.{LineFault}
use Rattle.line_words.specs.declared.fault.LineFault.TheVariants.{UnknownWord, BadNumber, BadName, BadRegister}
use Rattle.line_words.specs.declared.access.RawAccess.{RawAccess}
use Rattle.model_base.specs.declared.deed.Kinds.{Kinds}
use Rattle.model_base.specs.declared.statement.RowName.{RowName}
use Rattle.model_base.specs.declared.statement.RowName.TheVariants.{Number, Held}
use Rattle.model_base.specs.Body.{fits_64_bits}
use Rattle.line_words.proofs.Plain.{plain_some}
use Rattle.line_words.proofs.Whole.{whole_some}
use Rattle.line_words.proofs.AccessLemmas.{order_nil, access_is}

-- a word spells a value of this kind
pub record Spells (A : Type 0) (word_of : A → List ℕ) (Is : A → Type 0) (w : List ℕ) : Type 0 where
  pub value : A
  pub same : w ≡ word_of value
  pub good : Is value

pub both_none : (a b : Option LineFault) → or_else a b ≡ None → (a ≡ None) × (b ≡ None)
both_none None b e = (refl, e)
both_none (Some f) b e = absurd cc

pub unless_none : (b : Bool) (f : LineFault) → unless b f ≡ None → b ≡ true
unless_none true f e = refl
unless_none false f e = absurd cc

some_of : {A : Type 0} (o : Option A) → is_some o ≡ true → (x : A) × (o ≡ Some x)
some_of None e = absurd cc
some_of (Some x) e = (x, refl)

register_value : (o : Option ℕ) → register_fault o ≡ None → (n : ℕ) × (o ≡ Some n) × (n < 16)
register_value None e = absurd cc
register_value (Some n) e = (n, refl, ltb-true n 16 (unless_none (ltb n 16) BadRegister e))

pub plain_spells : (w : List ℕ) → is_some (plain w) ≡ true → Spells ℕ decimal (λ n. n < 2 ^ 32) w
plain_spells w e =
    let s = some_of (plain w) e in
    let p = plain_some w s.0 s.1 in
    record { value = s.0; same = p.0; good = p.1 }

pub whole_spells : (w : List ℕ) → is_some (signed_of w) ≡ true → Spells ℤ signed_decimal (λ z. IsTrue (fits_64_bits z)) w
whole_spells w e =
    let s = some_of (signed_of w) e in
    let p = whole_some w s.0 s.1 in
    record { value = s.0; same = p.0; good = p.1 }

pub register_spells : (w : List ℕ) → register_fault (plain w) ≡ None → Spells ℕ decimal IsRegister w
register_spells w e =
    let s = register_value (plain w) e in
    let p = plain_some w s.0 s.1 in
    record { value = s.0; same = p.0; good = s.2 }

pub row_spells : (w : List ℕ) → row_fault w ≡ None → Spells RowName row_word IsRowNumber w
row_spells [] e = absurd cc
row_spells (b ∷ bs) e = elim (cases_Bool (eqb b 114)) [
  | inl held ↦
      let r = register_spells bs (sym (cond-true (eqb b 114) (register_fault (plain bs)) (unless (is_some (plain (b ∷ bs))) BadNumber) held) ∙ e) in
      record { value = Held r.value; same = ap (λ v. v ∷ bs) (eqb-true b 114 held) ∙ ap (λ v. 114 ∷ v) r.same; good = r.good }
  | inr number ↦
      let f : unless (is_some (plain (b ∷ bs))) BadNumber ≡ None = sym (cond-false (eqb b 114) (register_fault (plain bs)) (unless (is_some (plain (b ∷ bs))) BadNumber) number) ∙ e in
      let r = plain_spells (b ∷ bs) (unless_none (is_some (plain (b ∷ bs))) BadNumber f) in
      record { value = Number r.value; same = r.same; good = r.good }
]

-- the first letter, if it is there, and the others
letter_first : (c : ℕ) (cs bs : List ℕ) → is_in_order (c ∷ cs) bs ≡ true → (b : Bool) × (rest : List ℕ) × (bs ≡ letter_if b c ++ rest) × (is_in_order cs rest ≡ true)
letter_first c cs [] e = (false, [], refl, order_nil cs)
letter_first c cs (x ∷ bs) e = elim (cases_Bool (eqb x c)) [
  | inl is ↦ (true, bs, ap (λ v. v ∷ bs) (eqb-true x c is), sym (cond-true (eqb x c) (is_in_order cs bs) (is_in_order cs (x ∷ bs)) is) ∙ e)
  | inr other ↦ (false, x ∷ bs, refl, sym (cond-false (eqb x c) (is_in_order cs bs) (is_in_order cs (x ∷ bs)) other) ∙ e)
]

none_left : (bs : List ℕ) → is_in_order [] bs ≡ true → bs ≡ []
none_left [] e = refl
none_left (b ∷ bs) e = absurd cc

letters_spell : (w : List ℕ) → is_in_order (codes "RIUD") w ≡ true → (k : Kinds) × (w ≡ letters k)
letters_spell w e =
    let r = letter_first 82 (codes "IUD") w e in
    let i = letter_first 73 (codes "UD") r.1 r.3 in
    let u = letter_first 85 (codes "D") i.1 i.3 in
    let d = letter_first 68 [] u.1 u.3 in (
      record { read = r.0; insert = i.0; update = u.0; delete = d.0 },
      r.2 ∙ ap (λ v. letter_if r.0 82 ++ v) (i.2 ∙ ap (λ v. letter_if i.0 73 ++ v) (u.2 ∙ ap (λ v. letter_if u.0 85 ++ v) (d.2 ∙ ap (λ v. letter_if d.0 68 ++ v) (none_left d.1 d.3) ∙ append-nil (letter_if d.0 68)))),
    )

pub access_spells : (w : List ℕ) → access_fault w ≡ None → Spells RawAccess access_word IsAccess w
access_spells w e =
    let t = before_colon w in
    let o = plain (before_colon (after_colon w)) in
    let ls = after_colon (after_colon w) in
    let p = both_none (unless (is_name t) BadName) (or_else (unless (is_some o) BadNumber) (unless (is_letters ls) UnknownWord)) e in
    let q = both_none (unless (is_some o) BadNumber) (unless (is_letters ls) UnknownWord) p.1 in
    let row = some_of o (unless_none (is_some o) BadNumber q.0) in
    let fit = unless_none (is_letters ls) UnknownWord q.1 in
    let k = letters_spell ls (and_parts (not (eqb (length ls) 0)) (is_in_order (codes "RIUD") ls) fit).1 in
    let a = access_is w t row.0 ls refl row.1 refl fit in
    record {
      value = record { table = t; row = row.0; kinds = k.0 };
      same = a.0 ∙ ap (λ v. t ++ 58 ∷ (decimal row.0 ++ 58 ∷ v)) k.1;
      good = (unless_none (is_name t) BadName p.0, a.1, λ none. a.2 (k.1 ∙ none));
    }

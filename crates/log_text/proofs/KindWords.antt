-- The words that name kinds.
use Rattle.std.proofs.Common.{◌≡◌, ℕ, ◌<◌, ◌≤◌, length, get_or, sym, ap, arith, Bool, true, false, cond, List, ◌⊎◌, inl, inr, Option, Some, None, refl, subst}
use Rattle.std.specs.Prelude.{codes, bytes_eq}
use Rattle.std.proofs.lemmas.Slice.Eq.{bytes_eq-Decides, text_from_reads}
use Rattle.model_base.specs.declared.deed.Kind.{Kind}
use Rattle.model_base.specs.declared.deed.Kind.TheVariants.{Read, Insert, Update, Delete}
use Rattle.log_text.specs.Statement.{kind_word}
use Rattle.log_text.specs.Fault.{kind_named}

-- one row of the table
row : (b : Bool) (t k : Kind) (rest : Option Kind) → cond b (Some t) rest ≡ Some k → ((b ≡ true) × (t ≡ k)) ⊎ (rest ≡ Some k)
row true t k rest e = inl (refl, cc)
row false t k rest e = inr e

found : (w : List ℕ) (t k : Kind) → kind_named (kind_word t) ≡ Some t → (bytes_eq w (kind_word t) ≡ true) × (t ≡ k) → (w ≡ kind_word k) × (kind_named (kind_word k) ≡ Some k)
found w t k n h = subst (λ v. (w ≡ kind_word v) × (kind_named (kind_word v) ≡ Some v)) h.1 ((bytes_eq-Decides w (kind_word t)).0 h.0, n)

-- a word that names a kind is the kind's word
pub named_kind : (w : List ℕ) (k : Kind) → kind_named w ≡ Some k → (w ≡ kind_word k) × (kind_named (kind_word k) ≡ Some k)
named_kind w k e0 =
    elim (row (bytes_eq w (codes "READ")) Read k _ e0) [
      | inl h ↦ found w Read k refl h
      | inr e1 ↦
          elim (row (bytes_eq w (codes "INSERT")) Insert k _ e1) [
            | inl h ↦ found w Insert k refl h
            | inr e2 ↦
                elim (row (bytes_eq w (codes "UPDATE")) Update k _ e2) [
                  | inl h ↦ found w Update k refl h
                  | inr e3 ↦
                      elim (row (bytes_eq w (codes "DELETE")) Delete k None e3) [
                        | inl h ↦ found w Delete k refl h
                        | inr e4 ↦ cc
                      ]
                ]
          ]
    ]

-- each kind's word names it
pub kind_of_word : (k : Kind) → kind_named (kind_word k) ≡ Some k
kind_of_word Read = refl
kind_of_word Insert = refl
kind_of_word Update = refl
kind_of_word Delete = refl

-- the words of six letters, letter by letter
pub named_insert : (w : List ℕ) → 6 ≤ length w → length w < 7 → get_or w 0 0 ≡ 73 → get_or w 1 0 ≡ 78 → get_or w 2 0 ≡ 83 → get_or w 3 0 ≡ 69 → get_or w 4 0 ≡ 82 → get_or w 5 0 ≡ 84 → Some Insert ≡ kind_named w
named_insert w low high a b c d e f = let size : length w ≡ 6 = omega arith in ap kind_named (sym (text_from_reads w (codes "INSERT") size (a, (b, (c, (d, (e, (f, tt))))))))

pub named_update : (w : List ℕ) → 6 ≤ length w → length w < 7 → get_or w 0 0 ≡ 85 → get_or w 1 0 ≡ 80 → get_or w 2 0 ≡ 68 → get_or w 3 0 ≡ 65 → get_or w 4 0 ≡ 84 → get_or w 5 0 ≡ 69 → Some Update ≡ kind_named w
named_update w low high a b c d e f = let size : length w ≡ 6 = omega arith in ap kind_named (sym (text_from_reads w (codes "UPDATE") size (a, (b, (c, (d, (e, (f, tt))))))))

pub named_delete : (w : List ℕ) → 6 ≤ length w → length w < 7 → get_or w 0 0 ≡ 68 → get_or w 1 0 ≡ 69 → get_or w 2 0 ≡ 76 → get_or w 3 0 ≡ 69 → get_or w 4 0 ≡ 84 → get_or w 5 0 ≡ 69 → Some Delete ≡ kind_named w
named_delete w low high a b c d e f = let size : length w ≡ 6 = omega arith in ap kind_named (sym (text_from_reads w (codes "DELETE") size (a, (b, (c, (d, (e, (f, tt))))))))

-- The ends of some slots.
use Rattle.std.proofs.Common.{◌≡◌, ℕ, ◌<◌, zero, suc, List, [], ◌∷◌, Some, length, get_or, set as put, refl, ap, arith}
use Rattle.model_base.specs.declared.deed.Record.{Record}
use Rattle.grants_base.specs.Book.{end_slot}

-- the record of a slot with another end
pub put_end : (entries : List Record) (slot place : ℕ) (default : Record) → slot < length entries
    → put entries slot (record { grant = (get_or entries slot default).grant; end = Some place }) ≡ end_slot entries slot place
put_end [] slot place default within = absurd (omega arith)
put_end (entry ∷ entries) zero place default within = refl
put_end (entry ∷ entries) (suc slot) place default within = ap (λ r. entry ∷ r) (put_end entries slot place default (omega arith))

pub length-end_slot : (entries : List Record) (slot place : ℕ) → length (end_slot entries slot place) ≡ length entries
length-end_slot [] slot place = refl
length-end_slot (entry ∷ entries) zero place = refl
length-end_slot (entry ∷ entries) (suc slot) place = ap suc (length-end_slot entries slot place)

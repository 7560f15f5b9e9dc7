-- What a place of a batch of a log is referred to.
use Rattle.std.proofs.Common.{◌≡◌, ◌<◌, ◌+◌, ℕ, List, length, get_or, map, sym, ap, ◌∙◌, arith}
use Rattle.std.proofs.lemmas.List.{get_or-map}
use Rattle.model_base.specs.declared.reference.Reference.{Reference}
use Rattle.model_base.specs.declared.reference.Reference.TheVariants.{Base}
use Rattle.model_base.specs.References.{references}
use Rattle.bohm_core_base.specs.Batch.{reference_words}
use Rattle.log_batch.specs.Laws.{IsOfLog, word_of}
use Rattle.log_batch.specs.Supplied.{LogRange, batch_of, range_of}
use Rattle.log_batch.proofs.Counted.{references_counted}
use Rattle.log_batch.proofs.SoundReferences.{references_same}

pub reference-within : (ranged : LogRange) (index number : ℕ) (found : List Reference) → found ≡ references ranged.log.statements ranged.first (ranged.first + index)
    → number < length (reference_words (batch_of ranged) index) → number < length found
reference-within ranged index number found is within = let counted = references_counted ranged index found is in omega arith

pub reference-is : (ranged : LogRange) → IsOfLog (range_of ranged) → (index number : ℕ) (found : List Reference) → found ≡ references ranged.log.statements ranged.first (ranged.first + index)
    → number < length (reference_words (batch_of ranged) index) → word_of ranged.first (get_or found number Base) ≡ get_or (reference_words (batch_of ranged) index) number 0
reference-is ranged of_log index number found is within =
    sym (get_or-map (word_of ranged.first) found number Base 0 (reference-within ranged index number found is within))
    ∙ ap (λ (list : List Reference). get_or (map (word_of ranged.first) list) number 0) is
    ∙ ap (λ (words : List ℕ). get_or words number 0) (sym (references_same (range_of ranged) of_log index))

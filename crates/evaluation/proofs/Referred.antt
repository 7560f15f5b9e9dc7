-- What a place refers to lies before it.
use Rattle.std.proofs.Common.{◌<◌, ◌≤◌, ℕ, zero, suc, get_or, map, arith}
use Rattle.std.specs.Prelude.{All}
use Rattle.std.proofs.lemmas.List.Elements.{All-append, All-get_or, All-map}
use Rattle.model_base.specs.declared.row.Key.{Key}
use Rattle.model_base.proofs.Replay.{by_cases}
use Rattle.bohm_core_base.specs.Batch.{Access, Batch, IsSoundBatch, changes_key, place_has_deed_on, prior_reference, reference_words, words_length, writer_reference}
use Rattle.evaluation.specs.ReadSource.{IsReferred, Reader}

writer-low : (b : Batch) (n : ℕ) (key : Key) → writer_reference b n key ≤ n
writer-low b zero key = omega arith
writer-low b (suc n) key =
    by_cases (changes_key (b.accesses n) key) (λ here. rw here (omega arith)) (λ other. rw other (let low = writer-low b n key in omega arith))

prior-low : (b : Batch) (n table : ℕ) → prior_reference b n table ≤ n
prior-low b zero table = omega arith
prior-low b (suc n) table =
    by_cases (place_has_deed_on b n table) (λ here. rw here (omega arith)) (λ other. rw other (let low = prior-low b n table in omega arith))

all-low : (b : Batch) (n : ℕ) → All (λ word. word ≤ n) (reference_words b n)
unfolding reference_words
all-low b n =
    All-append (λ word. word ≤ n) (map (λ (access : Access). writer_reference b n access.key) (b.accesses n)) (map (λ table. prior_reference b n table) (b.tables n))
    (All-map (λ word. word ≤ n) (λ (access : Access). writer_reference b n access.key) (b.accesses n) (λ k d low. writer-low b n _))
    (All-map (λ word. word ≤ n) (λ table. prior_reference b n table) (b.tables n) (λ k d low. prior-low b n _))

pub referred-low : (reader : Reader) (other : ℕ) → IsReferred reader other → other < reader.index
referred-low reader other is =
    let low : get_or (reference_words reader.batch reader.index) is.number 0 ≤ reader.index = All-get_or (λ word. word ≤ reader.index) (reference_words reader.batch reader.index) is.number 0 is.within (all-low reader.batch reader.index) in
    let here = is.here in
    omega arith

-- a place has a word
pub word-there : (b : Batch) → IsSoundBatch b → (n : ℕ) → 0 < words_length b n
unfolding words_length
word-there b sound n = let some = sound.outcome n in omega arith

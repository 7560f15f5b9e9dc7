-- What is at hand of the references of a range's places.
use Rattle.std.proofs.Common.{◌≡◌, ◌<◌, ◌≤◌, ◌+◌, ◌-◌, ◌++◌, ℕ, true, Some, List, [], ◌∷◌, get_or, length, map, sym, ap, ◌∙◌, arith, refl, false, below_more}
use Rattle.std.specs.Prelude.{slice_get}
use Rattle.std.specs.declared.vec.Vec.{Vec}
use Rattle.std.specs.declared.alloc.Global.{Global}
use Rattle.std.proofs.lemmas.List.{get_or-map, get_or_append_left, get_or-append_right, length-append, length-map}
use Rattle.model_base.specs.declared.reference.Reference.{Reference}
use Rattle.model_base.specs.declared.statement.Statement.{Statement}
use Rattle.model_base.specs.References.{batch_references, prior, references, tables_of, writer}
use Rattle.model_base.specs.Versions.{accesses_of}
use Rattle.log_batch.specs.declared.referred.References.TheVariants.{Found, Counted}
use Rattle.log_batch.specs.Referred.{AreAtHand, AreCounts}
use Rattle.bohm_core_base.specs.Batch.{reference_words}
use Rattle.log_batch.specs.Supplied.{LogRange, batch_of}
use Rattle.log_batch.proofs.Counted.{references_counted}
use Rattle.log_batch.proofs.Before.{reference-count, reference-list}

-- references that were found are counted by their lists
pub counts-found : (log : List Statement) (first size : ℕ)
    → AreCounts log first size (map (λ (list : List Reference). length list) (batch_references log first (first + size)))
counts-found log first size =
    let listed = batch_references log first (first + size) in
    let count : length listed ≡ size = reference-count log first size in
    record {
      every = length-map listed (λ (list : List Reference). length list) ∙ count;
      each = λ index within.
          get_or-map (λ (list : List Reference). length list) listed index [] 0 (omega arith)
          ∙ ap (λ (list : List Reference). length list) (reference-list log first size index within);
    }

pub found-at-hand : (log : List Statement) (first last : ℕ) (listed : List (List Reference)) → first ≤ last
    → listed ≡ batch_references log first last → AreAtHand log first (last - first) (Found listed)
found-at-hand log first last listed order is =
    let end : last ≡ first + (last - first) = omega arith in
    let all : listed ≡ batch_references log first (first + (last - first)) = is ∙ ap (batch_references log first) end in
    record {
      found = λ _. all;
      counts = rw all (counts-found log first (last - first));
    }

-- a statement has a reference for each access, and for each of its tables
pub reference-length : (log : List Statement) (first place : ℕ) (statement : Statement) → slice_get log place ≡ Some statement
    → length (references log first place) ≡ length (accesses_of statement.form) + length (tables_of statement.form)
reference-length log first place statement is =
    rw is
    (let into = length-append (map (writer log first place) (accesses_of statement.form)) (map (prior log first place) (tables_of statement.form)) in
    let rows = length-map (accesses_of statement.form) (writer log first place) in
    let deeds = length-map (tables_of statement.form) (prior log first place) in
    omega arith)

-- one more place is counted
pub counts-more : (log : List Statement) (first place : ℕ) (counts : List ℕ) (count : ℕ) → first ≤ place
    → count ≡ length (references log first place) → AreCounts log first (place - first) counts
    → AreCounts log first ((place + 1) - first) (counts ++ count ∷ [])
counts-more log first place counts count low is before =
    let every = before.every in
    let next : (place + 1) - first ≡ (place - first) + 1 = omega arith in
    let here : first + (place - first) ≡ place = omega arith in
    let start : (place - first) - (place - first) ≡ 0 = omega arith in
    let last : get_or (counts ++ count ∷ []) (place - first) 0 ≡ length (references log first (first + (place - first))) =
    get_or-append_right counts (count ∷ []) (place - first) (place - first) 0 every (omega arith)
    ∙ ap (λ n. get_or (count ∷ []) n 0) start
    ∙ is ∙ ap (λ n. length (references log first n)) (sym here) in
    rw next record {
      every = (let all = length-append counts (count ∷ []) in omega arith);
      each = below_more (λ index. get_or (counts ++ count ∷ []) index 0 ≡ length (references log first (first + index))) (place - first)
          (λ index within. get_or_append_left counts (count ∷ []) 0 index (omega arith) ∙ before.each index within)
          last;
    }

pub counted-at-hand : (log : List Statement) (first size : ℕ) (counts : Vec ℕ Global) → AreCounts log first size counts.items
    → AreAtHand log first size (Counted counts)
counted-at-hand log first size counts is = record {
  found = λ (no : false ≡ true). cc;
  counts = is;
}

-- an index counts as many references as the machine's batch has at it
pub count-is : (ranged : LogRange) (index : ℕ) (counts : List ℕ) → AreCounts ranged.log.statements ranged.first ranged.size counts
    → index < ranged.size → get_or counts index 0 ≡ length (reference_words (batch_of ranged) index)
count-is ranged index counts are within =
    are.each index within
    ∙ references_counted ranged index (references ranged.log.statements ranged.first (ranged.first + index)) refl

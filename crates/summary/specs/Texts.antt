-- How the counts are spelled.
use Rattle.std.specs.Prelude.{◌==◌, ◌++◌, Bool, List, [], codes, false, if◌then◌else◌, slice_index, true, ℕ}
use Rattle.std.specs.Fmt.{decimal}
use Rattle.std.specs.List.{enumerate_from, flat_map}
use Rattle.summary.specs.Lines.{outcome_words, refusal_words}
use Rattle.summary.specs.declared.counts.Counts.{Counts}

-- the line of a count, by its word
abbrev pub count_text : List ℕ → ℕ → List ℕ
count_text word count = word ++ codes " " ++ decimal count ++ codes "\n"

-- the line of a refusal's word, where it occurs
abbrev pub refusal_text : List ℕ → ℕ → List ℕ
refusal_text word count = if count == 0 then [] else codes "refused " ++ count_text word count

-- the line of an outcome's word, or of a refusal's
abbrev pub word_text : Bool → List ℕ → ℕ → List ℕ
word_text is_refusal word count = if is_refusal then refusal_text word count else count_text word count

-- the lines of some words with their counts, in order
abbrev pub words_text : Bool → List (List ℕ) → List ℕ → List ℕ
words_text are_refusals words counts =
    flat_map (λ entry. word_text are_refusals entry.1 (slice_index counts entry.0)) (enumerate_from 0 words)

-- the lines of all lines, of places, and of what became of them
abbrev pub place_counts_text : Counts → List ℕ
place_counts_text counts =
    count_text (codes "lines") counts.lines ++ count_text (codes "places") counts.places ++ words_text false outcome_words counts.outcomes

-- the lines of refused lines, and of why they were
abbrev pub refusal_counts_text : Counts → List ℕ
refusal_counts_text counts = count_text (codes "refused") counts.refused ++ words_text true refusal_words counts.refusals

-- the lines of a summary
abbrev pub counts_text : Counts → List ℕ
counts_text counts = place_counts_text counts ++ refusal_counts_text counts

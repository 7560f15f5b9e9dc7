-- What the placers of all partitions found, put together, is what each place is referred to.
use Rattle.std.proofs.Common.{◌≡◌, ℕ, zero, suc, ◌+◌, ◌-◌, ◌<◌, true, false, cond, Option, Some, None, List, [], ◌∷◌, ◌++◌, length, map, fold, replicate, refl, sym, ◌∙◌, ap, arith, nat_lt, ◌==◌, slice_get, slice_range, slice_set, take, drop}
use Rattle.std.specs.List.{range_with_len}
use Rattle.std.specs.Option.{option_map_or}
use Rattle.std.proofs.lemmas.Bool.Decides.{nat_tests}
use Rattle.std.proofs.lemmas.List.{append-nil, map-append}
use Rattle.std.proofs.Common.{append_assoc}
use Rattle.std.proofs.lemmas.List.Sums.{fold-append}
use Rattle.model_base.proofs.Replay.{by_cases}
use Rattle.model_base.specs.declared.reference.Reference.{Reference}
use Rattle.model_base.specs.declared.reference.Reference.TheVariants.{Base, At}
use Rattle.model_base.specs.declared.statement.Access.{Access}
use Rattle.model_base.specs.declared.statement.Statement.{Statement}
use Rattle.model_base.specs.References.{batch_references, prior, references, references_of, tables_of, writer}
use Rattle.model_base.specs.Versions.{accesses_of}
use Rattle.placing.specs.declared.part.Found.{Found}
use Rattle.placing.specs.Parts.{ArePartsOf, PartOf, Referral, access_referral, empty_part, own_reference, own_references, part_of, place_found, referrals_at, referrals_of, table_referral, with_end, with_place, with_reference}
use Rattle.placing.specs.Refs.{first_count, first_ends, pieces, with_found, with_part}

-- all references of a batch, one place after another
abbrev all : List (List Referral) → List Referral
all [] = []
all (referrals ∷ later) = referrals ++ all later

-- what a partition finds among the references, of which the first has this index
abbrev found_from : ℕ → ℕ → List Referral → List Found
found_from partition index [] = []
found_from partition index (referral ∷ referrals) = place_found index (own_reference partition referral) ++ found_from partition (suc index) referrals

abbrev ends_from : ℕ → List (List Referral) → List ℕ
ends_from count [] = []
ends_from count (referrals ∷ later) = (count + length referrals) ∷ ends_from (count + length referrals) later

-- a part after references of one place
references_passed : (partition : ℕ) (part : PartOf) (referrals : List Referral) → fold with_reference part (map (own_reference partition) referrals) ≡ record { ends = part.ends; count = part.count + length referrals; found = part.found ++ found_from partition part.count referrals }
references_passed partition part [] =
    ap (λ count. record { ends = part.ends; count = count; found = part.found }) (omega arith)
    ∙ ap (λ found. record { ends = part.ends; count = part.count + 0; found = found }) (sym (append-nil part.found))
references_passed partition part (referral ∷ referrals) =
    references_passed partition (with_reference part (own_reference partition referral)) referrals
    ∙ ap (λ count. record { ends = part.ends; count = count; found = (part.found ++ place_found part.count (own_reference partition referral)) ++ found_from partition (part.count + 1) referrals }) (omega arith)
    ∙ ap (λ found. record { ends = part.ends; count = part.count + suc (length referrals); found = found })
    (append_assoc part.found (place_found part.count (own_reference partition referral)) (found_from partition (part.count + 1) referrals)
    ∙ ap (λ index. part.found ++ (place_found part.count (own_reference partition referral) ++ found_from partition index referrals)) (omega arith))

found-append : (partition index : ℕ) (referrals later : List Referral) → found_from partition index (referrals ++ later) ≡ found_from partition index referrals ++ found_from partition (index + length referrals) later
found-append partition index [] later = ap (λ from. found_from partition from later) (omega arith)
found-append partition index (referral ∷ referrals) later =
    ap (λ rest. place_found index (own_reference partition referral) ++ rest)
    (found-append partition (suc index) referrals later
    ∙ ap (λ from. found_from partition (suc index) referrals ++ found_from partition from later) (omega arith))
    ∙ sym (append_assoc (place_found index (own_reference partition referral)) (found_from partition (suc index) referrals) (found_from partition (index + suc (length referrals)) later))

length-append-referrals : (referrals later : List Referral) → length (referrals ++ later) ≡ length referrals + length later
length-append-referrals [] later = omega arith
length-append-referrals (referral ∷ referrals) later = ap suc (length-append-referrals referrals later) ∙ omega arith

abbrev own-lists : ℕ → List (List Referral) → List (List Reference)
own-lists partition [] = []
own-lists partition (referrals ∷ later) = map (own_reference partition) referrals ∷ own-lists partition later

-- a part after the references of some places
places_passed : (partition : ℕ) (part : PartOf) (batch : List (List Referral)) → fold with_place part (own-lists partition batch) ≡ record { ends = part.ends ++ ends_from part.count batch; count = part.count + length (all batch); found = part.found ++ found_from partition part.count (all batch) }
places_passed partition part [] =
    ap (λ ends. record { ends = ends; count = part.count; found = part.found }) (sym (append-nil part.ends))
    ∙ ap (λ count. record { ends = part.ends ++ []; count = count; found = part.found }) (omega arith)
    ∙ ap (λ found. record { ends = part.ends ++ []; count = part.count + 0; found = found }) (sym (append-nil part.found))
places_passed partition part (referrals ∷ later) =
    let next : PartOf = record { ends = part.ends ++ (part.count + length referrals) ∷ []; count = part.count + length referrals; found = part.found ++ found_from partition part.count referrals } in
    ap (λ (so_far : PartOf). fold with_place (with_end so_far) (own-lists partition later)) (references_passed partition part referrals)
    ∙ places_passed partition next later
    ∙ ap (λ ends. record { ends = ends; count = next.count + length (all later); found = next.found ++ found_from partition next.count (all later) }) (append_assoc part.ends (next.count ∷ []) (ends_from next.count later))
    ∙ ap (λ count. record { ends = part.ends ++ ends_from part.count (referrals ∷ later); count = count; found = next.found ++ found_from partition next.count (all later) }) (omega (arith, length-append-referrals referrals (all later)))
    ∙ ap (λ found. record { ends = part.ends ++ ends_from part.count (referrals ∷ later); count = part.count + length (referrals ++ all later); found = found })
    (append_assoc part.found (found_from partition part.count referrals) (found_from partition next.count (all later))
    ∙ ap (λ found. part.found ++ found) (sym (found-append partition part.count referrals (all later))))

-- the reference so far, and what the partition found instead
abbrev laid : Reference → Reference → Reference
laid before Base = before
laid before (At place) = At place

abbrev laid_all : ℕ → List Reference → List Referral → List Reference
laid_all partition [] referrals = []
laid_all partition (reference ∷ references) [] = reference ∷ references
laid_all partition (reference ∷ references) (referral ∷ referrals) =
    laid reference (own_reference partition referral) ∷ laid_all partition references referrals

set-there : (front rest : List Reference) (old new : Reference) → slice_set (front ++ old ∷ rest) (length front) new ≡ front ++ new ∷ rest
set-there [] rest old new = refl
set-there (reference ∷ front) rest old new = ap (λ more. reference ∷ more) (set-there front rest old new)

one-laid : (front rest : List Reference) (old found : Reference) → fold with_found (front ++ old ∷ rest) (place_found (length front) found) ≡ (front ++ laid old found ∷ []) ++ rest
one-laid front rest old Base = sym (append_assoc front (old ∷ []) rest)
one-laid front rest old (At place) = set-there front rest old (At place) ∙ sym (append_assoc front (At place ∷ []) rest)

length-one-more : (front : List Reference) (reference : Reference) → length (front ++ reference ∷ []) ≡ suc (length front)
length-one-more [] reference = refl
length-one-more (first ∷ front) reference = ap suc (length-one-more front reference)

-- what a partition found is laid over the references so far
found_laid : (partition : ℕ) (front references : List Reference) (referrals : List Referral) → length references ≡ length referrals → fold with_found (front ++ references) (found_from partition (length front) referrals) ≡ front ++ laid_all partition references referrals
found_laid partition front [] [] same = refl
found_laid partition front [] (referral ∷ referrals) same = absurd (omega arith)
found_laid partition front (reference ∷ references) [] same = absurd (omega arith)
found_laid partition front (reference ∷ references) (referral ∷ referrals) same =
    let own = own_reference partition referral in
    let next = front ++ laid reference own ∷ [] in
    fold-append with_found (front ++ reference ∷ references) (place_found (length front) own) (found_from partition (suc (length front)) referrals)
    ∙ ap (λ so_far. fold with_found so_far (found_from partition (suc (length front)) referrals)) (one-laid front references reference own)
    ∙ ap (λ index. fold with_found (next ++ references) (found_from partition index referrals)) (sym (length-one-more front (laid reference own)))
    ∙ found_laid partition next references referrals (omega arith)
    ∙ append_assoc front (laid reference own ∷ []) (laid_all partition references referrals)

-- the references that the partitions below this one found, with the base in the place of the others
abbrev known : ℕ → Referral → Reference
known partition referral = cond (nat_lt referral.partition partition) referral.reference Base

laid-base : (reference : Reference) → laid Base reference ≡ reference
laid-base Base = refl
laid-base (At place) = refl

one-known : (partition : ℕ) (referral : Referral) → laid (known partition referral) (own_reference partition referral) ≡ known (suc partition) referral
one-known partition referral =
    by_cases (nat_lt referral.partition partition)
    (λ less. let other : (referral.partition == partition) ≡ false = grind (arith, nat_tests) in let also : nat_lt referral.partition (suc partition) ≡ true = grind (arith, nat_tests) in rw (less, other, also) refl)
    (λ more. by_cases (referral.partition == partition)
    (λ own. let also : nat_lt referral.partition (suc partition) ≡ true = grind (arith, nat_tests) in rw (more, own, also) (laid-base referral.reference))
    (λ other. let also : nat_lt referral.partition (suc partition) ≡ false = grind (arith, nat_tests) in rw (more, other, also) refl))

all-known : (partition : ℕ) (referrals : List Referral) → laid_all partition (map (known partition) referrals) referrals ≡ map (known (suc partition)) referrals
all-known partition [] = refl
all-known partition (referral ∷ referrals) =
    ap (λ reference. reference ∷ laid_all partition (map (known partition) referrals) referrals) (one-known partition referral)
    ∙ ap (λ rest. known (suc partition) referral ∷ rest) (all-known partition referrals)

length-known : (partition : ℕ) (referrals : List Referral) → length (map (known partition) referrals) ≡ length referrals
length-known partition [] = refl
length-known partition (referral ∷ referrals) = ap suc (length-known partition referrals)

abbrev part_in : List (List Referral) → ℕ → PartOf
part_in batch partition = fold with_place empty_part (own-lists partition batch)

-- one part more
part_known : (batch : List (List Referral)) (partition : ℕ) → with_part (map (known partition) (all batch)) (part_in batch partition) ≡ map (known (suc partition)) (all batch)
part_known batch partition =
    ap (λ (part : PartOf). with_part (map (known partition) (all batch)) part) (places_passed partition empty_part batch)
    ∙ found_laid partition [] (map (known partition) (all batch)) (all batch) (length-known partition (all batch))
    ∙ all-known partition (all batch)

-- all parts from one on
parts_known : (batch : List (List Referral)) (partition count : ℕ) → fold with_part (map (known partition) (all batch)) (map (part_in batch) (range_with_len partition count)) ≡ map (known (partition + count)) (all batch)
parts_known batch partition zero = ap (λ below. map (known below) (all batch)) (omega arith)
parts_known batch partition (suc count) =
    ap (λ so_far. fold with_part so_far (map (part_in batch) (range_with_len (partition + 1) count))) (part_known batch partition)
    ∙ ap (λ next. fold with_part (map (known next) (all batch)) (map (part_in batch) (range_with_len (partition + 1) count))) (omega arith)
    ∙ parts_known batch (partition + 1) count
    ∙ ap (λ below. map (known below) (all batch)) (omega arith)

-- none is known at first
none-known : (referrals : List Referral) → replicate (length referrals) Base ≡ map (known 0) referrals
none-known [] = refl
none-known (referral ∷ referrals) =
    let none : nat_lt referral.partition 0 ≡ false = grind (arith, nat_tests) in
    rw none (ap (λ rest. Base ∷ rest) (none-known referrals))

abbrev reference_of : Referral → Reference
reference_of referral = referral.reference

-- all are known in the end
abbrev AreBelow : ℕ → List Referral → Type 0
AreBelow partitions [] = Unit {0}
AreBelow partitions (referral ∷ referrals) = (referral.partition < partitions) × AreBelow partitions referrals

whole-known : (partitions : ℕ) (referrals : List Referral) → AreBelow partitions referrals → map (known partitions) referrals ≡ map reference_of referrals
whole-known partitions [] below = refl
whole-known partitions (referral ∷ referrals) below =
    let one : referral.partition < partitions = below.0 in
    let less : nat_lt referral.partition partitions ≡ true = grind (arith, nat_tests) in
    rw less (ap (λ rest. referral.reference ∷ rest) (whole-known partitions referrals below.1))

below-append : (partitions : ℕ) (referrals later : List Referral) → AreBelow partitions referrals → AreBelow partitions later → AreBelow partitions (referrals ++ later)
below-append partitions [] later below also = also
below-append partitions (referral ∷ referrals) later below also = (below.0, below-append partitions referrals later below.1 also)

-- the pieces of the references are those of each place
take-front : (front rest : List Reference) → take (length front) (front ++ rest) ≡ front
take-front [] rest = refl
take-front (reference ∷ front) rest = ap (λ more. reference ∷ more) (take-front front rest)

drop-front : (front rest : List Reference) → drop (length front) (front ++ rest) ≡ rest
drop-front [] rest = refl
drop-front (reference ∷ front) rest = drop-front front rest

length-map-referrals : (referrals : List Referral) → length (map reference_of referrals) ≡ length referrals
length-map-referrals [] = refl
length-map-referrals (referral ∷ referrals) = ap suc (length-map-referrals referrals)

length-append-references : (front rest : List Reference) → length (front ++ rest) ≡ length front + length rest
length-append-references [] rest = omega arith
length-append-references (reference ∷ front) rest = ap suc (length-append-references front rest) ∙ omega arith

pieces_of : (front : List Reference) (batch : List (List Referral)) → pieces (length front) (ends_from (length front) batch) (front ++ map reference_of (all batch)) ≡ map (map reference_of) batch
pieces_of front [] = refl
pieces_of front (referrals ∷ later) =
    let here = map reference_of referrals in
    let rest = map reference_of (all later) in
    let whole : front ++ map reference_of (referrals ++ all later) ≡ (front ++ here) ++ rest = ap (λ more. front ++ more) (map-append reference_of referrals (all later)) ∙ sym (append_assoc front here rest) in
    let end : length front + length referrals ≡ length (front ++ here) = omega (arith, length-append-references front here, length-map-referrals referrals) in
    let count : (length front + length referrals) - length front ≡ length here = omega (arith, length-map-referrals referrals) in
    let piece : slice_range (front ++ map reference_of (referrals ++ all later)) (length front) (length front + length referrals) ≡ here =
    ap (λ references. take ((length front + length referrals) - length front) (drop (length front) references)) (whole ∙ append_assoc front here rest)
    ∙ ap (λ references. take ((length front + length referrals) - length front) references) (drop-front front (here ++ rest))
    ∙ ap (λ n. take n (here ++ rest)) count
    ∙ take-front here rest in
    ap (λ first. first ∷ pieces (length front + length referrals) (ends_from (length front + length referrals) later) (front ++ map reference_of (referrals ++ all later))) piece
    ∙ ap (λ others. here ∷ others)
    (ap (λ references. pieces (length front + length referrals) (ends_from (length front + length referrals) later) references) whole
    ∙ ap (λ n. pieces n (ends_from n later) ((front ++ here) ++ rest)) end
    ∙ pieces_of (front ++ here) later)

module _ (partitions : ℕ) (log : List Statement) (first : ℕ) where
  abbrev batch_at : List ℕ → List (List Referral)
  batch_at places = map (referrals_at partitions log first) places

  own_at : (partition : ℕ) (places : List ℕ) → map (own_references partitions log first partition) places ≡ own-lists partition (batch_at places)
  own_at partition [] = refl
  own_at partition (place ∷ places) = ap (λ rest. own_references partitions log first partition place ∷ rest) (own_at partition places)

  part_at : (places : ℕ) (wanted : List ℕ) → map (part_of partitions log first places) wanted ≡ map (part_in (batch_at (range_with_len first places))) wanted
  part_at places [] = refl
  part_at places (partition ∷ wanted) =
      ap (λ lists. fold with_place empty_part lists ∷ map (part_of partitions log first places) wanted) (own_at partition (range_with_len first places))
      ∙ ap (λ rest. part_in (batch_at (range_with_len first places)) partition ∷ rest) (part_at places wanted)

  accesses-referred : (place : ℕ) (accesses : List Access) → map reference_of (map (access_referral partitions log first place) accesses) ≡ map (writer log first place) accesses
  accesses-referred place [] = refl
  accesses-referred place (access ∷ accesses) = ap (λ rest. writer log first place access ∷ rest) (accesses-referred place accesses)

  tables-referred : (place : ℕ) (tables : List ℕ) → map reference_of (map (table_referral partitions log first place) tables) ≡ map (prior log first place) tables
  tables-referred place [] = refl
  tables-referred place (table ∷ tables) = ap (λ rest. prior log first place table ∷ rest) (tables-referred place tables)

  place-referred : (place : ℕ) (found : Option Statement) → map reference_of (option_map_or (referrals_of partitions log first place) found []) ≡ option_map_or (references_of log first place) found []
  place-referred place None = refl
  place-referred place (Some statement) =
      map-append reference_of (map (access_referral partitions log first place) (accesses_of statement.form)) (map (table_referral partitions log first place) (tables_of statement.form))
      ∙ ap (λ front. front ++ map reference_of (map (table_referral partitions log first place) (tables_of statement.form))) (accesses-referred place (accesses_of statement.form))
      ∙ ap (λ back. map (writer log first place) (accesses_of statement.form) ++ back) (tables-referred place (tables_of statement.form))

  batch-referred : (places : List ℕ) → map (map reference_of) (batch_at places) ≡ map (references log first) places
  batch-referred [] = refl
  batch-referred (place ∷ places) =
      ap (λ one. one ∷ map (map reference_of) (batch_at places)) (place-referred place (slice_get log place))
      ∙ ap (λ rest. references log first place ∷ rest) (batch-referred places)

  module _ (some : 0 < partitions) where
    accesses-below : (place : ℕ) (accesses : List Access) → AreBelow partitions (map (access_referral partitions log first place) accesses)
    accesses-below place [] = tt
    accesses-below place (access ∷ accesses) = (omega arith, accesses-below place accesses)

    tables-below : (place : ℕ) (tables : List ℕ) → AreBelow partitions (map (table_referral partitions log first place) tables)
    tables-below place [] = tt
    tables-below place (table ∷ tables) = (omega arith, tables-below place tables)

    place-below : (place : ℕ) (found : Option Statement) → AreBelow partitions (option_map_or (referrals_of partitions log first place) found [])
    place-below place None = tt
    place-below place (Some statement) =
        below-append partitions (map (access_referral partitions log first place) (accesses_of statement.form)) (map (table_referral partitions log first place) (tables_of statement.form))
        (accesses-below place (accesses_of statement.form)) (tables-below place (tables_of statement.form))

    batch-below : (places : List ℕ) → AreBelow partitions (all (batch_at places))
    batch-below [] = tt
    batch-below (place ∷ places) =
        below-append partitions (referrals_at partitions log first place) (all (batch_at places)) (place-below place (slice_get log place)) (batch-below places)

-- of the parts of all partitions, the first one's ends and count are everyone's
first_part : (parts : List PartOf) (batch : List (List Referral)) (partitions : ℕ) → 0 < partitions → parts ≡ map (part_in batch) (range_with_len 0 partitions) → (first_ends parts ≡ ends_from 0 batch) × (first_count parts ≡ length (all batch))
first_part parts batch zero some are = absurd (omega arith)
first_part parts batch (suc partitions) some are =
    let whole = places_passed 0 empty_part batch in
    (ap first_ends are ∙ ap (λ (part : PartOf). part.ends) whole, ap first_count are ∙ ap (λ (part : PartOf). part.count) whole ∙ omega arith)

-- put together, what all partitions found is what each place is referred to
pub merged : (parts : List PartOf) (partitions : ℕ) (log : List Statement) (first places : ℕ) → ArePartsOf parts partitions log first places → pieces 0 (first_ends parts) (fold with_part (replicate (first_count parts) Base) parts) ≡ batch_references log first (first + places)
merged parts partitions log first places are =
    let batch = batch_at partitions log first (range_with_len first places) in
    let parts-are : parts ≡ map (part_in batch) (range_with_len 0 partitions) = are.1 ∙ part_at partitions log first places (range_with_len 0 partitions) in
    let head = first_part parts batch partitions are.0 parts-are in
    let below : AreBelow partitions (all batch) = batch-below partitions log first are.0 (range_with_len first places) in
    let count : places ≡ (first + places) - first = omega arith in
    ap (λ ends. pieces 0 ends (fold with_part (replicate (first_count parts) Base) parts)) head.0
    ∙ ap (λ n. pieces 0 (ends_from 0 batch) (fold with_part (replicate n Base) parts)) head.1
    ∙ ap (λ references. pieces 0 (ends_from 0 batch) (fold with_part references parts)) (none-known (all batch))
    ∙ ap (λ (from : List PartOf). pieces 0 (ends_from 0 batch) (fold with_part (map (known 0) (all batch)) from)) parts-are
    ∙ ap (pieces 0 (ends_from 0 batch)) (parts_known batch 0 partitions ∙ ap (λ n. map (known n) (all batch)) (omega arith) ∙ whole-known partitions (all batch) below)
    ∙ pieces_of [] batch
    ∙ batch-referred partitions log first (range_with_len first places)
    ∙ ap (λ n. map (references log first) (range_with_len first n)) count

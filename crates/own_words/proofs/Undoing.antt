-- Decoding undoes coding: what each word says.
use Rattle.std.proofs.Common.{◌≡◌, ℕ, zero, suc, ◌+◌, ◌-◌, ◌*◌, ◌^◌, ◌<◌, ◌≤◌, min, Bool, true, false, not, cond, eqb, ◌&&◌, Option, Some, None, List, [], ◌∷◌, ◌++◌, ℤ, All, Contains, length, map, take, get_or, slice_get, refl, sym, ap, ◌∙◌, arith, w64, append_assoc, length-append}
use Rattle.std.specs.Prelude.{replicate}
use Rattle.std.specs.Int.RustNames.{FitsSigned}
use Rattle.std.specs.List.{flat_map, position_or_len}
use Rattle.std.proofs.lemmas.Bool.{eqb-true, eq-eqb}
use Rattle.std.proofs.lemmas.Bool.Decides.{nat_tests}
use Rattle.std.proofs.lemmas.Int.{to_z-of_z}
use Rattle.std.proofs.lemmas.List.{length-map, length-replicate, take_at}
use Rattle.std.proofs.lemmas.List.Elements.{All-tail}
use Rattle.model_base.specs.declared.deed.Cause.{Cause}
use Rattle.model_base.specs.declared.deed.Cause.TheVariants.{Never, Taken}
use Rattle.model_base.specs.declared.deed.Kind.{Kind}
use Rattle.model_base.specs.declared.deed.Kind.TheVariants.{Read, Insert, Update, Delete}
use Rattle.model_base.specs.declared.deed.Kinds.{Kinds}
use Rattle.model_base.specs.declared.deed.Need.{Need}
use Rattle.model_base.specs.declared.outcome.Outcome.{Outcome}
use Rattle.model_base.specs.declared.outcome.Reason.TheVariants.{NoRow, RowExists, Overflow, Check}
use Rattle.model_base.specs.declared.statement.Access.{Access}
use Rattle.model_base.specs.declared.statement.DeedForm.{DeedForm}
use Rattle.model_base.specs.declared.statement.Form.{Form}
use Rattle.model_base.specs.Outcomes.{kind_if, kinds_in, need_of, needs, needs_of_access, needs_of_deed, option_on}
use Rattle.model_base.specs.Privileges.{has_kind, same_kind}
use Rattle.model_base.specs.Versions.{accesses_of}
use Rattle.own_words.specs.Words.{FitsColumns, FitsDetails, bits, cause_from, cause_word, deed_form, deed_told, denied_from, ranks_ended_by, ended_in, header, need_number, numbers_from, outcome_from, outputs_of, outputs_told, row_of, row_words, same_need, same_option, second_detail, signed}

-- numbers of 64 bits are given by their words
pub numbers_told : (values : List ℤ) → All (FitsSigned w64) values → map signed (map bits values) ≡ values
numbers_told [] fit = refl
numbers_told (value ∷ values) fit =
    let here : signed (bits value) ≡ value = to_z-of_z w64 value (fit 0 value (omega arith)) in
    let rest : map signed (map bits values) ≡ values = numbers_told values (All-tail (FitsSigned w64) value values fit) in
    rw (here, rest) refl

-- also with more words after them
pub numbers_told_in_front : (values : List ℤ) (more : List ℕ) (n : ℕ) → n ≡ length values → All (FitsSigned w64) values → map signed (take n (map bits values ++ more)) ≡ values
numbers_told_in_front values more n long fit =
    let same : length (map bits values) ≡ n = length-map values bits ∙ sym long in
    ap (map signed) (take_at (map bits values) more n same) ∙ numbers_told values fit

same_kind-true : (kind other : Kind) → same_kind kind other ≡ true → other ≡ kind
same_kind-true Read Read same = refl
same_kind-true Insert Insert same = refl
same_kind-true Update Update same = refl
same_kind-true Delete Delete same = refl
same_kind-true _ _ same = let no : false ≡ true = same in cc

same_kind-own : (kind : Kind) → same_kind kind kind ≡ true
same_kind-own Read = refl
same_kind-own Insert = refl
same_kind-own Update = refl
same_kind-own Delete = refl

same_option-true : (option other : Bool) → same_option option other ≡ true → other ≡ option
same_option-true true true same = refl
same_option-true false false same = refl
same_option-true true false same = let no : false ≡ true = same in cc
same_option-true false true same = let no : false ≡ true = same in cc

same_option-own : (option : Bool) → same_option option option ≡ true
same_option-own true = refl
same_option-own false = refl

both-true : (a b : Bool) → (a && b) ≡ true → (a ≡ true) × (b ≡ true)
both-true true true both = (refl, refl)
both-true true false both = let no : false ≡ true = both in cc
both-true false b both = let no : false ≡ true = both in cc

-- needs that are the same are equal
same_need-true : (need other : Need) → same_need need other ≡ true → other ≡ need
same_need-true need other same =
    let parts = both-true (same_kind need.kind other.kind) (eqb need.table other.table && same_option need.option other.option) same in
    let more = both-true (eqb need.table other.table) (same_option need.option other.option) parts.1 in
    let tables : other.table ≡ need.table = sym (eqb-true need.table other.table more.0) in
    let made : ℕ → Kind → Bool → Need = λ table kind option. record { table = table; kind = kind; option = option } in
    ap (λ table. made table other.kind other.option) tables
    ∙ ap (λ kind. made need.table kind other.option) (same_kind-true need.kind other.kind parts.0)
    ∙ ap (made need.table need.kind) (same_option-true need.option other.option more.1)

same_need-own : (need : Need) → same_need need need ≡ true
same_need-own need = rw (same_kind-own need.kind, eq-eqb need.table need.table refl, same_option-own need.option) refl

-- a need that is among some, and isn't the first, is among the others
among-others : (need first : Need) (needed : List Need) → same_need need first ≡ false → Contains (first ∷ needed) need → Contains needed need
among-others need first needed other among = at among.0 among.1 among.2
  where
    at : (k : ℕ) → k < suc (length needed) → get_or (first ∷ needed) k need ≡ need → Contains needed need
    at zero within here =
        let own : same_need need first ≡ true = ap (same_need need) here ∙ same_need-own need in
        let no : false ≡ true = sym other ∙ own in
        cc
    at (suc k) within here = (k, omega arith, here)

-- a need that is among some is the one at its first position
pub need_told : (need : Need) (needed : List Need) → Contains needed need → slice_get needed (position_or_len (same_need need) needed) ≡ Some need
need_told need [] among = absurd (omega (arith, among.1))
need_told need (first ∷ needed) among = by_first (need_told need needed) (same_need need first) refl
  where
    by_first : (Contains needed need → slice_get needed (position_or_len (same_need need) needed) ≡ Some need) → (b : Bool) → same_need need first ≡ b
        → slice_get (first ∷ needed) (cond (not b) (1 + position_or_len (same_need need) needed) 0) ≡ Some need
    by_first later true same = ap Some (same_need-true need first same)
    by_first later false other =
        let next : 1 + position_or_len (same_need need) needed ≡ suc (position_or_len (same_need need) needed) = omega arith in
        ap (slice_get (first ∷ needed)) next ∙ later (among-others need first needed other among)

-- a cause is given by its word
pub cause_told : (cause : Cause) → cause_from (cause_word cause) ≡ cause
cause_told Never = refl
cause_told (Taken place) =
    let test : eqb (place + 1) 0 ≡ false = grind (arith, nat_tests) in
    let same : place + 1 - 1 ≡ place = omega arith in
    ap (λ b. cond b Never (Taken (place + 1 - 1))) test ∙ ap Taken same

-- the details of an outcome are given by the header, with more words after it
pub details_told : (form : Form) (outcome : Outcome) (more : List ℕ) → FitsDetails form outcome → outcome_from form (header form outcome ++ more) (ended_in outcome) ≡ outcome
details_told form Outcome.Created more fit = refl
details_told form (Outcome.Undeclared step) more fit = refl
details_told form (Outcome.Aborted step NoRow) more fit = refl
details_told form (Outcome.Aborted step RowExists) more fit = refl
details_told form (Outcome.Aborted step Overflow) more fit = refl
details_told form (Outcome.Aborted step Check) more fit = refl
details_told form (Outcome.Denied need cause) more fit =
    ap (λ found. denied_from (need_number form need) (cause_from (cause_word cause)) found) (need_told need (needs form) fit.0)
    ∙ ap (Outcome.Denied need) (cause_told cause)
details_told form (Outcome.Done outputs deed) more fit =
    let rest : List ℕ = replicate (outputs_of form - length outputs) 0 in
    let few : min (length outputs) 8 ≡ length outputs = omega (arith, fit.few) in
    let told : numbers_from 4 (min (length outputs) 8) (header form (Outcome.Done outputs deed) ++ more) ≡ outputs =
    ap (λ words. map signed (take (min (length outputs) 8) words)) (append_assoc (map bits outputs) rest more)
    ∙ numbers_told_in_front outputs (rest ++ more) (min (length outputs) 8) few fit.range in
    ap (λ told. Outcome.Done told (deed_told (ranks_ended_by deed) (deed_form form))) told ∙ ap (Outcome.Done outputs) (sym fit.kind)

-- the row of a version cell is given by its words, with more words after them
pub row_told : (columns : ℕ) (row : Option (List ℤ)) (more : List ℕ) → FitsColumns columns row → row_of columns (row_words columns row ++ more) ≡ row
row_told columns None more fit = refl
row_told columns (Some row) more fit = ap Some (numbers_told_in_front row more columns (sym fit.0) fit.1)

-- a header has four words, and room for the outputs
pub header_length : (form : Form) (outcome : Outcome) → FitsDetails form outcome → length (header form outcome) ≡ 4 + outputs_of form
header_length form outcome fit =
    let outputs = outputs_told outcome in
    let few : length outputs ≤ outputs_of form = outputs_fit form outcome fit in
    omega (
      arith,
      few,
      length-append (map bits outputs) (replicate (outputs_of form - length outputs) 0),
      length-map outputs bits,
      length-replicate {A = ℕ} (outputs_of form - length outputs) 0,
    )
  where
    outputs_fit : (form : Form) (outcome : Outcome) → FitsDetails form outcome → length (outputs_told outcome) ≤ outputs_of form
    outputs_fit form (Outcome.Done outputs deed) fit = fit.room
    outputs_fit form Outcome.Created fit = omega arith
    outputs_fit form (Outcome.Denied need cause) fit = omega arith
    outputs_fit form (Outcome.Aborted step reason) fit = omega arith
    outputs_fit form (Outcome.Undeclared step) fit = omega arith

-- a version cell has a word and one for each column
pub row_length : (columns : ℕ) (row : Option (List ℤ)) → FitsColumns columns row → length (row_words columns row) ≡ 1 + columns
row_length columns None fit = omega (arith, length-replicate {A = ℕ} columns 0)
row_length columns (Some row) fit = omega (arith, length-map row bits, fit.0)

kind_if_length : (kinds : Kinds) (kind : Kind) → length (kind_if kinds kind) ≤ 1
kind_if_length kinds kind =
    elim (has_kind kinds kind) as (λ b. length (cond b (kind ∷ []) []) ≤ 1) [ true ↦ omega arith | false ↦ omega arith ]

kinds_in_length : (kinds : Kinds) → length (kinds_in kinds) ≤ 4
kinds_in_length kinds =
    let delete = kind_if kinds Delete in
    let update = kind_if kinds Update ++ delete in
    omega (
      arith,
      length-append (kind_if kinds Read) (kind_if kinds Insert ++ update),
      length-append (kind_if kinds Insert) update,
      length-append (kind_if kinds Update) delete,
      kind_if_length kinds Read,
      kind_if_length kinds Insert,
      kind_if_length kinds Update,
      kind_if_length kinds Delete,
    )

access_needs_length : (access : Access) → length (needs_of_access access) ≤ 4
access_needs_length access = omega (arith, length-map (kinds_in access.kinds) (need_of access), kinds_in_length access.kinds)

accesses_needs_length : (accesses : List Access) → length (flat_map needs_of_access accesses) ≤ 4 * length accesses
accesses_needs_length [] = omega arith
accesses_needs_length (access ∷ accesses) =
    omega (
      arith,
      length-append (needs_of_access access) (flat_map needs_of_access accesses),
      access_needs_length access,
      accesses_needs_length accesses,
    )

deed_needs_length : (deed : DeedForm) → length (needs_of_deed deed) ≤ 4
deed_needs_length (DeedForm.Grant kinds table grantees option) =
    omega (arith, length-map (kinds_in kinds) (option_on table), kinds_in_length kinds)
deed_needs_length (DeedForm.Revoke kinds table grantees) = omega arith

-- a statement has at most four needs for each access, and four for its deed
pub needs_length : (form : Form) → length (needs form) ≤ 4 * length (accesses_of form) + 4
needs_length (Form.Create table columns) = omega arith
needs_length (Form.Run accesses steps None) =
    omega (arith, length-append (flat_map needs_of_access accesses) [], accesses_needs_length accesses)
needs_length (Form.Run accesses steps (Some deed)) =
    omega (arith, length-append (flat_map needs_of_access accesses) (needs_of_deed deed), accesses_needs_length accesses, deed_needs_length deed)
needs_length (Form.Deed deed) = omega (arith, deed_needs_length deed)

-- the details of an outcome that fits its statement are words
pub detail_below : (form : Form) (outcome : Outcome) → FitsDetails form outcome → second_detail outcome < 2 ^ 64
detail_below form (Outcome.Done outputs deed) fit = omega arith
detail_below form Outcome.Created fit = omega arith
detail_below form (Outcome.Denied need cause) fit = fit.1
detail_below form (Outcome.Aborted step NoRow) fit = omega arith
detail_below form (Outcome.Aborted step RowExists) fit = omega arith
detail_below form (Outcome.Aborted step Overflow) fit = omega arith
detail_below form (Outcome.Aborted step Check) fit = omega arith
detail_below form (Outcome.Undeclared step) fit = omega arith

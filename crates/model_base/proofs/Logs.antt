-- The deeds before a place of a log are those below the place of all that come before a later one.
use Rattle.std.proofs.Common.{◌≡◌, ℕ, zero, suc, ◌+◌, ◌-◌, ◌≤◌, Bool, true, List, [], ◌++◌, sym, ◌∙◌, ap, append_assoc, arith, subst}
use Rattle.std.specs.Prelude.{All, nat_lt}
use Rattle.std.specs.Option.{option_map_or}
use Rattle.std.proofs.lemmas.List.{append-nil}
use Rattle.std.proofs.lemmas.List.Elements.{All-nil, All-append, All-weaker, filter-append}
use Rattle.model_base.specs.declared.deed.Need.{Need}
use Rattle.model_base.specs.declared.deed.Record.{Record}
use Rattle.model_base.specs.declared.deed.Revocation.{Revocation}
use Rattle.model_base.specs.declared.deed.Cause.TheVariants.{Never, Taken}
use Rattle.model_base.specs.declared.deed.Deed.{Deed}
use Rattle.model_base.specs.declared.statement.Statement.{Statement}
use Rattle.model_base.specs.Privileges.{deeds_below, ended_by, holds, place_of}
use Rattle.model_base.specs.Outcomes.{cause, deeds_before, owners}
use Rattle.model_base.specs.Laws.{GrowsAt}
use Rattle.model_base.specs.Records.{records, covered, cut, ended_by_records, holds_by, last_loss_by}
use Rattle.model_base.proofs.Growth.{deeds_before-grows, deeds_before-stands}
use Rattle.model_base.proofs.Records.{holds_by-records}
use Rattle.model_base.proofs.ByTables.{cut-covered, holds_by-covered, last_loss-covered}
use Rattle.model_base.proofs.Ended.{ended_by-covered_records}
use Rattle.model_base.proofs.Cuts.{records-below, deeds_below-whole, deeds_below-none}
use Rattle.model_base.proofs.Losses.{cause-records}

-- the second deeds are the first, and then others at this place or above
abbrev pub GoesOn : ℕ → List Deed → List Deed → Type 0
GoesOn place first deeds = (later : List Deed) × (deeds ≡ first ++ later) × All (λ deed. place ≤ place_of deed) later

-- what goes on, and grows at a later place, goes on
goes_on-grows : (place at : ℕ) (first before after : List Deed) → place ≤ at → GoesOn place first before → GrowsAt at before after → GoesOn place first after
goes_on-grows place at first before after less on grown = (
  on.0 ++ grown.0,
  grown.1 ∙ ap (λ ds. ds ++ grown.0) on.1 ∙ append_assoc first on.0 grown.0,
  All-append (λ deed. place ≤ place_of deed) on.0 grown.0 on.2
      (All-weaker (λ deed. place_of deed ≡ at) (λ deed. place ≤ place_of deed) (λ deed is. omega arith) grown.0 grown.2),
)

-- the deeds before a later place go on from those before this one
pub goes_on-before : (log : List Statement) (place more : ℕ) → GoesOn place (deeds_before log place) (deeds_before log (place + more))
goes_on-before log place zero =
    let same : place + 0 ≡ place = omega arith in
    ([], ap (deeds_before log) same ∙ sym (append-nil (deeds_before log place)), All-nil (λ deed. place ≤ place_of deed))
goes_on-before log place (suc more) =
    let same : (place + more) + 1 ≡ place + suc more = omega arith in
    subst (λ (at : ℕ). GoesOn place (deeds_before log place) (deeds_before log at)) same
    (goes_on-grows place (place + more) (deeds_before log place) (deeds_before log (place + more)) (deeds_before log ((place + more) + 1)) (omega arith)
    (goes_on-before log place more) (deeds_before-grows log (place + more)))

-- so they are those of the later ones that lie below this place
pub deeds_before-below : (log : List Statement) (place later : ℕ) → place ≤ later
    → deeds_below place (deeds_before log later) ≡ deeds_before log place
deeds_before-below log place later less =
    let at : place + (later - place) ≡ later = omega arith in
    let on : GoesOn place (deeds_before log place) (deeds_before log later) =
    subst (λ (n : ℕ). GoesOn place (deeds_before log place) (deeds_before log n)) at (goes_on-before log place (later - place)) in
    let first = deeds_below-whole place (deeds_before log place) (deeds_before-stands log place).below in
    let none = deeds_below-none place on.0 on.2 in
    ap (deeds_below place) on.1
    ∙ filter-append (λ deed. nat_lt (place_of deed) place) (deeds_before log place) on.0
    ∙ rw (first, none) (append-nil (deeds_before log place))

-- and their records are those of the later ones, cut at this place
pub records-before : (log : List Statement) (place later : ℕ) → place ≤ later
    → records (owners log) (deeds_before log place) ≡ cut place (records (owners log) (deeds_before log later))
records-before log place later less =
    ap (records (owners log)) (sym (deeds_before-below log place later less))
    ∙ records-below (owners log) place (deeds_before log later) (deeds_before-stands log later).proper

-- and the cause is the last loss below this place by the later records
pub cause-before : (log : List Statement) (place later user : ℕ) (need : Need) → place ≤ later
    → cause (owners log) (deeds_before log place) user need
    ≡ option_map_or Taken (last_loss_by (owners log) (records (owners log) (deeds_before log later)) user need place) Never
cause-before log place later user need less =
    ap (λ (deeds : List Deed). cause (owners log) deeds user need) (sym (deeds_before-below log place later less))
    ∙ cause-records (owners log) user need (deeds_before log later) place (deeds_before-stands log later).proper

-- The records of some tables, of all deeds before a later place, tell of these tables at every place before it.
module _ (log : List Statement) (covers : ℕ → Bool) (place later : ℕ) (less : place ≤ later) where
  -- the records before the later place
  abbrev seen : List Record
  seen = records (owners log) (deeds_before log later)

  -- who held what
  pub held-before : (user : ℕ) (need : Need) → covers need.table ≡ true
      → holds_by (owners log) (cut place (covered covers seen)) user need ≡ holds (owners log) (deeds_before log place) user need
  held-before user need cover =
      rw (cut-covered covers place seen)
      (holds_by-covered (owners log) covers (cut place seen) user need cover
      ∙ ap (λ entries. holds_by (owners log) entries user need) (sym (records-before log place later less))
      ∙ holds_by-records (owners log) (deeds_before log place) user need (deeds_before-stands log place).proper)

  -- which grants a revocation ended
  pub ended-before : (revocation : Revocation) → covers revocation.table ≡ true
      → ended_by_records (owners log) (cut place (covered covers seen)) revocation ≡ ended_by (owners log) (deeds_before log place) revocation
  ended-before revocation cover =
      rw (cut-covered covers place seen)
      (ap (λ entries. ended_by_records (owners log) (covered covers entries) revocation) (sym (records-before log place later less))
      ∙ ended_by-covered_records (owners log) covers (deeds_before log place) revocation (deeds_before-stands log place).proper cover)

  -- and which place had taken a need away last
  pub cause-before_covered : (user : ℕ) (need : Need) → covers need.table ≡ true
      → cause (owners log) (deeds_before log place) user need
      ≡ option_map_or Taken (last_loss_by (owners log) (covered covers seen) user need place) Never
  cause-before_covered user need cover =
      cause-before log place later user need less
      ∙ ap (λ loss. option_map_or Taken loss Never) (sym (last_loss-covered (owners log) covers seen user need place cover))

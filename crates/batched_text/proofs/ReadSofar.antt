-- What was written, as a beginning of the report of the bytes that were read.
use Rattle.std.proofs.Common.{◌≡◌, ◌++◌, ℕ, List, [], ◌∷◌, Option, Some, None, refl, ap, sym, ◌∙◌, subst, append_assoc}
use Rattle.std.specs.Io.KnownBytes.{IsAtEnd, Keeps, prepend_known}
use Rattle.std.proofs.lemmas.List.{append-nil}
use Rattle.line_io.specs.Known.{AppendsFront, ReadSome}
use Rattle.line_io.proofs.Pieces.{read_none}
use Rattle.line_io.proofs.Written.{front_kept}
use Rattle.report.proofs.Readings.{IsTotal}
use Rattle.sequencer.specs.Log.{Accepted}
use Rattle.bohm_base.specs.declared.collecting.LineOutcome.{LineOutcome}
use Rattle.bohm_base.specs.Pending.{HasBegunReport, HasReport}
use Rattle.bohm_base.proofs.Beginnings.{nothing_written}
use Rattle.bohm_base.proofs.Reached.{begun_start, front_written}
use Rattle.batched_text.specs.Batching.{Batched, BatchedUpTo, Gathers, HasBegunReportOfRead, IsBatched, WritesBegunReportOfRead}
use Rattle.batched_text.specs.Foretold.{BeginsFrom}
use Rattle.batched_text.specs.ReadBytes.{IfRead}
use Rattle.batched_text.specs.declared.line_run.LineRun.{LineRun}
use Rattle.batched_text.proofs.Ended.{begun_cut, begun_whole}
use Rattle.batched_text.proofs.Ends.{read_less}
use Rattle.batched_text.proofs.Sofar.{begun_batched}

-- what holds wherever the text ends after the lines so far holds of what was read
module _ (o n : Option (List ℕ)) (pending : List ℕ) (log : Accepted) (done : ℕ) (waiting : List LineOutcome) (next : ℕ) where
  pub if_read : (i j k : Option (List ℕ)) (bytes : List ℕ) (P : List ℕ → Type 0) → Batched i (prepend_known bytes j) o n pending log done waiting next → ReadSome j k
      → ((given more : List ℕ) → Batched (Some given) (Some (bytes ++ more)) o n pending log done waiting next → P given) → IfRead i k P
  if_read None j k bytes P so some holds = tt
  if_read (Some xs) None k bytes P so some holds = absurd so
  if_read (Some xs) (Some ys) None bytes P so some holds = absurd some.1
  if_read (Some xs) (Some ys) (Some zs) bytes P so some holds =
      let was = so.1.1 in
      let part : List ℕ = bytes ++ some.0 in
      let given : List ℕ = was.leads.taken ++ part in
      let ends : bytes ++ ys ≡ part ++ zs = ap (λ (w : List ℕ). bytes ++ w) some.1 ∙ sym (append_assoc bytes some.0 zs) in
      let less : IsBatched given part (so.0 ++ pending) log done waiting next = record {
        earlier = was.earlier;
        leads = read_less xs (bytes ++ ys) part zs was.earlier was.leads ends;
        reported = was.reported;
        made = was.made;
        number = was.number;
        places = was.places;
        text = was.text;
        whole = was.whole;
        within = was.within;
      } in (
        given,
        (
          was.leads.all ∙ ap (λ (w : List ℕ). was.leads.taken ++ w) ends ∙ sym (append_assoc was.leads.taken part zs),
          holds given some.0 (so.0, (so.1.0, less)),
        ),
      )

  -- what was written, and then what is pending, is a beginning of the report of what was read
  pub read_begun : IsTotal → (i j k : Option (List ℕ)) (bytes : List ℕ) → Batched i (prepend_known bytes j) o n pending log done waiting next → ReadSome j k
      → HasBegunReportOfRead i k o n pending
  read_begun total i j k bytes so some =
      if_read i j k bytes (λ given. HasBegunReport (Some given) o n pending) so some
      (λ given more less. begun_batched total (Some given) (Some (bytes ++ more)) o n pending log done waiting next less)

-- so it is after a run of the lines that are available
pub run_begun : (i j o n : Option (List ℕ)) (bytes : List ℕ) (old new : LineRun) → BeginsFrom bytes 0 old new → BatchedUpTo i (prepend_known bytes j) o n old
    → HasBegunReportOfRead i j o n new.pending.items
run_begun i j o n bytes old new begins so =
    if_read o n _ _ _ _ _ i j j bytes (λ given. HasBegunReport (Some given) o n new.pending.items) so (read_none j)
    (λ given more less. begins (Some more) (Some given) o n less)

-- before anything is read, nothing is written or pending
pub read_begun_start : IsTotal → (i o : Option (List ℕ)) (pending : List ℕ) → pending ≡ [] → HasBegunReportOfRead i i o o pending
read_begun_start total None o pending none = tt
read_begun_start total (Some xs) o pending none = ([], (refl, begun_start total (Some []) o pending none))

-- a front of what was pending is written, and the rest is lost
pub read_begun_cut : (i k o n m : Option (List ℕ)) (pending less : List ℕ) → HasBegunReportOfRead i k o n pending → AppendsFront n m pending → less ≡ []
    → HasBegunReportOfRead i k o m less
read_begun_cut None k o n m pending less begun front none = tt
read_begun_cut (Some xs) k o n m pending less begun front none =
    (begun.0, (begun.1.0, begun_cut (Some begun.0) o n m pending less begun.1.1 front none))

-- what was pending at the end is written, or a front of it
pub read_written : (i k o n m : Option (List ℕ)) (pending : List ℕ) → HasBegunReportOfRead i k o n pending → AppendsFront n m pending
    → WritesBegunReportOfRead i k o m
read_written None k o n m pending begun front = tt
read_written (Some xs) k o n m pending begun front = (begun.0, (begun.1.0, front_written (Some begun.0) o n m pending begun.1.1 front))

pub read_kept_written : (i k o n m l : Option (List ℕ)) (pending : List ℕ) → HasBegunReportOfRead i k o n pending → AppendsFront n m pending → Keeps m l
    → WritesBegunReportOfRead i k o l
read_kept_written i k o n m l pending begun front keeps = read_written i k o n l pending begun (front_kept n m l pending front keeps)

-- nothing was read or written
pub read_nothing : IsTotal → (i o : Option (List ℕ)) → WritesBegunReportOfRead i i o o
read_nothing total None o = tt
read_nothing total (Some xs) o = ([], (refl, nothing_written total (Some []) o))

-- all was read
none-last : (xs ys : List ℕ) → xs ++ ys ≡ [] → ys ≡ []
none-last [] ys none = none
none-last (x ∷ xs) ys none = absurd (cc)

pub gathers_end : (i j k o n : Option (List ℕ)) (bytes : List ℕ) (batching : LineRun) → BatchedUpTo i (prepend_known bytes j) o n batching → ReadSome j k
    → IsAtEnd (prepend_known bytes j) → Gathers i k o n batching
gathers_end None j k o n bytes batching so some end = tt
gathers_end (Some xs) None k o n bytes batching so some end = absurd so
gathers_end (Some xs) (Some ys) None o n bytes batching so some end = absurd some.1
gathers_end (Some xs) (Some ys) (Some zs) o n bytes batching so some end =
    let none : zs ≡ [] = none-last some.0 zs (sym some.1 ∙ none-last bytes ys end) in (
      sym (append-nil xs) ∙ ap (λ (w : List ℕ). xs ++ w) (sym none),
      subst (λ (w : List ℕ). BatchedUpTo (Some xs) (Some w) o n batching) end so,
    )

pub read_whole : (i left o n m : Option (List ℕ)) (batching : LineRun) (pending : List ℕ) → Gathers i left o n batching → HasReport i o m pending
    → HasBegunReportOfRead i left o m pending
read_whole None left o n m batching pending gathers whole = tt
read_whole (Some xs) left o n m batching pending gathers whole = (xs, (gathers.0, begun_whole (Some xs) o m pending whole))

-- What is put into a book at a place or later is taken out again by a cut there.
use Rattle.std.proofs.Common.{◌≡◌, ◌<◌, ◌≤◌, ℕ, List, [], ◌∷◌, ◌++◌, filter, refl}
use Rattle.std.specs.Prelude.{All, nat_lt}
use Rattle.std.proofs.lemmas.Bool.{lt-ltb, le-ltb}
use Rattle.std.proofs.lemmas.List.{append-nil}
use Rattle.std.proofs.lemmas.List.Elements.{All-head, All-tail}
use Rattle.model_base.specs.declared.deed.Grant.{Grant}
use Rattle.model_base.specs.declared.deed.Record.{Record}
use Rattle.model_base.specs.Records.{cut}
use Rattle.model_base.proofs.Replay.{by_cases}
use Rattle.grants_base.specs.Book.{Entries, IsLater, cut_book, unended, with_ends, with_grant}
use Rattle.grants_base.specs.declared.entries.Creation.{Creation}
use Rattle.grants_base.proofs.RevokeLaws.{cut-ended}
use Rattle.grants.proofs.GrantLaws.{cut-whole}

cut-append : (place : ℕ) (first later : List Record) → cut place (first ++ later) ≡ cut place first ++ cut place later
cut-append place [] later = refl
cut-append place (entry ∷ first) later =
    let rest = cut-append place first later in
    by_cases (nat_lt entry.grant.place place) (λ below. rw (below, rest) refl) (λ above. rw (above, rest) refl)

pub cut_granted : (first : ℕ) (book : Entries) (grant : Grant) → first ≤ grant.place → cut_book first (with_grant book grant) ≡ cut_book first book
cut_granted first book grant above =
    rw (cut-append first book.records (unended grant ∷ []), le-ltb grant.place first above, append-nil (cut first book.records)) refl

pub cut_ended : (first : ℕ) (book : Entries) (place : ℕ) (ended : List ℕ) → first ≤ place → cut_book first (with_ends book place ended) ≡ cut_book first book
cut_ended first book place ended above = rw (cut-ended place ended first above book.records) refl

-- a cut at a place above all takes nothing out
tables-whole : (place : ℕ) (tables : List Creation) → All (λ (c : Creation). c.place < place) tables → filter (λ (c : Creation). nat_lt c.place place) tables ≡ tables
tables-whole place [] all = refl
tables-whole place (creation ∷ tables) all =
    let low : Creation → Type 0 = λ c. c.place < place in
    rw (lt-ltb creation.place place (All-head low creation tables all), tables-whole place tables (All-tail low creation tables all)) refl

pub cut_whole : (place : ℕ) (book : Entries) → IsLater book place → cut_book place book ≡ book
cut_whole place book later = rw (tables-whole place book.tables later.tables, cut-whole place book.records later.grants later.ends) refl

-- The book moved on by the deeds of a place.
use Rattle.std.proofs.Common.{◌≡◌, ◌<◌, ◌≤◌, ◌+◌, ◌++◌, ℕ, true, List, [], ◌∷◌, length, map, take, refl, ap, sym, ◌∙◌, subst, arith, append_assoc}
use Rattle.std.specs.Prelude.{All, IsTrue, is_some, slice_get}
use Rattle.std.proofs.lemmas.List.{append-nil, length-map}
use Rattle.std.proofs.lemmas.List.Elements.{All-contains, All-head, All-tail, Contains-push}
use Rattle.std.proofs.lemmas.Option.{slice_get-get_or}
use Rattle.model_base.specs.declared.deed.Deed.{Deed}
use Rattle.model_base.specs.declared.deed.Deed.TheVariants.{Granting, Revoking}
use Rattle.model_base.specs.declared.deed.Grant.{Grant}
use Rattle.model_base.specs.declared.deed.Record.{Record}
use Rattle.model_base.specs.declared.deed.Revocation.{Revocation}
use Rattle.model_base.specs.declared.statement.Statement.{Statement}
use Rattle.model_base.specs.DeedsLeft.{revocation_of}
use Rattle.model_base.specs.Laws.{AreGrantsOrRevocation, IsGranting}
use Rattle.model_base.specs.Outcomes.{deeds_before, owners}
use Rattle.model_base.specs.Privileges.{IsProper, MayFollow, deeds_below, option_of, place_of}
use Rattle.model_base.specs.Ranks.{deed_number, rank}
use Rattle.model_base.specs.Records.{grants_of}
use Rattle.model_base.proofs.Cuts.{deeds_below-whole}
use Rattle.model_base.proofs.Growth.{deeds_before-stands}
use Rattle.model_base.proofs.Places.{proper-later}
use Rattle.grants_base.specs.Book.{Entries, IsLater, IsNextRecord, IsSoundBook, ShowsBook, cut_book, owners_of, table_of_deed, unended, view_of, with_grant}
use Rattle.grants_base.specs.View.{ShowsDeeds, holds_in}
use Rattle.grants_base.specs.declared.entries.Creation.{Creation}
use Rattle.grants.proofs.GrantLaws.{shows_grant, sound_grant}
use Rattle.grants.proofs.LaterLaws.{later_grant, later_than, next_later, next_record}
use Rattle.grants.proofs.SeenLaws.{shows_view}
use Rattle.grants.proofs.ViewLaws.{held_after}
use Rattle.evaluation.proofs.OnlyRevocation.{all_grants}
use Rattle.filling.specs.BookState.{IsBookState, IsMaking}
use Rattle.filling.proofs.Cutting.{cut_granted}

-- each table has its owner
pub owned : (tables : List Creation) (table : ℕ) → table < length tables → is_some (slice_get (owners_of tables) table) ≡ true
owned tables table less = rw (slice_get-get_or (owners_of tables) table 0 (omega (arith, less, length-map tables (λ (c : Creation). c.owner)))) refl

module _ (log : List Statement) (place : ℕ) (book : Entries) (stands : IsBookState log place book) where
  abbrev past : List Deed
  past = deeds_before log place

  -- the deeds before the place lie below it
  pub past-below : All (λ deed. place_of deed < place) past
  past-below = (deeds_before-stands log place).below

  -- so the book shows them there
  pub shows-past : ShowsDeeds (view_of book place) (owners log) past
  shows-past = subst (ShowsDeeds (view_of book place) (owners log)) (deeds_below-whole place past past-below) (shows_view book place (owners log) past stands.shown)

  -- where the place makes no deed, the book is that of the next place too
  pub made_none : owners (take (place + 1) log) ≡ owners (take place log) → deeds_before log (place + 1) ≡ past → IsBookState log (place + 1) book
  made_none next-owners same = record {
    shown = subst (ShowsBook book (owners log)) (sym same) stands.shown;
    later = later_than book place (place + 1) (omega arith) stands.later;
    owned = stands.owned ∙ sym next-owners;
  }

  -- so it is with the book that a revocation of the place leaves
  pub below_here : (at : ℕ) → at ≡ place → All (λ deed. place_of deed < at) past
  below_here at here = subst (λ (p : ℕ). All (λ deed. place_of deed < p) past) (sym here) past-below

  pub made_revoked : owners (take (place + 1) log) ≡ owners (take place log) → (revocation : Revocation)
      → deeds_before log (place + 1) ≡ past ++ Revoking revocation ∷ [] → (after : Entries) → after.tables ≡ book.tables
      → ShowsBook after (owners log) (past ++ Revoking revocation ∷ []) → IsLater after (place + 1) → IsBookState log (place + 1) after
  made_revoked next-owners revocation next after tables shows later = record {
    shown = subst (ShowsBook after (owners log)) (sym next) shows;
    later = later;
    owned = ap owners_of tables ∙ stands.owned ∙ sym next-owners;
  }

  -- before the first of the place's grants none was made
  pub making_starts : owners (take (place + 1) log) ≡ owners (take place log) → (deeds : List Deed) → deeds_before log (place + 1) ≡ past ++ deeds
      → All IsGranting deeds → All (λ deed. place_of deed ≡ place) deeds → All (λ deed. table_of_deed deed < length book.tables) deeds
      → IsMaking log place deeds book
  making_starts next-owners deeds all grants at tables = record {
    made = past;
    all = all;
    shown = stands.shown;
    later = later_than book place (place + 1) (omega arith) stands.later;
    owned = stands.owned ∙ sym next-owners;
    grants = grants;
    at = at;
    tables = tables;
    next = λ grant here above. next_later book grant (subst (IsLater book) (sym here) stands.later);
  }

  -- of deeds of which the first is a grant all are grants
  pub making_first : owners (take (place + 1) log) ≡ owners (take place log) → (deeds : List Deed) → deeds_before log (place + 1) ≡ past ++ deeds
      → All (λ deed. place_of deed ≡ place) deeds → AreGrantsOrRevocation deeds → All (λ deed. table_of_deed deed < length book.tables) deeds
      → (grant : Grant) (left : List Deed) → deeds ≡ Granting grant ∷ left → IsMaking log place (Granting grant ∷ left) book
  making_first next-owners deeds all at one tables grant left is =
      subst (λ (ds : List Deed). IsMaking log place ds book) is
      (making_starts next-owners deeds all (all_grants deeds one (ap revocation_of is)) at tables)

-- the first grant is of the place
pub first_granting : (place : ℕ) (deeds : List Deed) → All (λ deed. place_of deed ≡ place) deeds → (grant : Grant) (left : List Deed)
    → deeds ≡ Granting grant ∷ left → grant.place ≡ place
first_granting place deeds at grant left is =
    All-head (λ deed. place_of deed ≡ place) (Granting grant) left (subst (All (λ deed. place_of deed ≡ place)) is at)

-- one grant more
module _ (log : List Statement) (place : ℕ) (book : Entries) (grant : Grant) (left : List Deed) (making : IsMaking log place (Granting grant ∷ left) book) where
  pub here : grant.place ≡ place
  here = All-head (λ deed. place_of deed ≡ place) (Granting grant) left making.at

  may : MayFollow (owners log) making.made (Granting grant)
  may =
      let proper = subst (IsProper (owners log)) making.all (deeds_before-stands log (place + 1)).proper in
      (proper-later (owners log) [] making.made (Granting grant ∷ left) proper).0

  pub may_next : IsNextRecord book grant
  may_next = making.next grant here may.0

  pub on_table : grant.table < length book.tables
  on_table = All-head (λ deed. table_of_deed deed < length book.tables) (Granting grant) left making.tables

  pub is_held : IsTrue (holds_in (view_of book grant.place) grant.grantor (option_of grant))
  is_held =
      held_after (view_of book grant.place) (owners log) (deeds_below grant.place making.made) grant.grantor (option_of grant)
      (shows_view book grant.place (owners log) making.made making.shown) (owned book.tables grant.table on_table)
      ∙ may.1

  pub making_next : (after : Entries) → after ≡ with_grant book grant
      → ((own : List ℕ) (deeds : List Deed) → ShowsBook book own deeds → All (λ deed. deed_number deed < rank grant) deeds
      → ShowsBook after own (deeds ++ Granting grant ∷ []))
      → ((next : Grant) → rank grant < rank next → IsNextRecord after next) → ((next : ℕ) → grant.place < next → IsLater after next)
      → IsMaking log place left after
  making_next after is shows next later =
      let tables : book.tables ≡ after.tables = ap (λ (b : Entries). b.tables) (sym is) in
      record {
        made = making.made ++ Granting grant ∷ [];
        all = making.all ∙ sym (append_assoc making.made (Granting grant ∷ []) left);
        shown = shows (owners log) making.made making.shown may.0;
        later = later (place + 1) (omega (arith, here));
        owned = ap owners_of (sym tables) ∙ making.owned;
        grants = All-tail IsGranting (Granting grant) left making.grants;
        at = All-tail (λ deed. place_of deed ≡ place) (Granting grant) left making.at;
        tables = subst (λ (ts : List Creation). All (λ deed. table_of_deed deed < length ts) left) tables
            (All-tail (λ deed. table_of_deed deed < length book.tables) (Granting grant) left making.tables);
        next = λ one at above.
            next one (All-contains (λ deed. deed_number deed < rank one) (making.made ++ Granting grant ∷ []) (Granting grant) above (Contains-push making.made (Granting grant)));
      }

-- after the last the book is that of the next place
pub making_ends : (log : List Statement) (place : ℕ) (book : Entries) → IsMaking log place [] book → IsBookState log (place + 1) book
making_ends log place book making = record {
  shown = subst (ShowsBook book (owners log)) (sym (making.all ∙ append-nil making.made)) making.shown;
  later = making.later;
  owned = making.owned;
}

-- all grants of the place appended
abbrev pub with_grants : Entries → List Grant → Entries
with_grants book grants = record { tables = book.tables; records = book.records ++ map unended grants }

pub record IsMade (log : List Statement) (place : ℕ) (before after : Entries) : Type 0 where
  pub stands : IsBookState log (place + 1) after
  pub sound : IsSoundBook after
  pub cut : (first : ℕ) → first ≤ place → cut_book first after ≡ cut_book first before

pub making_all : (log : List Statement) (place : ℕ) (book : Entries) (left : List Deed) → IsMaking log place left book → IsSoundBook book
    → IsMade log place book (with_grants book (grants_of left))
making_all log place book [] making sound =
    let same : book ≡ with_grants book [] = ap (λ (es : List Record). record { tables = book.tables; records = es }) (sym (append-nil book.records)) in
    subst (IsMade log place book) same (record { stands = making_ends log place book making; sound = sound; cut = λ first low. refl })
making_all log place book (Granting grant ∷ left) making sound =
    let next = may_next log place book grant left making in
    let table = on_table log place book grant left making in
    let held = is_held log place book grant left making in
    let at = here log place book grant left making in
    let after : Entries = with_grant book grant in
    let rest = making_all log place after left
    (making_next log place book grant left making after refl
    (λ own deeds shows below. shows_grant book own deeds grant table held shows below)
    (λ one above. next_record book grant next one above)
    (λ one above. later_grant book grant next one above))
    (sound_grant book grant sound next table held) in
    let same : with_grants after (grants_of left) ≡ with_grants book (grant ∷ grants_of left) =
    ap (λ (es : List Record). record { tables = book.tables; records = es }) (append_assoc book.records (unended grant ∷ []) (map unended (grants_of left))) in
    subst (IsMade log place book) same (record {
      stands = rest.stands;
      sound = rest.sound;
      cut = λ first low. rest.cut first low ∙ cut_granted first book grant (omega (arith, low, at));
    })
making_all log place book (Revoking revocation ∷ left) making sound = absurd (All-head IsGranting (Revoking revocation) left making.grants)

-- The owner of a new table may grant on it.
use Rattle.std.proofs.Common.{◌≡◌, ℕ, ◌<◌, true, List, [], ◌∷◌, ◌++◌, Option, Some, None, length, length-append, map, refl, sym, ◌∙◌, ap, subst, arith, eq-eqb}
use Rattle.std.specs.Prelude.{IfSome, slice_get}
use Rattle.std.proofs.lemmas.List.Elements.{All-push, All-weaker}
use Rattle.model_base.specs.declared.deed.Grant.{Grant}
use Rattle.model_base.specs.declared.deed.Record.{Record}
use Rattle.model_base.specs.Privileges.{option_of}
use Rattle.model_base.specs.Ranks.{rank}
use Rattle.grants_base.specs.View.{has_by, holds_in}
use Rattle.model_base.specs.Records.{ended_at}
use Rattle.grants_base.specs.Book.{Entries, IsLater, IsSoundBook, end_slot, owners_of, unended, view_of, with_grant, with_table}
use Rattle.grants_base.specs.declared.entries.Creation.{Creation}
use Rattle.grants_base.specs.declared.entries.End.{End}
use Rattle.grants.proofs.BookLaws.{sound_table}
use Rattle.grants.proofs.EndedLaws.{IsOpen, ends_open}
use Rattle.grants.proofs.GrantLaws.{sound_grant}
use Rattle.grants.proofs.LaterLaws.{later_grant, next_later}
use Rattle.grants_base.proofs.Lookups.{ended_none}
use Rattle.grants_base.proofs.RevokeLaws.{sound_revoke}
use Rattle.trials.proofs.extending.extended.Goals as goal

-- the owner of the last table
last_owner : (tables : List Creation) (creation : Creation) → slice_get (owners_of (tables ++ creation ∷ [])) (length tables) ≡ Some creation.owner
last_owner [] creation = refl
last_owner (first ∷ tables) creation = last_owner tables creation

owner_holds : (book : Entries) (creation : Creation) (grant : Grant) → grant.table ≡ length book.tables → grant.grantor ≡ creation.owner
    → holds_in (view_of (with_table book creation) grant.place) grant.grantor (option_of grant) ≡ true
unfolding has_by
owner_holds book creation grant table grantor =
    rw (table, grantor, last_owner book.tables creation, eq-eqb creation.owner creation.owner refl) refl

end_below_more : (place later : ℕ) (end : Option ℕ) → place < later → IfSome end (λ q. q < place) → IfSome end (λ q. q < later)
end_below_more place later None less below = tt
end_below_more place later (Some q) less below = omega arith

-- a place above the new table's lies above all
later_still : (book : Entries) (creation : Creation) (place : ℕ) → IsLater book creation.place → creation.place < place → IsLater (with_table book creation) place
later_still book creation place later less = record {
  tables =
      All-push (λ (earlier : Creation). earlier.place < place) book.tables creation
      (All-weaker (λ (earlier : Creation). earlier.place < creation.place) (λ (earlier : Creation). earlier.place < place) (λ earlier below. omega arith) book.tables later.tables) less;
  grants =
      All-weaker (λ (entry : Record). entry.grant.place < creation.place) (λ (entry : Record). entry.grant.place < place)
      (λ entry below. omega arith) book.records later.grants;
  ends =
      All-weaker (λ (entry : Record). IfSome entry.end (λ q. q < creation.place)) (λ (entry : Record). IfSome entry.end (λ q. q < place))
      (λ entry below. end_below_more creation.place place entry.end less below) book.records later.ends;
}

sound_more : (book : Entries) (creation : Creation) (grant : Grant) → IsSoundBook book → IsLater book creation.place → length book.tables < 65536
    → grant.table ≡ length book.tables → grant.grantor ≡ creation.owner → creation.place < grant.place → IsSoundBook (with_grant (with_table book creation) grant)
sound_more book creation grant sound later room table grantor less =
    sound_grant (with_table book creation) grant (sound_table book creation sound later room) (next_later (with_table book creation) grant (later_still book creation grant.place later less))
    (omega (arith, length-append book.tables (creation ∷ []), table)) (owner_holds book creation grant table grantor)

last_is : (entries : List Record) (entry : Record) → slice_get (entries ++ entry ∷ []) (length entries) ≡ Some entry
last_is [] entry = refl
last_is (first ∷ entries) entry = last_is entries entry

-- the last grant may end after all
last_ended : (book : Entries) (grant : Grant) (slot place : ℕ) → IsSoundBook (with_grant book grant) → IsLater (with_grant book grant) place → slot ≡ length book.records
    → IsSoundBook (record { tables = book.tables; records = end_slot (book.records ++ unended grant ∷ []) slot place })
last_ended book grant slot place sound later is =
    let entries = book.records ++ unended grant ∷ [] in
    let end : End = record { slot = slot; place = place } in
    let last : IsOpen entries place end (rank grant) =
    record { entry = unended grant; there = ap (slice_get entries) is ∙ last_is book.records (unended grant); unended = refl; named = refl; same = refl } in
    let ended : end_slot entries slot place ≡ map (ended_at place (rank grant ∷ [])) entries =
    ap (λ (es : List Record). end_slot es slot place) (ended_none place entries) ∙ ends_open entries sound.rising place [] end (rank grant) last in
    subst (λ (es : List Record). IsSoundBook (record { tables = book.tables; records = es })) (sym ended) (sound_revoke (with_grant book grant) place (rank grant ∷ []) sound later)

pub extend-requires-clause-sound : goal.extend-requires-clause-sound
extend-requires-clause-sound c =
    let book = c.args.book.now in
    let creation = c.args.creation.now in
    let grant = c.args.grant.now in
    let here = sound_more book creation grant c.tables-tables.ensures.sound c.requires.later c.requires.room c.requires.table c.requires.grantor c.requires.place in
    let later = later_still book creation grant.place c.requires.later c.requires.place in
    last_ended (with_table book creation) grant (length c.records-slot.result.now) c.args.place here (later_grant (with_table book creation) grant (next_later (with_table book creation) grant later) c.args.place c.requires.end) (ap length c.records-slot.ensures.records)

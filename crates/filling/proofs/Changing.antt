-- The book moved on over the places of a batch, by tables, grants and ends that are noted beside it.
use Rattle.std.proofs.Common.{◌≡◌, ◌<◌, ◌≤◌, ◌+◌, ◌-◌, ◌++◌, ◌||◌, ◌∷◌, [], ℕ, zero, suc, Bool, true, false, List, Option, Some, None, is_none, filter, length, map, take, refl, ap, sym, ◌∙◌, subst, arith, append_assoc, length-append, inl, inr, eq-eqb}
use Rattle.std.specs.Prelude.{◌==◌, All, nat_lt, slice_get}
use Rattle.std.specs.List.{flat_map, range_with_len}
use Rattle.std.specs.Option.{option_map, option_map_or}
use Rattle.std.proofs.lemmas.Bool.{eqb-true, le-ltb, or_cases, or_right, true≢false}
use Rattle.std.proofs.lemmas.Grind.{flat_map-append}
use Rattle.std.proofs.lemmas.List.{append-nil, length-map, map-append}
use Rattle.std.proofs.lemmas.List.Elements.{All-cons, All-head, All-nil, All-tail, All-weaker, filter-append}
use Rattle.std.proofs.lemmas.Option.{slice_get_within}
use Rattle.model_base.specs.declared.deed.Deed.{Deed}
use Rattle.model_base.specs.declared.deed.Deed.TheVariants.{Revoking}
use Rattle.model_base.specs.declared.deed.Grant.{Grant}
use Rattle.model_base.specs.declared.deed.Need.{Need}
use Rattle.model_base.specs.declared.deed.Record.{Record}
use Rattle.model_base.specs.declared.deed.Revocation.{Revocation}
use Rattle.model_base.specs.declared.outcome.Outcome.{Outcome}
use Rattle.model_base.specs.declared.statement.Form.{Form}
use Rattle.model_base.specs.declared.statement.Statement.{Statement}
use Rattle.model_base.specs.Body.{Ending, completed}
use Rattle.model_base.specs.DeedsLeft.{revocation_of}
use Rattle.model_base.specs.Laws.{IsRising}
use Rattle.model_base.specs.Outcomes.{World, at_place, body, creator, deed_done, deeds_before, deeds_of, ended, judged, missing, outcome, owners, step_form, world_before}
use Rattle.model_base.specs.Privileges.{ended_by, is_among, kept, lost, place_of}
use Rattle.model_base.specs.Ranks.{rank}
use Rattle.model_base.specs.Records.{ended_at, grants_of, in_force, recorded}
use Rattle.model_base.proofs.Made.{deeds_of-one, deeds_of-placed}
use Rattle.model_base.proofs.Records.{in_force-records}
use Rattle.model_base.proofs.Replay.{by_cases}
use Rattle.grants_base.specs.Book.{Entries, IsLater, IsSoundBook, ShowsBook, cut_book, end_slot, end_slots, extended, owners_of, table_of_deed, unended, with_ends, with_table}
use Rattle.grants_base.specs.declared.entries.Creation.{Creation}
use Rattle.grants_base.specs.declared.entries.End.{End}
use Rattle.grants_base.proofs.Indexing.{recorded-end_slots}
use Rattle.grants_base.proofs.RevokeLaws.{shows_revoke, sound_revoke}
use Rattle.grants_base.proofs.SlotEnds.{length-end_slot}
use Rattle.grants_base.proofs.Walks.{length-recorded}
use Rattle.grants.proofs.BookLaws.{sound_table}
use Rattle.grants.proofs.LaterLaws.{later_ends, later_table}
use Rattle.grants.proofs.EndedLaws.{IsOpen, ends_open}
use Rattle.evaluation.proofs.OnlyRevocation.{all_grants, only_revocation}
use Rattle.own_words.specs.Words.{creates, ended_in, ranks_ended_by}
use Rattle.filling.proofs.Ranges.{range_more}
use Rattle.filling.specs.Changes.{AreChanges, creation_at, creations_at}
use Rattle.filling.specs.Known.{AreKnown}
use Rattle.filling.specs.BookState.{IsBookState, is_completed}
use Rattle.filling.proofs.Cutting.{cut_ended}
use Rattle.filling.proofs.Making.{below_here, made_none, made_revoked, making_all, making_starts, with_grants}
use Rattle.filling.proofs.Lying.{recorded_at}
use Rattle.filling.proofs.Stepping.{create_room, created, make_next, make_owners, make_table, made_here, made_of, no-creator}

-- the grants of records with later ones after them
recorded-unended : (grants : List Grant) → recorded (map unended grants) ≡ grants
recorded-unended [] = refl
recorded-unended (grant ∷ grants) = ap (λ gs. grant ∷ gs) (recorded-unended grants)

pub recorded-all : (entries : List Record) (grants : List Grant) (ends : List End) → recorded (end_slots (entries ++ map unended grants) ends) ≡ recorded entries ++ grants
recorded-all entries grants ends =
    recorded-end_slots (entries ++ map unended grants) ends
    ∙ map-append (λ (entry : Record). entry.grant) entries (map unended grants)
    ∙ ap (λ gs. recorded entries ++ gs) (recorded-unended grants)

-- one end more
end_slots-push : (entries : List Record) (ends : List End) (end : End) → end_slots entries (ends ++ end ∷ []) ≡ end_slot (end_slots entries ends) end.slot end.place
end_slots-push entries [] end = refl
end_slots-push entries (first ∷ ends) end = end_slots-push (end_slot entries first.slot first.place) ends end

-- a record more, which none of the ends is of
end_slot-append : (entries more : List Record) (slot place : ℕ) → slot < length entries → end_slot (entries ++ more) slot place ≡ end_slot entries slot place ++ more
end_slot-append [] more slot place within = absurd (omega arith)
end_slot-append (entry ∷ entries) more zero place within = refl
end_slot-append (entry ∷ entries) more (suc slot) place within = ap (λ es. entry ∷ es) (end_slot-append entries more slot place (omega arith))

end_slots-append : (ends : List End) (entries more : List Record) → All (λ (end : End). end.slot < length entries) ends → end_slots (entries ++ more) ends ≡ end_slots entries ends ++ more
end_slots-append [] entries more within = refl
end_slots-append (end ∷ ends) entries more within =
    let Within : List Record → End → Type 0 = λ es (one : End). one.slot < length es in
    let long = length-end_slot entries end.slot end.place in
    ap (λ es. end_slots es ends) (end_slot-append entries more end.slot end.place (All-head (Within entries) end ends within))
    ∙ end_slots-append ends (end_slot entries end.slot end.place) more
    (All-weaker (Within entries) (Within (end_slot entries end.slot end.place)) (λ one less. omega (arith, less, long)) ends (All-tail (Within entries) end ends within))

-- a grant in force has a record without an end
open_at : (entries : List Record) (ranked : ℕ) → is_among ranked (in_force entries) ≡ true
    → (slot : ℕ) × (entry : Record) × (slice_get entries slot ≡ Some entry) × (is_none entry.end ≡ true) × (rank entry.grant ≡ ranked)
open_at [] ranked among = absurd (true≢false (sym among))
open_at (entry ∷ entries) ranked among =
    by_cases (is_none entry.end)
    (λ free.
    let either : ((rank entry.grant == ranked) || is_among ranked (in_force entries)) ≡ true = rw free at among in
    elim (or_cases (rank entry.grant == ranked) (is_among ranked (in_force entries)) either) [
      | inl here ↦ (0, entry, refl, free, eqb-true (rank entry.grant) ranked here)
      | inr later ↦ let rest = open_at entries ranked later in (suc rest.0, rest.1, rest.2, rest.3, rest.4)
    ])
    (λ over. let rest = open_at entries ranked (rw over at among) in (suc rest.0, rest.1, rest.2, rest.3, rest.4))

-- so one more of some grants is ended
pub ends_more : (entries : List Record) (grants : List Grant) (old now after : List End) (place : ℕ) (before : List ℕ) (ranked slot : ℕ)
    → IsRising (recorded entries ++ grants)
    → is_among ranked (in_force (end_slots (entries ++ map unended grants) old)) ≡ true
    → ((k : ℕ) (grant : Grant) → slice_get (recorded entries ++ grants) k ≡ Some grant → rank grant ≡ ranked → slot ≡ k)
    → end_slots (entries ++ map unended grants) now ≡ map (ended_at place before) (end_slots (entries ++ map unended grants) old)
    → after ≡ now ++ record { slot = slot; place = place } ∷ []
    → (end_slots (entries ++ map unended grants) after ≡ map (ended_at place (before ++ ranked ∷ [])) (end_slots (entries ++ map unended grants) old))
    × (slot < length entries + length grants)
ends_more entries grants old now after place before ranked slot rising among found_slot so_far is =
    let base : List Record = entries ++ map unended grants in
    let start : List Record = end_slots base old in
    let same : recorded start ≡ recorded entries ++ grants = recorded-all entries grants old in
    let rises : IsRising (recorded start) = subst IsRising (sym same) rising in
    let found = open_at start ranked among in
    let at : slice_get (recorded entries ++ grants) found.0 ≡ Some found.1.grant =
    subst (λ (gs : List Grant). slice_get gs found.0 ≡ Some found.1.grant) same (recorded_at start found.0 found.1 found.2) in
    let here : slot ≡ found.0 = found_slot found.0 found.1.grant at found.4 in
    let end : End = record { slot = slot; place = place } in
    let open_end : IsOpen start place end ranked = record {
      entry = found.1;
      there = ap (slice_get start) here ∙ found.2;
      unended = found.3;
      named = found.4;
      same = refl;
    } in
    let within = slice_get_within (recorded entries ++ grants) found.0 found.1.grant at in (
      ap (end_slots base) is ∙ end_slots-push base now end ∙ ap (λ (es : List Record). end_slot es slot place) so_far
          ∙ ends_open start rises place before end ranked open_end,
      omega (arith, within, here, length-append (recorded entries) grants, length-recorded entries),
    )

-- a book with one more table shows what it showed
shows_table : (book : Entries) (creation : Creation) (owned more : List ℕ) (deeds : List Deed) → ShowsBook book owned deeds
    → owned ≡ owners_of (with_table book creation).tables ++ more → ShowsBook (with_table book creation) owned deeds
shows_table book creation owned more deeds shows begins = record {
  more = more;
  begins = begins;
  proper = shows.proper;
  told = All-weaker (λ deed. table_of_deed deed < length book.tables) (λ deed. table_of_deed deed < length (book.tables ++ creation ∷ []))
      (λ deed less. omega (arith, less, length-append book.tables (creation ∷ []))) deeds shows.told;
  same = shows.same;
}

cut_tabled : (first : ℕ) (book : Entries) (creation : Creation) → first ≤ creation.place → cut_book first (with_table book creation) ≡ cut_book first book
cut_tabled first book creation above =
    let below : Creation → Bool = λ (c : Creation). nat_lt c.place first in
    rw (filter-append below book.tables (creation ∷ []), le-ltb creation.place first above, append-nil (filter below book.tables)) refl

-- what a revocation ended was in force
lost-among : (before after : List Grant) → All (λ ranked. is_among ranked before ≡ true) (lost before after)
lost-among [] after = All-nil (λ ranked. is_among ranked [] ≡ true)
lost-among (grant ∷ before) after =
    let Among : ℕ → Type 0 = λ ranked. is_among ranked (grant ∷ before) ≡ true in
    let rest = All-weaker (λ ranked. is_among ranked before ≡ true) Among (λ ranked is. or_right (rank grant == ranked) (is_among ranked before) is) (lost before after) (lost-among before after) in
    by_cases (is_among (rank grant) after)
    (λ stays.
    let same : lost before after ≡ lost (grant ∷ before) after = rw stays refl in
    subst (All Among) same rest)
    (λ falls.
    let same : rank grant ∷ lost before after ≡ lost (grant ∷ before) after = rw falls refl in
    subst (All Among) same (All-cons Among (rank grant) (lost before after) (itself grant before) rest))
  where
    itself : (one : Grant) (others : List Grant) → is_among (rank one) (one ∷ others) ≡ true
    itself one others = rw (eq-eqb (rank one) (rank one) refl) refl

-- the ranks that an outcome tells are those of the grants that its place's revocation ended
module _ (own : List ℕ) (place : ℕ) (world : World) (statement : Statement) where
  abbrev TellsEnds : Outcome → Type 0
  TellsEnds came = is_completed came ≡ true → (revocation : Revocation) → deeds_of place statement.user statement.form ≡ Revoking revocation ∷ []
      → ended_in came ≡ ended_by own world.deeds revocation

  ends-ended : (ending : Ending) → TellsEnds (ended own world (deeds_of place statement.user statement.form) ending)
  ends-ended (completed rows outputs) done revocation is = ap (λ (made : List Deed). ranks_ended_by (deed_done own world made)) is
  ends-ended ending done revocation is = absurd (cc)

  ends-judged : (lack : Option Need) → TellsEnds (judged own place world statement lack).0
  ends-judged (Some need) done revocation is = absurd (cc)
  ends-judged None done revocation is = ends-ended (body world.rows statement.form) done revocation is

  ends-form : (form : Form) → TellsEnds (step_form own place world statement form).0
  ends-form (Form.Create table columns) done revocation is = absurd (cc)
  ends-form form done revocation is = ends-judged (missing own world statement.user form) done revocation is

abbrev book_of : List Creation → List Record → Entries
book_of tables entries = record { tables = tables; records = entries }

-- before the first place nothing is changed
pub none_yet : (log : List Statement) (first : ℕ) (book : Entries) (tables : List Creation) (grants : List Grant) (ends : List End)
    → IsBookState log first book → IsSoundBook book → tables ≡ [] → grants ≡ [] → ends ≡ [] → AreChanges log first 0 book tables grants ends
none_yet log first book tables grants ends stands sound no_tables no_grants no_ends =
    rw (no_tables, no_grants, no_ends) start
  where
    same : extended book [] [] [] ≡ book
    same = rw (append-nil book.tables, append-nil book.records) refl

    start : AreChanges log first 0 book [] [] []
    start =
        let here : first ≡ first + 0 = omega arith in
        record {
          created = refl;
          slots = All-nil _;
          stands = subst (λ (n : ℕ). IsBookState log n (extended book [] [] [])) here (subst (IsBookState log first) (sym same) stands);
          sound = subst IsSoundBook (sym same) sound;
          before = ap (cut_book first) same;
        }

-- one place more
module _ (log : List Statement) (first index : ℕ) (book : Entries) (tables : List Creation) (grants : List Grant) (ends : List End)
    (are : AreChanges log first index book tables grants ends) where
  abbrev place : ℕ
  place = first + index

  abbrev so_far : Entries
  so_far = extended book tables grants ends

  abbrev past : List Deed
  past = deeds_before log place

  abbrev Fitting : List Grant → End → Type 0
  Fitting all end = end.slot < length book.records + length all

  pub rising : IsRising (recorded book.records ++ grants)
  rising = subst IsRising (recorded-all book.records grants ends) are.sound.rising

  creations_more : flat_map (creations_at log) (range_with_len first (index + 1)) ≡ flat_map (creations_at log) (range_with_len first index) ++ creations_at log place
  creations_more =
      ap (flat_map (creations_at log)) (range_more first index)
      ∙ flat_map-append (creations_at log) (range_with_len first index) (place ∷ [])
      ∙ ap (λ (cs : List Creation). flat_map (creations_at log) (range_with_len first index) ++ cs) (append-nil (creations_at log place))

  moved : (next : Entries) (more : List Creation) (made : List Grant) (ended : List End) → extended book more made ended ≡ next
      → more ≡ tables ++ creations_at log place → All (λ (end : End). end.slot < length book.records + length made) ended
      → IsBookState log (place + 1) next → IsSoundBook next → cut_book first next ≡ cut_book first so_far → AreChanges log first (index + 1) book more made ended
  moved next more made ended is tables_are slots stands sound cut =
      let on : place + 1 ≡ first + (index + 1) = omega arith in
      record {
        created = tables_are ∙ ap (λ (cs : List Creation). cs ++ creations_at log place) are.created ∙ sym creations_more;
        slots = slots;
        stands = subst (λ (n : ℕ). IsBookState log n (extended book more made ended)) on (subst (IsBookState log (place + 1)) (sym is) stands);
        sound = subst IsSoundBook (sym is) sound;
        before = ap (cut_book first) is ∙ cut ∙ are.before;
      }

  module _ (statement : Statement) (at : slice_get log place ≡ Some statement) (known : AreKnown log) where
    created-here : (made : List ℕ) → creator statement.user statement.form ≡ made → creations_at log place ≡ map (creation_at place) made
    created-here made is =
        ap (λ (found : Option Statement). option_map_or (λ (s : Statement). map (creation_at place) (creator s.user s.form)) found []) at
        ∙ ap (map (creation_at place)) is

    pub with_created : creates statement.form ≡ true → AreChanges log first (index + 1) book (tables ++ creation_at place statement.user ∷ []) grants ends
    with_created creating =
        let one : Creation = creation_at place statement.user in
        let made = made_here log place statement at so_far are.stands known creating in
        let least : first ≤ place = omega arith in
        moved (with_table so_far one) (tables ++ one ∷ []) grants ends
        (ap (λ (ts : List Creation). book_of ts so_far.records) (sym (append_assoc book.tables tables (one ∷ []))))
        (ap (λ (cs : List Creation). tables ++ cs) (sym (created-here (statement.user ∷ []) made.0)))
        are.slots
        (created log place statement at so_far are.stands known creating (with_table so_far one) refl
        (λ owned more deeds shows begins. shows_table so_far one owned more deeds shows begins)
        (λ next less. later_table so_far one are.stands.later next less))
        (sound_table so_far one are.sound are.stands.later (create_room log place statement at so_far are.stands known creating))
        (cut_tabled first so_far one least)

    module _ (other : creates statement.form ≡ false) (came : Outcome) (came_is : outcome log place ≡ Some came) where
      abbrev made : List Deed
      made = deeds_of place statement.user statement.form

      next-owners : owners (take (place + 1) log) ≡ owners (take place log)
      next-owners = make_owners log place statement at so_far are.stands known other

      same-tables : tables ≡ tables ++ creations_at log place
      same-tables =
          sym (append-nil tables) ∙ ap (λ (cs : List Creation). tables ++ cs) (sym (created-here [] (no-creator statement.user statement.form other)))

      next-deeds : (done : Bool) → is_completed came ≡ done → deeds_before log (place + 1) ≡ past ++ made_of done made
      next-deeds done is = make_next log place statement at came came_is ∙ ap (λ (b : Bool). past ++ made_of b made) is

      pub with_none : is_completed came ≡ false → AreChanges log first (index + 1) book tables grants ends
      with_none is =
          moved so_far tables grants ends refl same-tables are.slots
          (made_none log place so_far are.stands next-owners (next-deeds false is ∙ append-nil past)) are.sound refl

      module _ (done : is_completed came ≡ true) where
        on-tables : All (λ one. table_of_deed one < length so_far.tables) made
        on-tables = make_table log place statement at so_far are.stands known

        all-here : All (λ one. place_of one ≡ place) made
        all-here = deeds_of-placed place statement.user statement.form

        pub with_granted : revocation_of made ≡ None → AreChanges log first (index + 1) book tables (grants ++ grants_of made) ends
        with_granted none =
            let base : List Record = book.records ++ map unended grants in
            let more : List Grant = grants_of made in
            let all = all_grants made (deeds_of-one place statement.user statement.form) none in
            let grown = making_all log place so_far made
            (making_starts log place so_far are.stands next-owners made (next-deeds true done) all all-here on-tables) are.sound in
            let within : All (λ (end : End). end.slot < length base) ends =
            All-weaker (Fitting grants) (λ (end : End). end.slot < length base)
            (λ end less. omega (arith, less, length-append book.records (map unended grants), length-map grants unended)) ends are.slots in
            let fit : All (Fitting (grants ++ more)) ends =
            All-weaker (Fitting grants) (Fitting (grants ++ more)) (λ end less. omega (arith, less, length-append grants more)) ends are.slots in
            let least : first ≤ place = omega arith in
            moved (with_grants so_far more) tables (grants ++ more) ends
            (ap (book_of so_far.tables)
            (ap (λ (es : List Record). end_slots es ends)
            (ap (λ (es : List Record). book.records ++ es) (map-append unended grants more) ∙ sym (append_assoc book.records (map unended grants) (map unended more)))
            ∙ end_slots-append ends base (map unended more) within))
            same-tables fit grown.stands grown.sound (grown.cut first least)

        module _ (revocation : Revocation) (is : revocation_of made ≡ Some revocation) where
          alone : made ≡ Revoking revocation ∷ []
          alone = only_revocation made revocation (deeds_of-one place statement.user statement.form) is

          here : revocation.place ≡ place
          here = All-head (λ one. place_of one ≡ place) (Revoking revocation) [] (subst (All (λ one. place_of one ≡ place)) alone all-here)

          ended-told : ended_in came ≡ ended_by (owners log) past revocation
          ended-told =
              let found : Outcome = (at_place (owners log) place (world_before log place) statement).0 in
              let both : Some found ≡ Some came = sym (ap (option_map (λ s. (at_place (owners log) place (world_before log place) s).0)) at) ∙ came_is in
              let same : found ≡ came = cc in
              subst (λ (o : Outcome). is_completed o ≡ true → ended_in o ≡ ended_by (owners log) past revocation) same
              (λ completes. ends-form (owners log) place (world_before log place) statement statement.form completes revocation alone) done

          pub ended-open : All (λ one. is_among one (in_force (extended book [] grants ends).records) ≡ true) (ended_in came)
          ended-open =
              let grants_now : in_force so_far.records ≡ kept (owners log) past = ap in_force are.stands.shown.same ∙ in_force-records (owners log) past are.stands.shown.proper in
              subst (λ (gs : List Grant). All (λ one. is_among one gs ≡ true) (ended_in came)) (sym grants_now)
              (subst (All (λ one. is_among one (kept (owners log) past) ≡ true)) (sym ended-told)
              (lost-among (kept (owners log) past) (kept (owners log) (past ++ Revoking revocation ∷ []))))

          pub with_revoked : (after : List End) → (extended book [] grants after).records ≡ map (ended_at revocation.place (ended_in came)) (extended book [] grants ends).records
              → All (λ (end : End). end.slot < length book.records + length grants) after → AreChanges log first (index + 1) book tables grants after
          with_revoked after records_are slots =
              let later : IsLater so_far revocation.place = subst (IsLater so_far) (sym here) are.stands.later in
              let table = All-head (λ one. table_of_deed one < length so_far.tables) (Revoking revocation) []
              (subst (All (λ one. table_of_deed one < length so_far.tables)) alone on-tables) in
              let least : first ≤ revocation.place = omega (arith, here) in
              moved (with_ends so_far revocation.place (ended_in came)) tables grants after
              (ap (book_of so_far.tables) records_are)
              same-tables slots
              (made_revoked log place so_far are.stands next-owners revocation (next-deeds true done ∙ ap (λ (ds : List Deed). past ++ ds) alone)
              (with_ends so_far revocation.place (ended_in came)) refl
              (subst (λ (ranks : List ℕ). ShowsBook (with_ends so_far revocation.place ranks) (owners log) (past ++ Revoking revocation ∷ [])) (sym ended-told)
              (shows_revoke so_far (owners log) past revocation table are.stands.shown (below_here log place so_far are.stands revocation.place here)))
              (later_ends so_far revocation.place (ended_in came) later (place + 1) (omega (arith, here))))
              (sound_revoke so_far revocation.place (ended_in came) are.sound later)
              (cut_ended first so_far revocation.place (ended_in came) least)

-- after all places the book is that after them
pub all_changed : (log : List Statement) (first last : ℕ) (book now : Entries) (tables : List Creation) (grants : List Grant) (ends : List End)
    → first ≤ last → AreChanges log first (last - first) book tables grants ends → now ≡ extended book tables grants ends → IsBookState log last now
all_changed log first last book now tables grants ends order are is =
    let whole : first + (last - first) ≡ last = omega arith in
    subst (λ (n : ℕ). IsBookState log n now) whole (subst (IsBookState log (first + (last - first))) (sym is) are.stands)

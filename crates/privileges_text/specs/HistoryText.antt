-- How the spans are spelled in which a user held a privilege.
use Rattle.std.specs.Prelude.{◌≡◌, ◌+◌, ◌++◌, ◌∷◌, [], MatchBool, ℕ, Bool, List, None, Option, Some, codes, length, slice_get}
use Rattle.std.specs.Fmt.{decimal}
use Rattle.std.specs.List.{flat_map}
use Rattle.model_base.specs.Outcomes.{deeds_before, owners}
use Rattle.model_base.specs.Privileges.{owns}
use Rattle.model_base.specs.declared.deed.Kind.{Kind}
use Rattle.grants_base.specs.Book.{Entries, ShowsBook}
use Rattle.grants_base.specs.declared.entries.Creation.{Creation}
use Rattle.sequencer.specs.Log.{Accepted}
use Rattle.sequencer.specs.Names.{known_number}
use Rattle.privileges.specs.Spans.{AreSpans}
use Rattle.privileges.specs.declared.spanning.Span.{Span}
use Rattle.privileges_text.specs.declared.ways.UserNeed.{UserNeed}
use Rattle.privileges_text.specs.Ways.{way_ending}

-- the place that ended a span, if one did
abbrev pub to_text : Option ℕ → List ℕ
to_text None = []
to_text (Some to) = codes " to " ++ decimal to

-- the places of a span
abbrev pub span_range_text : Span → List ℕ
span_range_text span = codes "from " ++ decimal span.from ++ to_text span.to

-- the line of a span: its places, and the way right after the first
abbrev pub span_text : Accepted → UserNeed → Span → List ℕ
span_text log of span = span_range_text span ++ way_ending log (span.from + 1) of

-- the lines of the spans
abbrev pub spans_text : Accepted → UserNeed → List Span → List ℕ
spans_text log of [] = codes "never\n"
spans_text log of (span ∷ spans) = flat_map (span_text log of) (span ∷ spans)

-- the line of the table's owner: the place of its creation
abbrev pub owner_since_text : ℕ → List ℕ
owner_since_text place = codes "owner from " ++ decimal place ++ codes "\n"

-- the text has the place at which the user's own table was created, by a book of all that the log's deeds made and ended
pub record TellsOwner (log : Accepted) (of : UserNeed) (text : List ℕ) : Type 0 where
  pub book : Entries
  pub shows : ShowsBook book (owners log.statements) (deeds_before log.statements (length log.statements))
  pub creation : Creation
  pub created : slice_get book.tables of.need.table ≡ Some creation
  pub told : text ≡ owner_since_text creation.place

-- the text has a line for each span in which the user held what is needed, in order, or says that this never was
pub record TellsSpans (log : Accepted) (of : UserNeed) (text : List ℕ) : Type 0 where
  pub spans : List Span
  pub all : AreSpans (owners log.statements) (deeds_before log.statements (length log.statements)) of.user of.need spans
  pub told : text ≡ spans_text log of spans

-- the history of a need: of the table's owner, or of another user
abbrev pub TellsHistoryOf : Accepted → UserNeed → List ℕ → Type 0
TellsHistoryOf log of text =
    MatchBool (owns (owners log.statements) of.user of.need.table) (TellsOwner log of text) (TellsSpans log of text)

-- so it is for a user and a table of these names
pub record TellsHistory (log : Accepted) (user : List ℕ) (kind : Kind) (name : List ℕ) (option : Bool) (text : List ℕ) : Type 0 where
  pub number : ℕ
  pub known : known_number log.names.users user ≡ Some number
  pub table : ℕ
  pub named : known_number log.names.tables name ≡ Some table
  pub history : TellsHistoryOf log (record { user = number; need = record { table = table; kind = kind; option = option } }) text

use Rattle.std.proofs.Common.{◌≡◌, ◌+◌, ◌-◌, [], get_or, drop, ap, ◌∙◌, sym, arith}
use Rattle.line_words.specs.Access.{letters}
use Rattle.line_words.specs.Words.{is_name, is_name_byte}
use Rattle.line_words.proofs.NameWords.{all_name_bytes}
use Rattle.line_words.proofs.TakenAccess.{access_taken, front_name, letter_some, letters_some}
use Rattle.line_words.specs.declared.access.RawAccess.{RawAccess}
use Rattle.std.specs.List.{list_all}
use Rattle.line_words.proofs.TakenWords.{decimal_digits_all}
use Rattle.line_words.proofs.word_list.Words.next_access.Goals.{else-self-colon-eq48-via-then-self-colon-eq48+else-end-colon-2, else-self-colon-eq48-via-else-self-colon-eq48}
use Rattle.line_words.proofs.word_list.Words.next_access.Goals as goal

pub of-requires : goal.of-requires
of-requires c =
    let line = c.self.inside.line.now in
    let start = c.self.inside.start in
    let colon = c.name_end_by-colon in
    let letter = sym c.if-not-is_ascii_lowercase.ensures.value in
    let some = letter_some line start colon.result (omega arith) colon.ensures.value letter in
    front_name line start colon.result some colon.ensures.bound colon.ensures.value letter (omega arith)

pub returns : goal.returns
returns c =
    let line = c.self.inside.line.now in
    let start = c.self.inside.start in
    let colon = c.name_end_by-colon in
    let digits = c.digits_from-row in
    let letter = sym c.if-not-is_ascii_lowercase.ensures.value in
    let some = letter_some line start colon.result (omega arith) colon.ensures.value letter in
    let row =
    decimal_digits_all line (colon.result + 1) digits.result.1 digits.result.0 (omega (arith, digits.ensures.behind)) digits.ensures.within digits.ensures.few digits.ensures.digits digits.ensures.value
    lone in
    let named = front_name line start colon.result some colon.ensures.bound colon.ensures.value letter (omega arith) in (
      access_taken line start colon.result digits.result.1 c.behind_letter-read.result.1 c.behind_letter-insert.result.1 c.behind_letter-update.result.1 c.behind_letter-delete.result.1 access c.args.self.now c.self.view_is
          (omega arith) (omega arith) c.if-self-colon-ne58.false c.of.ensures (ap (list_all is_name_byte) c.of.ensures ∙ all_name_bytes (drop start line) (colon.result - start) (omega (arith, colon.ensures.value)))
          (omega (arith, digits.ensures.behind)) (omega arith) c.if-self-end-ne58.false row.0 row.2
          c.behind_letter-read.ensures.letter c.behind_letter-read.ensures.count c.behind_letter-insert.ensures.letter c.behind_letter-insert.ensures.count
          c.behind_letter-update.ensures.letter c.behind_letter-update.ensures.count c.behind_letter-delete.ensures.letter c.behind_letter-delete.ensures.count
          c.behind_letter-delete.ensures.within c.if-not-ends_at.ensures,
      (ap is_name c.of.ensures ∙ named, row.1, some_letters),
    )
  where
    access : RawAccess
    access = record {
      table = c.of.result;
      row = c.digits_from-row.result.0;
      kinds = record { read = c.behind_letter-read.result.0; insert = c.behind_letter-insert.result.0; update = c.behind_letter-update.result.0; delete = c.behind_letter-delete.result.0 };
    }

    lone : get_or c.self.inside.line.now (c.name_end_by-colon.result + 1) 0 ≡ 48 → c.digits_from-row.result.1 ≡ c.name_end_by-colon.result + 1 + 1
    lone first =
        elim c.else-self-colon-eq48.branch [
          | else-self-colon-eq48-via-then-self-colon-eq48+else-end-colon-2 w ↦ omega (arith, w.if-end-colon-2.false, c.digits_from-row.ensures.behind, c.if-end-colon.false)
          | else-self-colon-eq48-via-else-self-colon-eq48 w ↦ absurd (w.if-self-colon-eq48.false first)
        ]

    some_letters : letters access.kinds ≡ [] → ⊥
    some_letters none =
        letters_some access.kinds (omega (arith, c.behind_letter-read.ensures.count, c.behind_letter-insert.ensures.count, c.behind_letter-update.ensures.count, c.behind_letter-delete.ensures.count, c.if-last-end.false)) none

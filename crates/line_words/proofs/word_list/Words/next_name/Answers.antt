use Rattle.std.proofs.Common.{◌≡◌, ◌-◌, ◌<◌, arith, refl, sym, get_or, length, take, drop}
use Rattle.std.proofs.lemmas.Bool.{eqb-false}
use Rattle.line_words.proofs.NameWords.{name_word, foreign_word, name_from, first_no_name, long_no_name}
use Rattle.line_words.proofs.word_list.Words.next_name.Goals.{else-end-self-via-then-end-self+else-self-end-ne32, else-end-self-via-else-end-self}
use Rattle.line_words.proofs.word_list.Words.next_name.Goals as goal

pub returns-then-self-end-ne32 : goal.returns-then-self-end-ne32
returns-then-self-end-ne32 c = (
  foreign_word c.self.inside.line.now c.self.inside.start c.name_end-end.result c.args.self.now c.self.view_is (omega arith) c.name_end-end.ensures.value (omega arith) c.if-self-end-ne32.true,
  refl,
)

pub returns-then-word-gt-MOST_NAME_BYTES : goal.returns-then-word-gt-MOST_NAME_BYTES
returns-then-word-gt-MOST_NAME_BYTES c =
    let line = c.self.inside.line.now in
    let start = c.self.inside.start in
    let end = c.name_end-end.result in
    let space : end < length line → get_or line end 0 ≡ 32 = elim c.else-end-self.branch [
      | else-end-self-via-then-end-self+else-self-end-ne32 w ↦ λ lt. w.if-self-end-ne32.false
      | else-end-self-via-else-end-self w ↦ λ lt. let past = w.if-end-self.false in absurd (omega arith)
    ] in
    let r = name_word line start end c.args.self.now c.self.view_is (omega arith) c.name_end-end.ensures.value c.name_end-end.ensures.bound space in
    (first_no_name c.args.self.now _ _ r.0 (long_no_name (take (end - start) (drop start line)) (omega arith)), refl)

pub returns : goal.returns
returns c =
    let line = c.self.inside.line.now in
    let start = c.self.inside.start in
    let end = c.name_end-end.result in
    let space : end < length line → get_or line end 0 ≡ 32 = elim c.else-end-self.branch [
      | else-end-self-via-then-end-self+else-self-end-ne32 w ↦ λ lt. w.if-self-end-ne32.false
      | else-end-self-via-else-end-self w ↦ λ lt. let past = w.if-end-self.false in absurd (omega arith)
    ] in
    let r = name_word line start end c.args.self.now c.self.view_is (omega arith) c.name_end-end.ensures.value c.name_end-end.ensures.bound space in
    let word = take (end - start) (drop start line) in
    let some = eqb-false (length word) 0 (sym c.if-is_empty.ensures) in
    (r.0, name_from word r.1 (omega arith) (sym c.if-not-is_ascii_lowercase.ensures.value) (omega arith))

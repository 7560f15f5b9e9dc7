use Rattle.std.proofs.Common.{ap, sym, ◌∙◌}
use Rattle.log_text.specs.Fault.{kind_words, stand_among}
use Rattle.log_text.proofs.KindLists.{all_taken, left_over, took_four}
use Rattle.log_text.proofs.kind.listed_kinds.Goals as goal

pub returns-then-not-is_empty : goal.returns-then-not-is_empty
returns-then-not-is_empty c =
    let four = took_four c.of-left.result c.takes-read.new.self c.takes-insert.new.self c.takes-update.new.self c.takes-delete.new.self
    c.takes-read.result c.takes-insert.result c.takes-update.result c.takes-delete.result
    c.takes-read.ensures c.takes-insert.ensures c.takes-update.ensures c.takes-delete.ensures in
    ap (stand_among kind_words) (sym c.of-left.ensures) ∙ left_over c.of-left.result c.takes-delete.new.self four.1 c.if-not-is_empty.ensures

pub returns : goal.returns
returns c =
    let four = took_four c.of-left.result c.takes-read.new.self c.takes-insert.new.self c.takes-update.new.self c.takes-delete.new.self
    c.takes-read.result c.takes-insert.result c.takes-update.result c.takes-delete.result
    c.takes-read.ensures c.takes-insert.ensures c.takes-update.ensures c.takes-delete.ensures in
    let all = all_taken c.of-left.result c.takes-delete.new.self c.takes-read.result c.takes-insert.result c.takes-update.result c.takes-delete.result four.0 four.1 c.if-not-is_empty.ensures in
    (sym c.of-left.ensures ∙ all.0, ap (stand_among kind_words) (sym c.of-left.ensures) ∙ all.1)

use Rattle.std.proofs.Common.{Option, sym, ◌≡◌, subst}
use Rattle.std.specs.Prelude.{List}
use Rattle.clap.specs.Words.{Row, Text, found_of, rows_of}
use Rattle.command_line.specs.Words.{is_summarized}
use Rattle.command_line.proofs.Telling.{entered}
use Rattle.command_line.proofs.command_words.is_summarized.Goals as goal

pub returns : goal.returns
returns c =
    let rows = rows_of (found_of c.in-Some.found.now) in
    let is = entered c.args.matches.now c.in-Some._name.now rows c.in-Some.ensures.name c.in-Some.ensures.rows in
    subst (λ (e : Option (Text × List Row)). c.has_flag.result ≡ is_summarized e) (sym is) c.has_flag.ensures

use Rattle.std.proofs.Common.{◌∙◌}
use Rattle.clap.specs.Words.{found_of}
use Rattle.command_line.proofs.Numbers.{flag_none, flag_some}
use Rattle.command_line.proofs.options.has_flag.Goals as goal

pub returns-in-Some : goal.returns-in-Some
returns-in-Some c = c.eq.ensures ∙ flag_some (found_of c.args.found.now) c.args.name.now c.in-Some.text.now c.in-Some.ensures

pub returns-in-None : goal.returns-in-None
returns-in-None c = flag_none (found_of c.args.found.now) c.args.name.now c.in-None.ensures

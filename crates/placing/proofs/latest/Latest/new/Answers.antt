use Rattle.std.proofs.Common.{arith}
use Rattle.model_base.specs.References.{declares_write, has_deed_on, last_before}
use Rattle.placing.specs.declared.latest.Latest.{Latest}
use Rattle.placing.proofs.Last.{last_before-none}
use Rattle.placing.specs.Latest.{is_own_row, is_own_table, prior_in, writer_in}
use Rattle.placing.proofs.Writers.{no_prior, no_writer, none_kept}
use Rattle.placing.proofs.latest.Latest.new.Goals as goal

pub returns-clause-none : goal.returns-clause-none
returns-clause-none c = λ log first.
    let latest : Latest = record { partition = c.args.partition; partitions = c.args.partitions; writers = c.new.result; deeds = c.new-2.result; some = c.requires } in
    record {
      writers = λ table row.
          none_kept (is_own_row latest table row) (writer_in latest table row) (last_before (declares_write table row) log first first)
          (no_writer latest c.new.ensures.empty table row) (last_before-none (declares_write table row) log first first (omega arith));
      deeds = λ table.
          none_kept (is_own_table latest table) (prior_in latest table) (last_before (has_deed_on table) log first first)
          (no_prior latest c.new-2.ensures.empty table) (last_before-none (has_deed_on table) log first first (omega arith));
    }

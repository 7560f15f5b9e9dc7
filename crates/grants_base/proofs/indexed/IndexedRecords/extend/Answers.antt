use Rattle.std.proofs.Common.{List, length, take, ◌∙◌, ap}
use Rattle.model_base.specs.declared.deed.Record.{Record}
use Rattle.grants_base.proofs.indexed.IndexedRecords.extend.Goals as goal

pub returns-in-Err-clause-err : goal.returns-in-Err-clause-err
returns-in-Err-clause-err c =
    c.truncate.ensures ∙ ap (λ (entries : List Record). take (length entries) c.put.new.self) c.as_slice-len.ensures ∙ c.in-Err.ensures.err

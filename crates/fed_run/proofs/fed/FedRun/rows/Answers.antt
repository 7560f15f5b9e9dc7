use Rattle.std.proofs.Common.{◌≡◌, List, ℕ, Bor, option_map, rules}
use Rattle.audit_text.specs.RowsText.{HasNoTable}
use Rattle.fed_run.proofs.FedListed.{fed_lacks, fed_lists}
use Rattle.fed_run.proofs.fed.FedRun.rows.Goals as goal

pub returns-clause-told : goal.returns-clause-told
returns-clause-told c =
    fed_lists c.args.self.now c.in_ok-engine.ensures.none _ c.in_ok-engine.ensures.engine _ _ c.in_ok-put_rows_there.ensures.rows

pub returns-in_err-put_rows_there-clause-lacks : goal.returns-in_err-put_rows_there-clause-lacks
returns-in_err-put_rows_there-clause-lacks c = λ is.
    let lacks : HasNoTable c.in_ok-engine.engine.now.log.names.tables (option_map {T = Bor (List ℕ)} {U = List ℕ} (λ name. name.now) c.args.name) = search rules in
    fed_lacks c.args.self.now c.in_ok-engine.ensures.none _ c.in_ok-engine.ensures.engine _ lacks

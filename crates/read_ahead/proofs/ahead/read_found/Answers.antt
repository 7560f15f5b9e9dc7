use Rattle.std.proofs.Common.{◌≡◌, ◌≢◌, Some, subst}
use Rattle.line_words.specs.declared.fault.LineFault.{LineFault}
use Rattle.log_text.specs.Fault.{fault_in}
use Rattle.log_text.specs.declared.version.Version.{Version}
use Rattle.read_ahead.proofs.ahead.read_found.Goals as goal

pub returns-in-Err : goal.returns-in-Err
returns-in-Err c =
    let line = c.args.line.now in
    let fault : LineFault = c.in-Err.fault in
    c.found_faulty.ensures c.args.catalog.now line
    (subst (λ (version : Version). fault ≢ LineFault.NoMemory → fault_in version line ≡ Some fault) c.version-version.ensures c.in-Err.ensures.fault)

use Rattle.engine.proofs.run.Engine.run_batch.Goals as goal

pub returns-clause-runs : goal.returns-clause-runs
returns-clause-runs g c =
    let runs = c.in_ok-run_to.ensures.runs in
    record {
      ends = runs.ends;
      stands = runs.stands;
      came = runs.came;
      versions = runs.versions;
      mark = runs.mark;
      log = runs.log;
      dropped = runs.dropped;
      err = tt;
    }

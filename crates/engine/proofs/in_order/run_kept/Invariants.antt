use Rattle.engine.proofs.in_order.run_kept.Given as goal

abbrev pub ghost-run_place : goal.ghost-run_place
ghost-run_place g a = g.all

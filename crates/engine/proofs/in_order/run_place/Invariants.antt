use Rattle.engine.proofs.in_order.run_place.Given as goal

abbrev pub ghost-judge : goal.ghost-judge
ghost-judge g a = g.log

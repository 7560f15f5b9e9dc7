use Rattle.engine.proofs.in_order.judge.Given as goal

abbrev pub ghost-create : goal.ghost-create
ghost-create g a = g.log

abbrev pub ghost-make_deeds : goal.ghost-make_deeds
ghost-make_deeds g a = g.log

use Rattle.engine.proofs.booking.make.Given as goal

abbrev pub ghost-make_grants : goal.ghost-make_grants
ghost-make_grants g a = g.log

use Rattle.engine.proofs.booking.make_deeds.Given as goal

abbrev pub ghost-make : goal.ghost-make
ghost-make g a = g.log

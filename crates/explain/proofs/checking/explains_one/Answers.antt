use Rattle.explain.proofs.checking.explains_one.Goals as goal

pub returns-then-need-tables : goal.returns-then-need-tables
returns-then-need-tables c = λ owners deeds shows less. c.explains.ensures owners deeds shows

use Rattle.line_words.proofs.StepLetters.{named_const, named_add, named_sub, named_mul, named_less, named_same, named_has, named_load, named_store, named_insert, named_delete, named_check, named_skip, named_out}
use Rattle.line_words.proofs.step_name.StepName.of.Goals as goal

pub returns-in-CONST : goal.returns-in-CONST
returns-in-CONST c = search named_const

pub returns-in-ADD : goal.returns-in-ADD
returns-in-ADD c = search named_add

pub returns-in-SUB : goal.returns-in-SUB
returns-in-SUB c = search named_sub

pub returns-in-MUL : goal.returns-in-MUL
returns-in-MUL c = search named_mul

pub returns-in-LESS : goal.returns-in-LESS
returns-in-LESS c = search named_less

pub returns-in-SAME : goal.returns-in-SAME
returns-in-SAME c = search named_same

pub returns-in-HAS : goal.returns-in-HAS
returns-in-HAS c = search named_has

pub returns-in-LOAD : goal.returns-in-LOAD
returns-in-LOAD c = search named_load

pub returns-in-STORE : goal.returns-in-STORE
returns-in-STORE c = search named_store

pub returns-in-CHECK : goal.returns-in-CHECK
returns-in-CHECK c = search named_check

pub returns-in-SKIP : goal.returns-in-SKIP
returns-in-SKIP c = search named_skip

pub returns-in-OUT : goal.returns-in-OUT
returns-in-OUT c = search named_out

pub returns-in-INSERT : goal.returns-in-INSERT
returns-in-INSERT c = search named_insert

pub returns-in-DELETE : goal.returns-in-DELETE
returns-in-DELETE c = search named_delete

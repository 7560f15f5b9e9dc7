use Rattle.std.proofs.Common.{◌≡◌, ℕ, ◌≤◌, ◌-◌, length, take, [], ◌∷◌, ◌++◌}
use Rattle.std.specs.Prelude.{None, codes}
use Rattle.std.specs.Vec.{vec_capacity}
use Rattle.std.specs.List.{AllByRecursion, flat_map, sum_by}
use Rattle.log_text.specs.Statement.{further_step, outs_of, IsStep}
use Rattle.log_text.specs.Fault.{OfStep, fault_from}
use Rattle.log_text.proofs.parsing.steps.steps.Given as goal

abbrev pub invariant-steps : goal.invariant-steps
invariant-steps l = record {
  none : l.deed ≡ None;
  same : codes "|" ∷ l.fn.words ≡ flat_map further_step (take l.place l.found.items) ++ codes "|" ∷ l.left;
  within : l.place ≤ length l.found.items;
  room : l.place ≤ 64;
  reserved : 64 ≤ vec_capacity l.found;
  outputs : l.outs ≡ sum_by outs_of (take l.place l.found.items);
  few : l.outs ≤ 8;
  each : AllByRecursion IsStep (take l.place l.found.items);
  fits : (version : ℕ) → fault_from (OfStep version 0 0 ∷ []) l.fn.words ≡ fault_from (OfStep version l.place l.outs ∷ []) l.left;
}

abbrev pub decreases-steps : goal.decreases-steps
decreases-steps l = 64 - l.place

use Rattle.bohm_base.proofs.Beginnings.{begun_all, line_left, rest_lost}
use Rattle.bohm_base.proofs.pending.put_out.Goals as goal

pub returns-in_err-extend_from_slice-clause-begun : goal.returns-in_err-extend_from_slice-clause-begun
returns-in_err-extend_from_slice-clause-begun g c =
    line_left _ c.args.pending.now.items c.extend_from_slice.new.self.items c.args.line.now c.in_err-extend_from_slice.ensures.items

pub returns-in_err-write_much-clause-begun : goal.returns-in_err-write_much-clause-begun
returns-in_err-write_much-clause-begun g c =
    rw c.in_ok-extend_from_slice.ensures.items at
    (rest_lost _ _ c.extend_from_slice.new.self.items c.write_much.new.pending.items c.in_err-write_much.ensures.front c.in_err-write_much.ensures.empty)

pub returns-clause-ok : goal.returns-clause-ok
returns-clause-ok g c = rw c.in_ok-extend_from_slice.ensures.items at c.in_ok-write_much.ensures.ok

pub returns-clause-begun : goal.returns-clause-begun
returns-clause-begun g c = rw c.in_ok-extend_from_slice.ensures.items at (begun_all _ _ c.extend_from_slice.new.self.items c.write_much.new.pending.items c.in_ok-write_much.ensures.ok)

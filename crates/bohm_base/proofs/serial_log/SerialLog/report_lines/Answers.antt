use Rattle.bohm_base.proofs.serial_log.SerialLog.report_lines.Goals as goal

pub returns-clause-ok : goal.returns-clause-ok
returns-clause-ok g c = rw (c.deref.ensures.value, c.in_ok-end.ensures.text, c.clear.ensures.items) at c.in_ok-put_out.ensures.ok

pub returns-clause-begun : goal.returns-clause-begun
returns-clause-begun g c = rw (c.deref.ensures.value, c.in_ok-end.ensures.text, c.clear.ensures.items) at c.put_out.ensures.begun

use Rattle.std.proofs.Common.{◌≡◌, drop}
use Rattle.explain.specs.Steps.{in_force_at, leads_on}
use Rattle.explain.proofs.grant_chains.ChainCheck.leads_on.Given as goal

-- the records that are left lead on from this grant just where all do from the first
abbrev pub invariant-loop-name : goal.invariant-loop-name
invariant-loop-name l =
    leads_on (in_force_at l.self.place l.self.records.now) l.grant (drop l.name-index l.later) l.self.user l.self.need.now
    ≡ leads_on (in_force_at l.self.place l.self.records.now) l.fn.first l.later l.self.user l.self.need.now

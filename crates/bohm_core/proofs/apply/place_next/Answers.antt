use Rattle.std.proofs.Common.{◌≡◌, ◌&&◌, true, length}
use Rattle.std.specs.Prelude.{nat_lt}
use Rattle.std.proofs.lemmas.Bool.{ltb-true}
use Rattle.bohm_core_base.specs.Machine.{front_of}
use Rattle.bohm_core.proofs.Reached.{and_second, next_within}
use Rattle.bohm_core.proofs.apply.place_next.Goals as goal

pub stored-requires : goal.stored-requires
stored-requires g c =
    let state = c.args.state.now in
    let partition = c.args.partition in
    let both : (nat_lt partition (length state.fronts) && nat_lt (front_of state partition) (length state.references)) ≡ true = cc (c.has_next.ensures, c.if-has_next.true) in
    next_within (g.S.Statements.batch c.args.statements.now) state (front_of state partition) c.requires
    (ltb-true (front_of state partition) (length state.references) (and_second (nat_lt partition (length state.fronts)) _ both))

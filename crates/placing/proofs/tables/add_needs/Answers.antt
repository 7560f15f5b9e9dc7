use Rattle.std.proofs.Common.{ℕ, Vec, Global, cond, ◌≡◌, suc, ◌+◌, ◌∷◌, drop, map, sym, ◌∙◌, ap, arith, add-one, drop-cons}
use Rattle.std.specs.List.{flat_map}
use Rattle.model_base.specs.Outcomes.{needs_of_access}
use Rattle.model_base.specs.declared.deed.Need.{Need}
use Rattle.model_base.specs.declared.statement.Access.{Access}
use Rattle.std.specs.Prelude.{List}
use Rattle.placing.specs.Tables.{with_number, with_numbers}
use Rattle.placing.proofs.Once.{access_needs}
use Rattle.placing.proofs.tables.add_needs.Goals as goal
use Rattle.placing.proofs.tables.add_needs.Goals.{then-has_need+in_ok-add_table, else-has_need}

pub loop-access-preserved : goal.loop-access-preserved
loop-access-preserved c =
    let accesses = c.args.accesses.now in
    let i = c.loop-access.access-index in
    let access = c.access-item.result in
    let later = drop (i + 1) accesses in
    let front : drop i accesses ≡ access ∷ later = rw (add-one i) (drop-cons accesses i access c.loop-access-test.true ∙ ap (λ (a : Access). a ∷ drop (suc i) accesses) (sym c.access-item.is)) in
    let whole = sym (access_needs c.loop-access.tables.items access later) ∙ ap (λ (rest : List Access). with_numbers c.loop-access.tables.items (map (λ (need : Need). need.table) (flat_map needs_of_access rest))) (sym front) ∙ c.loop-access.invariant.tables in
    let table : Need → ℕ = λ (need : Need). need.table in
    let from : List ℕ → List ℕ = λ tables. with_numbers tables (map table (flat_map needs_of_access later)) in
    elim c.if-has_need.branch [
      | then-has_need+in_ok-add_table w ↦ record {
        tables =
            ap from (ap (λ (tables : Vec ℕ Global). tables.items) w.tables-is ∙ w.in_ok-add_table.ensures.tables
            ∙ sym (ap (λ b. cond b (with_number c.loop-access.tables.items access.key.table) c.loop-access.tables.items) (sym c.has_need.ensures ∙ w.if-has_need.true)))
            ∙ whole;
        count = rw w.tables-is (omega (arith, w.in_ok-add_table.ensures.count));
      }
      | else-has_need w ↦ record {
        tables =
            ap from (ap (λ (tables : Vec ℕ Global). tables.items) w.tables-is
            ∙ sym (ap (λ b. cond b (with_number c.loop-access.tables.items access.key.table) c.loop-access.tables.items) (sym c.has_need.ensures ∙ w.if-has_need.false)))
            ∙ whole;
        count = rw w.tables-is (omega arith);
      }
    ]

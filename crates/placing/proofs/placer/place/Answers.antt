use Rattle.std.proofs.Common.{◌≡◌, ◌≤◌, ◌<◌, ◌+◌, ◌-◌, ◌++◌, ℕ, suc, List, Some, fold, get_or, length, map, sym, ◌∙◌, ap, arith, slice_get, subst}
use Rattle.std.specs.List.{range_with_len}
use Rattle.std.proofs.lemmas.Option.{slice_get-get_or}
use Rattle.model_base.specs.declared.statement.Statement.{Statement}
use Rattle.model_base.specs.References.{tables_of}
use Rattle.model_base.specs.Versions.{accesses_of}
use Rattle.placing.specs.Latest.{own_prior, own_writer}
use Rattle.placing.specs.Parts.{PartOf, own_references, with_place}
use Rattle.placing.proofs.Few.{few_accesses}
use Rattle.placing.proofs.Placed.{passed}
use Rattle.placing.proofs.Writers.{latest_next}
use Rattle.placing.proofs.placer.place.Goals as goal

pub place_statement-requires-clause-few : goal.place_statement-requires-clause-few
place_statement-requires-clause-few c =
    let place = c.loop-place.place in
    let log = c.args.log.now.log in
    let statement = c.statement-statement.result.now in
    let low : place < length log.statements = omega (arith, c.requires.within) in
    let both : Some statement ≡ Some (get_or log.statements place statement) = sym c.statement-statement.ensures.at ∙ slice_get-get_or log.statements place statement low in
    let is : statement ≡ get_or log.statements place statement = cc in
    subst (λ (s : Statement). length (accesses_of s.form) ≤ 16) (sym is) (few_accesses log c.statement-statement.ensures.whole place statement low)

pub place_statement-requires-clause-room : goal.place_statement-requires-clause-room
place_statement-requires-clause-room c = omega (arith, c.loop-place.invariant.count, c.requires.within, c.len-len.ensures.most, c.loop-place-test.true)

pub loop-place-preserved : goal.loop-place-preserved
loop-place-preserved c =
    let statements = c.args.log.now.log.statements in
    let first = c.args.range.start in
    let place = c.loop-place.place in
    let statement = c.statement-statement.result.now in
    let latest = c.loop-place.latest in
    let above : first ≤ place = omega arith in
    let at : slice_get statements place ≡ Some statement = c.statement-statement.ensures.at in
    let own : map (own_writer latest) (accesses_of statement.form) ++ map (own_prior latest) (tables_of statement.form) ≡ own_references c.args.partitions statements first c.args.partition place =
    passed latest statements first place c.loop-place.invariant.latest statement at
    ∙ ap (λ p. own_references p statements first latest.partition place) c.loop-place.invariant.partitions
    ∙ ap (λ p. own_references c.args.partitions statements first p place) c.loop-place.invariant.partition in
    let rest : c.args.range.end - place ≡ suc (c.args.range.end - (place + 1)) = omega arith in
    let later : List ℕ = range_with_len (place + 1) (c.args.range.end - (place + 1)) in
    let found = own_references c.args.partitions statements first c.args.partition in
    record {
      part =
          ap (λ (part : PartOf). fold with_place part (map found later)) (c.in_ok-place_statement.ensures.found ∙ ap (with_place c.loop-place.part) own)
          ∙ ap (λ n. fold with_place c.loop-place.part (map found (range_with_len place n))) (sym rest)
          ∙ c.loop-place.invariant.part;
      latest = latest_next latest c.place_statement.new.latest statements first place statement above at c.loop-place.invariant.latest c.in_ok-place_statement.ensures.notes;
      partition = c.in_ok-place_statement.ensures.notes.partition ∙ c.loop-place.invariant.partition;
      partitions = c.in_ok-place_statement.ensures.notes.partitions ∙ c.loop-place.invariant.partitions;
      count = omega (arith, c.in_ok-place_statement.ensures.count);
    }

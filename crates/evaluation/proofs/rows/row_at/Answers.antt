use Rattle.std.proofs.Common.{◌≡◌, ◌<◌, ◌+◌, ◌++◌, ℤ, [], ◌∷◌, get_or, length, ap, sym, ◌∙◌, subst, arith, w64, to_z, of_z}
use Rattle.std.proofs.lemmas.Int.{to_z-of_z}
use Rattle.std.proofs.lemmas.List.{length-append}
use Rattle.own_words.specs.Words.{signed}
use Rattle.bohm_core_base.specs.Serial.{serial_words}
use Rattle.bohm_core_base.proofs.Kept.{serial-length}
use Rattle.evaluation.specs.ReadSource.{Reader}
use Rattle.evaluation.proofs.Shown.{numbers-more}
use Rattle.evaluation.proofs.rows.row_at.Goals as goal

pub loop-column-preserved : goal.loop-column-preserved
loop-column-preserved g c =
    let reader = g.T.ReadSource.as_reader c.args.source.now in
    let after = g.T.ReadSource.as_reader c.own.new.self in
    let index = c.args.index in
    let first = c.args.number + 1 in
    let column = c.loop-column.column in
    let words = serial_words after.batch index in
    let long = serial-length reader.batch c.reader-reader.ensures.sound index in
    let low : first + column < length (serial_words reader.batch index) = omega (arith, c.requires.within, c.loop-column-test.true, long) in
    let here : first + column < length words = subst (λ (r : Reader). first + column < length (serial_words r.batch index)) (sym c.own.ensures.same.0) low in
    let word : c.own-word.result ≡ get_or words (first + column) 0 =
    c.own-word.ensures.value ∙ ap (λ (r : Reader). get_or (serial_words r.batch index) (first + column) 0) c.loop-column.invariant.source in
    let plain : to_z w64 (of_z w64 c.cast_signed.result) ≡ c.cast_signed.result = grind (arith, to_z-of_z) in
    let pushed : c.push.new.self ≡ c.loop-column.row ++ c.cast_signed.result ∷ [] = c.push.ensures ∙ ap (λ (value : ℤ). c.loop-column.row ++ value ∷ []) plain in
    record {
      source = c.own-word.ensures.same.0 ∙ c.loop-column.invariant.source;
      kept = c.own-word.ensures.same.1 ∙ c.loop-column.invariant.kept;
      count =
          ap length pushed ∙ length-append c.loop-column.row (c.cast_signed.result ∷ [])
          ∙ ap (λ n. n + 1) c.loop-column.invariant.count;
      row =
          pushed
          ∙ ap (λ (value : ℤ). c.loop-column.row ++ value ∷ []) (c.cast_signed.ensures ∙ ap signed word)
          ∙ ap (λ row. row ++ signed (get_or words (first + column) 0) ∷ []) c.loop-column.invariant.row
          ∙ sym (numbers-more first column words here);
    }

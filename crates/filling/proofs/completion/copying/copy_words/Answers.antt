use Rattle.std.proofs.Common.{◌≡◌, ◌<◌, ◌≤◌, ◌++◌, ◌∷◌, [], List, ℕ, length, get_or, take, sym, ap, ◌∙◌, arith}
use Rattle.std.proofs.lemmas.List.{length-take-le, take_all, take_more}
use Rattle.bohm_core_base.specs.Batch.{words_length}
use Rattle.bohm_core_base.specs.Serial.{serial_words}
use Rattle.bohm_core_base.proofs.Kept.{serial-length}
use Rattle.log_batch.specs.Supplied.{batch_of}
use Rattle.log_batch.proofs.Counted.{sound_batch}
use Rattle.filling.proofs.completion.copying.copy_words.Goals as goal

pub own-requires-clause-begins : goal.own-requires-clause-begins
own-requires-clause-begins c = c.requires.closed.begins c.args.index c.requires.within

pub own-requires-clause-within : goal.own-requires-clause-within
own-requires-clause-within c =
    let b = batch_of c.args.batch.now in
    let less : c.loop-number.number < words_length b c.args.index = omega arith in
    c.requires.closed.owns c.args.index c.loop-number.number c.requires.within less

pub push-requires : goal.push-requires
push-requires c =
    let b = batch_of c.args.batch.now in
    let number = c.loop-number.number in
    let words = serial_words b c.args.index in
    let long = serial-length b (sound_batch c.args.batch.now c.log-log.ensures.of_log) c.args.index in
    let within : number ≤ length words = omega arith in
    let so_far : length (take number words) ≡ number = length-take-le number words within in
    let count : length c.loop-number.words ≡ number = ap length c.loop-number.invariant ∙ so_far in
    omega arith

pub loop-number-preserved : goal.loop-number-preserved
loop-number-preserved c =
    let b = batch_of c.args.batch.now in
    let index = c.args.index in
    let number = c.loop-number.number in
    let words = serial_words b index in
    let long = serial-length b (sound_batch c.args.batch.now c.log-log.ensures.of_log) index in
    let less : number < words_length b index = omega arith in
    let within : number < length words = omega arith in
    let one : c.own.result ≡ get_or words number 0 = c.own.ensures ∙ c.requires.closed.own index number c.requires.within less c.requires.done in
    c.push.ensures
    ∙ ap (λ (list : List ℕ). list ++ c.own.result ∷ []) c.loop-number.invariant
    ∙ ap (λ word. take number words ++ word ∷ []) one
    ∙ sym (take_more words number 0 within)

pub returns : goal.returns
returns c =
    let b = batch_of c.args.batch.now in
    let words = serial_words b c.args.index in
    let long = serial-length b (sound_batch c.args.batch.now c.log-log.ensures.of_log) c.args.index in
    let all : length words ≤ c.loop-number.number = omega arith in
    c.loop-number.invariant ∙ take_all c.loop-number.number words all

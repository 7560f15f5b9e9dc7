use Rattle.std.proofs.Common.{Ok, Err, Some, None, ◌<◌, length, ◌≡◌, List, ℕ, ◌∷◌, ap, ◌∙◌, sym, subst}
use Rattle.line_words.specs.Words.{words}
use Rattle.log_text.specs.LineBuffers.{sentence_of}
use Rattle.log_text.specs.Statement.{ReadsIn, form_words}
use Rattle.log_text.specs.declared.version.Version.{Version}
use Rattle.log_text.specs.declared.statement.RawForm.TheVariants.{Run}
use Rattle.std.proofs.Common.{ltb}
use Rattle.std.proofs.lemmas.Bool.{cond-true, lt-ltb}
use Rattle.log_text.specs.Fault.{fault_in}
use Rattle.line_words.specs.declared.fault.LineFault.TheVariants.{TooLong}
use Rattle.log_text.proofs.Grammar.{faulty, only_one, reads, sound, whole_long, whole_none}
use Rattle.log_text.proofs.parsing.line.read_into.Goals as goal

too_long : (version : Version) (line : List ℕ) → 4096 < length line → fault_in version line ≡ Some TooLong
too_long version line long = cond-true (ltb 4096 (length line)) (Some TooLong) _ (lt-ltb 4096 (length line) long)

pub returns-then-line-gt-MOST_LINE_BYTES-clause-only : goal.returns-then-line-gt-MOST_LINE_BYTES-clause-only
returns-then-line-gt-MOST_LINE_BYTES-clause-only c =
    λ s reads. absurd (faulty c.args.version c.args.line.now s TooLong (too_long c.args.version c.args.line.now c.if-line-gt-MOST_LINE_BYTES.true) reads)

pub returns-in-Ok-clause-read : goal.returns-in-Ok-clause-read
returns-in-Ok-clause-read c =
    let user = c.in_default.ensures.ok in
    let run = c.in-Ok.ensures.ok in
    let form = Run c.run.new.room.accesses.items c.run.new.room.steps.items c.run.new.room.deed in
    let same : words c.args.line.now ≡ c.take_user.new.user ∷ form_words form =
    sym c.of-words.ensures ∙ user.0 ∙ ap (λ (ws : List (List ℕ)). c.take_user.new.user ∷ ws) (c.if-takes_run.ensures ∙ run.0) in
    let none : c.run.new.room.other ≡ None = c.run.ensures.other ∙ c.leave_none.ensures in
    rw (none, c.run.ensures.user) (reads c.args.version c.args.line.now c.take_user.new.user form same user.1 run.1 run.2 c.if-line-gt-MOST_LINE_BYTES.false)

pub returns-in-Ok-clause-only : goal.returns-in-Ok-clause-only
returns-in-Ok-clause-only c = only_one c.args.version c.args.line.now (Ok (sentence_of c.run.new.room)) (returns-in-Ok-clause-read c) tt

pub returns-in-Ok-clause-sound : goal.returns-in-Ok-clause-sound
returns-in-Ok-clause-sound c = sound c.args.version c.args.line.now (Ok (sentence_of c.run.new.room)) (returns-in-Ok-clause-read c)

pub of-requires : goal.of-requires
of-requires c =
    let user = c.in_default.ensures.ok in
    let form = c.in-Ok-other_form.ensures.ok in
    let same : words c.args.line.now ≡ c.take_user.new.user ∷ form_words c.in-Ok-other_form.form =
    sym c.of-words.ensures ∙ user.0 ∙ ap (λ (ws : List (List ℕ)). c.take_user.new.user ∷ ws) (sym c.if-takes_run.ensures.0 ∙ form.0) in
    rw c.same_name.ensures
    (reads c.args.version c.args.line.now c.take_user.new.user c.in-Ok-other_form.form same user.1 form.1 form.2 c.if-line-gt-MOST_LINE_BYTES.false).grammar

pub returns-in-Ok-other_form-clause-read : goal.returns-in-Ok-other_form-clause-read
returns-in-Ok-other_form-clause-read c =
    let user = c.in_default.ensures.ok in
    let form = c.in-Ok-other_form.ensures.ok in
    let same : words c.args.line.now ≡ c.take_user.new.user ∷ form_words c.in-Ok-other_form.form =
    sym c.of-words.ensures ∙ user.0 ∙ ap (λ (ws : List (List ℕ)). c.take_user.new.user ∷ ws) (sym c.if-takes_run.ensures.0 ∙ form.0) in
    let told : ReadsIn c.args.version c.args.line.now (record { user = c.same_name.result; form = c.in-Ok-other_form.form }) =
    rw c.same_name.ensures
    (reads c.args.version c.args.line.now c.take_user.new.user c.in-Ok-other_form.form same user.1 form.1 form.2 c.if-line-gt-MOST_LINE_BYTES.false) in
    subst (ReadsIn c.args.version c.args.line.now) (sym c.of.ensures) told

pub returns-in-Ok-other_form-clause-only : goal.returns-in-Ok-other_form-clause-only
returns-in-Ok-other_form-clause-only c = only_one c.args.version c.args.line.now (Ok c.of.result) (returns-in-Ok-other_form-clause-read c) tt

pub returns-in-Ok-other_form-clause-sound : goal.returns-in-Ok-other_form-clause-sound
returns-in-Ok-other_form-clause-sound c = sound c.args.version c.args.line.now (Ok c.of.result) (returns-in-Ok-other_form-clause-read c)

pub returns-then-line-gt-MOST_LINE_BYTES-clause-whole : goal.returns-then-line-gt-MOST_LINE_BYTES-clause-whole
returns-then-line-gt-MOST_LINE_BYTES-clause-whole c =
    λ f is. ap Err (whole_long c.args.line.now f c.if-line-gt-MOST_LINE_BYTES.true is)

pub returns-in-Ok-clause-whole : goal.returns-in-Ok-clause-whole
returns-in-Ok-clause-whole c = λ f is. absurd (whole_none c.args.version c.args.line.now f (sentence_of c.run.new.room) (returns-in-Ok-clause-read c) is)

pub returns-in-Ok-other_form-clause-whole : goal.returns-in-Ok-other_form-clause-whole
returns-in-Ok-other_form-clause-whole c = λ f is. absurd (whole_none c.args.version c.args.line.now f c.of.result (returns-in-Ok-other_form-clause-read c) is)

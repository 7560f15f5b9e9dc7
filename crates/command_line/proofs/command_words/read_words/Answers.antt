use Rattle.std.proofs.Common.{subst, ◌≡◌, ◌⊎◌, [], List, Option, true, refl, ap, inl, inr, ◌∙◌}
use Rattle.clap.specs.declared.error.Error.{Error}
use Rattle.clap.specs.declared.error.kind.ErrorKind.{ErrorKind}
use Rattle.clap.specs.Words.{App, HasKind, Kinds, Row, Text, fault_of, is_simple, is_simple_and_free, kind_of, subcommand_of}
use Rattle.clap.proofs.OnLiterals.{clap_on_literals}
use Rattle.command_line.specs.Shapes.{bohm_app, texts_of}
use Rattle.command_line.specs.Words.{Asks, IsMisuse, TellsOneOf, is_summarized, progress_in}
use Rattle.command_line.specs.declared.command_words.Usage.{Usage}
use Rattle.command_line.proofs.Telling.{told}
use Rattle.command_line.proofs.command_words.read_words.Goals as goal

simple : is_simple bohm_app ≡ true
unfolding clap_on_literals
simple = refl

simple_and_free : is_simple_and_free bohm_app ≡ true
unfolding clap_on_literals
simple_and_free = refl

-- an error of no kind is that memory ran out
no_kind : (error : Error) → HasKind [] error → kind_of error ≡ ErrorKind.OutOfMemory
no_kind error has = elim has [
  | inl out ↦ out
  | inr among ↦ absurd among
]

pub returns-in-Ok-command_in-clause-taken : goal.returns-in-Ok-command_in-clause-taken
returns-in-Ok-command_in-clause-taken c =
    subst (λ (a : App). fault_of a (texts_of c.args.words.now) ≡ []) c.in-Ok.ensures
    (c.in-Ok-try_get_matches_from.ensures.kinds (ap is_simple_and_free c.in-Ok.ensures ∙ simple_and_free))

pub returns-in-Ok-command_in-clause-asked : goal.returns-in-Ok-command_in-clause-asked
returns-in-Ok-command_in-clause-asked c =
    let found = (c.in-Ok-try_get_matches_from.ensures.matches (ap is_simple c.in-Ok.ensures ∙ simple)).1 in
    subst (Asks c.in-Ok-command_in.command) (found ∙ ap (λ (a : App). subcommand_of a (texts_of c.args.words.now)) c.in-Ok.ensures) c.in-Ok-command_in.ensures.asks

pub returns-in-Ok-command_in-clause-progress : goal.returns-in-Ok-command_in-clause-progress
returns-in-Ok-command_in-clause-progress c =
    let found = (c.in-Ok-try_get_matches_from.ensures.matches (ap is_simple c.in-Ok.ensures ∙ simple)).1 in
    c.progress_in.ensures ∙ ap progress_in (found ∙ ap (λ (a : App). subcommand_of a (texts_of c.args.words.now)) c.in-Ok.ensures)

pub returns-in-Ok-command_in-clause-summarized : goal.returns-in-Ok-command_in-clause-summarized
returns-in-Ok-command_in-clause-summarized c =
    let found = (c.in-Ok-try_get_matches_from.ensures.matches (ap is_simple c.in-Ok.ensures ∙ simple)).1 in
    c.is_summarized.ensures ∙ ap is_summarized (found ∙ ap (λ (a : App). subcommand_of a (texts_of c.args.words.now)) c.in-Ok.ensures)

-- the words that a fault of a command blames are those that were parsed
blamed : (usage : Usage) (old new : Option (Text × List Row)) → old ≡ new → (usage ≡ Usage.NoMemory) ⊎ IsMisuse usage old → (usage ≡ Usage.NoMemory) ⊎ IsMisuse usage new
blamed usage old new is so = subst (λ (given : Option (Text × List Row)). (usage ≡ Usage.NoMemory) ⊎ IsMisuse usage given) is so

-- and so it is told
told_so : (usage : Usage) (given : Option (Text × List Row)) (kinds : Kinds) → (usage ≡ Usage.NoMemory) ⊎ IsMisuse usage given → IsMisuse usage given ⊎ TellsOneOf kinds usage
told_so usage given kinds so =
    elim so [
      | inl memory ↦ inr (inl memory)
      | inr misuse ↦ inl misuse
    ]

pub returns-clause-fault : goal.returns-clause-fault
returns-clause-fault c none =
    let found = (c.in-Ok-try_get_matches_from.ensures.matches (ap is_simple c.in-Ok.ensures ∙ simple)).1 in
    blamed c.in-Err-command_in.usage _ _ (found ∙ ap (λ (a : App). subcommand_of a (texts_of c.args.words.now)) c.in-Ok.ensures)
    c.in-Err-command_in.ensures.misused

pub returns-clause-told : goal.returns-clause-told
returns-clause-told c =
    let found = (c.in-Ok-try_get_matches_from.ensures.matches (ap is_simple c.in-Ok.ensures ∙ simple)).1 in
    told_so c.in-Err-command_in.usage (subcommand_of bohm_app (texts_of c.args.words.now)) (fault_of bohm_app (texts_of c.args.words.now))
    (blamed c.in-Err-command_in.usage _ _ (found ∙ ap (λ (a : App). subcommand_of a (texts_of c.args.words.now)) c.in-Ok.ensures)
    c.in-Err-command_in.ensures.misused)

pub returns-in-Err-try_get_matches_from-clause-fault : goal.returns-in-Err-try_get_matches_from-clause-fault
returns-in-Err-try_get_matches_from-clause-fault c none =
    let error = c.in-Err-try_get_matches_from.error in
    let has = c.in-Err-try_get_matches_from.ensures.kinds (ap is_simple_and_free c.in-Ok.ensures ∙ simple_and_free) in
    let known = subst (λ (a : App). HasKind (fault_of a (texts_of c.args.words.now)) error) c.in-Ok.ensures has in
    inl (c.usage_of.ensures.memory (no_kind error (subst (λ (kinds : Kinds). HasKind kinds error) none known)))

pub returns-in-Err-try_get_matches_from-clause-told : goal.returns-in-Err-try_get_matches_from-clause-told
returns-in-Err-try_get_matches_from-clause-told c =
    let error = c.in-Err-try_get_matches_from.error in
    let has = c.in-Err-try_get_matches_from.ensures.kinds (ap is_simple_and_free c.in-Ok.ensures ∙ simple_and_free) in
    inr (told (fault_of bohm_app (texts_of c.args.words.now)) error c.usage_of.result
    (subst (λ (a : App). HasKind (fault_of a (texts_of c.args.words.now)) error) c.in-Ok.ensures has)
    c.usage_of.ensures.memory c.usage_of.ensures.told)

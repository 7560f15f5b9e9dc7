-- What a task writes of its log answers the command that asks for the task.
use Rattle.std.proofs.Common.{◌≡◌, ℕ, Bool, List, None, Option, Some, false, inl, inr, subst, true}
use Rattle.std.specs.Prelude.{IfSome, MatchBool}
use Rattle.audit_text.specs.Places.{AreExplanations, LacksPlaceOf}
use Rattle.audit_text.specs.Texts.{BeginsText, WritesText}
use Rattle.audit_text.specs.declared.fault.WorkFault.{WorkFault}
use Rattle.batched_text.specs.declared.settings.Arrival.{Arrival}
use Rattle.batched_text.specs.declared.settings.Settings.{Settings}
use Rattle.command_line.specs.Running.{AnswersCommand, CommandLacks, IsInOrder, IsTaskOf}
use Rattle.command_line.specs.Tasks.{AnswersTask, SaysLack, TaskLacks}
use Rattle.command_line.specs.Ways.{is_alone}
use Rattle.command_line.specs.declared.command_words.Command.{Command}
use Rattle.command_line.specs.declared.options.Choice.{Choice}
use Rattle.command_line.specs.declared.work.Task.{Task}

-- what holds of a run in order and of one in batches holds of the task of a run
of_run : (P : Task → Type 0) (settings : Settings) (arrival : Arrival) (ahead : Choice) (task : Task)
    → MatchBool (is_alone settings) (IsInOrder ahead task) (task ≡ Task.InBatches settings arrival)
    → ((threads : ℕ) → task ≡ Task.InOrder threads → P task) → (task ≡ Task.InBatches settings arrival → P task) → P task
of_run P settings arrival ahead task is in_order in_batches = go (is_alone settings) is
  where
    go : (b : Bool) → MatchBool b (IsInOrder ahead task) (task ≡ Task.InBatches settings arrival) → P task
    go true so = in_order so.0 so.1.1.1
    go false so = in_batches so

answers_as : (arrival : Arrival) (command : Command) (task : Task) → IsTaskOf arrival command task → (input text : List ℕ) → AnswersTask task input text
    → AnswersCommand command input text
answers_as arrival (Command.Run source settings ahead) task is input text says =
    of_run (λ _. AnswersCommand (Command.Run source settings ahead) input text) settings arrival ahead task is
    (λ threads same. subst (λ (t : Task). AnswersTask t input text) same says) (λ same. subst (λ (t : Task). AnswersTask t input text) same says)
answers_as arrival (Command.Serial source) task is input text says = subst (λ (t : Task). AnswersTask t input text) is says
answers_as arrival (Command.Explain source places checked) task is input text says =
    let told = subst (λ (t : Task). AnswersTask t input text) is.1.1.1 says in
    subst (λ (asked : List ℕ). AreExplanations input asked checked text) is.1.0
    (subst (λ (flag : Bool). AreExplanations input is.0.places.now flag text) is.1.1.0 told)
answers_as arrival (Command.Denials source checked) task is input text says = subst (λ (t : Task). AnswersTask t input text) is says
answers_as arrival (Command.Grants source limit) task is input text says = subst (λ (t : Task). AnswersTask t input text) is says
answers_as arrival (Command.Rows source which) task is input text says = subst (λ (t : Task). AnswersTask t input text) is says
answers_as arrival (Command.Holders source which) task is input text says = subst (λ (t : Task). AnswersTask t input text) is says
answers_as arrival (Command.History source which) task is input text says = subst (λ (t : Task). AnswersTask t input text) is says
answers_as arrival (Command.Summary source) task is input text says = subst (λ (t : Task). AnswersTask t input text) is says

pub writes_as : (arrival : Arrival) (command : Command) (task : Task) (log old new : Option (List ℕ)) → IsTaskOf arrival command task
    → WritesText (AnswersTask task) log old new → WritesText (AnswersCommand command) log old new
writes_as arrival command task None old new is wrote = tt
writes_as arrival command task (Some input) old new is wrote = (wrote.0, (answers_as arrival command task is input wrote.0 wrote.1.0, wrote.1.1))

pub begins_as : (arrival : Arrival) (command : Command) (task : Task) (log old new : Option (List ℕ)) → IsTaskOf arrival command task
    → BeginsText (AnswersTask task) log old new → BeginsText (AnswersCommand command) log old new
begins_as arrival command task None old new is begun = tt
begins_as arrival command task (Some input) old new is begun = elim begun [
  | inl same ↦ inl same
  | inr some ↦ inr (some.0, (answers_as arrival command task is input some.0 some.1.0, some.1.1))
]

lacks_in : (arrival : Arrival) (command : Command) (task : Task) → IsTaskOf arrival command task → (fault : WorkFault) (input : List ℕ)
    → TaskLacks task fault input → CommandLacks command fault input
lacks_in arrival (Command.Run source settings ahead) task is fault input lacks =
    of_run (λ _. CommandLacks (Command.Run source settings ahead) fault input) settings arrival ahead task is
    (λ threads same. subst (λ (t : Task). TaskLacks t fault input) same lacks) (λ same. subst (λ (t : Task). TaskLacks t fault input) same lacks)
lacks_in arrival (Command.Serial source) task is fault input lacks = subst (λ (t : Task). TaskLacks t fault input) is lacks
lacks_in arrival (Command.Explain source places checked) task is fault input lacks =
    subst (λ (asked : List ℕ). SaysLack (LacksPlaceOf input asked) ⊥ ⊥ fault) is.1.0 (subst (λ (t : Task). TaskLacks t fault input) is.1.1.1 lacks)
lacks_in arrival (Command.Denials source checked) task is fault input lacks = subst (λ (t : Task). TaskLacks t fault input) is lacks
lacks_in arrival (Command.Grants source limit) task is fault input lacks = subst (λ (t : Task). TaskLacks t fault input) is lacks
lacks_in arrival (Command.Rows source which) task is fault input lacks = subst (λ (t : Task). TaskLacks t fault input) is lacks
lacks_in arrival (Command.Holders source which) task is fault input lacks = subst (λ (t : Task). TaskLacks t fault input) is lacks
lacks_in arrival (Command.History source which) task is fault input lacks = subst (λ (t : Task). TaskLacks t fault input) is lacks
lacks_in arrival (Command.Summary source) task is fault input lacks = subst (λ (t : Task). TaskLacks t fault input) is lacks

pub lacks_as : (arrival : Arrival) (command : Command) (task : Task) (found fault : WorkFault) (log : Option (List ℕ)) → IsTaskOf arrival command task → found ≡ fault
    → IfSome log (TaskLacks task found) → IfSome log (CommandLacks command fault)
lacks_as arrival command task found fault None is same lacks = tt
lacks_as arrival command task found fault (Some input) is same lacks =
    lacks_in arrival command task is fault input (subst (λ (it : WorkFault). TaskLacks task it input) same lacks)

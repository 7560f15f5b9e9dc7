use Rattle.words.proofs.Members.{actor-by, by-actor, by-append}
use Rattle.words.proofs.laws.events_are_their_actors.Goals as goal

pub returns : goal.returns
returns c = record { theirs = by-actor; nobody_elses = actor-by; in_order = by-append }

-- What a test that is passed says.
use Rattle.std.proofs.Common.{◌≡◌, ℕ, ◌<◌, Bool, true, false, List, [], ◌∷◌, length, Option, Some, None, refl, arith}
use Rattle.std.specs.Prelude.{bytes_eq}
use Rattle.model_base.proofs.Replay.{by_cases}
use Rattle.log_text.specs.Statement.{Sentence}
use Rattle.sequencer.specs.Names.{is_known, number_of}
use Rattle.sequencer.specs.Catalog.{Names}
use Rattle.sequencer.specs.Refusal.{form_refusal, or_refused, refusal, refuse_unless}
use Rattle.sequencer.specs.declared.refused.Refused.{Refused}

-- the number of a known name is that of a name
pub known-below : (names : List (List ℕ)) (name : List ℕ) → is_known names name ≡ true → number_of names name < length names
known-below [] name e = cc
known-below (x ∷ xs) name e =
    by_cases (bytes_eq name x) (λ here. rw here (omega arith)) (λ behind. rw behind (omega (arith, known-below xs name (rw behind at e))))

pub both_none : (a b : Option Refused) → or_refused a b ≡ None → (a ≡ None) × (b ≡ None)
both_none None b e = (refl, e)
both_none (Some r) b e = cc

pub passes : (b : Bool) (r : Refused) → refuse_unless b r ≡ None → b ≡ true
passes true r e = refl
passes false r e = cc

-- the number of a table that has to be known
pub known-table : (names : Names) (table : List ℕ) → refuse_unless (is_known names.tables table) Refused.UnknownTable ≡ None → number_of names.tables table < length names.tables
known-table names table e = known-below names.tables table (passes (is_known names.tables table) Refused.UnknownTable e)

-- a statement that passes the tests passes those of what it asks for
pub form_passes : (names : Names) (sentence : Sentence) → refusal names sentence ≡ None → form_refusal names sentence.form ≡ None
form_passes names sentence e = (both_none _ _ (both_none _ _ e).1).0

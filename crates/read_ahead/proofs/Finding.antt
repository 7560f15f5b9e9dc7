-- What was found of a line.
use Rattle.std.proofs.Common.{◌≡◌, ◌≢◌, ℕ, List, None, Some, subst}
use Rattle.model_base.specs.declared.statement.Statement.{Statement}
use Rattle.line_words.specs.declared.fault.LineFault.{LineFault}
use Rattle.log_text.specs.Fault.{fault_in}
use Rattle.log_text.specs.Statement.{ReadsIn, Sentence}
use Rattle.sequencer.specs.Catalog.{Names}
use Rattle.sequencer.specs.Foretelling.{Foretells}
use Rattle.read_ahead.specs.Ahead.{IsFoundOf}
use Rattle.read_ahead.specs.declared.ahead.Found.{Found}

-- a statement, as which the one sentence is foretold that the line reads as
pub known_found : (names : Names) (line : List ℕ) (sentence : Sentence) (statement : Statement) → fault_in names.version line ≡ None
    → ((other : Sentence) → ReadsIn names.version line other → sentence ≡ other) → Foretells names sentence statement → IsFoundOf names line (Found.Known statement)
known_found names line sentence statement sound only foretold = record {
  sound = λ s e. sound;
  known = λ s other e reads.
      let same : statement ≡ s = cc in
      subst (λ (st : Statement). Foretells names other st) same (subst (λ (se : Sentence). Foretells names se statement) (only other reads) foretold);
  faulty = λ f e. cc;
  told = λ e. cc;
}

-- a fault, which isn't that memory ran out
pub faulty_found : (names : Names) (line : List ℕ) (fault : LineFault) → fault_in names.version line ≡ Some fault → fault ≢ LineFault.NoMemory
    → IsFoundOf names line (Found.Faulty fault)
faulty_found names line fault is told = record {
  sound = λ s e. cc;
  known = λ s sentence e reads. absurd (let no : Found.Faulty fault ≡ Found.Known s = e in cc);
  faulty = λ f e. let same : fault ≡ f = cc in subst (λ (g : LineFault). fault_in names.version line ≡ Some g) same is;
  told = λ e. told (let same : fault ≡ LineFault.NoMemory = cc in same);
}

-- or nothing
pub unread_found : (names : Names) (line : List ℕ) → IsFoundOf names line Found.Unread
unread_found names line = record {
  sound = λ s e. cc;
  known = λ s sentence e reads. absurd (let no : Found.Unread ≡ Found.Known s = e in cc);
  faulty = λ f e. cc;
  told = λ e. cc;
}

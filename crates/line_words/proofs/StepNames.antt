-- The words that name steps.
use Rattle.std.proofs.Common.{◌≡◌, Bool, true, false, cond, List, ℕ, ◌⊎◌, inl, inr, Option, Some, None, refl, subst}
use Rattle.std.specs.Prelude.{codes, bytes_eq}
use Rattle.std.proofs.lemmas.Slice.Eq.{bytes_eq-Decides}
use Rattle.model_base.specs.declared.statement.Operation.{Operation}
use Rattle.model_base.specs.declared.statement.Operation.TheVariants.{Add, Sub, Mul, Less, Same}
use Rattle.line_words.specs.StepWords.{operation_word, step_name, step_word}
use Rattle.line_words.specs.declared.step_name.StepName.{StepName}
use Rattle.line_words.specs.declared.step_name.StepName.TheVariants.{Const, Compute, Has, Load, Store, Insert, Delete, Check, Skip, Out}

-- the word names the operation
pub named_operation : (operation : Operation) → step_name (operation_word operation) ≡ Some (Compute operation)
named_operation Add = refl
named_operation Sub = refl
named_operation Mul = refl
named_operation Less = refl
named_operation Same = refl

-- and the step
pub named_step : (s : StepName) → step_name (step_word s) ≡ Some s
named_step Const = refl
named_step (Compute operation) = named_operation operation
named_step Has = refl
named_step Load = refl
named_step Store = refl
named_step Insert = refl
named_step Delete = refl
named_step Check = refl
named_step Skip = refl
named_step Out = refl

-- one row of the table
row : (b : Bool) (t s : StepName) (rest : Option StepName) → cond b (Some t) rest ≡ Some s → ((b ≡ true) × (t ≡ s)) ⊎ (rest ≡ Some s)
row true t s rest e = inl (refl, cc)
row false t s rest e = inr e

found : (w : List ℕ) (t s : StepName) → step_name (step_word t) ≡ Some t → (bytes_eq w (step_word t) ≡ true) × (t ≡ s) → (w ≡ step_word s) × (step_name (step_word s) ≡ Some s)
found w t s k h = subst (λ v. (w ≡ step_word v) × (step_name (step_word v) ≡ Some v)) h.1 ((bytes_eq-Decides w (step_word t)).0 h.0, k)

-- a word that names a step is the step's word
pub named_word : (w : List ℕ) (s : StepName) → step_name w ≡ Some s → (w ≡ step_word s) × (step_name (step_word s) ≡ Some s)
named_word w s e0 =
    elim (row (bytes_eq w (codes "CONST")) Const s _ e0) [
      | inl h ↦ found w Const s refl h
      | inr e1 ↦
          elim (row (bytes_eq w (codes "ADD")) (Compute Add) s _ e1) [
            | inl h ↦ found w (Compute Add) s refl h
            | inr e2 ↦
                elim (row (bytes_eq w (codes "SUB")) (Compute Sub) s _ e2) [
                  | inl h ↦ found w (Compute Sub) s refl h
                  | inr e3 ↦
                      elim (row (bytes_eq w (codes "MUL")) (Compute Mul) s _ e3) [
                        | inl h ↦ found w (Compute Mul) s refl h
                        | inr e4 ↦
                            elim (row (bytes_eq w (codes "LESS")) (Compute Less) s _ e4) [
                              | inl h ↦ found w (Compute Less) s refl h
                              | inr e5 ↦
                                  elim (row (bytes_eq w (codes "SAME")) (Compute Same) s _ e5) [
                                    | inl h ↦ found w (Compute Same) s refl h
                                    | inr e6 ↦
                                        elim (row (bytes_eq w (codes "HAS")) Has s _ e6) [
                                          | inl h ↦ found w Has s refl h
                                          | inr e7 ↦
                                              elim (row (bytes_eq w (codes "LOAD")) Load s _ e7) [
                                                | inl h ↦ found w Load s refl h
                                                | inr e8 ↦
                                                    elim (row (bytes_eq w (codes "STORE")) Store s _ e8) [
                                                      | inl h ↦ found w Store s refl h
                                                      | inr e9 ↦
                                                          elim (row (bytes_eq w (codes "INSERT")) Insert s _ e9) [
                                                            | inl h ↦ found w Insert s refl h
                                                            | inr e10 ↦
                                                                elim (row (bytes_eq w (codes "DELETE")) Delete s _ e10) [
                                                                  | inl h ↦ found w Delete s refl h
                                                                  | inr e11 ↦
                                                                      elim (row (bytes_eq w (codes "CHECK")) Check s _ e11) [
                                                                        | inl h ↦ found w Check s refl h
                                                                        | inr e12 ↦
                                                                            elim (row (bytes_eq w (codes "SKIP")) Skip s _ e12) [
                                                                              | inl h ↦ found w Skip s refl h
                                                                              | inr e13 ↦
                                                                                  elim (row (bytes_eq w (codes "OUT")) Out s None e13) [
                                                                                    | inl h ↦ found w Out s refl h
                                                                                    | inr e14 ↦
                                                                                        cc
                                                                                  ]
                                                                            ]
                                                                      ]
                                                                ]
                                                          ]
                                                    ]
                                              ]
                                        ]
                                  ]
                            ]
                      ]
                ]
          ]
    ]

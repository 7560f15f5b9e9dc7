-- How the check goes through lines, and what it finds.
use Rattle.std.proofs.Common.{◌≡◌, ◌≤◌, ◌+◌, ◌∷◌, ℕ, Bool, true, false, List, [], Option, Some, None, drop, length, map, not, refl, sym, ◌∙◌, ap, subst, arith}
use Rattle.std.specs.Prelude.{Decides, is_none, is_some, slice_get}
use Rattle.std.proofs.Math.ListN.{drop_of_length-le}
use Rattle.std.proofs.lemmas.Bool.{true≢false}
use Rattle.std.proofs.lemmas.List.Elements.{All-nil}
use Rattle.std.proofs.lemmas.Option.{slice_get_within}
use Rattle.model_base.specs.declared.deed.Deed.{Deed}
use Rattle.model_base.specs.declared.deed.Need.{Need}
use Rattle.model_base.specs.declared.statement.Statement.{Statement}
use Rattle.model_base.specs.Outcomes.{deeds_before, needs, owners}
use Rattle.explain.specs.declared.line.Line.{Line}
use Rattle.explain.specs.Lines.{IsSound}
use Rattle.explain.specs.ExplainedNeeds.{AreSound, needs_asked}
use Rattle.explain.proofs.Passing.{short_fails}
use Rattle.explain.specs.Explained.{IsExplainedBy}
use Rattle.explain.proofs.Lines.{sound_later}
use Rattle.explain.proofs.Indexing.{ends_before}

pub none_told : {X : Type 0} (found : Option X) (test : Bool) → is_some found ≡ not test → is_none found ≡ test
none_told None true is = refl
none_told None false is = absurd (true≢false (sym is))
none_told (Some x) true is = absurd (true≢false is)
none_told (Some x) false is = refl

module _ (owners : List ℕ) (deeds : List Deed) (place user : ℕ) where
  abbrev Sound : List Need → List Line → Type 0
  Sound needs lines = AreSound owners deeds place user needs lines

  -- a line past the needs
  pub long_fails : (needs : List Need) (lines : List Line) (i : ℕ) (line : Line) → slice_get needs i ≡ None → drop i lines ≡ line ∷ drop (i + 1) lines
      → Sound (drop i needs) (drop i lines) → ⊥
  long_fails needs lines i line none one sound =
      let left : drop i needs ≡ [] = drop_of_length-le needs (ends_before needs i none) in
      let nothing = ap (map (λ (line : Line). line.need)) (sym one) ∙ sound.of ∙ ap (needs_asked owners deeds place user) left in
      absurd (cc)

  -- once all lines are passed, no need may be left
  pub lines_ended : (needs : List Need) (lines : List Line) (i : ℕ) → i ≡ length lines
      → (Sound (drop i needs) (drop i lines) → Sound needs lines) → (Sound needs lines → Sound (drop i needs) (drop i lines))
      → Decides (is_none (slice_get needs i)) (Sound needs lines)
  lines_ended needs lines i end fore back = by_need (slice_get needs i) refl
    where
      none_left : drop i lines ≡ []
      none_left = drop_of_length-le lines (omega arith)

      by_need : (found : Option Need) → slice_get needs i ≡ found → Decides (is_none found) (Sound needs lines)
      by_need None is =
          let left : drop i needs ≡ [] = drop_of_length-le needs (ends_before needs i is) in
          let so = λ (line : Line). IsSound owners deeds place user line.need line.shown in
          let empty : Sound [] [] = record { of = refl; so = All-nil so } in
          (λ yes. fore (rw (left, none_left) empty), λ sound. refl)
      by_need (Some need) is = (
        λ no. absurd (true≢false (sym no)),
        λ sound. absurd (short_fails owners deeds place user needs lines i (slice_get_within needs i need is) (omega arith) (back sound)),
      )

-- what is sound by the deeds before a later place explains this one
pub explains_at : (log : List Statement) (place end : ℕ) (statement : Statement) (lines : List Line) (test : Bool) → place ≤ end → slice_get log place ≡ Some statement
    → Decides test (AreSound (owners log) (deeds_before log end) place statement.user (needs statement.form) lines)
    → Decides test (IsExplainedBy log place lines)
explains_at log place end statement lines test less there decides =
    let later = sound_later log place end statement.user less (needs statement.form) lines in (
      λ yes. record { statement = statement; there = there; sound = later.1 (decides.0 yes) },
      λ by.
          let same : by.statement ≡ statement = some_same (sym by.there ∙ there) in
          let sound : AreSound (owners log) (deeds_before log place) place statement.user (needs statement.form) lines =
          subst (λ (s : Statement). AreSound (owners log) (deeds_before log place) place s.user (needs s.form) lines) same by.sound in
          decides.1 (later.0 sound),
    )
  where
    some_same : {x y : Statement} → ◌≡◌ {A = Option Statement} (Some x) (Some y) → x ≡ y
    some_same is = cc

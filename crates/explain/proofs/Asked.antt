-- How lines go through needs.
use Rattle.std.proofs.Common.{◌≡◌, ℕ, suc, ◌<◌, ◌+◌, true, false, List, [], ◌∷◌, ◌++◌, length, map, get_or, drop, drop-cons, add-one, refl, sym, ◌∙◌, ap, append_assoc}
use Rattle.std.specs.Prelude.{All}
use Rattle.std.proofs.lemmas.List.Elements.{All-cons, All-nil}
use Rattle.model_base.specs.declared.deed.Cause.{Cause}
use Rattle.model_base.specs.declared.deed.Cause.TheVariants.{Never, Taken}
use Rattle.model_base.specs.declared.deed.Deed.{Deed}
use Rattle.model_base.specs.declared.deed.Need.{Need}
use Rattle.model_base.specs.Privileges.{IsProper, has, owns}
use Rattle.model_base.specs.Records.{grants_of}
use Rattle.model_base.proofs.Replay.{by_cases}
use Rattle.explain.specs.declared.line.Line.{Line}
use Rattle.explain.specs.declared.line.Shown.{Shown}
use Rattle.explain.specs.Lines.{HaveOneGrantor, IsSound, cause_before, holds_before, shown_lost, shown_of}
use Rattle.explain.proofs.Showing.{shown-sound}
use Rattle.explain.specs.ExplainedNeeds.{AreSound, needs_asked, line_of, explaining_lines, tells_held}

module _ (owners : List ℕ) (deeds : List Deed) (place user : ℕ) where
  pub owner-holds : (need : Need) → owns owners user need.table ≡ true → holds_before owners deeds place user need ≡ true
  unfolding has
  owner-holds need owned = rw owned refl

  -- what there is to show says whether the need is held
  pub shown-held : (need : Need) → tells_held (shown_of owners deeds place user need) ≡ holds_before owners deeds place user need
  shown-held need =
      by_cases (owns owners user need.table)
      (λ owned. rw owned (sym (owner-holds need owned)))
      (λ other. by_cases (holds_before owners deeds place user need)
      (λ held. rw (other, held) refl)
      (λ missing. rw (other, missing) (lost (cause_before owners deeds place user need))))
    where
      lost : (why : Cause) → tells_held (shown_lost owners deeds user need why) ≡ false
      lost Never = refl
      lost (Taken at) = refl

  -- the lines of a need that is held, and of those after it
  pub lines-held : (need : Need) (needs : List Need) → holds_before owners deeds place user need ≡ true
      → explaining_lines owners deeds place user (need ∷ needs) ≡ line_of owners deeds place user need ∷ explaining_lines owners deeds place user needs
  lines-held need needs held = rw held refl

  pub lines-missing : (need : Need) (needs : List Need) → holds_before owners deeds place user need ≡ false
      → explaining_lines owners deeds place user (need ∷ needs) ≡ line_of owners deeds place user need ∷ []
  lines-missing need needs missing = rw missing refl

  -- what explains needs is sound
  pub lines-sound : IsProper owners deeds → HaveOneGrantor (grants_of deeds) → (needs : List Need) → AreSound owners deeds place user needs (explaining_lines owners deeds place user needs)
  lines-sound proper one needs = record { of = same (needs_asked owners deeds place user needs); so = sound (needs_asked owners deeds place user needs) }
    where
      same : (all : List Need) → map (λ (line : Line). line.need) (map (line_of owners deeds place user) all) ≡ all
      same [] = refl
      same (need ∷ all) = ap (λ rest. need ∷ rest) (same all)

      sound : (all : List Need) → All (λ (line : Line). IsSound owners deeds place user line.need line.shown) (map (line_of owners deeds place user) all)
      sound [] = All-nil (λ (line : Line). IsSound owners deeds place user line.need line.shown)
      sound (need ∷ all) =
          All-cons (λ (line : Line). IsSound owners deeds place user line.need line.shown) (line_of owners deeds place user need)
          (map (line_of owners deeds place user) all) (shown-sound owners deeds place user need proper one) (sound all)

  -- whether it is held, by what is shown
  pub held_by : (need : Need) (shown : Shown) → shown ≡ shown_of owners deeds place user need → tells_held shown ≡ holds_before owners deeds place user need
  held_by need shown is = ap tells_held is ∙ shown-held need

  -- the needs from an index on are the one of the index and the later ones
  needs_from : (needs : List Need) (i : ℕ) (need : Need) → i < length needs → need ≡ get_or needs i need → drop i needs ≡ need ∷ drop (i + 1) needs
  needs_from needs i need within is = rw (add-one i) (drop-cons needs i need within ∙ ap (λ first. first ∷ drop (suc i) needs) (sym is))

  line_same : (need : Need) (shown : Shown) → shown ≡ shown_of owners deeds place user need
      → ◌≡◌ {A = Line} (record { need = need; shown = shown }) (line_of owners deeds place user need)
  line_same need shown is = ap (λ (s : Shown). let line : Line = record { need = need; shown = s } in line) is

  -- one more line of a held need goes on
  pub lines_go_on : (needs : List Need) (i : ℕ) (need : Need) (shown : Shown) (lines more : List Line) → i < length needs → need ≡ get_or needs i need
      → shown ≡ shown_of owners deeds place user need → holds_before owners deeds place user need ≡ true
      → lines ++ explaining_lines owners deeds place user (drop i needs) ≡ explaining_lines owners deeds place user needs
      → more ≡ lines ++ record { need = need; shown = shown } ∷ []
      → more ++ explaining_lines owners deeds place user (drop (i + 1) needs) ≡ explaining_lines owners deeds place user needs
  lines_go_on needs i need shown lines more within is told held so_far pushed =
      let rest = explaining_lines owners deeds place user (drop (i + 1) needs) in
      ap (λ (all : List Line). all ++ rest) pushed
      ∙ append_assoc lines (record { need = need; shown = shown } ∷ []) rest
      ∙ ap (λ (line : Line). lines ++ line ∷ rest) (line_same need shown told)
      ∙ ap (λ (all : List Line). lines ++ all) (sym (lines-held need (drop (i + 1) needs) held))
      ∙ ap (λ (left : List Need). lines ++ explaining_lines owners deeds place user left) (sym (needs_from needs i need within is))
      ∙ so_far

  -- that of a missing one is the last
  pub lines_end : (needs : List Need) (i : ℕ) (need : Need) (shown : Shown) (lines more : List Line) → i < length needs → need ≡ get_or needs i need
      → shown ≡ shown_of owners deeds place user need → holds_before owners deeds place user need ≡ false
      → lines ++ explaining_lines owners deeds place user (drop i needs) ≡ explaining_lines owners deeds place user needs
      → more ≡ lines ++ record { need = need; shown = shown } ∷ []
      → more ≡ explaining_lines owners deeds place user needs
  lines_end needs i need shown lines more within is told missing so_far pushed =
      pushed
      ∙ ap (λ (line : Line). lines ++ line ∷ []) (line_same need shown told)
      ∙ ap (λ (all : List Line). lines ++ all) (sym (lines-missing need (drop (i + 1) needs) missing))
      ∙ ap (λ (left : List Need). lines ++ explaining_lines owners deeds place user left) (sym (needs_from needs i need within is))
      ∙ so_far

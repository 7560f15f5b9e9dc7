-- Deeds at a place, or after it, explain nothing there.
use Rattle.std.proofs.Common.{◌≡◌, ◌↔◌, ℕ, ◌<◌, ◌≤◌, ◌∷◌, List, [], map, refl, sym, ◌∙◌, ap, subst, arith, inl, inr}
use Rattle.std.specs.Prelude.{nat_lt}
use Rattle.std.proofs.lemmas.Bool.{cases_lt, le-ltb, lt-ltb}
use Rattle.std.proofs.lemmas.List.Elements.{All-weaker}
use Rattle.model_base.specs.declared.deed.Cause.{Cause}
use Rattle.model_base.specs.declared.deed.Cause.TheVariants.{Never, Taken}
use Rattle.model_base.specs.declared.deed.Deed.{Deed}
use Rattle.model_base.specs.declared.deed.Need.{Need}
use Rattle.model_base.specs.declared.deed.Grant.{Grant}
use Rattle.model_base.specs.declared.deed.Deed.TheVariants.{Revoking}
use Rattle.model_base.specs.Outcomes.{cause}
use Rattle.model_base.specs.Paths.{path}
use Rattle.model_base.specs.Privileges.{deeds_below, holds, kept, owns, place_of}
use Rattle.model_base.proofs.Causes.{cause-revocation}
use Rattle.model_base.proofs.Cuts.{deeds_below-all, deeds_below-whole}
use Rattle.model_base.proofs.Replay.{by_cases}
use Rattle.explain.specs.declared.line.Line.{Line}
use Rattle.explain.specs.declared.line.Shown.{Shown}
use Rattle.explain.specs.Lines.{IsChain, IsSound, cause_before, holds_before, kept_before, ranks_of, shown_lost, shown_of}
use Rattle.explain.specs.ExplainedNeeds.{AreSound, needs_asked, line_of, explaining_lines}

-- of the deeds below a place, those below an earlier one are those of all
below-earlier : (low high : ℕ) (deeds : List Deed) → low ≤ high → deeds_below low (deeds_below high deeds) ≡ deeds_below low deeds
below-earlier low high [] less = refl
below-earlier low high (deed ∷ deeds) less =
    let rest = below-earlier low high deeds less in
    elim (cases_lt (place_of deed) high) [
      | inl under ↦
          rw (lt-ltb (place_of deed) high under)
          (by_cases (nat_lt (place_of deed) low) (λ here. rw (here, rest) refl) (λ later. rw (later, rest) refl))
      | inr above ↦ rw (le-ltb (place_of deed) high above, le-ltb (place_of deed) low (omega (arith, above, less))) rest
    ]

module _ (owners : List ℕ) (deeds : List Deed) (place user : ℕ) where
  abbrev below : List Deed
  below = deeds_below place deeds

  same : deeds_below place below ≡ below
  same = deeds_below-whole place below (deeds_below-all place deeds)

  holds-below : (need : Need) → holds_before owners below place user need ≡ holds_before owners deeds place user need
  holds-below need = ap (λ (ds : List Deed). holds owners ds user need) same

  cause-below : (need : Need) → cause_before owners below place user need ≡ cause_before owners deeds place user need
  cause-below need = ap (λ (ds : List Deed). cause owners ds user need) same

  -- what was taken before the place was taken below it
  pub taken-below : (need : Need) (lost : ℕ) → cause_before owners deeds place user need ≡ Taken lost → lost < place
  taken-below need lost is =
      let by = cause-revocation owners user need below lost is in
      let there = by.1 in
      let less : by.0.place < place = subst (λ (deed : Deed). place_of deed < place) there.2 (deeds_below-all place deeds there.0 (Revoking by.0) there.1) in
      omega (arith, by.2, less)

  kept-below : (lost : ℕ) → lost ≤ place → kept_before owners below lost ≡ kept_before owners deeds lost
  kept-below lost less = ap (kept owners) (below-earlier lost place deeds less)

  lost-below : (need : Need) (why : Cause) → cause_before owners deeds place user need ≡ why → shown_lost owners below user need why ≡ shown_lost owners deeds user need why
  lost-below need Never is = refl
  lost-below need (Taken lost) is =
      let less : lost ≤ place = omega (arith, taken-below need lost is) in
      ap (λ (grants : List Grant). Shown.Taken lost (ranks_of (path owners grants user need))) (kept-below lost less)

  shown-below : (need : Need) → shown_of owners below place user need ≡ shown_of owners deeds place user need
  shown-below need =
      by_cases (owns owners user need.table)
      (λ owned. rw owned refl)
      (λ other. by_cases (holds_before owners deeds place user need)
      (λ held. rw (other, same, held) refl)
      (λ missing. rw (other, same, missing) (lost-below need (cause_before owners deeds place user need) refl)))

  asked-below : (needs : List Need) → needs_asked owners below place user needs ≡ needs_asked owners deeds place user needs
  asked-below [] = refl
  asked-below (need ∷ needs) = rw (holds-below need, asked-below needs) refl

  -- what explains needs there is by the deeds below alone
  lines-all : (needs : List Need) → map (line_of owners below place user) needs ≡ map (line_of owners deeds place user) needs
  lines-all [] = refl
  lines-all (need ∷ needs) =
      ap (λ (shown : Shown). let line : Line = record { need = need; shown = shown } in line ∷ map (line_of owners below place user) needs) (shown-below need)
      ∙ ap (λ (lines : List Line). line_of owners deeds place user need ∷ lines) (lines-all needs)

  pub lines-below : (needs : List Need) → explaining_lines owners below place user needs ≡ explaining_lines owners deeds place user needs
  lines-below needs = ap (map (line_of owners below place user)) (asked-below needs) ∙ lines-all (needs_asked owners deeds place user needs)

  chain-below : (lost : ℕ) (need : Need) (ranks : List ℕ) → lost ≤ place
      → IsChain owners (kept_before owners below lost) user need ranks ↔ IsChain owners (kept_before owners deeds lost) user need ranks
  chain-below lost need ranks less =
      let P : List Grant → Type 0 = λ grants. IsChain owners grants user need ranks in
      let is = kept-below lost less in
      (subst P is, subst P (sym is))

  sound-below : (need : Need) (shown : Shown) → IsSound owners below place user need shown ↔ IsSound owners deeds place user need shown
  sound-below need Shown.Owner = (λ is. is, λ is. is)
  sound-below need (Shown.Grants ranks) = chain-below place need ranks (omega arith)
  sound-below need Shown.Never = (
    λ is. (sym (holds-below need) ∙ is.0, sym (cause-below need) ∙ is.1),
    λ is. (holds-below need ∙ is.0, cause-below need ∙ is.1),
  )
  sound-below need (Shown.Taken lost ranks) = (
    λ is.
        let was = sym (cause-below need) ∙ is.1 in
        (sym (holds-below need) ∙ is.0, was, (chain-below lost need ranks (omega (arith, taken-below need lost was))).0 is.2),
    λ is. (holds-below need ∙ is.0, cause-below need ∙ is.1, (chain-below lost need ranks (omega (arith, taken-below need lost is.1))).1 is.2),
  )

  -- so are the lines that do
  pub are_sound-below : (needs : List Need) (lines : List Line) → AreSound owners below place user needs lines ↔ AreSound owners deeds place user needs lines
  are_sound-below needs lines =
      let P : Line → Type 0 = λ line. IsSound owners below place user line.need line.shown in
      let Q : Line → Type 0 = λ line. IsSound owners deeds place user line.need line.shown in (
        λ sound. record {
          of = sound.of ∙ asked-below needs;
          so = All-weaker P Q (λ line. (sound-below line.need line.shown).0) lines sound.so;
        },
        λ sound. record {
          of = sound.of ∙ sym (asked-below needs);
          so = All-weaker Q P (λ line. (sound-below line.need line.shown).1) lines sound.so;
        },
      )

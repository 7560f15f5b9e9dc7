-- How the check goes through needs and lines.
use Rattle.std.proofs.Common.{◌≡◌, ℕ, zero, suc, ◌<◌, ◌≤◌, ◌+◌, ◌-◌, Bool, true, false, List, [], ◌∷◌, length, map, get_or, drop, drop-cons, add-one, refl, sym, ◌∙◌, ap, subst, arith, eq-eqb, length-drop}
use Rattle.std.specs.Prelude.{◌==◌, All, Contains, Decides}
use Rattle.std.specs.List.{list_any}
use Rattle.std.proofs.Math.ListN.{drop_of_length-le}
use Rattle.std.proofs.lemmas.Bool.{eqb-true, or_left, or_right}
use Rattle.std.proofs.lemmas.List.Elements.{All-cons, All-head, All-nil, All-tail}
use Rattle.model_base.specs.declared.deed.Deed.{Deed}
use Rattle.model_base.specs.declared.deed.Grant.{Grant}
use Rattle.model_base.specs.declared.deed.Need.{Need}
use Rattle.model_base.specs.Paths.{LeadsFrom, LeadsTo}
use Rattle.model_base.specs.Privileges.{gives, has, owns}
use Rattle.explain.specs.declared.line.Line.{Line}
use Rattle.explain.specs.declared.line.Shown.{Shown}
use Rattle.explain.specs.Lines.{IsChain, IsSound, holds_before, kept_before, ranks_of}
use Rattle.explain.specs.ExplainedNeeds.{AreSound, Explains, needs_asked, tells_held}
use Rattle.explain.proofs.Asked.{owner-holds}

any_contains : (test : Grant → Bool) (grants : List Grant) (grant : Grant) → Contains grants grant → test grant ≡ true → list_any test grants ≡ true
any_contains test [] grant (k, less, is) passes = absurd (omega arith)
any_contains test (first ∷ grants) grant (zero, less, is) passes =
    let same : first ≡ grant = is in
    or_left (test first) (list_any test grants) (ap test same ∙ passes)
any_contains test (first ∷ grants) grant (suc k, less, is) passes =
    or_right (test first) (list_any test grants) (any_contains test grants grant (k, omega arith, is) passes)

leads_any : (grants : List Grant) (user : ℕ) (need : Need) (first : Grant) (chain : List Grant) → Contains grants first → All (Contains grants) chain
    → LeadsFrom first chain user need → list_any (λ grant. gives grant user need) grants ≡ true
leads_any grants user need first [] there among leads = any_contains (λ grant. gives grant user need) grants first there leads
leads_any grants user need first (next ∷ chain) there among leads =
    leads_any grants user need next chain (All-head (Contains grants) next chain among) (All-tail (Contains grants) next chain among) leads.1

-- who is given what is needed has it
had_by : (owners : List ℕ) (grants : List Grant) (user : ℕ) (need : Need) → list_any (λ grant. gives grant user need) grants ≡ true → has owners grants user need ≡ true
unfolding has
had_by owners grants user need given = or_right (owns owners user need.table) (list_any (λ grant. gives grant user need) grants) given

chain_has : (owners : List ℕ) (grants : List Grant) (user : ℕ) (need : Need) (ranks : List ℕ) → IsChain owners grants user need ranks → has owners grants user need ≡ true
chain_has owners grants user need ranks is = by_chain is.chain is.told is.among is.leads is.some
  where
    by_chain : (chain : List Grant) → ranks_of chain ≡ ranks → All (Contains grants) chain → LeadsTo owners chain user need → 0 < length ranks → has owners grants user need ≡ true
    by_chain [] told among leads some = let none : 0 ≡ length ranks = ap length told in absurd (omega arith)
    by_chain (first ∷ chain) told among leads some =
        had_by owners grants user need
        (leads_any grants user need first chain (All-head (Contains grants) first chain among) (All-tail (Contains grants) first chain among) leads.1)

-- an item of a list, and those after it
item_at : {X : Type 0} (xs : List X) (i : ℕ) (x : X) → i < length xs → x ≡ get_or xs i x → drop i xs ≡ x ∷ drop (i + 1) xs
item_at xs i x within is = rw (add-one i) (drop-cons xs i x within ∙ ap (λ first. first ∷ drop (suc i) xs) (sym is))

module _ (owners : List ℕ) (deeds : List Deed) (place user : ℕ) where
  abbrev Sound : List Need → List Line → Type 0
  Sound needs lines = AreSound owners deeds place user needs lines

  abbrev IsSo : Line → Type 0
  IsSo line = IsSound owners deeds place user line.need line.shown

  abbrev needs_of : List Line → List Need
  needs_of lines = map (λ (line : Line). line.need) lines

  -- what is shown, and is so, says whether the need is held
  pub held_sound : (need : Need) (shown : Shown) → IsSound owners deeds place user need shown → tells_held shown ≡ holds_before owners deeds place user need
  held_sound need Shown.Owner is = sym (owner-holds owners deeds place user need is)
  held_sound need (Shown.Grants ranks) is = sym (chain_has owners (kept_before owners deeds place) user need ranks is)
  held_sound need Shown.Never is = sym is.0
  held_sound need (Shown.Taken lost ranks) is = sym is.0

  -- where a line is missing
  pub short_fails : (needs : List Need) (lines : List Line) (i : ℕ) → i < length needs → length lines ≤ i → Sound (drop i needs) (drop i lines) → ⊥
  short_fails [] lines i less over sound = absurd (omega arith)
  short_fails (first ∷ later) lines i less over sound =
      let needs : List Need = first ∷ later in
      let one = drop-cons needs i first less in
      let none = drop_of_length-le lines over in
      let nothing = ap needs_of (sym none) ∙ sound.of ∙ ap (needs_asked owners deeds place user) one in
      absurd (cc)

  first_line : (need : Need) (needs : List Need) (line : Line) (lines : List Line) → Sound (need ∷ needs) (line ∷ lines) → Explains owners deeds place user need line
  first_line need needs line lines sound =
      let all = sound.of in
      let same : line.need ≡ need = cc in
      (same, subst (λ (n : Need). IsSound owners deeds place user n line.shown) same (All-head IsSo line lines sound.so))

  -- a line that doesn't explain its need
  pub wrong_fails : (needs : List Need) (lines : List Line) (i : ℕ) (need : Need) (line : Line) → i < length needs → i < length lines
      → need ≡ get_or needs i need → line ≡ get_or lines i line → Sound (drop i needs) (drop i lines) → Explains owners deeds place user need line
  wrong_fails needs lines i need line less within is at sound =
      first_line need (drop (i + 1) needs) line (drop (i + 1) lines) (rw (item_at needs i need less is, item_at lines i line within at) at sound)

  asked-held : (need : Need) (needs : List Need) → holds_before owners deeds place user need ≡ true
      → needs_asked owners deeds place user (need ∷ needs) ≡ need ∷ needs_asked owners deeds place user needs
  asked-held need needs held = rw held refl

  asked-missing : (need : Need) (needs : List Need) → holds_before owners deeds place user need ≡ false → needs_asked owners deeds place user (need ∷ needs) ≡ need ∷ []
  asked-missing need needs missing = rw missing refl

  so_line : (need : Need) (line : Line) → Explains owners deeds place user need line → IsSo line
  so_line need line explains = subst (λ (n : Need). IsSound owners deeds place user n line.shown) (sym explains.0) explains.1

  held_more : (need : Need) (needs : List Need) (line : Line) (lines : List Line) → Explains owners deeds place user need line → tells_held line.shown ≡ true
      → Sound needs lines → Sound (need ∷ needs) (line ∷ lines)
  held_more need needs line lines explains tells sound =
      let held = sym (held_sound need line.shown explains.1) ∙ tells in
      record {
        of =
            ap (λ (n : Need). n ∷ needs_of lines) explains.0
            ∙ ap (λ (rest : List Need). need ∷ rest) sound.of
            ∙ sym (asked-held need needs held);
        so = All-cons IsSo line lines (so_line need line explains) sound.so;
      }

  held_less : (need : Need) (needs : List Need) (line : Line) (lines : List Line) → Explains owners deeds place user need line → tells_held line.shown ≡ true
      → Sound (need ∷ needs) (line ∷ lines) → Sound needs lines
  held_less need needs line lines explains tells sound =
      let held = sym (held_sound need line.shown explains.1) ∙ tells in
      let all = sound.of ∙ asked-held need needs held in
      let rest : needs_of lines ≡ needs_asked owners deeds place user needs = cc in
      record { of = rest; so = All-tail IsSo line lines sound.so }

  no_lines : (lines : List Line) → needs_of lines ≡ [] → lines ≡ []
  no_lines [] is = refl
  no_lines (line ∷ lines) is = absurd (cc)

  last_line : (need : Need) (needs : List Need) (line : Line) → Explains owners deeds place user need line → tells_held line.shown ≡ false
      → Sound (need ∷ needs) (line ∷ [])
  last_line need needs line explains tells =
      let missing = sym (held_sound need line.shown explains.1) ∙ tells in
      record {
        of = ap (λ (n : Need). n ∷ []) explains.0 ∙ sym (asked-missing need needs missing);
        so = All-cons IsSo line [] (so_line need line explains) (All-nil IsSo);
      }

  none_behind : (need : Need) (needs : List Need) (line : Line) (lines : List Line) → Explains owners deeds place user need line → tells_held line.shown ≡ false
      → Sound (need ∷ needs) (line ∷ lines) → lines ≡ []
  none_behind need needs line lines explains tells sound =
      let missing = sym (held_sound need line.shown explains.1) ∙ tells in
      let all = sound.of ∙ asked-missing need needs missing in
      let rest : needs_of lines ≡ [] = cc in
      no_lines lines rest

  module _ (needs : List Need) (lines : List Line) (i : ℕ) (need : Need) (line : Line) (less : i < length needs) (within : i < length lines)
      (is : need ≡ get_or needs i need) (at : line ≡ get_or lines i line) (explains : Explains owners deeds place user need line)
      (fore : Sound (drop i needs) (drop i lines) → Sound needs lines) (back : Sound needs lines → Sound (drop i needs) (drop i lines)) where
    -- a line that tells its need as held
    pub passed_fore : tells_held line.shown ≡ true → Sound (drop (i + 1) needs) (drop (i + 1) lines) → Sound needs lines
    passed_fore tells sound =
        fore (rw (item_at needs i need less is, item_at lines i line within at) (held_more need (drop (i + 1) needs) line (drop (i + 1) lines) explains tells sound))

    pub passed_back : tells_held line.shown ≡ true → Sound needs lines → Sound (drop (i + 1) needs) (drop (i + 1) lines)
    passed_back tells sound =
        held_less need (drop (i + 1) needs) line (drop (i + 1) lines) explains tells (rw (item_at needs i need less is, item_at lines i line within at) at (back sound))

    -- one that doesn't has to be the last
    pub ended : tells_held line.shown ≡ false → Decides (length lines == (i + 1)) (Sound needs lines)
    ended tells = (last, whole)
      where
        last : (length lines == (i + 1)) ≡ true → Sound needs lines
        last same =
            let long : length lines ≡ i + 1 = eqb-true (length lines) (i + 1) same in
            let none : drop (i + 1) lines ≡ [] = drop_of_length-le lines (omega arith) in
            let one : drop i lines ≡ line ∷ [] = item_at lines i line within at ∙ ap (λ (rest : List Line). line ∷ rest) none in
            fore (rw (item_at needs i need less is, one) (last_line need (drop (i + 1) needs) line explains tells))

        whole : Sound needs lines → (length lines == (i + 1)) ≡ true
        whole sound =
            let none = none_behind need (drop (i + 1) needs) line (drop (i + 1) lines) explains tells
            (rw (item_at needs i need less is, item_at lines i line within at) at (back sound)) in
            let short : length lines - (i + 1) ≡ 0 = sym (length-drop (i + 1) lines) ∙ ap length none in
            eq-eqb (length lines) (i + 1) (omega arith)

  -- once all needs are passed, no line may be left
  pub all_passed : (needs : List Need) (lines : List Line) (i : ℕ) → i ≡ length needs → i ≤ length lines
      → (Sound (drop i needs) (drop i lines) → Sound needs lines) → (Sound needs lines → Sound (drop i needs) (drop i lines))
      → Decides (length lines == length needs) (Sound needs lines)
  all_passed needs lines i end within fore back = (last, whole)
    where
      left : drop i needs ≡ []
      left = drop_of_length-le needs (omega arith)

      empty : Sound [] []
      empty = record { of = refl; so = All-nil IsSo }

      last : (length lines == length needs) ≡ true → Sound needs lines
      last same =
          let long : length lines ≡ length needs = eqb-true (length lines) (length needs) same in
          let none : drop i lines ≡ [] = drop_of_length-le lines (omega arith) in
          fore (rw (left, none) empty)

      whole : Sound needs lines → (length lines == length needs) ≡ true
      whole sound =
          let rest = back sound in
          let none = no_lines (drop i lines) (rest.of ∙ ap (needs_asked owners deeds place user) left) in
          let short : length lines - i ≡ 0 = sym (length-drop i lines) ∙ ap length none in
          eq-eqb (length lines) (length needs) (omega arith)

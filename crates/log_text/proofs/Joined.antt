-- Words joined by single spaces.
use Rattle.std.proofs.Common.{◌≡◌, ℕ, List, [], ◌∷◌, ◌++◌, refl, ap, sym, ◌∙◌, append_assoc}
use Rattle.std.specs.Prelude.{codes}
use Rattle.std.specs.List.{join_with_byte}
use Rattle.std.proofs.lemmas.List.{append-nil}
use Rattle.log_text.specs.Parsing.{spaced}

spaced_both : (xs ys : List (List ℕ)) → spaced (xs ++ ys) ≡ spaced xs ++ spaced ys
spaced_both [] ys = refl
spaced_both (x ∷ xs) ys = ap (λ w. 32 ∷ (x ++ w)) (spaced_both xs ys) ∙ ap (λ w. 32 ∷ w) (sym (append_assoc x (spaced xs) (spaced ys)))

pub join_spaced : (w : List ℕ) (ws : List (List ℕ)) → join_with_byte 32 (w ∷ ws) ≡ w ++ spaced ws
join_spaced w [] = sym (append-nil w)
join_spaced w (v ∷ vs) = ap (λ u. w ++ (32 ∷ u)) (join_spaced v vs)

pub run_spelling : (user : List ℕ) (xs ys zs : List (List ℕ)) → user ++ codes " RUN" ++ spaced xs ++ spaced ys ++ spaced zs ≡ join_with_byte 32 (user ∷ codes "RUN" ∷ (xs ++ (ys ++ zs)))
run_spelling user xs ys zs =
    append_assoc (user ++ codes " RUN" ++ spaced xs) (spaced ys) (spaced zs)
    ∙ ap (λ w. (user ++ codes " RUN" ++ spaced xs) ++ w) (sym (spaced_both ys zs))
    ∙ append_assoc (user ++ codes " RUN") (spaced xs) (spaced (ys ++ zs))
    ∙ ap (λ w. (user ++ codes " RUN") ++ w) (sym (spaced_both xs (ys ++ zs)))
    ∙ append_assoc user (codes " RUN") (spaced (xs ++ (ys ++ zs))) ∙ sym (join_spaced user (codes "RUN" ∷ (xs ++ (ys ++ zs))))

pub deed_spelling : (user : List ℕ) (xs : List (List ℕ)) → user ++ spaced xs ≡ join_with_byte 32 (user ∷ xs)
deed_spelling user xs = sym (join_spaced user xs)

-- What was written so far.
use Rattle.std.proofs.Common.{◌≡◌, ℕ, ◌+◌, ◌≤◌, List, [], ◌++◌, length, take, drop, Option, Some, None, refl, ap, sym, ◌∙◌, subst, append_assoc}
use Rattle.std.specs.Io.KnownBytes.{Appends, Keeps}
use Rattle.std.proofs.Math.Seq.{take-add, take-append_seam}
use Rattle.std.proofs.lemmas.List.{take_all, append-nil}
use Rattle.line_io.specs.Known.{AppendsFront, MovesOut}

-- writing no byte changes nothing
pub appends_none : (o : Option (List ℕ)) (bytes : List ℕ) → Appends o o (take 0 bytes)
appends_none None bytes = tt
appends_none (Some xs) bytes = sym (append-nil xs)

-- the first i bytes were written, and then the next k
pub appends_more : (o n m : Option (List ℕ)) (bytes : List ℕ) (i k : ℕ) → Appends o n (take i bytes) → Appends n m (take k (drop i bytes)) → Appends o m (take (i + k) bytes)
appends_more None n m bytes i k a b = tt
appends_more (Some xs) None m bytes i k a b = absurd a
appends_more (Some xs) (Some ys) None bytes i k a b = absurd b
appends_more (Some xs) (Some ys) (Some zs) bytes i k a b =
    b ∙ ap (λ w. w ++ take k (drop i bytes)) a ∙ append_assoc xs (take i bytes) (take k (drop i bytes)) ∙ ap (λ w. xs ++ w) (sym (take-add i k bytes))

-- what was written stays if the contents are kept
pub appends_kept : (o n m : Option (List ℕ)) (bytes : List ℕ) → Appends o n bytes → Keeps n m → Appends o m bytes
appends_kept None n m bytes a b = tt
appends_kept (Some xs) None m bytes a b = absurd a
appends_kept (Some xs) (Some ys) None bytes a b = absurd b
appends_kept (Some xs) (Some ys) (Some zs) bytes a b = b ∙ a

-- a front that is long enough is all
pub appends_all : (o n : Option (List ℕ)) (bytes : List ℕ) (i : ℕ) → length bytes ≤ i → Appends o n (take i bytes) → Appends o n bytes
appends_all o n bytes i full a = rw take_all at a

-- one piece and then another
pub appends_then : (o n m : Option (List ℕ)) (xs ys : List ℕ) → Appends o n xs → Appends n m ys → Appends o m (xs ++ ys)
appends_then None n m xs ys a b = tt
appends_then (Some o) None m xs ys a b = absurd a
appends_then (Some o) (Some n) None xs ys a b = absurd b
appends_then (Some o) (Some n) (Some m) xs ys a b = b ∙ ap (λ w. w ++ ys) a ∙ append_assoc o xs ys

-- a front of the whole was written
pub appends_front : (o n : Option (List ℕ)) (front rest whole : List ℕ) → Appends o n front → front ++ rest ≡ whole → AppendsFront o n whole
appends_front o n front rest whole a e = (length front, subst (Appends o n) (sym (take-append_seam front rest) ∙ ap (take (length front)) e) a)

-- all that was pending was written, and nothing is pending
pub moved_all : (n m : Option (List ℕ)) (pending less : List ℕ) → Appends n m pending → less ≡ [] → MovesOut n m pending less
moved_all n m pending less a e = (pending, a, ap (λ (w : List ℕ). pending ++ w) e ∙ append-nil pending)

-- nothing was written, and all is pending still
pub moved_none : (n : Option (List ℕ)) (pending : List ℕ) → MovesOut n n pending pending
moved_none None pending = ([], tt, refl)
moved_none (Some xs) pending = ([], sym (append-nil xs), refl)

-- a front that was written stays if the contents are kept
pub front_kept : (n m k : Option (List ℕ)) (pending : List ℕ) → AppendsFront n m pending → Keeps m k → AppendsFront n k pending
front_kept n m k pending a e = (a.0, appends_kept n m k (take a.0 pending) a.1 e)

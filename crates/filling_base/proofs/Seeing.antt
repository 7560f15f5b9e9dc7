-- What is found free or held isn't told to be done.
use Rattle.std.proofs.Common.{◌≡◌, ℕ, sym, ◌∙◌, ⊎_elim}
use Rattle.bohm_core_base.specs.Batch.{Batch}
use Rattle.words.specs.declared.claims.Claimed.{Claimed}
use Rattle.words.specs.declared.claims.Claimed.TheVariants as claimed
use Rattle.words.specs.declared.claims.Seen.{Seen}
use Rattle.words.specs.declared.claims.Seen.TheVariants as seen
use Rattle.words.specs.declared.knowledge.Knowledge.{Knowledge}
use Rattle.words.specs.Views.{In, IsSettled}
use Rattle.filling_base.specs.Tries.{IsKnownDone}

done-free : seen.Done ≡ seen.Free → ⊥
done-free is = cc

done-held : seen.Done ≡ seen.Held → ⊥
done-held is = cc

claim-done-held : claimed.Done ≡ claimed.Held → ⊥
claim-done-held is = cc

claim-done-won : claimed.Done ≡ claimed.Won → ⊥
claim-done-won is = cc

pub untold-free : (b : Batch) (v : Knowledge) (i : ℕ) (found : Seen) → found ≡ seen.Free → (In i v.known → found ≡ seen.Done) → (IsSettled b v i → found ≡ seen.Done)
    → ¬ (IsKnownDone b v i)
untold-free b v i found is known settled told =
    ⊎_elim (λ has. done-free (sym (known has) ∙ is)) (λ has. done-free (sym (settled has) ∙ is)) told

pub untold-held : (b : Batch) (v : Knowledge) (i : ℕ) (found : Seen) → found ≡ seen.Held → (In i v.known → found ≡ seen.Done) → (IsSettled b v i → found ≡ seen.Done)
    → ¬ (IsKnownDone b v i)
untold-held b v i found is known settled told =
    ⊎_elim (λ has. done-held (sym (known has) ∙ is)) (λ has. done-held (sym (settled has) ∙ is)) told

pub untold-claimed : (b : Batch) (v : Knowledge) (i : ℕ) (found : Claimed) → found ≡ claimed.Held → (In i v.known → found ≡ claimed.Done)
    → (IsSettled b v i → found ≡ claimed.Done) → ¬ (IsKnownDone b v i)
untold-claimed b v i found is known settled told =
    ⊎_elim (λ has. claim-done-held (sym (known has) ∙ is)) (λ has. claim-done-held (sym (settled has) ∙ is)) told

pub untold-won : (b : Batch) (v : Knowledge) (i : ℕ) (found : Claimed) → found ≡ claimed.Won → (In i v.known → found ≡ claimed.Done)
    → (IsSettled b v i → found ≡ claimed.Done) → ¬ (IsKnownDone b v i)
untold-won b v i found is known settled told =
    ⊎_elim (λ has. claim-done-won (sym (known has) ∙ is)) (λ has. claim-done-won (sym (settled has) ∙ is)) told

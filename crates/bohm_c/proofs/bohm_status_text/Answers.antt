use Rattle.std.proofs.Common.{◌≡◌, ℕ, List, ◌++◌, w32, subst, ◌∙◌, ap, take, drop, length}
use Rattle.std.proofs.lemmas.Int.{to_z-of_z}
use Rattle.bohm_c.specs.Statuses.{status_text}
use Rattle.bohm_c.proofs.Fronts.{written_over}
use Rattle.bohm_c.proofs.bohm_status_text.Goals as goal

pub returns-clause-text : goal.returns-clause-text
returns-clause-text c =
    let out : List ℕ = c.args.out.now in
    let bytes : List ℕ = c.as_bytes-text.result.now in
    subst (λ (text : List ℕ). c.copy_from_slice.new.self ++ drop c.min-count.result out ≡ take (length out) text ++ drop (length text) out)
    (c.as_bytes-text.ensures.value ∙ (c.text_of.ensures ∙ ap status_text (to_z-of_z w32 c.args.status c.ranges.status)))
    (ap (λ (front : List ℕ). front ++ drop c.min-count.result out) c.copy_from_slice.ensures.after
    ∙ (ap (λ (n : ℕ). take n bytes ++ drop n out) c.min-count.ensures ∙ written_over bytes out))

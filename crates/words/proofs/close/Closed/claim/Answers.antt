use Rattle.std.proofs.Common.{◌≡◌, ◌<◌, ℕ, ap, sym, ◌∙◌, subst, length, get_or}
use Rattle.std.proofs.lemmas.Grind.{get_or_default_zero}
use Rattle.std.specs.Mem.Slots.{slots_items}
use Rattle.words.specs.Closing.{ClosedLayout, claim_in}
use Rattle.words.proofs.Members.{read_at}
use Rattle.words.proofs.close.Closed.claim.Goals as goal

pub returns : goal.returns
returns c =
    let begins = c.self.inside.begins.items in
    let words = slots_items c.self.inside.stood.words in
    let within : c.args.index < length begins = subst (λ (s : ClosedLayout). c.args.index < length s.begins) (sym c.self.view_is) c.requires.begins in
    let at = c.index.ensures ∙ get_or_default_zero begins c.args.index c.index.result.now within in
    subst (λ (s : ClosedLayout). c.word.result ≡ claim_in s c.args.index) c.self.view_is
    (read_at words c.index.result.now c.word.result c.word.ensures ∙ ap (λ (n : ℕ). get_or words n 0) at)

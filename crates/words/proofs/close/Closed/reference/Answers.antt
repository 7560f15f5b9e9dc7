use Rattle.std.proofs.Common.{◌≡◌, ◌+◌, ◌<◌, ℕ, ap, sym, ◌∙◌, subst, length, get_or}
use Rattle.std.proofs.lemmas.Grind.{get_or_default_zero}
use Rattle.std.specs.Mem.Slots.{slots_items}
use Rattle.words.specs.Layout.{optional_word}
use Rattle.words.specs.Closing.{ClosedLayout, reference_in}
use Rattle.words.proofs.Members.{read_at}
use Rattle.words.proofs.close.Closed.reference.Goals as goal

pub returns : goal.returns
returns c =
    let begins = c.self.inside.references.items in
    let words = slots_items c.self.inside.stood.words in
    let within : c.args.index < length begins = subst (λ (s : ClosedLayout). c.args.index < length s.references) (sym c.self.view_is) c.requires.begins in
    let at = c.index.ensures ∙ get_or_default_zero begins c.args.index c.index.result.now within in
    subst (λ (s : ClosedLayout). optional_word c.index_in.result ≡ reference_in s c.args.index c.args.number) c.self.view_is
    (c.index_in.ensures ∙ read_at words (c.index.result.now + c.args.number) c.word-word.result c.word-word.ensures ∙ ap (λ (n : ℕ). get_or words (n + c.args.number) 0) at)

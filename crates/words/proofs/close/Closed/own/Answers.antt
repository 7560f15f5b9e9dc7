use Rattle.std.proofs.Common.{◌≡◌, ◌+◌, ◌<◌, ℕ, suc, ap, sym, ◌∙◌, subst, length, get_or, arith}
use Rattle.std.proofs.lemmas.Grind.{get_or_default_zero}
use Rattle.std.specs.Mem.Slots.{slots_items}
use Rattle.words.specs.Closing.{ClosedLayout, own_in}
use Rattle.words.proofs.Members.{read_at}
use Rattle.words.proofs.close.Closed.own.Goals as goal

pub returns : goal.returns
returns c =
    let begins = c.self.inside.begins.items in
    let words = slots_items c.self.inside.stood.words in
    let within : c.args.index < length begins = subst (λ (s : ClosedLayout). c.args.index < length s.begins) (sym c.self.view_is) c.requires.begins in
    let at = c.index.ensures ∙ get_or_default_zero begins c.args.index c.index.result.now within in
    let spot : c.index.result.now + 1 + c.args.number ≡ get_or begins c.args.index 0 + suc c.args.number = omega arith in
    subst (λ (s : ClosedLayout). c.word.result ≡ own_in s c.args.index c.args.number) c.self.view_is
    (read_at words (c.index.result.now + 1 + c.args.number) c.word.result c.word.ensures ∙ ap (λ (n : ℕ). get_or words n 0) spot)

use Rattle.std.proofs.Common.{sym, ap, ◌∙◌, subst}
use Rattle.words.specs.Passes.{PassState}
use Rattle.words.specs.Views.{In}
use Rattle.words.proofs.Cutting.{cuts}
use Rattle.words.proofs.table.BatchWords.cut_placer.Goals as goal

pub cut_placer_off-other-requires : goal.cut_placer_off-other-requires
cut_placer_off-other-requires g c =
    let key = c.args.self.now.key in
    let seat = c.pass.inside.seat in
    let sole = ap (λ (p : PassState). p.view.sole) c.pass.view_is ∙ c.requires.sole in
    let unplaced = ap (λ (p : PassState). p.view.placed) c.pass.view_is ∙ c.requires.open in
    let out = subst (λ (p : PassState). ¬ (In c.args.partition p.view.cut)) (sym c.pass.view_is) c.requires.uncut in
    record {
      same_table = ap (λ (p : PassState). p.table) c.pass.view_is ∙ c.requires.same_table;
      splits = cuts (g.K.BatchData.batch key) (g.K.BatchData.listed key) seat.id seat.me.0 c.args.partition c.pass.invariant.alive c.pass.invariant.pass c.requires.within sole unplaced out;
    }

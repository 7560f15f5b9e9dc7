use Rattle.std.proofs.Common.{◌≡◌, ◌∙◌, ap, arith, length, refl, sym, take}
use Rattle.std.proofs.lemmas.List.{drop-drop}
use Rattle.fed_run.specs.Stands.{unsent}
use Rattle.fed_run.proofs.Feeding.{gives_more}
use Rattle.fed_run.proofs.FedTexts.{keeps_same}
use Rattle.fed_run.proofs.fed.FedRun.give.Goals as goal

pub returns-clause-gives : goal.returns-clause-gives
returns-clause-gives c =
    let old = c.args.self.now in
    let count = c.min-count.result in
    let waits : c.rest-rest.result.now ≡ unsent old = c.rest-rest.ensures in
    let is : c.copy_from_slice.new.self ≡ take count (unsent old) = c.copy_from_slice.ensures.after ∙ ap (take count) waits in
    gives_more old _ c.args.out.now c.copy_from_slice.new.self c.args.made count c.requires (omega arith) (omega (arith, ap length waits)) is
    (sym (drop-drop count old.sent old.run.pending.items)) refl refl (keeps_same _ _ refl)

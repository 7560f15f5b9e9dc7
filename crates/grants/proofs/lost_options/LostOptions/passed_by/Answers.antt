use Rattle.std.proofs.Common.{◌∙◌, ap, sym, subst}
use Rattle.std.specs.Prelude.{unwrap_or}
use Rattle.std.specs.BTreeMap.{get}
use Rattle.grants.specs.Work.{ArePassed, kind_holder_cmp}
use Rattle.grants.specs.declared.lost_options.KindHolderKey.{KindHolderKey}
use Rattle.grants.proofs.Asking.{passed_start}
use Rattle.grants.proofs.lost_options.LostOptions.passed_by.Goals as goal

pub returns-in-None : goal.returns-in-None
returns-in-None c = λ revocation view ended passed.
    let lost = c.args.self.now in
    let holder = c.args.holder.now in
    let is = c.passed_other.ensures ∙ ap (λ (key : KindHolderKey). unwrap_or (get kind_holder_cmp lost.others key) 0) c.key-key.ensures in
    subst (ArePassed revocation view ended holder.user holder.kind) (sym is) (passed_start revocation view ended lost.others holder.user holder.kind passed.others)

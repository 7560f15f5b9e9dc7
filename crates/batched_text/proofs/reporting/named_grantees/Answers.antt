use Rattle.std.proofs.Common.{◌≡◌, ap, sym, ◌∙◌, subst}
use Rattle.std.specs.Prelude.{IfOk, Vec}
use Rattle.std.specs.declared.alloc.Global.{Global}
use Rattle.model_base.specs.RecordGrantees.{WereGranted}
use Rattle.model_base.specs.declared.deed.Grantee.{Grantee}
use Rattle.log_text.specs.declared.version.Version.{Version}
use Rattle.sequencer.specs.Catalog.{Names}
use Rattle.sequencer.specs.Log.{Accepted}
use Rattle.engine.specs.Engine.{finished}
use Rattle.report.specs.Text.{HaveGrantees}
use Rattle.batched_text.proofs.reporting.named_grantees.Goals as goal

pub returns-in-One : goal.returns-in-One
returns-in-One c =
    let log : Accepted = c.args.engine.now.log in
    let version : c.version.result ≡ log.names.version =
    c.version.ensures ∙ ap (λ (n : Names). n.version) (c.catalog.ensures ∙ ap (λ (l : Accepted). l.names) c.log.ensures.value) in
    λ were. subst (λ (v : Version). HaveGrantees v log.statements c.args.names.now c.new.result.items) (sym c.in-One.is ∙ version) tt

pub returns-in-Two : goal.returns-in-Two
returns-in-Two c =
    let log : Accepted = c.args.engine.now.log in
    let version : c.version.result ≡ log.names.version =
    c.version.ensures ∙ ap (λ (n : Names). n.version) (c.catalog.ensures ∙ ap (λ (l : Accepted). l.names) c.log.ensures.value) in
    subst (λ (v : Version). IfOk c.grantees_of.result (λ (grantees : Vec Grantee Global). WereGranted log.statements (finished c.args.engine.now) c.args.names.now
    → HaveGrantees v log.statements c.args.names.now grantees.items)) (sym c.in-Two.is ∙ version) c.grantees_of.ensures

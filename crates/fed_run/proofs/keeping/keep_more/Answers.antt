use Rattle.std.proofs.Common.{◌≡◌, ◌-◌, ◌∙◌, ap, arith, length, min, refl, take}
use Rattle.std.proofs.lemmas.List.{take_at}
use Rattle.fed_run.proofs.Lines.{keeps_more}
use Rattle.fed_run.proofs.keeping.keep_more.Goals as goal

pub returns-clause-ok : goal.returns-clause-ok
returns-clause-ok c = λ line is.
    let kept = c.args.kept.now.items in
    let at : c.min-count.result ≡ min (4097 - length kept) (length c.args.bytes.now) =
    omega (arith, c.min-count.ensures, c.saturating_sub-room.ensures, c.len.ensures, c.args.kept.now.ok.0) in
    c.in_ok-extend_from_slice.ensures.items ∙ keeps_more line c.args.bytes.now kept c.min-count.result is at

pub returns-clause-front : goal.returns-clause-front
returns-clause-front c =
    let kept = c.args.kept.now.items in
    ap (take (length kept)) c.in_ok-extend_from_slice.ensures.items ∙ take_at kept (take c.min-count.result c.args.bytes.now) (length kept) refl

use Rattle.std.proofs.Common.{◌≡◌, ◌<◌, ◌≤◌, ◌∙◌, ℕ, ap, arith, length, sym}
use Rattle.std.specs.Prelude.{unwrap_or}
use Rattle.sequencer.specs.Log.{Accepted}
use Rattle.audit_text.specs.Picture.{place_before}
use Rattle.audit_text.proofs.RowsRead.{known-before, known-ends}
use Rattle.audit_text.proofs.listing.run_before.Goals as goal

pub returns-then-len-place-clause-none : goal.returns-then-len-place-clause-none
returns-then-len-place-clause-none g c = λ places is.
    let log : Accepted = c.in_ok-engine.engine.log in
    let count : c.len-len.result ≡ length log.statements = c.len-len.ensures.count ∙ ap (λ (l : Accepted). length l.statements) c.log.ensures.value in
    let place : c.unwrap_or-place.result ≡ place_before log.statements c.args.limit =
    c.unwrap_or-place.ensures ∙ ap (λ (n : ℕ). unwrap_or c.args.limit n) count in
    let same : c.len-len.result ≡ places = cc in
    let all : places ≡ length log.statements = sym same ∙ count in
    let past : places < place_before log.statements c.args.limit = omega (arith, same, place, c.if-len-place.true) in
    known-ends (g.R.Read.remaining c.args.reader.now.inner) log c.args.limit places c.in_ok-engine.ensures.log all past

pub returns-clause-log : goal.returns-clause-log
returns-clause-log g c =
    let log : Accepted = c.in_ok-engine.engine.log in
    let count : c.len-len.result ≡ length log.statements = c.len-len.ensures.count ∙ ap (λ (l : Accepted). length l.statements) c.log.ensures.value in
    let place : c.unwrap_or-place.result ≡ place_before log.statements c.args.limit =
    c.unwrap_or-place.ensures ∙ ap (λ (n : ℕ). unwrap_or c.args.limit n) count in
    let within : place_before log.statements c.args.limit ≤ length log.statements = omega (arith, count, place, c.if-len-place.false) in
    known-before (g.R.Read.remaining c.args.reader.now.inner) log c.args.limit c.in_ok-engine.ensures.log within

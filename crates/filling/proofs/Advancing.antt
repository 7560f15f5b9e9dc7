-- What a placer's step says of its front.
use Rattle.std.proofs.Common.{◌≡◌, ◌++◌, ◌∷◌, [], ℕ, length, ap, arith}
use Rattle.std.specs.Prelude.{Option, None, Some, Result, Ok, Err}
use Rattle.std.specs.declared.alloc.AllocError.{AllocError}
use Rattle.std.proofs.lemmas.List.{length_push}
use Rattle.bohm_core_base.specs.declared.event.Event.TheVariants.{Place}
use Rattle.filling_base.specs.Advances.{Advances}
use Rattle.log_batch.specs.Supplied.{LogRange, batch_of}
use Rattle.words.specs.Passes.{PlacerState}
use Rattle.words.specs.Views.{front_in}
use Rattle.filling.specs.declared.placer.Placer.{Placer}
use Rattle.filling.specs.Placers.{AdvancedMeans, placer_front}

pub advances : (ranged : LogRange) (placer : Placer) (came : Result (Option ℕ) AllocError) (after : Placer)
    → AdvancedMeans ranged placer came after → Advances (batch_of ranged) (placer_front placer) came (placer_front after)
advances ranged placer (Ok (Some place)) after tells =
    let view = placer.token.view in
    let further : placer_front after ≡ length (view.placings ++ Place view.partition ∷ []) = ap (λ (token : PlacerState). front_in token.view) tells.2 in
    let more = length_push view.placings (Place view.partition) in
    (tells.0, tells.1, omega (arith, further, more))
advances ranged placer (Ok None) after tells = (tells.0, ap placer_front tells.1)
advances ranged placer (Err _) after tells = (tells.0, ap (λ (token : PlacerState). front_in token.view) tells.1)

use Rattle.words.proofs.Knowing.{held_from, known-front, settled-done}
use Rattle.std.proofs.Common.{List, length, ap, ◌∙◌}
use Rattle.bohm_core_base.specs.declared.event.Event.{Event}
use Rattle.words.proofs.Past.{front-is}
use Rattle.words.proofs.laws.views_tell_the_state.Goals as goal

pub returns : goal.returns
returns c = record {
  held = λ batch listed words views events number view law at index count ended alive holds.
      let tracks = held_from batch listed words views events number view law at alive index count ended holds in
      (tracks.0, tracks.1);
  known = λ batch listed words views events number view law at index known. (law.fits number view at).knows index known;
  settled = λ batch listed words views events number view law at index alive is.
      settled-done batch listed words views events number view law at alive index is;
  past = λ batch listed words views events number view law at partition index alive partition_below below knows.
      known-front batch listed words views events number view law at alive partition index partition_below below knows;
  placed_by = λ batch listed words views events number view law at places.
      front-is batch law.sound events view.partition law.works ∙ ap (λ (l : List Event). length l) ((law.fits number view at).places places).1;
}

use Rattle.words.specs.Views.{placer_view, with_cut}
use Rattle.words.proofs.table.BatchWords.cut_placer.Given as goal

abbrev pub ghosts-cut_placer_off : goal.ghosts-cut_placer_off
ghosts-cut_placer_off g a = record { left = λ v. with_cut v a._partition; right = λ _. placer_view a._partition }

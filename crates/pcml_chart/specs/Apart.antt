-- No two commits are drawn at one height.
use Rattle.std.specs.Prelude.{◌≡◌, ℕ, ◌<◌, List, ◌++◌, slice_get, Some}
use Rattle.protocol_values.specs.declared.Commit.{Commit}
use Rattle.pcml_chart.specs.Chart.{Picture, layout_of, picture_text}
use Rattle.pcml_chart.specs.Marks.{mark}

-- the picture has the mark of the one commit, and behind it the mark of the other at a greater height
pub record AreApart (p : Picture) (c d : Commit) : Type 0 where
  pub height : ℕ
  pub other : ℕ
  pub rises : height < other
  pub before : List ℕ
  pub between : List ℕ
  pub after : List ℕ
  pub is : picture_text p ≡ before ++ mark p.names p.stamps (layout_of p) p.commits height c ++ between ++ mark p.names p.stamps (layout_of p) p.commits other d ++ after

-- LAW, of two commits that are shown
abbrev pub MarksAreApart : Type 0
MarksAreApart = (p : Picture) (j k : ℕ) (c d : Commit) → j < k → slice_get p.commits j ≡ Some c → slice_get p.commits k ≡ Some d → AreApart p c d

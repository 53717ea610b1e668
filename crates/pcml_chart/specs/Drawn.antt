-- The picture that the code holds in parts.
use Rattle.journal_text.specs.Names.{Naming}
use Rattle.journal_replay.specs.Replays.{ended_by, fired_by}
use Rattle.journal_replay.specs.declared.state.State.{State}
use Rattle.pcml_chart.specs.Chart.{Picture}
use Rattle.pcml_chart.specs.Marks.{Stamps}
use Rattle.pcml_chart.specs.declared.chart.Drawing.{Drawing}

-- the stamps that a state has
abbrev pub stamps_of : State → Stamps
stamps_of s = record { fired = fired_by s; ended = ended_by s }

abbrev pub picture_of : Naming → Stamps → Drawing → Picture
picture_of names stamps d = record { names = names; own = d.own.now; feet = d.feet.now; stamps = stamps; commits = d.commits.now; total = d.total; from = d.from; is_cut = d.is_cut }

-- The threads of a commit have started, and its stamp is above what counts for their starts.
use Rattle.std.proofs.Common.{take, arith, inr}
use Rattle.journal_replay.specs.Runs.{config_of}
use Rattle.journal_replay.proofs.Standing.{counts, starts-are}
use Rattle.journal_order.specs.Laws.{AboveStarts, EachStarted}

pub each-started : EachStarted
each-started ps rows journal run i c t at has = starts-are ps rows (config_of (take i journal)) c (run i c at).legal t has

pub above-starts : AboveStarts
above-starts ps rows journal run i c d t at has earlier start =
    let f = run i c at in
    omega (arith, f.is.above d earlier (counts ps (config_of (take i journal)) c d t has (inr start)), f.stamp)

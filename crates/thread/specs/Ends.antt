-- How a process stands, in words.
use Rattle.std.specs.Prelude.{ℕ, List, codes, Bool, true, false}
use Rattle.thread.specs.declared.Fault.TheVariants.{Unset, Kind, Range, Shape}
use Rattle.thread.specs.declared.end.End.{End}
use Rattle.thread.specs.declared.end.End.TheVariants.{Ended, Waiting, Spent, Faulted, Unstarted}

abbrev pub is_ended : End → Bool
is_ended Ended = true
is_ended end = false

abbrev pub is_waiting : End → Bool
is_waiting Waiting = true
is_waiting end = false

abbrev pub is_spent : End → Bool
is_spent Spent = true
is_spent end = false

abbrev pub end_text : End → List ℕ
end_text Ended = codes "ended"
end_text Waiting = codes "waiting"
end_text Spent = codes "spent"
end_text (Faulted Unset) = codes "faulted unset"
end_text (Faulted Kind) = codes "faulted kind"
end_text (Faulted Range) = codes "faulted range"
end_text (Faulted Shape) = codes "faulted shape"
end_text Unstarted = codes "unstarted"

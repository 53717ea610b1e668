-- The rule that what a script's processes do keeps: each atom has a text in the script's names.
use Rattle.std.proofs.Common.{ℕ, ◌<◌, ◌≤◌, length, arith}
use Rattle.std.specs.Prelude.{⊤}
use Rattle.thread.proofs.Keeping.{Rule}
use Rattle.journal_text.specs.Names.{Declared}
use Rattle.journal_text.specs.Journals.{HasAtom}

-- one of the threads that are declared
abbrev pub IsThread : Declared → ℕ → Type 0
IsThread d t = t < length d.threads

-- as this thread, one of those that are declared; a sync has at most eight base events
abbrev pub in_text : (d : Declared) (t : ℕ) → t < length d.threads → Rule
in_text d t below = record {
  thread = t;
  Good = HasAtom d;
  Taken = λ k. ⊤;
  Scoped = λ k. ⊤;
  Small = λ n. n ≤ 8;
  Literal = λ n. n ≤ 4294967295;
  Named = λ c. c < length d.channels;
  Spawned = λ p. ⊤;
  Joined = IsThread d;
  Into = λ c. c < length d.channels;
  From = λ c. c < length d.channels;
  literal = λ n h. h;
  total = λ n h. omega (arith, h);
  less = λ m n h. omega (arith, h);
  channel = λ c h. h;
  into = λ c h. h;
  from = λ c h. h;
  nack = λ k few h. ((below, omega (arith, few)), tt, tt);
}

-- What a finding says of all runs, where something is sought in them.
use Rattle.std.proofs.Common.{◌≡◌, ℕ, zero, suc, Bool, true, false, List, [], ◌∷◌, Option, Some, None, length, map, refl, sym, ap, ◌∙◌, subst, arith}
use Rattle.std.specs.Prelude.{Contains}
use Rattle.std.specs.Global.{Vec}
use Rattle.protocol_values.specs.declared.Commit.{Commit}
use Rattle.script.specs.Sources.{Script}
use Rattle.journal_text.specs.Journals.{Spells}
use Rattle.reachable.specs.declared.faults.Faults.{Faults}
use Rattle.reachable.specs.declared.faults.Faults.TheVariants as faults
use Rattle.reachable.specs.Faults.{IsFaultBehind, NobodyFaults}
use Rattle.reachable.specs.Left.{EachCanEnd, IsLeftBehind}
use Rattle.reachable.specs.declared.faults.FirstFault.{FirstFault}
use Rattle.reachable.specs.declared.left.LeftBehind.{LeftBehind}
use Rattle.reachable.specs.declared.left.Left.{Left}
use Rattle.reachable.specs.declared.left.Left.TheVariants as lefts
use Rattle.reachable.specs.declared.printed.Printed.{Printed}
use Rattle.reachable.specs.declared.printed.Printed.TheVariants as prints
use Rattle.reachable.specs.Printed.{IsPrintedBehind, NeverPrints}
use Rattle.pcml_answers.specs.declared.prints.Print.{Print}
use Rattle.pcml_outcomes.specs.Faults.{fault_finding, fault_run}
use Rattle.pcml_outcomes.specs.Left.{left_finding, left_run}
use Rattle.pcml_outcomes.specs.Printed.{TellEach, TellsPrinted, first_of, graver, gravest, printed_finding, printed_run}
use Rattle.pcml_outcomes.specs.Seeking.{ClearAllCanEnd, ClearNeverFaults, ClearNeverPrints, Keeps, StuckHasFaulted, StuckHasPrinted, StuckIsLeftBehind}
use Rattle.pcml_outcomes.specs.Told.{SpellsKept, bytes_of}
use Rattle.pcml_outcomes.specs.declared.finding.Finding.{Finding}
use Rattle.pcml_outcomes.specs.declared.finding.Finding.TheVariants.{Clear, Open, Stranded, Stuck}
use Rattle.pcml_outcomes.specs.declared.sought.SoughtText.{SoughtText}

-- a run that is kept has a text, and it spells it
kept-text : (s : Script) (run : List Commit) (bytes : Option (List ℕ)) → SpellsKept s (Some run) bytes → (lines : List ℕ) × (bytes ≡ Some lines) × Spells s lines run
kept-text s run (Some lines) kept = (lines, refl, kept)
kept-text s run None kept = absurd kept

kept-none : (s : Script) (bytes : Option (List ℕ)) → SpellsKept s None bytes → bytes ≡ None
kept-none s None kept = refl
kept-none s (Some lines) kept = absurd kept

-- WHO IS LEFT BEHIND, AND WHO FAULTS

pub clear_all_can_end : ClearAllCanEnd
clear_all_can_end s limit marks t tells clear = by_left tells.found.left refl
  where
    by_left : (left : Left) → tells.found.left ≡ left → EachCanEnd s.processes marks
    by_left lefts.Nobody is = tells.are.nobody is
    by_left (lefts.Behind left) is = (let clash : Clear ≡ Stuck = sym clear ∙ tells.so ∙ ap left_finding is in absurd cc)
    by_left lefts.Unknown is = (let clash : Clear ≡ Open = sym clear ∙ tells.so ∙ ap left_finding is in absurd cc)

pub stuck_is_left_behind : StuckIsLeftBehind
stuck_is_left_behind s limit marks t tells stuck = by_left tells.found.left refl
  where
    by_left : (left : Left) → tells.found.left ≡ left → (l : LeftBehind) × IsLeftBehind s.processes marks l × Keeps s t l.journal.items
    by_left (lefts.Behind left) is = (left, tells.are.behind left is, kept-text s left.journal.items (bytes_of t.journal) (subst (λ (l : Left). SpellsKept s (left_run l) (bytes_of t.journal)) is tells.kept))
    by_left lefts.Nobody is = (let clash : Stuck ≡ Clear = sym stuck ∙ tells.so ∙ ap left_finding is in absurd cc)
    by_left lefts.Unknown is = (let clash : Stuck ≡ Open = sym stuck ∙ tells.so ∙ ap left_finding is in absurd cc)

pub clear_never_faults : ClearNeverFaults
clear_never_faults s limit t tells clear = by_faults tells.found.faults refl
  where
    by_faults : (found : Faults) → tells.found.faults ≡ found → NobodyFaults s.processes
    by_faults faults.Nobody is = tells.are.nobody is
    by_faults (faults.First fault) is = (let clash : Clear ≡ Stuck = sym clear ∙ tells.so ∙ ap fault_finding is in absurd cc)
    by_faults faults.Unknown is = (let clash : Clear ≡ Open = sym clear ∙ tells.so ∙ ap fault_finding is in absurd cc)

pub stuck_has_faulted : StuckHasFaulted
stuck_has_faulted s limit t tells stuck = by_faults tells.found.faults refl
  where
    by_faults : (found : Faults) → tells.found.faults ≡ found → (f : FirstFault) × IsFaultBehind s.processes f × Keeps s t f.journal.items
    by_faults (faults.First fault) is = (fault, tells.are.told fault is, kept-text s fault.journal.items (bytes_of t.journal) (subst (λ (f : Faults). SpellsKept s (fault_run f) (bytes_of t.journal)) is tells.kept))
    by_faults faults.Nobody is = (let clash : Stuck ≡ Clear = sym stuck ∙ tells.so ∙ ap fault_finding is in absurd cc)
    by_faults faults.Unknown is = (let clash : Stuck ≡ Open = sym stuck ∙ tells.so ∙ ap fault_finding is in absurd cc)

-- VALUES, each in turn

graver-is-clear : (f g : Finding) → graver f g ≡ Clear → (f ≡ Clear) × (g ≡ Clear)
graver-is-clear Clear g is = (refl, is)
graver-is-clear Open Clear is = absurd cc
graver-is-clear Open Open is = absurd cc
graver-is-clear Open Stranded is = absurd cc
graver-is-clear Open Stuck is = absurd cc
graver-is-clear Stranded g is = absurd cc
graver-is-clear Stuck g is = absurd cc

never-one : (s : Script) (limit : ℕ) (print : Print) (t : SoughtText) → TellsPrinted s limit print t → t.finding ≡ Clear → NeverPrints s.processes print.process print.value
never-one s limit print t tells clear = by_printed tells.found.printed refl
  where
    by_printed : (printed : Printed) → tells.found.printed ≡ printed → NeverPrints s.processes print.process print.value
    by_printed prints.Never is = tells.are.never is
    by_printed (prints.Behind journal) is = (let clash : Clear ≡ Stuck = sym clear ∙ tells.so ∙ ap printed_finding is in absurd cc)
    by_printed prints.Unknown is = (let clash : Clear ≡ Open = sym clear ∙ tells.so ∙ ap printed_finding is in absurd cc)

never-each : (s : Script) (limit : ℕ) (all : List Print) (parts : List SoughtText) → TellEach s limit all parts → gravest (map (λ part. part.finding) parts) ≡ Clear →
    (print : Print) → Contains all print → NeverPrints s.processes print.process print.value
never-each s limit [] parts each clear print among = absurd (omega (arith, among.1))
never-each s limit (first ∷ all) [] each clear print among = absurd each
never-each s limit (first ∷ all) (part ∷ parts) each clear print (zero, low, is) =
    subst (λ (p : Print). NeverPrints s.processes p.process p.value) is (never-one s limit first part each.0 (graver-is-clear part.finding _ clear).0)
never-each s limit (first ∷ all) (part ∷ parts) each clear print (suc k, low, is) =
    never-each s limit all parts each.1 (graver-is-clear part.finding _ clear).1 print (k, omega (arith, low), is)

pub clear_never_prints : ClearNeverPrints
clear_never_prints s limit all t tells clear = never-each s limit all tells.parts tells.each (sym tells.so ∙ clear)

-- one of them is printed, and the first journal that there is leads there
record FoundAmong (s : Script) (all : List Print) (parts : List SoughtText) : Type 0 where
  print : Print
  among : Contains all print
  journal : List Commit
  behind : IsPrintedBehind s.processes print.process print.value journal
  lines : List ℕ
  first : first_of (map (λ part. bytes_of part.journal) parts) ≡ Some lines
  spells : Spells s lines journal

later : (s : Script) (first : Print) (all : List Print) (part : SoughtText) (parts : List SoughtText) → bytes_of part.journal ≡ None → FoundAmong s all parts → FoundAmong s (first ∷ all) (part ∷ parts)
later s first all part parts none found = record {
  print = found.print;
  among = (suc found.among.0, omega (arith, found.among.1), found.among.2);
  journal = found.journal;
  behind = found.behind;
  lines = found.lines;
  first = ap (λ (kept : Option (List ℕ)). first_of (kept ∷ map (λ part. bytes_of part.journal) parts)) none ∙ found.first;
  spells = found.spells;
}

graver-is-stuck : (g : Finding) → graver Open g ≡ Stuck → g ≡ Stuck
graver-is-stuck Clear is = absurd cc
graver-is-stuck Open is = absurd cc
graver-is-stuck Stranded is = absurd cc
graver-is-stuck Stuck is = refl

found-among : (s : Script) (limit : ℕ) (all : List Print) (parts : List SoughtText) → TellEach s limit all parts → gravest (map (λ part. part.finding) parts) ≡ Stuck → FoundAmong s all parts
found-among s limit [] [] each stuck = absurd cc
found-among s limit [] (part ∷ parts) each stuck = absurd each
found-among s limit (first ∷ all) [] each stuck = absurd each
found-among s limit (first ∷ all) (part ∷ parts) each stuck = by_printed (found-among s limit all parts each.1) each.0.found.printed refl
  where
    rest : Finding
    rest = gravest (map (λ part. part.finding) parts)

    its : (printed : Printed) → each.0.found.printed ≡ printed → part.finding ≡ printed_finding printed
    its printed is = each.0.so ∙ ap printed_finding is

    keeps : (printed : Printed) → each.0.found.printed ≡ printed → SpellsKept s (printed_run printed) (bytes_of part.journal)
    keeps printed is = subst (λ (p : Printed). SpellsKept s (printed_run p) (bytes_of part.journal)) is each.0.kept

    by_printed : (rest ≡ Stuck → FoundAmong s all parts) → (printed : Printed) → each.0.found.printed ≡ printed → FoundAmong s (first ∷ all) (part ∷ parts)
    by_printed again (prints.Behind journal) is =
        let text = kept-text s journal.items (bytes_of part.journal) (keeps (prints.Behind journal) is) in record {
          print = first;
          among = (0, omega arith, refl);
          journal = journal.items;
          behind = each.0.are.told journal is;
          lines = text.0;
          first = ap (λ (kept : Option (List ℕ)). first_of (kept ∷ map (λ part. bytes_of part.journal) parts)) text.1;
          spells = text.2;
        }
    by_printed again prints.Never is =
        let so : rest ≡ Stuck = sym (ap (λ (f : Finding). graver f rest) (its prints.Never is)) ∙ stuck in
        later s first all part parts (kept-none s (bytes_of part.journal) (keeps prints.Never is)) (again so)
    by_printed again prints.Unknown is =
        let so : rest ≡ Stuck = graver-is-stuck rest (sym (ap (λ (f : Finding). graver f rest) (its prints.Unknown is)) ∙ stuck) in
        later s first all part parts (kept-none s (bytes_of part.journal) (keeps prints.Unknown is)) (again so)

pub stuck_has_printed : StuckHasPrinted
stuck_has_printed s limit all t tells stuck =
    let found = found-among s limit all tells.parts tells.each (sym tells.so ∙ stuck) in
    record { print = found.print; among = found.among; journal = found.journal; behind = found.behind; kept = (found.lines, tells.kept ∙ found.first, found.spells) }

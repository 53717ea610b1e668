-- What the text of a run says, from what the run says of its record.
use Rattle.std.proofs.Common.{◌⊎◌, ◌*◌, ℕ, ◌≤◌, List, Some, ap, sym, ◌∙◌, arith, inl, inr, ⊎_elim}
use Rattle.std.proofs.Math.Nat.{mul-le-mul_right}
use Rattle.std.proofs.lemmas.Bool.{cases_lt}
use Rattle.protocol_values.specs.declared.Commit.{Commit}
use Rattle.journal_ledger.specs.Ledgers.{IsLedgerOf}
use Rattle.journal.specs.Records.{Completes, CompletesRun}
use Rattle.journal.specs.declared.record.Record.{Record}
use Rattle.protocol_ledger.specs.Ledgers.{IsLawful, Ledger}
use Rattle.script.specs.Sources.{Script}
use Rattle.script.specs.Spelling.{IsSpelled}
use Rattle.runtime_run.specs.Headline.{TellsFreeRun, TellsMaximalRun}
use Rattle.runtime.specs.Played.{ArePlayedWithin}
use Rattle.runtime_run.specs.Limits.{AreRows, AreSeasons, AreWorkers}
use Rattle.journal_text.proofs.Lining.{printed_has_names, run_is_read_again}
use Rattle.pcml_tool.specs.Run.{AreEnds, TellsFreelyOf, TellsRecord, TellsRunOf}

are_ends : (s : Script) (r : Record) (lines rest : List ℕ) (told : TellsRecord s r lines rest) → AreEnds told.standing r.ends.items
are_ends s r lines rest told = record { count = sym told.are.count; each = λ t p is. (told.are.each t p is).1 }

pub tells_run : (s : Script) (rows : ℕ) (r : Record) (lines rest : List ℕ) → IsSpelled s → rows ≤ 67107840 → TellsMaximalRun s.processes rows r → (l : Ledger) × IsLawful l × IsLedgerOf s.processes l × (l.rows ≤ rows) × Completes s.processes rows l r → TellsRecord s r lines rest → TellsRunOf s rows r.journal.items r.ends.items lines rest
tells_run s rows r lines rest spelled few run (l, lawful, of, within, completes) told =
    record {
      run = run.journal;
      spells = (run_is_read_again s spelled rows few r.journal.items run.journal.run).0;
      standing = told.standing;
      stand = record {
        count = told.are.count ∙ run.ends.ends_count;
        each = λ t p is. let are = told.are.each t p is in (are.0, run.ends.each t p.end p.printed are.1 are.2);
      };
      ended = are_ends s r lines rest told;
      nameable = λ t p is.
          let are = told.are.each t p is in
          printed_has_names s spelled rows few r.journal.items run.journal.run t p.end p.printed (run.ends.each t p.end p.printed are.1 are.2);
      tail = r.tail;
      few = run.tail;
      ledger = l;
      lawful = lawful;
      of = of;
      added = completes.added;
      whole = completes.whole;
      counted = completes.tail_is;
      are = told.are_lines;
      is = told.is;
    }

pub tells_freely : (s : Script) (rows seasons : ℕ) (r : Record) (lines rest : List ℕ) → IsSpelled s → seasons * rows ≤ 67107840 → TellsFreeRun s.processes r → (given : List Commit) × CompletesRun s.processes (seasons * rows) given r × ArePlayedWithin s.processes rows seasons given → TellsRecord s r lines rest → TellsFreelyOf s rows seasons r.journal.items r.ends.items lines rest
tells_freely s rows seasons r lines rest spelled few run (given, completes, played) told =
    record {
      run = run.journal;
      spells = (run_is_read_again s spelled (seasons * rows) few r.journal.items completes.run).0;
      standing = told.standing;
      stand = λ more enough.
          let ends = run.ends more enough in
          record {
            count = told.are.count ∙ ends.ends_count;
            each = λ t p is. let are = told.are.each t p is in (are.0, ends.each t p.end p.printed are.1 are.2);
          };
      never_spent = λ t p is spent. let are = told.are.each t p is in run.never_spent t (are.1 ∙ ap Some spent);
      ended = are_ends s r lines rest told;
      nameable = λ t p is.
          let are = told.are.each t p is in
          printed_has_names s spelled (seasons * rows) few r.journal.items completes.run t p.end p.printed (completes.ends_are.each t p.end p.printed are.1 are.2);
      tail = r.tail;
      few = run.tail;
      in_rows = completes.run;
      given = given;
      played = played;
      added = completes.added;
      whole = completes.whole;
      counted = completes.tail_is;
      are = told.are_lines;
      is = told.is;
    }

-- all rows of so many seasons
pub season_rows_are_few : (workers rows seasons : ℕ) → AreWorkers workers → AreRows rows → AreSeasons seasons → seasons * rows ≤ 67107840
season_rows_are_few workers rows seasons w r s =
    let most : seasons * rows ≤ 65535 * rows = mul-le-mul_right rows s.1 in
    let low = r.1 in
    omega (arith, most, low)

-- a number is within two others, or not
within_or_not : (low high n : ℕ) → ((low ≤ n) × (n ≤ high)) ⊎ ((low ≤ n) × (n ≤ high) → ⊥)
within_or_not low high n = ⊎_elim
    (λ lt. inr (λ h. omega (arith, lt, h.0)))
    (λ ge. ⊎_elim (λ gt. inr (λ h. omega (arith, gt, h.1))) (λ le. inl (omega (arith, ge), omega (arith, le))) (cases_lt high n))
    (cases_lt n low)

-- where neither fault of the numbers is told, there are so many rows
-- where no fault of the numbers is told, they are in their ranges
pub in_ranges : (workers rows seasons : ℕ) (W R S : Type 0) → ((AreWorkers workers → ⊥) → W) → (AreWorkers workers × (AreRows rows → ⊥) → R) → (AreWorkers workers × AreRows rows × (AreSeasons seasons → ⊥) → S) → (W → ⊥) → (R → ⊥) → (S → ⊥)
    → seasons * rows ≤ 67107840
in_ranges workers rows seasons W R S first second third no_first no_second no_third = ⊎_elim
    (λ are. ⊎_elim
    (λ many. ⊎_elim (λ h. season_rows_are_few workers rows seasons are many h) (λ none. absurd (no_third (third (are, many, none)))) (within_or_not 1 65535 seasons))
    (λ none. absurd (no_second (second (are, none))))
    (within_or_not 1 1024 rows))
    (λ none. absurd (no_first (first none)))
    (within_or_not 1 16 workers)

pub rows_are_few : (workers rows : ℕ) (W R : Type 0) → ((AreWorkers workers → ⊥) → W) → (AreWorkers workers × (AreRows rows → ⊥) → R) → (W → ⊥) → (R → ⊥) → rows ≤ 67107840
rows_are_few workers rows W R first second no_first no_second = ⊎_elim
    (λ are. ⊎_elim (λ h. omega (arith, h.1)) (λ none. absurd (no_second (second (are, none)))) (within_or_not 1 1024 rows))
    (λ none. absurd (no_first (first none)))
    (within_or_not 1 16 workers)

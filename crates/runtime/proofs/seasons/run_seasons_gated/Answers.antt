use Rattle.std.proofs.Common.{◌≡◌, ◌*◌, ℕ, Err, IfErr, List, [], Result, arith, inr, subst}
use Rattle.script_tree.specs.Processes.{Proc}
use Rattle.std.proofs.lemmas.Result.{IfOk-weaker, err_from_is_err_and}
use Rattle.protocol_values.specs.declared.Commit.{Commit}
use Rattle.script.specs.Scripts.{script_of}
use Rattle.journal.specs.Records.{CompletesRun}
use Rattle.journal.specs.declared.record.Record.{Record}
use Rattle.runtime.specs.Played.{ArePlayedWithin, NeedsSeasons, NoSeason}
use Rattle.runtime.specs.Seasons.{RefusesCommits}
use Rattle.runtime.specs.declared.seasons.SeasonFault.{SeasonFault}
use Rattle.runtime.specs.declared.seasons.SeasonFault.TheVariants.{Seasons}
use Rattle.runtime.proofs.seasons.run_seasons_gated.Goals as goal

-- where their record is refused for want of rows, the seasons are too few
refused : (ps : List Proc) (rows seasons all : ℕ) (commits : List Commit) (result : Result Record SeasonFault) → all ≡ seasons * rows → ArePlayedWithin ps rows seasons commits → IfErr result (RefusesCommits ps all commits) → result ≡ Err Seasons → NeedsSeasons ps rows seasons
refused ps rows seasons all commits result same played refuses is =
    let told : RefusesCommits ps all commits Seasons = subst (λ (r : Result Record SeasonFault). IfErr r (RefusesCommits ps all commits)) is refuses in
    inr (record { commits = commits; played = played; end = told.0; completes = subst (λ (n : ℕ). CompletesRun ps n commits told.0) same told.1; spent = told.2 })

pub returns-in_err-check_limits-clause-never : goal.returns-in_err-check_limits-clause-never
returns-in_err-check_limits-clause-never g c =
    let p = err_from_is_err_and c.from_residual.result c.from_residual.ensures.1 in
    rw (p.1, p.2) c.in_err-check_limits.ensures.never

-- without processes no season is played
pub returns-then-is_empty-clause-completes : goal.returns-then-is_empty-clause-completes
returns-then-is_empty-clause-completes g c =
    let ps = (script_of c.args.script.now).processes in
    let rows : c.args.seasons * c.from.result ≡ c.args.seasons * c.args.rows = cc in
    IfOk-weaker c.concluded.result _ _
    (λ r completes. (
      [],
      subst (λ (z : ℕ × List Commit). CompletesRun ps z.0 z.1 r) (λ i. (rows i, c.new.ensures.items i)) completes,
      record { each = c.args.rows; count = 0; narrow = omega arith; few = omega arith; played = NoSeason },
    )) c.concluded.ensures.completes

pub returns-in_err-check_limits-clause-needed : goal.returns-in_err-check_limits-clause-needed
returns-in_err-check_limits-clause-needed g c is =
    let p = err_from_is_err_and c.from_residual.result c.from_residual.ensures.1 in
    absurd (c.in_err-check_limits.ensures.needed (cc (p.1, p.2, is)))

pub returns-in-Ok-Some-clause-needed : goal.returns-in-Ok-Some-clause-needed
returns-in-Ok-Some-clause-needed g c is =
    let rows : c.args.seasons * c.from.result ≡ c.args.seasons * c.args.rows = cc in
    let ended = rw c.in-Ok-Some.field-0-is at c.in-Ok-Some.ensures.ends in
    refused (script_of c.args.script.now).processes c.args.rows c.args.seasons _ c.in-Ok-Some.commits.items c.concluded-in-Ok-Some.result rows ended.1 c.concluded-in-Ok-Some.ensures.refuses is

pub returns-then-is_empty-clause-trees : goal.returns-then-is_empty-clause-trees
returns-then-is_empty-clause-trees g c = IfOk-weaker c.concluded.result _ _ (λ r same. same tt) c.concluded.ensures.trees

pub returns-in-Ok-Some-clause-trees : goal.returns-in-Ok-Some-clause-trees
returns-in-Ok-Some-clause-trees g c =
    let runs = rw c.in-Ok-Some.field-0-is at c.in-Ok-Some.ensures.trees in
    IfOk-weaker c.concluded-in-Ok-Some.result _ _ (λ r same. same runs) c.concluded-in-Ok-Some.ensures.trees

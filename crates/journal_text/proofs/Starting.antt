-- Which processes have started.
use Rattle.std.proofs.Common.{◌≡◌, ◌⊎◌, ℕ, ◌≤◌, Bool, true, false, List, [], ◌∷◌, length, take, Option, Some, None, sym, subst, arith, inl, inr, ⊎_elim}
use Rattle.std.proofs.lemmas.List.{length-take-le, take-take}
use Rattle.std.specs.Prelude.{⊤, nat_lt, if◌then◌else◌}
use Rattle.script_tree.specs.Processes.{Proc}
use Rattle.thread.specs.After.{Chosen, State, Outcome, Goes, Offers, Finishes, Fails, Strays, after}
use Rattle.journal_replay.specs.Starting.{HasSpawned, SpawnsAt, Starts, AtOnce, Spawned}
use Rattle.journal_replay.proofs.Starting.{first-spawned}
use Rattle.journal_order.proofs.Spawners.{no_spawner, none_spawns, spawner_is, text_spawns}
use Rattle.protocol_values.specs.declared.Atom.{Atom}
use Rattle.journal_replay.specs.Runs.{end_of}
use Rattle.thread.specs.declared.end.End.{End}
use Rattle.thread.specs.declared.end.End.TheVariants as ends
use Rattle.journal_text.specs.Starts.{NoTextSpawns, IsSpawned, StartsWhereSpawned, TextSpawns, UnstartedIsNotStarted}

-- THE LAW

-- what is spawned by first results is first spawned by some of them
first_within : (ps : List Proc) (s : ℕ) (rs : List Chosen) (t n : ℕ) → n ≤ length rs → HasSpawned ps s (take n rs) t → (m : ℕ) × SpawnsAt ps s rs t m
first_within ps s rs t n within has =
    let w = first-spawned ps s (take n rs) t has in
    let size : length (take n rs) ≡ n = length-take-le n rs within in
    let low : w.0 ≤ n = omega (arith, w.1.within, size) in (
      w.0,
      record {
        within = omega (arith, low, within);
        there = subst (λ (xs : List Chosen). HasSpawned ps s xs t) (take-take w.0 n rs low) w.1.there;
        first = λ m below h. w.1.first m below (subst (λ (xs : List Chosen). HasSpawned ps s xs t) (sym (take-take m n rs (omega (arith, below, low)))) h);
      },
    )

pub its_text_spawns : TextSpawns
its_text_spawns s is by results t has =
    let p = has.process in
    spawner_is s.processes is.once by t p has.is_its (text_spawns s.processes by p results t has.is_its has)

pub starts_where_spawned : StartsWhereSpawned
starts_where_spawned s is config t = (told, starts)
  where
    told : Starts s.processes config t → NoTextSpawns s.processes t ⊎ IsSpawned s.processes config t
    told (AtOnce none) = inl (none_spawns t 0 s.processes none)
    told (Spawned u n by at started) = inr (record { by = u; started = started; count = n; within = at.within; spawned = at.there })

    starts : NoTextSpawns s.processes t ⊎ IsSpawned s.processes config t → Starts s.processes config t
    starts (inl none) = AtOnce (no_spawner t 0 s.processes none)
    starts (inr w) =
        let first = first_within s.processes w.by (config w.by) t w.count w.within w.spawned in
        Spawned w.by first.0 (its_text_spawns s is w.by (take w.count (config w.by)) t w.spawned) first.1 w.started

-- HOW ONE THAT HAS STARTED ENDS

abbrev HasRun : End → Type 0
HasRun ends.Ended = ⊤
HasRun ends.Waiting = ⊤
HasRun ends.Spent = ⊤
HasRun (ends.Faulted fault) = ⊤
HasRun ends.Unstarted = ⊥

abbrev HasRunIn : Option (End × List Atom) → Type 0
HasRunIn None = ⊤
HasRunIn (Some w) = HasRun w.0

waits_run : (b : Bool) → HasRun (if b then ends.Waiting else ends.Spent)
waits_run true = tt
waits_run false = tt

has_run : (rows count : ℕ) (x : Outcome State) → HasRunIn (end_of rows count x)
has_run rows count (Goes value) = tt
has_run rows count (Offers event said) = waits_run (nat_lt count rows)
has_run rows count (Finishes said []) = tt
has_run rows count (Finishes said (r ∷ left)) = tt
has_run rows count (Fails fault said []) = tt
has_run rows count (Fails fault said (r ∷ left)) = tt
has_run rows count Strays = tt

pub unstarted_is_not_started : UnstartedIsNotStarted
unstarted_is_not_started ps rows t config end printed h = (
  λ e. ⊎_elim
      (λ runs _. subst HasRun e (subst HasRunIn runs.1 (has_run rows (length (config t)) (after h.process.body (length h.process.variables) t (config t)))))
      (λ waits. waits.0)
      h.ends,
  λ no. ⊎_elim (λ runs. absurd (no runs.0)) (λ waits. waits.1) h.ends,
)

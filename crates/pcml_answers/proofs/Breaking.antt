-- The commit with which a run breaks off, and the stamp that is due.
use Rattle.std.proofs.Common.{◌≡◌, ℕ, List, Some, get_or, take, sym, ◌∙◌, subst}
use Rattle.std.proofs.lemmas.List.{take_more}
use Rattle.std.proofs.lemmas.Option.{slice_get-get_or}
use Rattle.script_tree.specs.Processes.{Proc}
use Rattle.protocol_values.specs.declared.Commit.{Commit}
use Rattle.protocol_values.specs.declared.Commit.TheVariants.{Pair, Alone}
use Rattle.protocol_values.specs.Commits.{stamp_of}
use Rattle.journal_replay.specs.Runs.{BreaksOffAt, Follows, IsRun}
use Rattle.journal_replay.specs.Replays.{StandsAfter}
use Rattle.journal_replay.specs.Stamping.{TellsStamped, unstamped}
use Rattle.journal_replay.specs.declared.state.State.{State}
use Rattle.journal_replay.proofs.Running.{run-more}
use Rattle.pcml_answers.specs.Reasons.{IsDue, IsReason, IsReasonAt}
use Rattle.pcml_answers.specs.declared.reason.Reason.TheVariants.{Stamp}

module _ (ps : List Proc) (rows : ℕ) where
  -- it may not come next
  broken-next : (commits : List Commit) (i : ℕ) (d : Commit) → BreaksOffAt ps rows commits i → Follows ps rows (take i commits) (get_or commits i d) → ⊥
  broken-next commits i d breaks f =
      breaks.broken (subst (IsRun ps rows) (sym (take_more commits i d breaks.within)) (run-more ps rows (take i commits) (get_or commits i d) breaks.run f))

  -- THE STAMP: the same is due whatever stamp a commit comes with
  due-unstamped : (earlier : List Commit) (c : Commit) (stamp : ℕ) → IsDue ps rows earlier c stamp → IsDue ps rows earlier (unstamped c) stamp
  due-unstamped earlier (Pair sender receiver chan msg was) stamp due = record { legal = due.legal; greatest = due.greatest; is = due.is; due = due.due }
  due-unstamped earlier (Alone at why was) stamp due = record { legal = due.legal; greatest = due.greatest; is = due.is; due = due.due }

  unstamped-due : (earlier : List Commit) (c : Commit) (stamp : ℕ) → IsDue ps rows earlier (unstamped c) stamp → IsDue ps rows earlier c stamp
  unstamped-due earlier (Pair sender receiver chan msg was) stamp due = record { legal = due.legal; greatest = due.greatest; is = due.is; due = due.due }
  unstamped-due earlier (Alone at why was) stamp due = record { legal = due.legal; greatest = due.greatest; is = due.is; due = due.due }

  -- a commit that may come next but for its stamp
  stamp-reason : (earlier : List Commit) (c next : Commit) → unstamped next ≡ unstamped c → Follows ps rows earlier next → (Follows ps rows earlier c → ⊥) → IsReason ps rows earlier c (Stamp (stamp_of next))
  stamp-reason earlier c next same f none =
      let n = stamp_of next in
      let own : IsDue ps rows earlier next n = record { legal = f.legal; greatest = f.greatest; is = f.is; due = f.stamp } in
      let due = unstamped-due earlier c n (subst (λ (x : Commit). IsDue ps rows earlier x n) same (due-unstamped earlier next n own)) in
      (due, λ e. none (record { legal = due.legal; greatest = due.greatest; is = due.is; stamp = e ∙ due.due }))

  -- of a state that stands before it, the stamp that it is told is the reason
  pub stamped-at : (commits : List Commit) (i : ℕ) (d next : Commit) (s : State) (stamp : ℕ) → BreaksOffAt ps rows commits i → StandsAfter ps rows (take i commits) s →
      TellsStamped s (get_or commits i d) (Some next) → stamp ≡ stamp_of next → IsReasonAt ps rows commits i (Stamp stamp)
  stamped-at commits i d next s stamp breaks stands told is =
      let c = get_or commits i d in
      let why = stamp-reason (take i commits) c next told.0 (told.1 ps rows (take i commits) stands) (broken-next commits i d breaks) in
      record {
        commit = c;
        is_its = slice_get-get_or commits i d breaks.within;
        holds = subst (λ (n : ℕ). IsReason ps rows (take i commits) c (Stamp n)) (sym is) why;
      }

-- The record of completed commits tells a maximal run, and where no thread is spent a free one.
use Rattle.std.proofs.Common.{◌≡◌, ◌<◌, ◌≤◌, ℕ, Bool, cond, ltb, List, [], ◌∷◌, ◌++◌, get_or, length, map, slice_get, Some, inl, inr, sym, ap, ◌∙◌, subst, ⊎_elim, arith}
use Rattle.std.proofs.lemmas.Bool.{cases_lt, le-ltb, lt-ltb}
use Rattle.std.proofs.lemmas.List.{length-append}
use Rattle.std.proofs.lemmas.List.Sorted.{length_permutation}
use Rattle.std.proofs.lemmas.Option.{same_Some, slice_get-get_or, slice_get_within, some_pair_parts}
use Rattle.script_tree.specs.Processes.{Proc}
use Rattle.thread.specs.After.{Outcome, State, Goes, Offers, Finishes, Fails, Strays, after}
use Rattle.protocol_values.specs.declared.Atom.{Atom}
use Rattle.protocol_values.specs.declared.Base.{Base}
use Rattle.protocol_values.specs.declared.Base.TheVariants.{Send, Recv, Always, OnNack, OnEnd}
use Rattle.protocol_values.specs.declared.Cause.TheVariants as cause
use Rattle.protocol_values.specs.declared.Commit.{Commit}
use Rattle.protocol_values.specs.declared.Commit.TheVariants.{Pair, Alone}
use Rattle.protocol_values.specs.declared.Row.{Row}
use Rattle.protocol_values.specs.Commits.{IsInOrder}
use Rattle.protocol_ledger.specs.Ledgers.{Ledger, commits_in}
use Rattle.thread.specs.declared.end.End.{End}
use Rattle.thread.specs.declared.end.End.TheVariants.{Spent, Waiting}
use Rattle.journal_replay.specs.Runs.{Config, IsLegal, IsMaximal, IsRun, MayTake, TellsEnds, config_of, end_of}
use Rattle.journal_order.proofs.Meeting.{each-meets}
use Rattle.journal_order.proofs.Results.{one-row}
use Rattle.journal_order.proofs.Sending.{named-is-received, received-is-sent}
use Rattle.journal.specs.Records.{Completes, CompletesRun}
use Rattle.journal.specs.declared.record.Record.{Record}
use Rattle.runtime_run.specs.Headline.{IsMaximalRun, TellsFreeRun, TellsMaximalRun}

maximal_run : (ps : List Proc) (rows : ℕ) (journal : List Commit) → IsRun ps rows journal → IsInOrder journal → IsMaximal ps rows (config_of journal) → IsMaximalRun ps rows journal
maximal_run ps rows journal run in_order maximal = record {
  run = run;
  in_order = in_order;
  maximal = maximal;
  at_most_one = one-row ps rows journal run;
  meets = each-meets ps rows journal run;
  received_is_sent = received-is-sent ps rows journal run;
  named_is_received = named-is-received ps rows journal run;
}

tells_maximal : (ps : List Proc) (rows : ℕ) (given : List Commit) (r : Record) → CompletesRun ps rows given r → TellsMaximalRun ps rows r
tells_maximal ps rows given r c = record {
  journal = maximal_run ps rows r.journal.items c.run c.in_order c.maximal;
  ends = c.ends_are;
  tail = omega (arith, c.tail_is, length-append given c.added, length_permutation (given ++ c.added) r.journal.items c.whole);
}

pub completed : (ps : List Proc) (rows : ℕ) (l : Ledger) (r : Record) → Completes ps rows l r → TellsMaximalRun ps rows r
completed ps rows l = tells_maximal ps rows (commits_in l)

-- WHERE NO THREAD IS SPENT, no number of rows lets the run go further

abbrev offers_some : Outcome State → Type 0
offers_some (Goes value) = ⊥
offers_some (Offers event said) = Unit {0}
offers_some (Finishes said left) = ⊥
offers_some (Fails fault said left) = ⊥
offers_some Strays = ⊥

-- who offers a sync, and has used all rows, is spent
is_spent : (rows count : ℕ) (o : Outcome State) (end : End) (printed : List Atom) → offers_some o → end_of rows count o ≡ Some (end, printed) → rows ≤ count → end ≡ Spent
is_spent rows count (Goes value) end printed offers e used = absurd offers
is_spent rows count (Offers event said) end printed offers e used =
    sym (some_pair_parts (cond (ltb count rows) Waiting Spent) end said.printed printed e).0 ∙ ap (λ (b : Bool). cond b Waiting Spent) (le-ltb count rows used)
is_spent rows count (Finishes said left) end printed offers e used = absurd offers
is_spent rows count (Fails fault said left) end printed offers e used = absurd offers
is_spent rows count Strays end printed offers e used = absurd offers

-- who is not spent ends in the same way in each greater number of rows
same_end : (rows more count : ℕ) (o : Outcome State) (end : End) (printed : List Atom) → end_of rows count o ≡ Some (end, printed) → (end ≡ Spent → ⊥) → count < more → end_of more count o ≡ Some (end, printed)
same_end rows more count (Goes value) end printed e unspent enough = e
same_end rows more count (Offers event said) end printed e unspent enough = ⊎_elim
    (λ lt. ap (λ (b : Bool). Some (cond b Waiting Spent, said.printed)) (lt-ltb count more enough ∙ sym (lt-ltb count rows lt)) ∙ e)
    (λ ge. absurd (unspent (is_spent rows count (Offers event said) end printed tt e ge)))
    (cases_lt count rows)
same_end rows more count (Finishes said []) end printed e unspent enough = e
same_end rows more count (Finishes said (r ∷ left)) end printed e unspent enough = e
same_end rows more count (Fails fault said []) end printed e unspent enough = e
same_end rows more count (Fails fault said (r ∷ left)) end printed e unspent enough = e
same_end rows more count Strays end printed e unspent enough = e

module _ (ps : List Proc) (rows : ℕ) (config : Config) (ends : List End) (outputs : List (List Atom)) (told : TellsEnds ps rows config ends outputs) (never : (t : ℕ) → slice_get ends t ≡ Some Spent → ⊥) where
  -- whoever offers a sync has rows left
  has_rows : (more : ℕ) (at : Row × ℕ) (b : Base) → MayTake ps more config at b → length (config at.0.thread) < rows
  has_rows more at b m = ⊎_elim (λ lt. lt) (λ ge. absurd (spent ge)) (cases_lt (length (config at.0.thread)) rows)
    where
      t : ℕ
      t = at.0.thread

      stands : Proc → Outcome State
      stands p = after p.body (length p.variables) t (config t)

      within : t < length ps
      within = slice_get_within ps t m.can.offered.process m.can.offered.is_its

      spent : rows ≤ length (config t) → ⊥
      spent used =
          let is_end = slice_get-get_or ends t Spent (omega (arith, within, told.ends_count)) in
          let is_output = slice_get-get_or outputs t [] (omega (arith, within, told.outputs_count)) in
          let ended = told.each t (get_or ends t Spent) (get_or outputs t []) is_end is_output in
          let offered = m.can.offered in
          let process = same_Some offered.process ended.process (sym offered.is_its ∙ ended.is_its) in
          let offers = subst offers_some (sym offered.offers ∙ ap stands process) tt in
          ⊎_elim
          (λ a. never t (is_end ∙ ap (λ (x : End). Some x) (is_spent rows (length (config t)) (stands ended.process) (get_or ends t Spent) (get_or outputs t []) offers a.1 used)))
          (λ b. b.0 m.started)
          ended.ends

  may_take : (more : ℕ) (at : Row × ℕ) (b : Base) → MayTake ps more config at b → MayTake ps rows config at b
  may_take more at b m = record {
    started = m.started;
    can = record {
      few = has_rows more at b m;
      next = m.can.next;
      event = m.can.event;
      offered = m.can.offered;
      base = m.can.base;
      is = m.can.is;
      same = m.can.same;
    };
  }

  -- so what is legal in any number of rows is legal in these
  is_legal : (more : ℕ) (c : Commit) → IsLegal ps more config c → IsLegal ps rows config c
  is_legal more (Pair sender receiver chan msg stamp) h = (h.0, may_take more sender (Send chan msg) h.1, may_take more receiver (Recv chan) h.2)
  is_legal more (Alone at (cause.Always m) stamp) h = may_take more at (Always m) h
  is_legal more (Alone at (cause.Nack n) stamp) h = (may_take more at (OnNack n) h.0, h.1)
  is_legal more (Alone at (cause.End t) stamp) h = (may_take more at (OnEnd t) h.0, h.1, h.2)

  tells_more : (more : ℕ) → ((t : ℕ) → length (config t) < more) → TellsEnds ps more config ends outputs
  tells_more more enough = record {
    ends_count = told.ends_count;
    outputs_count = told.outputs_count;
    each = λ t end printed at_end at_output.
        let ended = told.each t end printed at_end at_output in
        record {
          process = ended.process;
          is_its = ended.is_its;
          ends = ⊎_elim
              (λ a. inl (a.0, same_end rows more (length (config t)) (after ended.process.body (length ended.process.variables) t (config t)) end printed a.1 (λ spent. never t (at_end ∙ ap (λ (x : End). Some x) spent)) (enough t)))
              (λ b. inr b)
              ended.ends;
        };
  }

pub free : (ps : List Proc) (rows : ℕ) (given : List Commit) (r : Record) → CompletesRun ps rows given r → ((t : ℕ) → slice_get r.ends.items t ≡ Some Spent → ⊥) → TellsFreeRun ps r
free ps rows given r c never =
    let told = tells_maximal ps rows given r c in
    let config = config_of r.journal.items in
    let outputs = map (λ v. v.items) r.outputs.items in
    record {
      journal = record {
        rows = rows;
        run = told.journal;
        maximal = λ more commit legal. c.maximal commit (is_legal ps rows config r.ends.items outputs c.ends_are never more commit legal);
      };
      ends = tells_more ps rows config r.ends.items outputs c.ends_are never;
      never_spent = never;
      tail = told.tail;
    }

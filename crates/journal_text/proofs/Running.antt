-- A run of a script's processes, commit by commit: each has a line, and what is printed has a text.
use Rattle.std.proofs.Common.{◌≡◌, ℕ, zero, suc, ◌+◌, ◌*◌, ◌<◌, ◌≤◌, Bool, true, false, cond, eqb, List, [], ◌∷◌, ◌++◌, length, map, slice_get, Some, Contains, refl, sym, ap, ◌∙◌, subst, arith, ⊎_elim}
use Rattle.std.specs.Prelude.{⊤}
use Rattle.std.specs.List.{AllByRecursion}
use Rattle.std.proofs.lemmas.Bool.{cases_eq}
use Rattle.std.proofs.lemmas.List.{length-append, length-map}
use Rattle.std.proofs.lemmas.Option.{none-some, same_Some, slice_get_within, some_pair_parts}
use Rattle.event.specs.Tree.{Tree, Single, Nothing, Or, Wrap, Scope, BaseEvent, bases, bases_from, scope_count, with_scope, with_wrap}
use Rattle.script_tree.specs.Processes.{Proc}
use Rattle.thread.specs.After.{Chosen, State, Outcome, Goes, Offers, Finishes, Fails, Strays, after}
use Rattle.thread.proofs.Keeping.{EachOf, MessageOf, BaseOf, ResultsOf, TreeOf, Keeps, after_keeps}
use Rattle.protocol_values.specs.declared.Atom.{Atom}
use Rattle.protocol_values.specs.declared.Base.{Base}
use Rattle.protocol_values.specs.declared.Base.TheVariants.{Send, Recv, Always, OnNack, OnEnd}
use Rattle.protocol_values.specs.declared.Cause.{Cause}
use Rattle.protocol_values.specs.declared.Cause.TheVariants as cause
use Rattle.protocol_values.specs.declared.Commit.{Commit}
use Rattle.protocol_values.specs.declared.Commit.TheVariants.{Pair, Alone}
use Rattle.protocol_values.specs.declared.Message.{Message}
use Rattle.protocol_values.specs.declared.Message.TheVariants.{Empty, One, Two, Three}
use Rattle.protocol_values.specs.declared.Row.{Row}
use Rattle.protocol_values.specs.Commits.{stamp_of}
use Rattle.script.specs.Sources.{Script}
use Rattle.journal_text.specs.Names.{Declared, names_of}
use Rattle.journal_text.specs.Journals.{HasAtom, HasMessage, HasPlace, HasCause, HasLine}
use Rattle.thread.specs.declared.end.End.{End}
use Rattle.journal_replay.specs.Runs.{Config, CanTake, EndsAs, Follows, IsCaused, IsLegal, IsRun, MayTake, applied, config_from, config_of, end_of, no_results, with_result}
use Rattle.journal_replay.proofs.Counting.{Short, all_syncs, grows, syncs_within}
use Rattle.journal_replay.proofs.Greatest.{more, more-cases}
use Rattle.journal_replay.proofs.Standing.{config_of-more, result-at, result-other}
use Rattle.journal_order.proofs.Runs.{RunsOn, runs-on}
use Rattle.journal_text.proofs.Rules.{in_text, IsThread}
use Rattle.journal_text.proofs.Spelled.{HasText, IsInText}

-- BASE EVENTS

bases_all : (P : Atom → Type 0) (J S : ℕ → Type 0) (n : ℕ) (tree : Tree) → TreeOf P J S tree → AllByRecursion (λ b. BaseOf P J b.base) (bases_from n tree)
bases_all P J S n (Single base) h = (h, tt)
bases_all P J S n Nothing h = tt
bases_all P J S n (Or first second) h = all_append (bases_from n first) (bases_from (n + scope_count first) second) (bases_all P J S n first h.0) (bases_all P J S (n + scope_count first) second h.1)
  where
    all_append : (xs ys : List BaseEvent) → AllByRecursion (λ b. BaseOf P J b.base) xs → AllByRecursion (λ b. BaseOf P J b.base) ys → AllByRecursion (λ b. BaseOf P J b.base) (xs ++ ys)
    all_append [] ys h k = k
    all_append (x ∷ xs) ys h k = (h.0, all_append xs ys h.1 k)
bases_all P J S n (Wrap wrap event) h = wrapped (bases_from n event) (bases_all P J S n event h)
  where
    wrapped : (xs : List BaseEvent) → AllByRecursion (λ b. BaseOf P J b.base) xs → AllByRecursion (λ b. BaseOf P J b.base) (map (with_wrap wrap) xs)
    wrapped [] h = tt
    wrapped (x ∷ xs) h = (h.0, wrapped xs h.1)
bases_all P J S n (Scope nack event) h = scoped (bases_from (n + 1) event) (bases_all P J S (n + 1) event h.1)
  where
    scoped : (xs : List BaseEvent) → AllByRecursion (λ b. BaseOf P J b.base) xs → AllByRecursion (λ b. BaseOf P J b.base) (map (with_scope n) xs)
    scoped [] h = tt
    scoped (x ∷ xs) h = (h.0, scoped xs h.1)

pub all_at : {A : Type 0} (P : A → Type 0) (xs : List A) (i : ℕ) (x : A) → AllByRecursion P xs → slice_get xs i ≡ Some x → P x
all_at P [] i x h is = absurd (none-some x is)
all_at P (y ∷ ys) zero x h is = subst P (same_Some y x is) h.0
all_at P (y ∷ ys) (suc i) x h is = all_at P ys i x h.1 is

results_more : (P : Atom → Type 0) (results : List Chosen) (r : Chosen) → ResultsOf P results → MessageOf P r.1 → ResultsOf P (results ++ r ∷ [])
results_more P [] r h k = (k, tt)
results_more P (x ∷ results) r h k = (h.0, results_more P results r h.1 k)

has_message : (d : Declared) (m : Message) → MessageOf (HasAtom d) m → HasMessage d m
has_message d Empty h = tt
has_message d (One a) h = h
has_message d (Two a b) h = h
has_message d (Three a b c) h = ((h.0, h.1.0), h.1.1)

module _ (s : Script) (rows : ℕ) (few : rows ≤ 67107840) (text : HasText s) where
  abbrev d : Declared
  d = names_of s

  abbrev Fine : Config → Type 0
  Fine config = (t : ℕ) → ResultsOf (HasAtom d) (config t)

  declared : (t : ℕ) (p : Proc) → slice_get s.processes t ≡ Some p → t < length d.threads
  declared t p is = omega (arith, slice_get_within s.processes t p is, length-map s.processes (λ (q : Proc). q.name))

  pub after_fine : (t : ℕ) (p : Proc) (below : t < length d.threads) (results : List Chosen) → slice_get s.processes t ≡ Some p → ResultsOf (HasAtom d) results → Keeps (in_text d t below) (after p.body (length p.variables) t results) (λ x. ⊤)
  after_fine t p below results is fine =
      after_keeps (in_text d t below) p.body (length p.variables) results tt (all_at (IsInText d t below) s.processes t p (text.each t below) is) fine

  -- WHAT A SYNC TAKES

  record Taken (at : Row × ℕ) (b : Base) : Type 0 where
    pub place : HasPlace d at
    pub base : BaseOf (HasAtom d) (IsThread d) b

  taken : (results : List Chosen) (at : Row × ℕ) (b : Base) → ResultsOf (HasAtom d) results → CanTake s.processes rows results at b → Taken at b
  taken results at b fine can =
      let t = at.0.thread in
      let p = can.offered.process in
      let below = declared t p can.offered.is_its in
      let kept = subst (λ (x : Outcome State). Keeps (in_text d t below) x (λ y. ⊤)) can.offered.offers (after_fine t p below results can.offered.is_its fine) in
      let within = slice_get_within (bases can.event) at.1 can.base can.is in
      let base = all_at (λ (x : BaseEvent). BaseOf (HasAtom d) (IsThread d) x.base) (bases can.event) at.1 can.base (bases_all (HasAtom d) (IsThread d) (λ k. ⊤) 0 can.event kept.parts) can.is in
      record {
        place = (below, omega (arith, can.few, can.next, few), omega (arith, within, kept.small));
        base = subst (BaseOf (HasAtom d) (IsThread d)) can.same base;
      }

  may_take : (config : Config) (at : Row × ℕ) (b : Base) → Fine config → MayTake s.processes rows config at b → Taken at b
  may_take config at b fine may = taken (config at.0.thread) at b (fine at.0.thread) may.can

  with_fine : (t : ℕ) (r : Chosen) (config : Config) → MessageOf (HasAtom d) r.1 → Fine config → Fine (with_result t r config)
  with_fine t r config m fine u = at_test (eqb u t)
    where
      at_test : (b : Bool) → ResultsOf (HasAtom d) (cond b (config u ++ r ∷ []) (config u))
      at_test true = results_more (HasAtom d) (config u) r (fine u) m
      at_test false = fine u

  -- the commit has a line but for its stamp, and the results stay fine
  abbrev HasLineAt : Commit → Type 0
  HasLineAt (Pair sender receiver chan msg stamp) = (HasPlace d sender × HasPlace d receiver) × (chan < length d.channels) × HasMessage d msg
  HasLineAt (Alone at why stamp) = HasPlace d at × HasCause d why

  alone_line : (config : Config) (at : Row × ℕ) (why : Cause) (stamp : ℕ) → Fine config → IsCaused s.processes rows config at why → HasLineAt (Alone at why stamp) × Fine (applied config (Alone at why stamp))
  alone_line config at (cause.Always m) stamp fine legal =
      let one = may_take config at (Always m) fine legal in
      ((one.place, has_message d m one.base), with_fine at.0.thread (at.1, m) config one.base fine)
  alone_line config at (cause.Nack n) stamp fine legal =
      let one = may_take config at (OnNack n) fine legal.0 in
      ((one.place, one.base), with_fine at.0.thread (at.1, Empty) config tt fine)
  alone_line config at (cause.End u) stamp fine legal =
      let one = may_take config at (OnEnd u) fine legal.0 in
      ((one.place, one.base), with_fine at.0.thread (at.1, Empty) config tt fine)

  commit_line : (config : Config) (c : Commit) → Fine config → IsLegal s.processes rows config c → HasLineAt c × Fine (applied config c)
  commit_line config (Pair sender receiver chan msg stamp) fine legal =
      let one = may_take config sender (Send chan msg) fine legal.1 in
      let two = may_take config receiver (Recv chan) fine legal.2 in (
        ((one.place, two.place), one.base.0, has_message d msg one.base.1),
        with_fine receiver.0.thread (receiver.1, msg) (with_result sender.0.thread (sender.1, Empty) config) one.base.1
            (with_fine sender.0.thread (sender.1, Empty) config tt fine),
      )
  commit_line config (Alone at why stamp) fine legal = alone_line config at why stamp fine legal

  -- RUNS

  record Sound (earlier : List Commit) (config : Config) : Type 0 where
    pub fine : Fine config
    pub short : Short s.processes rows config
    pub stamps : (c : Commit) → Contains earlier c → stamp_of c ≤ all_syncs s.processes rows config

  stamped : (c : Commit) → HasLineAt c → 1 ≤ stamp_of c → stamp_of c ≤ 4294967295 → HasLine d c
  stamped (Pair sender receiver chan msg stamp) h low high = (((low, high), h.0.0), (h.0.1, h.1, h.2))
  stamped (Alone at why stamp) h low high = (((low, high), h.0), h.1)

  abbrev Goes' : List Commit → Commit → Type 0
  Goes' earlier c = HasLine d c × Sound (more earlier c) (applied (config_of earlier) c)

  next : (earlier : List Commit) (c : Commit) → Sound earlier (config_of earlier) → Follows s.processes rows earlier c → Goes' earlier c
  next earlier c sound f =
      let config = config_of earlier in
      let line = commit_line config c sound.fine f.legal in
      let grew = grows s.processes rows config c sound.short f.legal in
      let below : f.greatest ≤ all_syncs s.processes rows config = ⊎_elim (λ z. omega (arith, z)) (λ w. omega (arith, sound.stamps w.0 w.1, w.3)) f.is.there in
      let bound = syncs_within (length s.processes) (applied config c) (λ t. omega (arith, grew.short t, few)) in (
        stamped c line.0 (omega (arith, f.stamp)) (omega (arith, f.stamp, below, grew.more, bound, text.few)),
        record {
          fine = line.1;
          short = grew.short;
          stamps = λ e there. ⊎_elim
              (λ before. omega (arith, sound.stamps e before, grew.more))
              (λ same. omega (arith, ap stamp_of same, f.stamp, below, grew.more))
              (more-cases earlier c e there);
        },
      )

  lines_from : (earlier cs : List Commit) → Sound earlier (config_of earlier) → RunsOn s.processes rows earlier cs → AllByRecursion (HasLine d) cs × Fine (config_from (config_of earlier) cs)
  lines_from earlier [] sound run = (tt, sound.fine)
  lines_from earlier (c ∷ cs) sound run =
      let one = next earlier c sound run.0 in
      let same = config_of-more earlier c in
      let others = lines_from (more earlier c) cs (subst (Sound (more earlier c)) (sym same) one.1) run.1 in
      ((one.0, others.0), subst (λ (config : Config). Fine (config_from config cs)) same others.1)

  begun : Sound [] no_results
  begun = record {
    fine = λ t. tt;
    short = λ t. omega arith;
    stamps = λ c there. absurd (omega (arith, there.1));
  }

  pub run_lines : (journal : List Commit) → IsRun s.processes rows journal → AllByRecursion (HasLine d) journal × Fine (config_of journal)
  run_lines journal run = lines_from [] journal begun (runs-on s.processes rows [] journal run)

  -- WHAT IS PRINTED

  printed_in : (t : ℕ) (below : t < length d.threads) (count : ℕ) (x : Outcome State) (end : End) (printed : List Atom) → Keeps (in_text d t below) x (λ y. ⊤) → end_of rows count x ≡ Some (end, printed) → EachOf (HasAtom d) printed
  printed_in t below count (Goes value) end printed h e = absurd cc
  printed_in t below count (Offers event told) end printed h e = subst (EachOf (HasAtom d)) (some_pair_parts _ end told.printed printed e).1 h.said.printed
  printed_in t below count (Finishes told []) end printed h e = subst (EachOf (HasAtom d)) (some_pair_parts _ end told.printed printed e).1 h.printed
  printed_in t below count (Finishes told (r ∷ left)) end printed h e = absurd cc
  printed_in t below count (Fails fault told []) end printed h e = subst (EachOf (HasAtom d)) (some_pair_parts _ end told.printed printed e).1 h.printed
  printed_in t below count (Fails fault told (r ∷ left)) end printed h e = absurd cc
  printed_in t below count Strays end printed h e = absurd cc

  pub printed_fine : (config : Config) (t : ℕ) (end : End) (printed : List Atom) → Fine config → EndsAs s.processes rows t config end printed → EachOf (HasAtom d) printed
  printed_fine config t end printed fine ends =
      let p = ends.process in
      let below = declared t p ends.is_its in
      ⊎_elim
      (λ runs. printed_in t below (length (config t)) (after p.body (length p.variables) t (config t)) end printed (after_fine t p below (config t) ends.is_its (fine t)) runs.1)
      (λ waits. subst (EachOf (HasAtom d)) (sym waits.2) tt)
      ends.ends

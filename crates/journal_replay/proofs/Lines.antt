-- Threads go on with the trees that they began with, and a state tells the lines at which they stand.
use Rattle.std.proofs.Common.{◌≡◌, ℕ, zero, suc, ◌+◌, List, [], ◌∷◌, ◌++◌, Bool, true, false, if◌then◌else◌, Option, None, Some, IfNone, IfSome, MatchOption, length, map, slice_get, slice_set, take, refl, sym, ap, ◌∙◌, subst, inl, inr, ⊎_elim, arith}
use Rattle.std.proofs.lemmas.Bool.{false≢true}
use Rattle.std.proofs.lemmas.List.{map-append}
use Rattle.std.proofs.lemmas.Option.{none-some, same_Some, slice_get-map}
use Rattle.std.specs.Option.{option_map}
use Rattle.script_tree.specs.Processes.{Proc}
use Rattle.thread.specs.Machines.{Thread, Phase, HasStopped, Ready, Open, Over, Stuck, Broken}
use Rattle.thread.specs.Standing as lined
use Rattle.thread.specs.Standing.{line_after, line_of}
use Rattle.protocol_values.specs.declared.Commit.{Commit}
use Rattle.protocol_values.specs.declared.Row.{Row}
use Rattle.script_tree.specs.declared.tree.Block.{Block as Tree}
use Rattle.protocol_values.specs.declared.Commit.TheVariants.{Pair, Alone}
use Rattle.journal_replay.specs.Gathering.{GivesAll, GivesRow, OneGoesOn}
use Rattle.thread_strand.specs.Strands.{Gathers, HasBegun, line_at}
use Rattle.journal_replay.specs.Lines.{RunTheirs, StandsAtLine, trees_in, trees_of}
use Rattle.journal_replay.specs.Replays.{StandsAfter}
use Rattle.journal_replay.specs.Runs.{Config, Starts, config_of}
use Rattle.journal_replay.specs.Standing.{Commits, MachineStands, NoneStarts, OneGrows, OneStarts, SomeStart, Start, StrandStands, Takes}
use Rattle.journal_replay.specs.declared.state.State.{State}
use Rattle.thread_strand.specs.declared.strand.Known.{Known}
use Rattle.thread_strand.specs.declared.strand.Strand.{Strand}
use Rattle.journal_replay.proofs.Lists.{slice_get-more}
use Rattle.thread.specs.After.{Chosen}

-- TREES

set-same : {A B : Type 0} (f : A → B) (xs : List A) (t : ℕ) (x y : A) → slice_get xs t ≡ Some x → f y ≡ f x → map f (slice_set xs t y) ≡ map f xs
set-same f [] t x y is same = absurd (none-some x is)
set-same f (z ∷ xs) zero x y is same = ap (λ b. b ∷ map f xs) (same ∙ ap f (sym (same_Some z x is)))
set-same f (z ∷ xs) (suc t) x y is same = ap (λ bs. f z ∷ bs) (set-same f xs t x y is same)

starts-kept : (t : ℕ) (old new : List Strand) → OneStarts t old new → trees_of new ≡ trees_of old
starts-kept t old new h = ap trees_of h.is ∙ set-same (λ (s : Strand). s.machine.body) old t h.before _ h.was refl

some-kept : {old new : List Strand} → SomeStart old new → trees_of new ≡ trees_of old
some-kept NoneStarts = refl
some-kept (Start {old} {middle} {new} t first last) = starts-kept t middle new last ∙ some-kept first

grows-kept : (t : ℕ) (r : Chosen) (stamp : ℕ) (old new : List Strand) → OneGrows t r stamp old new → trees_of new ≡ trees_of old
grows-kept t r stamp old new h = ap trees_of h.is ∙ set-same (λ (s : Strand). s.machine.body) old t h.before h.behind h.was h.grows.process.body

takes-kept : (c : Commit) (old new : List Strand) → Takes c old new → trees_of new ≡ trees_of old
takes-kept (Pair sender receiver chan msg stamp) old new h = grows-kept _ _ stamp h.0 new h.2 ∙ grows-kept _ _ stamp old h.0 h.1
takes-kept (Alone at why stamp) old new h = grows-kept _ _ stamp old new h

pub woken-kept : {old new : List Strand} → SomeStart old new → trees_of new ≡ trees_of old
woken-kept h = some-kept h

pub commits-kept : (c : Commit) (old new : List Strand) → Commits c old new → trees_of new ≡ trees_of old
commits-kept c old new h = some-kept h.2.some ∙ takes-kept c old h.0 h.1

pub push-trees : (strands more : List Strand) (strand : Strand) → more ≡ strands ++ strand ∷ [] → trees_of more ≡ trees_of strands ++ strand.machine.body ∷ []
push-trees strands more strand is = ap trees_of is ∙ map-append (λ (s : Strand). s.machine.body) strands (strand ∷ [])

-- one element more from the front
pub take-more : {A B : Type 0} (f : A → B) (xs : List A) (n : ℕ) (x : A) → slice_get xs n ≡ Some x → map f (take n xs) ++ f x ∷ [] ≡ map f (take (n + 1) xs)
take-more f [] n x is = absurd (none-some x is)
take-more f (y ∷ xs) zero x is = ap (λ z. f z ∷ []) (sym (same_Some y x is))
take-more f (y ∷ xs) (suc n) x is = ap (λ l. f y ∷ l) (take-more f xs n x is) ∙ ap (λ k. map f (take k (y ∷ xs))) (let e : suc (n + 1) ≡ suc n + 1 = omega arith in e)

-- GATHERED

goes-kept : (at : Row × ℕ) (r : Chosen) (old new : List Strand) → OneGoesOn at r old new → trees_of new ≡ trees_of old
goes-kept at r old new h = ap trees_of h.is ∙ set-same (λ (s : Strand). s.machine.body) old at.0.thread h.before h.behind h.was h.goes.process.body

row-kept : (at : Row × ℕ) (r : Chosen) (old new : List Strand) → GivesRow at r old new true → trees_of new ≡ trees_of old
row-kept at r old new h = ⊎_elim (λ had. ap trees_of had.1) (λ goes. goes-kept at r old new goes) h

pub gives-kept : (c : Commit) (old new : List Strand) → GivesAll c old new → trees_of new ≡ trees_of old
gives-kept (Pair sender receiver chan msg stamp) old new h = row-kept receiver _ h.0 new h.2 ∙ row-kept sender _ old h.0 h.1
gives-kept (Alone at why stamp) old new h = row-kept at _ old new h

-- each of these strands runs the tree at its place, where the machines that are known do
pub record TreesSo (trees : List Tree) (known : List Known) (strands : List Strand) : Type 0 where
  pub each : RunTheirs trees known → (t : ℕ) (s : Strand) → slice_get strands t ≡ Some s → slice_get trees t ≡ Some s.machine.body

pub trees-none : (trees : List Tree) (known : List Known) → TreesSo trees known []
trees-none trees known = record { each = λ theirs t s is. absurd (none-some s is) }

runs-its : (o : Option Thread) (P : Type 0) (trees : List Tree) (t : ℕ) (tree : Tree) (s : Strand) → slice_get trees t ≡ Some tree → MatchOption o P (λ m. s.machine ≡ m) → IfNone o (s.machine.body ≡ tree) → IfSome o (λ m. slice_get trees t ≡ Some m.body) →
    slice_get trees t ≡ Some s.machine.body
runs-its None P trees t tree s there had began theirs = there ∙ ap (λ (x : Tree). Some x) (sym began)
runs-its (Some m) P trees t tree s there had began theirs = theirs ∙ ap (λ (x : Thread). Some x.body) (sym had)

pub trees-more : (trees : List Tree) (known : List Known) (strands : List Strand) (p : Proc) (from : Option ℕ) (n : ℕ) (tree : Tree) (k : Known) (s : Strand) → slice_get trees (length strands) ≡ Some tree → slice_get known (length strands) ≡ Some k →
    TreesSo trees known strands → Gathers p from n k s → IfNone k.machine (s.machine.body ≡ tree) → TreesSo trees known (strands ++ s ∷ [])
trees-more trees known strands p from n tree k s there its before is began = record {
  each = λ theirs t x at. ⊎_elim
      (λ old. before.each theirs t x old.1)
      (λ new. subst (λ (y : Strand). slice_get trees t ≡ Some y.machine.body) new.1
      (subst (λ (i : ℕ). slice_get trees i ≡ Some s.machine.body) (sym new.0)
      (runs-its k.machine (HasBegun p n s.machine) trees (length strands) tree s there is.machine began (theirs (length strands) k its))))
      (slice_get-more strands s x t at);
}

-- lists of one length are one list, where each element of the one stands in the other
same-list : {A B : Type 0} (f : A → B) (xs : List A) (ys : List B) → length xs ≡ length ys → ((t : ℕ) (x : A) → slice_get xs t ≡ Some x → slice_get ys t ≡ Some (f x)) → map f xs ≡ ys
same-list f [] [] e each = refl
same-list f [] (y ∷ ys) e each = absurd (omega (arith, e))
same-list f (x ∷ xs) [] e each = absurd (omega (arith, e))
same-list f (x ∷ xs) (y ∷ ys) e each = (λ i. same_Some (f x) y (sym (each zero x refl)) i ∷ same-list f xs ys (omega (arith, e)) (λ t z is. each (suc t) z is) i)

pub trees-all : (trees : List Tree) (known : List Known) (strands : List Strand) → length strands ≡ length trees → TreesSo trees known strands → RunTheirs trees known → trees_of strands ≡ trees
trees-all trees known strands count so theirs = same-list (λ (s : Strand). s.machine.body) strands trees count (λ t s is. so.each theirs t s is)

-- LINES

stopped-line : (m : Thread) (p : Phase) → HasStopped p → lined.line_at m p ≡ line_after m.body m.variables m.thread m.results
stopped-line m Ready h = absurd h
stopped-line m (Open os ns) h = refl
stopped-line m Over h = refl
stopped-line m (Stuck fault) h = refl
stopped-line m Broken h = absurd h

line-if : (b : Bool) (s : Strand) → s.started ≡ b → line_at s ≡ (if b then line_of s.machine else 0)
line-if b s is = ap (λ c. if c then line_of s.machine else 0) is

machine-line : (ps : List Proc) (t : ℕ) (results : List Chosen) (m : Thread) (h : MachineStands ps t results m) → line_of m ≡ line_after m.body (length h.process.variables) t results
machine-line ps t results m h =
    stopped-line m m.phase h.stopped
    ∙ ap (λ n. line_after m.body n m.thread m.results) h.variables
    ∙ ap (λ n. line_after m.body (length h.process.variables) n m.results) h.thread
    ∙ ap (line_after m.body (length h.process.variables) t) h.given

strand-line : (ps : List Proc) (strands : List Strand) (t : ℕ) (config : Config) (journal : List Commit) (s : Strand) → StrandStands ps config t journal s → (Starts ps config t → s.started ≡ true) → slice_get strands t ≡ Some s → (b : Bool) → s.started ≡ b
    → StandsAtLine ps (trees_of strands) t config (line_at s)
strand-line ps strands t config journal s h marked is true e = record {
  process = h.machine.process;
  is_its = h.machine.is_its;
  tree = s.machine.body;
  written = slice_get-map (λ (x : Strand). x.machine.body) strands t ∙ ap (option_map (λ (x : Strand). x.machine.body)) is;
  same = h.machine.body;
  stands = inl (h.started e, line-if true s e ∙ machine-line ps t (config t) s.machine h.machine);
}
strand-line ps strands t config journal s h marked is false e = record {
  process = h.machine.process;
  is_its = h.machine.is_its;
  tree = s.machine.body;
  written = slice_get-map (λ (x : Strand). x.machine.body) strands t ∙ ap (option_map (λ (x : Strand). x.machine.body)) is;
  same = h.machine.body;
  stands = inr ((λ starts. false≢true (sym e ∙ marked starts)), line-if false s e);
}

pub thread-line : (ps : List Proc) (rows t : ℕ) (journal : List Commit) (state : State) (s : Strand) → StandsAfter ps rows journal state → slice_get state.threads.strands.items t ≡ Some s →
    StandsAtLine ps (trees_in state) t (config_of journal) (line_at s)
thread-line ps rows t journal state s stands is =
    strand-line ps state.threads.strands.items t (config_of journal) journal s (stands.strands.stands.each t s is) (stands.strands.marked t s is) is s.started refl

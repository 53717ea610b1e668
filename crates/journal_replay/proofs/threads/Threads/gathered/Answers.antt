use Rattle.std.proofs.Common.{Option, ◌≡◌, ◌<◌, ◌+◌, ◌++◌, ◌∷◌, [], ◌||◌, ℕ, Bool, List, Some, append_assoc, length, map, slice_get, refl, sym, ap, ◌∙◌, subst, arith}
use Rattle.std.specs.Option.{option_map}
use Rattle.std.proofs.lemmas.List.{length-append, length-map, length_push}
use Rattle.std.proofs.lemmas.Option.{slice_get-map, slice_get_read}
use Rattle.script_tree.specs.Processes.{proc_of, tree_of}
use Rattle.script_tree.specs.Spawning.{spawner}
use Rattle.thread_strand.specs.declared.strand.Known.{Known}
use Rattle.thread_strand.specs.declared.strand.Strand.{Strand}
use Rattle.thread_strand.specs.Strands.{Gathers}
use Rattle.journal_replay.proofs.Gathered.{GatheredSo, gathered-more, gathered-none}
use Rattle.journal_replay.proofs.Lines.{TreesSo, trees-all, trees-more, trees-none}
use Rattle.journal_replay.proofs.Lists.{slice_get-middle}
use Rattle.journal_replay.proofs.Waking.{later-more}
use Rattle.journal_replay.proofs.threads.Threads.gathered.Goals as goal

pub loop-part-init : goal.loop-part-init
loop-part-init c = record {
  whole = sym c.into_iter-part-iterator.ensures.into_iter_gives.0;
  count = ap (λ (xs : List Strand). length xs) c.in_ok-strands.ensures.items;
  gathered = subst (GatheredSo (map proc_of c.args.processes.now) c.args.known.items) (sym c.in_ok-strands.ensures.items) (gathered-none _ _);
  trees = subst (TreesSo (map tree_of c.args.processes.now) c.args.known.items) (sym c.in_ok-strands.ensures.items) (trees-none _ _);
  later = λ quiet t low. absurd (omega (arith, low, ap (λ (xs : List Strand). length xs) c.in_ok-strands.ensures.items));
}

room : (known yielded rest left : List Known) (part : Known) (have n : ℕ) → known ≡ yielded ++ rest → rest ≡ part ∷ left → have ≡ length yielded → length known ≡ n → have < n
room known yielded rest left part have n whole is count size =
    omega (arith, ap (λ (xs : List Known). length xs) whole, length-append yielded rest, ap (λ (xs : List Known). length xs) is, count, size)

-- the next one stands behind those that were taken
next-there : (known yielded rest left : List Known) (part : Known) (have : ℕ) → known ≡ yielded ++ rest → rest ≡ part ∷ left → have ≡ length yielded → slice_get known have ≡ Some part
next-there known yielded rest left part have whole is count =
    (λ i. slice_get (whole i) (count i)) ∙ ap (λ (xs : List Known). slice_get (yielded ++ xs) (length yielded)) is ∙ slice_get-middle yielded left part

next-whole : (known yielded rest left : List Known) (part : Known) → known ≡ yielded ++ rest → rest ≡ part ∷ left → known ≡ (yielded ++ part ∷ []) ++ left
next-whole known yielded rest left part whole is = whole ∙ ap (λ (xs : List Known). yielded ++ xs) is ∙ sym (append_assoc yielded (part ∷ []) left)

pub bounds-processes-thread : goal.bounds-processes-thread
bounds-processes-thread c =
    let i = c.loop-part.invariant in
    let low = room c.args.known.items c.loop-part.yielded c.loop-part.part-iterator.rest.items c.next.new.self.rest.items c.in-Some.part (length c.loop-part.strands.items) (length c.args.processes.now)
    i.whole c.in-Some.ensures.steps.0 i.count c.requires.count in
    omega (arith, low, c.len-thread.ensures, c.loop-part.strands.ok)

pub index-requires : goal.index-requires
index-requires c =
    let i = c.loop-part.invariant in
    let low = room c.args.known.items c.loop-part.yielded c.loop-part.part-iterator.rest.items c.next.new.self.rest.items c.in-Some.part (length c.loop-part.strands.items) (length c.args.processes.now)
    i.whole c.in-Some.ensures.steps.0 i.count c.requires.count in
    omega (arith, low, c.len-thread.ensures, c.loop-part.strands.ok, c.in_ok-spawners.ensures.count, length-map c.args.processes.now proc_of, c.in_ok-spawners.spawners.ok)

pub offset_bounds-processes-thread : goal.offset_bounds-processes-thread
offset_bounds-processes-thread c =
    let i = c.loop-part.invariant in
    let low = room c.args.known.items c.loop-part.yielded c.loop-part.part-iterator.rest.items c.next.new.self.rest.items c.in-Some.part (length c.loop-part.strands.items) (length c.args.processes.now)
    i.whole c.in-Some.ensures.steps.0 i.count c.requires.count in
    omega (arith, low, c.len-thread.ensures, c.loop-part.strands.ok, c.requires.few)

pub overflow_cast-thread : goal.overflow_cast-thread
overflow_cast-thread c =
    let i = c.loop-part.invariant in
    let low = room c.args.known.items c.loop-part.yielded c.loop-part.part-iterator.rest.items c.next.new.self.rest.items c.in-Some.part (length c.loop-part.strands.items) (length c.args.processes.now)
    i.whole c.in-Some.ensures.steps.0 i.count c.requires.count in
    omega (arith, low, c.len-thread.ensures, c.loop-part.strands.ok, c.requires.few)

pub gathered-requires-clause-thread : goal.gathered-requires-clause-thread
gathered-requires-clause-thread c =
    let i = c.loop-part.invariant in
    let low = room c.args.known.items c.loop-part.yielded c.loop-part.part-iterator.rest.items c.next.new.self.rest.items c.in-Some.part (length c.loop-part.strands.items) (length c.args.processes.now)
    i.whole c.in-Some.ensures.steps.0 i.count c.requires.count in
    omega (arith, low, c.len-thread.ensures, c.loop-part.strands.ok, c.requires.few)

pub gathered-requires-clause-stopped : goal.gathered-requires-clause-stopped
gathered-requires-clause-stopped c =
    let i = c.loop-part.invariant in
    c.requires.stopped (length c.loop-part.strands.items) c.in-Some.part
    (next-there c.args.known.items c.loop-part.yielded c.loop-part.part-iterator.rest.items c.next.new.self.rest.items c.in-Some.part (length c.loop-part.strands.items) i.whole c.in-Some.ensures.steps.0 i.count)

pub loop-part-preserved : goal.loop-part-preserved
loop-part-preserved c =
    let i = c.loop-part.invariant in
    let ps = c.args.processes.now in
    let known = c.args.known.items in
    let strands = c.loop-part.strands.items in
    let part = c.in-Some.part in
    let rest = c.loop-part.part-iterator.rest.items in
    let left = c.next.new.self.rest.items in
    let thread : ℕ = c.len-thread.result in
    let count : length strands ≡ thread = omega (arith, c.len-thread.ensures, c.loop-part.strands.ok) in
    let low : length strands < length ps = room known c.loop-part.yielded rest left part (length strands) (length ps) i.whole c.in-Some.ensures.steps.0 i.count c.requires.count in
    let process = c.index-processes-thread.result in
    let strand : Strand = c.in_ok-gathered.field-0 in
    let new : List Strand = strands ++ strand ∷ [] in
    let within : thread < length ps = omega (arith, low, count) in
    let there : slice_get (map proc_of ps) (length strands) ≡ Some (proc_of process) =
    ap (slice_get (map proc_of ps)) count ∙ slice_get-map proc_of ps thread
    ∙ ap (option_map proc_of) (slice_get_read ps (length ps) thread process refl within c.index-processes-thread.is) in
    let all = c.in_ok-spawners.spawners.items in
    let who = c.in_ok-spawners.ensures in
    let many : thread < length all = omega (arith, within, who.count, length-map ps proc_of) in
    let by : c.index.result.now ≡ spawner (map proc_of ps) thread =
    who.each thread c.index.result.now (slice_get_read all (length all) thread c.index.result.now refl many c.index.ensures) in
    let is : Gathers (proc_of process) (spawner (map proc_of ps) (length strands)) (length strands) part strand =
    subst (λ (n : ℕ). Gathers (proc_of process) (spawner (map proc_of ps) n) n part strand) (sym count)
    (subst (λ (o : Option ℕ). Gathers (proc_of process) o thread part strand) by c.in_ok-gathered.ensures.gathers) in
    let here : slice_get known (length strands) ≡ Some part = next-there known c.loop-part.yielded rest left part (length strands) i.whole c.in-Some.ensures.steps.0 i.count in
    record {
      whole = next-whole known c.loop-part.yielded rest left part i.whole c.in-Some.ensures.steps.0;
      count = ap (λ (xs : List Strand). length xs) c.in_ok-push.ensures.items ∙ length_push strands strand ∙ ap (λ (n : ℕ). n + 1) i.count ∙ sym (length_push c.loop-part.yielded part);
      gathered = subst (GatheredSo (map proc_of ps) known) (sym {A = List Strand} c.in_ok-push.ensures.items) (gathered-more (map proc_of ps) known strands (proc_of process) part strand there here i.gathered is);
      trees = subst (TreesSo (map tree_of ps) known) (sym {A = List Strand} c.in_ok-push.ensures.items)
          (trees-more (map tree_of ps) known strands (proc_of process) (spawner (map proc_of ps) (length strands)) (length strands) (tree_of process) part strand
          (ap (slice_get (map tree_of ps)) count ∙ slice_get-map tree_of ps thread ∙ ap (option_map tree_of) (slice_get_read ps (length ps) thread process refl within c.index-processes-thread.is))
          here i.trees is c.in_ok-gathered.ensures.tree);
      later = λ quiet t lt. later-more (map proc_of ps) c.loop-part.later (length strands) c.index.result.now i.later
          (by ∙ ap (spawner (map proc_of ps)) (sym count))
          (ap (λ (b : Bool). c.loop-part.later || b) (sym c.is_some.ensures) ∙ quiet) t
          (omega (arith, lt, ap (λ (xs : List Strand). length xs) c.in_ok-push.ensures.items, length_push strands strand));
    }

pub returns-clause-trees : goal.returns-clause-trees
returns-clause-trees c = λ theirs.
    let i = c.loop-part.invariant in
    let whole : length c.args.known.items ≡ length c.loop-part.yielded =
    omega (arith, ap (λ (xs : List Known). length xs) i.whole, length-append c.loop-part.yielded c.loop-part.part-iterator.rest.items, c.in-None.ensures.steps.0, c.loop-part.part-iterator.rest.ok) in
    trees-all (map tree_of c.args.processes.now) c.args.known.items c.loop-part.strands.items
    (omega (arith, i.count, whole, c.requires.count, length-map c.args.processes.now tree_of)) i.trees theirs

pub returns-clause-gathered : goal.returns-clause-gathered
returns-clause-gathered c =
    let i = c.loop-part.invariant in
    let ps = c.args.processes.now in
    let whole : length c.args.known.items ≡ length c.loop-part.yielded =
    omega (arith, ap (λ (xs : List Known). length xs) i.whole, length-append c.loop-part.yielded c.loop-part.part-iterator.rest.items, c.in-None.ensures.steps.0, c.loop-part.part-iterator.rest.ok) in
    record {
      rows_are = refl;
      low = c.requires.rows;
      later = λ quiet t lt. i.later quiet t (omega (arith, lt, i.count, whole, c.requires.count, length-map ps proc_of));
      count = omega (arith, i.count, whole, c.requires.count, length-map ps proc_of);
      each = i.gathered.each;
    }

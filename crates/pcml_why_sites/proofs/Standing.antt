-- The processes of a script by their numbers, how they stand, and what commits give a thread.
use Rattle.std.proofs.Common.{◌≡◌, ℕ, ◌+◌, ◌<◌, List, [], ◌∷◌, ◌++◌, Option, None, Some, ap, get_or, length, map, subst, sym, slice_get, take, ◌∙◌}
use Rattle.std.proofs.lemmas.List.{get_or-map}
use Rattle.std.proofs.lemmas.Option.{get_or_from_slice_get, none-some, same_Some, slice_get-get_or}
use Rattle.script_tree.specs.Processes.{Proc}
use Rattle.protocol_values.specs.declared.Commit.{Commit}
use Rattle.protocol_values.specs.declared.Commit.TheVariants.{Alone, Pair}
use Rattle.protocol_values.specs.declared.Message.TheVariants.{Empty}
use Rattle.protocol_values.specs.declared.RowResult.{RowResult}
use Rattle.protocol_values.specs.Commits.{gives}
use Rattle.thread.specs.After.{Chosen}
use Rattle.thread.specs.Values.{Store}
use Rattle.pcml_why_sites.specs.Stands.{standing_of}
use Rattle.pcml_why_sites.specs.declared.stand.Stand.{Stand}
use Rattle.pcml_why_sites.proofs.Variables.{offers_are_told}
use Rattle.journal_replay.specs.Lines.{trees_in}
use Rattle.journal_replay.specs.Replays.{StandsAfter, TellsEnd}
use Rattle.journal_replay.specs.Runs.{Config, applied, config_of, with_result}
use Rattle.journal_replay.specs.Variables.{TellsVariables}
use Rattle.thread.specs.declared.end.End.{End}
use Rattle.thread.specs.declared.end.End.TheVariants.{Waiting, Ended, Spent, Faulted, Unstarted}
use Rattle.journal_replay.specs.declared.state.State.{State}
use Rattle.journal_replay.proofs.Sounding.{take-one}
use Rattle.journal_replay.proofs.Standing.{config_of-more, result-at, result-other}
use Rattle.journal_replay.proofs.Variables.{waits_with}
use Rattle.pcml_why_sites.specs.Results.{Gives}
use Rattle.pcml_why_sites.specs.Sites.{TellsFault, TellsStand}

-- what stands at a place of a list that a function made
pub process-at : {A : Type 0} (f : A → Proc) (xs : List A) (t : ℕ) (d : A) (p : Proc) → t < length xs → slice_get (map f xs) t ≡ Some p → f (get_or xs t d) ≡ p
process-at f xs t d p lt is = sym (get_or-map f xs t d p lt) ∙ get_or_from_slice_get (map f xs) t p p is

-- HOW A PROCESS STANDS

pub stands_so : (ps : List Proc) (rows t : ℕ) (commits : List Commit) (state : State) (end : End) (variables : Store) (stand : Stand) (p : Proc) → StandsAfter ps rows commits state → TellsEnd state t end → TellsVariables state t variables →
    slice_get ps t ≡ Some p → TellsFault end (standing_of p t (config_of commits t)) stand → TellsStand end (standing_of p t (config_of commits t)) variables stand
stands_so ps rows t commits state Waiting variables stand p stands end tells is fault =
    let told = end ps rows commits stands in
    let w = waits_with ps rows t (config_of commits) (trees_in state) told.0 variables p is told.1 (tells ps rows commits stands) in
    λ store are. offers_are_told p w.tree t (config_of commits t) w.event w.said store w.same w.offers (are ∙ w.are)
stands_so ps rows t commits state (Faulted why) variables stand p stands end tells is fault = fault
stands_so ps rows t commits state Ended variables stand p stands end tells is fault = tt
stands_so ps rows t commits state Spent variables stand p stands end tells is fault = tt
stands_so ps rows t commits state Unstarted variables stand p stands end tells is fault = tt

-- WHAT A COMMIT GIVES

pub gives-one : (thread of : ℕ) (r : Chosen) (old new : List Chosen) → thread ≡ of → new ≡ old ++ r ∷ [] → Gives thread (with_result of r) old new
gives-one thread of r old new same made = λ config is. made ∙ ap (λ (l : List Chosen). l ++ r ∷ []) is ∙ sym (result-at of thread r config same)

-- a result of another thread
pub gives-none : (thread of : ℕ) (r : Chosen) (old : List Chosen) → (thread ≡ of → ⊥) → Gives thread (with_result of r) old old
gives-none thread of r old other = λ config is. is ∙ sym (result-other of thread r config other)

pub gives-both : (thread : ℕ) (f g : Config → Config) (old middle new : List Chosen) → Gives thread f old middle → Gives thread g middle new → Gives thread (λ config. g (f config)) old new
gives-both thread f g old middle new first second = λ config is. second (f config) (first config is)

-- what a commit gives its rows is what it does
pub gives-pair : (thread : ℕ) (c : Commit) (first second : RowResult) (old middle new : List Chosen) → gives c ≡ (first, Some second) → Gives thread (with_result first.at.0.thread (first.at.1, first.message)) old middle →
    Gives thread (with_result second.at.0.thread (second.at.1, second.message)) middle new → Gives thread (λ config. applied config c) old new
gives-pair thread (Pair sender receiver chan msg stamp) first second old middle new is one two =
    gives-both thread (with_result sender.0.thread (sender.1, Empty)) (with_result receiver.0.thread (receiver.1, msg)) old middle new
    (subst (λ (r : RowResult). Gives thread (with_result r.at.0.thread (r.at.1, r.message)) old middle) (sym (ap (λ (z : RowResult × Option RowResult). z.0) is)) one)
    (subst (λ (r : RowResult). Gives thread (with_result r.at.0.thread (r.at.1, r.message)) middle new) (sym (same_Some _ second (ap (λ (z : RowResult × Option RowResult). z.1) is))) two)
gives-pair thread (Alone at why stamp) first second old middle new is one two = absurd (none-some second (ap (λ (z : RowResult × Option RowResult). z.1) is))

pub gives-alone : (thread : ℕ) (c : Commit) (only : RowResult) (old new : List Chosen) → gives c ≡ (only, None) → Gives thread (with_result only.at.0.thread (only.at.1, only.message)) old new → Gives thread (λ config. applied config c) old new
gives-alone thread (Pair sender receiver chan msg stamp) only old new is one = absurd (none-some _ (sym (ap (λ (z : RowResult × Option RowResult). z.1) is)))
gives-alone thread (Alone at why stamp) only old new is one =
    subst (λ (r : RowResult). Gives thread (with_result r.at.0.thread (r.at.1, r.message)) old new) (sym (ap (λ (z : RowResult × Option RowResult). z.0) is)) one

-- one more commit
pub results-more : (commits : List Commit) (thread i : ℕ) (e : Commit) (old new : List Chosen) → i < length commits → old ≡ config_of (take i commits) thread → Gives thread (λ config. applied config (get_or commits i e)) old new →
    new ≡ config_of (take (i + 1) commits) thread
results-more commits thread i e old new lt is gives =
    let d = get_or commits i e in
    gives (config_of (take i commits)) is
    ∙ ap (λ (config : Config). config thread) (sym (ap config_of (take-one commits i d (slice_get-get_or commits i e lt) lt) ∙ config_of-more (take i commits) d))

-- Machines at rest.
use Rattle.std.proofs.Common.{Option, ◌≡◌, ◌⊎◌, ℕ, List, [], ◌∷◌, ◌++◌, sym, subst, inl, inr, ⊎_elim}
use Rattle.std.proofs.lemmas.List.Elements.{All-append}
use Rattle.thread.specs.After.{Chosen}
use Rattle.thread.specs.Machines.{Broken, HasStopped, Open, Over, Phase, Ready, Stuck, Tells}
use Rattle.thread.specs.declared.Fault.{Fault}
use Rattle.thread.specs.declared.machine.Turn.{Turn}
use Rattle.thread.specs.declared.machine.Turn.TheVariants as turn
use Rattle.protocol_values.specs.declared.Row.{Row}
use Rattle.cell_table.specs.Sight.{Has}
use Rattle.cell.specs.Calls.{PassOf}
use Rattle.runtime_worker.specs.declared.resident.Rest.{Rest}
use Rattle.runtime_worker.specs.declared.resident.Suspended.{Suspended}
use Rattle.runtime_worker.specs.Machines.{AreAtRest, IsAtEnd, IsAtRest, IsNow}
use Rattle.cell.proofs.Lists.{all_one}

-- a turn tells of a machine that has stopped
pub tells_stopped : (t : Turn) (p : Phase) → Tells t p → HasStopped p
tells_stopped t Ready h = absurd (ready t h)
  where
    ready : (t : Turn) → Tells t Ready → ⊥
    ready turn.Offering h = h
    ready turn.Ended h = h
    ready (turn.Faulted fault) h = h
tells_stopped t (Open os ns) h = tt
tells_stopped t Over h = tt
tells_stopped t (Stuck fault) h = tt
tells_stopped t Broken h = absurd (broken t h)
  where
    broken : (t : Turn) → Tells t Broken → ⊥
    broken turn.Offering h = h
    broken turn.Ended h = h
    broken (turn.Faulted fault) h = h

-- a turn that is no offer tells of one that has come to its end, or to a fault
pub tells_over : (t : Turn) (p : Phase) → (t ≡ turn.Ended) ⊎ ((fault : Fault) × (t ≡ turn.Faulted fault)) → Tells t p → IsAtEnd p
tells_over t p is tells = ⊎_elim
    (λ e. ended p (subst (λ (x : Turn). Tells x p) e tells))
    (λ w. faulted p w.0 (subst (λ (x : Turn). Tells x p) w.1 tells))
    is
  where
    ended : (p : Phase) → Tells turn.Ended p → IsAtEnd p
    ended Over h = tt
    ended Ready h = absurd h
    ended (Open os ns) h = absurd h
    ended (Stuck fault) h = absurd h
    ended Broken h = absurd h

    faulted : (p : Phase) (fault : Fault) → Tells (turn.Faulted fault) p → IsAtEnd p
    faulted Over fault h = absurd h
    faulted Ready fault h = absurd h
    faulted (Open os ns) fault h = absurd h
    faulted (Stuck found) fault h = tt
    faulted Broken fault h = absurd h

-- the machine that a worker has comes to rest
pub rest_now : (first : List (Option Suspended)) (p : PassOf Suspended) (place : Row) (m : Suspended) (told : List (ℕ × List Chosen)) → IsNow first p place m → HasStopped m.machine.value.phase → told ≡ p.results →
    IsAtRest first told (record { thread = place.thread; suspended = m })
rest_now first p place m told now stopped same = record {
  results = now.earlier;
  machine = now.machine;
  stopped = stopped;
  seen = subst (λ (l : List (ℕ × List Chosen)). (now.earlier ≡ []) ⊎ Has l (place.thread, now.earlier)) (sym same) now.seen;
}

rest_told : (first : List (Option Suspended)) (old new : List (ℕ × List Chosen)) (r : Rest) → ((t : ℕ) (results : List Chosen) → Has old (t, results) → Has new (t, results)) → IsAtRest first old r → IsAtRest first new r
rest_told first old new r more h =
    record { results = h.results; machine = h.machine; stopped = h.stopped; seen = ⊎_elim (λ e. inl e) (λ has. inr (more r.thread h.results has)) h.seen }

-- whoever has more results has those of the machines at rest
pub rests_told : (first : List (Option Suspended)) (old new : List (ℕ × List Chosen)) (rests : List Rest) → ((t : ℕ) (results : List Chosen) → Has old (t, results) → Has new (t, results)) → AreAtRest first old rests → AreAtRest first new rests
rests_told first old new rests more all = λ k d lt. rest_told first old new _ more (all k d lt)

pub rests_same : (first : List (Option Suspended)) (old new : List (ℕ × List Chosen)) (rests : List Rest) → new ≡ old → AreAtRest first old rests → AreAtRest first new rests
rests_same first old new rests same all = subst (λ (l : List (ℕ × List Chosen)). AreAtRest first l rests) (sym same) all

-- one more is at rest
pub rests_more : (first : List (Option Suspended)) (told : List (ℕ × List Chosen)) (rests : List Rest) (r : Rest) → AreAtRest first told rests → IsAtRest first told r → AreAtRest first told (rests ++ r ∷ [])
rests_more first told rests r all one = All-append (IsAtRest first told) rests (r ∷ []) all (all_one (IsAtRest first told) r one)

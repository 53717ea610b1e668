-- Where threads are on their courses: what their starts and ends say of their rows.
use Rattle.std.specs.Prelude.{⊤}
use Rattle.std.proofs.Common.{◌≡◌, ℕ, List, zero, suc, ◌+◌, ◌<◌, ◌≤◌, true, false, sym, refl, ap, ◌∙◌, subst, inl, ⊎_elim, arith}
use Rattle.std.proofs.lemmas.Bool.{cases_lt, false≢true}
use Rattle.std.proofs.Math.Nat.{eq-or-lt_of_le}
use Rattle.protocol_values.specs.declared.Cell.{Cell}
use Rattle.protocol_values.specs.declared.Cell.TheVariants.{Fresh, Waiting, Claimed, Synched, Taken}
use Rattle.protocol_values.specs.declared.Course.{Course}
use Rattle.protocol_values.specs.declared.Course.TheVariants.{Unstarted, Running, Ended}
use Rattle.protocol_values.specs.declared.Row.{Row}
use Rattle.protocol_values.specs.declared.Step.{Step}
use Rattle.protocol_values.specs.declared.Step.TheVariants.{Draft, Open, Look, Read, Claim, Yield, Join, Seal, Grant, Take, Bind, Start, Finish}
use Rattle.protocol_ledger.specs.Growing.{GoesOn}
use Rattle.protocol_ledger.specs.Kept.{Kept}
use Rattle.protocol_ledger.specs.Ledgers.{LivesAt}
use Rattle.protocol_ledger.specs.Tables.{Table, cell_at, course_at, is_fresh, is_taken}
use Rattle.protocol_ledger.specs.Worlds.{HasEnded, World}
use Rattle.protocol_ledger.proofs.Keeping.{taken_before}
use Rattle.protocol_ledger.proofs.Linking.{taken_open}
use Rattle.protocol_ledger.proofs.Readings.{course_outside}
use Rattle.protocol_ledger.specs.Acting.{EndedAs, EndsAt, HasStart, StartedAs}
use Rattle.protocol_ledger.specs.Standing.{Result}

pub one_end_of : (c : Course) (a b : ℕ) → EndsAt c a → EndsAt c b → a ≡ b
one_end_of Unstarted a b g h = absurd g
one_end_of (Running start) a b g h = absurd g
one_end_of (Ended start sync) a b g h = sym g ∙ h

pub ends_is : (c : Course) (g : ℕ) → EndsAt c g → (start : ℕ) × (c ≡ Ended start g)
ends_is Unstarted g h = absurd h
ends_is (Running start) g h = absurd h
ends_is (Ended start sync) g h = (start, ap (Ended start) h)

pub ended_some : (c : Course) → HasEnded c → (g : ℕ) × EndsAt c g
ended_some Unstarted h = absurd h
ended_some (Running start) h = absurd h
ended_some (Ended start sync) h = (sync, refl)

pub has_started : (t : Table) (p stamp : ℕ) → HasStart (course_at t p) stamp → p < t.threads
has_started t p stamp h = ⊎_elim
    (λ (low : p < t.threads). low)
    (λ (out : t.threads ≤ p). absurd (subst (λ (c : Course). HasStart c stamp) (course_outside t p out) h))
    (cases_lt p t.threads)

pub has_ended : (t : Table) (p g : ℕ) → EndsAt (course_at t p) g → p < t.threads
has_ended t p g h = ⊎_elim
    (λ (low : p < t.threads). low)
    (λ (out : t.threads ≤ p). absurd (subst (λ (c : Course). EndsAt c g) (course_outside t p out) h))
    (cases_lt p t.threads)

-- a cell that is Fresh is nothing else
pub fresh_is : (c : Cell) → is_fresh c ≡ true → c ≡ Fresh
fresh_is Fresh h = refl
fresh_is Waiting h = absurd (false≢true h)
fresh_is Claimed h = absurd (false≢true h)
fresh_is (Synched i) h = absurd (false≢true h)
fresh_is (Taken i) h = absurd (false≢true h)

-- what goes on keeps its end
pub end_stays : (c d : Course) (g : ℕ) → GoesOn c d → EndsAt c g → EndsAt d g
end_stays Unstarted d g on h = absurd h
end_stays (Running start) d g on h = absurd h
end_stays (Ended start sync) d g on h = subst (λ (x : Course). EndsAt x g) (sym on) h

-- an opened row lies before the end of its thread
lives_before : (c : Course) (g end : ℕ) → LivesAt c g → EndsAt c end → g < end
lives_before Unstarted g end h e = absurd e
lives_before (Running start) g end h e = absurd e
lives_before (Ended start sync) g end h e = subst (λ (n : ℕ). g < n) e h

pub opened_before : (w : World) (r : Row) (g : ℕ) → Kept w → is_fresh (cell_at w.table r) ≡ false → EndsAt (course_at w.table r.thread) g → r.sync < g
opened_before w r g k opened e = lives_before (course_at w.table r.thread) r.sync g (k.linked.lived r opened) e

-- a thread that has ended did so behind rows of its own
pub ended_within : (w : World) (t g : ℕ) → Kept w → EndsAt (course_at w.table t) g → g ≤ w.table.rows
ended_within w t zero k at = omega arith
ended_within w t (suc g) k at =
    let e = ends_is (course_at w.table t) (suc g) at in
    let taken = k.linked.ended t e.0 g (e.1 ∙ ap (Ended e.0) (let n : suc g ≡ g + 1 = omega arith in n)) in
    let inside = k.linked.inside (record { thread = t; sync = g }) (taken_open (cell_at w.table (record { thread = t; sync = g })) taken) in
    (let low = inside.1 in omega (arith, low))

-- and all rows before are taken
pub taken_below : (w : World) (r : Row) (g : ℕ) → Kept w → EndsAt (course_at w.table r.thread) g → r.sync < g → is_taken (cell_at w.table r) ≡ true
taken_below w r zero k at below = absurd (omega (arith, below))
taken_below w r (suc g) k at below =
    let e = ends_is (course_at w.table r.thread) (suc g) at in
    let last : Row = record { thread = r.thread; sync = g } in
    let taken : is_taken (cell_at w.table last) ≡ true = k.linked.ended r.thread e.0 g (e.1 ∙ ap (Ended e.0) (let n : suc g ≡ g + 1 = omega arith in n)) in
    ⊎_elim
    (λ (same : r.sync ≡ g). ap (λ (n : ℕ). is_taken (cell_at w.table (record { thread = r.thread; sync = n }))) same ∙ taken)
    (λ (low : r.sync < g). taken_before w k r last refl low (inl (taken_open (cell_at w.table last) taken)))
    (eq-or-lt_of_le (let l : r.sync ≤ g = omega (arith, below) in l))

-- a step that starts no thread, and ends none
abbrev pub KeepsLives : Step → Type 0
KeepsLives (Draft r p x) = ⊤
KeepsLives (Open r) = ⊤
KeepsLives (Look r) = ⊤
KeepsLives (Read r p) = ⊤
KeepsLives (Claim r) = ⊤
KeepsLives (Yield r) = ⊤
KeepsLives (Join m i o n) = ⊤
KeepsLives (Seal r) = ⊤
KeepsLives (Grant r n) = ⊤
KeepsLives (Take r) = ⊤
KeepsLives (Bind k r scope) = ⊤
KeepsLives (Start r p) = ⊥
KeepsLives (Finish r) = ⊥

-- asks for nothing of what starts and ends
pub plain_lives : (starts : ℕ → List Result → ℕ → Type 0) (ends : ℕ → List Result → Type 0) (t : Table) (step : Step) → KeepsLives step → StartedAs starts t step × EndedAs ends t step
plain_lives starts ends t (Draft r p x) still = (tt, tt)
plain_lives starts ends t (Open r) still = (tt, tt)
plain_lives starts ends t (Look r) still = (tt, tt)
plain_lives starts ends t (Read r p) still = (tt, tt)
plain_lives starts ends t (Claim r) still = (tt, tt)
plain_lives starts ends t (Yield r) still = (tt, tt)
plain_lives starts ends t (Join m i o n) still = (tt, tt)
plain_lives starts ends t (Seal r) still = (tt, tt)
plain_lives starts ends t (Grant r n) still = (tt, tt)
plain_lives starts ends t (Take r) still = (tt, tt)
plain_lives starts ends t (Bind k r scope) still = (tt, tt)
plain_lives starts ends t (Start r p) still = absurd still
plain_lives starts ends t (Finish r) still = absurd still

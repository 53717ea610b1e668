-- Readers of rows and of seats, and of what stands behind them.
use Rattle.std.proofs.Common.{◌≡◌, ℕ, ◌^◌, ◌<◌, ◌≤◌, ◌⊎◌, List, [], ◌∷◌, ◌++◌, Option, Some, None, IfSome, refl, ap, ◌∙◌, append_assoc, arith, inl, inr}
use Rattle.std.specs.Fmt.{decimal}
use Rattle.protocol_values.specs.Words.{IsRowInRange}
use Rattle.protocol_values.specs.declared.Row.{Row}
use Rattle.digits.specs.Reading.{number_at, count_at}
use Rattle.digits.proofs.Forms.{Reads, both, made, ended, leadings, numbers, counts, either, Either, choice, settled}
use Rattle.protocol.specs.Schedule.{row_text, started_text, IsStandInRange}
use Rattle.protocol.specs.Reading.{sync_at, row_at, stand_at, placed_at, seats_alone_at, seats_started_at, seats_at}

-- ---- rows

abbrev pub row_ended : ℕ → Row → List ℕ
row_ended end r = row_text r ++ end ∷ []

-- rows that are read up to a last sync, as the rows of a range
syncs : (last end : ℕ) (InRange : Row → Type 0) → last < 2 ^ 64 → end < 48
    → ((r : Row) → r.thread ≤ 63 → r.sync ≤ last → InRange r) → ((r : Row) → InRange r → (r.thread ≤ 63) × (r.sync ≤ last))
    → Reads {X = Row} (λ r. r) (sync_at last end) (row_ended end) InRange
unfolding sync_at
syncs last end InRange small low there back =
    settled (row_ended end) InRange
    (both (λ thread sync. record { thread = thread; sync = sync }) (numbers 63 46 (omega arith) (omega arith)) (numbers last end small low))
    (λ x fits. (simp append_assoc, there (record { thread = x.0; sync = x.1 }) fits.0 fits.1))
    (λ r fits. ((r.thread, r.sync), refl, back r fits))

pub rows : (end : ℕ) → end < 48 → Reads {X = Row} (λ r. r) (row_at end) (row_ended end) IsRowInRange
rows end low =
    syncs 1023 end IsRowInRange (omega arith) low
    (λ r thread sync. record { thread = omega (arith, thread); sync = omega (arith, sync) })
    (λ r fits. (omega (arith, fits.thread), omega (arith, fits.sync)))

pub stands : (end : ℕ) → end < 48 → Reads {X = Row} (λ r. r) (stand_at end) (row_ended end) IsStandInRange
stands end low =
    syncs 1024 end IsStandInRange (omega arith) low
    (λ r thread sync. record { thread = omega (arith, thread); sync = sync })
    (λ r fits. (omega (arith, fits.thread), fits.sync))

-- a row, a space, and a number
pub placed : (limit end : ℕ) → limit < 2 ^ 64 → end < 48
    → Reads {X = Row × ℕ} (λ p. p) (placed_at limit end) (λ p. row_ended 32 p.0 ++ ended end p.1) (λ p. IsRowInRange p.0 × (p.1 ≤ limit))
unfolding placed_at
placed limit end small low = both (λ row place. (row, place)) (rows 32 (omega arith)) (numbers limit end small low)

-- ---- seats

-- the seats with what stands behind them, and the line's end
abbrev pub seats_text : ℕ × Option ℕ → List ℕ
seats_text x = decimal x.0 ++ started_text x.1 ++ 10 ∷ []

abbrev pub AreSeats : ℕ → ℕ × Option ℕ → Type 0
AreSeats threads x = ((1 ≤ x.0) × (x.0 ≤ 16)) × IfSome x.1 (λ n. (1 ≤ n) × (n ≤ threads))

alone : Reads {X = ℕ} (λ n. (n, None)) seats_alone_at (ended 10) (λ n. (1 ≤ n) × (n ≤ 16))
unfolding seats_alone_at
alone = made (λ n. (n, None)) (counts 16 10 (omega arith) (omega arith))

module _ (threads : ℕ) (small : threads < 2 ^ 64) where
  started : Reads {X = ℕ × ℕ} (λ p. (p.0, Some p.1)) (seats_started_at threads) (λ p. ended 32 p.0 ++ ended 10 p.1) (λ p. ((1 ≤ p.0) × (p.0 ≤ 16)) × ((1 ≤ p.1) × (p.1 ≤ threads)))
  unfolding seats_started_at
  started = both (λ n started. (n, Some started)) (counts 16 32 (omega arith) (omega arith)) (counts threads 10 small (omega arith))

  -- seats with a space behind them do not end the line
  apart : (p : ℕ × ℕ) (rest : List ℕ) → ((1 ≤ p.0) × (p.0 ≤ 16)) × ((1 ≤ p.1) × (p.1 ≤ threads)) → seats_alone_at ((ended 32 p.0 ++ ended 10 p.1) ++ rest) ≡ None
  unfolding seats_alone_at count_at number_at
  apart p rest fits =
      ap seats_alone_at (append_assoc (ended 32 p.0) (ended 10 p.1) rest)
      ∙ rw ((leadings 16 (omega arith)).again (p.0, 32) (ended 10 p.1 ++ rest) (fits.0.1, omega arith)) refl

  abbrev Two : Type 0
  Two = ℕ ⊎ (ℕ × ℕ)

  abbrev seats_of : Two → ℕ × Option ℕ
  seats_of x = either (λ n. (n, None)) (λ p. (p.0, Some p.1)) x

  abbrev two_text : Two → List ℕ
  two_text x = either (ended 10) (λ p. ended 32 p.0 ++ ended 10 p.1) x

  abbrev AreTwo : Two → Type 0
  AreTwo x = Either (λ n. (1 ≤ n) × (n ≤ 16)) (λ p. ((1 ≤ p.0) × (p.0 ≤ 16)) × ((1 ≤ p.1) × (p.1 ≤ threads))) x

  in_parts : Reads {X = Two} seats_of (seats_at threads) two_text AreTwo
  unfolding seats_at
  in_parts = choice alone started apart

  there : (x : Two) → AreTwo x → (two_text x ≡ seats_text (seats_of x)) × AreSeats threads (seats_of x)
  there (inl n) fits = (simp append_assoc, (fits, tt))
  there (inr p) fits = (simp append_assoc, fits)

  back : (x : ℕ × Option ℕ) → AreSeats threads x → (y : Two) × (seats_of y ≡ x) × AreTwo y
  back (n, None) fits = (inl n, refl, fits.0)
  back (n, Some k) fits = (inr (n, k), refl, fits)

  pub seats : Reads {X = ℕ × Option ℕ} (λ x. x) (seats_at threads) seats_text (AreSeats threads)
  seats = settled seats_text (AreSeats threads) in_parts there back

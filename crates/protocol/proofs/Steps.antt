-- A step that is read is the step that its words say, and the other way round; likewise a line.
use Rattle.std.proofs.Common.{◌≡◌, ℕ, ◌≤◌, Bool, true, false, cond, List, ◌∷◌, ◌++◌, length, drop, codes, Option, Some, refl, sym, ap, subst, ◌∙◌, append_assoc, arith}
use Rattle.std.proofs.lemmas.Option.{some_pair_parts}
use Rattle.std.specs.Fmt.{decimal}
use Rattle.protocol_values.specs.Words.{IsRowInRange}
use Rattle.protocol_values.specs.declared.Row.{Row}
use Rattle.protocol_values.specs.declared.Seat.{Seat}
use Rattle.protocol_values.specs.declared.Step.{Step}
use Rattle.protocol_values.specs.declared.Step.TheVariants.{Draft, Open, Look, Read, Claim, Yield, Join, Seal, Grant, Take, Bind, Start, Finish}
use Rattle.protocol.specs.declared.schedule.Size.{Size}
use Rattle.protocol.specs.Schedule.{row_text, step_text, step_line, world_line, IsStandInRange, IsStep, IsSeatStep, IsSize}
use Rattle.digits.specs.Reading.{◌>>=◌, number_at, count_at, begins, after_word}
use Rattle.protocol.specs.Reading.{draft_at, read_at, join_at, grant_at, bind_at, start_at, finish_at, alone_at, row_step_at, step_at, step_line_at, seats_at, world_line_at}
use Rattle.digits.proofs.Numbers.{bind_some, chosen_some}
use Rattle.digits.proofs.Forms.{Reads, both, made, ended, numbers, counts, word_takes}
use Rattle.protocol.proofs.Forms.{row_ended, rows, stands, placed, seats, seats_text, AreSeats}

-- ---- what each kind is done to

alones : (step : Row → Step) → Reads {X = Row} step (alone_at step) (row_ended 10) IsRowInRange
alones step = made step (rows 10 (omega arith))

drafts : Reads {X = (Row × ℕ) × ℕ} (λ p. Draft p.0.0 p.0.1 p.1) draft_at (λ p. (row_ended 32 p.0.0 ++ ended 32 p.0.1) ++ ended 10 p.1) (λ p. (IsRowInRange p.0.0 × (p.0.1 ≤ 33)) × (p.1 ≤ 18446744073709551615))
unfolding draft_at
drafts = both (λ to value. Draft to.0 to.1 value) (placed 33 32 (omega arith) (omega arith)) (numbers 18446744073709551615 10 (omega arith) (omega arith))

reads : Reads {X = Row × ℕ} (λ p. Read p.0 p.1) read_at (λ p. row_ended 32 p.0 ++ ended 10 p.1) (λ p. IsRowInRange p.0 × (p.1 ≤ 33))
unfolding read_at
reads = made (λ from. Read from.0 from.1) (placed 33 10 (omega arith) (omega arith))

joins : Reads {X = (Row × ℕ) × (Row × ℕ)} (λ p. Join p.0.0 p.0.1 p.1.0 p.1.1) join_at (λ p. (row_ended 32 p.0.0 ++ ended 32 p.0.1) ++ (row_ended 32 p.1.0 ++ ended 10 p.1.1)) (λ p. (IsRowInRange p.0.0 × (p.0.1 ≤ 7)) × (IsRowInRange p.1.0 × (p.1.1 ≤ 7)))
unfolding join_at
joins = both (λ mine other. Join mine.0 mine.1 other.0 other.1) (placed 7 32 (omega arith) (omega arith)) (placed 7 10 (omega arith) (omega arith))

grants : Reads {X = Row × ℕ} (λ p. Grant p.0 p.1) grant_at (λ p. row_ended 32 p.0 ++ ended 10 p.1) (λ p. IsRowInRange p.0 × (p.1 ≤ 7))
unfolding grant_at
grants = made (λ at. Grant at.0 at.1) (placed 7 10 (omega arith) (omega arith))

binds : Reads {X = ℕ × (Row × ℕ)} (λ p. Bind p.0 p.1.0 p.1.1) bind_at (λ p. ended 32 p.0 ++ (row_ended 32 p.1.0 ++ ended 10 p.1.1)) (λ p. (p.0 ≤ 63) × (IsRowInRange p.1.0 × (p.1.1 ≤ 3)))
unfolding bind_at
binds = both (λ nack to. Bind nack to.0 to.1) (numbers 63 32 (omega arith) (omega arith)) (placed 3 10 (omega arith) (omega arith))

starts : Reads {X = Row × ℕ} (λ p. Start p.0 p.1) start_at (λ p. row_ended 32 p.0 ++ ended 10 p.1) (λ p. IsStandInRange p.0 × (p.1 ≤ 63))
unfolding start_at
starts = both (λ row thread. Start row thread) (stands 32 (omega arith)) (numbers 63 10 (omega arith) (omega arith))

finishes : Reads {X = Row} (λ r. Finish r) finish_at (row_ended 10) IsStandInRange
unfolding finish_at
finishes = made (λ r. Finish r) (stands 10 (omega arith))

-- ---- a step

-- what was read as a step is its text, and a line's end behind it
pub record IsRead (bytes : List ℕ) (s : Step) (rest : List ℕ) : Type 0 where
  pub parts : bytes ≡ step_text s ++ 10 ∷ rest
  pub fits : IsStep s

-- what a reader read behind the word of its step
read_behind : {X : Type 0} {make : X → Step} {read : List ℕ → Option (Step × List ℕ)} {text : X → List ℕ} {Fits : X → Type 0} → Reads make read text Fits → (word : List ℕ)
    → ((x : X) (rest : List ℕ) → word ++ (text x ++ rest) ≡ step_text (make x) ++ 10 ∷ rest) → ((x : X) → Fits x → IsStep (make x))
    → (bytes : List ℕ) (s : Step) (rest : List ℕ) → begins bytes word ≡ true → read (drop (length word) bytes) ≡ Some (s, rest) → IsRead bytes s rest
read_behind {make = make} {text = text} reader word same ranges bytes s rest word_is e =
    let t = reader.takes (drop (length word) bytes) s rest e in
    let whole : bytes ≡ step_text (make t.from) ++ 10 ∷ rest = word_takes word bytes word_is ∙ ap (λ (y : List ℕ). word ++ y) t.parts ∙ same t.from rest in
    subst (λ (y : Step). IsRead bytes y rest) (sym t.value) (record { parts = whole; fits = ranges t.from t.fits })

read_alone : (step : Row → Step) (word : List ℕ) → ((r : Row) → step_text (step r) ≡ word ++ row_text r) → ((r : Row) → IsRowInRange r → IsStep (step r))
    → (bytes : List ℕ) (s : Step) (rest : List ℕ) → begins bytes word ≡ true → alone_at step (drop (length word) bytes) ≡ Some (s, rest) → IsRead bytes s rest
read_alone step word text ranges = read_behind (alones step) word (λ r rest. rw text (simp append_assoc)) ranges

read_draft : (bytes : List ℕ) (s : Step) (rest : List ℕ) → begins bytes (codes "draft ") ≡ true → draft_at (drop 6 bytes) ≡ Some (s, rest) → IsRead bytes s rest
read_draft = read_behind drafts (codes "draft ") (λ x rest. simp append_assoc) (λ x fits. (fits.0.0, fits.0.1, omega (arith, fits.1)))

read_read : (bytes : List ℕ) (s : Step) (rest : List ℕ) → begins bytes (codes "read ") ≡ true → read_at (drop 5 bytes) ≡ Some (s, rest) → IsRead bytes s rest
read_read = read_behind reads (codes "read ") (λ x rest. simp append_assoc) (λ x fits. fits)

read_join : (bytes : List ℕ) (s : Step) (rest : List ℕ) → begins bytes (codes "join ") ≡ true → join_at (drop 5 bytes) ≡ Some (s, rest) → IsRead bytes s rest
read_join = read_behind joins (codes "join ") (λ x rest. simp append_assoc) (λ x fits. (fits.0.0, fits.0.1, fits.1.0, fits.1.1))

read_grant : (bytes : List ℕ) (s : Step) (rest : List ℕ) → begins bytes (codes "grant ") ≡ true → grant_at (drop 6 bytes) ≡ Some (s, rest) → IsRead bytes s rest
read_grant = read_behind grants (codes "grant ") (λ x rest. simp append_assoc) (λ x fits. fits)

-- what stands behind the word of a bind, part by part
bind_parts : (k : ℕ) (r : Row) (scope : ℕ) (rest : List ℕ) → (decimal k ++ codes " " ++ row_text r ++ codes " " ++ decimal scope) ++ 10 ∷ rest ≡ (ended 32 k ++ (row_ended 32 r ++ ended 10 scope)) ++ rest
bind_parts k r scope rest = simp append_assoc

read_bind : (bytes : List ℕ) (s : Step) (rest : List ℕ) → begins bytes (codes "bind ") ≡ true → bind_at (drop 5 bytes) ≡ Some (s, rest) → IsRead bytes s rest
read_bind = read_behind binds (codes "bind ") (λ x rest. ap (λ (y : List ℕ). codes "bind " ++ y) (sym (bind_parts x.0 x.1.0 x.1.1 rest))) (λ x fits. (fits.0, fits.1.0, fits.1.1))

read_start : (bytes : List ℕ) (s : Step) (rest : List ℕ) → begins bytes (codes "start ") ≡ true → start_at (drop 6 bytes) ≡ Some (s, rest) → IsRead bytes s rest
read_start = read_behind starts (codes "start ") (λ x rest. simp append_assoc) (λ x fits. fits)

read_finish : (bytes : List ℕ) (s : Step) (rest : List ℕ) → begins bytes (codes "finish ") ≡ true → finish_at (drop 7 bytes) ≡ Some (s, rest) → IsRead bytes s rest
read_finish = read_behind finishes (codes "finish ") (λ r rest. simp append_assoc) (λ r fits. fits)

-- the first test of a chain
otherwise : {A : Type 0} (b : Bool) (x y z : A) (P : Type 0) → cond b x y ≡ z → (b ≡ true → x ≡ z → P) → (y ≡ z → P) → P
otherwise true x y z P e found other = found refl e
otherwise false x y z P e found other = other e

row_step_takes : (bytes : List ℕ) (s : Step) (rest : List ℕ) → row_step_at bytes ≡ Some (s, rest) → IsRead bytes s rest
unfolding row_step_at
row_step_takes bytes s rest e =
    otherwise _ _ _ _ _ e (read_alone (λ r. Open r) (codes "open ") (λ r. refl) (λ r h. h) bytes s rest) (λ e.
    otherwise _ _ _ _ _ e (read_alone (λ r. Look r) (codes "look ") (λ r. refl) (λ r h. h) bytes s rest) (λ e.
    otherwise _ _ _ _ _ e (read_alone (λ r. Claim r) (codes "claim ") (λ r. refl) (λ r h. h) bytes s rest) (λ e.
    otherwise _ _ _ _ _ e (read_alone (λ r. Yield r) (codes "yield ") (λ r. refl) (λ r h. h) bytes s rest) (λ e.
    otherwise _ _ _ _ _ e (read_alone (λ r. Seal r) (codes "seal ") (λ r. refl) (λ r h. h) bytes s rest) (λ e.
    otherwise _ _ _ _ _ e (read_alone (λ r. Take r) (codes "take ") (λ r. refl) (λ r h. h) bytes s rest) (λ e. absurd cc))))))

pub step_takes : (bytes : List ℕ) (s : Step) (rest : List ℕ) → step_at bytes ≡ Some (s, rest) → IsRead bytes s rest
unfolding step_at
step_takes bytes s rest e =
    otherwise _ _ _ _ _ e (read_draft bytes s rest) (λ e.
    otherwise _ _ _ _ _ e (read_read bytes s rest) (λ e.
    otherwise _ _ _ _ _ e (read_join bytes s rest) (λ e.
    otherwise _ _ _ _ _ e (read_grant bytes s rest) (λ e.
    otherwise _ _ _ _ _ e (read_bind bytes s rest) (λ e.
    otherwise _ _ _ _ _ e (read_start bytes s rest) (λ e.
    otherwise _ _ _ _ _ e (read_finish bytes s rest) (row_step_takes bytes s rest)))))))

again_alone : (step : Row → Step) (r : Row) (rest : List ℕ) → IsRowInRange r → alone_at step (row_text r ++ 10 ∷ rest) ≡ Some (step r, rest)
again_alone step r rest fits = ap (alone_at step) (simp append_assoc) ∙ (alones step).again r rest fits

pub step_again : (s : Step) (rest : List ℕ) → IsStep s → step_at (step_text s ++ 10 ∷ rest) ≡ Some (s, rest)
unfolding step_at row_step_at
step_again (Draft r place value) rest fits = ap draft_at (simp append_assoc) ∙ drafts.again ((r, place), value) rest ((fits.0, fits.1), omega (arith, fits.2))
step_again (Open r) rest fits = again_alone (λ r. Open r) r rest fits
step_again (Look r) rest fits = again_alone (λ r. Look r) r rest fits
step_again (Read r place) rest fits = ap read_at (simp append_assoc) ∙ reads.again (r, place) rest fits
step_again (Claim r) rest fits = again_alone (λ r. Claim r) r rest fits
step_again (Yield r) rest fits = again_alone (λ r. Yield r) r rest fits
step_again (Join mine own other partner) rest fits =
    ap join_at (simp append_assoc) ∙ joins.again ((mine, own), (other, partner)) rest ((fits.0, fits.1), (fits.2, fits.3))
step_again (Seal r) rest fits = again_alone (λ r. Seal r) r rest fits
step_again (Grant r offer) rest fits = ap grant_at (simp append_assoc) ∙ grants.again (r, offer) rest fits
step_again (Take r) rest fits = again_alone (λ r. Take r) r rest fits
step_again (Bind k r scope) rest fits = ap bind_at (bind_parts k r scope rest) ∙ binds.again (k, (r, scope)) rest (fits.0, (fits.1, fits.2))
step_again (Start r thread) rest fits = ap start_at (simp append_assoc) ∙ starts.again (r, thread) rest fits
step_again (Finish r) rest fits = ap finish_at (simp append_assoc) ∙ finishes.again r rest fits

-- ---- lines

pub record IsReadLine (bytes : List ℕ) (s : Seat × Step) (rest : List ℕ) : Type 0 where
  pub parts : bytes ≡ step_line s ++ rest
  pub fits : IsSeatStep s

callers : Reads {X = ℕ} (λ n. n) (number_at 15 32) (ended 32) (λ n. n ≤ 15)
callers = numbers 15 32 (omega arith) (omega arith)

pub line_takes : (bytes : List ℕ) (s : Seat × Step) (rest : List ℕ) → step_line_at bytes ≡ Some (s, rest) → IsReadLine bytes s rest
unfolding step_line_at
line_takes bytes s rest e =
    let a = bind_some (number_at 15 32 bytes) (λ seat. step_at seat.1 >>= λ step. Some ((record { 0 = seat.0 }, step.0), step.1)) (s, rest) e in
    let b = bind_some (step_at a.0.1) (λ step. Some ((record { 0 = a.0.0 }, step.0), step.1)) (s, rest) a.2 in
    let seat = callers.takes bytes a.0.0 a.0.1 a.1 in
    let step = step_takes a.0.1 b.0.0 b.0.1 b.1 in
    let made : Seat × Step = (record { 0 = a.0.0 }, b.0.0) in
    let same = some_pair_parts made s b.0.1 rest b.2 in
    let front : bytes ≡ ended 32 a.0.0 ++ a.0.1 = seat.parts ∙ ap (λ (n : ℕ). ended 32 n ++ a.0.1) (sym seat.value) in
    let whole : bytes ≡ step_line made ++ b.0.1 = front ∙ ap (λ (t : List ℕ). ended 32 a.0.0 ++ t) step.parts ∙ simp append_assoc in
    let got : IsReadLine bytes made b.0.1 = record { parts = whole; fits = record { seat = omega (arith, seat.fits, seat.value); step = step.fits } } in
    subst (λ (r : List ℕ). IsReadLine bytes s r) same.1 (subst (λ (t : Seat × Step). IsReadLine bytes t b.0.1) same.0 got)

pub line_again : (s : Seat × Step) (rest : List ℕ) → IsSeatStep s → step_line_at (step_line s ++ rest) ≡ Some (s, rest)
unfolding step_line_at
line_again s rest fits =
    let regrouped : step_line s ++ rest ≡ ended 32 s.0.0 ++ (step_text s.1 ++ 10 ∷ rest) = simp append_assoc in
    ap step_line_at regrouped ∙ rw (callers.again s.0.0 (step_text s.1 ++ 10 ∷ rest) fits.seat, step_again s.1 rest fits.step) refl

pub record IsReadWorld (bytes : List ℕ) (w : Size) (rest : List ℕ) : Type 0 where
  pub parts : bytes ≡ world_line w ++ rest
  pub fits : IsSize w

threads : Reads {X = ℕ} (λ n. n) (count_at 64 32) (ended 32) (λ n. (1 ≤ n) × (n ≤ 64))
threads = counts 64 32 (omega arith) (omega arith)

rows_each : Reads {X = ℕ} (λ n. n) (count_at 1024 32) (ended 32) (λ n. (1 ≤ n) × (n ≤ 1024))
rows_each = counts 1024 32 (omega arith) (omega arith)

word_then : (word bytes x y : List ℕ) → bytes ≡ word ++ x → x ≡ y → bytes ≡ word ++ y
word_then word bytes x y e f = e ∙ ap (λ (t : List ℕ). word ++ t) f

pub world_takes : (bytes : List ℕ) (w : Size) (rest : List ℕ) → world_line_at bytes ≡ Some (w, rest) → IsReadWorld bytes w rest
unfolding world_line_at
world_takes bytes w rest e =
    let a = bind_some (after_word (codes "world ") bytes) (λ x. count_at 64 32 x >>= λ t. count_at 1024 32 t.1 >>= λ r. seats_at t.0 r.1 >>= λ s. Some (record { threads = t.0; rows = r.0; seats = s.0.0; started = s.0.1 }, s.1)) (w, rest) e in
    let t = bind_some (count_at 64 32 a.0) (λ t. count_at 1024 32 t.1 >>= λ r. seats_at t.0 r.1 >>= λ s. Some (record { threads = t.0; rows = r.0; seats = s.0.0; started = s.0.1 }, s.1)) (w, rest) a.2 in
    let r = bind_some (count_at 1024 32 t.0.1) (λ r. seats_at t.0.0 r.1 >>= λ s. Some (record { threads = t.0.0; rows = r.0; seats = s.0.0; started = s.0.1 }, s.1)) (w, rest) t.2 in
    let s = bind_some (seats_at t.0.0 r.0.1) (λ s. Some (record { threads = t.0.0; rows = r.0.0; seats = s.0.0; started = s.0.1 }, s.1)) (w, rest) r.2 in
    let made : Size = record { threads = t.0.0; rows = r.0.0; seats = s.0.0.0; started = s.0.0.1 } in
    let same = some_pair_parts made w s.0.1 rest s.2 in
    let word = chosen_some (begins bytes (codes "world ")) (drop 6 bytes) a.0 a.1 in
    let tt' = threads.takes a.0 t.0.0 t.0.1 t.1 in
    let rr = rows_each.takes t.0.1 r.0.0 r.0.1 r.1 in
    let ss = (seats t.0.0 (omega (arith, tt'.fits.1, tt'.value))).takes r.0.1 s.0.0 s.0.1 s.1 in
    let t-is : a.0 ≡ ended 32 t.0.0 ++ t.0.1 = tt'.parts ∙ ap (λ (n : ℕ). ended 32 n ++ t.0.1) (sym tt'.value) in
    let r-is : t.0.1 ≡ ended 32 r.0.0 ++ r.0.1 = rr.parts ∙ ap (λ (n : ℕ). ended 32 n ++ r.0.1) (sym rr.value) in
    let s-is : r.0.1 ≡ seats_text s.0.0 ++ s.0.1 = ss.parts ∙ ap (λ (x : ℕ × Option ℕ). seats_text x ++ s.0.1) (sym ss.value) in
    let front : bytes ≡ codes "world " ++ a.0 = word_takes (codes "world ") bytes word.0 ∙ ap (λ (x : List ℕ). codes "world " ++ x) word.1 in
    let inner : a.0 ≡ ended 32 t.0.0 ++ (ended 32 r.0.0 ++ (seats_text s.0.0 ++ s.0.1)) = word_then (ended 32 t.0.0) a.0 t.0.1 (ended 32 r.0.0 ++ (seats_text s.0.0 ++ s.0.1)) t-is (word_then (ended 32 r.0.0) t.0.1 r.0.1 (seats_text s.0.0 ++ s.0.1) r-is s-is) in
    let whole : bytes ≡ world_line made ++ s.0.1 = front ∙ ap (λ (x : List ℕ). codes "world " ++ x) inner ∙ simp append_assoc in
    let fit : AreSeats t.0.0 s.0.0 = subst (AreSeats t.0.0) (sym ss.value) ss.fits in
    let fits : IsSize made = record {
      threads_low = omega (arith, tt'.fits.0, tt'.value);
      threads_high = omega (arith, tt'.fits.1, tt'.value);
      rows_low = omega (arith, rr.fits.0, rr.value);
      rows_high = omega (arith, rr.fits.1, rr.value);
      seats_low = fit.0.0;
      seats_high = fit.0.1;
      started = fit.1;
    } in
    let got : IsReadWorld bytes made s.0.1 = record { parts = whole; fits = fits } in
    subst (λ (x : List ℕ). IsReadWorld bytes w x) same.1 (subst (λ (x : Size). IsReadWorld bytes x s.0.1) same.0 got)

pub world_again : (w : Size) (rest : List ℕ) → IsSize w → world_line_at (world_line w ++ rest) ≡ Some (w, rest)
unfolding world_line_at
world_again w rest fits =
    let x : ℕ × Option ℕ = (w.seats, w.started) in
    let regrouped : world_line w ++ rest ≡ codes "world " ++ (ended 32 w.threads ++ (ended 32 w.rows ++ (seats_text x ++ rest))) = simp append_assoc in
    let seated : seats_at w.threads (seats_text x ++ rest) ≡ Some (x, rest) = (seats w.threads (omega (arith, fits.threads_high))).again x rest ((fits.seats_low, fits.seats_high), fits.started) in
    ap world_line_at regrouped ∙ rw (threads.again w.threads (ended 32 w.rows ++ (seats_text x ++ rest)) (fits.threads_low, fits.threads_high), rows_each.again w.rows (seats_text x ++ rest) (fits.rows_low, fits.rows_high), seated) refl

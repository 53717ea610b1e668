-- What a pass has seen is true for whoever is told it.
use Rattle.std.proofs.Common.{slice_set, ◌≡◌, ◌≢◌, ℕ, ◌<◌, ◌≤◌, ◌%◌, Option, Bool, true, false, cond, ◌||◌, List, [], ◌∷◌, ◌++◌, length, sym, refl, ap, ◌∙◌, subst, inl, inr, ◌⊎◌, ⊎_elim, arith}
use Rattle.std.proofs.lemmas.Bool.{cases_Bool, true≢false}
use Rattle.std.proofs.Math.Nat.{mod-lt}
use mathlib.Core.Option.{some}
use lib.ListN.{get_elem?}
use Rattle.atomic_table.specs.Table.{Joins, Splits, State}
use Rattle.atomic_table.proofs.Lists.{at_set}
use Rattle.protocol_values.specs.declared.NackName.{NackName}
use Rattle.protocol_values.specs.declared.Binding.{Binding}
use Rattle.protocol_values.specs.declared.Row.{Row}
use Rattle.protocol_ledger.specs.Tables.{row_eq}
use Rattle.protocol_ledger.specs.Worlds.{World}
use Rattle.protocol_ledger.proofs.RowLemmas.{row_eq-refl, row_eq-true}
use Rattle.protocol_values.specs.declared.Offer.{Offer}
use Rattle.protocol_ledger.specs.Standing.{AreResults, Result, Stands}
use Rattle.protocol_ledger.specs.Ledgers.{ledger_of}
use Rattle.cell_table.specs.declared.view.Seen.{Seen}
use Rattle.cell_table.specs.declared.view.View.{View}
use Rattle.cell_table.specs.declared.view.Shape.{Shape}
use Rattle.cell_table.specs.Sight.{Has, SeesOffer, SeesNoOffer}
use Rattle.cell_table.specs.declared.view.Stage.{Stage}
use Rattle.cell_table.specs.declared.view.Stage.TheVariants.{Aside, Resting}
use Rattle.cell_table.specs.Views.{IsClaimer, Knows, RunsIn, SeesEnd, opening_by, opening_in}
use Rattle.cell_table.specs.Rule.{Gathers, IsToBegin, Keeps, Seated, at_seat, beginning, drafts_of, heard, heard_pass, is_among, left_pass, spent_pass, told_last, told_of, told_pass}
use Rattle.cell_table.proofs.Dealing.{one_more_pass}
use Rattle.cell_table.proofs.Seating.{at_end, seated_heard, seated_left, seated_more, seated_seen, seated_spent}
use Rattle.cell_table.proofs.Offers.{have_row}
use Rattle.cell_table.proofs.Housing.{housed_more, housed_spent, housed_view}
use Rattle.cell_table.proofs.Leaving.{gathers_heard, gathers_left, gathers_more, gathers_set}
use Rattle.cell_table.proofs.Turning.{firsts_with, same_made}

pub has_either : {A : Type 0} (xs ys : List A) (x : A) → Has (xs ++ ys) x → Has xs x ⊎ Has ys x
has_either [] ys x h = inr h
has_either (y ∷ xs) ys x (inl e) = inl (inl e)
has_either (y ∷ xs) ys x (inr h) = ⊎_elim (λ (a : Has xs x). inl (inr a)) (λ (b : Has ys x). inr b) (has_either xs ys x h)

among : (rows : List Row) (r : Row) → is_among rows r ≡ true → Has rows r
among [] r e = absurd (true≢false (sym e))
among (q ∷ rows) r e = ⊎_elim
    (λ (h : row_eq q r ≡ true). inl (row_eq-true q r h))
    (λ (h : row_eq q r ≡ false). inr (among rows r (sym (ap (λ (b : Bool). b || is_among rows r) h) ∙ e)))
    (cases_Bool (row_eq q r))

-- a draft that is told is of one of the rows
told_case : (rows : List Row) (d : Row × ℕ × ℕ) (ds : List (Row × ℕ × ℕ)) (x : Row × ℕ × ℕ) (b : Bool) → is_among rows d.0 ≡ b → (Has (drafts_of rows ds) x → Has ds x × Has rows x.0)
    → Has (cond b (d ∷ drafts_of rows ds) (drafts_of rows ds)) x → Has (d ∷ ds) x × Has rows x.0
told_case rows d ds x true e rest (inl f) = (inl f, subst (λ (z : Row × ℕ × ℕ). Has rows z.0) f (among rows d.0 e))
told_case rows d ds x true e rest (inr g) = let t = rest g in (inr t.0, t.1)
told_case rows d ds x false e rest g = let t = rest g in (inr t.0, t.1)

told_draft : (rows : List Row) (ds : List (Row × ℕ × ℕ)) (x : Row × ℕ × ℕ) → Has (drafts_of rows ds) x → Has ds x × Has rows x.0
told_draft rows [] x h = absurd h
told_draft rows (d ∷ ds) x h = told_case rows d ds x (is_among rows d.0) refl (λ g. told_draft rows ds x g) h

-- what is told of an opened row's drafts
pub has_right : {A : Type 0} (xs ys : List A) (x : A) → Has ys x → Has (xs ++ ys) x
has_right [] ys x h = h
has_right (y ∷ xs) ys x h = inr (has_right xs ys x h)

pub has_left : {A : Type 0} (xs ys : List A) (x : A) → Has xs x → Has (xs ++ ys) x
has_left [] ys x h = absurd h
has_left (y ∷ xs) ys x (inl e) = inl e
has_left (y ∷ xs) ys x (inr h) = inr (has_left xs ys x h)

is_member : (rows : List Row) (r : Row) → Has rows r → is_among rows r ≡ true
is_member (q ∷ rows) r (inl e) = ap (λ (b : Bool). b || is_among rows r) (ap (λ (z : Row). row_eq z r) e ∙ row_eq-refl r)
is_member (q ∷ rows) r (inr h) = ap (λ (b : Bool). row_eq q r || b) (is_member rows r h) ∙ Rattle.std.proofs.Math.Bool.or-true (row_eq q r)
is_member [] r h = absurd h

kept_case : (rows : List Row) (d : Row × ℕ × ℕ) (ds : List (Row × ℕ × ℕ)) (x : Row × ℕ × ℕ) (b : Bool) → is_among rows d.0 ≡ b → is_among rows x.0 ≡ true → (Has ds x → Has (drafts_of rows ds) x)
    → Has (d ∷ ds) x → Has (cond b (d ∷ drafts_of rows ds) (drafts_of rows ds)) x
kept_case rows d ds x true e m rest (inl f) = inl f
kept_case rows d ds x true e m rest (inr h) = inr (rest h)
kept_case rows d ds x false e m rest (inl f) = absurd (true≢false (sym m ∙ ap (λ (z : Row × ℕ × ℕ). is_among rows z.0) (sym f) ∙ e))
kept_case rows d ds x false e m rest (inr h) = rest h

kept_draft : (rows : List Row) (ds : List (Row × ℕ × ℕ)) (x : Row × ℕ × ℕ) → is_among rows x.0 ≡ true → Has ds x → Has (drafts_of rows ds) x
kept_draft rows [] x m h = absurd h
kept_draft rows (d ∷ ds) x m h = kept_case rows d ds x (is_among rows d.0) refl m (λ i. kept_draft rows ds x m i) h

-- a word that was seen of an opened row is among those that were told
told_word : (s t : Seen) (r : Row) (p x : ℕ) → Has s.opened r → Has s.drafts (r, p, x) → Has (heard t (told_of s)).words (r, p, x)
told_word s t r p x opened h = has_right t.words _ (r, p, x) (has_right s.words _ (r, p, x) (kept_draft s.opened s.drafts (r, p, x) (is_member s.opened r opened) h))

read_word : (s t : Seen) (x : Row × ℕ × ℕ) → Has s.words x → Has (heard t (told_of s)).words x
read_word s t x h = has_right t.words _ x (has_left s.words _ x h)

pub told_offer : (s t : Seen) (r : Row) (n : ℕ) (o : Offer) → SeesOffer s r n o → SeesOffer (heard t (told_of s)) r n o
told_offer s t r n o (inl h) = inl (have_row s.words _ r n o (λ p x i. read_word s t (r, p, x) i) h)
told_offer s t r n o (inr h) = inl (have_row s.drafts _ r n o (λ p x i. told_word s t r p x h.0 i) h.1)

pub told_lack : (s t : Seen) (r : Row) (n : ℕ) → SeesNoOffer s r n → SeesNoOffer (heard t (told_of s)) r n
told_lack s t r n (inl h) = inl (h.0, read_word s t (r, 1, h.0) h.1, h.2)
told_lack s t r n (inr h) = inl (h.1.0, told_word s t r 1 h.1.0 h.0 h.1.1, h.1.2)

-- a nack that was seen bound or carried is among those that were told
pub told_bound : (s t : Seen) (n : NackName) (b : Binding) → Has s.bound (n, b) → Has (heard t (told_of s)).bound (n, b)
told_bound s t n b h = has_right t.bound s.bound (n, b) h

pub told_carried : (s t : Seen) (n : NackName) (stamp : ℕ) → Has s.carried (n, stamp) → Has (heard t (told_of s)).carried (n, stamp)
told_carried s t n stamp h = has_right t.carried s.carried (n, stamp) h

module _ (w : World) (owner : Row → ℕ) where
  module _ {M : Type 0} where
    knows_told : (id new : ℕ) (v : View M) → Knows w owner id v → Knows w owner new (told_pass v)
    knows_told id new v k = record {
      threads = k.threads;
      rows = k.rows;
      passes = k.passes;
      seat = k.seat;
      undealt = λ t h at_once d. let m = mod-lt t (some_seats k.seat) in let p = k.passes in absurd (omega arith);
      mine = λ r h. absurd h;
      calm = λ r h e. absurd h;
      staged = tt;
      fresh = λ r h n. absurd h;
      drafted = λ r p x h. absurd h;
      opened = k.opened;
      read = λ r p x h. ⊎_elim
          (λ (a : Has v.seen.words (r, p, x)). k.read r p x a)
          (λ (b : Has (drafts_of v.seen.opened v.seen.drafts) (r, p, x)).
          let t = told_draft v.seen.opened v.seen.drafts (r, p, x) b in
          let d = k.drafted r p x t.0 in
          (k.opened r t.1, d.1, d.2, d.4))
          (has_either v.seen.words (drafts_of v.seen.opened v.seen.drafts) (r, p, x) h);
      joined = k.joined;
      taken = k.taken;
      bound = k.bound;
      carried = k.carried;
      settled = k.settled;
      started = k.started;
      ended = k.ended;
      lasts = λ t h. absurd h;
      lively = λ r h n. absurd h;
      binds = λ n b e h. absurd h;
    }
      where
        some_seats : v.seat < w.seats → 0 < w.seats
        some_seats h = omega arith

    -- a pass that leaves knows what it knew
    knows_left : (id : ℕ) (v : View M) → Knows w owner id v → v.stage ≡ Resting → Knows w owner id (left_pass v)
    knows_left id v k rests = record {
      threads = k.threads;
      rows = k.rows;
      passes = k.passes;
      seat = k.seat;
      undealt = k.undealt;
      mine = k.mine;
      calm = λ r h e. subst (λ (stage : Stage). IsClaimer stage r) rests (k.calm r h e);
      staged = tt;
      fresh = k.fresh;
      drafted = k.drafted;
      opened = k.opened;
      read = k.read;
      joined = k.joined;
      taken = k.taken;
      bound = k.bound;
      carried = k.carried;
      settled = k.settled;
      started = k.started;
      ended = k.ended;
      lasts = k.lasts;
      lively = k.lively;
      binds = k.binds;
    }

    knows_heard : (id other : ℕ) (v u : View M) → Knows w owner id v → Knows w owner other u → Knows w owner id (heard_pass v u)
    knows_heard id other v u k l = record {
      threads = k.threads;
      rows = k.rows;
      passes = k.passes;
      seat = k.seat;
      undealt = λ t h at_once d. let a = k.undealt t h at_once d in (a.0, a.1, (λ n. a.2 (λ o. n (has_left v.seen.opened u.seen.opened _ o))), a.3, (λ n b e same. has_left v.seen.bound u.seen.bound (n, b) (a.4 n b e same)), λ n. more_ends t (a.5 (λ o. n (has_left v.seen.opened u.seen.opened _ o))));
      mine = k.mine;
      calm = k.calm;
      staged = k.staged;
      fresh = λ r h n. k.fresh r h (λ o. n (has_left v.seen.opened u.seen.opened r o));
      drafted = k.drafted;
      opened = λ r h. ⊎_elim (λ (a : Has v.seen.opened r). k.opened r a) (λ (b : Has u.seen.opened r). l.opened r b) (has_either v.seen.opened u.seen.opened r h);
      read = λ r p x h. ⊎_elim (λ (a : Has v.seen.words (r, p, x)). k.read r p x a) (λ (b : Has u.seen.words (r, p, x)). l.read r p x b) (has_either v.seen.words u.seen.words (r, p, x) h);
      joined = λ r j h. ⊎_elim (λ (a : Has v.seen.joined (r, j)). k.joined r j a) (λ (b : Has u.seen.joined (r, j)). l.joined r j b) (has_either v.seen.joined u.seen.joined (r, j) h);
      taken = λ r h. ⊎_elim (λ (a : Has v.seen.taken r). k.taken r a) (λ (b : Has u.seen.taken r). l.taken r b) (has_either v.seen.taken u.seen.taken r h);
      started = λ t s h. ⊎_elim (λ (a : Has v.seen.started (t, s)). k.started t s a) (λ (c : Has u.seen.started (t, s)). l.started t s c) (has_either v.seen.started u.seen.started (t, s) h);
      ended = λ t g h. ⊎_elim (λ (a : Has v.seen.ended (t, g)). k.ended t g a) (λ (c : Has u.seen.ended (t, g)). l.ended t g c) (has_either v.seen.ended u.seen.ended (t, g) h);
      bound = λ n b h. ⊎_elim (λ (a : Has v.seen.bound (n, b)). k.bound n b a) (λ (c : Has u.seen.bound (n, b)). l.bound n b c) (has_either v.seen.bound u.seen.bound (n, b) h);
      settled = k.settled;
      carried = λ n stamp h. ⊎_elim (λ (a : Has v.seen.carried (n, stamp)). k.carried n stamp a) (λ (c : Has u.seen.carried (n, stamp)). l.carried n stamp c) (has_either v.seen.carried u.seen.carried (n, stamp) h);
      lasts = λ t h. let a = k.lasts t h in (a.0, a.1, more_ends t a.2);
      lively = λ r h n. more_ends r.thread (k.lively r h (λ o. n (has_left v.seen.opened u.seen.opened r o)));
      binds = λ n b e h. has_left v.seen.bound u.seen.bound (n, b) (k.binds n b e h);
    }
      where
        more_ends : (t : ℕ) → SeesEnd w v.seen t → SeesEnd w (heard v.seen u.seen) t
        more_ends t sees g e = has_left v.seen.ended u.seen.ended (t, g) (sees g e)

module _ {M : Type 0} (stands : Stands M) where
  -- A pass is told of: it goes on as x, and what is told is u, which makes no steps and is to begin with nothing.
  module _ (shape : Shape M) (id : ℕ) (v x u : View M) (at_table : 0 < v.threads) (s : State (Option M) (View M)) (k : Keeps stands shape s) (view : get_elem? s.views id ≡ some v)
      (steps : at_seat v.seat v.made ≡ at_seat x.seat x.made) (nothing : u.made ≡ []) (results : x.results ≡ v.results) (told_results : u.results ≡ v.results) (first : beginning x ≡ beginning v) (told_first : beginning u ≡ beginning v)
      (begins : (r : Row) → IsToBegin x r → IsToBegin v r) (none_begins : (r : Row) → IsToBegin u r → ⊥)
      (knows : Knows k.world k.owner id x) (told_knows : (j : ℕ) → Knows k.world k.owner j u)
      (seated : Seated (slice_set s.views id x ++ u ∷ [])) (gathers : Gathers (slice_set s.views id x ++ u ∷ [])) where
    abbrev Was : ℕ → View M → Type 0
    Was j y = (((j ≡ id) × (x ≡ y)) ⊎ ((j ≢ id) × (get_elem? s.views j ≡ some y))) ⊎ (u ≡ y)

    was : (j : ℕ) (y : View M) → get_elem? (slice_set s.views id x ++ u ∷ []) j ≡ some y → Was j y
    was j y e = ⊎_elim (λ (old : get_elem? (slice_set s.views id x) j ≡ some y). inl (at_set s.views id j x y old)) (λ (now : (j ≡ length (slice_set s.views id x)) × (u ≡ y)). inr now.1) (at_end (slice_set s.views id x) u y j e)

    knows_of : (j : ℕ) (y : View M) → Was j y → 0 < y.threads → Knows k.world k.owner j y
    knows_of j y (inl (inl a)) t = subst (λ (z : ℕ × (View M)). Knows k.world k.owner z.0 z.1) (λ i. (sym a.0 i, a.1 i)) knows
    knows_of j y (inl (inr a)) t = k.knows j y a.1 t
    knows_of j y (inr a) t = subst (λ (z : View M). Knows k.world k.owner j z) a (told_knows j)

    firsts_of : (j : ℕ) (y : View M) → Was j y → 0 < y.threads → beginning y ≡ (shape.first.value.items, opening_in shape, shape.layout)
    firsts_of j y (inl (inl a)) t = ap (λ (z : View M). beginning z) (sym a.1) ∙ first ∙ k.firsts id v view at_table
    firsts_of j y (inl (inr a)) t = k.firsts j y a.1 t
    firsts_of j y (inr a) t = ap (λ (z : View M). beginning z) (sym a) ∙ told_first ∙ k.firsts id v view at_table

    results_of : (j : ℕ) (y : View M) (t : ℕ) (rs : List Result) → Was j y → Has y.results (t, rs) → AreResults (ledger_of k.world.table) t rs
    results_of j y t rs (inl (inl a)) h = k.results id v t rs view (subst (λ (l : List (ℕ × List Result)). Has l (t, rs)) (ap (λ (z : View M). z.results) (sym a.1) ∙ results) h)
    results_of j y t rs (inl (inr a)) h = k.results j y t rs a.1 h
    results_of j y t rs (inr a) h = k.results id v t rs view (subst (λ (l : List (ℕ × List Result)). Has l (t, rs)) (ap (λ (z : View M). z.results) (sym a) ∙ told_results) h)

    keeps_split : Keeps stands shape (record { words = s.words; homes = s.homes; views = slice_set s.views id x ++ u ∷ [] })
    keeps_split = record {
      opens = k.opens;
      few_rows = k.few_rows;
      fits = k.fits;
      sized = k.sized;
      counts = k.counts;
      moves = k.moves;
      interleaved = one_more_pass k.moves (slice_set s.views id x) u (same_made k.moves s.views id v x view k.interleaved steps) nothing;
      start = k.start;
      begins = k.begins;
      world = k.world;
      played = k.played;
      table = k.table;
      owner = k.owner;
      knows = λ j y e t. knows_of j y (was j y e) t;
      seated = seated;
      gathers = gathers;
      firsts = λ j y e t. firsts_of j y (was j y e) t;
      started = k.started;
      ended = k.ended;
      housed = λ some_first.
          housed_more stands shape.first.value.items k.world s.homes (slice_set s.views id x) u
          (housed_view stands shape.first.value.items k.world s.homes s.views id v x view at_table begins (k.housed some_first))
          (λ r b. absurd (none_begins r b));
      results = λ j y t rs e h. results_of j y t rs (was j y e) h;
    }

  some_passes : (w : World) (owner : Row → ℕ) (id : ℕ) (v : View M) → Knows w owner id v → 0 < v.passes
  some_passes w owner id v knows = let p = knows.passes in let h = knows.seat in omega arith

  -- what is told is to begin with nothing
  told_begins : (w : World) (owner : Row → ℕ) (id : ℕ) (v : View M) → Knows w owner id v → (r : Row) → IsToBegin (told_pass v) r → ⊥
  told_begins w owner id v knows r b = ⊎_elim
      (λ (h : ⊥). h)
      (λ (d : (r.thread < v.threads) × RunsIn (opening_by v) r.thread × (v.passes ≤ r.thread % v.passes)). let m = mod-lt r.thread (some_passes w owner id v knows) in let far = d.2 in omega arith)
      b.1

  pub tell_allowed : (shape : Shape M) (id : ℕ) (v : View M) → 0 < v.threads → Splits {S = Option M} (Keeps stands shape) id v v (told_pass v)
  tell_allowed shape id v at_table s k view =
      let knows = k.knows id v view at_table in
      keeps_split shape id v v (told_pass v) at_table s k view refl refl refl refl refl refl (λ r b. b) (told_begins k.world k.owner id v knows) knows (λ j. knows_told k.world k.owner id j v knows)
      -- what is told stands aside
      (seated_more (slice_set s.views id v) (told_pass v)
      (record { aside = λ e. (refl, refl); gone = λ e. refl; binders = λ n r scope no. absurd no; begun = λ r no. absurd no })
      (λ d. omega arith)
      (λ t moves. absurd (moves refl))
      (λ t moves. absurd (moves refl))
      (seated_seen s.views id v v view (refl, refl, refl, refl, refl, λ q h. inl h) refl refl k.seated))
      (gathers_more (slice_set s.views id v) (told_pass v) refl (gathers_set s.views id v v view refl (λ e. (refl, e, refl, refl)) k.gathers))

  -- and it leaves the table by that
  pub leave_allowed : (shape : Shape M) (id : ℕ) (v : View M) → 0 < v.threads → v.stage ≡ Resting → Splits {S = Option M} (Keeps stands shape) id v (left_pass v) (told_last v)
  leave_allowed shape id v at_table rests s k view =
      let knows = k.knows id v view at_table in
      keeps_split shape id v (left_pass v) (told_last v) at_table s k view refl refl refl refl refl refl (λ r b. b) (told_begins k.world k.owner id v knows) (knows_left k.world k.owner id v knows rests) (λ j. knows_told k.world k.owner id j v knows)
      (seated_more (slice_set s.views id (left_pass v)) (told_last v)
      (record { aside = λ e. (refl, refl); gone = λ e. refl; binders = λ n r scope no. absurd no; begun = λ r no. absurd no })
      (λ d. omega arith)
      (λ t moves. absurd (moves refl))
      (λ t moves. absurd (moves refl))
      (seated_left s.views id v view at_table rests k.seated))
      (gathers_left s.views id v view at_table rests k.seated k.gathers)

  pub hear_allowed : (shape : Shape M) (id : ℕ) (v : View M) (other : ℕ) (w : View M) → 0 < v.threads → 0 < w.threads → w.made ≡ [] → w.stage ≡ Aside → Joins {S = Option M} (Keeps stands shape) id v other w (heard_pass v w) spent_pass
  hear_allowed shape id v other w at_table told_at nothing aside s k view apart told = record {
    opens = k.opens;
    few_rows = k.few_rows;
    fits = k.fits;
    sized = k.sized;
    counts = k.counts;
    moves = k.moves;
    interleaved = same_made k.moves (slice_set s.views id (heard_pass v w)) other w spent_pass told
        (same_made k.moves s.views id v (heard_pass v w) view k.interleaved refl) (ap (at_seat w.seat) nothing);
    start = k.start;
    begins = k.begins;
    world = k.world;
    played = k.played;
    table = k.table;
    owner = k.owner;
    knows = λ j u e t. ⊎_elim
        (λ (a : (j ≡ other) × (spent_pass ≡ u)). let z : u.threads ≡ 0 = ap (λ (y : View M). y.threads) (sym a.1) in absurd (omega arith))
        (λ (a : (j ≢ other) × (get_elem? (slice_set s.views id (heard_pass v w)) j ≡ some u)). before j u a.1 t)
        (at_set (slice_set s.views id (heard_pass v w)) other j spent_pass u e);
    seated = seated_spent (slice_set s.views id (heard_pass v w)) other w told (seated_heard s.views id v w view k.seated);
    gathers = gathers_heard s.views id v other w view apart was_there aside k.gathers;
    firsts = λ j u e t. ⊎_elim
        (λ (a : (j ≡ other) × (spent_pass ≡ u)). let z : u.threads ≡ 0 = ap (λ (y : View M). y.threads) (sym a.1) in absurd (omega arith))
        (λ (a : (j ≢ other) × (get_elem? (slice_set s.views id (heard_pass v w)) j ≡ some u)). firsts_with s.views id v (heard_pass v w) (shape.first.value.items, opening_in shape, shape.layout) view refl at_table k.firsts j u a.1 t)
        (at_set (slice_set s.views id (heard_pass v w)) other j spent_pass u e);
    started = k.started;
    ended = k.ended;
    housed = λ some_first.
        let before = housed_view stands shape.first.value.items k.world s.homes s.views id v (heard_pass v w) view at_table (λ r b. b) (k.housed some_first) in
        housed_spent stands shape.first.value.items k.world s.homes (slice_set s.views id (heard_pass v w)) other spent_pass refl before;
    results = λ j u t rs e h. ⊎_elim
        (λ (a : (j ≡ other) × (spent_pass ≡ u)). absurd (subst (λ (z : View M). Has z.results (t, rs)) (sym a.1) h))
        (λ (a : (j ≢ other) × (get_elem? (slice_set s.views id (heard_pass v w)) j ≡ some u)). ⊎_elim
        (λ (b : (j ≡ id) × (heard_pass v w ≡ u)). both t rs (has_either v.results w.results (t, rs) (subst (λ (z : View M). Has z.results (t, rs)) (sym b.1) h)))
        (λ (b : (j ≢ id) × (get_elem? s.views j ≡ some u)). k.results j u t rs b.1 h)
        (at_set s.views id j (heard_pass v w) u a.1))
        (at_set (slice_set s.views id (heard_pass v w)) other j spent_pass u e);
  }
    where
      both : (t : ℕ) (rs : List Result) → Has v.results (t, rs) ⊎ Has w.results (t, rs) → AreResults (ledger_of k.world.table) t rs
      both t rs (inl h) = k.results id v t rs view h
      both t rs (inr h) = ⊎_elim
          (λ (a : (other ≡ id) × (heard_pass v w ≡ w)). absurd (apart a.0))
          (λ (a : (other ≢ id) × (get_elem? s.views other ≡ some w)). k.results other w t rs a.1 h)
          (at_set s.views id other (heard_pass v w) w told)

      was_there : get_elem? s.views other ≡ some w
      was_there = ⊎_elim
          (λ (a : (other ≡ id) × (heard_pass v w ≡ w)). absurd (apart a.0))
          (λ (a : (other ≢ id) × (get_elem? s.views other ≡ some w)). a.1)
          (at_set s.views id other (heard_pass v w) w told)

      his : Knows k.world k.owner other w
      his = ⊎_elim
          (λ (a : (other ≡ id) × (heard_pass v w ≡ w)). absurd (apart a.0))
          (λ (a : (other ≢ id) × (get_elem? s.views other ≡ some w)). k.knows other w a.1 told_at)
          (at_set s.views id other (heard_pass v w) w told)

      before : (j : ℕ) (u : View M) → get_elem? (slice_set s.views id (heard_pass v w)) j ≡ some u → 0 < u.threads → Knows k.world k.owner j u
      before j u e t = ⊎_elim
          (λ (a : (j ≡ id) × (heard_pass v w ≡ u)). subst (λ (z : ℕ × (View M)). Knows k.world k.owner z.0 z.1) (λ i. (sym a.0 i, a.1 i)) (knows_heard k.world k.owner id other v w (k.knows id v view at_table) his))
          (λ (a : (j ≢ id) × (get_elem? s.views j ≡ some u)). k.knows j u a.1 t)
          (at_set s.views id j (heard_pass v w) u e)

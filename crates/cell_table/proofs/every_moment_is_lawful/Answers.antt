use Rattle.std.proofs.Common.{◌≡◌, ◌⊎◌, ◌<◌, ◌≤◌, ℕ, List, [], Some, true, false, slice_get, sym, ap, ◌∙◌, subst, arith}
use mathlib.Core.Option.{some}
use lib.ListN.{get_elem?}
use Rattle.protocol_values.specs.declared.Binding.{Binding}
use Rattle.protocol_values.specs.declared.Course.TheVariants.{Unstarted}
use Rattle.protocol_values.specs.declared.NackName.{NackName}
use Rattle.protocol_values.specs.declared.Row.{Row}
use Rattle.protocol_ledger.specs.Tables.{Table, binding_at, bound_row, cell_at, course_at, is_fresh, is_nack, is_taken, joined_at, nack_says, names}
use Rattle.protocol_ledger.specs.Openings.{HadEnded, HadStarted, Opening, greatest}
use Rattle.protocol_ledger.specs.Worlds.{Plays, World, first_row}
use Rattle.protocol_ledger.specs.Kept.{Kept}
use Rattle.protocol_ledger.specs.Acting.{EachEnded, EachStarted, acts_in}
use Rattle.protocol_ledger.specs.Ledgers.{ledger_of, IsLawful}
use Rattle.protocol_ledger.specs.Standing.{AreResults, EachStands, SomeStands}
use Rattle.protocol_ledger.proofs.Beginning.{first_binding, first_cell, first_course, first_says}
use Rattle.protocol_ledger.proofs.LedgerLemmas.{kept_opening, lawful_ledger}
use Rattle.cell_table.specs.Laws.{IsNackThere, StandsFor}
use Rattle.cell_table.specs.Rule.{IsHome, Move, in_order}
use Rattle.cell_table.specs.Views.{bind_of, opening_in}
use Rattle.cell_table.proofs.Binders.{bound_by}
use Rattle.cell_table.proofs.Seating.{acts, stays_of}
use Rattle.cell_table.proofs.Homes.{home_stands, nack_stands}
use Rattle.cell_table.proofs.Once.{ended_once, nothing_yet, started_once, taken_once}
use Rattle.cell_table.proofs.Turning.{world_kept}
use Rattle.cell_table.proofs.every_moment_is_lawful.Goals as goal

pub returns : goal.returns
returns g c shape s k =
    let opening : Opening = opening_in shape in
    let start : World = k.start in
    let low : greatest opening ≤ 4294967295 = (let r = k.opens.room in omega arith) in
    let begun : Kept start = kept_opening opening shape.rows shape.passes start k.opens k.few_rows k.begins in
    let kept : Kept k.world = world_kept g.M.Resident.stands shape s k in
    record {
      lawful = subst (λ (t : Table). IsLawful (ledger_of t)) k.table (lawful_ledger k.world.table kept.linked);
      played_and_known = (k.moves, k.world, k.owner, (start, k.begins, k.played), k.table, k.interleaved, λ id v at. k.knows id v at.0 at.1);
      results = λ id v t rs at h. subst (λ (z : Table). AreResults (ledger_of z) t rs) k.table (k.results id v t rs at.0 h);
      machines = λ some_first.
          let house = k.housed some_first in
          subst (λ (t : Table). EachStands (SomeStands g.M.Resident.stands shape.first.value.items) t × ((r : Row) → is_fresh (cell_at t r) ≡ false → is_taken (cell_at t r) ≡ false → IsHome g.M.Resident.stands shape.first.value.items (ledger_of t) s.homes r)) k.table (house.rows, house.at_home);
      lives = λ some_first.
          subst (λ (t : Table). EachStarted (HadStarted opening) (acts_in g.M.Resident.stands shape.first.value.items).starts (ledger_of t) × EachEnded (HadEnded opening) (acts_in g.M.Resident.stands shape.first.value.items).ends (ledger_of t)) k.table (k.started some_first, k.ended some_first);
      waiting = λ some_first id v r at begins.
          let one = (k.housed some_first).waiting id v r at.0 at.1 begins in
          (subst (λ (t : Table). is_fresh (cell_at t r) ≡ true) k.table one.fresh, one.value, one.is_first, one.home);
      asleep = λ some_first.
          let house = k.housed some_first in
          subst (λ (t : Table). (p : ℕ) → p < t.threads → course_at t p ≡ Unstarted → (is_fresh (cell_at t (first_row p)) ≡ true) × (value : g.row.M.Denot) × (slice_get shape.first.value.items p ≡ Some (Some value)) × (get_elem? s.homes p ≡ some (some (Some value)))) k.table
          (λ p below waits. let one = house.asleep p below waits in (one.fresh, one.value, one.is_first, one.home));
      at_home = λ some_first.
          subst (λ (t : Table). (p : ℕ) (value : g.row.M.Denot) → get_elem? s.homes p ≡ some (some (Some value)) → StandsFor g.M.Resident.stands shape.first.value.items t p value) k.table
          (home_stands g.M.Resident.stands shape.first.value.items k.world kept s.homes s.views (k.housed some_first));
      nacks = λ some_first.
          subst (λ (t : Table). (n : NackName) (b : Binding) → binding_at t n ≡ Some b → (is_fresh (cell_at t (bound_row n b)) ≡ true) ⊎ IsNackThere g.M.Resident.stands shape.first.value.items t n b) k.table
          (nack_stands g.M.Resident.stands shape.first.value.items k.world kept s.homes s.views (k.housed some_first));
      one_holder = λ i j u v r at also held too. sym ((k.knows i u at.0 at.1).mine r held).0 ∙ ((k.knows j v also.0 also.1).mine r too).0;
      one_behind = λ i j u v t at also last too. sym ((k.knows i u at.0 at.1).lasts t last).0 ∙ ((k.knows j v also.0 also.1).lasts t too).0;
      one_taker = λ i j u v r at also took too.
          taken_once start k.world k.moves s.views i j u v r begun k.played k.interleaved at.0 also.0 took too;
      one_starter = λ i j u v p q r at also started too.
          started_once start k.world k.moves s.views i j u v p q r begun k.played k.interleaved at.0 also.0 started too;
      one_end = λ i j u v q r at also ended too same.
          ended_once start k.world k.moves s.views i j u v q r begun k.played k.interleaved at.0 also.0 ended too same;
      one_seat = λ i j u v at also acted too.
          k.seated.one_seat i j u v at.0 also.0 at.1 also.1 (acts s.views i u k.seated at.0 acted) (acts s.views j v k.seated also.0 too);
      binder = λ n b bound.
          let by = bound_by start k.world k.moves s.views begun k.played k.interleaved n b
          (first_binding opening start.table k.begins.words low n) (ap (λ (t : Table). binding_at t n) k.table ∙ bound) in
          (by.0, by.1, (by.2, stays_of (bind_of n b) s.views by.0 by.1 k.seated by.2 by.3), by.3, k.seated.binders by.0 by.1 n.k (bound_row n b) b.scope by.2 by.3);
      named_once = λ q r p. subst (λ (t : Table). names (joined_at t q) p ≡ true → names (joined_at t r) p ≡ true → q ≡ r) k.table (kept.linked.once q r p);
      -- where nothing was done, the words are the first ones
      untouched = λ nothing.
          let still : Plays start [] k.world = subst (λ (moves : List Move). Plays start (in_order moves) k.world) (nothing_yet k.moves s.views k.interleaved nothing) k.played in
          let words = sym k.table ∙ ap (λ (w : World). w.table) still in (
            λ r. ap (λ (t : Table). cell_at t r) words ∙ first_cell opening start.table k.begins.words low r,
            λ n here. ap (λ (t : Table). nack_says t n) words ∙ first_says opening start.table k.begins.words low n (ap (λ (t : Table). is_nack t n) (sym words) ∙ here),
            λ t below. ap (λ (u : Table). course_at u t) words ∙ first_course opening start.table k.begins.words low t (subst (λ (u : Table). t < u.threads) words below),
          );
    }

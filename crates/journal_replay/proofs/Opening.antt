-- What a machine that stands after a thread's results says of the event that the thread offers.
use Rattle.std.proofs.Common.{◌≡◌, ℕ, List, [], length, slice_get, Option, Some, None, refl, sym, ap, ◌∙◌}
use Rattle.std.specs.Option.{option_map}
use Rattle.std.proofs.lemmas.Option.{none-some, same_Some, slice_get-map}
use Rattle.event.specs.Tree.{Tree, BaseEvent, bases, scope_nacks, offers, offer_of}
use Rattle.script_tree.specs.Processes.{Proc}
use Rattle.script_tree.specs.Trees.{Block, block_of}
use Rattle.thread.specs.After.{Chosen, Offers, Finishes, Fails, after}
use Rattle.thread.specs.Machines.{said_in, Thread, Phase, Ready, Open, Over, Stuck, Broken, IsAfterAt, HasStopped, offers_in, nacks_in}
use Rattle.protocol_values.specs.declared.Offer.{Offer}
use Rattle.journal_replay.specs.Replays.{offered, scoped}
use Rattle.journal_replay.specs.Runs.{IsOffering}
use Rattle.journal_replay.specs.Standing.{MachineStands}

same-after : (b c : Block) (v w t u : ℕ) (r s : List Chosen) → b ≡ c → v ≡ w → t ≡ u → r ≡ s → after b v t r ≡ after c w u s
same-after b c v w t u r s body variables thread results =
    ap (λ (x : Block). after x v t r) body ∙ ap (λ (x : ℕ). after c x t r) variables
    ∙ ap (λ (x : ℕ). after c w x r) thread ∙ ap (λ (x : List Chosen). after c w u x) results

-- a thread offers one event
pub offering-one : (ps : List Proc) (t : ℕ) (results : List Chosen) (d e : Tree) → IsOffering ps t results d → IsOffering ps t results e → d ≡ e
offering-one ps t results d e one other =
    let process : one.process ≡ other.process = same_Some one.process other.process (sym one.is_its ∙ other.is_its) in
    let same : after one.process.body (length one.process.variables) t results ≡ after other.process.body (length other.process.variables) t results =
    ap (λ (p : Proc). after p.body (length p.variables) t results) process in
    let is : Offers d one.said ≡ Offers e other.said = sym one.offers ∙ same ∙ other.offers in
    cc

found : {A B : Type 0} (f : A → B) (o : Option A) (y : B) → option_map f o ≡ Some y → (x : A) × (o ≡ Some x) × (f x ≡ y)
found f None y e = absurd (none-some y e)
found f (Some x) y e = (x, refl, same_Some (f x) y e)

-- offer n of the open event
pub record OpenAt (ps : List Proc) (t : ℕ) (results : List Chosen) (n : ℕ) (o : Offer) (nacks : List ℕ) : Type 0 where
  pub event : Tree
  pub offered : IsOffering ps t results event
  pub base : BaseEvent
  pub is : slice_get (bases event) n ≡ Some base
  pub made : offer_of base ≡ o
  pub nacks_are : nacks ≡ scope_nacks event

pub moved : (ps : List Proc) (t : ℕ) (results : List Chosen) (m : Thread) (s : MachineStands ps t results m) → after (block_of m.body) m.variables m.thread m.results ≡ after s.process.body (length s.process.variables) t results
moved ps t results m s = same-after _ _ _ _ _ _ _ _ s.body s.variables s.thread s.given

pub open-in : (ps : List Proc) (t : ℕ) (results : List Chosen) (m : Thread) (n : ℕ) (o : Offer) (p : Phase) → MachineStands ps t results m → IsAfterAt m p → slice_get (offers_in p) n ≡ Some o → OpenAt ps t results n o (nacks_in p)
open-in ps t results m n o Ready s is_after e = absurd (none-some o e)
open-in ps t results m n o (Open os ns) s is_after e =
    let event = is_after.tree in
    let w = found offer_of (slice_get (bases event) n) o (sym (slice_get-map offer_of (bases event) n) ∙ ap (λ l. slice_get l n) is_after.offers ∙ e) in
    record {
      event = event;
      offered = record { process = s.process; is_its = s.is_its; said = said_in m; offers = sym (moved ps t results m s) ∙ is_after.after };
      base = w.0;
      is = w.1;
      made = w.2;
      nacks_are = sym is_after.nacks;
    }
open-in ps t results m n o Over s is_after e = absurd (none-some o e)
open-in ps t results m n o (Stuck fault) s is_after e = absurd (none-some o e)
open-in ps t results m n o Broken s is_after e = absurd (none-some o e)

pub open-at : (ps : List Proc) (t : ℕ) (results : List Chosen) (m : Thread) (n : ℕ) (o : Offer) → MachineStands ps t results m → slice_get (offers_in m.phase) n ≡ Some o → OpenAt ps t results n o (nacks_in m.phase)
open-at ps t results m n o s e = open-in ps t results m n o m.phase s s.after e

pub offers-now : (ps : List Proc) (t : ℕ) (results : List Chosen) (m : Thread) (p : Phase) (event : Tree) → MachineStands ps t results m → HasStopped p → IsAfterAt m p → IsOffering ps t results event → offers_in p ≡ offers event
offers-now ps t results m Ready event s stopped is_after offering = absurd stopped
offers-now ps t results m (Open os ns) event s stopped is_after offering =
    let here : IsOffering ps t results is_after.tree = record { process = s.process; is_its = s.is_its; said = said_in m; offers = sym (moved ps t results m s) ∙ is_after.after } in
    sym is_after.offers ∙ ap offers (offering-one ps t results is_after.tree event here offering)
offers-now ps t results m Over event s stopped is_after offering =
    let process : s.process ≡ offering.process = same_Some s.process offering.process (sym s.is_its ∙ offering.is_its) in
    let is : Finishes (said_in m) [] ≡ Offers event offering.said =
    sym is_after ∙ moved ps t results m s ∙ ap (λ (p : Proc). after p.body (length p.variables) t results) process ∙ offering.offers in
    absurd cc
offers-now ps t results m (Stuck fault) event s stopped is_after offering =
    let process : s.process ≡ offering.process = same_Some s.process offering.process (sym s.is_its ∙ offering.is_its) in
    let is : Fails fault (said_in m) [] ≡ Offers event offering.said =
    sym is_after ∙ moved ps t results m s ∙ ap (λ (p : Proc). after p.body (length p.variables) t results) process ∙ offering.offers in
    absurd cc
offers-now ps t results m Broken event s stopped is_after offering = absurd stopped

-- a thread that offers an event has an open machine with its offers
pub offers-are : (ps : List Proc) (t : ℕ) (results : List Chosen) (m : Thread) (event : Tree) → MachineStands ps t results m → IsOffering ps t results event → offers_in m.phase ≡ offers event
offers-are ps t results m event s offering = offers-now ps t results m m.phase event s s.stopped s.after offering

open-now : (ps : List Proc) (t : ℕ) (results : List Chosen) (m : Thread) (p : Phase) (s : MachineStands ps t results m) → HasStopped p → IsAfterAt m p →
    (offers_in p ≡ offered (after s.process.body (length s.process.variables) t results)) × (nacks_in p ≡ scoped (after s.process.body (length s.process.variables) t results))
open-now ps t results m Ready s stopped is_after = absurd stopped
open-now ps t results m (Open os ns) s stopped is_after = (
  sym is_after.offers ∙ ap offered (sym is_after.after ∙ moved ps t results m s),
  sym is_after.nacks ∙ ap scoped (sym is_after.after ∙ moved ps t results m s),
)
open-now ps t results m Over s stopped is_after = (ap offered (sym is_after ∙ moved ps t results m s), ap scoped (sym is_after ∙ moved ps t results m s))
open-now ps t results m (Stuck fault) s stopped is_after = (ap offered (sym is_after ∙ moved ps t results m s), ap scoped (sym is_after ∙ moved ps t results m s))
open-now ps t results m Broken s stopped is_after = absurd stopped

-- what a thread's machine offers is what the thread offers
pub opens-as : (ps : List Proc) (t : ℕ) (results : List Chosen) (m : Thread) (s : MachineStands ps t results m) →
    (offers_in m.phase ≡ offered (after s.process.body (length s.process.variables) t results)) × (nacks_in m.phase ≡ scoped (after s.process.body (length s.process.variables) t results))
opens-as ps t results m s = open-now ps t results m m.phase s s.stopped s.after

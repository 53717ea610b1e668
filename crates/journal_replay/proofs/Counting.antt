-- How many syncs all threads made, as a configuration goes on by a commit.
use Rattle.std.proofs.Common.{◌≡◌, ℕ, zero, suc, ◌+◌, ◌*◌, ◌<◌, ◌≤◌, List, [], ◌∷◌, length, refl, sym, ap, ◌∙◌, subst, arith, ⊎_elim}
use Rattle.std.proofs.lemmas.Bool.{cases_eq}
use Rattle.std.proofs.lemmas.List.{length-append}
use Rattle.std.proofs.lemmas.Option.{slice_get_within}
use Rattle.script_tree.specs.Processes.{Proc}
use Rattle.thread.specs.After.{Chosen}
use Rattle.protocol_values.specs.declared.Base.{Base}
use Rattle.protocol_values.specs.declared.Base.TheVariants.{Send, Recv, Always, OnNack, OnEnd}
use Rattle.protocol_values.specs.declared.Cause.TheVariants as cause
use Rattle.protocol_values.specs.declared.Commit.{Commit}
use Rattle.protocol_values.specs.declared.Commit.TheVariants.{Pair, Alone}
use Rattle.protocol_values.specs.declared.Message.{Message}
use Rattle.protocol_values.specs.declared.Message.TheVariants.{Empty}
use Rattle.protocol_values.specs.declared.Row.{Row}
use Rattle.journal_replay.specs.Runs.{Config, CanTake, IsLegal, applied, with_result}
use Rattle.journal_replay.proofs.Standing.{result-at, result-other}

-- so many threads made so many syncs
unfoldable pub syncs_of : ℕ → Config → ℕ
syncs_of zero config = 0
syncs_of (suc n) config = syncs_of n config + length (config n)

one_longer : (t : ℕ) (r : Chosen) (config : Config) → length (with_result t r config t) ≡ length (config t) + 1
one_longer t r config = ap (λ (rs : List Chosen). length rs) (result-at t t r config refl) ∙ length-append (config t) (r ∷ [])

no_longer : (t u : ℕ) (r : Chosen) (config : Config) → (u ≡ t → ⊥) → length (with_result t r config u) ≡ length (config u)
no_longer t u r config ne = ap (λ (rs : List Chosen). length rs) (result-other t u r config ne)

syncs_same : (n t : ℕ) (r : Chosen) (config : Config) → n ≤ t → syncs_of n (with_result t r config) ≡ syncs_of n config
unfolding syncs_of
syncs_same zero t r config le = refl
syncs_same (suc n) t r config le = omega (arith, syncs_same n t r config (omega (arith, le)), no_longer t n r config (λ e. omega (arith, e, le)))

syncs_one : (n t : ℕ) (r : Chosen) (config : Config) → t < n → syncs_of n (with_result t r config) ≡ syncs_of n config + 1
unfolding syncs_of
syncs_one zero t r config lt = absurd (omega (arith, lt))
syncs_one (suc n) t r config lt = ⊎_elim
    (λ e.
    let here : length (with_result t r config n) ≡ length (config n) + 1 =
    subst (λ (u : ℕ). length (with_result t r config u) ≡ length (config u) + 1) (sym e) (one_longer t r config) in
    omega (arith, syncs_same n t r config (omega (arith, e)), here))
    (λ ne. omega (arith, syncs_one n t r config (omega (arith, ne, lt)), no_longer t n r config ne))
    (cases_eq n t)

pub syncs_within : (n : ℕ) (config : Config) → ((t : ℕ) → length (config t) ≤ 67107840) → syncs_of n config ≤ n * 67107840
unfolding syncs_of
syncs_within zero config few = omega arith
syncs_within (suc n) config few = omega (arith, syncs_within n config few, few n)

module _ (ps : List Proc) (rows : ℕ) where
  abbrev pub Short : Config → Type 0
  Short config = (t : ℕ) → length (config t) ≤ rows

  abbrev pub all_syncs : Config → ℕ
  all_syncs config = syncs_of (length ps) config

  -- a thread takes a result
  pub record Grows (old new : Config) : Type 0 where
    pub short : Short new
    pub more : all_syncs old + 1 ≤ all_syncs new

  grows_one : (config : Config) (at : Row × ℕ) (b : Base) (m : Message) → Short config → CanTake ps rows (config at.0.thread) at b → Grows config (with_result at.0.thread (at.1, m) config)
  grows_one config at b m short can =
      let t = at.0.thread in
      let r : Chosen = (at.1, m) in
      let within = slice_get_within ps t can.offered.process can.offered.is_its in
      record {
        short = λ u. ⊎_elim
            (λ e. omega (arith, can.few, ap (λ (v : ℕ). length (with_result t r config v)) e, one_longer t r config))
            (λ ne. omega (arith, short u, no_longer t u r config ne))
            (cases_eq u t);
        more = omega (arith, syncs_one (length ps) t r config within);
      }

  -- the receiver's results are as they were
  receiver_later : (config : Config) (sender receiver : Row × ℕ) (b : Base) → (sender.0.thread ≡ receiver.0.thread → ⊥) → CanTake ps rows (config receiver.0.thread) receiver b → CanTake ps rows (with_result sender.0.thread (sender.1, Empty) config receiver.0.thread) receiver b
  receiver_later config sender receiver b ne can =
      subst (λ (rs : List Chosen). CanTake ps rows rs receiver b) (sym (result-other sender.0.thread receiver.0.thread (sender.1, Empty) config (λ e. ne (sym e)))) can

  pub grows : (config : Config) (c : Commit) → Short config → IsLegal ps rows config c → Grows config (applied config c)
  grows config (Pair sender receiver chan msg stamp) short legal =
      let middle = with_result sender.0.thread (sender.1, Empty) config in
      let one = grows_one config sender (Send chan msg) Empty short legal.1.can in
      let two = grows_one middle receiver (Recv chan) msg one.short (receiver_later config sender receiver (Recv chan) legal.0 legal.2.can) in
      record { short = two.short; more = omega (arith, one.more, two.more) }
  grows config (Alone at (cause.Always m) stamp) short legal = grows_one config at (Always m) m short legal.can
  grows config (Alone at (cause.Nack n) stamp) short legal = grows_one config at (OnNack n) Empty short legal.0.can
  grows config (Alone at (cause.End u) stamp) short legal = grows_one config at (OnEnd u) Empty short legal.0.can

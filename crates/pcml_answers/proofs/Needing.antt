-- What a commit needs of its rows and for its cause.
use Rattle.std.proofs.Common.{◌≡◌, ℕ, List, refl, sym, ap, subst, inl, inr, ⊎_elim}
use Rattle.script_tree.specs.Processes.{Proc}
use Rattle.protocol_values.specs.declared.Base.{Base}
use Rattle.protocol_values.specs.declared.Base.TheVariants.{Send, Recv, Always, OnNack, OnEnd}
use Rattle.protocol_values.specs.declared.Cause.{Cause}
use Rattle.protocol_values.specs.declared.Cause.TheVariants as cause
use Rattle.protocol_values.specs.declared.Commit.{Commit}
use Rattle.protocol_values.specs.declared.Commit.TheVariants.{Pair, Alone}
use Rattle.protocol_values.specs.declared.NackName.{NackName}
use Rattle.protocol_values.specs.declared.Row.{Row}
use Rattle.journal_replay.specs.Replays.{IsEnded}
use Rattle.journal_replay.specs.Runs.{Config, IsFiredAt, IsLegal, MayTake}
use Rattle.journal_replay.specs.Starting.{HasRow, HasThread, IsRow}
use Rattle.pcml_answers.specs.Reasons.{Needs, StandsFor}

-- a row of the commit, with what it needs
pub record NeededIn (c : Commit) (t g : ℕ) : Type 0 where
  pub at : Row × ℕ
  pub base : Base
  pub needs : Needs c at base
  pub is_row : IsRow at t g

row-of : (row at : Row × ℕ) → at ≡ row → IsRow row at.0.thread at.0.sync
row-of row at e = (ap (λ (p : Row × ℕ). p.0.thread) (sym e), ap (λ (p : Row × ℕ). p.0.sync) (sym e))

pub needs-row : (c : Commit) (at : Row × ℕ) (b : Base) → Needs c at b → HasRow c at.0.thread at.0.sync
needs-row (Pair sender receiver chan msg stamp) at b needs = ⊎_elim (λ h. inl (row-of sender at h.0)) (λ h. inr (row-of receiver at h.0)) needs
needs-row (Alone row (cause.Always m) stamp) at b needs = row-of row at needs.0
needs-row (Alone row (cause.Nack n) stamp) at b needs = row-of row at needs.0
needs-row (Alone row (cause.End t) stamp) at b needs = row-of row at needs.0

row-thread : (c : Commit) (t g : ℕ) → HasRow c t g → HasThread c t
row-thread (Pair sender receiver chan msg stamp) t g has = ⊎_elim (λ h. inl h.0) (λ h. inr h.0) has
row-thread (Alone at why stamp) t g has = has.0

pub needs-thread : (c : Commit) (at : Row × ℕ) (b : Base) → Needs c at b → HasThread c at.0.thread
needs-thread c at b needs = row-thread c at.0.thread at.0.sync (needs-row c at b needs)

alone-needs : (at : Row × ℕ) (why : Cause) (stamp t g : ℕ) → IsRow at t g → NeededIn (Alone at why stamp) t g
alone-needs at (cause.Always m) stamp t g is = record { at = at; base = Always m; needs = (refl, refl); is_row = is }
alone-needs at (cause.Nack n) stamp t g is = record { at = at; base = OnNack n; needs = (refl, refl); is_row = is }
alone-needs at (cause.End u) stamp t g is = record { at = at; base = OnEnd u; needs = (refl, refl); is_row = is }

pub row-needs : (c : Commit) (t g : ℕ) → HasRow c t g → NeededIn c t g
row-needs (Pair sender receiver chan msg stamp) t g has = ⊎_elim
    (λ h. record { at = sender; base = Send chan msg; needs = inl (refl, refl); is_row = h })
    (λ h. record { at = receiver; base = Recv chan; needs = inr (refl, refl); is_row = h })
    has
row-needs (Alone at why stamp) t g has = alone-needs at why stamp t g has

-- a row of the thread
pub thread-row : (c : Commit) (t : ℕ) → HasThread c t → (g : ℕ) × HasRow c t g
thread-row (Pair sender receiver chan msg stamp) t has = ⊎_elim (λ h. (sender.0.sync, inl (h, refl))) (λ h. (receiver.0.sync, inr (h, refl))) has
thread-row (Alone at why stamp) t has = (at.0.sync, (has, refl))

module _ (ps : List Proc) (rows : ℕ) (config : Config) where
  taken : (row at : Row × ℕ) (b d : Base) → at ≡ row → b ≡ d → MayTake ps rows config row d → MayTake ps rows config at b
  taken row at b d place base take = subst (λ (p : Row × ℕ). MayTake ps rows config p b) (sym place) (subst (λ (x : Base). MayTake ps rows config row x) (sym base) take)

  -- of a commit that may come next each row can take what it needs
  pub needs-take : (c : Commit) (at : Row × ℕ) (b : Base) → Needs c at b → IsLegal ps rows config c → MayTake ps rows config at b
  needs-take (Pair sender receiver chan msg stamp) at b needs legal = ⊎_elim
      (λ h. taken sender at b (Send chan msg) h.0 h.1 legal.1)
      (λ h. taken receiver at b (Recv chan) h.0 h.1 legal.2)
      needs
  needs-take (Alone row (cause.Always m) stamp) at b needs legal = taken row at b (Always m) needs.0 needs.1 legal
  needs-take (Alone row (cause.Nack n) stamp) at b needs legal = taken row at b (OnNack n) needs.0 needs.1 legal.0
  needs-take (Alone row (cause.End t) stamp) at b needs legal = taken row at b (OnEnd t) needs.0 needs.1 legal.0

  cause-fired : (at : Row × ℕ) (why : Cause) (stamp : ℕ) (n : NackName) → why ≡ cause.Nack n → IsLegal ps rows config (Alone at why stamp) → (g : ℕ) × IsFiredAt ps config n g
  cause-fired at why stamp n e legal = (subst (λ (x : Cause). IsLegal ps rows config (Alone at x stamp)) e legal).1

  pub stands-fired : (c : Commit) (n : NackName) → StandsFor c (cause.Nack n) → IsLegal ps rows config c → (g : ℕ) × IsFiredAt ps config n g
  stands-fired (Pair sender receiver chan msg stamp) n stands legal = absurd stands
  stands-fired (Alone at why stamp) n stands legal = cause-fired at why stamp n stands legal

  pub stands-ended : (c : Commit) (t : ℕ) → StandsFor c (cause.End t) → IsLegal ps rows config c → IsEnded ps config t
  stands-ended (Pair sender receiver chan msg stamp) t stands legal = absurd stands
  stands-ended (Alone at why stamp) t stands legal =
      let h = subst (λ (x : Cause). IsLegal ps rows config (Alone at x stamp)) stands legal in (h.1, h.2)

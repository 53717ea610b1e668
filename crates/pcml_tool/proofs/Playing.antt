-- Schedules that are played: where they lead, and where the first refused step is.
use Rattle.std.proofs.Common.{ℕ, ◌+◌, sym, ap, subst, ◌∙◌}
use Rattle.protocol_ledger.specs.Worlds.{Plays, IsRefused}
use Rattle.protocol_ledger.proofs.Playing.{played_not_refused, one_refused}
use Rattle.protocol.specs.Schedule.{Plan}
use Rattle.pcml_tool.specs.Play.{IsPlayedOrFaulty, HasOneFirstRefused, start_of}
use Rattle.protocol.proofs.PlanLaws.{spells_only_one, spells_or_is_bad}

pub played_or_faulty : IsPlayedOrFaulty
played_or_faulty bytes text k h = (
  (λ bad. spells_or_is_bad bytes h.plan k h.spells bad),
  (λ r.
      let same = spells_only_one bytes h.plan r.plan h.spells r.spells in
      let plays : Plays (start_of r.plan.size) r.plan.steps h.world = subst (λ (p : Plan). Plays (start_of p.size) p.steps h.world) same h.plays in
      played_not_refused (start_of r.plan.size) h.world r.plan.steps r.index plays r.refused),
)

pub has_one_first_refused : HasOneFirstRefused
has_one_first_refused bytes j k h = (
  (λ bad. spells_or_is_bad bytes h.plan k h.spells bad),
  (λ r.
      let same = spells_only_one bytes h.plan r.plan h.spells r.spells in
      let refused : IsRefused (start_of r.plan.size) r.plan.steps h.index = subst (λ (p : Plan). IsRefused (start_of p.size) p.steps h.index) same h.refused in
      let index = one_refused (start_of r.plan.size) r.plan.steps h.index r.index refused r.refused in
      h.from_one ∙ ap (λ (n : ℕ). n + 1) index ∙ sym r.from_one),
)

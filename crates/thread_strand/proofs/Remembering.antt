-- The nacks that a commit fires, remembered one after another.
use Rattle.std.proofs.Common.{◌≡◌, ◌≢◌, ◌⊎◌, ℕ, ◌+◌, ◌<◌, true, false, List, length, get_or, slice_get, Option, Some, None, sym, ap, ◌∙◌, arith, inl, inr, ◌≤◌, ⊎_elim}
use Rattle.std.proofs.lemmas.Bool.{cases_eq, false≢true}
use Rattle.std.proofs.lemmas.Option.{same_Some, slice_get_within}
use Rattle.protocol_values.specs.Scopes.{has_scope}
use Rattle.thread_strand.specs.Strands.{FiresMore}

-- the first so many scopes are done
pub record FiresUpTo (n : ℕ) (nacks : List ℕ) (scopes stamp : ℕ) (old new : List (Option ℕ)) : Type 0 where
  pub fires : (k s : ℕ) → s < n → slice_get nacks s ≡ Some k → has_scope scopes s ≡ false → get_or new k None ≡ Some stamp
  pub stays : (k : ℕ) → ((s : ℕ) → s < n → slice_get nacks s ≡ Some k → has_scope scopes s ≡ true) → get_or new k None ≡ get_or old k None

late : (s n : ℕ) → s < n + 1 → (s < n) ⊎ (s ≡ n)
late s n lt = ⊎_elim (λ e. inr e) (λ ne. inl (omega (arith, lt, ne))) (cases_eq s n)

pub fires-one : (n : ℕ) (nacks : List ℕ) (scopes stamp k : ℕ) (old new now : List (Option ℕ)) → FiresUpTo n nacks scopes stamp old new → slice_get nacks n ≡ Some k → has_scope scopes n ≡ false →
    get_or now k None ≡ Some stamp → ((j : ℕ) → j ≢ k → get_or now j None ≡ get_or new j None) → FiresUpTo (n + 1) nacks scopes stamp old now
fires-one n nacks scopes stamp k old new now first is out here others = record {
  fires = λ j s lt e o. ⊎_elim
      (λ same. ap (λ (i : ℕ). get_or now i None) same ∙ here)
      (λ ne. ⊎_elim
      (λ before. others j ne ∙ first.fires j s before e o)
      (λ last. absurd (ne (same_Some j k (sym e ∙ ap (slice_get nacks) last ∙ is))))
      (late s n lt))
      (cases_eq j k);
  stays = λ j all.
      let ne = λ (same : j ≡ k). false≢true (sym out ∙ all n (omega arith) (is ∙ ap Some (sym same))) in
      others j ne ∙ first.stays j (λ s lt e. all s (omega (arith, lt)) e);
}

pub fires-none : (n : ℕ) (nacks : List ℕ) (scopes stamp : ℕ) (old new : List (Option ℕ)) → FiresUpTo n nacks scopes stamp old new →
    has_scope scopes n ≡ true → FiresUpTo (n + 1) nacks scopes stamp old new
fires-none n nacks scopes stamp old new first inside = record {
  fires = λ j s lt e o. ⊎_elim
      (λ before. first.fires j s before e o)
      (λ here. absurd (false≢true (sym o ∙ ap (has_scope scopes) here ∙ inside)))
      (late s n lt);
  stays = λ j all. first.stays j (λ s lt e. all s (omega (arith, lt)) e);
}

pub fires-all : (nacks : List ℕ) (scopes stamp n : ℕ) (old new : List (Option ℕ)) → length nacks ≤ n → FiresUpTo n nacks scopes stamp old new → FiresMore nacks scopes stamp old new
fires-all nacks scopes stamp n old new le first = record {
  fires = λ k s e out. first.fires k s (omega (arith, le, slice_get_within nacks s k e)) e out;
  stays = λ k all. first.stays k (λ s lt e. all s e);
}

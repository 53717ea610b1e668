-- What a commit does to a thread's results: they only grow.
use Rattle.std.proofs.Common.{◌≡◌, ℕ, suc, List, [], ◌∷◌, ◌++◌, length, slice_get, Some, Contains, refl, sym, ap, ◌∙◌, append_assoc, append-nil, arith, inl, inr, ⊎_elim}
use Rattle.std.proofs.lemmas.Bool.{cases_eq}
use Rattle.thread.specs.After.{Chosen}
use Rattle.protocol_values.specs.declared.Commit.{Commit}
use Rattle.protocol_values.specs.declared.Commit.TheVariants.{Pair, Alone}
use Rattle.protocol_values.specs.declared.Message.TheVariants.{Empty}
use Rattle.journal_replay.specs.Runs.{Config, HasThread, applied, with_result, message_by, config_from}
use Rattle.journal_replay.proofs.Lists.{slice_get-middle}
use Rattle.journal_replay.proofs.Standing.{result-at, result-other}
pub use Rattle.journal_replay.proofs.Starting.{Extends}

pub extends-same : (before rs : List Chosen) → rs ≡ before → Extends before rs
extends-same before rs e = ([], e ∙ sym (append-nil before))

pub extends-chain : (xs ys zs : List Chosen) → Extends xs ys → Extends ys zs → Extends xs zs
extends-chain xs ys zs h k = (h.0 ++ k.0, k.1 ∙ ap (λ (rs : List Chosen). rs ++ k.0) h.1 ∙ append_assoc xs h.0 k.0)

result-extends : (t u : ℕ) (r : Chosen) (config : Config) → Extends (config u) (with_result t r config u)
result-extends t u r config = ⊎_elim
    (λ e. (r ∷ [], result-at t u r config e))
    (λ ne. extends-same (config u) (with_result t r config u) (result-other t u r config ne))
    (cases_eq u t)

pub applied-extends : (config : Config) (c : Commit) (t : ℕ) → Extends (config t) (applied config c t)
applied-extends config (Pair sender receiver chan msg stamp) t =
    let middle = with_result sender.0.thread (sender.1, Empty) config in
    extends-chain (config t) (middle t) (applied config (Pair sender receiver chan msg stamp) t)
    (result-extends sender.0.thread t (sender.1, Empty) config)
    (result-extends receiver.0.thread t (receiver.1, msg) middle)
applied-extends config (Alone at why stamp) t = result-extends at.0.thread t (at.1, message_by why) config

pub config-extends : (config : Config) (cs : List Commit) (t : ℕ) → Extends (config t) (config_from config cs t)
config-extends config [] t = extends-same (config t) (config t) refl
config-extends config (c ∷ cs) t =
    extends-chain (config t) (applied config c t) (config_from config (c ∷ cs) t) (applied-extends config c t) (config-extends (applied config c) cs t)

-- a result stays where it stands
pub result-stays : (before rs : List Chosen) (r : Chosen) (g : ℕ) → g ≡ length before → Extends (before ++ r ∷ []) rs → slice_get rs g ≡ Some r
result-stays before rs r g at h =
    ap (λ (n : ℕ). slice_get rs n) at ∙ ap (λ (xs : List Chosen). slice_get xs (length before)) (h.1 ∙ append_assoc before (r ∷ []) h.0) ∙ slice_get-middle before h.0 r

-- of a thread that it is not of a commit changes nothing
pub applied-other : (config : Config) (c : Commit) (t : ℕ) → (HasThread c t → ⊥) → applied config c t ≡ config t
applied-other config (Pair sender receiver chan msg stamp) t none =
    result-other receiver.0.thread t (receiver.1, msg) (with_result sender.0.thread (sender.1, Empty) config) (λ e. none (inr (sym e)))
    ∙ result-other sender.0.thread t (sender.1, Empty) config (λ e. none (inl (sym e)))
applied-other config (Alone at why stamp) t none = result-other at.0.thread t (at.1, message_by why) config (λ e. none (sym e))

-- nor do commits of which none is of the thread
pub none-from : (config : Config) (cs : List Commit) (t : ℕ) → ((d : Commit) → Contains cs d → HasThread d t → ⊥) → config_from config cs t ≡ config t
none-from config [] t none = refl
none-from config (c ∷ cs) t none =
    none-from (applied config c) cs t (λ d there. none d (suc there.0, omega (arith, there.1), there.2)) ∙ applied-other config c t (none c (0, omega arith, refl))

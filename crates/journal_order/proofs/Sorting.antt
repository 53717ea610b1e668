-- The commits of a run are put in order one by one, each behind those that are not above it; they stay a run, which
-- leads to the same configuration.
use Rattle.std.proofs.Common.{◌≡◌, ℕ, ◌≤◌, List, [], ◌∷◌, refl, sym, ap, ◌∙◌, arith, ⊎_elim}
use Rattle.std.specs.Prelude.{⊤, All, IsPermutation}
use Rattle.std.proofs.lemmas.List.Elements.{All-nil, All-cons, All-weaker}
use Rattle.std.proofs.lemmas.List.Sorted.{All-permutation, IsPermutation-refl, IsPermutation-cons, IsPermutation-middle, IsPermutation-trans}
use Rattle.script_tree.specs.Processes.{Proc}
use Rattle.protocol_values.specs.declared.Commit.{Commit}
use Rattle.protocol_values.specs.Commits.{order_of, stamp_of}
use Rattle.journal_replay.specs.Runs.{Config, Follows, applied, config_from, config_of}
use Rattle.journal_replay.proofs.Greatest.{more}
use Rattle.journal_replay.proofs.Standing.{config_of-more}
use Rattle.journal_order.proofs.Exchanging.{swap, runs-alike}
use Rattle.journal_order.proofs.Keys.{UpTo, up-to-either, up-to-chain, up-to-stamps}
use Rattle.journal_order.proofs.Runs.{RunsOn}

-- the one is not above the other in the journal's order
abbrev pub Before : Commit → Commit → Type 0
Before c d = UpTo (order_of c) (order_of d)

-- none is above a later one
abbrev pub Ascends : List Commit → Type 0
Ascends [] = ⊤
Ascends (c ∷ cs) = All (Before c) cs × Ascends cs

-- these commits in order, behind earlier ones
pub record Ordered (ps : List Proc) (rows : ℕ) (es cs : List Commit) : Type 0 where
  pub list : List Commit
  pub runs : RunsOn ps rows es list
  pub leads : config_from (config_of es) list ≡ config_from (config_of es) cs
  pub same : IsPermutation cs list
  pub ascends : Ascends list

stays : (ps : List Proc) (rows : ℕ) (es : List Commit) (c d : Commit) (ds : List Commit) → Follows ps rows es c → RunsOn ps rows (more es c) (d ∷ ds) →
    Ascends (d ∷ ds) → Before c d → Ordered ps rows es (c ∷ d ∷ ds)
stays ps rows es c d ds f runs up before = record {
  list = c ∷ d ∷ ds;
  runs = (f, runs);
  leads = refl;
  same = IsPermutation-refl (c ∷ d ∷ ds);
  ascends = (All-cons (Before c) d ds before (All-weaker (Before d) (Before c) (λ e h. up-to-chain (order_of c) (order_of d) (order_of e) before h) ds up.0), up);
}

-- where the second of two goes first, and the first is put among the rest
goes : (ps : List Proc) (rows : ℕ) (es : List Commit) (c d : Commit) (ds : List Commit) → Follows ps rows es d → config_of (more (more es c) d) ≡ config_of (more (more es d) c) →
    All (Before d) ds → Before d c → Ordered ps rows (more es d) (c ∷ ds) → Ordered ps rows es (c ∷ d ∷ ds)
goes ps rows es c d ds f exchange up before rest =
    let there : applied (config_of (more es d)) c ≡ applied (applied (config_of es) c) d =
    sym (config_of-more (more es d) c) ∙ sym exchange ∙ config_of-more (more es c) d ∙ ap (λ (x : Config). applied x d) (config_of-more es c) in
    record {
      list = d ∷ rest.list;
      runs = (f, rest.runs);
      leads = ap (λ (x : Config). config_from x rest.list) (sym (config_of-more es d)) ∙ rest.leads ∙ ap (λ (x : Config). config_from x ds) there;
      same = IsPermutation-trans (c ∷ d ∷ ds) (d ∷ c ∷ ds) (d ∷ rest.list) (IsPermutation-middle (c ∷ []) d ds) (IsPermutation-cons d (c ∷ ds) rest.list rest.same);
      ascends = (All-permutation (Before d) (c ∷ ds) rest.list rest.same (All-cons (Before d) c ds before up), rest.ascends);
    }

put : (ps : List Proc) (rows : ℕ) (es : List Commit) (c : Commit) (ds : List Commit) → Follows ps rows es c → RunsOn ps rows (more es c) ds → Ascends ds → Ordered ps rows es (c ∷ ds)
put ps rows es c [] f runs up =
    record { list = c ∷ []; runs = (f, tt); leads = refl; same = IsPermutation-refl (c ∷ []); ascends = (All-nil (Before c), tt) }
put ps rows es c (d ∷ ds) f runs up = ⊎_elim
    (λ before. stays ps rows es c d ds f runs up before)
    (λ behind.
    let le : stamp_of d ≤ stamp_of c = omega (arith, up-to-stamps (order_of d) (order_of c) behind) in
    let s = swap ps rows es c d f runs.0 le in
    goes ps rows es c d ds s.first s.alike.config up.0 behind
    (put ps rows (more es d) c ds s.second (runs-alike ps rows (more (more es c) d) (more (more es d) c) ds s.alike runs.1) up.1))
    (up-to-either (order_of c) (order_of d))

pub order : (ps : List Proc) (rows : ℕ) (es cs : List Commit) → RunsOn ps rows es cs → Ordered ps rows es cs
order ps rows es [] runs = record { list = []; runs = tt; leads = refl; same = IsPermutation-refl []; ascends = tt }
order ps rows es (c ∷ cs) runs =
    let rest = order ps rows (more es c) cs runs.1 in
    let whole = put ps rows es c rest.list runs.0 rest.runs rest.ascends in
    record {
      list = whole.list;
      runs = whole.runs;
      leads = whole.leads ∙ ap (λ (x : Config). config_from x rest.list) (sym (config_of-more es c)) ∙ rest.leads ∙ ap (λ (x : Config). config_from x cs) (config_of-more es c);
      same = IsPermutation-trans (c ∷ cs) (c ∷ rest.list) whole.list (IsPermutation-cons c cs rest.list rest.same) whole.same;
      ascends = whole.ascends;
    }

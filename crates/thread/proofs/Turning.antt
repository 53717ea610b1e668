-- Endless loops: each turn takes a result, so more turns than there are results make no difference.
use Rattle.std.proofs.Common.{◌≡◌, ℕ, zero, suc, ◌<◌, length, ap, ◌∙◌, arith}
use Rattle.script_tree.specs.Lined.{LoopBody}
use Rattle.thread.specs.Standing.{State, Outcome, ◌>>=◌, times, endless}
use Rattle.thread.specs.Stacks.{turn_on}
use Rattle.thread.proofs.Forgetting.{turn_takes}
use Rattle.thread.proofs.Going.{bind_same, bind_assoc}

-- more turns than there are results make no difference
enough : (turn : LoopBody) (n m : ℕ) (s : State) → length s.left < n → length s.left < m → times n (turn_on turn) s ≡ times m (turn_on turn) s
enough turn zero m s first second = absurd (omega (arith, first))
enough turn (suc n) zero s first second = absurd (omega (arith, second))
enough turn (suc n) (suc m) s first second =
    bind_same (turn_on turn s) (times n (turn_on turn)) (times m (turn_on turn)) (λ t. length t.left < length s.left) (turn_takes turn s) (λ t h.
    enough turn n m t (omega (arith, h, first)) (omega (arith, h, second)))

pub endless_more : (turn : LoopBody) (s : State) (f : State → Outcome State) → endless (turn_on turn) s >>= f ≡ (turn_on turn s >>= λ t. endless (turn_on turn) t >>= f)
endless_more turn s f =
    ap (λ x. x >>= f)
    (bind_same (turn_on turn s) (times (length s.left) (turn_on turn)) (endless (turn_on turn)) (λ t. length t.left < length s.left) (turn_takes turn s)
    (λ t h. enough turn (length s.left) (suc (length t.left)) t h (omega arith)))
    ∙ bind_assoc (turn_on turn s) (endless (turn_on turn)) f

pub times_more : (turn : LoopBody) (n left : ℕ) (s : State) (f : State → Outcome State) → n ≡ suc left → times n (turn_on turn) s >>= f ≡ (turn_on turn s >>= λ t. times left (turn_on turn) t >>= f)
times_more turn n left s f e =
    ap (λ k. times k (turn_on turn) s >>= f) e ∙ bind_assoc (turn_on turn s) (times left (turn_on turn)) f

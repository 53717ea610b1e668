-- What the numbers of a journal come to, all together.
use Rattle.std.proofs.Common.{◌≡◌, ◌==◌, ℕ, zero, suc, ◌+◌, ◌<◌, Bool, true, false, cond, List, [], ◌∷◌, length, refl, sym, ap, ◌∙◌, arith, ⊎_elim}
use Rattle.std.proofs.lemmas.Bool.{cases_eq}
use Rattle.std.proofs.lemmas.Bool.Decides.{nat_tests}
use Rattle.std.specs.List.{filter}
use Rattle.protocol_values.specs.declared.Commit.{Commit}
use Rattle.protocol_values.specs.declared.Commit.TheVariants as commits
use Rattle.protocol_values.specs.declared.Commit.TheVariants.{Pair}
use Rattle.pcml_answers.specs.declared.counts.Kind.{Kind}
use Rattle.pcml_answers.specs.declared.counts.Kind.TheVariants.{Sends, Receives, Alone, Uses}
use Rattle.pcml_answers.specs.Counts.{Agrees, IsAmong, SumsAgree, count, is_of, sum_below}

-- SUMS

sum-none : (n : ℕ) → sum_below n (λ t. 0) ≡ 0
sum-none zero = refl
sum-none (suc n) = omega (arith, sum-none n)

sum-same : (n : ℕ) (f g : ℕ → ℕ) → ((t : ℕ) → f t ≡ g t) → sum_below n f ≡ sum_below n g
sum-same zero f g same = refl
sum-same (suc n) f g same = omega (arith, sum-same n f g same, same n)

sum-both : (n : ℕ) (f g : ℕ → ℕ) → sum_below n (λ t. f t + g t) ≡ sum_below n f + sum_below n g
sum-both zero f g = refl
sum-both (suc n) f g = omega (arith, sum-both n f g)

abbrev here : ℕ → ℕ → ℕ
here x t = cond (x == t) 1 0

here-itself : (x t : ℕ) → x ≡ t → here x t ≡ 1
here-itself x t is = grind (arith, nat_tests, is)

here-other : (x t : ℕ) → (x ≡ t → ⊥) → here x t ≡ 0
here-other x t other = grind (arith, nat_tests, other)

sum-before : (n x : ℕ) → n < x + 1 → sum_below n (here x) ≡ 0
sum-before zero x low = refl
sum-before (suc n) x low = omega (arith, sum-before n x (omega (arith, low)), here-other x n (λ e. omega (arith, e, low)))

sum-one : (n x : ℕ) → x < n → sum_below n (here x) ≡ 1
sum-one zero x low = absurd (omega (arith, low))
sum-one (suc n) x low = ⊎_elim
    (λ e. omega (arith, sum-before n x (omega (arith, e)), here-itself x n e))
    (λ other. omega (arith, sum-one n x (omega (arith, low, other)), here-other x n other))
    (cases_eq x n)

-- COUNTS, one commit more

abbrev one : Kind → Commit → ℕ
one kind c = cond (is_of kind c) 1 0

count-if : (b : Bool) (p : Commit → Bool) (c : Commit) (cs : List Commit) → p c ≡ b → length (filter p (c ∷ cs)) ≡ cond b 1 0 + length (filter p cs)
count-if true p c cs e = ap (λ (b : Bool). length (cond b (c ∷ filter p cs) (filter p cs))) e ∙ omega arith
count-if false p c cs e = ap (λ (b : Bool). length (cond b (c ∷ filter p cs) (filter p cs))) e ∙ omega arith

counts-more : (n : ℕ) (K : ℕ → Kind) (c : Commit) (cs : List Commit) (k : ℕ) → sum_below n (λ t. one (K t) c) ≡ k →
    sum_below n (λ t. count (K t) (c ∷ cs)) ≡ k + sum_below n (λ t. count (K t) cs)
counts-more n K c cs k is =
    sum-same n (λ t. count (K t) (c ∷ cs)) (λ t. one (K t) c + count (K t) cs) (λ t. count-if (is_of (K t) c) (is_of (K t)) c cs refl)
    ∙ sum-both n (λ t. one (K t) c) (λ t. count (K t) cs)
    ∙ ap (λ (m : ℕ). m + sum_below n (λ t. count (K t) cs)) is

agrees-more : (threads channels : ℕ) (c : Commit) (cs : List Commit) → IsAmong threads channels c → Agrees threads channels cs → Agrees threads channels (c ∷ cs)
agrees-more threads channels (Pair sender receiver chan msg stamp) cs among rest =
    let c : Commit = Pair sender receiver chan msg stamp in
    let sends = counts-more threads Sends c cs 1 (sum-one threads sender.0.thread among.0) in
    let receives = counts-more threads Receives c cs 1 (sum-one threads receiver.0.thread among.1) in
    let uses = counts-more channels Uses c cs 1 (sum-one channels chan among.2) in
    let alone = counts-more threads Alone c cs 0 (sum-none threads) in
    record {
      sent_received = omega (arith, sends, receives, rest.sent_received);
      sent_used = omega (arith, sends, uses, rest.sent_used);
      all = omega (arith, sends, alone, rest.all);
    }
agrees-more threads channels (commits.Alone at why stamp) cs among rest =
    let c : Commit = commits.Alone at why stamp in
    let sends = counts-more threads Sends c cs 0 (sum-none threads) in
    let receives = counts-more threads Receives c cs 0 (sum-none threads) in
    let uses = counts-more channels Uses c cs 0 (sum-none channels) in
    let alone = counts-more threads Alone c cs 1 (sum-one threads at.0.thread among) in
    record {
      sent_received = omega (arith, sends, receives, rest.sent_received);
      sent_used = omega (arith, sends, uses, rest.sent_used);
      all = omega (arith, sends, alone, rest.all);
    }

pub sums_agree : SumsAgree
sums_agree threads channels [] among = record {
  sent_received = sum-none threads ∙ sym (sum-none threads);
  sent_used = sum-none threads ∙ sym (sum-none channels);
  all = omega (arith, sum-none threads);
}
sums_agree threads channels (c ∷ cs) among =
    agrees-more threads channels c cs (among c (0, omega arith, refl)) (sums_agree threads channels cs (λ d there. among d (suc there.0, omega (arith, there.1), there.2)))

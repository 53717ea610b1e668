-- Numbers that leave one rest, and multiples of a step around a count.
use Rattle.std.proofs.Common.{◌≡◌, ℕ, zero, suc, ◌+◌, ◌*◌, ◌/◌, ◌%◌, ◌<◌, sym, ap, ◌∙◌, arith}
use Rattle.std.proofs.Math.Nat.{add-mul-mod_self_right, mod-eq_of_lt}
use Rattle.std.proofs.lemmas.Nat.{div-add-mod', mod_below}
use Rattle.engine.specs.Orders.{HasInverse}

-- both leave one rest
pub record Alike (n x y : ℕ) : Type 0 where
  pub k : ℕ
  pub l : ℕ
  pub is : x + k * n ≡ y + l * n

pub rest-alike : (n x y : ℕ) → Alike n x y → x % n ≡ y % n
rest-alike n x y a = sym (add-mul-mod_self_right x a.k n) ∙ ap (λ z. z % n) a.is ∙ add-mul-mod_self_right y a.l n

pub alike-rest : (n x y : ℕ) → x % n ≡ y % n → Alike n x y
alike-rest n x y e = record { k = y / n; l = x / n; is = omega (arith, div-add-mod' x n, div-add-mod' y n, e) }

pub same-below : (n x y : ℕ) → x < n → y < n → Alike n x y → x ≡ y
same-below n x y p q a = sym (mod-eq_of_lt p) ∙ rest-alike n x y a ∙ mod-eq_of_lt q

-- some multiple of the step leaves the rest of x
abbrev pub IsMultiple : ℕ → ℕ → ℕ → Type 0
IsMultiple n step x = (times : ℕ) × ((step * times) % n ≡ x % n)

pub count-is-multiple : (n step : ℕ) → IsMultiple n step n
count-is-multiple n step = (0, rest-alike n (step * 0) n (record { k = 1; l = 0; is = omega arith }))

pub step-is-multiple : (n step : ℕ) → IsMultiple n step step
step-is-multiple n step = (1, rest-alike n (step * 1) step (record { k = 0; l = 0; is = omega arith }))

-- s times the step and t times the step are alike x and y, where x is q times y and r: so r is alike to s + m * q * t times it
rest-by : (m step x y q r s t k l i j : ℕ) → step * s + k * suc m ≡ x + l * suc m → step * t + i * suc m ≡ y + j * suc m → q * y + r ≡ x
    → Alike (suc m) (step * (s + m * q * t)) r
rest-by m step x y q r s t k l i j e f whole = record {
  k = k + m * q * i;
  l = l + m * q * j + q * y;
  is = let g : m * q * (step * t + i * suc m) ≡ m * q * (y + j * suc m) = ap (λ z. m * q * z) f in omega (arith, e, g, whole);
}

pub rest-is-multiple : (n step x y : ℕ) → 0 < n → IsMultiple n step x → IsMultiple n step y → IsMultiple n step (x % y)
rest-is-multiple zero step x y some p q = absurd (omega (arith, some))
rest-is-multiple (suc m) step x y some p q =
    let a = alike-rest (suc m) (step * p.0) x p.1 in
    let b = alike-rest (suc m) (step * q.0) y q.1 in
    (p.0 + m * (x / y) * q.0, rest-alike (suc m) _ _ (rest-by m step x y (x / y) (x % y) p.0 q.0 a.k a.l b.k b.l a.is b.is (div-add-mod' x y)))

-- places that so many steps lead to from one place are one only if they are as many steps
pub once : (n step at one other : ℕ) → HasInverse step n → one < n → other < n → (at + one * step) % n ≡ (at + other * step) % n → one ≡ other
once n step at one other inverse p q same =
    let u = inverse.0 in
    let a = alike-rest n (step * u) 1 inverse.1 in
    let b = alike-rest n (at + one * step) (at + other * step) same in
    let e : u * (at + one * step + b.k * n) ≡ u * (at + other * step + b.l * n) = ap (λ z. u * z) b.is in
    let f : one * (step * u + a.k * n) ≡ one * (1 + a.l * n) = ap (λ z. one * z) a.is in
    let g : other * (step * u + a.k * n) ≡ other * (1 + a.l * n) = ap (λ z. other * z) a.is in
    same-below n one other p q (record { k = one * a.l + other * a.k + b.k * u; l = other * a.l + one * a.k + b.l * u; is = omega (arith, e, f, g) })

-- some number of steps leads to each place from each other
pub each : (n step at place : ℕ) → HasInverse step n → place < n → (time : ℕ) × (time < n) × ((at + time * step) % n ≡ place)
each zero step at place inverse p = absurd (omega (arith, p))
each (suc m) step at place inverse p =
    let n : ℕ = suc m in
    let u = inverse.0 in
    let far : ℕ = place + m * at in
    let time : ℕ = u * far % n in
    let whole : ℕ = u * far / n in
    let a = alike-rest n (step * u) 1 inverse.1 in
    let e : whole * n + time ≡ u * far = div-add-mod' (u * far) n in
    let f : step * (whole * n + time) ≡ step * (u * far) = ap (λ z. step * z) e in
    let g : far * (step * u + a.k * n) ≡ far * (1 + a.l * n) = ap (λ z. far * z) a.is in
    let leads : Alike n (at + time * step) place = record { k = whole * step + far * a.k; l = at + far * a.l; is = omega (arith, f, g) } in
    (time, mod_below (u * far) n (omega arith), rest-alike n (at + time * step) place leads ∙ mod-eq_of_lt p)

-- What is told is demanded, of any reader of which the facts are known, and nothing else is demanded.
use Rattle.std.proofs.Common.{◌≡◌, ◌⊎◌, inl, inr, ⊎_elim, ℕ, zero, suc, ◌+◌, ◌<◌, ◌≤◌, List, [], ◌∷◌, ◌++◌, length, take, Option, Some, None, Result, Ok, Err, refl, sym, ap, ap₂, ◌∙◌, subst, arith, length-append, append_assoc, take_all, le_refl}
use Rattle.std.proofs.Math.Seq.{take-append_seam}
use Rattle.script_token.specs.Tokens.{Token, Fixed}
use Rattle.script_token.specs.declared.kind.Symbol.TheVariants.{Loop, Forever}
use Rattle.script_reader.specs.Steps.{Told}
use Rattle.script_reader.specs.declared.fault.Problem.{Problem}
use Rattle.script_reader.specs.declared.fault.Problem.TheVariants.{Syntax, UnknownName, Twice, TooMany, LoopWithoutSync}
use Rattle.script_faults.specs.Notes.{Note, first_fault, SameFront}
use Rattle.script_faults.specs.Laws.{IsFirst, Demanded, IsRead, Answered, Any}
use Rattle.script_faults.proofs.Facts.{Lang, Facts, Bad, Whole, Stops, same_front, fine_of, spelled_length}
use Rattle.script_faults.proofs.Places.{nth, BackIs, Agree, Agrees}

-- ONLY ONE FAULT IS DEMANDED

-- of two ways to cut a list in two, one cuts later, or both cut at one place
pub data Cut (a b c d : List Token) : Type 0 where
  Later : (t : Token) (m : List Token) → c ≡ a ++ t ∷ m → b ≡ (t ∷ m) ++ d → Cut a b c d
  Same : a ≡ c → b ≡ d → Cut a b c d
  Earlier : (t : Token) (m : List Token) → a ≡ c ++ t ∷ m → d ≡ (t ∷ m) ++ b → Cut a b c d

tail_is : (t u : Token) (ts us : List Token) → t ∷ ts ≡ u ∷ us → (t ≡ u) × (ts ≡ us)
tail_is t u ts us e = (cc, cc)

pub cut : (a b c d : List Token) → a ++ b ≡ c ++ d → Cut a b c d
cut [] b [] d e = Same refl e
cut [] b (t ∷ c) d e = Later t c refl e
cut (t ∷ a) b [] d e = Earlier t a refl (sym e)
cut (t ∷ a) b (u ∷ c) d e = (let p = tail_is t u (a ++ b) (c ++ d) e in longer p.0 (cut a b c d p.1))
  where
    longer : t ≡ u → Cut a b c d → Cut (t ∷ a) b (u ∷ c) d
    longer same (Later v m f g) = Later v m (ap₂ (λ (x : Token) (xs : List Token). x ∷ xs) (sym same) f) g
    longer same (Same f g) = Same (ap₂ (λ (x : Token) (xs : List Token). x ∷ xs) same f) g
    longer same (Earlier v m f g) = Earlier v m (ap₂ (λ (x : Token) (xs : List Token). x ∷ xs) same f) g

first_behind : (before behind : List Note) (fault : Problem × ℕ) (n : ℕ) → length before < n → first_fault (take n (before ++ Some fault ∷ behind)) ≡ None → ⊥
first_behind [] behind fault zero few e = omega (arith, few)
first_behind [] behind fault (suc n) few e = absurd cc
first_behind (None ∷ before) behind fault zero few e = omega (arith, few)
first_behind (None ∷ before) behind fault (suc n) few e = first_behind before behind fault n (omega (arith, few)) e
first_behind (Some p ∷ before) behind fault zero few e = omega (arith, few)
first_behind (Some p ∷ before) behind fault (suc n) few e = absurd cc

pub none_before : (notes : List Note) (place n : ℕ) (fault : Problem × ℕ) → IsFirst notes place fault → place < n → first_fault (take n notes) ≡ None → ⊥
none_before notes place n fault f few e = (let c = f.count in first_behind f.before f.behind fault n (omega (arith, few, c)) (ap (λ (x : List Note). first_fault (take n x)) (sym f.parts) ∙ e))

seam : (x y u v : List Note) (a b : Problem × ℕ) → length x ≡ length y → x ++ Some a ∷ u ≡ y ++ Some b ∷ v → a ≡ b
seam [] [] u v a b n e = cc
seam [] (m ∷ y) u v a b n e = absurd cc
seam (m ∷ x) [] u v a b n e = absurd cc
seam (m ∷ x) (m' ∷ y) u v a b n e = seam x y u v a b (omega (arith, n)) (let same : x ++ Some a ∷ u ≡ y ++ Some b ∷ v = cc in same)

same_first : (notes : List Note) (place : ℕ) (a b : Problem × ℕ) → IsFirst notes place a → IsFirst notes place b → a ≡ b
same_first notes place a b f g = seam f.before g.before f.behind g.behind a b (f.count ∙ sym g.count) (sym f.parts ∙ g.parts)

module _ {W : Type 0} (spell : W → List Token → List Token) (notes : W → List Note) (E : List Token → Type 0) (end : List Token) (ends : E end) (ts : List Token) where
  abbrev Demands : Told → Type 0
  Demands told = Demanded spell notes E ts told

  -- what begins without a fault at one of these tokens has no first fault there
  not_before : (a b : Told) (d : Demands a) (e : Demands b) (t : Token) (m : List Token) → e.before ≡ d.before ++ t ∷ m → d.behind ≡ (t ∷ m) ++ e.behind → ⊥
  not_before a b d e t m front back =
      let is : spell e.written end ≡ d.before ++ ((t ∷ m) ++ e.more end) = e.begins end ∙ ap (λ (x : List Token). x ++ e.more end) front ∙ append_assoc d.before (t ∷ m) (e.more end) in
      let first = d.first e.written end ((t ∷ m) ++ e.more end) ends is (subst (λ (x : List Token). SameFront x ((t ∷ m) ++ e.more end)) (sym back) refl) in
      let size : length e.before ≡ length d.before + length (t ∷ m) = ap length front ∙ length-append d.before (t ∷ m) in
      none_before (notes e.written) (length d.before) (length e.before) (a.0, d.back) first (omega (arith, size)) e.clean

  told_same : (a b : Told) (d : Demands a) (e : Demands b) → d.behind ≡ e.behind → a.0 ≡ b.0 → d.back ≡ e.back → a ≡ b
  told_same a b d e behind problem back =
      let l = d.line in let m = e.line in let n = ap length behind in
      ap₂ (λ (x : Problem) (y : ℕ). (x, y)) problem (let left : a.1 ≡ b.1 = omega (arith, l, m, n, back) in left)

  -- something goes on with the token at the place of both
  goes_on_same : (a b : Told) (d : Demands a) (e : Demands b) → d.before ≡ e.before → d.behind ≡ e.behind → ((rest : List Token) → SameFront d.behind (d.more rest)) → a ≡ b
  goes_on_same a b d e before behind h =
      let one = d.first d.written end (d.more end) ends (d.begins end) (h end) in
      let two = e.first d.written end (d.more end) ends (d.begins end ∙ ap (λ (x : List Token). x ++ d.more end) before) (subst (λ (x : List Token). SameFront x (d.more end)) behind (h end)) in
      let same : (a.0, d.back) ≡ (b.0, e.back) = same_first (notes d.written) (length d.before) (a.0, d.back) (b.0, e.back) one (subst (λ (x : List Token). IsFirst (notes d.written) (length x) (b.0, e.back)) (sym before) two) in
      told_same a b d e behind (ap (λ (x : Problem × ℕ). x.0) same) (ap (λ (x : Problem × ℕ). x.1) same)

  at_place : (a b : Told) (d : Demands a) (e : Demands b) → d.before ≡ e.before → d.behind ≡ e.behind → a ≡ b
  at_place a b d e before behind = ⊎_elim
      (λ one. ⊎_elim (λ two. told_same a b d e behind (one.0 ∙ sym two.0) (one.1 ∙ sym two.1)) (λ h. sym (goes_on_same b a e d (sym before) (sym behind) h)) e.goes_on)
      (λ h. goes_on_same a b d e before behind h)
      d.goes_on

  only_one : (a b : Told) → Demands a → Demands b → a ≡ b
  only_one a b d e = at_cut (cut d.before d.behind e.before e.behind (sym d.tokens ∙ e.tokens))
    where
      at_cut : Cut d.before d.behind e.before e.behind → a ≡ b
      at_cut (Same before behind) = at_place a b d e before behind
      at_cut (Later t m front back) = absurd (not_before a b d e t m front back)
      at_cut (Earlier t m front back) = absurd (not_before b a e d t m front back)

-- WHERE A FAULT STANDS IS KNOWN FROM WHERE IT IS TOLD

-- the tokens in front of so many, the last of them first
abbrev prior_at : ℕ → List Token → List Token → List Token
prior_at zero prior ts = prior
prior_at (suc n) prior [] = prior
prior_at (suc n) prior (t ∷ ts) = prior_at n (t ∷ prior) ts

pub agree_at : (before behind : List Note) (fault : Problem × ℕ) (prior ts : List Token) → Agree prior ts (before ++ Some fault ∷ behind) → BackIs (prior_at (length before) prior ts) fault.0 fault.1
agree_at [] behind fault prior [] a = absurd a
agree_at [] behind fault prior (t ∷ ts) a = a.0
agree_at (n ∷ before) behind fault prior [] a = absurd a
agree_at (n ∷ before) behind fault prior (t ∷ ts) a = agree_at before behind fault (t ∷ prior) ts a.1

prior_same : (before x y prior : List Token) → prior_at (length before) prior (before ++ x) ≡ prior_at (length before) prior (before ++ y)
prior_same [] x y prior = refl
prior_same (t ∷ before) x y prior = prior_same before x y (t ∷ prior)

-- a token so many tokens in front of a place
record WordAt (ts : List Token) (n k : ℕ) (t : Token) : Type 0 where
  at : ℕ
  sum : at + suc k ≡ n
  is : nth ts at ≡ Some t

record WordBefore (prior : List Token) (n k : ℕ) (t : Token) : Type 0 where
  at : ℕ
  sum : k ≡ n + at
  is : nth prior at ≡ Some t

word_back : (n k : ℕ) (prior ts : List Token) (t : Token) → n ≤ length ts → nth (prior_at n prior ts) k ≡ Some t → WordAt ts n k t ⊎ WordBefore prior n k t
word_back zero k prior ts t small e = inr (record { at = k; sum = (let same : k ≡ 0 + k = omega arith in same); is = e })
word_back (suc n) k prior [] t small e = absurd (omega (arith, small))
word_back (suc n) k prior (u ∷ ts) t small e = ⊎_elim
    (λ a. (let s = a.sum in inl (record { at = suc a.at; sum = omega (arith, s); is = a.is })))
    (λ a. at_before a.at a.sum a.is)
    (word_back n k (u ∷ prior) ts t (omega (arith, small)) e)
  where
    at_before : (j : ℕ) → k ≡ n + j → nth (u ∷ prior) j ≡ Some t → WordAt (u ∷ ts) (suc n) k t ⊎ WordBefore prior (suc n) k t
    at_before zero s f = inl (record { at = 0; sum = omega (arith, s); is = f })
    at_before (suc j) s f = inr (record { at = j; sum = omega (arith, s); is = f })

word_in : (n k : ℕ) (ts : List Token) (t : Token) → n ≤ length ts → nth (prior_at n [] ts) k ≡ Some t → WordAt ts n k t
word_in n k ts t small e = ⊎_elim (λ a. a) (λ a. (let f = a.is in absurd cc)) (word_back n k [] ts t small e)

nth_before : (before x y : List Token) (q : ℕ) → q < length before → nth (before ++ x) q ≡ nth (before ++ y) q
nth_before [] x y q small = absurd (omega (arith, small))
nth_before (t ∷ before) x y zero small = refl
nth_before (t ∷ before) x y (suc q) small = nth_before before x y q (omega (arith, small))

-- the tokens at one and the same place are one
same_word : (before x y : List Token) (i k l : ℕ) (t u : Token) → i ≤ length (before ++ x) → i + l ≡ length before + k
    → nth (prior_at i [] (before ++ x)) k ≡ Some t → nth (prior_at (length before) [] (before ++ y)) l ≡ Some u → ◌≡◌ {A = Option Token} (Some t) (Some u)
same_word before x y i k l t u small same a b =
    let n : length (before ++ y) ≡ length before + length y = length-append before y in
    let v = word_in i k (before ++ x) t small a in
    let w = word_in (length before) l (before ++ y) u (omega (arith, n)) b in
    let p = v.sum in let q = w.sum in
    let at : v.at ≡ w.at = omega (arith, p, q, same) in
    let within : w.at < length before = omega (arith, q) in
    sym v.is ∙ ap (nth (before ++ x)) at ∙ nth_before before x y w.at within ∙ w.is

-- so a line that is told of a loop's word is told of the same word, and as far back
same_back : (problem : Problem) (before x y : List Token) (i a b : ℕ) → i ≤ length (before ++ x) → i + b ≡ length before + a → BackIs (prior_at i [] (before ++ x)) problem a → BackIs (prior_at (length before) [] (before ++ y)) problem b → a ≡ b
same_back Syntax before x y i a b small same g h = g ∙ sym h
same_back UnknownName before x y i a b small same g h = g ∙ sym h
same_back Twice before x y i a b small same g h = g ∙ sym h
same_back TooMany before x y i a b small same g h = g ∙ sym h
same_back LoopWithoutSync before x y i a b small same (inl g) (inl h) = g.1 ∙ sym h.1
same_back LoopWithoutSync before x y i a b small same (inl g) (inr h) = (let p = g.1 in let q = h.1 in let tokens = same_word before x y i 2 1 (Fixed Loop) (Fixed Forever) small (omega (arith, p, q, same)) g.0 h.0 in absurd cc)
same_back LoopWithoutSync before x y i a b small same (inr g) (inl h) = (let p = g.1 in let q = h.1 in let tokens = same_word before x y i 1 2 (Fixed Forever) (Fixed Loop) small (omega (arith, p, q, same)) g.0 h.0 in absurd cc)
same_back LoopWithoutSync before x y i a b small same (inr g) (inr h) = g.1 ∙ sym h.1

-- the first fault of these notes, and where it stands
record FirstCut (notes : List Note) (told : Told) : Type 0 where
  before : List Note
  behind : List Note
  fault : Problem × ℕ
  parts : notes ≡ before ++ Some fault ∷ behind
  none : first_fault before ≡ None
  is : (fault.0, fault.1 + suc (length behind)) ≡ told

first_cut : (notes : List Note) (told : Told) → first_fault notes ≡ Some told → FirstCut notes told
first_cut [] told e = absurd cc
first_cut (None ∷ notes) told e = (let c = first_cut notes told e in record { before = None ∷ c.before; behind = c.behind; fault = c.fault; parts = ap (λ (x : List Note). None ∷ x) c.parts; none = c.none; is = c.is })
first_cut (Some p ∷ notes) told e = record { before = []; behind = notes; fault = p; parts = refl; none = refl; is = cc }

-- WHAT A READER TELLS

module _ {X Y : Type 0} {E : List Token → Type 0} (L : Lang X Y E) (f : List Token → Result Y Told) (F : Facts Any L f) (agrees : (w : L.W) → Agrees (L.spell w) (L.notes w)) where
  read_it : (w : L.W) → first_fault (L.notes w) ≡ None → (rest : List Token) → E rest → IsRead (f (L.spell w rest))
  read_it w clean rest e = (let fine = fine_of L f w clean (F.reads w) in subst IsRead (sym (fine.reads rest e)) tt)

  tell_it : (w : L.W) (told : Told) → first_fault (L.notes w) ≡ Some told → (rest : List Token) → E rest → f (L.spell w rest) ≡ Err (told.0, told.1 + length rest)
  tell_it w told is rest e = ⊎_elim
      (λ fine. (let same : ◌≡◌ {A = Option Told} None (Some told) = sym fine.clean ∙ is in absurd cc))
      (λ bad. (let same : bad.told ≡ told = some_is (sym bad.is ∙ is) in bad.fails rest e ∙ ap (λ (t : Told). Err (t.0, t.1 + length rest)) same))
      (F.reads w)
    where
      some_is : {a b : Told} → ◌≡◌ {A = Option Told} (Some a) (Some b) → a ≡ b
      some_is h = cc

  err_is : (a b : Told) → ◌≡◌ {A = Result Y Told} (Err a) (Err b) → a ≡ b
  err_is a b h = cc

  no_both : (y : Y) (t : Told) → ◌≡◌ {A = Result Y Told} (Ok y) (Err t) → ⊥
  no_both y t h = cc

  noted_back : (w : L.W) (rest : List Token) (before behind : List Note) (fault : Problem × ℕ) → L.notes w ≡ before ++ Some fault ∷ behind → BackIs (prior_at (length before) [] (L.spell w rest)) fault.0 fault.1
  noted_back w rest before behind fault parts =
      agree_at before (behind ++ []) fault [] (L.spell w rest) (subst (Agree [] (L.spell w rest)) (ap (λ (x : List Note). x ++ []) parts ∙ append_assoc before (Some fault ∷ behind) []) ((agrees w).agree [] rest [] (λ p. tt)))

  -- how far back the line of a reader's fault is told
  stop_back : (ts : List Token) (s : Stops L f ts) (others : List Token) → BackIs (prior_at (length s.before) [] (s.before ++ others)) s.problem s.back
  stop_back ts s others = ⊎_elim
      (λ a. subst (λ (p : Problem). BackIs (prior_at (length s.before) [] (s.before ++ others)) p s.back) (sym a.0) a.1)
      (λ h.
      let n = h.0 in
      let b = noted_back s.w [] s.first n.others (s.problem, s.back) (s.parts ∙ ap (λ (x : List Note). s.first ++ x) n.is) in
      let c = subst (λ (m : ℕ). BackIs (prior_at m [] (L.spell s.w [])) s.problem s.back) s.count b in
      subst (λ (x : List Token). BackIs x s.problem s.back) (ap (prior_at (length s.before) []) (s.begins []) ∙ prior_same s.before (s.more []) others []) c)
      s.reach

  bad_there : (ts : List Token) (s : Stops L f ts) (w : L.W) (rest others : List Token) → E rest → L.spell w rest ≡ s.before ++ others → SameFront s.behind others → Bad L f w → IsFirst (L.notes w) (length s.before) (s.problem, s.back)
  bad_there ts s w rest others e is front bad =
      let told : (bad.told.0, bad.told.1 + length rest) ≡ (s.problem, s.back + length others) = err_is _ _ (sym (bad.fails rest e) ∙ ap f is ∙ s.same others front) in
      let c = first_cut (L.notes w) bad.told bad.is in
      let problem : c.fault.0 ≡ s.problem = ap (λ (t : Told). t.0) c.is ∙ ap (λ (t : Told). t.0) told in
      let left : c.fault.1 + suc (length c.behind) ≡ bad.told.1 = ap (λ (t : Told). t.1) c.is in
      let line : bad.told.1 + length rest ≡ s.back + length others = ap (λ (t : Told). t.1) told in
      let whole : length (L.spell w rest) ≡ length (L.notes w) + length rest = spelled_length (L.spell w) (L.notes w) rest (L.shape w) in
      let tokens : length (L.spell w rest) ≡ length s.before + length others = ap length is ∙ length-append s.before others in
      let notes : length (L.notes w) ≡ length c.before + suc (length c.behind) = ap length c.parts ∙ length-append c.before (Some c.fault ∷ c.behind) in
      let small : length c.before ≤ length (s.before ++ others) = (let n = ap length is in omega (arith, n, whole, notes)) in
      let sum : length c.before + s.back ≡ length s.before + c.fault.1 = omega (arith, left, line, whole, tokens, notes) in
      let b = noted_back w rest c.before c.behind c.fault c.parts in
      let here : BackIs (prior_at (length c.before) [] (s.before ++ others)) s.problem c.fault.1 = subst (λ (p : Problem). BackIs (prior_at (length c.before) [] (s.before ++ others)) p c.fault.1) problem (subst (λ (x : List Token). BackIs (prior_at (length c.before) [] x) c.fault.0 c.fault.1) is b) in
      let back : c.fault.1 ≡ s.back = same_back s.problem s.before others others (length c.before) c.fault.1 s.back small sum here (stop_back ts s others) in
      record {
        before = c.before;
        behind = c.behind;
        parts = c.parts ∙ ap (λ (p : Problem × ℕ). c.before ++ Some p ∷ c.behind) (ap₂ (λ (x : Problem) (y : ℕ). (x, y)) problem back);
        count = omega (arith, sum, back);
        none = c.none;
      }

  first_there : (ts : List Token) (s : Stops L f ts) (w : L.W) (rest others : List Token) → E rest → L.spell w rest ≡ s.before ++ others → SameFront s.behind others → IsFirst (L.notes w) (length s.before) (s.problem, s.back)
  first_there ts s w rest others e is front = ⊎_elim
      (λ fine. absurd (no_both (L.join w fine.value rest) (s.problem, s.back + length others) (sym (fine.reads rest e) ∙ ap f is ∙ s.same others front)))
      (λ bad. bad_there ts s w rest others e is front bad)
      (F.reads w)

  demand : (ts : List Token) (told : Told) → f ts ≡ Err told → Demanded L.spell L.notes E ts told
  demand ts told e = ⊎_elim
      (λ one. (let fine = fine_of L f one.w one.clean (F.reads one.w) in absurd (no_both (L.join one.w fine.value one.rest) told (sym (fine.reads one.rest one.ends) ∙ ap f (sym one.is) ∙ e))))
      (λ s.
      let same : (s.problem, s.back + length s.behind) ≡ told = err_is _ _ (sym (s.same s.behind (same_front s.behind)) ∙ ap f (sym s.is) ∙ e) in
      subst (λ (t : Told). Demanded L.spell L.notes E ts t) same (record {
        before = s.before;
        behind = s.behind;
        tokens = s.is;
        back = s.back;
        line = refl;
        written = s.w;
        more = s.more;
        begins = s.begins;
        within = (let a = ap length s.parts in let b = length-append s.first s.last in let c = s.count in omega (arith, a, b, c));
        clean = ap first_fault (ap (take (length s.before)) s.parts ∙ ap (λ (n : ℕ). take n (s.first ++ s.last)) (sym s.count) ∙ take-append_seam s.first s.last) ∙ s.clean;
        first = λ w rest others e' is front. first_there ts s w rest others e' is front;
        goes_on = ⊎_elim (λ a. inl a) (λ h. inr h.1) s.reach;
      }))
      (F.takes ts tt)

  module _ (end : List Token) (ends : E end) where
    unwhole : (ts : List Token) (told : Told) → Demanded L.spell L.notes E ts told → Whole L ts → ⊥
    unwhole ts told d one =
        let first = d.first one.w one.rest d.behind one.ends (sym one.is ∙ d.tokens) (same_front d.behind) in
        let n = ap length first.parts in
        let size = length-append first.before (Some (told.0, d.back) ∷ first.behind) in
        none_before (L.notes one.w) (length d.before) (length (L.notes one.w)) (told.0, d.back) first (let c = first.count in omega (arith, n, size, c)) (ap first_fault (take_all (length (L.notes one.w)) (L.notes one.w) (le_refl (length (L.notes one.w)))) ∙ one.clean)

    alone : (ts : List Token) (told : Told) → Demanded L.spell L.notes E ts told → f ts ≡ Err told
    alone ts told d = ⊎_elim
        (λ one. absurd (unwhole ts told d one))
        (λ s.
        let stopped : f ts ≡ Err (s.problem, s.back + length s.behind) = ap f s.is ∙ s.same s.behind (same_front s.behind) in
        stopped ∙ ap (λ (t : Told). Err t) (only_one L.spell L.notes E end ends ts (s.problem, s.back + length s.behind) told (demand ts (s.problem, s.back + length s.behind) stopped) d))
        (F.takes ts tt)

    pub answered : Answered L.spell L.notes E f
    answered = record { reads = read_it; tells = tell_it; demanded = demand; alone = alone }

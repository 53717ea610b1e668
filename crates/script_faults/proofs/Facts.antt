-- Readers, and what they read: for what is written in some language with a note for each of its tokens, a
-- reader takes it where no note is a fault, and else stops at the first fault; where it stops, something
-- that is written begins with the tokens before, and nothing behind that token counts.
use Rattle.std.proofs.Common.{◌≡◌, ◌⊎◌, inl, inr, ⊎_elim, ℕ, suc, ◌+◌, Bool, true, false, cond, List, [], ◌∷◌, ◌++◌, length, Some, None, Result, Ok, Err, refl, sym, ap, ap₂, ◌∙◌, subst, arith, append_assoc, length-append}
use Rattle.script_token.specs.Tokens.{Token}
use Rattle.script_token.specs.declared.kind.Symbol.{Symbol}
use Rattle.script_reader.specs.Steps.{Told, ◌>>=◌, stop_at, next_is, is_fixed}
use Rattle.script_reader.specs.declared.fault.Problem.{Problem}
use Rattle.script_reader.specs.declared.fault.Problem.TheVariants.{Syntax}
use Rattle.script_faults.specs.Notes.{Note, first_fault, SameFront}
use Rattle.script_faults.specs.Laws.{Any}

-- FIRST FAULTS

pub clean_on : (a b : List Note) → first_fault a ≡ None → first_fault (a ++ b) ≡ first_fault b
clean_on [] b e = refl
clean_on (None ∷ a) b e = clean_on a b e
clean_on (Some p ∷ a) b e = absurd cc

pub fault_on : (a b : List Note) (t : Told) → first_fault a ≡ Some t → first_fault (a ++ b) ≡ Some (t.0, t.1 + length b)
fault_on [] b t e = absurd cc
fault_on (None ∷ a) b t e = fault_on a b t e
fault_on (Some p ∷ a) b t e =
    let same : (p.0, p.1 + suc (length a)) ≡ t = cc in
    let n : length (a ++ b) ≡ length a + length b = length-append a b in
    let sum : p.1 + suc (length (a ++ b)) ≡ (p.1 + suc (length a)) + length b = omega (arith, n) in
    ap (λ (m : ℕ). Some (p.0, m)) sum ∙ ap (λ (x : Told). Some (x.0, x.1 + length b)) same

-- FRONTS

pub same_behind : (a b c : List Token) → SameFront b c → SameFront (a ++ b) (a ++ c)
same_behind [] b c h = h
same_behind (t ∷ a) b c h = refl

pub next_same : (symbol : Symbol) (a b : List Token) → SameFront a b → next_is symbol a ≡ next_is symbol b
unfolding next_is
next_same symbol [] [] h = refl
next_same symbol [] (u ∷ us) h = absurd h
next_same symbol (t ∷ ts) [] h = absurd h
next_same symbol (t ∷ ts) (u ∷ us) h = ap (is_fixed symbol) h

-- LANGUAGES

-- what is written is some tokens in front of what follows, and each has its note
pub record Shape (spell : List Token → List Token) (notes : List Note) : Type 0 where
  pub text : List Token
  pub is : (rest : List Token) → spell rest ≡ text ++ rest
  pub count : length notes ≡ length text

pub shape_none : Shape (λ rest. rest) []
shape_none = record { text = []; is = λ rest. refl; count = refl }

pub shape_seq : (a b : List Token → List Token) (m n : List Note) → Shape a m → Shape b n → Shape (λ rest. a (b rest)) (m ++ n)
shape_seq a b m n s t = record {
  text = s.text ++ t.text;
  is = λ rest. s.is (b rest) ∙ ap (λ (x : List Token). s.text ++ x) (t.is rest) ∙ sym (append_assoc s.text t.text rest);
  count = length-append m n ∙ ap₂ (λ (x y : ℕ). x + y) s.count t.count ∙ sym (length-append s.text t.text);
}

pub shape_one : (t : Token) (note : Note) → Shape (λ rest. t ∷ rest) (note ∷ [])
shape_one t n = record { text = t ∷ []; is = λ rest. refl; count = refl }

pub spelled_length : (spell : List Token → List Token) (notes : List Note) (rest : List Token) → Shape spell notes → length (spell rest) ≡ length notes + length rest
spelled_length spell notes rest s = ap length (s.is rest) ∙ length-append s.text rest ∙ ap (λ (n : ℕ). n + length rest) (sym s.count)

-- what can be written, what of it a reader gives, and what may follow it
pub record Lang (X Y : Type 0) (Ends : List Token → Type 0) : Type 1 where
  pub W : Type 0
  pub default : W
  pub spell : W → List Token → List Token
  pub notes : W → List Note
  pub join : W → X → List Token → Y
  pub shape : (w : W) → Shape (spell w) (notes w)

-- FACTS ABOUT A READER

-- what is written without a fault is read
pub record Fine {X Y : Type 0} {E : List Token → Type 0} (L : Lang X Y E) (f : List Token → Result Y Told) (w : L.W) : Type 0 where
  pub clean : first_fault (L.notes w) ≡ None
  pub value : X
  pub reads : (rest : List Token) → E rest → f (L.spell w rest) ≡ Ok (L.join w value rest)

-- else the first fault is told
pub record Bad {X Y : Type 0} {E : List Token → Type 0} (L : Lang X Y E) (f : List Token → Result Y Told) (w : L.W) : Type 0 where
  pub told : Told
  pub is : first_fault (L.notes w) ≡ Some told
  pub fails : (rest : List Token) → E rest → f (L.spell w rest) ≡ Err (told.0, told.1 + length rest)

-- tokens that begin with what is written
pub record Whole {X Y : Type 0} {E : List Token → Type 0} (L : Lang X Y E) (ts : List Token) : Type 0 where
  pub w : L.W
  pub rest : List Token
  pub is : ts ≡ L.spell w rest
  pub clean : first_fault (L.notes w) ≡ None
  pub ends : E rest

-- this fault stands at the first of these notes
pub record Noted (notes : List Note) (fault : Problem × ℕ) : Type 0 where
  pub others : List Note
  pub is : notes ≡ Some fault ∷ others

pub noted_on : (a b : List Note) (fault : Problem × ℕ) → Noted a fault → Noted (a ++ b) fault
noted_on a b fault n = record { others = n.others ++ b; is = ap (λ (x : List Note). x ++ b) n.is }

-- a reader stops behind these tokens, whatever stands behind the next one; something written begins with
-- them, without a fault, and with the next one too, at which the fault stands, unless it is of no grammar
-- there
pub record Stops {X Y : Type 0} {E : List Token → Type 0} (L : Lang X Y E) (f : List Token → Result Y Told) (ts : List Token) : Type 0 where
  pub problem : Problem
  pub back : ℕ
  pub before : List Token
  pub behind : List Token
  pub is : ts ≡ before ++ behind
  pub same : (others : List Token) → SameFront behind others → f (before ++ others) ≡ Err (problem, back + length others)
  pub w : L.W
  pub more : List Token → List Token
  pub begins : (rest : List Token) → L.spell w rest ≡ before ++ more rest
  pub first : List Note
  pub last : List Note
  pub parts : L.notes w ≡ first ++ last
  pub count : length first ≡ length before
  pub clean : first_fault first ≡ None
  pub reach : (problem ≡ Syntax) × (back ≡ 0) ⊎ Noted last (problem, back) × ((rest : List Token) → SameFront behind (more rest))

-- of tokens of which P holds
pub record Facts {X Y : Type 0} {E : List Token → Type 0} (P : List Token → Type 0) (L : Lang X Y E) (f : List Token → Result Y Told) : Type 0 where
  pub reads : (w : L.W) → Fine L f w ⊎ Bad L f w
  pub takes : (ts : List Token) → P ts → Whole L ts ⊎ Stops L f ts

-- what is clean is read
pub fine_of : {X Y : Type 0} {E : List Token → Type 0} (L : Lang X Y E) (f : List Token → Result Y Told) (w : L.W) → first_fault (L.notes w) ≡ None → Fine L f w ⊎ Bad L f w → Fine L f w
fine_of L f w e (inl fine) = fine
fine_of L f w e (inr bad) = (let same : None ≡ Some bad.told = sym e ∙ bad.is in absurd cc)

pub one_clean : (n : Note) → first_fault (n ∷ []) ≡ None → n ≡ None
one_clean None e = refl
one_clean (Some p) e = absurd cc

-- ONE READER BEHIND ANOTHER

abbrev pub seq : {X1 Y1 X2 Y2 : Type 0} {EndA EndB : List Token → Type 0} → (L1 : Lang X1 Y1 EndA) → (L1.W → Lang X2 Y2 EndB) → Lang X2 Y2 EndB
seq L1 L2 = record {
  W = (w : L1.W) × (L2 w).W;
  default = (L1.default, (L2 L1.default).default);
  spell = λ w rest. L1.spell w.0 ((L2 w.0).spell w.1 rest);
  notes = λ w. L1.notes w.0 ++ (L2 w.0).notes w.1;
  join = λ w x rest. (L2 w.0).join w.1 x rest;
  shape = λ w. shape_seq (L1.spell w.0) ((L2 w.0).spell w.1) (L1.notes w.0) ((L2 w.0).notes w.1) (L1.shape w.0) ((L2 w.0).shape w.1);
}

module _ {X1 Y1 X2 Y2 : Type 0} {EndA EndB : List Token → Type 0} (L1 : Lang X1 Y1 EndA) (L2 : L1.W → Lang X2 Y2 EndB) (f : List Token → Result Y1 Told) (k : Y1 → Result Y2 Told)
    (fronts : (a b : List Token) → SameFront a b → EndA a → EndA b) (follow : (w : L1.W) (v : (L2 w).W) (rest : List Token) → EndB rest → EndA ((L2 w).spell v rest)) where
  abbrev Joined : List Token → Result Y2 Told
  Joined ts = f ts >>= k

  abbrev Second : (w : L1.W) → X1 → List Token → Result Y2 Told
  Second w x ts = k (L1.join w x ts)

  reads_both : (w : L1.W) (v : (L2 w).W) → (one : Fine L1 f w) → Fine (L2 w) (Second w one.value) v ⊎ Bad (L2 w) (Second w one.value) v → Fine (seq L1 L2) Joined (w, v) ⊎ Bad (seq L1 L2) Joined (w, v)
  reads_both w v one (inl two) = inl (record {
    clean = clean_on (L1.notes w) ((L2 w).notes v) one.clean ∙ two.clean;
    value = two.value;
    reads = λ rest e. ap (λ (r : Result Y1 Told). r >>= k) (one.reads ((L2 w).spell v rest) (follow w v rest e)) ∙ two.reads rest e;
  })
  reads_both w v one (inr two) = inr (record {
    told = two.told;
    is = clean_on (L1.notes w) ((L2 w).notes v) one.clean ∙ two.is;
    fails = λ rest e. ap (λ (r : Result Y1 Told). r >>= k) (one.reads ((L2 w).spell v rest) (follow w v rest e)) ∙ two.fails rest e;
  })

  reads_none : (w : L1.W) (v : (L2 w).W) → Bad L1 f w → Bad (seq L1 L2) Joined (w, v)
  reads_none w v one = record {
    told = (one.told.0, one.told.1 + length ((L2 w).notes v));
    is = fault_on (L1.notes w) ((L2 w).notes v) one.told one.is;
    fails = λ rest e.
        let n : length ((L2 w).spell v rest) ≡ length ((L2 w).notes v) + length rest = spelled_length ((L2 w).spell v) ((L2 w).notes v) rest ((L2 w).shape v) in
        let m : one.told.1 + length ((L2 w).spell v rest) ≡ (one.told.1 + length ((L2 w).notes v)) + length rest = omega (arith, n) in
        ap (λ (r : Result Y1 Told). r >>= k) (one.fails ((L2 w).spell v rest) (follow w v rest e)) ∙ ap (λ (x : ℕ). Err (one.told.0, x)) m;
  }

  stops_first : (ts : List Token) → Stops L1 f ts → Stops (seq L1 L2) Joined ts
  stops_first ts s =
      let v = (L2 s.w).default in
      record {
        problem = s.problem;
        back = s.back;
        before = s.before;
        behind = s.behind;
        is = s.is;
        same = λ others h. ap (λ (r : Result Y1 Told). r >>= k) (s.same others h);
        w = (s.w, v);
        more = λ rest. s.more ((L2 s.w).spell v rest);
        begins = λ rest. s.begins ((L2 s.w).spell v rest);
        first = s.first;
        last = s.last ++ (L2 s.w).notes v;
        parts = ap (λ (x : List Note). x ++ (L2 s.w).notes v) s.parts ∙ append_assoc s.first s.last ((L2 s.w).notes v);
        count = s.count;
        clean = s.clean;
        reach = ⊎_elim (λ e. inl e) (λ h. inr (noted_on s.last ((L2 s.w).notes v) (s.problem, s.back) h.0, λ rest. h.1 ((L2 s.w).spell v rest))) s.reach;
      }

  whole_both : (ts : List Token) (one : Whole L1 ts) → Whole (L2 one.w) one.rest → Whole (seq L1 L2) ts
  whole_both ts one two = record {
    w = (one.w, two.w);
    rest = two.rest;
    is = one.is ∙ ap (L1.spell one.w) two.is;
    clean = clean_on (L1.notes one.w) ((L2 one.w).notes two.w) one.clean ∙ two.clean;
    ends = two.ends;
  }

  stops_second : (ts : List Token) (one : Whole L1 ts) (fine : Fine L1 f one.w) → Stops (L2 one.w) (Second one.w fine.value) one.rest → Stops (seq L1 L2) Joined ts
  stops_second ts one fine s =
      let w = one.w in
      let sh = L1.shape w in
      record {
        problem = s.problem;
        back = s.back;
        before = sh.text ++ s.before;
        behind = s.behind;
        is = one.is ∙ ap (L1.spell w) s.is ∙ sh.is (s.before ++ s.behind) ∙ sym (append_assoc sh.text s.before s.behind);
        same = λ others h.
            let at : (sh.text ++ s.before) ++ others ≡ L1.spell w (s.before ++ others) = append_assoc sh.text s.before others ∙ sym (sh.is (s.before ++ others)) in
            let ends = fronts (s.before ++ s.behind) (s.before ++ others) (same_behind s.before s.behind others h) (subst EndA s.is one.ends) in
            ap (λ (x : List Token). f x >>= k) at ∙ ap (λ (r : Result Y1 Told). r >>= k) (fine.reads (s.before ++ others) ends) ∙ s.same others h;
        w = (w, s.w);
        more = s.more;
        begins = λ rest. sh.is ((L2 w).spell s.w rest) ∙ ap (λ (x : List Token). sh.text ++ x) (s.begins rest) ∙ sym (append_assoc sh.text s.before (s.more rest));
        first = L1.notes w ++ s.first;
        last = s.last;
        parts = ap (λ (x : List Note). L1.notes w ++ x) s.parts ∙ sym (append_assoc (L1.notes w) s.first s.last);
        count = length-append (L1.notes w) s.first ∙ ap₂ (λ (x y : ℕ). x + y) sh.count s.count ∙ sym (length-append sh.text s.before);
        clean = clean_on (L1.notes w) s.first one.clean ∙ s.clean;
        reach = s.reach;
      }

  pub bind : {P : List Token → Type 0} → Facts P L1 f → ((w : L1.W) (x : X1) → first_fault (L1.notes w) ≡ None → Facts EndA (L2 w) (λ ts. k (L1.join w x ts))) → Facts P (seq L1 L2) (λ ts. f ts >>= k)
  bind F G = record {
    reads = λ w. ⊎_elim (λ one. reads_both w.0 w.1 one ((G w.0 one.value one.clean).reads w.1)) (λ one. inr (reads_none w.0 w.1 one)) (F.reads w.0);
    takes = λ ts p. ⊎_elim
        (λ one.
        let fine = fine_of L1 f one.w one.clean (F.reads one.w) in
        ⊎_elim (λ two. inl (whole_both ts one two)) (λ two. inr (stops_second ts one fine two)) ((G one.w fine.value one.clean).takes one.rest one.ends))
        (λ s. inr (stops_first ts s))
        (F.takes ts p);
  }

-- where anything may follow the first
pub then : {X1 Y1 X2 Y2 : Type 0} {EndB P : List Token → Type 0} (L1 : Lang X1 Y1 Any) (L2 : L1.W → Lang X2 Y2 EndB) (f : List Token → Result Y1 Told) (k : Y1 → Result Y2 Told)
    → Facts P L1 f → ((w : L1.W) (x : X1) → first_fault (L1.notes w) ≡ None → Facts Any (L2 w) (λ ts. k (L1.join w x ts))) → Facts P (seq L1 L2) (λ ts. f ts >>= k)
then L1 L2 f k F G = bind L1 L2 f k (λ a b h e. tt) (λ w v rest e. tt) F G

-- of fewer tokens
pub under : {X Y : Type 0} {E P Q : List Token → Type 0} (L : Lang X Y E) (f : List Token → Result Y Told) → ((ts : List Token) → Q ts → P ts) → Facts P L f → Facts Q L f
under L f h F = record { reads = F.reads; takes = λ ts q. F.takes ts (h ts q) }

-- THE SAME LANGUAGE, OTHERWISE GIVEN

-- what is written in M is written in L, and the other way round; the reader g gives the same, otherwise built
pub record Turns {X X' Y Z : Type 0} {E : List Token → Type 0} (L : Lang X Y E) (M : Lang X' Z E) (f : List Token → Result Y Told) (g : List Token → Result Z Told) : Type 0 where
  pub to : L.W → M.W
  pub spell_to : (w : L.W) (rest : List Token) → M.spell (to w) rest ≡ L.spell w rest
  pub notes_to : (w : L.W) → M.notes (to w) ≡ L.notes w
  pub from : M.W → L.W
  pub spell_from : (w : M.W) (rest : List Token) → M.spell w rest ≡ L.spell (from w) rest
  pub notes_from : (w : M.W) → M.notes w ≡ L.notes (from w)
  pub value : M.W → X → X'
  pub oks : (ts : List Token) (w : M.W) (x : X) (rest : List Token) → f ts ≡ Ok (L.join (from w) x rest) → g ts ≡ Ok (M.join w (value w x) rest)
  pub errs : (ts : List Token) (t : Told) → f ts ≡ Err t → g ts ≡ Err t

pub turned : {X X' Y Z : Type 0} {E P : List Token → Type 0} (L : Lang X Y E) (M : Lang X' Z E) (f : List Token → Result Y Told) (g : List Token → Result Z Told) → Turns L M f g → Facts P L f → Facts P M g
turned L M f g t F = record {
  reads = λ w. ⊎_elim
      (λ one. inl (record {
        clean = ap first_fault (t.notes_from w) ∙ one.clean;
        value = t.value w one.value;
        reads = λ rest e. ap g (t.spell_from w rest) ∙ t.oks (L.spell (t.from w) rest) w one.value rest (one.reads rest e);
      }))
      (λ one. inr (record {
        told = one.told;
        is = ap first_fault (t.notes_from w) ∙ one.is;
        fails = λ rest e. ap g (t.spell_from w rest) ∙ t.errs (L.spell (t.from w) rest) _ (one.fails rest e);
      }))
      (F.reads (t.from w));
  takes = λ ts p. ⊎_elim
      (λ one. inl (record {
        w = t.to one.w;
        rest = one.rest;
        is = one.is ∙ sym (t.spell_to one.w one.rest);
        clean = ap first_fault (t.notes_to one.w) ∙ one.clean;
        ends = one.ends;
      }))
      (λ s. inr (record {
        problem = s.problem;
        back = s.back;
        before = s.before;
        behind = s.behind;
        is = s.is;
        same = λ others h. t.errs (s.before ++ others) _ (s.same others h);
        w = t.to s.w;
        more = s.more;
        begins = λ rest. t.spell_to s.w rest ∙ s.begins rest;
        first = s.first;
        last = s.last;
        parts = t.notes_to s.w ∙ s.parts;
        count = s.count;
        clean = s.clean;
        reach = s.reach;
      }))
      (F.takes ts p);
}

-- the same reader
pub instead : {X Y : Type 0} {E P : List Token → Type 0} (L : Lang X Y E) (f g : List Token → Result Y Told) → ((ts : List Token) → f ts ≡ g ts) → Facts P L f → Facts P L g
instead L f g e F = turned L L f g (record {
  to = λ w. w;
  spell_to = λ w rest. refl;
  notes_to = λ w. refl;
  from = λ w. w;
  spell_from = λ w rest. refl;
  notes_from = λ w. refl;
  value = λ w x. x;
  oks = λ ts w x rest h. sym (e ts) ∙ h;
  errs = λ ts t h. sym (e ts) ∙ h;
}) F

-- the same ends, otherwise said
abbrev pub ending : {X Y : Type 0} {E E' : List Token → Type 0} → Lang X Y E → Lang X Y E'
ending L = record { W = L.W; default = L.default; spell = L.spell; notes = L.notes; join = L.join; shape = L.shape }

pub ended : {X Y : Type 0} {E E' P : List Token → Type 0} (L : Lang X Y E) (f : List Token → Result Y Told) → ((rest : List Token) → E' rest → E rest) → ((rest : List Token) → E rest → E' rest) → Facts P L f → Facts P (ending {E' = E'} L) f
ended L f to from F = record {
  reads = λ w. ⊎_elim
      (λ one. inl (record { clean = one.clean; value = one.value; reads = λ rest e. one.reads rest (to rest e) }))
      (λ one. inr (record { told = one.told; is = one.is; fails = λ rest e. one.fails rest (to rest e) }))
      (F.reads w);
  takes = λ ts p. ⊎_elim
      (λ one. inl (record { w = one.w; rest = one.rest; is = one.is; clean = one.clean; ends = from one.rest one.ends }))
      (λ s. inr (record {
        problem = s.problem;
        back = s.back;
        before = s.before;
        behind = s.behind;
        is = s.is;
        same = s.same;
        w = s.w;
        more = s.more;
        begins = s.begins;
        first = s.first;
        last = s.last;
        parts = s.parts;
        count = s.count;
        clean = s.clean;
        reach = s.reach;
      }))
      (F.takes ts p);
}

-- another result
abbrev pub giving : {X X' Y Z : Type 0} {E : List Token → Type 0} → (L : Lang X Y E) → (L.W → X' → List Token → Z) → Lang X' Z E
giving L join = record { W = L.W; default = L.default; spell = L.spell; notes = L.notes; join = join; shape = L.shape }

pub give : {X X' Y Z : Type 0} {E P : List Token → Type 0} (L : Lang X Y E) (join : L.W → X' → List Token → Z) (f : List Token → Result Y Told) (built : Y → Z) (value : L.W → X → X')
    → ((w : L.W) (x : X) (rest : List Token) → built (L.join w x rest) ≡ join w (value w x) rest) → Facts P L f → Facts P (giving L join) (λ ts. f ts >>= λ y. Ok (built y))
give {X = X} {X' = X'} {Y = Y} {Z = Z} L join f built value e F = turned L (giving L join) f (λ ts. f ts >>= λ y. Ok (built y)) (record {
  to = λ w. w;
  spell_to = λ w rest. refl;
  notes_to = λ w. refl;
  from = λ w. w;
  spell_from = λ w rest. refl;
  notes_from = λ w. refl;
  value = value;
  oks = λ ts w x rest h. ap (λ (r : Result Y Told). ◌>>=◌ {B = Z} r (λ y. Ok (built y))) h ∙ ap (λ (z : Z). Ok z) (e w x rest);
  errs = λ ts t h. ap (λ (r : Result Y Told). ◌>>=◌ {B = Z} r (λ y. Ok (built y))) h;
}) F

-- nothing is read
abbrev pub nothing : {X Y : Type 0} {E : List Token → Type 0} → (X → List Token → Y) → Lang X Y E
nothing join = record { W = Unit {0}; default = tt; spell = λ w rest. rest; notes = λ w. []; join = λ w x rest. join x rest; shape = λ w. shape_none }

pub gives : {X Y : Type 0} (E : List Token → Type 0) (join : X → List Token → Y) (x : X) → Facts E (nothing {E = E} join) (λ ts. Ok (join x ts))
gives E join x = record {
  reads = λ w. inl (record { clean = refl; value = x; reads = λ rest e. refl });
  takes = λ ts e. inl (record { w = tt; rest = ts; is = refl; clean = refl; ends = e });
}

-- ONE OF TWO READERS, BY THE TOKEN IN FRONT

abbrev pub cases : {A B C : Type 0} → (A → C) → (B → C) → A ⊎ B → C
cases f g (inl a) = f a
cases f g (inr b) = g b

pub either_shape : {X Y : Type 0} {E : List Token → Type 0} (L1 L2 : Lang X Y E) (w : L1.W ⊎ L2.W) → Shape (cases L1.spell L2.spell w) (cases L1.notes L2.notes w)
either_shape L1 L2 (inl w) = L1.shape w
either_shape L1 L2 (inr w) = L2.shape w

abbrev pub either : {X Y : Type 0} {E : List Token → Type 0} → Lang X Y E → Lang X Y E → Lang X Y E
either L1 L2 = record { W = L1.W ⊎ L2.W; default = inl L1.default; spell = cases L1.spell L2.spell; notes = cases L1.notes L2.notes; join = cases L1.join L2.join; shape = either_shape L1 L2 }

pub neither : {X Y : Type 0} {E : List Token → Type 0} (test : List Token → Bool) (L1 L2 : Lang X Y E) → ((w : L1.W) (rest : List Token) → test (L1.spell w rest) ≡ false) → ((w : L2.W) (rest : List Token) → test (L2.spell w rest) ≡ false)
    → (w : L1.W ⊎ L2.W) (rest : List Token) → test (cases L1.spell L2.spell w rest) ≡ false
neither test L1 L2 a b (inl w) rest = a w rest
neither test L1 L2 a b (inr w) rest = b w rest

-- a test that looks at the token in front alone
abbrev pub LooksInFront : (List Token → Bool) → Type 0
LooksInFront test = (a b : List Token) → SameFront a b → test a ≡ test b

pub same_front : (ts : List Token) → SameFront ts ts
same_front [] = tt
same_front (t ∷ ts) = refl

abbrev pub Both : (List Token → Type 0) → (List Token → Bool) → Bool → List Token → Type 0
Both P test b ts = P ts × (test ts ≡ b)

module _ {X Y : Type 0} {E P : List Token → Type 0} (test : List Token → Bool) (looks : LooksInFront test) (L1 L2 : Lang X Y E) (f g : List Token → Result Y Told)
    (yes : (w : L1.W) (rest : List Token) → E rest → test (L1.spell w rest) ≡ true) (not_first : (w : L2.W) (rest : List Token) → E rest → test (L2.spell w rest) ≡ false)
    (F : Facts (Both P test true) L1 f) (G : Facts (Both P test false) L2 g) where
  abbrev Chosen : List Token → Result Y Told
  Chosen ts = cond (test ts) (f ts) (g ts)

  is_first : (ts : List Token) → test ts ≡ true → Chosen ts ≡ f ts
  is_first ts e = rw e refl

  is_second : (ts : List Token) → test ts ≡ false → Chosen ts ≡ g ts
  is_second ts e = rw e refl

  chosen_reads : (w : L1.W ⊎ L2.W) → Fine (either L1 L2) Chosen w ⊎ Bad (either L1 L2) Chosen w
  chosen_reads (inl w) = ⊎_elim
      (λ one. inl (record { clean = one.clean; value = one.value; reads = λ rest e. is_first (L1.spell w rest) (yes w rest e) ∙ one.reads rest e }))
      (λ one. inr (record { told = one.told; is = one.is; fails = λ rest e. is_first (L1.spell w rest) (yes w rest e) ∙ one.fails rest e }))
      (F.reads w)
  chosen_reads (inr w) = ⊎_elim
      (λ one. inl (record { clean = one.clean; value = one.value; reads = λ rest e. is_second (L2.spell w rest) (not_first w rest e) ∙ one.reads rest e }))
      (λ one. inr (record { told = one.told; is = one.is; fails = λ rest e. is_second (L2.spell w rest) (not_first w rest e) ∙ one.fails rest e }))
      (G.reads w)

  still : (ts before behind others : List Token) (b : Bool) → ts ≡ before ++ behind → SameFront behind others → test ts ≡ b → test (before ++ others) ≡ b
  still ts before behind others b is h e = sym (looks (before ++ behind) (before ++ others) (same_behind before behind others h)) ∙ ap test (sym is) ∙ e

  chosen_stops : (ts : List Token) (h : List Token → Result Y Told) (b : Bool) → test ts ≡ b → ((us : List Token) → test us ≡ b → Chosen us ≡ h us) → (L : Lang X Y E) → (to : L.W → L1.W ⊎ L2.W)
      → ((w : L.W) (rest : List Token) → cases L1.spell L2.spell (to w) rest ≡ L.spell w rest) → ((w : L.W) → cases L1.notes L2.notes (to w) ≡ L.notes w) → Stops L h ts → Stops (either L1 L2) Chosen ts
  chosen_stops ts h b e is L to spells notes s = record {
    problem = s.problem;
    back = s.back;
    before = s.before;
    behind = s.behind;
    is = s.is;
    same = λ others k. is (s.before ++ others) (still ts s.before s.behind others b s.is k e) ∙ s.same others k;
    w = to s.w;
    more = s.more;
    begins = λ rest. spells s.w rest ∙ s.begins rest;
    first = s.first;
    last = s.last;
    parts = notes s.w ∙ s.parts;
    count = s.count;
    clean = s.clean;
    reach = s.reach;
  }

  chosen_takes : (ts : List Token) → P ts → (b : Bool) → test ts ≡ b → Whole (either L1 L2) ts ⊎ Stops (either L1 L2) Chosen ts
  chosen_takes ts p true e = ⊎_elim
      (λ one. inl (record { w = inl one.w; rest = one.rest; is = one.is; clean = one.clean; ends = one.ends }))
      (λ s. inr (chosen_stops ts f true e is_first L1 (λ w. inl w) (λ w rest. refl) (λ w. refl) s))
      (F.takes ts (p, e))
  chosen_takes ts p false e = ⊎_elim
      (λ one. inl (record { w = inr one.w; rest = one.rest; is = one.is; clean = one.clean; ends = one.ends }))
      (λ s. inr (chosen_stops ts g false e is_second L2 (λ w. inr w) (λ w rest. refl) (λ w. refl) s))
      (G.takes ts (p, e))

  pub choose : Facts P (either L1 L2) (λ ts. cond (test ts) (f ts) (g ts))
  choose = record { reads = chosen_reads; takes = λ ts p. chosen_takes ts p (test ts) refl }

-- a reader that stops at the token in front, at which this fault stands
pub stops_back : {X Y : Type 0} {E : List Token → Type 0} (L : Lang X Y E) (f : List Token → Result Y Told) (ts : List Token) (fault : Problem × ℕ) (w : L.W)
    → ((others : List Token) → SameFront ts others → f others ≡ Err (fault.0, fault.1 + length others)) → (fault.0 ≡ Syntax) × (fault.1 ≡ 0) ⊎ Noted (L.notes w) fault × ((rest : List Token) → SameFront ts (L.spell w rest)) → Stops L f ts
stops_back L f ts fault w e reach = record {
  problem = fault.0;
  back = fault.1;
  before = [];
  behind = ts;
  is = refl;
  same = e;
  w = w;
  more = L.spell w;
  begins = λ rest. refl;
  first = [];
  last = L.notes w;
  parts = refl;
  count = refl;
  clean = refl;
  reach = reach;
}

-- a fault that is told at its own token
pub stops_with : {X Y : Type 0} {E : List Token → Type 0} (L : Lang X Y E) (f : List Token → Result Y Told) (ts : List Token) (problem : Problem) (w : L.W)
    → ((others : List Token) → SameFront ts others → f others ≡ Err (problem, length others)) → (problem ≡ Syntax) ⊎ Noted (L.notes w) (problem, 0) × ((rest : List Token) → SameFront ts (L.spell w rest)) → Stops L f ts
stops_with L f ts problem w e reach = stops_back L f ts (problem, 0) w (λ others h. e others h ∙ ap (λ (n : ℕ). Err (problem, n)) (let n = length others in let same : n ≡ 0 + n = omega arith in same)) (⊎_elim (λ e. inl (e, refl)) (λ h. inr h) reach)

pub stops_at_once : {X Y : Type 0} {E : List Token → Type 0} (L : Lang X Y E) (f : List Token → Result Y Told) (ts : List Token) → ((others : List Token) → SameFront ts others → f others ≡ Err (Syntax, length others)) → Stops L f ts
stops_at_once L f ts e = stops_with L f ts Syntax L.default e (inl refl)

-- a fault at the first token of what is written
pub bad_back : {X Y : Type 0} {E : List Token → Type 0} (L : Lang X Y E) (f : List Token → Result Y Told) (w : L.W) (fault : Problem × ℕ)
    → Noted (L.notes w) fault → ((rest : List Token) → f (L.spell w rest) ≡ Err (fault.0, fault.1 + length (L.spell w rest))) → Bad L f w
bad_back L f w fault n fails = record {
  told = (fault.0, fault.1 + suc (length n.others));
  is = ap first_fault n.is;
  fails = λ rest h.
      let size = spelled_length (L.spell w) (L.notes w) rest (L.shape w) in
      let notes : length (L.notes w) ≡ suc (length n.others) = ap length n.is in
      let left : fault.1 + length (L.spell w rest) ≡ (fault.1 + suc (length n.others)) + length rest = omega (arith, size, notes) in
      fails rest ∙ ap (λ (n : ℕ). Err (fault.0, n)) left;
}

-- one that is told at its own token
pub bad_at_once : {X Y : Type 0} {E : List Token → Type 0} (L : Lang X Y E) (f : List Token → Result Y Told) (w : L.W) (problem : Problem)
    → Noted (L.notes w) (problem, 0) → ((rest : List Token) → f (L.spell w rest) ≡ Err (problem, length (L.spell w rest))) → Bad L f w
bad_at_once L f w problem n fails = bad_back L f w (problem, 0) n (λ rest. fails rest ∙ ap (λ (m : ℕ). Err (problem, m)) (let m = length (L.spell w rest) in let same : m ≡ 0 + m = omega arith in same))

-- one reader by the token in front, or none
pub or_stop : {X Y : Type 0} {E P : List Token → Type 0} (test : List Token → Bool) → LooksInFront test → (L : Lang X Y E) (f : List Token → Result Y Told)
    → ((w : L.W) (rest : List Token) → test (L.spell w rest) ≡ true) → Facts (Both P test true) L f → Facts P L (λ ts. cond (test ts) (f ts) (stop_at Syntax ts))
or_stop {X} {Y} {E} {P} test looks L f is F = record { reads = λ w. reads w (F.reads w); takes = λ ts p. takes ts p (test ts) refl }
  where
    is_first : (ts : List Token) → test ts ≡ true → cond (test ts) (f ts) (stop_at {A = Y} Syntax ts) ≡ f ts
    is_first ts e = rw e refl

    reads : (w : L.W) → Fine L f w ⊎ Bad L f w → Fine L (λ ts. cond (test ts) (f ts) (stop_at Syntax ts)) w ⊎ Bad L (λ ts. cond (test ts) (f ts) (stop_at Syntax ts)) w
    reads w (inl one) = inl (record { clean = one.clean; value = one.value; reads = λ rest e. is_first (L.spell w rest) (is w rest) ∙ one.reads rest e })
    reads w (inr one) = inr (record { told = one.told; is = one.is; fails = λ rest e. is_first (L.spell w rest) (is w rest) ∙ one.fails rest e })

    stays : (ts : List Token) (s : Stops L f ts) → test ts ≡ true → Stops L (λ ts. cond (test ts) (f ts) (stop_at Syntax ts)) ts
    stays ts s e = record {
      problem = s.problem;
      back = s.back;
      before = s.before;
      behind = s.behind;
      is = s.is;
      same = λ others k. is_first (s.before ++ others) (sym (looks (s.before ++ s.behind) (s.before ++ others) (same_behind s.before s.behind others k)) ∙ ap test (sym s.is) ∙ e) ∙ s.same others k;
      w = s.w;
      more = s.more;
      begins = s.begins;
      first = s.first;
      last = s.last;
      parts = s.parts;
      count = s.count;
      clean = s.clean;
      reach = s.reach;
    }

    takes : (ts : List Token) → P ts → (b : Bool) → test ts ≡ b → Whole L ts ⊎ Stops L (λ ts. cond (test ts) (f ts) (stop_at Syntax ts)) ts
    takes ts p true e = ⊎_elim (λ one. inl one) (λ s. inr (stays ts s e)) (F.takes ts (p, e))
    takes ts p false e = inr (stops_at_once L (λ ts. cond (test ts) (f ts) (stop_at Syntax ts)) ts (λ others h. rw (sym (looks ts others h) ∙ e) refl))

-- ONE TOKEN

abbrev pub token : {W X Y : Type 0} → W → (W → Token) → (W → Note) → (W → X → List Token → Y) → Lang X Y Any
token {W} default spell note join = record { W = W; default = default; spell = λ w rest. spell w ∷ rest; notes = λ w. note w ∷ []; join = join; shape = λ w. shape_one (spell w) (note w) }

module _ {W X Y : Type 0} (default : W) (spell : W → Token) (note : W → Note) (join : W → X → List Token → Y) (f : List Token → Result Y Told) where
  -- a token that is read
  pub record Takes (w : W) : Type 0 where
    pub none : note w ≡ None
    pub value : X
    pub reads : (ts : List Token) → f (spell w ∷ ts) ≡ Ok (join w value ts)

  -- a token at which a fault stands
  pub record Faults (w : W) : Type 0 where
    pub problem : Problem
    pub some : note w ≡ Some (problem, 0)
    pub fails : (ts : List Token) → f (spell w ∷ ts) ≡ Err (problem, suc (length ts))

  one_reads : (w : W) → Takes w ⊎ Faults w → Fine (token default spell note join) f w ⊎ Bad (token default spell note join) f w
  one_reads w (inl t) = inl (record { clean = ap (λ (x : Note). first_fault (x ∷ [])) t.none; value = t.value; reads = λ rest e. t.reads rest })
  one_reads w (inr t) = inr (record {
    told = (t.problem, 1);
    is = ap (λ (x : Note). first_fault (x ∷ [])) t.some;
    fails = λ rest e. t.fails rest ∙ ap (λ (n : ℕ). Err (t.problem, n)) (let n = length rest in let same : suc n ≡ 1 + n = omega arith in same);
  })

  one_takes : (t : Token) (ts : List Token) (w : W) → t ≡ spell w → Takes w ⊎ Faults w → Whole (token default spell note join) (t ∷ ts) ⊎ Stops (token default spell note join) f (t ∷ ts)
  one_takes t ts w e (inl one) = inl (record { w = w; rest = ts; is = ap (λ (x : Token). x ∷ ts) e; clean = ap (λ (x : Note). first_fault (x ∷ [])) one.none; ends = tt })
  one_takes t ts w e (inr one) = inr (record {
    problem = one.problem;
    back = 0;
    before = [];
    behind = t ∷ ts;
    is = refl;
    same = same;
    w = w;
    more = λ rest. spell w ∷ rest;
    begins = λ rest. refl;
    first = [];
    last = note w ∷ [];
    parts = refl;
    count = refl;
    clean = refl;
    reach = inr (record { others = []; is = ap (λ (x : Note). x ∷ []) one.some }, λ rest. e);
  })
    where
      same : (others : List Token) → SameFront (t ∷ ts) others → f others ≡ Err (one.problem, 0 + length others)
      same [] h = absurd h
      same (u ∷ us) h =
          let n = length us in
          let sum : suc n ≡ 0 + suc n = omega arith in
          ap (λ (x : Token). f (x ∷ us)) (sym h ∙ e) ∙ one.fails us ∙ ap (λ (m : ℕ). Err (one.problem, m)) sum

  refuses : (t : Token) → ((us : List Token) → f (t ∷ us) ≡ Err (Syntax, suc (length us))) → (ts : List Token) → Stops (token default spell note join) f (t ∷ ts)
  refuses t e ts = stops_at_once (token default spell note join) f (t ∷ ts) at
    where
      at : (others : List Token) → SameFront (t ∷ ts) others → f others ≡ Err (Syntax, length others)
      at [] h = absurd h
      at (u ∷ us) h = ap (λ (x : Token). f (x ∷ us)) (sym h) ∙ e us

  at_end : f [] ≡ Err (Syntax, 0) → Stops (token default spell note join) f []
  at_end e = stops_at_once (token default spell note join) f [] at
    where
      at : (others : List Token) → SameFront [] others → f others ≡ Err (Syntax, length others)
      at [] h = e
      at (u ∷ us) h = absurd h

  pub one_token : {P : List Token → Type 0} → (P [] → f [] ≡ Err (Syntax, 0)) → ((w : W) → Takes w ⊎ Faults w) → ((t : Token) (ts : List Token) → P (t ∷ ts) → ((w : W) × (t ≡ spell w)) ⊎ ((us : List Token) → f (t ∷ us) ≡ Err (Syntax, suc (length us))))
      → Facts P (token default spell note join) f
  one_token {P} empty on off = record { reads = λ w. one_reads w (on w); takes = takes }
    where
      takes : (ts : List Token) → P ts → Whole (token default spell note join) ts ⊎ Stops (token default spell note join) f ts
      takes [] p = inr (at_end (empty p))
      takes (t ∷ ts) p = ⊎_elim (λ one. one_takes t ts one.0 one.1 (on one.0)) (λ e. inr (refuses t e ts)) (off t ts p)

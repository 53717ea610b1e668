-- Readers that go on as long as the token in front says so.
use Rattle.std.proofs.Common.{◌≡◌, ◌⊎◌, inl, inr, ⊎_elim, ℕ, zero, suc, ◌+◌, ◌<◌, ◌≤◌, Bool, true, false, cond, List, [], ◌∷◌, ◌++◌, length, Option, Some, None, Result, Ok, Err, refl, sym, ap, ◌∙◌, subst, arith, length-append, append_assoc}
use Rattle.script_token.specs.Tokens.{Token}
use Rattle.script_reader.specs.Steps.{Told, repeated}
use Rattle.script_reader.specs.declared.fault.Problem.{Problem}
use Rattle.script_reader.specs.declared.fault.Problem.TheVariants.{Syntax}
use Rattle.script_reader.proofs.ReadFronts.{no_step, one_step}
use Rattle.script_faults.specs.Notes.{Note, first_fault, SameFront}
use Rattle.script_faults.specs.Laws.{Any}
use Rattle.script_faults.proofs.Facts.{Shape, Lang, Facts, Fine, Bad, Whole, Stops, Noted, noted_on, LooksInFront, shape_none, shape_seq, spelled_length, clean_on, fault_on, same_behind, same_front, fine_of}

-- SEVERAL, ONE BEHIND ANOTHER

abbrev pub spell_all : {W : Type 0} → (W → List Token → List Token) → List W → List Token → List Token
spell_all spell [] rest = rest
spell_all spell (w ∷ ws) rest = spell w (spell_all spell ws rest)

abbrev pub after_all : {H W : Type 0} → (H → W → H) → H → List W → H
after_all after h [] = h
after_all after h (w ∷ ws) = after_all after (after h w) ws

abbrev pub notes_all : {H W : Type 0} → (H → W → List Note) → (H → W → H) → H → List W → List Note
notes_all notes after h [] = []
notes_all notes after h (w ∷ ws) = notes h w ++ notes_all notes after (after h w) ws

pub shape_all : {H W : Type 0} (spell : W → List Token → List Token) (notes : H → W → List Note) (after : H → W → H) → ((h : H) (w : W) → Shape (spell w) (notes h w)) → (ws : List W) (h : H) → Shape (spell_all spell ws) (notes_all notes after h ws)
shape_all spell notes after shape [] h = shape_none
shape_all spell notes after shape (w ∷ ws) h = shape_seq (spell w) (spell_all spell ws) (notes h w) (notes_all notes after (after h w) ws) (shape h w) (shape_all spell notes after shape ws (after h w))

err_step : {S : Type 0} (step : S → Option (Result S Told)) (n : ℕ) (s : S) (t : Told) → step s ≡ Some (Err t) → repeated step (suc n) s ≡ Err t
unfolding repeated
err_step step n s t e = rw e refl

-- A step takes two tokens or more, so a count of steps is enough if it is more than half of the tokens.
module _ {X S W H : Type 0} (at : X → H → List Token → S) (spell : W → List Token → List Token) (notes : H → W → List Note) (after : H → W → H) (default : W)
    (shape : (h : H) (w : W) → Shape (spell w) (notes h w)) (more : List Token → Bool) (looks : LooksInFront more) (step : S → Option (Result S Told)) (next : X → H → List Token → Result S Told)
    (stepped : (x : X) (h : H) (ts : List Token) → step (at x h ts) ≡ cond (more ts) (Some (next x h ts)) None)
    (starts : (w : W) (rest : List Token) → more (spell w rest) ≡ true) (long : (h : H) (w : W) → 2 ≤ length (notes h w)) where
  abbrev pub one_lang : H → Lang X S Any
  one_lang h = record { W = W; default = default; spell = spell; notes = notes h; join = λ w x ts. at x (after h w) ts; shape = shape h }

  abbrev pub Over : List Token → Type 0
  Over rest = more rest ≡ false

  abbrev pub all_lang : H → Lang X S Over
  all_lang h = record { W = List W; default = []; spell = spell_all spell; notes = notes_all notes after h; join = λ ws x ts. at x (after_all after h ws) ts; shape = λ ws. shape_all spell notes after shape ws h }

  abbrev pub Begun : List Token → Type 0
  Begun ts = more ts ≡ true

  module _ (facts : (x : X) (h : H) → Facts Begun (one_lang h) (next x h)) where
    steps_on : (x : X) (h : H) (ts : List Token) (r : Result S Told) → more ts ≡ true → next x h ts ≡ r → step (at x h ts) ≡ Some r
    steps_on x h ts r e f = stepped x h ts ∙ rw e (ap Some f)

    steps_off : (x : X) (h : H) (ts : List Token) → more ts ≡ false → step (at x h ts) ≡ None
    steps_off x h ts e = stepped x h ts ∙ rw e refl

    go_on : (n : ℕ) (x : X) (h : H) (ts us : List Token) (y : X) (h' : H) (whole : Result S Told) → length ts < n + n → length us + 2 ≤ length ts → more ts ≡ true → next x h ts ≡ Ok (at y h' us)
        → ((m : ℕ) → length us < m + m → repeated step m (at y h' us) ≡ whole) → repeated step n (at x h ts) ≡ whole
    go_on zero x h ts us y h' whole enough shorter e f more' = absurd (omega (arith, enough))
    go_on (suc n) x h ts us y h' whole enough shorter e f more' = one_step step n (at x h ts) (at y h' us) whole (steps_on x h ts (Ok (at y h' us)) e f) (more' n (omega (arith, enough, shorter)))

    fail : (n : ℕ) (x : X) (h : H) (ts : List Token) (t : Told) → length ts < n + n → more ts ≡ true → next x h ts ≡ Err t → repeated step n (at x h ts) ≡ Err t
    fail zero x h ts t enough e f = absurd (omega (arith, enough))
    fail (suc n) x h ts t enough e f = err_step step n (at x h ts) t (steps_on x h ts (Err t) e f)

    shorter : (h : H) (w : W) (rest : List Token) → length rest + 2 ≤ length (spell w rest)
    shorter h w rest = (let n = spelled_length (spell w) (notes h w) rest (shape h w) in let m = long h w in omega (arith, n, m))

    record AllFine (ws : List W) (x : X) (h : H) : Type 0 where
      clean : first_fault (notes_all notes after h ws) ≡ None
      value : X
      reads : (rest : List Token) → more rest ≡ false → (n : ℕ) → length (spell_all spell ws rest) < n + n → repeated step n (at x h (spell_all spell ws rest)) ≡ Ok (at value (after_all after h ws) rest)

    record AllBad (ws : List W) (x : X) (h : H) : Type 0 where
      told : Told
      is : first_fault (notes_all notes after h ws) ≡ Some told
      fails : (rest : List Token) → more rest ≡ false → (n : ℕ) → length (spell_all spell ws rest) < n + n → repeated step n (at x h (spell_all spell ws rest)) ≡ Err (told.0, told.1 + length rest)

    reads_one : (w : W) (ws : List W) (x : X) (h : H) (one : Fine (one_lang h) (next x h) w) → AllFine ws one.value (after h w) ⊎ AllBad ws one.value (after h w) → AllFine (w ∷ ws) x h ⊎ AllBad (w ∷ ws) x h
    reads_one w ws x h one (inl two) = inl (record {
      clean = clean_on (notes h w) (notes_all notes after (after h w) ws) one.clean ∙ two.clean;
      value = two.value;
      reads = λ rest e n enough.
          let us = spell_all spell ws rest in
          go_on n x h (spell w us) us one.value (after h w) _ enough (shorter h w us) (starts w us) (one.reads us tt) (λ m more'. two.reads rest e m more');
    })
    reads_one w ws x h one (inr two) = inr (record {
      told = two.told;
      is = clean_on (notes h w) (notes_all notes after (after h w) ws) one.clean ∙ two.is;
      fails = λ rest e n enough.
          let us = spell_all spell ws rest in
          go_on n x h (spell w us) us one.value (after h w) _ enough (shorter h w us) (starts w us) (one.reads us tt) (λ m more'. two.fails rest e m more');
    })

    reads_bad : (w : W) (ws : List W) (x : X) (h : H) → Bad (one_lang h) (next x h) w → AllBad (w ∷ ws) x h
    reads_bad w ws x h one = (let ns = notes_all notes after (after h w) ws in record {
      told = (one.told.0, one.told.1 + length ns);
      is = fault_on (notes h w) ns one.told one.is;
      fails = λ rest e n enough.
          let us = spell_all spell ws rest in
          let k : length us ≡ length ns + length rest = spelled_length (spell_all spell ws) ns rest (shape_all spell notes after shape ws (after h w)) in
          let m : one.told.1 + length us ≡ (one.told.1 + length ns) + length rest = omega (arith, k) in
          fail n x h (spell w us) _ enough (starts w us) (one.fails us tt) ∙ ap (λ (i : ℕ). Err (one.told.0, i)) m;
    })

    all_reads : (ws : List W) (x : X) (h : H) → AllFine ws x h ⊎ AllBad ws x h
    all_reads [] x h = inl (record { clean = refl; value = x; reads = λ rest e n enough. no_step step n (at x h rest) (steps_off x h rest e) })
    all_reads (w ∷ ws) x h = ⊎_elim (λ one. reads_one w ws x h one (all_reads ws one.value (after h w))) (λ one. inr (reads_bad w ws x h one)) ((facts x h).reads w)

    record AllStops (ts : List Token) (x : X) (h : H) : Type 0 where
      problem : Problem
      back : ℕ
      before : List Token
      behind : List Token
      is : ts ≡ before ++ behind
      same : (others : List Token) → SameFront behind others → (n : ℕ) → length (before ++ others) < n + n → repeated step n (at x h (before ++ others)) ≡ Err (problem, back + length others)
      ws : List W
      more' : List Token → List Token
      begins : (rest : List Token) → spell_all spell ws rest ≡ before ++ more' rest
      first : List Note
      last : List Note
      parts : notes_all notes after h ws ≡ first ++ last
      count : length first ≡ length before
      clean : first_fault first ≡ None
      reach : (problem ≡ Syntax) × (back ≡ 0) ⊎ Noted last (problem, back) × ((rest : List Token) → SameFront behind (more' rest))

    stops_here : (ts : List Token) (x : X) (h : H) → more ts ≡ true → Stops (one_lang h) (next x h) ts → AllStops ts x h
    stops_here ts x h e s = record {
      problem = s.problem;
      back = s.back;
      before = s.before;
      behind = s.behind;
      is = s.is;
      same = λ others k n enough.
          fail n x h (s.before ++ others) _ enough (sym (looks (s.before ++ s.behind) (s.before ++ others) (same_behind s.before s.behind others k)) ∙ ap more (sym s.is) ∙ e) (s.same others k);
      ws = s.w ∷ [];
      more' = s.more;
      begins = s.begins;
      first = s.first;
      last = s.last ++ [];
      parts = ap (λ (ns : List Note). ns ++ []) s.parts ∙ append_assoc s.first s.last [];
      count = s.count;
      clean = s.clean;
      reach = ⊎_elim (λ e. inl e) (λ h. inr (noted_on s.last [] (s.problem, s.back) h.0, h.1)) s.reach;
    }

    stops_later : (ts : List Token) (x : X) (h : H) (one : Whole (one_lang h) ts) (fine : Fine (one_lang h) (next x h) one.w) → AllStops one.rest fine.value (after h one.w) → AllStops ts x h
    stops_later ts x h one fine s =
        let w = one.w in
        let sh = shape h w in
        record {
          problem = s.problem;
          back = s.back;
          before = sh.text ++ s.before;
          behind = s.behind;
          is = one.is ∙ ap (spell w) s.is ∙ sh.is (s.before ++ s.behind) ∙ sym (append_assoc sh.text s.before s.behind);
          same = λ others k n enough.
              let us = s.before ++ others in
              let whole : (sh.text ++ s.before) ++ others ≡ spell w us = append_assoc sh.text s.before others ∙ sym (sh.is us) in
              ap (λ (x' : List Token). repeated step n (at x h x')) whole ∙
              go_on n x h (spell w us) us fine.value (after h w) _ (subst (λ (x' : List Token). length x' < n + n) whole enough) (shorter h w us) (starts w us) (fine.reads us tt) (λ m enough'. s.same others k m enough');
          ws = w ∷ s.ws;
          more' = s.more';
          begins = λ rest. sh.is (spell_all spell s.ws rest) ∙ ap (λ (x' : List Token). sh.text ++ x') (s.begins rest) ∙ sym (append_assoc sh.text s.before (s.more' rest));
          first = notes h w ++ s.first;
          last = s.last;
          parts = ap (λ (ns : List Note). notes h w ++ ns) s.parts ∙ sym (append_assoc (notes h w) s.first s.last);
          count = (let a = length-append (notes h w) s.first in let b = length-append sh.text s.before in let c = sh.count in let d = s.count in omega (arith, a, b, c, d));
          clean = clean_on (notes h w) s.first one.clean ∙ s.clean;
          reach = s.reach;
        }

    all_takes : (n : ℕ) (ts : List Token) (x : X) (h : H) → length ts < n + n → Whole (all_lang h) ts ⊎ AllStops ts x h
    all_takes zero ts x h enough = absurd (omega (arith, enough))
    all_takes (suc n) ts x h enough = at_front (λ us y h' more'. all_takes n us y h' more') (more ts) refl
      where
        at_front : ((us : List Token) (y : X) (h' : H) → length us < n + n → Whole (all_lang h') us ⊎ AllStops us y h') → (b : Bool) → more ts ≡ b → Whole (all_lang h) ts ⊎ AllStops ts x h
        at_front next' false e = inl (record { w = []; rest = ts; is = refl; clean = refl; ends = e })
        at_front next' true e = ⊎_elim
            (λ one.
            let fine = fine_of (one_lang h) (next x h) one.w one.clean ((facts x h).reads one.w) in
            let size : length ts ≡ length (spell one.w one.rest) = ap length one.is in
            ⊎_elim
            (λ two. inl (record {
              w = one.w ∷ two.w;
              rest = two.rest;
              is = one.is ∙ ap (spell one.w) two.is;
              clean = clean_on (notes h one.w) (notes_all notes after (after h one.w) two.w) one.clean ∙ two.clean;
              ends = two.ends;
            }))
            (λ s. inr (stops_later ts x h one fine s))
            (next' one.rest fine.value (after h one.w) (omega (arith, enough, size, shorter h one.w one.rest))))
            (λ s. inr (stops_here ts x h e s))
            ((facts x h).takes ts e)

    -- so many steps are the same as any other number that is enough
    pub same_steps : (n m : ℕ) (ts : List Token) (x : X) (h : H) → length ts < n + n → length ts < m + m → repeated step n (at x h ts) ≡ repeated step m (at x h ts)
    same_steps n m ts x h a b = ⊎_elim
        (λ one. at_whole one (all_reads one.w x h))
        (λ s.
        let us = ap length (sym s.is) in
        ap (λ (x' : List Token). repeated step n (at x h x')) s.is ∙ s.same s.behind (same_front s.behind) n (omega (arith, us, a)) ∙ sym (s.same s.behind (same_front s.behind) m (omega (arith, us, b))) ∙ ap (λ (x' : List Token). repeated step m (at x h x')) (sym s.is))
        (all_takes n ts x h a)
      where
        at_whole : (one : Whole (all_lang h) ts) → AllFine one.w x h ⊎ AllBad one.w x h → repeated step n (at x h ts) ≡ repeated step m (at x h ts)
        at_whole one (inl fine) =
            let us = ap length (sym one.is) in
            ap (λ (x' : List Token). repeated step n (at x h x')) one.is ∙ fine.reads one.rest one.ends n (omega (arith, us, a)) ∙ sym (fine.reads one.rest one.ends m (omega (arith, us, b))) ∙ ap (λ (x' : List Token). repeated step m (at x h x')) (sym one.is)
        at_whole one (inr bad) = (let same : None ≡ Some bad.told = sym one.clean ∙ bad.is in absurd cc)

    abbrev pub all_reader : X → H → List Token → Result S Told
    all_reader x h ts = repeated step (suc (length ts)) (at x h ts)

    pub enough : (ts : List Token) → length ts < suc (length ts) + suc (length ts)
    enough ts = (let n = length ts in let is : n < suc n + suc n = omega arith in is)

    pub all_facts : {P : List Token → Type 0} (x : X) (h : H) → Facts P (all_lang h) (all_reader x h)
    all_facts x h = record {
      reads = λ ws. ⊎_elim
          (λ one. inl (record { clean = one.clean; value = one.value; reads = λ rest e. one.reads rest e _ (enough (spell_all spell ws rest)) }))
          (λ one. inr (record { told = one.told; is = one.is; fails = λ rest e. one.fails rest e _ (enough (spell_all spell ws rest)) }))
          (all_reads ws x h);
      takes = λ ts p. ⊎_elim (λ one. inl one) (λ s. inr (record {
        problem = s.problem;
        back = s.back;
        before = s.before;
        behind = s.behind;
        is = s.is;
        same = λ others k. s.same others k _ (enough (s.before ++ others));
        w = s.ws;
        more = s.more';
        begins = s.begins;
        first = s.first;
        last = s.last;
        parts = s.parts;
        count = s.count;
        clean = s.clean;
        reach = s.reach;
      })) (all_takes (suc (length ts)) ts x h (enough ts));
    }

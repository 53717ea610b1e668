-- What the reading of tokens with one more behind them says of what may stand there.
use Rattle.std.proofs.Common.{◌≡◌, Bool, true, false, ◌↔◌, IsTrue, MatchOption, not, ⊎_elim, ℕ, zero, suc, ◌+◌, ◌-◌, ◌<◌, ◌≤◌, List, [], ◌∷◌, ◌++◌, length, take, Option, Some, None, Result, Ok, Err, refl, sym, ap, ap₂, ◌∙◌, subst, arith, append_assoc, append-nil, length-append}
use Rattle.std.specs.Prelude.{slice_get}
use Rattle.std.proofs.Math.Seq.{take-append_seam}
use Rattle.std.proofs.lemmas.Bool.{false≢true}
use Rattle.script_token.specs.Tokens.{Token}
use Rattle.script_grammar.specs.Written.{Script as Written, script_tokens}
use Rattle.script_reader.specs.Steps.{Told, told}
use Rattle.script_reader.specs.declared.fault.Fault.{Fault}
use Rattle.script_reader.specs.declared.fault.Problem.{Problem}
use Rattle.script_reader.specs.declared.fault.Problem.TheVariants.{Syntax}
use Rattle.script_faults.specs.Notes.{Note, first_fault, SameFront}
use Rattle.script_faults.specs.BlockNotes.{script_notes}
use Rattle.script_faults.specs.Laws.{Demanded, IsFirst, IsRead}
use Rattle.script_faults.proofs.Facts.{clean_on}
use Rattle.script_faults.proofs.Places.{Agree}
use Rattle.script_faults.proofs.Demanding.{Cut, Later, Same, Earlier, cut, none_before, agree_at}
use Rattle.script.specs.Scripts.{Script, script_at}
use Rattle.script.specs.FirstFaults.{Ended, script_spell}
use Rattle.script.proofs.Spelled.{SpellsScript, script_found}
use Rattle.script.proofs.Wholes.{script_agrees, scripts_are_answered}
use Rattle.script_mistakes.specs.Expected.{IsClean, MayEnd, MayFollow}

-- NOTES AT PLACES

at_seam : (before behind : List Note) (n : Note) → slice_get (before ++ n ∷ behind) (length before) ≡ Some n
at_seam [] behind n = refl
at_seam (m ∷ before) behind n = at_seam before behind n

first_at : (notes : List Note) (place : ℕ) (fault : Problem × ℕ) → IsFirst notes place fault → slice_get notes place ≡ Some (Some fault)
first_at notes place fault f =
    subst (λ (n : ℕ). slice_get notes n ≡ Some (Some fault)) f.count
    (subst (λ (x : List Note). slice_get x (length f.before) ≡ Some (Some fault)) (sym f.parts) (at_seam f.before f.behind (Some fault)))

first_is : (notes : List Note) (place : ℕ) (fault : Problem × ℕ) (f : IsFirst notes place fault) → first_fault notes ≡ Some (fault.0, fault.1 + suc (length f.behind))
first_is notes place fault f = ap first_fault f.parts ∙ clean_on f.before (Some fault ∷ f.behind) f.none

clean_at : (notes : List Note) (n i : ℕ) (fault : Problem × ℕ) → first_fault (take n notes) ≡ None → i < n → slice_get notes i ≡ Some (Some fault) → ⊥
clean_at [] n i fault e lt h = absurd cc
clean_at (n ∷ notes) zero i fault e lt h = absurd (omega (arith, lt))
clean_at (None ∷ notes) (suc n) zero fault e lt h = absurd cc
clean_at (None ∷ notes) (suc n) (suc i) fault e lt h = clean_at notes n i fault e (omega (arith, lt)) h
clean_at (Some p ∷ notes) (suc n) i fault e lt h = absurd cc

none_at : (notes : List Note) (i : ℕ) (fault : Problem × ℕ) → first_fault notes ≡ None → slice_get notes i ≡ Some (Some fault) → ⊥
none_at [] i fault e h = absurd cc
none_at (None ∷ notes) zero fault e h = absurd cc
none_at (None ∷ notes) (suc i) fault e h = none_at notes i fault e h
none_at (Some p ∷ notes) i fault e h = absurd cc

note_is : (a b : Problem × ℕ) → ◌≡◌ {A = Option Note} (Some (Some a)) (Some (Some b)) → a ≡ b
note_is a b e = cc

-- WHERE A FAULT STANDS

abbrev Demands : List Token → Told → Type 0
Demands ts told = Demanded script_spell script_notes Ended ts told

demands : (ts : List Token) (told : Told) → script_at ts ≡ Err told → Demands ts told
demands ts told e = scripts_are_answered.demanded ts told e

-- what the grammar does not allow is told where it stands
syntax_here : (w : Written) (place back : ℕ) → IsFirst (script_notes w) place (Syntax, back) → back ≡ 0
syntax_here w place back f =
    agree_at f.before (f.behind ++ []) (Syntax, back) [] (script_tokens w ++ [])
    (subst (Agree [] (script_tokens w ++ [])) (ap (λ (x : List Note). x ++ []) f.parts ∙ append_assoc f.before (Some (Syntax, back) ∷ f.behind) []) ((script_agrees w).agree [] [] [] (λ p. tt)))

-- what is written has the demanded fault, where it goes on with the token at its place
goes_on : (ts : List Token) (told : Told) (E : Demands ts told) → ((rest : List Token) → SameFront E.behind (E.more rest)) → IsFirst (script_notes E.written) (length E.before) (told.0, E.back)
goes_on ts told E h = E.first E.written [] (E.more []) refl (E.begins []) (h [])

no_back : (ts : List Token) (left : ℕ) (E : Demands ts (Syntax, left)) → E.back ≡ 0
no_back ts left E = ⊎_elim (λ a. a.1) (λ h. syntax_here E.written (length E.before) E.back (goes_on ts (Syntax, left) E h)) E.goes_on

left_is : (ts : List Token) (left : ℕ) (E : Demands ts (Syntax, left)) → left ≡ length E.behind
left_is ts left E = (let l = E.line in let b = no_back ts left E in omega (arith, l, b))

pub before_is : (ts : List Token) (left : ℕ) (E : Demands ts (Syntax, left)) → take (length ts - left) ts ≡ E.before
before_is ts left E =
    let size = ap length E.tokens ∙ length-append E.before E.behind in
    let behind = left_is ts left E in
    let n : length ts - left ≡ length E.before = omega (arith, size, behind) in
    ap₂ (λ (n : ℕ) (xs : List Token). take n xs) n E.tokens ∙ take-append_seam E.before E.behind

pub left_within : (ts : List Token) (left : ℕ) → script_at ts ≡ Err (Syntax, left) → left ≤ length ts
left_within ts left e =
    let E = demands ts (Syntax, left) e in
    let size = ap length E.tokens ∙ length-append E.before E.behind in
    omega (arith, size, left_is ts left E)

written_nil : (w : Written) → script_tokens w ++ [] ≡ script_tokens w
written_nil w = append-nil (script_tokens w)

pub clean_before : (ts : List Token) (left : ℕ) → script_at ts ≡ Err (Syntax, left) → IsClean (take (length ts - left) ts)
clean_before ts left e =
    let E = demands ts (Syntax, left) e in
    subst IsClean (sym (before_is ts left E)) (record { written = E.written; more = E.more []; begins = sym (written_nil E.written) ∙ E.begins []; clean = E.clean })

-- THE FAULT OF TOKENS THAT BEGIN WITH CLEAN ONES

record Behind (before x ahead rest : List Token) : Type 0 where
  m : List Token
  front : ahead ≡ before ++ m
  back : x ≡ m ++ rest

behind_clean : (before x : List Token) (told : Told) → IsClean before → (E : Demands (before ++ x) told) → Behind before x E.before E.behind
behind_clean before x told C E = at_cut (cut E.before E.behind before x (sym E.tokens))
  where
    at_cut : Cut E.before E.behind before x → Behind before x E.before E.behind
    at_cut (Same f g) = record { m = []; front = f ∙ sym (append-nil before); back = sym g }
    at_cut (Earlier t m f g) = record { m = t ∷ m; front = f; back = g }
    at_cut (Later t m f g) =
        let is : script_tokens C.written ++ [] ≡ E.before ++ ((t ∷ m) ++ C.more) = written_nil C.written ∙ C.begins ∙ ap (λ (y : List Token). y ++ C.more) f ∙ append_assoc E.before (t ∷ m) C.more in
        let first = E.first C.written [] ((t ∷ m) ++ C.more) refl is (subst (λ (y : List Token). SameFront y ((t ∷ m) ++ C.more)) (sym g) refl) in
        let size : length before ≡ length E.before + length (t ∷ m) = ap length f ∙ length-append E.before (t ∷ m) in
        absurd (none_before (script_notes C.written) (length E.before) (length before) (told.0, E.back) first (omega (arith, size)) C.clean)

err_is : (a b : Told) → ◌≡◌ {A = Result Script Told} (Err a) (Err b) → a ≡ b
err_is a b e = cc

-- ONE MORE TOKEN

-- it is not allowed
pub refused : (before : List Token) (t : Token) → IsClean before → script_at (before ++ t ∷ []) ≡ Err (Syntax, 1) → MayFollow before t → ⊥
refused before t C e M = (let B = behind_clean before (t ∷ []) (Syntax, 1) C E in at_m B.m B.front B.back)
  where
    E : Demands (before ++ t ∷ []) (Syntax, 1)
    E = demands (before ++ t ∷ []) (Syntax, 1) e

    at_m : (m : List Token) → E.before ≡ before ++ m → t ∷ [] ≡ m ++ E.behind → ⊥
    at_m [] front back =
        let same : E.before ≡ before = front ∙ append-nil before in
        let is : script_tokens M.written ++ [] ≡ E.before ++ t ∷ M.rest = written_nil M.written ∙ M.begins ∙ ap (λ (y : List Token). y ++ t ∷ M.rest) (sym same) in
        let first = E.first M.written [] (t ∷ M.rest) refl is (subst (λ (y : List Token). SameFront y (t ∷ M.rest)) back refl) in
        let there = first_at (script_notes M.written) (length E.before) (Syntax, E.back) first in
        M.allowed (subst (λ (n : ℕ). slice_get (script_notes M.written) (length before) ≡ Some (Some (Syntax, n))) (no_back (before ++ t ∷ []) 1 E) (subst (λ (y : List Token). slice_get (script_notes M.written) (length y) ≡ Some (Some (Syntax, E.back))) same there))
    at_m (u ∷ m) front back =
        let size = ap length back ∙ length-append (u ∷ m) E.behind in
        let left = left_is (before ++ t ∷ []) 1 E in
        omega (arith, size, left)

-- its fault is another
follows_faulty : (before : List Token) (t : Token) (told : Told) → IsClean before → script_at (before ++ t ∷ []) ≡ Err told → (told ≡ (Syntax, 1) → ⊥) → MayFollow before t
follows_faulty before t told C e other = (let B = behind_clean before (t ∷ []) told C E in at_m B.m B.front B.back)
  where
    E : Demands (before ++ t ∷ []) told
    E = demands (before ++ t ∷ []) told e

    is_syntax : E.behind ≡ t ∷ [] → told.0 ≡ Syntax → E.back ≡ 0 → told ≡ (Syntax, 1)
    is_syntax back problem none = (let line = E.line in let size = ap length back in let left : told.1 ≡ 1 = omega (arith, line, none, size) in ap₂ (λ (p : Problem) (n : ℕ). (p, n)) problem left)

    goes : E.before ≡ before → E.behind ≡ t ∷ [] → ((rest : List Token) → SameFront E.behind (E.more rest)) → (more : List Token) → E.more [] ≡ more → SameFront (t ∷ []) more → MayFollow before t
    goes same back h [] is front = absurd front
    goes same back h (u ∷ us) is front = record {
      written = E.written;
      rest = us;
      begins = sym (written_nil E.written) ∙ E.begins [] ∙ ap₂ (λ (x y : List Token). x ++ y) same (is ∙ ap (λ (x : Token). x ∷ us) (sym front));
      allowed = λ there. (let first = first_at (script_notes E.written) (length E.before) (told.0, E.back) (goes_on (before ++ t ∷ []) told E h) in
          let both : ◌≡◌ {A = Option Note} (Some (Some (told.0, E.back))) (Some (Some (Syntax, 0))) = sym first ∙ ap (λ (y : List Token). slice_get (script_notes E.written) (length y)) same ∙ there in
          let fault : (told.0, E.back) ≡ (Syntax, 0) = note_is _ _ both in
          other (is_syntax back (ap (λ (p : Problem × ℕ). p.0) fault) (ap (λ (p : Problem × ℕ). p.1) fault)));
    }

    at_rest : (u : Token) (m : List Token) → E.before ≡ before ++ u ∷ m → t ∷ [] ≡ (u ∷ m) ++ E.behind → MayFollow before t
    at_rest u [] front back =
        let same : t ≡ u = cc in
        let size : length E.before ≡ length before + 1 = ap length front ∙ length-append before (u ∷ []) in
        record {
          written = E.written;
          rest = E.more [];
          begins = sym (written_nil E.written) ∙ E.begins [] ∙ ap (λ (x : List Token). x ++ E.more []) (front ∙ ap (λ (x : Token). before ++ x ∷ []) (sym same)) ∙ append_assoc before (t ∷ []) (E.more []);
          allowed = λ there. clean_at (script_notes E.written) (length E.before) (length before) (Syntax, 0) E.clean (omega (arith, size)) there;
        }
    at_rest u (v ∷ m) front back = absurd cc

    at_m : (m : List Token) → E.before ≡ before ++ m → t ∷ [] ≡ m ++ E.behind → MayFollow before t
    at_m [] front back =
        let same : E.before ≡ before = front ∙ append-nil before in
        ⊎_elim
        (λ a. absurd (other (is_syntax (sym back) a.0 a.1)))
        (λ h. goes same (sym back) h (E.more []) refl (subst (λ (y : List Token). SameFront y (E.more [])) (sym back) (h [])))
        E.goes_on
    at_m (u ∷ m) front back = at_rest u m front back

-- it makes a whole script
follows_read : (before : List Token) (t : Token) (s : Script) → script_at (before ++ t ∷ []) ≡ Ok s → MayFollow before t
follows_read before t s e = record { written = F.written; rest = []; begins = sym F.tokens; allowed = λ there. at_notes (first_fault (script_notes F.written)) refl there }
  where
    F : SpellsScript (before ++ t ∷ []) s
    F = script_found (before ++ t ∷ []) s e

    at_notes : (o : Option Told) → first_fault (script_notes F.written) ≡ o → slice_get (script_notes F.written) (length before) ≡ Some (Some (Syntax, 0)) → ⊥
    at_notes None is there = none_at (script_notes F.written) (length before) (Syntax, 0) is there
    at_notes (Some told) is there =
        let read : script_at (script_tokens F.written ++ []) ≡ Err (told.0, told.1 + 0) = scripts_are_answered.tells F.written told is [] refl in
        let both : ◌≡◌ {A = Result Script Told} (Ok s) (Err (told.0, told.1 + 0)) = sym e ∙ ap (λ (x : List Token). script_at x) (F.tokens ∙ sym (written_nil F.written)) ∙ read in
        absurd cc

pub follows : (before : List Token) (t : Token) → IsClean before → (script_at (before ++ t ∷ []) ≡ Err (Syntax, 1) → ⊥) → MayFollow before t
follows before t C other = at_read (script_at (before ++ t ∷ [])) refl
  where
    at_read : (r : Result Script Told) → script_at (before ++ t ∷ []) ≡ r → MayFollow before t
    at_read (Ok s) e = follows_read before t s e
    at_read (Err told) e = follows_faulty before t told C e (λ same. other (e ∙ ap Err same))

-- THE END OF THE TEXT

pub ends : (before : List Token) → IsRead (script_at before) → MayEnd before
ends before h = at_read (script_at before) refl h
  where
    at_read : (r : Result Script Told) → script_at before ≡ r → IsRead r → MayEnd before
    at_read (Ok s) e read = (let F = script_found before s e in record { written = F.written; is = sym F.tokens })
    at_read (Err told) e read = absurd read

pub ends_not : (before : List Token) (told : Told) → IsClean before → script_at before ≡ Err told → MayEnd before → ⊥
ends_not before told C e M = at_m B.m B.front B.back
  where
    E : Demands (before ++ []) told
    E = demands (before ++ []) told (ap (λ (x : List Token). script_at x) (append-nil before) ∙ e)

    B : Behind before [] E.before E.behind
    B = behind_clean before [] told C E

    at_m : (m : List Token) → E.before ≡ before ++ m → [] ≡ m ++ E.behind → ⊥
    at_m (u ∷ m) front back = absurd cc
    at_m [] front back =
        let is : script_tokens M.written ++ [] ≡ E.before ++ [] = ap (λ (x : List Token). x ++ []) (M.is ∙ sym (append-nil before) ∙ sym front) in
        let first = E.first M.written [] [] refl is (subst (λ (y : List Token). SameFront y []) back tt) in
        let fault = first_is (script_notes M.written) (length E.before) (told.0, E.back) first in
        let read : script_at (script_tokens M.written ++ []) ≡ Err (told.0, E.back + suc (length first.behind) + 0) = scripts_are_answered.tells M.written (told.0, E.back + suc (length first.behind)) fault [] refl in
        let same : told ≡ (told.0, E.back + suc (length first.behind) + 0) = err_is _ _ (sym e ∙ ap (λ (x : List Token). script_at x) (sym M.is ∙ sym (written_nil M.written)) ∙ read) in
        let left : told.1 ≡ E.back + suc (length first.behind) + 0 = ap (λ (x : Told). x.1) same in
        let line = E.line in
        let none = ap length back in
        omega (arith, left, line, none)

-- WHAT IS ANSWERED

-- what is told of a reading
abbrev pub Tried : Option Fault → Result Script Told → Type 0
Tried found read = MatchOption found (IsRead read) (λ fault. read ≡ Err (told fault))

abbrev last_refused : Fault
last_refused = record { problem = Syntax; left = 1 }

fault_is : (f g : Fault) → told f ≡ told g → f ≡ g
fault_is f g e = ap₂ (λ (p : Problem) (n : ℕ). record { problem = p; left = n }) (ap (λ (x : Told). x.0) e) (ap (λ (x : Told). x.1) e)

told_found : (read : Result Script Told) (found : Option Fault) → Tried found read → read ≡ Err (Syntax, 1) → found ≡ Some last_refused
told_found read None tried e = absurd (subst IsRead e tried)
told_found read (Some f) tried e = ap Some (fault_is f last_refused (err_is _ _ (sym tried ∙ e)))

pub answer : (before : List Token) (t : Token) (found : Option Fault) (is : Bool) → IsClean before → Tried found (script_at (before ++ t ∷ [])) → (IsTrue is ↔ (found ≡ Some last_refused)) → IsTrue (not is) ↔ MayFollow before t
answer before t found true C tried same = (
  λ h. absurd (false≢true h),
  λ M. absurd (refused before t C (subst (λ (o : Option Fault). Tried o (script_at (before ++ t ∷ []))) (same.0 refl) tried) M),
)
answer before t found false C tried same = (
  λ h. follows before t C (λ e. false≢true (same.1 (told_found (script_at (before ++ t ∷ [])) found tried e))),
  λ M. refl,
)

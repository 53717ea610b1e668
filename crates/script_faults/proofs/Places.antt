-- Where the faults are told: at their own token, and that of a loop at its word.
use Rattle.std.proofs.Common.{◌≡◌, ◌⊎◌, ℕ, zero, suc, Bool, true, false, cond, ◌||◌, eqb, ltb, leb, List, [], ◌∷◌, ◌++◌, length, Option, Some, None, is_some, refl, sym, subst, arith, append_assoc}
use Rattle.script_token.specs.Tokens.{Token, Fixed}
use Rattle.script_token.specs.declared.kind.Symbol.TheVariants.{Loop, Forever}
use Rattle.script_grammar.specs.Meaning.{place, is_listed}
use Rattle.script_reader.specs.Steps.{Here, meaning}
use Rattle.script_reader.specs.declared.fault.Problem.{Problem}
use Rattle.script_reader.specs.declared.fault.Problem.TheVariants.{Syntax, UnknownName, Twice, TooMany, LoopWithoutSync}
use Rattle.script_grammar.specs.Written.{Term, OfNumber, OfName, Grouped, Terms, NoMore, Further, Expr, Test}
use Rattle.script_faults.specs.Notes.{Note, also, plain, read_note, process_note, spawn_note, bind_note, term_notes, terms_notes, expr_notes, test_notes, others_notes, more_notes, members_notes, list_notes, more_names_notes, names_notes}
use Rattle.script_faults.proofs.Facts.{Shape}

abbrev pub nth : List Token → ℕ → Option Token
nth [] n = None
nth (t ∷ ts) zero = Some t
nth (t ∷ ts) (suc n) = nth ts n

-- behind these tokens, the last of them first, the fault is told so many tokens back
abbrev pub BackIs : List Token → Problem → ℕ → Type 0
BackIs prior Syntax back = back ≡ 0
BackIs prior UnknownName back = back ≡ 0
BackIs prior Twice back = back ≡ 0
BackIs prior TooMany back = back ≡ 0
BackIs prior LoopWithoutSync back = (nth prior 2 ≡ Some (Fixed Loop)) × (back ≡ 3) ⊎ (nth prior 1 ≡ Some (Fixed Forever)) × (back ≡ 2)

abbrev pub NoteIs : List Token → Note → Type 0
NoteIs prior None = Unit {0}
NoteIs prior (Some p) = BackIs prior p.0 p.1

-- each note is told where it says
abbrev pub Agree : List Token → List Token → List Note → Type 0
Agree prior ts [] = Unit {0}
Agree prior [] (n ∷ notes) = ⊥
Agree prior (t ∷ ts) (n ∷ notes) = NoteIs prior n × Agree (t ∷ prior) ts notes

-- whatever stands before and behind
pub record Agrees (spell : List Token → List Token) (notes : List Note) : Type 0 where
  pub agree : (prior rest : List Token) (others : List Note) → ((p : List Token) → Agree p rest others) → Agree prior (spell rest) (notes ++ others)

pub agrees_none : Agrees (λ rest. rest) []
agrees_none = record { agree = λ prior rest others k. k prior }

pub agrees_seq : (a b : List Token → List Token) (m n : List Note) → Agrees a m → Agrees b n → Agrees (λ rest. a (b rest)) (m ++ n)
agrees_seq a b m n x y = record { agree = λ prior rest others k. subst (Agree prior (a (b rest))) (sym (append_assoc m n others)) (x.agree prior (b rest) (n ++ others) (λ p. y.agree p rest others k)) }

-- a fault that is told at its own token
abbrev pub IsHere : Note → Type 0
IsHere note = (prior : List Token) → NoteIs prior note

abbrev pub AllHere : List Note → Type 0
AllHere [] = Unit {0}
AllHere (n ∷ notes) = IsHere n × AllHere notes

here_agree : (text : List Token) (notes : List Note) → length notes ≡ length text → AllHere notes → (prior rest : List Token) (others : List Note) → ((p : List Token) → Agree p rest others) → Agree prior (text ++ rest) (notes ++ others)
here_agree [] [] e h prior rest others k = k prior
here_agree [] (n ∷ notes) e h prior rest others k = absurd cc
here_agree (t ∷ text) [] e h prior rest others k = absurd cc
here_agree (t ∷ text) (n ∷ notes) e h prior rest others k = (h.0 prior, here_agree text notes (omega (arith, e)) h.1 (t ∷ prior) rest others k)

pub here_agrees : (spell : List Token → List Token) (notes : List Note) → Shape spell notes → AllHere notes → Agrees spell notes
here_agrees spell notes s h = record { agree = λ prior rest others k. subst (λ (ts : List Token). Agree prior ts (notes ++ others)) (sym (s.is rest)) (here_agree s.text notes s.count h prior rest others k) }

-- THE NOTES OF EXPRESSIONS, LISTS AND NAMES

here_on : (a b : List Note) → AllHere a → AllHere b → AllHere (a ++ b)
here_on [] b h k = k
here_on (n ∷ a) b h k = (h.0, here_on a b h.1 k)

pub either_here : (b : Bool) (x y : Note) → IsHere x → IsHere y → IsHere (cond b x y)
either_here true x y h k = h
either_here false x y h k = k

pub plain_here : (nesting : ℕ) → IsHere (plain nesting)
unfolding plain
plain_here nesting = either_here (eqb nesting 0) (Some (TooMany, 0)) None (λ prior. refl) (λ prior. tt)

pub read_here : (nesting : ℕ) (h : Here) (text : List ℕ) → IsHere (read_note nesting h text)
unfolding read_note
read_here nesting h text = either_here (is_some (meaning h text)) (plain nesting) (Some (UnknownName, 0)) (plain_here nesting) (λ prior. refl)

pub process_here : (nesting : ℕ) (h : Here) (text : List ℕ) → IsHere (process_note nesting h text)
unfolding process_note
process_here nesting h text = either_here (is_some (place text h.processes)) (plain nesting) (Some (UnknownName, 0)) (plain_here nesting) (λ prior. refl)

pub spawn_here : (nesting : ℕ) (h : Here) (text : List ℕ) → IsHere (spawn_note nesting h text)
unfolding spawn_note
spawn_here nesting h text =
    let new : IsHere (cond (is_listed h.spawned (place text h.processes)) (Some (Twice, 0)) (plain nesting)) = either_here (is_listed h.spawned (place text h.processes)) (Some (Twice, 0)) (plain nesting) (λ prior. refl) (plain_here nesting) in
    either_here (is_some (place text h.processes)) (cond (is_listed h.spawned (place text h.processes)) (Some (Twice, 0)) (plain nesting)) (Some (UnknownName, 0)) new (λ prior. refl)

pub bind_here : (nesting : ℕ) (list : List ℕ) (h : Here) (text : List ℕ) → IsHere (bind_note nesting list h text)
unfolding bind_note
bind_here nesting list h text =
    let few : IsHere (cond (ltb 32 (length text) || leb 3 (length list)) (Some (TooMany, 0)) (plain nesting)) = either_here (ltb 32 (length text) || leb 3 (length list)) (Some (TooMany, 0)) (plain nesting) (λ prior. refl) (plain_here nesting) in
    either_here (is_some (place text h.channels) || is_listed list (place text h.variables)) (Some (Twice, 0)) (cond (ltb 32 (length text) || leb 3 (length list)) (Some (TooMany, 0)) (plain nesting)) (λ prior. refl) few

mutual
  unfolding term_notes

  term_here : (t : Term) (nesting : ℕ) (h : Here) → AllHere (term_notes nesting h t)
  term_here (OfNumber n) nesting h = (plain_here nesting, tt)
  term_here (OfName text) nesting h = (read_here nesting h text, tt)
  term_here (Grouped first more) nesting h = (plain_here nesting, here_on _ _ (here_on _ _ (term_here first _ h) (terms_here more _ h)) (plain_here _, tt))

  terms_here : (m : Terms) (nesting : ℕ) (h : Here) → AllHere (terms_notes nesting h m)
  terms_here NoMore nesting h = tt
  terms_here (Further sign term more) nesting h = here_on (plain nesting ∷ term_notes nesting h term) _ (plain_here nesting, term_here term nesting h) (terms_here more nesting h)

pub expr_here : (e : Expr) (nesting : ℕ) (h : Here) → AllHere (expr_notes nesting h e)
unfolding expr_notes
expr_here e nesting h = here_on _ _ (term_here e.first nesting h) (terms_here e.more nesting h)

pub test_here : (t : Test) (nesting : ℕ) (h : Here) → AllHere (test_notes nesting h t)
unfolding test_notes
test_here t nesting h = here_on _ (plain nesting ∷ expr_notes nesting h t.right) (expr_here t.left nesting h) (plain_here nesting, expr_here t.right nesting h)

others_here : (es : List Expr) (nesting : ℕ) (h : Here) → AllHere (others_notes nesting h es)
unfolding others_notes
others_here [] nesting h = tt
others_here (e ∷ es) nesting h = (plain_here nesting, here_on _ _ (expr_here e nesting h) (others_here es nesting h))

also_here : (p : Problem × ℕ) (notes : List Note) → IsHere (Some p) → AllHere notes → AllHere (also p notes)
also_here p [] k h = tt
also_here p (None ∷ notes) k h = (k, h.1)
also_here p (Some q ∷ notes) k h = h

more_here : (es : List Expr) (n nesting : ℕ) (h : Here) → AllHere (more_notes n nesting h es)
unfolding more_notes
more_here [] n nesting h = tt
more_here (e ∷ es) zero nesting h = (plain_here nesting, also_here (TooMany, 0) _ (λ prior. refl) (here_on _ _ (expr_here e nesting h) (others_here es nesting h)))
more_here (e ∷ es) (suc n) nesting h = (plain_here nesting, here_on _ _ (expr_here e nesting h) (more_here es n nesting h))

members_here : (es : List Expr) (nesting : ℕ) (h : Here) → AllHere (members_notes nesting h es)
unfolding members_notes
members_here [] nesting h = tt
members_here (e ∷ es) nesting h = here_on _ _ (expr_here e nesting h) (more_here es 2 nesting h)

pub list_here : (es : List Expr) (nesting : ℕ) (h : Here) → AllHere (list_notes nesting h es)
unfolding list_notes
list_here es nesting h = (plain_here nesting, here_on _ _ (members_here es _ h) (plain_here _, tt))

more_names_here : (texts : List (List ℕ)) (nesting : ℕ) (list : List ℕ) (h : Here) → AllHere (more_names_notes nesting list h texts)
unfolding more_names_notes
more_names_here [] nesting list h = tt
more_names_here (text ∷ texts) nesting list h = (plain_here nesting, (bind_here nesting list h text, more_names_here texts nesting _ _))

pub names_here : (text : List ℕ) (texts : List (List ℕ)) (nesting : ℕ) (h : Here) → AllHere (names_notes nesting h text texts)
unfolding names_notes
names_here text texts nesting h = (bind_here nesting [] h text, more_names_here texts nesting _ _)

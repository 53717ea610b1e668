-- What keeps the promise of a channel.
use Rattle.std.proofs.Common.{◌≡◌, ◌⊎◌, false, List, [], ◌∷◌, ◌++◌, sym, ◌∙◌, ap, inl, inr, subst}
use Rattle.std.specs.Prelude.{Result, Ok, Err, OnErr, OnOk}
use Rattle.channels.specs.declared.waiting.Side.{Side}
use Rattle.channels.specs.declared.waiting.Side.TheVariants.{Send, Receive}
use Rattle.channels.specs.declared.waiting.Waiting.{Waiting}
use Rattle.channels.specs.Lines.{IsIn, has_other, opposite}
use Rattle.channels.specs.States.{Promise, State, line, with_line}
use Rattle.channels.proofs.Members.{in-append, of-ticket}

-- each that stands now stood before
pub promise-fewer : (old new : State) → ((w : Waiting) → IsIn new.sends w → IsIn old.sends w) → ((w : Waiting) → IsIn new.receives w → IsIn old.receives w) → Promise old → Promise new
promise-fewer old new sends receives p = record { apart = λ sender receiver s r. p.apart sender receiver (sends sender s) (receives receiver r) }

-- who stands now stood before, or came
stands-cases : (xs : List Waiting) (came w : Waiting) → IsIn (xs ++ came ∷ []) w → IsIn xs w ⊎ (w ≡ came)
stands-cases xs came w h =
    elim (in-append xs (came ∷ []) w h) [ inl was ↦ inl was | inr new ↦ elim new [ inl is ↦ inr (sym is) | inr none ↦ absurd none ] ]

-- somebody came, and nobody of another ticket stands opposite
pub promise-stands : (old : State) (side : Side) (came : Waiting) → has_other came.ticket (line (opposite side) old) ≡ false → Promise old → Promise (with_line side old (line side old ++ came ∷ []))
promise-stands old Send came none p = record {
  apart = λ sender receiver s r.
      elim (stands-cases old.sends came sender s) [
        | inl was ↦ p.apart sender receiver was r
        | inr is ↦ ap (λ (w : Waiting). w.ticket) is ∙ sym (of-ticket came.ticket old.receives receiver none r)
      ];
}
promise-stands old Receive came none p = record {
  apart = λ sender receiver s r.
      elim (stands-cases old.receives came receiver r) [
        | inl was ↦ p.apart sender receiver s was
        | inr is ↦ of-ticket came.ticket old.sends sender none s ∙ sym (ap (λ (w : Waiting). w.ticket) is)
      ];
}

-- somebody tried to stand
pub promise-tried : {A B : Type 0} (r : Result A B) (old : State) (side : Side) (came : Waiting) (now : List Waiting)
    → OnOk r ((has_other came.ticket (line (opposite side) old) ≡ false) × (now ≡ line side old ++ came ∷ [])) → OnErr r (now ≡ line side old) → Promise old → Promise (with_line side old now)
promise-tried (Ok x) old side came now stood kept p = subst (λ (l : List Waiting). Promise (with_line side old l)) (sym stood.1) (promise-stands old side came stood.0 p)
promise-tried (Err e) old Send came now stood kept p = subst (λ (l : List Waiting). Promise (with_line Send old l)) (sym kept) p
promise-tried (Err e) old Receive came now stood kept p = subst (λ (l : List Waiting). Promise (with_line Receive old l)) (sym kept) p

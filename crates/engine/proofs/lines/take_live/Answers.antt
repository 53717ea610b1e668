use Rattle.std.proofs.Common.{◌≡◌, ◌∙◌, ◌++◌, ◌∷◌, [], List, inl, inr, sym, ap, subst, append_assoc, false, map}
use Rattle.channels.specs.declared.waiting.Waiting.{Waiting}
use Rattle.channels.specs.Lines.{IsIn}
use Rattle.channels.specs.States.{line}
use Rattle.channels.proofs.Members.{in-append}
use Rattle.engine.specs.Lines.{lives}
use Rattle.engine.specs.Places.{shown}
use Rattle.engine.specs.Tables.{sync_of}
use Rattle.engine.proofs.Listing.{with-line-then}
use Rattle.engine.proofs.lines.take_live.Goals as goal

pub loop-waiting-preserved : goal.loop-waiting-preserved
loop-waiting-preserved c =
    let before = c.loop-waiting.invariant in
    let e = c.in-Some.waiting in (
      before.0 ++ e ∷ [],
      before.1 ∙ (ap (λ (l : List Waiting). before.0 ++ l) c.in-Some.ensures.oldest ∙ sym (append_assoc before.0 (e ∷ []) (line c.args.side c.oldest.new.self))),
      λ x h. elim (in-append before.0 (e ∷ []) x h) [
        | inl was ↦ before.2 x was
        | inr new ↦ elim new [
          | inl is ↦ subst (λ (y : Waiting). lives (map (shown sync_of) c.args.syncs.now.slots.items) y ≡ false) is (sym c.is_live.ensures ∙ c.if-is_live.false)
          | inr none ↦ absurd none
        ]
      ],
      with-line-then c.args.side _ _ _ before.3 c.in-Some.ensures.rest,
    )

pub returns-clause-pops : goal.returns-clause-pops
returns-clause-pops c =
    let before = c.loop-waiting.invariant in
    let empty = c.in_default.ensures.none in (
      sym c.in_default.ensures.oldest ∙ empty,
      λ x h. elim (in-append before.0 (line c.args.side c.loop-waiting.channel) x (subst (λ (l : List Waiting). IsIn l x) before.1 h)) [
        | inl was ↦ before.2 x was
        | inr later ↦ absurd (subst (λ (l : List Waiting). IsIn l x) empty later)
      ],
    )

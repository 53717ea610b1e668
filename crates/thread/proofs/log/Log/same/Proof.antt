-- `same` makes the empty struct, with the items that its clause names. Assumes `Logic`.
use Rattle.std.proofs.Common.{List, [], ◌∷◌, ◌++◌, refl}
use seplogic.Ra.Ura.{Ura}
use mir.Syntax.{Fn, Args, a_type}
use mir.Val.{Val, vptr}
use mir.MapTy.{inst_fn}
use base.Logic.{SProp, ent}
use prog.Memory.{Memory}
use prog.Routine.{Routine}
use prog.Wp.{Calls, Loops, WpFn, Tables}
use contract.Monad.{Fun}
use contract.Running.{tables, tables_of}
use sound.WpLaws.{WpFn-mono}
use types.Logic.{Logic}
use types.Kit.{‵, raw, ◌⊛◌, prop, ◌$◌, ◌∵◌, !, qed, move, keep, drop, split, fsplit, fjoin, feq_l, regoal, suffices, done}
use types.Part.{agg}
use types.Run.{enter, returns, and_then, no_more}
use types.ByLocal.{alloc_all, pass_all, free_all, look_at, get, sets}
use denote.Exit.{yes}
use denote.RattleType.{RattleType, owns}
use denote.Builtin.{RefOf}
use denote.Laws.{Is}
use denote.Param.{param, layouts}
use denote.Signature.{plain, types_at}
use denote.Steps.{nothing, owned}
use denote.Struct.Laws.{makes}
use denote.Struct.Tuple.{Tuple}
use denote.Triple.Clauses.{Clauses, Ended, closing}
use denote.Triple.Entry.{alive}
use denote.Triple.Spec.{Meets, triple_of}
use denote.Triple.Table.{entered}
use denote.Triple.Walked.{says, Stays, stay_dropped, walk_of, ends_at, walk_Meets, Goes-dropped}
use Rattle.std.specs.contracts.marker.PhantomData as Mark
use Rattle.thread.proofs.Walks.{none, one, one_made}
use Rattle.thread.specs.contracts.log.Log as Log
use Rattle.thread.specs.contracts.log.Log.same as F
use Rattle.thread.specs.contracts.log.Log.same.Key.{name as #self}
use Rattle.thread.proofs.log.Log.same.Statement as stated
use Rattle.thread.proofs.log.Log.same.Code as code

module _ (A B : RattleType) where
  abbrev args : Args
  args = layouts (a_type ∷ a_type ∷ []) (A, (B, tt))

  abbrev pair : RattleType
  pair = Tuple (param 0 A ∷ param 1 B ∷ [])

  abbrev function : Fn
  function = inst_fn args code.function

  abbrev ended : Ended
  ended = F.ended A B

  abbrev stayed : Stays ended.signature.params ended.kept
  stayed = (
    stay_dropped (RefOf (0 ∷ []) tt (plain (λ _. Log.the_row (param 0 A) (param 1 B))) (λ _. tt)) yes,
    tt,
  )

  module _ {M : Type 1} {𝓤 : Ura M} (𝓛 : Logic 𝓤) (at_mem : Memory → SProp 𝓤) (run : Routine → Fun 𝓤) where
    open 𝓛 use {H}

    abbrev held : Clauses 𝓤 ended
    held = F.clauses A B 𝓛 at_mem run

    module _ (C : Calls 𝓤 H) (Λ : Loops 𝓤 H) (z : (walk_of 𝓛 ended stayed held).Ghost) where
      abbrev Post : Val → SProp 𝓤
      Post = (walk_of 𝓛 ended stayed held).post z

      abbrev toks : SProp 𝓤
      toks = alive 𝓛 ended.signature z.0.0 z.0.1

      walks : ent 𝓤 ((walk_of 𝓛 ended stayed held).pre z) (WpFn 𝓤 H C Λ function ((walk_of 𝓛 ended stayed held).args z) Post)
      walks =
          let a = z.0.3 in
          let vss = z.0.4 in
          let made : (Log.the_row (param 0 A) (param 1 B)).Denot =
          record { of = record {}; items = a.0.now.items } in
          qed 𝓛 ((raw toks ⊛ ‵ (owns (types_at ended.signature.params z.0.0) a vss)) ∷ raw ((held z.0.0 a).requires z.1) ∷ []) ∵
          keep ! (0 ∷ []) $ split ! $ move ! (1 ∷ []) $
          fsplit ! $ fsplit ! $ feq_l ! (λ is₀. drop ! $ drop ! $
          let p = vptr a.0.ref_ptr.0 a.0.ref_ptr.1 in
          regoal ! (λ (us : List Val). prop (WpFn 𝓤 H C Λ function (us ++ []) Post)) is₀ refl $
          enter ! C Λ function (p ∷ []) Post $ alloc_all ! (λ l. pass_all ! refl ((tt, tt), tt) $
          sets ! (agg ! (no_more !)) refl (tt, tt) $
          sets ! (agg ! (and_then ! (get ! refl) (no_more !))) refl (tt, (tt, tt)) $
          nothing ! $ owned ! (Mark.the_row pair) (Is (Mark.the_row pair)) (makes (Mark.the_type pair) tt 𝓛) (record {}) (none ∷ []) (tt, (refl, tt)) $
          one_made ! (Mark.the_row pair) (record {}) none $ fjoin ! $
          returns ! (look_at ! 0 refl) $ free_all ! refl $
          suffices ! _ (ends_at 𝓛 ended stayed held z (one none) made (tt, tt) (tt, tt)) $ says ! refl $
          nothing ! $ nothing ! $ fjoin ! $ move ! (2 ∷ 0 ∷ 1 ∷ []) $ done !))

    meets : (𝓣 : Tables 𝓤 H) → Meets 𝓛 ended.signature (WpFn 𝓤 H 𝓣.C 𝓣.Λ function) (closing 𝓛 ended held)
    meets 𝓣 =
        walk_Meets 𝓛 ended stayed (
          Goes-dropped 𝓛 3 (RefOf (0 ∷ []) tt (plain (λ _. Log.the_row (param 0 A) (param 1 B))) (λ _. tt)) yes (λ κs x f. refl),
          tt,
        ) held
        (WpFn 𝓤 H 𝓣.C 𝓣.Λ function) (WpFn-mono 𝓤 H 𝓛.laws 𝓣 function) (walks 𝓣.C 𝓣.Λ)

pub same_spec : {M : Type 1} → stated.statement M
unfolding tables_of
same_spec 𝓤 𝓛 𝓜 𝓡 wired A B LA LB =
    let 𝓣 : Tables 𝓤 𝓛.H = tables_of 𝓤 𝓛.H 𝓜 (tables 𝓤 𝓛.H 𝓜 𝓡 𝓡.env) in
    entered 𝓤 𝓛.H (triple_of 𝓛 (ended A B).signature (closing 𝓛 (ended A B) (held A B 𝓛 𝓜.mem 𝓡.returns))) 𝓣.C 𝓣.Λ (#self (args A B)) (function A B)
    (code.unfolded 𝓤 𝓛.H 𝓜 𝓡 wired (A, (B, tt))) (meets A B 𝓛 𝓜.mem 𝓡.returns 𝓣)

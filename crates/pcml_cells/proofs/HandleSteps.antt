-- The machine value of a handle, and what it owns. Assumes `Logic`.
use Rattle.std.proofs.Common.{◌≡◌, ℕ, List, [], ◌∷◌, ◌++◌, refl, subst, lit<}
use lib.Dec.{T}
use seplogic.Ra.Ura.{Ura}
use mir.Syntax.{impl, tnil, dnil}
use mir.Raw.{raw as bare}
use mir.Val.{Val, vptr, vstruct, vcons, vnil, of_list, has_ty, WT}
use mathlib.Core.Bool.{true, ◌&&◌}
use base.Logic.{never, fst∗, snd∗, SProp, ent, via, guard, guard_i}
use base.Fraction.{full_share}
use types.Logic.{Logic, sem}
use types.Kit.{Item, Goal, Seq, Step, step, ‵, given, ◌$◌, move, drop, fsplit, fjoin, fpick, fpack, feq_i, feq_l, use1, learn}
use contract.Monad.{fact_use}
use denote.RattleType.{RattleType, Valss}
use denote.Builtin.{RawPtr}
use denote.Memory.{lone}
use denote.RawPtr.{Ptr, block_ptr, null_ptr, ptr_val, in_a_block, lies_at, Testable}
use denote.Steps.{nothing}
use denote.Param.{layout}
use denote.Struct.Struct.{within}
use denote.Struct.Owning.{shape, to}
use Rattle.core.proofs.alloc.Calls.{Al, handle_tells}
use Rattle.core.proofs.cell.Inside.{Good}
use Rattle.std_alloc.proofs.ResultValues.{and_tt}
use Rattle.std.specs.declared.option.Option.TheVariants.{None, Some}
use Rattle.std.specs.declared.alloc.Global.{Global}
use Rattle.std.specs.contracts.alloc.Global as heap
use Rattle.std.proofs.alloc.Global.TheLaws as heap_laws
use Rattle.std.specs.contracts.impls.GlobalAllocator.TheImpl.{ghosts}
use Rattle.std.proofs.GlobalToken.{dealloc_token-Testable}
use Rattle.std_alloc.specs.Box.Ownership.{box_owns}
use Rattle.cell_hand.specs.contracts.kept.Kept as Held
use Rattle.pcml_cells.specs.Owned.{InHandle, handle_owns}
use Rattle.pcml_cells.specs.contracts.handle.Handle as handle
use Rattle.pcml_cells.specs.contracts.parts.Parts as parts

abbrev pub both : Val → Val → Val
both v w = vstruct (vcons v (vcons w vnil))

abbrev pub Z : RattleType
Z = heap.the_row

abbrev pub R : RattleType
R = Held.the_row

abbrev pub Hd : RattleType
Hd = handle.the_row

abbrev pub Pr : RattleType
Pr = parts.the_row R Z ghosts

abbrev pub al : Al
al = record { row = Z; laws = heap_laws.the_row_laws; g = ghosts; d = impl [] tnil dnil; drops = impl [] tnil dnil }

pub good_at : (b o : ℕ) (h : Val) → Good (layout Z) h → T (has_ty (layout Z) h && true) × WT (both (vptr b o) h)
good_at b o h fits = (and_tt (has_ty (layout Z) h) fits.0, (tt, (fits.1, tt)))

pub good_null : (h : Val) → Good (layout Z) h → T (has_ty (layout Z) h && true) × WT (both (ptr_val null_ptr) h)
good_null h fits = (and_tt (has_ty (layout Z) h) fits.0, (record { fits = lit< tt }, (fits.1, tt)))

module _ {M : Type 1} {𝓤 : Ura M} {𝓛 : Logic 𝓤} {K : Type 0} {Γ : List (Item 𝓤)} {G : Goal 𝓤 𝓛.H} where
  pub handle_out : K → (d : Hd.Denot) (vs : List Val)
      → ((h : Val) → vs ≡ both (ptr_val d.at) h ∷ [] → Good (layout Z) h → Seq K 𝓛 (‵ (handle_owns d.alloc d.at d.kept) ∷ ‵ (Z.own_val d.alloc (h ∷ [])) ∷ Γ) G)
      → Seq K 𝓛 (‵ (Hd.own_val d vs) ∷ Γ) G
  handle_out t d vs k =
      fsplit t $ fpick t (λ vss. fsplit t $ feq_l t (λ ev. fsplit t $ feq_l t (λ ep. fsplit t $ handle_tells al t d.alloc vss.1.0 (λ h ea fits. move t (1 ∷ []) $ drop t $ move t (1 ∷ []) $
      k h (subst (λ (ws : List Val). vs ≡ vstruct (of_list (ptr_val d.at ∷ (ws ++ []))) ∷ []) ea (subst (λ (ps : List Val). vs ≡ vstruct (of_list (ps ++ (vss.1.0 ++ []))) ∷ []) ep ev)) fits))))

  pub handle_in : K → (p : Ptr) (h : Val) (a : Z.Denot) (x : InHandle)
      → Step K 𝓛 (‵ (Hd.own_val (record { at = p; alloc = a; kept = x }) (both (ptr_val p) h ∷ [])) ∷ Γ) G (‵ (handle_owns a p x) ∷ ‵ (Z.own_val a (h ∷ [])) ∷ Γ) G
  handle_in t p h a x = step (λ s. let v : Val = both (ptr_val p) h in
      nothing t $ move t (2 ∷ 0 ∷ []) $ fjoin t $ feq_i t (List Val) (ptr_val p ∷ []) (ptr_val p ∷ []) refl $ fjoin t $ feq_i t (List Val) (v ∷ []) (v ∷ []) refl $ fjoin t $
      fpack t (Valss (RawPtr ∷ Z ∷ [])) (within (shape handle.the_type) (to handle.the_type (record { at = p; alloc = a; kept = x })) (v ∷ [])) (ptr_val p ∷ [], (h ∷ [], tt)) $ fjoin t $ s)

  pub parts_out : K → (d : Pr.Denot) (vs : List Val)
      → ((b o : ℕ) (h : Val) → d.ptr ≡ block_ptr b o → vs ≡ both (vptr b o) h ∷ [] → Good (layout Z) h → Seq K 𝓛 (‵ (box_owns (ghosts.dealloc_token d.alloc) R (block_ptr b o) d.value) ∷ ‵ (Z.own_val d.alloc (h ∷ [])) ∷ Γ) G)
      → Seq K 𝓛 (‵ (Pr.own_val d vs) ∷ Γ) G
  parts_out t d vs k =
      fsplit t $ fpick t (λ vss. fsplit t $ feq_l t (λ ev. fsplit t $ feq_l t (λ ep. fsplit t $ handle_tells al t d.alloc vss.1.0 (λ h ea fits. move t (1 ∷ []) $ drop t $ move t (1 ∷ []) $
      in_a_block t d.ptr (λ p. box_owns (ghosts.dealloc_token d.alloc) R p d.value) (fst∗ 𝓤 (never 𝓤) (sem 𝓛 (ghosts.dealloc_token d.alloc (bare (lone R.mir)) null_ptr))) (λ b o e. k b o h e
      (subst (λ (p : Ptr). vs ≡ vstruct (of_list (ptr_val p ∷ h ∷ [])) ∷ []) e
      (subst (λ (ws : List Val). vs ≡ vstruct (of_list (ptr_val d.ptr ∷ (ws ++ []))) ∷ []) ea (subst (λ (ps : List Val). vs ≡ vstruct (of_list (ps ++ (vss.1.0 ++ []))) ∷ []) ep ev))) fits)))))

  pub parts_in : K → (b o : ℕ) (h : Val) (a : Z.Denot) (y : R.Denot)
      → Step K 𝓛 (‵ (Pr.own_val (record { ptr = block_ptr b o; alloc = a; value = y }) (both (vptr b o) h ∷ [])) ∷ Γ) G (‵ (box_owns (ghosts.dealloc_token a) R (block_ptr b o) y) ∷ ‵ (Z.own_val a (h ∷ [])) ∷ Γ) G
  parts_in t b o h a y = step (λ s. let v : Val = both (vptr b o) h in
      nothing t $ move t (2 ∷ 0 ∷ []) $ fjoin t $ feq_i t (List Val) (vptr b o ∷ []) (vptr b o ∷ []) refl $ fjoin t $ feq_i t (List Val) (v ∷ []) (v ∷ []) refl $ fjoin t $
      fpack t (Valss (RawPtr ∷ Z ∷ [])) (within (shape (parts.the_type R Z ghosts)) (to (parts.the_type R Z ghosts) (record { ptr = block_ptr b o; alloc = a; value = y })) (v ∷ [])) (vptr b o ∷ [], (h ∷ [], tt)) $ fjoin t $ s)

module _ {M : Type 1} {𝓤 : Ura M} (𝓛 : Logic 𝓤) (a : Global) where
  pub tested : (p : Ptr) (x : R.Denot) → ent 𝓤 (sem 𝓛 (box_owns (ghosts.dealloc_token a) R p x)) (guard 𝓤 (Testable p) (sem 𝓛 (box_owns (ghosts.dealloc_token a) R p x)))
  tested p x = let B : SProp 𝓤 = sem 𝓛 (box_owns (ghosts.dealloc_token a) R p x) in fact_use 𝓤 (Testable p) (via 𝓤 _ (snd∗ 𝓤 (sem 𝓛 (lies_at R full_share p x)) (sem 𝓛 (ghosts.dealloc_token a (bare (lone R.mir)) p))) (dealloc_token-Testable 𝓛 a (bare (lone R.mir)) p)) (guard_i 𝓤 (Testable p) B)

module _ {M : Type 1} {𝓤 : Ura M} {𝓛 : Logic 𝓤} {K : Type 0} {Γ : List (Item 𝓤)} {G : Goal 𝓤 𝓛.H} where
  -- a handle is null and keeps nothing, or owns a box
  pub either : K → (a : Z.Denot) (p : Ptr) (x : InHandle) → (p ≡ null_ptr → x ≡ None → Seq K 𝓛 Γ G)
      → ((b o : ℕ) (y : R.Denot) → p ≡ block_ptr b o → x ≡ Some y → Testable (block_ptr b o) → Seq K 𝓛 (‵ (box_owns (ghosts.dealloc_token a) R (block_ptr b o) y) ∷ Γ) G) → Seq K 𝓛 (‵ (handle_owns a p x) ∷ Γ) G
  either t a p None none one = feq_l t (λ e. none e refl)
  either t a p (Some y) none one = in_a_block t p (λ q. box_owns (ghosts.dealloc_token a) R q y) (fst∗ 𝓤 (never 𝓤) (sem 𝓛 (ghosts.dealloc_token a (bare (lone R.mir)) null_ptr))) (λ b o e.
      use1 𝓛 (given (Testable (block_ptr b o)) (‵ (box_owns (ghosts.dealloc_token a) R (block_ptr b o) y))) (tested 𝓛 a (block_ptr b o) y) $ learn t (λ u. one b o y e refl u))

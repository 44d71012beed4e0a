-- The machine values of a `Handle`.
use Rattle.std.proofs.Common.{◌≡◌, ℕ, List, [], ◌∷◌, ◌++◌, refl, subst, lit<}
use mathlib.Core.Bool.{true, ◌&&◌}
use lib.Dec.{T}
use seplogic.Ra.Ura.{Ura}
use mir.Syntax.{impl, tnil, dnil}
use mir.Raw.{raw as bare}
use mir.Val.{Val, vnull, vstruct, of_list, has_ty, WT}
use base.Fraction.{full_share}
use base.Logic.{ent, via, never, fst∗, snd∗, guard, guard_i}
use types.Logic.{Logic, sem}
use types.Kit.{Item, Goal, Seq, Step, step, ‵, ◌$◌, move, drop, fsplit, fjoin, fpick, fpack, feq_i, feq_l}
use contract.Monad.{fact_use}
use denote.RattleType.{RattleType, Valss}
use denote.Builtin.{RawPtr}
use denote.Memory.{lone}
use denote.RawPtr.{Ptr, block_ptr, null_ptr, ptr_val, in_a_block, lies_at, Testable}
use denote.Steps.{nothing}
use denote.Param.{layout}
use denote.Struct.Struct.{within}
use denote.Struct.Owning.{shape, to}
use Rattle.std.specs.Prelude.{Option}
use Rattle.std.specs.declared.option.Option.TheVariants.{Some, None}
use Rattle.std.proofs.alloc.Calls.{Al, handle_tells}
use Rattle.std.proofs.cell.Inside.{Good}
use Rattle.std.proofs.ResultValues.{and_tt}
use Rattle.std.proofs.GlobalToken.{dealloc_token-Testable}
use Rattle.std.specs.Box.Ownership.{box_owns}
use Rattle.std.specs.contracts.alloc.Global as heap
use Rattle.std.proofs.alloc.Global.TheLaws as heap_laws
use Rattle.std.specs.contracts.impls.GlobalAllocator.TheImpl.{ghosts, dict}
use Rattle.std.specs.Global.{Global}
use Rattle.loose_box.proofs.Values.{both}
use Rattle.titan_c.specs.Owned.{the_row as K, handle_owns}
use Rattle.titan_c.specs.contracts.handle.Handle as handle

abbrev pub Z : RattleType
Z = heap.the_row

abbrev pub al : Al
al = record { row = Z; laws = heap_laws.the_row_laws; g = ghosts; d = dict; drops = impl [] tnil dnil }

abbrev pub H : RattleType
H = handle.the_row

pub good_null : (h : Val) → Good (layout Z) h → T (has_ty (layout Z) h && true) × WT (both vnull h)
good_null h fits = (and_tt (has_ty (layout Z) h) fits.0, (record { fits = lit< tt }, (fits.1, tt)))

module _ {M : Type 1} {𝓤 : Ura M} (𝓛 : Logic 𝓤) where
  pub tested : (a : Global) (p : Ptr) (x : K.Denot) → ent 𝓤 (sem 𝓛 (box_owns (ghosts.dealloc_token a) K p x)) (guard 𝓤 (Testable p) (sem 𝓛 (box_owns (ghosts.dealloc_token a) K p x)))
  tested a p x =
      fact_use 𝓤 (Testable p) (via 𝓤 _ (snd∗ 𝓤 (sem 𝓛 (lies_at K full_share p x)) (sem 𝓛 (ghosts.dealloc_token a (bare (lone K.mir)) p))) (dealloc_token-Testable 𝓛 a (bare (lone K.mir)) p))
      (guard_i 𝓤 (Testable p) (sem 𝓛 (box_owns (ghosts.dealloc_token a) K p x)))

module _ {M : Type 1} {𝓤 : Ura M} {𝓛 : Logic 𝓤} {Q : Type 0} {Γ : List (Item 𝓤)} {G : Goal 𝓤 𝓛.H} where
  pub held_out : Q → (d : H.Denot) (vs : List Val)
      → ((h : Val) → vs ≡ both (ptr_val d.at) h ∷ [] → Good (layout Z) h → Seq Q 𝓛 (‵ (handle_owns d.alloc d.at d.kept) ∷ ‵ (Z.own_val d.alloc (h ∷ [])) ∷ Γ) G)
      → Seq Q 𝓛 (‵ (H.own_val d vs) ∷ Γ) G
  held_out t d vs k =
      fsplit t $ fpick t (λ vss. fsplit t $ feq_l t (λ ev. fsplit t $ feq_l t (λ ep. fsplit t $ handle_tells al t d.alloc vss.1.0 (λ h ea fits. move t (1 ∷ []) $ drop t $ move t (1 ∷ []) $
      k h (subst (λ (ws : List Val). vs ≡ vstruct (of_list (ptr_val d.at ∷ (ws ++ []))) ∷ []) ea (subst (λ (ps : List Val). vs ≡ vstruct (of_list (ps ++ (vss.1.0 ++ []))) ∷ []) ep ev)) fits))))

  pub held_in : Q → (p : Ptr) (h : Val) (a : Global) (x : Option K.Denot)
      → Step Q 𝓛 (‵ (H.own_val (record { at = p; alloc = a; kept = x }) (both (ptr_val p) h ∷ [])) ∷ Γ) G (‵ (handle_owns a p x) ∷ ‵ (Z.own_val a (h ∷ [])) ∷ Γ) G
  held_in t p h a x = step (λ s. let v : Val = both (ptr_val p) h in
      nothing t $ move t (2 ∷ 0 ∷ []) $ fjoin t $ feq_i t (List Val) (ptr_val p ∷ []) (ptr_val p ∷ []) refl $ fjoin t $ feq_i t (List Val) (v ∷ []) (v ∷ []) refl $ fjoin t $
      fpack t (Valss (RawPtr ∷ Z ∷ [])) (within (shape handle.the_type) (to handle.the_type (record { at = p; alloc = a; kept = x })) (v ∷ [])) (ptr_val p ∷ [], (h ∷ [], tt)) $ fjoin t $ s)

  pub either_held : Q → (a : Global) (p : Ptr) (x : Option K.Denot) → (x ≡ None → p ≡ null_ptr → Seq Q 𝓛 Γ G)
      → ((b o : ℕ) (y : K.Denot) → x ≡ Some y → p ≡ block_ptr b o → Seq Q 𝓛 (‵ (box_owns (ghosts.dealloc_token a) K (block_ptr b o) y) ∷ Γ) G)
      → Seq Q 𝓛 (‵ (handle_owns a p x) ∷ Γ) G
  either_held t a p None f g = feq_l t (λ e. f refl e)
  either_held t a p (Some y) f g = in_a_block t p (λ q. box_owns (ghosts.dealloc_token a) K q y) (fst∗ 𝓤 (never 𝓤) (sem 𝓛 (ghosts.dealloc_token a (bare (lone K.mir)) null_ptr))) (λ b o e. g b o y refl e)

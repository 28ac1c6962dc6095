-- The machine values of a handle. Assumes `Logic`.
use Rattle.std.proofs.Common.{◌≡◌, ℕ, List, [], ◌∷◌, ◌++◌, refl, ◌∙◌}
use mathlib.Core.Bool.{Bool, true, false}
use Rattle.core.specs.declared.option.Option.{Option}
use Rattle.core.specs.declared.option.Option.TheVariants.{None, Some}
use seplogic.Ra.Ura.{Ura}
use mir.Raw.{raw as bare}
use mir.Val.{Val, vbool, vstruct, of_list}
use base.Logic.{never, never_e, fst∗}
use contract.Monad.{fact}
use types.Logic.{Logic, sem}
use types.Kit.{Item, Goal, Seq, Step, step, ‵, raw, ◌$◌, drop, fsplit, fjoin, fpick, fpack, feq_i, feq_l, use1}
use denote.RattleType.{Valss}
use denote.Builtin.{RawPtr, bool}
use denote.Memory.{lone}
use denote.RawPtr.{Ptr, block_ptr, null_ptr, ptr_val, in_a_block}
use denote.Steps.{nothing, heard}
use denote.Struct.Struct.{within}
use denote.Struct.Owning.{shape}
use Rattle.std_alloc.specs.Box.Ownership.{box_owns}
use Rattle.loose.proofs.Values.{both}
use Rattle.flecsq_c.specs.Held.{Row, token, held}
use Rattle.flecsq_c.specs.contracts.handle.Flecsq as flecsq

module _ {M : Type 1} {𝓤 : Ura M} {𝓛 : Logic 𝓤} {K : Type 0} {Γ : List (Item 𝓤)} {G : Goal 𝓤 𝓛.H} where
  -- a handle is made of what it owns
  pub handle_in : K → (y : Bool) (p : Ptr) (x : Option Row.Denot)
      → Step K 𝓛 (‵ ((flecsq.the_row).own_val (record { at = p; is_open = y; engine = x }) (both (ptr_val p) (vbool y) ∷ [])) ∷ Γ) G (‵ (held y p x) ∷ Γ) G
  handle_in t y p x = step (λ s. let v : Val = both (ptr_val p) (vbool y) in
      nothing t $ feq_i t (List Val) (vbool y ∷ []) (vbool y ∷ []) refl $ fjoin t $ feq_i t (List Val) (ptr_val p ∷ []) (ptr_val p ∷ []) refl $ fjoin t $ feq_i t (List Val) (v ∷ []) (v ∷ []) refl $ fjoin t $
      fpack t (Valss (RawPtr ∷ bool ∷ [])) (within (shape flecsq.the_type) (p, (y, tt)) (v ∷ [])) (ptr_val p ∷ [], (vbool y ∷ [], tt)) $ fjoin t $ s)

  -- and is its machine value with what it owns
  pub handle_out : K → (d : (flecsq.the_row).Denot) (vs : List Val)
      → (vs ≡ both (ptr_val d.at) (vbool d.is_open) ∷ [] → Seq K 𝓛 (‵ (held d.is_open d.at d.engine) ∷ Γ) G)
      → Seq K 𝓛 (‵ ((flecsq.the_row).own_val d vs) ∷ Γ) G
  handle_out t d vs k =
      fsplit t $ fpick t (λ vss. fsplit t $ feq_l t (λ ev. fsplit t $ feq_l t (λ ep. fsplit t $ feq_l t (λ eb. drop t $
      k (ev ∙ (λ i. vstruct (of_list (ep i ++ (eb i ++ []))) ∷ []))))))

  -- it is closed, or it owns what lies in a block
  pub by_open : K → (y : Bool) (p : Ptr) (x : Option Row.Denot) → (y ≡ false → Seq K 𝓛 Γ G)
      → ((b o : ℕ) (d : Row.Denot) → y ≡ true → p ≡ block_ptr b o → x ≡ Some d → Seq K 𝓛 (‵ (box_owns token Row (block_ptr b o) d) ∷ Γ) G)
      → Seq K 𝓛 (‵ (held y p x) ∷ Γ) G
  by_open t true p (Some d) shut open_ = in_a_block t p (λ q. box_owns token Row q d) (fst∗ 𝓤 (never 𝓤) (sem 𝓛 (token (bare (lone Row.mir)) null_ptr))) (λ b o e. open_ b o d refl e refl)
  by_open t true p None shut open_ = use1 𝓛 (raw (fact 𝓤 (true ≡ false))) (never_e 𝓤 _) $ heard t (true ≡ false) shut
  by_open t false p x shut open_ = drop t $ shut refl

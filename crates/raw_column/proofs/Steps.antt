-- What the walks of the raw layer share. Assumes `Logic`.
--     base_val, base_vals, base_Tells, base_Good      the one machine value of a `Base`
--     none_val, none_told, none_made      of a struct with no field; mark_val ..      of one whose field takes no space
--     three_val, three_of, two_val, two_of      a tuple is made of its parts
--     shared_take, shared_drop      a part of bytes that are shared is shared
--     own_out, own_in      the bytes at a pointer, one by one
--     run_out, run_in      a run of the bytes is taken out, and put back
--     filling_start, filling_out, filling_in      a block that is filled from its front: empty, before a byte, after it
--     filling_begun      a block whose bytes count as written up to some place
--     filling_block, block_filling      such a block, with the right to free it, as an allocator takes it at a growth, and gives it back
use Rattle.std.proofs.Common.{◌≡◌, ℕ, zero, suc, ◌+◌, ◌-◌, ◌*◌, ◌≤◌, ◌<◌, ◌^◌, w8, List, [], ◌∷◌, ◌++◌, take, take-append-drop, length, length-append, length-take-le, length-drop, refl, sym, ap, ◌∙◌, arith, lit<}
use lib.Seq.{drop-drop}
use base.Fraction.{full_share}
use base.Logic.{sep, emp}
use base.Fml.{Fml, fsep, feq}
use types.Kit.{fpack, ‵, ◌⊛◌, ◌$◌, ◌∵◌, !, qed, by, move, drop as skip, use1, use2, split, fsplit, fjoin, feq_i, flt_i, rewrite, done}
use types.SemTy.{cells}
use denote.Array.{Array}
use denote.Memory.{mem, part_at}
use denote.RawPtr.Bytes.{bytes, bytes_cut, bytes_glue, bytes_apart, bytes_whole, bytes-room}
use lib.ListN.{drop as drop_l}
use lib.Dec.{T}
use seplogic.Ra.Ura.{Ura}
use mir.Syntax.{Ty, ty_int}
use base.Fml.{froom}
use Rattle.core.specs.Allocator.{block_with_items}
use Rattle.raw_column.specs.Ownership.{bytes_type, past, filling_owns}
use mir.Val.{Val, vstruct, vcons, vnil, of_list, has_ty, WT}
use base.Logic.{ent, via, id⊢, snd∗, mono_r}
use base.Fml.{Lft}
use contract.Conj.{top}
use types.Logic.{Logic, sem}
use denote.Builtin.{u8}
use denote.Laws.{Is, Tells}
use denote.Memory.{shared_of}
use denote.Param.{layout, param}
use denote.RattleType.{RattleType, Valss}
use denote.Steps.{nothing}
use denote.Struct.Declared as Declared
use denote.Struct.Tuple.{Tuple, tuple_type}
use denote.Shadow.{shadow, makes_shadow}
use denote.Struct.Struct.{Struct, within}
use denote.RawPtr.{Ptr, RawPtr, block_ptr, null_ptr, ptr_val, lies_at, room_for}
use denote.Slice.{elements_shared}
use Rattle.raw_column.specs.contracts.memory.Base as B-type

abbrev pub Bs : RattleType
Bs = B-type.the_row

abbrev pub base_val : Ptr → Val
base_val p = vstruct (vcons (ptr_val p) vnil)

abbrev pub base_vals : Bs.Denot → List Val
base_vals x = base_val x.ptr ∷ []

pub base_Tells : Tells Bs (Is Bs) base_vals
base_Tells = λ x vs s. s.1.0 ∙ (λ i. vstruct (of_list (s.1.1.0 i ++ [])) ∷ [])

pub base_Good : (p : Ptr) → T (has_ty (layout Bs) (base_val p)) × WT (base_val p)
base_Good (block_ptr b o) = (tt, (tt, tt))
base_Good null_ptr = (tt, (record { fits = lit< tt }, tt))

-- a struct by its fields alone: what it owns does not read its name
abbrev plainly : List RattleType → RattleType
plainly Rs = Struct (record { name = []; args = []; types = []; fields = Rs })

abbrev pub none_val : Val
none_val = vstruct vnil

abbrev pub none_own : List Val → Fml
none_own = (plainly []).own_val tt

pub none_told : (vs : List Val) → shadow (none_own vs) → vs ≡ none_val ∷ []
none_told vs s = s.1.0

abbrev pub mark_val : Val
mark_val = vstruct (vcons (vstruct vnil) vnil)

abbrev pub mark_own : List Val → Fml
mark_own = (plainly (plainly [] ∷ [])).own_val (tt, tt)

pub mark_told : (vs : List Val) → shadow (mark_own vs) → vs ≡ mark_val ∷ []
mark_told vs s = s.1.0 ∙ (λ i. vstruct (of_list (s.1.1.0.1.0 i ++ [])) ∷ [])

module _ {M : Type 1} {𝓤 : Ura M} (𝓛 : Logic 𝓤) where
  pub base_made : (p : Ptr) → ent 𝓤 (emp 𝓤) (sem 𝓛 ((plainly (RawPtr ∷ [])).own_val (p, tt) (base_val p ∷ [])))
  base_made p = makes_shadow 𝓛 ((plainly (RawPtr ∷ [])).own_val (p, tt) (base_val p ∷ [])) (λ _. (tt, (tt, tt))) ((ptr_val p ∷ [], tt), (refl, (refl, tt)))

  pub none_made : ent 𝓤 (emp 𝓤) (sem 𝓛 (none_own (none_val ∷ [])))
  none_made = makes_shadow 𝓛 (none_own (none_val ∷ [])) (λ _. (tt, tt)) (tt, (refl, tt))

  pub mark_made : ent 𝓤 (emp 𝓤) (sem 𝓛 (mark_own (mark_val ∷ [])))
  mark_made = makes_shadow 𝓛 (mark_own (mark_val ∷ [])) (λ _. (tt, ((λ _. (tt, tt)), tt))) ((vstruct vnil ∷ [], tt), (refl, ((tt, (refl, tt)), tt)))

abbrev pub three_val : Val → Val → Val → Val
three_val u v w = vstruct (vcons u (vcons v (vcons w vnil)))

pub three_of : {M : Type 1} {𝓤 : Ura M} (𝓛 : Logic 𝓤) (R S T : RattleType) (x : R.Denot) (y : S.Denot) (z : T.Denot) (u v w : Val)
    → ent 𝓤 (sep 𝓤 (sem 𝓛 (R.own_val x (u ∷ []))) (sep 𝓤 (sem 𝓛 (S.own_val y (v ∷ []))) (sem 𝓛 (T.own_val z (w ∷ []))))) (sem 𝓛 ((Tuple (R ∷ S ∷ T ∷ [])).own_val (x, y, z) (three_val u v w ∷ [])))
three_of 𝓛 R S T x y z u v w =
    qed 𝓛 (‵ (R.own_val x (u ∷ [])) ∷ ‵ (S.own_val y (v ∷ [])) ∷ ‵ (T.own_val z (w ∷ [])) ∷ []) ∵ nothing ! $ move ! (3 ∷ 0 ∷ []) $ fjoin ! $ move ! (2 ∷ 0 ∷ []) $ fjoin ! $ move ! (1 ∷ 0 ∷ []) $ fjoin ! $
    feq_i ! (List Val) (three_val u v w ∷ []) (three_val u v w ∷ []) refl $ fjoin ! $
    fpack ! (Valss (R ∷ S ∷ T ∷ [])) (within (Declared.shape (tuple_type (R ∷ S ∷ T ∷ []))) (x, (y, (z, tt))) (three_val u v w ∷ [])) (u ∷ [], (v ∷ [], (w ∷ [], tt))) $ done !

abbrev pub two_val : Val → Val → Val
two_val v w = vstruct (vcons v (vcons w vnil))

pub two_of : {M : Type 1} {𝓤 : Ura M} (𝓛 : Logic 𝓤) (S T : RattleType) (y : S.Denot) (z : T.Denot) (v w : Val)
    → ent 𝓤 (sep 𝓤 (sem 𝓛 (S.own_val y (v ∷ []))) (sem 𝓛 (T.own_val z (w ∷ [])))) (sem 𝓛 ((Tuple (S ∷ T ∷ [])).own_val (y, z) (two_val v w ∷ [])))
two_of 𝓛 S T y z v w =
    qed 𝓛 (‵ (S.own_val y (v ∷ [])) ∷ ‵ (T.own_val z (w ∷ [])) ∷ []) ∵ nothing ! $ move ! (2 ∷ 0 ∷ []) $ fjoin ! $ move ! (1 ∷ 0 ∷ []) $ fjoin ! $
    feq_i ! (List Val) (two_val v w ∷ []) (two_val v w ∷ []) refl $ fjoin ! $
    fpack ! (Valss (S ∷ T ∷ [])) (within (Declared.shape (tuple_type (S ∷ T ∷ []))) (y, (z, tt)) (two_val v w ∷ [])) (v ∷ [], (w ∷ [], tt)) $ done !

module _ {M : Type 1} {𝓤 : Ura M} (𝓛 : Logic 𝓤) (b : ℕ) (κ : Lft) where
  pub shared_take : (n : ℕ) (xs : List ℕ) (o : ℕ) → ent 𝓤 (sem 𝓛 (elements_shared u8 xs b o κ)) (sem 𝓛 (elements_shared u8 (take n xs) b o κ))
  shared_take zero xs o = top 𝓤 _
  shared_take (suc n) [] o = top 𝓤 _
  shared_take (suc n) (x ∷ xs) o = mono_r 𝓤 (sem 𝓛 (shared_of u8 x b o κ)) (shared_take n xs (o + 1))

  pub shared_drop : (n : ℕ) (xs : List ℕ) (o p : ℕ) → p ≡ n + o → ent 𝓤 (sem 𝓛 (elements_shared u8 xs b o κ)) (sem 𝓛 (elements_shared u8 (drop_l n xs) b p κ))
  shared_drop zero xs o p e = let same : p ≡ o = omega arith in rw same (id⊢ 𝓤 _)
  shared_drop (suc n) [] o p e = top 𝓤 _
  shared_drop (suc n) (x ∷ xs) o p e = via 𝓤 _ (snd∗ 𝓤 (sem 𝓛 (shared_of u8 x b o κ)) _) (shared_drop n xs (o + 1) p (omega arith))

module _ {M : Type 1} {𝓤 : Ura M} (𝓛 : Logic 𝓤) (b : ℕ) where
  pub own_out : (xs : List ℕ) (o : ℕ) → ent 𝓤 (sem 𝓛 (part_at (Array u8 (length xs)) full_share xs b o)) (sem 𝓛 (bytes full_share xs b o))
  own_out xs o = qed 𝓛 (‵ (part_at (Array u8 (length xs)) full_share xs b o) ∷ []) ∵
      use1 𝓛 (‵ (fsep (feq ℕ (length xs) (length xs)) (bytes full_share xs b o))) (bytes_apart 𝓛 full_share (length xs) xs b o) $ fsplit ! $ skip ! $ done !

  pub own_in : (xs : List ℕ) (o : ℕ) → ent 𝓤 (sem 𝓛 (bytes full_share xs b o)) (sem 𝓛 (part_at (Array u8 (length xs)) full_share xs b o))
  own_in xs o = qed 𝓛 (‵ (bytes full_share xs b o) ∷ []) ∵ feq_i ! ℕ (length xs) (length xs) refl $ fjoin ! $ by ! (bytes_whole 𝓛 full_share (length xs) xs b o)

  to_cells : (xs : List ℕ) (o : ℕ) → ent 𝓤 (sem 𝓛 (bytes full_share xs b o)) (sem 𝓛 (cells (mem u8) xs b o))
  to_cells [] o = id⊢ 𝓤 (emp 𝓤)
  to_cells (x ∷ xs) o = mono_r 𝓤 (sem 𝓛 (part_at u8 full_share x b o)) (to_cells xs (o + 1))

  of_cells : (xs : List ℕ) (o : ℕ) → ent 𝓤 (sem 𝓛 (cells (mem u8) xs b o)) (sem 𝓛 (bytes full_share xs b o))
  of_cells [] o = id⊢ 𝓤 (emp 𝓤)
  of_cells (x ∷ xs) o = mono_r 𝓤 (sem 𝓛 (part_at u8 full_share x b o)) (of_cells xs (o + 1))

  module _ (o : ℕ) (xs : List ℕ) (i n : ℕ) where
    -- the bytes but for the n from the i-th on
    abbrev pub Around : Fml
    Around = fsep (bytes full_share (take i xs) b o) (bytes full_share (drop_l (i + n) xs) b (n + (i + o)))

    pub run_out : i + n ≤ length xs → ent 𝓤 (sem 𝓛 (bytes full_share xs b o)) (sep 𝓤 (sem 𝓛 (cells (mem u8) (take n (drop_l i xs)) b (i + o))) (sem 𝓛 Around))
    run_out le =
        let run = take n (drop_l i xs) in let rest = drop_l (i + n) xs in
        let first : length (take i xs) ≡ i = length-take-le i xs (omega arith) in
        let second : length run ≡ n = length-take-le n (drop_l i xs) (omega (arith, length-drop i xs)) in
        let e1 : o + length (take i xs) ≡ i + o = omega arith in
        let e2 : (i + o) + length run ≡ n + (i + o) = omega arith in
        qed 𝓛 (‵ (bytes full_share xs b o) ∷ []) ∵
        rewrite ! 0 (λ (l : List ℕ). ‵ (bytes full_share l b o)) (sym (take-append-drop i xs) ∙ ap (λ l. take i xs ++ l) (sym (take-append-drop n (drop_l i xs)) ∙ ap (λ l. run ++ l) (drop-drop n i xs))) refl $
        use1 𝓛 (‵ (bytes full_share (take i xs) b o) ⊛ ‵ (bytes full_share (run ++ rest) b (o + length (take i xs)))) (bytes_cut 𝓛 full_share (take i xs) (run ++ rest) b o) $ split ! $ move ! (1 ∷ []) $
        rewrite ! 0 (λ (k : ℕ). ‵ (bytes full_share (run ++ rest) b k)) e1 refl $
        use1 𝓛 (‵ (bytes full_share run b (i + o)) ⊛ ‵ (bytes full_share rest b ((i + o) + length run))) (bytes_cut 𝓛 full_share run rest b (i + o)) $ split ! $
        use1 𝓛 (‵ (cells (mem u8) run b (i + o))) (to_cells run (i + o)) $ move ! (1 ∷ []) $
        rewrite ! 0 (λ (k : ℕ). ‵ (bytes full_share rest b k)) e2 refl $ move ! (2 ∷ 0 ∷ []) $ fjoin ! $ move ! (1 ∷ []) $ done !

    pub run_in : i + n ≤ length xs → (ws : List ℕ) → length ws ≡ n
        → ent 𝓤 (sep 𝓤 (sem 𝓛 (cells (mem u8) ws b (i + o))) (sem 𝓛 Around)) (sem 𝓛 (bytes full_share (take i xs ++ (ws ++ drop_l (i + n) xs)) b o))
    run_in le ws same =
        let rest = drop_l (i + n) xs in
        let first : length (take i xs) ≡ i = length-take-le i xs (omega arith) in
        let e1 : i + o ≡ o + length (take i xs) = omega arith in
        let e2 : n + (i + o) ≡ (i + o) + length ws = omega arith in
        qed 𝓛 (‵ (cells (mem u8) ws b (i + o)) ∷ ‵ Around ∷ []) ∵ use1 𝓛 (‵ (bytes full_share ws b (i + o))) (of_cells ws (i + o)) $ move ! (1 ∷ []) $ fsplit ! $ move ! (1 ∷ []) $
        rewrite ! 0 (λ (k : ℕ). ‵ (bytes full_share rest b k)) e2 refl $ move ! (2 ∷ 0 ∷ []) $
        use2 𝓛 (‵ (bytes full_share (ws ++ rest) b (i + o))) (bytes_glue 𝓛 full_share ws rest b (i + o)) $
        rewrite ! 0 (λ (k : ℕ). ‵ (bytes full_share (ws ++ rest) b k)) e1 refl $ move ! (1 ∷ 0 ∷ []) $ by ! (bytes_glue 𝓛 full_share (take i xs) (ws ++ rest) b o)

-- of a block at (b, o) the first bytes are xs, and the n after them hold no value yet
module _ {M : Type 1} {𝓤 : Ura M} (𝓛 : Logic 𝓤) (b o : ℕ) where
  pub filling_start : (n : ℕ) → n < 2 ^ 63 → ent 𝓤 (sem 𝓛 (froom (bytes_type n) b o)) (sem 𝓛 (filling_owns (block_ptr b o) [] n))
  filling_start n small =
      let e : o ≡ 0 + o = omega arith in
      qed 𝓛 (‵ (froom (bytes_type n) b o) ∷ []) ∵ rewrite ! 0 (λ (k : ℕ). ‵ (froom (bytes_type n) b k)) e refl $
      nothing ! $ use1 𝓛 (‵ (part_at (Array u8 0) full_share [] b o)) (own_in 𝓛 b [] o) $ fjoin ! $ flt_i ! (0 + n) (2 ^ 63) (omega arith) $ fjoin ! $ done !

  -- all but the next place
  abbrev pub Beside : List ℕ → ℕ → Fml
  Beside xs m = fsep (bytes full_share xs b o) (froom (bytes_type m) b (suc (length xs) + o))

  pub filling_out : (xs : List ℕ) (n m : ℕ) → n ≡ suc m
      → ent 𝓤 (sem 𝓛 (fsep (lies_at (Array u8 (length xs)) full_share (block_ptr b o) xs) (room_for (bytes_type n) (past (block_ptr b o) (length xs))))) (sep 𝓤 (sem 𝓛 (froom (ty_int w8) b (length xs + o))) (sem 𝓛 (Beside xs m)))
  filling_out xs n m more =
      let e : length xs + o + 1 ≡ suc (length xs) + o = omega arith in
      qed 𝓛 (‵ (fsep (part_at (Array u8 (length xs)) full_share xs b o) (froom (bytes_type n) b (length xs + o))) ∷ []) ∵ fsplit ! $
      use1 𝓛 (‵ (bytes full_share xs b o)) (own_out 𝓛 b xs o) $ move ! (1 ∷ []) $
      rewrite ! 0 (λ (k : ℕ). ‵ (froom (bytes_type k) b (length xs + o))) more refl $
      use1 𝓛 (‵ (froom (ty_int w8) b (length xs + o)) ⊛ ‵ (froom (bytes_type m) b (length xs + o + 1))) (𝓛.laws.room_uncons (ty_int w8) m b (length xs + o)) $ split ! $
      move ! (1 ∷ []) $ rewrite ! 0 (λ (k : ℕ). ‵ (froom (bytes_type m) b k)) e refl $ move ! (2 ∷ 0 ∷ []) $ fjoin ! $ move ! (1 ∷ []) $ done !

  pub filling_in : (xs : List ℕ) (x m : ℕ) → length xs + suc m < 2 ^ 63
      → ent 𝓤 (sep 𝓤 (sem 𝓛 (part_at u8 full_share x b (length xs + o))) (sem 𝓛 (Beside xs m))) (sem 𝓛 (filling_owns (block_ptr b o) (xs ++ x ∷ []) m))
  filling_in xs x m small =
      let ys = xs ++ x ∷ [] in let one : List ℕ = x ∷ [] in let long : length ys ≡ suc (length xs) = omega (arith, length-append xs one) in
      let e1 : length xs + o ≡ o + length xs = omega arith in let e2 : suc (length xs) + o ≡ length ys + o = omega (arith, long) in
      qed 𝓛 (‵ (part_at u8 full_share x b (length xs + o)) ∷ ‵ (Beside xs m) ∷ []) ∵ move ! (1 ∷ []) $ fsplit ! $ move ! (2 ∷ []) $ nothing ! $ move ! (1 ∷ 0 ∷ []) $ fjoin ! $
      use1 𝓛 (‵ (bytes full_share one b (length xs + o))) (id⊢ 𝓤 _) $ rewrite ! 0 (λ (k : ℕ). ‵ (bytes full_share one b k)) e1 refl $ move ! (1 ∷ 0 ∷ []) $
      use2 𝓛 (‵ (bytes full_share ys b o)) (bytes_glue 𝓛 full_share xs one b o) $ use1 𝓛 (‵ (part_at (Array u8 (length ys)) full_share ys b o)) (own_in 𝓛 b ys o) $
      move ! (1 ∷ []) $ rewrite ! 0 (λ (k : ℕ). ‵ (froom (bytes_type m) b k)) e2 refl $ move ! (1 ∷ 0 ∷ []) $ fjoin ! $ flt_i ! (length ys + m) (2 ^ 63) (omega (arith, long)) $ fjoin ! $ done !

  pub filling_begun : (xs : List ℕ) (k : ℕ) → k ≤ length xs → length xs < 2 ^ 63
      → ent 𝓤 (sem 𝓛 (lies_at (Array u8 (length xs)) full_share (block_ptr b o) xs)) (sem 𝓛 (filling_owns (block_ptr b o) (take k xs) (length xs - k)))
  filling_begun xs k le small =
      let ys = take k xs in let zs = drop_l k xs in let n : ℕ = length xs - k in let long : length ys ≡ k = length-take-le k xs le in
      let e : o + length ys ≡ length ys + o = omega arith in
      qed 𝓛 (‵ (part_at (Array u8 (length xs)) full_share xs b o) ∷ []) ∵ use1 𝓛 (‵ (bytes full_share xs b o)) (own_out 𝓛 b xs o) $
      rewrite ! 0 (λ (l : List ℕ). ‵ (bytes full_share l b o)) (sym (take-append-drop k xs)) refl $
      use1 𝓛 (‵ (bytes full_share ys b o) ⊛ ‵ (bytes full_share zs b (o + length ys))) (bytes_cut 𝓛 full_share ys zs b o) $ split ! $
      use1 𝓛 (‵ (part_at (Array u8 (length ys)) full_share ys b o)) (own_in 𝓛 b ys o) $ move ! (1 ∷ []) $
      use1 𝓛 (‵ (froom (bytes_type (length zs)) b (o + length ys))) (bytes-room 𝓛 zs b (o + length ys)) $
      rewrite ! 0 (λ (j : ℕ). ‵ (froom (bytes_type j) b (o + length ys))) (length-drop k xs) refl $ rewrite ! 0 (λ (j : ℕ). ‵ (froom (bytes_type n) b j)) e refl $
      move ! (1 ∷ 0 ∷ []) $ fjoin ! $ flt_i ! (length ys + n) (2 ^ 63) (omega (arith, long)) $ fjoin ! $ done !

  module _ (holds : Ty → Ptr → Fml) (xs : List ℕ) (k len : ℕ) (long : length xs ≡ k) where
    pub filling_block : (n : ℕ) → k + n ≡ len
        → ent 𝓤 (sep 𝓤 (sem 𝓛 (filling_owns (block_ptr b o) xs n)) (sem 𝓛 (holds (bytes_type len) (block_ptr b o)))) (sem 𝓛 (block_with_items holds (param 1 u8) (block_ptr b o) k len xs))
    filling_block n all =
        let rest : n ≡ len - k = omega arith in let e : length xs + o ≡ o + k * 1 = omega (arith, long) in
        qed 𝓛 (‵ (filling_owns (block_ptr b o) xs n) ∷ ‵ (holds (bytes_type len) (block_ptr b o)) ∷ []) ∵ fsplit ! $ skip ! $ fsplit ! $
        rewrite ! 0 (λ (j : ℕ). ‵ (part_at (Array u8 j) full_share xs b o)) long refl $ move ! (1 ∷ []) $
        rewrite ! 0 (λ (j : ℕ). ‵ (froom (bytes_type j) b (length xs + o))) rest refl $ rewrite ! 0 (λ (j : ℕ). ‵ (froom (bytes_type (len - k)) b j)) e refl $
        move ! (0 ∷ 2 ∷ []) $ fjoin ! $ move ! (1 ∷ 0 ∷ []) $ fjoin ! $ done !

    pub block_filling : k ≤ len → len < 2 ^ 63
        → ent 𝓤 (sem 𝓛 (block_with_items holds (param 1 u8) (block_ptr b o) k len xs)) (sep 𝓤 (sem 𝓛 (filling_owns (block_ptr b o) xs (len - k))) (sem 𝓛 (holds (bytes_type len) (block_ptr b o))))
    block_filling le small =
        let n : ℕ = len - k in let e : o + k * 1 ≡ length xs + o = omega (arith, long) in
        qed 𝓛 (‵ (block_with_items holds (param 1 u8) (block_ptr b o) k len xs) ∷ []) ∵ fsplit ! $
        rewrite ! 0 (λ (j : ℕ). ‵ (part_at (Array u8 j) full_share xs b o)) (sym long) refl $ move ! (1 ∷ []) $ fsplit ! $
        rewrite ! 0 (λ (j : ℕ). ‵ (froom (bytes_type n) b j)) e refl $ move ! (2 ∷ 0 ∷ []) $ fjoin ! $
        flt_i ! (length xs + n) (2 ^ 63) (omega (arith, long)) $ fjoin ! $ done !

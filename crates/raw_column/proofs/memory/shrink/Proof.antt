-- `shrink` asks the allocator for the block at another size, and keeps what comes back. Assumes `Logic`.
use Rattle.std.proofs.Common.{true, false, ◌≡◌, ℕ, ◌+◌, ◌-◌, ◌≤◌, ◌<◌, ◌^◌, [], ◌∷◌, length, refl, sym, subst, ◌∙◌, arith, lit<, w64, MatchResult, Ok, Err}
use Rattle.std.proofs.raw_atomic.Walks.{proved}
use lib.Dec.{T}
use base.Fraction.{full_share}
use base.Logic.{ex, never, via, snd∗}
use base.Fml.{Fml, ftrue, flt, flft, Incl-trans}
use mir.Syntax.{Ty, Fn, Args, Body, a_type, dcons, dnil, named}
use mir.MapTy.{inst_fn}
use mir.Val.{Val, vptr, vint, vcons, vnil, has_ty, WT}
use prog.Wp.{Wp, WpFn, after_seq, at_return}
use contract.BorrowLft.{◌⊑◌, ⊑_refl}
use contract.Monad.{fact}
use contract.Running.{tables}
use types.Logic.{sem}
use types.Kit.{Post as After, any_q, Sq, prop, ‵, raw, ◌⊛◌, later, at_ret, ◌$◌, ◌∵◌, !, qed, await, move, drop, use0, use1, use2, use3, split, split3, join, fsplit, fjoin, rewrite, regoal, suffices, frame, done}
use types.Match.{live, vrt, in_variant}
use types.Part.{whole, agg, sub}
use types.Run.{enter, stop, fld, of_opd, lit, and_then, no_more, first, blocks, switches_on, exec, returns}
use types.ByLocal.{alloc_all, pass_all, free_all, look_at, get, get_in, get_tag, is, sets, sets_last, lands_last, env}
use denote.Exit.{yes, no}
use denote.Builtin.{u8, usize, RefOf}
use denote.Param.{layout, param, bounded}
use denote.Param.Laws.{Laws, of_field}
use denote.Param.Shared.{copy_shared}
use denote.Plain.{uint_vals, uint_Tells}
use denote.RattleType.{RattleType, owns}
use denote.RawPtr.{Ptr, block_ptr, in_a_block}
use denote.Ref.{shr_vals, shr_Tells}
use denote.Signature.{plain, types_at}
use denote.Steps.{nothing, heard}
use denote.Struct.Field.{u8-field}
use denote.Struct.Laws.{u8-laws, u8-copy}
use denote.Struct.Tuple.{Tuple}
use denote.Triple.Call.{calls_at_last}
use denote.Triple.Walked.{Stays, walk_of, says, stay_dropped, Goes-dropped, ends_at}
use Rattle.core.specs.Allocator.{block_with_items, resized_if_ok}
use Rattle.core.specs.contracts.result.Result as RS
use Rattle.core.proofs.alloc.Calls.{Al, Answer, Answer-typed, Goes-blank, token}
use Rattle.core.proofs.alloc.Resizes.{Shrinks, Resizes, Resized, Resizes-goes, Resizes-gives, at_resizes, flagged}
use Rattle.core.proofs.alloc.Shapes.{after, head, arm_body}
use Rattle.core.proofs.atomic.Steps.{fm}
use Rattle.std_alloc.proofs.ResultValues.{ok_of, err_of}
use Rattle.raw_column.proofs.Steps.{Bs, base_val, base_vals, base_Tells, base_Good, base_made, none_val, none_told, none_own, none_made, mark_val, mark_told, mark_own, mark_made, three_val, three_of, two_val, two_of, filling_block, block_filling}
use Rattle.raw_column.specs.Ownership.{bytes_type, deed_owns, filling_owns}
use Rattle.raw_column.specs.contracts.memory.Filling as F
use Rattle.raw_column.specs.contracts.memory.Deed as D
use Rattle.raw_column.specs.contracts.memory.shrink as f
use Rattle.raw_column.proofs.memory.shrink.Statement.{statement}
use Rattle.raw_column.proofs.memory.shrink.Code as code

byte_laws : Laws u8
byte_laws = of_field u8-field u8-laws refl (copy_shared u8-field u8-copy)

pub shrink_spec : {M : Type 1} → statement M
shrink_spec 𝓤 𝓛 𝓜 𝓡 wired A L g d dd met md =
    let c = f.clauses A g d dd 𝓛 𝓜.mem 𝓡.returns in let H = 𝓛.H in let 𝓣 = tables 𝓤 H 𝓜 𝓡 𝓡.env in let En = f.ended A g d dd in
    let args : Args = bounded (a_type ∷ []) (A, tt) (dcons d (dcons dd dnil)) in let fn : Fn = inst_fn args code.function in
    let Y : Al = record { row = A; laws = L; g = g; d = d; drops = dd } in let Z : RattleType = param 0 A in
    let heap = RefOf (0 ∷ []) tt (plain (λ _. Z)) (λ _. tt) in let Dd : RattleType = D.the_row Z g in let word = plain (λ _. usize) in
    let Three : RattleType = Tuple (Bs ∷ F.the_row ∷ Dd ∷ []) in let Two : RattleType = Tuple (F.the_row ∷ Dd ∷ []) in let Out : RattleType = RS.the_row Three Two in
    let hs : Stays En.signature.params En.kept = (stay_dropped heap yes, (stay_dropped (plain (λ _. Bs)) yes, (stay_dropped (plain (λ _. F.the_row)) yes, (stay_dropped (plain (λ _. Dd)) no, (stay_dropped word yes, (stay_dropped word yes, (stay_dropped word yes, tt))))))) in
    let W = walk_of 𝓛 En hs c in let gone = Goes-dropped 𝓛 2 word yes (λ κs x f. refl) in
    proved 𝓛 En hs c 𝓜 𝓡 (Goes-dropped 𝓛 2 heap yes (λ κs x f. refl), (Goes-dropped 𝓛 2 (plain (λ _. Bs)) yes (λ κs x f. refl), (Goes-blank 𝓛 2 (plain (λ _. F.the_row)) yes (λ κs x f. tt), (Goes-blank 𝓛 2 (plain (λ _. Dd)) no (λ κs x f. tt), (gone, (gone, (gone, tt)))))))
    (f.Key.name args) fn (code.unfolded 𝓤 H 𝓜 𝓡 wired (A, tt) d dd)
    (λ κs. (shr_vals, (base_vals, ((λ _. none_val ∷ []), ((λ _. mark_val ∷ []), (uint_vals w64, (uint_vals w64, (uint_vals w64, tt)))))))) (λ κs. (shr_Tells (named 0) κs.0 Z, (base_Tells, ((λ x vs s. none_told vs s.0), ((λ x vs s. mark_told vs s.0), (uint_Tells w64, (uint_Tells w64, (uint_Tells w64, tt)))))))) (λ κs qs bounds a gh are.
    let κ = κs.0 in let q = qs.0 in let at = a.0.ref_ptr in let h = a.0.now in let base = a.1.0 in let fl = a.1.1.0 in let deed = a.1.1.1.0 in let k = a.1.1.1.1.0 in let len = a.1.1.1.1.1.0 in let to = a.1.1.1.1.1.1.0 in
    let fits0 = are.1.1.1.1.0.1 in let fits1 = are.1.1.1.1.1.0.1 in let fits2 = are.1.1.1.1.1.1.0.1 in let xs = fl.items in let n = fl.spare in
    let y : W.Ghost = ((κs, qs, bounds, a, (shr_vals a.0, (base_vals base, (none_val ∷ [], (mark_val ∷ [], (uint_vals w64 k, (uint_vals w64 len, (uint_vals w64 to, tt)))))))), gh) in let Post = W.post y in
    let Asks : Type 0 = (fl.at ≡ base.ptr) × (length xs ≡ k) × (k + n ≡ len) × (deed.at ≡ base.ptr) × (deed.len ≡ len) × (deed.alloc ≡ h) in
    let Smaller : Type 0 = (k ≤ to) × (to ≤ len) × (len < 2 ^ 63) in
    let others = (‵ (flft κs.1.0 qs.1.0) ⊛ ‵ ftrue) in let holds : Ty → Ptr → Fml = token Y h in
    let Told : Out.Denot → Type 0 = λ r. MatchResult r (λ r. (r.1.at ≡ r.0.ptr) × (r.1.items ≡ xs) × (k + r.1.spare ≡ to) × (r.2.at ≡ r.0.ptr) × (r.2.len ≡ to) × (r.2.alloc ≡ h)) (λ r. (r.0 ≡ fl) × (r.1 ≡ deed)) in
    let exits : (v : Val) (r : Out.Denot) → Told r → Sq 𝓛 (‵ (Out.own_val r (v ∷ [])) ∷ ‵ (flft κ q) ∷ others ∷ []) (prop (Post v)) = λ v r told.
    suffices ! _ (ends_at 𝓛 En hs c y v r (tt, (tt, (tt, (tt, (tt, (tt, (tt, tt))))))) (tt, (tt, (tt, (tt, (tt, (tt, (tt, tt)))))))) $ says ! told $
    move ! (1 ∷ 2 ∷ []) $ join ! $ frame ! $ nothing ! $ nothing ! $ fjoin ! $ nothing ! $ fjoin ! $ nothing ! $ fjoin ! $ nothing ! $ fjoin ! $ nothing ! $ fjoin ! $ nothing ! $ fjoin ! $ nothing ! $ fjoin ! $ done ! in
    qed 𝓛 (((‵ (flft κ q) ⊛ others) ⊛ ‵ (owns (types_at En.signature.params κs) a y.0.4)) ∷ (raw (fact 𝓤 (κs.1.0 ⊑ A.lives)) ⊛ raw (fact 𝓤 Asks) ⊛ raw (fact 𝓤 Smaller)) ∷ []) ∵
    move ! (1 ∷ []) $ split ! $ heard ! (κs.1.0 ⊑ A.lives) (λ le. split ! $ heard ! Asks (λ asks. heard ! Smaller (λ size. split ! $ split ! $ move ! (2 ∷ []) $
    fsplit ! $ fsplit ! $ drop ! $ move ! (1 ∷ []) $ fsplit ! $ drop ! $ fsplit ! $ fsplit ! $ drop ! $ move ! (1 ∷ []) $ fsplit ! $ fsplit ! $ drop ! $ move ! (1 ∷ []) $ drop ! $ move ! (1 ∷ []) $
    -- [the block; the right to free it; the `&`; its token; the other tokens]
    in_a_block ! fl.at (λ p. filling_owns p xs n) (via 𝓤 _ (snd∗ 𝓤 (sem 𝓛 (flt (length xs + n) (2 ^ 63))) _) (snd∗ 𝓤 (never 𝓤) (never 𝓤))) (λ b o e.
    let p : Ptr = block_ptr b o in let here : deed.at ≡ p = asks.3 ∙ sym asks.0 ∙ e in let most : k ≤ len = omega (arith, asks.2) in
    let C = Resizes Y u8 (Shrinks u8) 𝓛 𝓜.mem 𝓡.returns in let t = at_resizes Y u8 (Shrinks u8) 𝓛 𝓜.mem 𝓡.returns κ [] q full_share at h b o k len to xs in
    rewrite ! 1 (λ (u : A.Denot × Ptr × ℕ). ‵ (deed_owns (g.dealloc_token u.0) u.1 u.2)) (λ i. (asks.5 i, here i, asks.4 i)) refl $
    use2 𝓛 (‵ (block_with_items holds (param 1 u8) p k len xs)) (filling_block 𝓛 b o holds xs k len asks.1 n asks.2) $
    use0 𝓛 (‵ (flft [] full_share)) (𝓛.lfts.lft-nil full_share) $ move ! (3 ∷ 0 ∷ []) $ join ! $ move ! (1 ∷ 2 ∷ 0 ∷ []) $
    use3 𝓛 (raw (C.pre t)) (Resizes-goes Y u8 (Shrinks u8) 𝓛 𝓜.mem 𝓡.returns κ [] q full_share at h b o k len to xs (Incl-trans bounds.0 le) (⊑_refl []) (size.0, size.1, omega (arith, size.2)) fits0 fits1 fits2) $
    regoal ! (λ r. prop (WpFn 𝓤 H 𝓣.C 𝓣.Λ fn (vptr at.0 at.1 ∷ base_val r ∷ none_val ∷ mark_val ∷ vint w64 k ∷ vint w64 len ∷ vint w64 to ∷ []) Post)) (sym asks.0 ∙ e) refl $
    enter ! _ _ _ _ _ $ alloc_all ! (λ l. pass_all ! refl ((tt, tt), (base_Good p, ((tt, tt), ((tt, (tt, tt)), ((tt, record { fits = fits0 }), ((tt, record { fits = fits1 }), ((tt, record { fits = fits2 }), tt))))))) $
    let Ev = env fn.locals l in let both : Body = head (after 2 fn.body) in
    let Then : After 𝓤 H = any_q (after_seq 𝓤 H (Wp 𝓤 H 𝓣.C 𝓣.Λ Ev (after 3 fn.body) (at_return 𝓤 H Ev Post)) (at_return 𝓤 H Ev Post)) in
    first ! $ blocks ! $ calls_at_last ! (fm 𝓛 𝓜 𝓡) C (met.shrink dd u8 byte_laws) t (and_then ! (get ! refl) (and_then ! (get_in ! (fld ! refl (stop !)) (sub ! 0 refl (whole !))) (and_then ! (get ! refl) (and_then ! (get ! refl) (and_then ! (get ! refl) (no_more !)))))) (λ v.
    use1 𝓛 (later (raw (ex 𝓤 (Resized Y u8 (Shrinks u8) 𝓛 𝓜.mem 𝓡.returns κ [] q full_share at h b o k len to xs v)) ⊛ ‵ (flft κ q) ⊛ ‵ (flft [] full_share))) (Resizes-gives Y u8 (Shrinks u8) 𝓛 𝓜.mem 𝓡.returns κ [] q full_share at h b o k len to xs v) $ await ! tt $ split3 ! $ move ! (2 ∷ []) $ drop ! $
    flagged ! v (resized_if_ok holds (param 1 u8) p k len to xs)
    (λ b' o' e'.
    let p' : Ptr = block_ptr b' o' in let base' : Bs.Denot = record { ptr = p' } in let filling : F.the_row.Denot = record { at = p'; items = xs; spare = to - k } in let deed' : Dd.Denot = record { mark = record {}; at = p'; len = to; alloc = h } in
    let made : Val = three_val (base_val p') none_val mark_val in let r : Val = live 0 (vcons made vnil) in let within : k ≤ to = size.0 in
    lands_last ! refl (subst (λ (z : Val). T (has_ty (layout Answer) z) × WT z) (sym e') (Answer-typed true b' o')) $ exec ! 𝓣.C 𝓣.Λ Ev (after 1 fn.body) (at_ret Ev Post) $
    sets ! (is ! (of_opd ! (get ! refl)) e') refl (Answer-typed true b' o') $ first ! $ switches_on ! (get_tag ! (vrt ! refl (fld ! refl (stop !))) (whole !)) $ exec ! 𝓣.C 𝓣.Λ Ev (arm_body 0 both) Then $
    sets ! (of_opd ! (get_in ! (vrt ! refl (fld ! refl (stop !))) (in_variant ! 0 0 refl refl (whole !)))) refl (tt, tt) $
    sets ! (agg ! (and_then ! (get ! refl) (no_more !))) refl (base_Good p') $ sets ! (agg ! (no_more !)) refl (tt, tt) $ sets ! (agg ! (no_more !)) refl (tt, tt) $
    sets ! (agg ! (and_then ! (get ! refl) (no_more !))) refl (tt, (tt, tt)) $
    sets ! (agg ! (and_then ! (get ! refl) (and_then ! (get ! refl) (and_then ! (get ! refl) (no_more !))))) refl (tt, ((tt, tt), (tt, ((tt, tt), tt)))) $
    sets_last ! (agg ! (and_then ! (lit ! tt) (and_then ! (get ! refl) (no_more !)))) refl (tt, (record { fits = lit< tt }, (((tt, tt), (tt, ((tt, tt), tt))), tt))) $
    exec ! 𝓣.C 𝓣.Λ Ev (after 3 fn.body) (at_ret Ev Post) $ sets ! (of_opd ! (get ! refl)) refl (tt, (record { fits = lit< tt }, (((tt, tt), (tt, ((tt, tt), tt))), tt))) $
    returns ! (look_at ! 0 refl) $ free_all ! refl $
    use1 𝓛 (‵ (filling_owns p' xs (to - k)) ⊛ ‵ (holds (bytes_type to) p')) (block_filling 𝓛 b' o' holds xs k to asks.1 within (omega (arith, size))) $ split ! $
    move ! (1 ∷ []) $ use0 𝓛 (‵ (mark_own (mark_val ∷ []))) (mark_made 𝓛) $ fjoin ! $ move ! (1 ∷ []) $ use0 𝓛 (‵ (none_own (none_val ∷ []))) (none_made 𝓛) $ fjoin ! $
    use0 𝓛 (‵ (Bs.own_val base' (base_val p' ∷ []))) (base_made 𝓛 p') $
    use3 𝓛 (‵ (Three.own_val (base', filling, deed') (made ∷ []))) (three_of 𝓛 Bs F.the_row Dd base' filling deed' (base_val p') none_val mark_val) $
    use1 𝓛 (‵ (Out.own_val (Ok (base', filling, deed')) (r ∷ []))) (ok_of 𝓛 Three Two (base', filling, deed') made) $
    exits r (Ok (base', filling, deed')) (refl, refl, omega (arith, within), refl, refl, refl))
    (λ e'.
    let made : Val = two_val none_val mark_val in let r : Val = live 1 (vcons made vnil) in let rest : len - k ≡ n = omega (arith, asks.2) in
    lands_last ! refl (subst (λ (z : Val). T (has_ty (layout Answer) z) × WT z) (sym e') (Answer-typed false 0 0)) $ exec ! 𝓣.C 𝓣.Λ Ev (after 1 fn.body) (at_ret Ev Post) $
    sets ! (is ! (of_opd ! (get ! refl)) e') refl (Answer-typed false 0 0) $ first ! $ switches_on ! (get_tag ! (vrt ! refl (fld ! refl (stop !))) (whole !)) $ exec ! 𝓣.C 𝓣.Λ Ev (arm_body 1 both) Then $
    sets ! (agg ! (no_more !)) refl (tt, tt) $ sets ! (agg ! (no_more !)) refl (tt, tt) $ sets ! (agg ! (and_then ! (get ! refl) (no_more !))) refl (tt, (tt, tt)) $
    sets ! (agg ! (and_then ! (get ! refl) (and_then ! (get ! refl) (no_more !)))) refl (tt, (tt, ((tt, tt), tt))) $
    sets_last ! (agg ! (and_then ! (lit ! tt) (and_then ! (get ! refl) (no_more !)))) refl (tt, (record { fits = lit< tt }, ((tt, ((tt, tt), tt)), tt))) $
    exec ! 𝓣.C 𝓣.Λ Ev (after 3 fn.body) (at_ret Ev Post) $ sets ! (of_opd ! (get ! refl)) refl (tt, (record { fits = lit< tt }, ((tt, ((tt, tt), tt)), tt))) $
    returns ! (look_at ! 0 refl) $ free_all ! refl $
    use1 𝓛 (‵ (filling_owns p xs (len - k)) ⊛ ‵ (holds (bytes_type len) p)) (block_filling 𝓛 b o holds xs k len asks.1 most size.2) $ split ! $
    rewrite ! 0 (λ (m : ℕ). ‵ (filling_owns p xs m)) rest refl $ rewrite ! 0 (λ (r : Ptr). ‵ (filling_owns r xs n)) (sym e) refl $ move ! (1 ∷ []) $
    rewrite ! 0 (λ (u : A.Denot × Ptr × ℕ). ‵ (deed_owns (g.dealloc_token u.0) u.1 u.2)) (λ i. (sym asks.5 i, sym here i, sym asks.4 i)) refl $
    use0 𝓛 (‵ (mark_own (mark_val ∷ []))) (mark_made 𝓛) $ fjoin ! $ move ! (1 ∷ []) $ use0 𝓛 (‵ (none_own (none_val ∷ []))) (none_made 𝓛) $ fjoin ! $
    use2 𝓛 (‵ (Two.own_val (fl, deed) (made ∷ []))) (two_of 𝓛 F.the_row Dd fl deed none_val mark_val) $
    use1 𝓛 (‵ (Out.own_val (Err (fl, deed)) (r ∷ []))) (err_of 𝓛 Three Two (fl, deed) made) $
    exits r (Err (fl, deed)) (refl, refl)))))))))

-- `allocate` asks the allocator for an array of bytes, and keeps what comes back. Assumes `Logic`.
use Rattle.std.proofs.Common.{true, false, ◌≡◌, ◌*◌, ◌^◌, ◌<◌, [], ◌∷◌, refl, ◌∙◌, arith, lit<, w64, IfOk, Ok, Err}
use Rattle.std.proofs.raw_atomic.Walks.{proved}
use base.Fml.{ftrue, flft, Incl-trans}
use mir.Syntax.{Ty, Fn, Args, Body, a_type, dcons, dnil, named}
use mir.MapTy.{inst_fn}
use mir.Val.{Val, vstruct, vcons, vnil}
use prog.Capped.{capped_is}
use prog.Wp.{Wp, after_seq, at_return}
use contract.BorrowLft.{◌⊑◌}
use contract.Monad.{fact}
use contract.Running.{tables}
use types.Kit.{Post as After, any_q, Sq, prop, ‵, raw, ◌⊛◌, later, at_ret, ◌$◌, ◌∵◌, !, qed, await, move, drop, use0, use1, use2, use3, split, join, fsplit, fjoin, suffices, frame, done}
use types.Match.{live, vrt, in_variant}
use types.Part.{whole, agg}
use types.Run.{enter, stop, fld, of_opd, lit, and_then, no_more, first, switches_on, exec, returns}
use types.ByLocal.{alloc_all, pass_all, free_all, look_at, get, get_in, get_tag, sets, sets_last, lands_as, env}
use denote.Exit.{yes}
use denote.Builtin.{usize, RefOf}
use denote.Laws.{Is}
use denote.Param.{param, bounded}
use denote.Plain.{uint_vals, uint_Tells}
use denote.RattleType.{RattleType, owns}
use denote.RawPtr.{Ptr, block_ptr}
use denote.Ref.{shr_vals, shr_Tells}
use denote.Signature.{plain, types_at}
use denote.Steps.{nothing, heard, owned}
use denote.Struct.Declared as Declared
use denote.Struct.Struct.{Struct, Struct-Makes}
use denote.Struct.Tuple.{Tuple}
use denote.Triple.Call.{calls_at}
use denote.Triple.Walked.{Stays, walk_of, says, stay_dropped, Goes-dropped, ends_at}
use Rattle.core.specs.contracts.result.Result as RS
use Rattle.core.specs.contracts.alloc.AllocError as AE
use Rattle.core.proofs.alloc.Calls.{Al, Answer-typed, Takes, at_takes, Answered, Takes-goes, Takes-gives, answers}
use Rattle.core.proofs.alloc.Shapes.{after, head, arm_body}
use Rattle.core.proofs.atomic.Steps.{fm}
use Rattle.std_alloc.proofs.ResultValues.{ok_of, err_of}
use Rattle.raw_column.proofs.Steps.{Bs, base_val, base_Good, base_made, none_val, none_own, none_made, mark_val, mark_own, mark_made, three_val, three_of, filling_start}
use Rattle.raw_column.specs.Ownership.{bytes_type, filling_owns}
use Rattle.raw_column.specs.contracts.memory.Filling as F
use Rattle.raw_column.specs.contracts.memory.Deed as D
use Rattle.raw_column.specs.contracts.memory.allocate as f
use Rattle.raw_column.proofs.memory.allocate.Statement.{statement}
use Rattle.raw_column.proofs.memory.allocate.Code as code

pub allocate_spec : {M : Type 1} → statement M
allocate_spec 𝓤 𝓛 𝓜 𝓡 wired A L g d dd met md =
    let c = f.clauses A g d dd 𝓛 𝓜.mem 𝓡.returns in let H = 𝓛.H in let 𝓣 = tables 𝓤 H 𝓜 𝓡 𝓡.env in let En = f.ended A g d dd in
    let args : Args = bounded (a_type ∷ []) (A, tt) (dcons d (dcons dd dnil)) in let fn : Fn = inst_fn args code.function in
    let Y : Al = record { row = A; laws = L; g = g; d = d; drops = dd } in let Z : RattleType = param 0 A in
    let heap = RefOf (0 ∷ []) tt (plain (λ _. Z)) (λ _. tt) in let Dd : RattleType = D.the_row Z g in
    let Three : RattleType = Tuple (Bs ∷ F.the_row ∷ Dd ∷ []) in let Out : RattleType = RS.the_row Three AE.the_row in
    let hs : Stays En.signature.params En.kept = (stay_dropped heap yes, (stay_dropped (plain (λ _. usize)) yes, tt)) in
    let W = walk_of 𝓛 En hs c in
    proved 𝓛 En hs c 𝓜 𝓡 (Goes-dropped 𝓛 2 heap yes (λ κs x f. refl), (Goes-dropped 𝓛 2 (plain (λ _. usize)) yes (λ κs x f. refl), tt))
    (f.Key.name args) fn (code.unfolded 𝓤 H 𝓜 𝓡 wired (A, tt) d dd)
    (λ κs. (shr_vals, (uint_vals w64, tt))) (λ κs. (shr_Tells (named 0) κs.0 Z, (uint_Tells w64, tt))) (λ κs qs bounds a gh are.
    let κ = κs.0 in let q = qs.0 in let at = a.0.ref_ptr in let h = a.0.now in let len = a.1.0 in let fits = are.1.0.1 in
    let y : W.Ghost = ((κs, qs, bounds, a, (shr_vals a.0, (uint_vals w64 len, tt))), gh) in let Post = W.post y in
    let Asks : Type 0 = len < 2 ^ 63 in let τ : Ty = bytes_type len in let t = at_takes Y 𝓛 𝓜.mem 𝓡.returns κ q at h len 1 τ in
    let others = (‵ (flft κs.1.0 qs.1.0) ⊛ ‵ ftrue) in
    let Told : Out.Denot → Type 0 = λ r. IfOk r (λ r. (r.1.at ≡ r.0.ptr) × (r.1.items ≡ []) × (r.1.spare ≡ len) × (r.2.at ≡ r.0.ptr) × (r.2.len ≡ len) × (r.2.alloc ≡ h)) in
    let exits : (v : Val) (r : Out.Denot) → Told r → Sq 𝓛 (‵ (Out.own_val r (v ∷ [])) ∷ ‵ (flft κ q) ∷ others ∷ []) (prop (Post v)) = λ v r told.
    suffices ! _ (ends_at 𝓛 En hs c y v r (tt, (tt, tt)) (tt, (tt, tt))) $ says ! told $
    move ! (1 ∷ 2 ∷ []) $ join ! $ frame ! $ nothing ! $ nothing ! $ fjoin ! $ nothing ! $ fjoin ! $ done ! in
    qed 𝓛 (((‵ (flft κ q) ⊛ others) ⊛ ‵ (owns (types_at En.signature.params κs) a y.0.4)) ∷ (raw (fact 𝓤 (κs.1.0 ⊑ A.lives)) ⊛ raw (fact 𝓤 Asks)) ∷ []) ∵
    move ! (1 ∷ []) $ split ! $ heard ! (κs.1.0 ⊑ A.lives) (λ le. heard ! Asks (λ small. split ! $ split ! $ move ! (2 ∷ []) $
    fsplit ! $ fsplit ! $ drop ! $ move ! (1 ∷ []) $ drop ! $
    enter ! _ _ _ _ _ $ alloc_all ! (λ l. pass_all ! refl ((tt, tt), ((tt, record { fits = fits }), tt)) $ let Ev = env fn.locals l in
    let both : Body = head (after 1 fn.body) in
    let Then : After 𝓤 H = any_q (after_seq 𝓤 H (Wp 𝓤 H 𝓣.C 𝓣.Λ Ev (after 2 fn.body) (at_return 𝓤 H Ev Post)) (at_return 𝓤 H Ev Post)) in
    use2 𝓛 (raw ((Takes Y 𝓛 𝓜.mem 𝓡.returns).pre t)) (Takes-goes Y 𝓛 𝓜.mem 𝓡.returns κ q at h (Incl-trans bounds.0 le) len 1 τ (capped_is (len * 1) (omega arith) ∙ omega arith) refl fits (lit< tt)) $
    calls_at ! (fm 𝓛 𝓜 𝓡) (Takes Y 𝓛 𝓜.mem 𝓡.returns) (met.allocate dd) t (and_then ! (get ! refl) (and_then ! (get ! refl) (and_then ! (lit ! tt) (no_more !)))) (λ v.
    use1 𝓛 (later (raw (Answered Y 𝓛 𝓜.mem 𝓡.returns h τ v) ⊛ ‵ (flft κ q))) (Takes-gives Y 𝓛 𝓜.mem 𝓡.returns κ q at h len 1 τ v) $ await ! tt $ split ! $
    answers Y ! 𝓜.mem 𝓡.returns h τ v
    (λ b o e.
    let p : Ptr = block_ptr b o in let base : Bs.Denot = record { ptr = p } in let filling : F.the_row.Denot = record { at = p; items = []; spare = len } in let deed : Dd.Denot = record { mark = record {}; at = p; len = len; alloc = h } in
    let made : Val = three_val (base_val p) none_val mark_val in let r : Val = live 0 (vcons made vnil) in
    lands_as ! e refl (Answer-typed true b o) $ first ! $ switches_on ! (get_tag ! (vrt ! refl (fld ! refl (stop !))) (whole !)) $ exec ! 𝓣.C 𝓣.Λ Ev (arm_body 0 both) Then $
    sets ! (of_opd ! (get_in ! (vrt ! refl (fld ! refl (stop !))) (in_variant ! 0 0 refl refl (whole !)))) refl (tt, tt) $
    sets ! (agg ! (and_then ! (get ! refl) (no_more !))) refl (base_Good p) $ sets ! (agg ! (no_more !)) refl (tt, tt) $ sets ! (agg ! (no_more !)) refl (tt, tt) $
    sets ! (agg ! (and_then ! (get ! refl) (no_more !))) refl (tt, (tt, tt)) $
    sets ! (agg ! (and_then ! (get ! refl) (and_then ! (get ! refl) (and_then ! (get ! refl) (no_more !))))) refl (tt, ((tt, tt), (tt, ((tt, tt), tt)))) $
    sets_last ! (agg ! (and_then ! (lit ! tt) (and_then ! (get ! refl) (no_more !)))) refl (tt, (record { fits = lit< tt }, (((tt, tt), (tt, ((tt, tt), tt))), tt))) $
    exec ! 𝓣.C 𝓣.Λ Ev (after 2 fn.body) (at_ret Ev Post) $ sets ! (of_opd ! (get ! refl)) refl (tt, (record { fits = lit< tt }, (((tt, tt), (tt, ((tt, tt), tt))), tt))) $
    returns ! (look_at ! 0 refl) $ free_all ! refl $
    move ! (1 ∷ []) $ use0 𝓛 (‵ (mark_own (mark_val ∷ []))) (mark_made 𝓛) $ fjoin ! $ move ! (1 ∷ []) $
    use1 𝓛 (‵ (filling_owns p [] len)) (filling_start 𝓛 b o len small) $ use0 𝓛 (‵ (none_own (none_val ∷ []))) (none_made 𝓛) $ fjoin ! $
    use0 𝓛 (‵ (Bs.own_val base (base_val p ∷ []))) (base_made 𝓛 p) $
    use3 𝓛 (‵ (Three.own_val (base, filling, deed) (made ∷ []))) (three_of 𝓛 Bs F.the_row Dd base filling deed (base_val p) none_val mark_val) $
    use1 𝓛 (‵ (Out.own_val (Ok (base, filling, deed)) (r ∷ []))) (ok_of 𝓛 Three AE.the_row (base, filling, deed) made) $
    exits r (Ok (base, filling, deed)) (refl, refl, refl, refl, refl, refl))
    (λ e.
    let Refusal : RattleType = Struct (Declared.shape AE.the_type) in let none : Val = live 1 (vcons (vstruct vnil) vnil) in
    lands_as ! e refl (Answer-typed false 0 0) $ first ! $ switches_on ! (get_tag ! (vrt ! refl (fld ! refl (stop !))) (whole !)) $ exec ! 𝓣.C 𝓣.Λ Ev (arm_body 1 both) Then $
    sets ! (of_opd ! (get_in ! (vrt ! refl (fld ! refl (stop !))) (in_variant ! 1 0 refl refl (whole !)))) refl (tt, tt) $
    sets_last ! (agg ! (and_then ! (lit ! tt) (and_then ! (get ! refl) (no_more !)))) refl (tt, (record { fits = lit< tt }, (tt, tt))) $
    exec ! 𝓣.C 𝓣.Λ Ev (after 2 fn.body) (at_ret Ev Post) $ sets ! (of_opd ! (get ! refl)) refl (tt, (record { fits = lit< tt }, (tt, tt))) $
    returns ! (look_at ! 0 refl) $ free_all ! refl $
    owned ! Refusal (Is Refusal) (Struct-Makes 𝓛 (Declared.shape AE.the_type) tt) tt (vstruct vnil ∷ []) (tt, (refl, tt)) $
    use1 𝓛 (‵ (Out.own_val (Err (record {})) (none ∷ []))) (err_of 𝓛 Three AE.the_row (record {}) (vstruct vnil)) $
    exits none (Err (record {})) tt))))))

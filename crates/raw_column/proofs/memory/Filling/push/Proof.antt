-- `push` writes one byte, and the place behind the pointer holds it. Assumes `Logic`.
use Rattle.std.proofs.Common.{◌≡◌, ℕ, suc, ◌+◌, ◌-◌, ◌^◌, ◌<◌, [], ◌∷◌, ◌++◌, length, refl, sym, arith, w8, w64}
use Rattle.std.proofs.raw_atomic.Walks.{proved}
use base.Fraction.{full_share}
use base.Logic.{never, via, snd∗}
use base.Fml.{ftrue, flt, froom}
use mir.Syntax.{ty_int}
use mir.Val.{vint}
use prog.Wp.{WpFn}
use contract.Monad.{fact}
use contract.Running.{tables}
use types.Logic.{sem}
use types.Kit.{‵, raw, ◌⊛◌, prop, at_ret, ◌$◌, ◌∵◌, !, qed, move, drop, use0, use1, use2, split, join, fsplit, fjoin, flt_l, rewrite, regoal, suffices, done}
use types.Part.{whole, sub, agg}
use types.Run.{enter, stop, fld, bin, of_opd, init, assigns_last, no_more, first, blocks, exec, returns}
use types.ByLocal.{alloc_all, pass_all, free_all, look_at, get, get_in, through, sets, env}
use denote.Exit.{yes}
use denote.Builtin.{u8, usize}
use denote.Memory.{part_at}
use denote.Plain.{uint_vals, uint_Tells, uint_in}
use denote.RattleType.{owns}
use denote.RawPtr.{Ptr, block_ptr, in_a_block}
use denote.Signature.{plain, types_at}
use denote.Steps.{nothing, heard}
use denote.Triple.Walked.{Stays, walk_of, says, stay_dropped, Goes-dropped, ends_at}
use Rattle.std_alloc.proofs.VecSteps.Shapes.{after}
use Rattle.core.proofs.alloc.Calls.{Goes-blank}
use Rattle.raw_column.proofs.Steps.{Bs, base_val, base_vals, base_Tells, base_Good, none_val, none_own, none_told, none_made, Beside, filling_out, filling_in}
use Rattle.raw_column.specs.Ownership.{filling_owns}
use Rattle.raw_column.specs.contracts.memory.Filling as F
use Rattle.raw_column.specs.contracts.memory.Filling.push as f
use Rattle.raw_column.proofs.memory.Filling.push.Statement.{statement}
use Rattle.raw_column.proofs.memory.Filling.push.Code as code

abbrev stayed : Stays f.ended.signature.params f.ended.kept
stayed = (stay_dropped _ yes, (stay_dropped _ yes, (stay_dropped _ yes, (stay_dropped _ yes, tt))))

pub push_spec : {M : Type 1} → statement M
push_spec 𝓤 𝓛 𝓜 𝓡 wired =
    let c = f.clauses 𝓛 𝓜.mem 𝓡.returns in let W = walk_of 𝓛 f.ended stayed c in let 𝓣 = tables 𝓤 𝓛.H 𝓜 𝓡 𝓡.env in
    proved 𝓛 f.ended stayed c 𝓜 𝓡 (Goes-blank 𝓛 0 (plain (λ _. F.the_row)) yes (λ κs x f. tt), (Goes-dropped 𝓛 0 (plain (λ _. Bs)) yes (λ κs x f. refl), (Goes-dropped 𝓛 0 (plain (λ _. usize)) yes (λ κs x f. refl), (Goes-dropped 𝓛 0 (plain (λ _. u8)) yes (λ κs x f. refl), tt))))
    f.Key.name code.function (code.unfolded 𝓤 𝓛.H 𝓜 𝓡 wired)
    (λ κs. ((λ _. none_val ∷ []), (base_vals, (uint_vals w64, (uint_vals w8, tt))))) (λ κs. ((λ x vs s. none_told vs s.0), (base_Tells, (uint_Tells w64, (uint_Tells w8, tt))))) (λ κs qs bounds a g are.
    let d = a.0 in let base = a.1.0 in let n = a.1.1.0 in let byte = a.1.1.1.0 in let fits = are.1.1.0.1 in let small_byte = are.1.1.1.0.1 in
    let y : W.Ghost = ((κs, qs, bounds, a, (none_val ∷ [], (base_vals base, (uint_vals w64 n, (uint_vals w8 byte, tt))))), g) in
    let xs = d.items in let m : ℕ = d.spare - 1 in
    let Asks : Type 0 = (base.ptr ≡ d.at) × (n ≡ length xs) × (0 < d.spare) in
    qed 𝓛 ((‵ ftrue ⊛ ‵ (owns (types_at f.ended.signature.params κs) a y.0.4)) ∷ raw (fact 𝓤 Asks) ∷ []) ∵
    move ! (1 ∷ []) $ heard ! Asks (λ asks. split ! $ drop ! $ fsplit ! $ fsplit ! $ drop ! $ move ! (1 ∷ []) $ drop ! $
    rewrite ! 0 (λ (p : Ptr). ‵ (filling_owns p xs d.spare)) (sym asks.0) refl $
    in_a_block ! base.ptr (λ p. filling_owns p xs d.spare) (via 𝓤 _ (snd∗ 𝓤 (sem 𝓛 (flt (length xs + d.spare) (2 ^ 63))) _) (snd∗ 𝓤 (never 𝓤) (never 𝓤))) (λ b o e. fsplit ! $ flt_l ! (λ small.
    let ys = xs ++ byte ∷ [] in let more : d.spare ≡ suc m = omega arith in
    regoal ! (λ p. prop (WpFn 𝓤 𝓛.H 𝓣.C 𝓣.Λ code.function (none_val ∷ base_val p ∷ vint w64 n ∷ vint w8 byte ∷ []) (W.post y))) e refl $
    use1 𝓛 (‵ (froom (ty_int w8) b (length xs + o)) ⊛ ‵ (Beside 𝓛 b o xs m)) (filling_out 𝓛 b o xs d.spare m more) $ split ! $
    rewrite ! 0 (λ (k : ℕ). ‵ (froom (ty_int w8) b (k + o))) (sym asks.1) refl $
    enter ! _ _ _ _ _ $ alloc_all ! (λ l. pass_all ! refl ((tt, tt), (base_Good (block_ptr b o), ((tt, record { fits = fits }), ((tt, record { fits = small_byte }), tt)))) $
    -- [the next place; the others; the locals]
    first ! $ blocks ! $ sets ! (bin ! (get_in ! (fld ! refl (stop !)) (sub ! 0 refl (whole !))) (get ! refl) tt) refl (tt, tt) $
    assigns_last ! (of_opd ! (get ! refl)) (through ! refl (stop !)) (init ! 0 refl (tt, record { fits = small_byte })) $
    exec ! 𝓣.C 𝓣.Λ (env code.Mir.locals l) (after 1 (code.function).body) (at_ret _ (W.post y)) $
    sets ! (agg ! (no_more !)) refl (tt, tt) $ returns ! (look_at ! 0 refl) $ free_all ! refl $
    use1 𝓛 (‵ (part_at u8 full_share byte b (n + o))) (uint_in 𝓛 full_share w8 byte b (n + o)) $
    rewrite ! 0 (λ (k : ℕ). ‵ (part_at u8 full_share byte b (k + o))) asks.1 refl $
    use2 𝓛 (‵ (filling_owns (block_ptr b o) ys m)) (filling_in 𝓛 b o xs byte m (omega (arith, small, more))) $
    rewrite ! 0 (λ (p : Ptr). ‵ (filling_owns p ys m)) (sym e) refl $ use0 𝓛 (‵ (none_own (none_val ∷ []))) (none_made 𝓛) $ fjoin ! $
    suffices ! _ (ends_at 𝓛 f.ended stayed c y none_val (record { at = base.ptr; items = ys; spare = m }) (tt, (tt, (tt, (tt, tt)))) (tt, (tt, (tt, (tt, tt))))) $ says ! (asks.0, refl, omega (arith, more)) $
    nothing ! $ nothing ! $ fjoin ! $ nothing ! $ fjoin ! $ nothing ! $ fjoin ! $ nothing ! $ fjoin ! $ join ! $ nothing ! $ done !)))))

-- `begun` runs no code on the block: what is past the first bytes counts as room. Assumes `Logic`.
use Rattle.std.proofs.Common.{ℕ, ◌-◌, ◌≤◌, ◌^◌, [], ◌∷◌, length, take, refl, sym, arith, w64}
use Rattle.std.proofs.raw_atomic.Walks.{proved}
use base.Logic.{never, snd∗}
use base.Fml.{ftrue, flt}
use contract.Monad.{fact}
use types.Logic.{sem}
use types.Kit.{‵, raw, ◌⊛◌, ◌$◌, ◌∵◌, !, qed, move, drop, use0, use1, split, join, fsplit, fjoin, flt_l, rewrite, suffices, done}
use types.Part.{agg}
use types.Run.{enter, no_more, returns}
use types.ByLocal.{alloc_all, pass_all, free_all, look_at, sets}
use denote.Exit.{yes}
use denote.Builtin.{usize}
use denote.Plain.{uint_vals, uint_Tells}
use denote.RattleType.{owns}
use denote.RawPtr.{Ptr, block_ptr, in_a_block}
use denote.Signature.{plain, types_at}
use denote.Steps.{nothing, heard}
use denote.Triple.Walked.{Stays, walk_of, says, stay_dropped, Goes-dropped, ends_at}
use Rattle.core.proofs.alloc.Calls.{Goes-blank}
use Rattle.raw_column.proofs.Steps.{none_val, none_own, none_told, none_made, filling_begun}
use Rattle.raw_column.specs.Ownership.{bytes_own, filling_owns}
use Rattle.raw_column.specs.contracts.memory.Bytes as B
use Rattle.raw_column.specs.contracts.memory.Bytes.begun as f
use Rattle.raw_column.proofs.memory.Bytes.begun.Statement.{statement}
use Rattle.raw_column.proofs.memory.Bytes.begun.Code as code

abbrev stayed : Stays f.ended.signature.params f.ended.kept
stayed = (stay_dropped _ yes, (stay_dropped _ yes, tt))

pub begun_spec : {M : Type 1} → statement M
begun_spec 𝓤 𝓛 𝓜 𝓡 wired =
    let c = f.clauses 𝓛 𝓜.mem 𝓡.returns in let W = walk_of 𝓛 f.ended stayed c in
    proved 𝓛 f.ended stayed c 𝓜 𝓡 (Goes-blank 𝓛 0 (plain (λ _. B.the_row)) yes (λ κs x f. tt), (Goes-dropped 𝓛 0 (plain (λ _. usize)) yes (λ κs x f. refl), tt))
    f.Key.name code.function (code.unfolded 𝓤 𝓛.H 𝓜 𝓡 wired)
    (λ κs. ((λ _. none_val ∷ []), (uint_vals w64, tt))) (λ κs. ((λ x vs s. none_told vs s.0), (uint_Tells w64, tt))) (λ κs qs bounds a g are.
    let d = a.0 in let k = a.1.0 in let fits = are.1.0.1 in let xs = d.items in let n : ℕ = length xs - k in let y : W.Ghost = ((κs, qs, bounds, a, (none_val ∷ [], (uint_vals w64 k, tt))), g) in
    let Asks : Type 0 = k ≤ length xs in
    qed 𝓛 ((‵ ftrue ⊛ ‵ (owns (types_at f.ended.signature.params κs) a y.0.4)) ∷ raw (fact 𝓤 Asks) ∷ []) ∵
    move ! (1 ∷ []) $ heard ! Asks (λ le. split ! $ drop ! $ fsplit ! $ fsplit ! $ drop ! $ move ! (1 ∷ []) $ drop ! $
    in_a_block ! d.at (λ p. bytes_own p xs) (snd∗ 𝓤 (sem 𝓛 (flt (length xs) (2 ^ 63))) (never 𝓤)) (λ b o e. fsplit ! $ flt_l ! (λ small.
    use1 𝓛 (‵ (filling_owns (block_ptr b o) (take k xs) n)) (filling_begun 𝓛 b o xs k le small) $
    rewrite ! 0 (λ (p : Ptr). ‵ (filling_owns p (take k xs) n)) (sym e) refl $
    enter ! _ _ _ _ _ $ alloc_all ! (λ l. pass_all ! refl ((tt, tt), ((tt, record { fits = fits }), tt)) $
    sets ! (agg ! (no_more !)) refl (tt, tt) $ returns ! (look_at ! 0 refl) $ free_all ! refl $ use0 𝓛 (‵ (none_own (none_val ∷ []))) (none_made 𝓛) $ fjoin ! $
    suffices ! _ (ends_at 𝓛 f.ended stayed c y none_val (record { at = d.at; items = take k xs; spare = n }) (tt, (tt, tt)) (tt, (tt, tt))) $ says ! (refl, refl, omega (arith, le)) $
    nothing ! $ nothing ! $ fjoin ! $ nothing ! $ fjoin ! $ join ! $ nothing ! $ done !)))))

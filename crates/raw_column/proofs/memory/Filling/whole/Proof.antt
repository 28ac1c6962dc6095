-- `whole` runs no code on the block: each of its places holds a value already. Assumes `Logic`.
use Rattle.std.proofs.Common.{◌≡◌, ◌^◌, [], ◌∷◌, length, refl, arith}
use Rattle.std.proofs.raw_atomic.Walks.{proved}
use base.Fml.{ftrue}
use contract.Monad.{fact}
use types.Kit.{‵, raw, ◌⊛◌, ◌$◌, ◌∵◌, !, qed, move, drop, use0, split, join, fsplit, fjoin, flt_l, flt_i, suffices, done}
use types.Part.{agg}
use types.Run.{enter, no_more, returns}
use types.ByLocal.{alloc_all, pass_all, free_all, look_at, sets}
use denote.Exit.{yes}
use denote.RattleType.{owns}
use denote.Signature.{plain, types_at}
use denote.Steps.{nothing, heard}
use denote.Triple.Walked.{Stays, walk_of, says, stay_dropped, ends_at}
use Rattle.core.proofs.alloc.Calls.{Goes-blank}
use Rattle.raw_column.proofs.Steps.{none_val, none_own, none_told, none_made}
use Rattle.raw_column.specs.contracts.memory.Filling as F
use Rattle.raw_column.specs.contracts.memory.Filling.whole as f
use Rattle.raw_column.proofs.memory.Filling.whole.Statement.{statement}
use Rattle.raw_column.proofs.memory.Filling.whole.Code as code

abbrev stayed : Stays f.ended.signature.params f.ended.kept
stayed = (stay_dropped _ yes, tt)

pub whole_spec : {M : Type 1} → statement M
whole_spec 𝓤 𝓛 𝓜 𝓡 wired =
    let c = f.clauses 𝓛 𝓜.mem 𝓡.returns in let W = walk_of 𝓛 f.ended stayed c in
    proved 𝓛 f.ended stayed c 𝓜 𝓡 (Goes-blank 𝓛 0 (plain (λ _. F.the_row)) yes (λ κs x f. tt), tt)
    f.Key.name code.function (code.unfolded 𝓤 𝓛.H 𝓜 𝓡 wired)
    (λ κs. ((λ _. none_val ∷ []), tt)) (λ κs. ((λ x vs s. none_told vs s.0), tt)) (λ κs qs bounds a g are.
    let d = a.0 in let xs = d.items in let y : W.Ghost = ((κs, qs, bounds, a, (none_val ∷ [], tt)), g) in
    let Asks : Type 0 = d.spare ≡ 0 in
    qed 𝓛 ((‵ ftrue ⊛ ‵ (owns (types_at f.ended.signature.params κs) a y.0.4)) ∷ raw (fact 𝓤 Asks) ∷ []) ∵
    move ! (1 ∷ []) $ heard ! Asks (λ none. split ! $ drop ! $ fsplit ! $ fsplit ! $ drop ! $ move ! (1 ∷ []) $ drop ! $ fsplit ! $ flt_l ! (λ small. fsplit ! $
    -- [the bytes; the room for none; nothing]
    flt_i ! (length xs) (2 ^ 63) (omega (arith, small, none)) $ fjoin ! $ move ! (1 ∷ []) $ drop ! $
    enter ! _ _ _ _ _ $ alloc_all ! (λ l. pass_all ! refl ((tt, tt), tt) $
    sets ! (agg ! (no_more !)) refl (tt, tt) $ returns ! (look_at ! 0 refl) $ free_all ! refl $ use0 𝓛 (‵ (none_own (none_val ∷ []))) (none_made 𝓛) $ fjoin ! $
    suffices ! _ (ends_at 𝓛 f.ended stayed c y none_val (record { at = d.at; items = xs }) (tt, tt) (tt, tt)) $ says ! (refl, refl) $
    nothing ! $ nothing ! $ fjoin ! $ join ! $ nothing ! $ done !))))

use Rattle.std.proofs.Common.{rules, ◌≡◌, ◌<◌, ℤ, w32, to_z, of_z, length, inl, sym, ◌∙◌, ap, subst, arith}
use Rattle.std.specs.Prelude.{set}
use Rattle.flecsq_c.specs.Asking.{Matches, MatchesIn}
use Rattle.flecsq_c.proofs.Numbers.{query_there, set_same}
use Rattle.flecsq_c.proofs.asking.match_number.Goals as goal

pub returns : goal.returns
returns c =
    let queries = c.args.queries.now.items in
    let place = c.in-Some-place_of.place in
    let found = c.in-Some-place_of.ensures.some in
    let here = c.index_mut.result.now in
    let low : place < length queries = omega (arith, found.1, c.len.ensures) in
    let there = query_there queries c.args.number place here found.0 low c.index_mut.ensures.value in
    let status : to_z w32 (of_z w32 c.match_in.result) ≡ c.match_in.result = search rules in
    let done : Matches c.args.number c.args.entity c.args.is.now c.match_in.new.is c.args.world.now.state queries (set queries place c.match_in.new.place) c.match_in.result = record {
      kept = ap (λ o. set queries place o) c.match_in.ensures.kept ∙ set_same queries place here low c.index_mut.ensures.value;
      asked = inl (
        c.in-Some.entity,
        c.in-Some.ensures.value,
        subst (λ o. MatchesIn c.args.world.now.state c.in-Some.entity c.args.is.now c.match_in.new.is o c.match_in.result) (sym there) c.match_in.ensures.told,
      );
    } in
    subst (λ (s : ℤ). Matches c.args.number c.args.entity c.args.is.now c.match_in.new.is c.args.world.now.state queries (set queries place c.match_in.new.place) s) (sym status) done

use Rattle.std.proofs.Common.{◌∙◌, [], arith, inl, inr}
use Rattle.rel_travel.specs.Outside.{outside_referrers}
use Rattle.rel_travel.proofs.Mentions.{all_found, all_refer}
use Rattle.rel_travel.proofs.Rows.{all_added, item_added}
use Rattle.rel_travel.proofs.referrers.list_referrers.Goals as goal

pub loop-member-preserved : goal.loop-member-preserved
loop-member-preserved g c =
    let members = c.args.members.now.items in
    let bring = outside_referrers (g.G.Graph.entities c.args.graph.now) (g.G.Graph.ids c.args.graph.now) members in
    let slice = c.as_slice-member-items in
    record {
      size = c.add_referrers.ensures.size ∙ c.loop-member.invariant.size;
      grown = item_added bring members slice.result.now slice.ensures.items c.loop-member.member-index [] c.loop-member.found.items c.add_referrers.new.found.items (omega arith) c.loop-member.invariant.grown c.add_referrers.ensures.grown;
    }

pub returns-clause-exact : goal.returns-clause-exact
returns-clause-exact g c =
    let entities = g.G.Graph.entities c.args.graph.now in
    let ids = g.G.Graph.ids c.args.graph.now in
    let members = c.args.members.now.items in
    let slice = c.as_slice-member-items in
    let all = all_added (outside_referrers entities ids members) members slice.result.now slice.ensures.items c.loop-member.member-index [] c.loop-member.found.items (omega arith) c.loop-member.invariant.grown in
    λ y. (
      λ h. elim ((all.exact y).0 h) [ inl n ↦ absurd (omega (arith, n.1)) | inr m ↦ all_refer entities ids members y m ],
      λ h. (all.exact y).1 (inr (all_found entities ids members y h)),
    )

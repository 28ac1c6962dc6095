use Rattle.std.proofs.Common.{◌≡◌, ◌∙◌, ◌&&◌, false, true, refl, sym}
use Rattle.ecs_id.specs.Id.{first_of}
use Rattle.rel_travel.specs.Finds.{is_among}
use Rattle.ecs_model.specs.steps.Rules.{forbids_with_sources, forbids_with_users}
use Rattle.rel_travel.proofs.ForbiddenDeletions.{not_left, not_right, of_target}
use Rattle.rel_travel.proofs.forbidding.is_forbidding.Goals as goal
use Rattle.rel_travel.proofs.forbidding.is_forbidding.Goals.{else-is_found-via-then-is_found+else-contains, else-is_found-via-else-is_found}

pub returns-then-is_found-2 : goal.returns-then-is_found-2
returns-then-is_found-2 g c =
    let ids = g.G.Graph.ids c.args.graph.now in
    let members = c.args.members.now.items in
    let id = c.args.id in
    let first : c.first-first.result ≡ first_of id = c.first-first.ensures.value in
    let none : (is_among members (first_of id) && forbids_with_users ids (first_of id)) ≡ false =
    elim c.else-is_found.branch [
      | else-is_found-via-then-is_found+else-contains w ↦
          let users : forbids_with_users ids (first_of id) ≡ w.contains.result = rw (w.contains.ensures.value, c.ids-traits.ensures, w.pair.ensures, first) refl in
          not_right (is_among members (first_of id)) (forbids_with_users ids (first_of id)) (users ∙ w.if-contains.false)
      | else-is_found-via-else-is_found w ↦
          let among : is_among members (first_of id) ≡ c.is_found.result = rw (c.is_found.ensures, first) refl in
          not_left (is_among members (first_of id)) (forbids_with_users ids (first_of id)) (among ∙ w.if-is_found.false)
    ] in
    let target : is_among members c.in-Some.target ≡ true = sym c.is_found-in-Some.ensures ∙ c.if-is_found-2.true in
    let sources : c.contains-then-is_found-2.result ≡ forbids_with_sources ids (first_of id) = rw (c.contains-then-is_found-2.ensures.value, c.ids-traits.ensures, c.pair-then-is_found-2.ensures, first) refl in
    sources ∙ (rw target at (of_target ids members id c.in-Some.target none c.in-Some.ensures.value))

use Rattle.std.proofs.Common.{ap, length, ◌∙◌, arith}
use Rattle.ecs_world.specs.Changes.{with_names}
use Rattle.ecs_world.specs.State.{listed, no_change}
use Rattle.ecs_world.proofs.World.tell_deletion.Goals as goal

pub only_of-went-requires : goal.only_of-went-requires
only_of-went-requires g c = let same = ap length c.deref-then-len-lt2.ensures.value in omega (arith, same)

pub returns-then-len-lt2-clause-told : goal.returns-then-len-lt2-clause-told
returns-then-len-lt2-clause-told g c =
    let died = c.in_ok-list_deaths.ensures ∙ ap (with_names c.args.self.now.state) c.deref.ensures.value in
    let went = c.only_of-went.ensures ∙ c.deref-then-len-lt2.ensures.value in
    c.of.ensures ∙ (λ k. record no_change { died = (c.in-Ok.ensures.ok k).died.items; went = listed (c.in-Ok.ensures.ok k).went }) ∙ (λ k. record no_change { died = died k; went = went k })

pub returns-clause-told : goal.returns-clause-told
returns-clause-told g c =
    let died = c.in_ok-list_deaths.ensures ∙ ap (with_names c.args.self.now.state) c.deref.ensures.value in
    c.of-2.ensures ∙ c.with_died.ensures
    ∙ (λ k. record (c.with_facts-lists.ensures k) { died = died k })
    ∙ (λ k. record (c.in_ok-lists.ensures k) { died = with_names c.args.self.now.state c.args.deletion.now.dead.items; came = c.new-4.ensures.items k; went = (c.replace-went.ensures.value k).items })

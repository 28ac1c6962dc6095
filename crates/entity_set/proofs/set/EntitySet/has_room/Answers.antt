use Rattle.std.specs.Prelude.{◌↔◌, All, IsTrue}
use Rattle.std.proofs.Common.{◌≡◌, ◌<◌, ◌*◌, ap, length, subst, ◌∙◌}
use Rattle.entity_set.proofs.SetExchanges.{members_low}
use Rattle.entity_set.proofs.set.EntitySet.has_room.Goals as goal

pub returns-clause-all : goal.returns-clause-all
returns-clause-all g c =
    let room : 64 * length c.as_slice.result.now ≡ c.args.self.now.room = ap (λ ws. 64 * length ws) c.as_slice.ensures.value ∙ ap (λ s. s.room) c.self.view_is in
    subst (λ n. IsTrue c.have_words.result ↔ All (λ e. e < n) c.args.entities.now) room c.have_words.ensures

pub returns-clause-own : goal.returns-clause-own
returns-clause-own g c = subst (λ s. All (λ e. e < s.room) s.items) c.self.view_is (members_low c.self.inside.words.items)

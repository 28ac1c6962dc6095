use Rattle.std.proofs.Common.{◌≡◌, ap, eq-eqb, eqb-true, length, rules, sym, vec_len, ◌∙◌}
use Rattle.watch_index.proofs.Blocks.{none_listed}
use Rattle.watch_index.proofs.numbers.Numbers.is_empty.Goals as goal

pub returns : goal.returns
returns g c =
    let words = c.self.inside.words in
    let long : length words.items ≡ vec_len words = search rules in
    let none = none_listed words.items c.self.invariant.full in (
      λ h. sym (ap length c.self.view_is) ∙ none.0 (long ∙ eqb-true (vec_len words) 0 (sym c.is_empty.ensures ∙ h)),
      λ e. c.is_empty.ensures ∙ eq-eqb (vec_len words) 0 (sym long ∙ none.1 (ap length c.self.view_is ∙ e)),
    )

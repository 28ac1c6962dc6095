use Rattle.std.specs.List.{AllPairs}
use Rattle.std.proofs.Common.{◌≡◌, ℕ, ◌==◌, ◌/◌, false, cond, List, ap, arith, length, rules, subst, sym, true≢false, vec_len, ◌∙◌}
use Rattle.watch_index.specs.declared.words.Word.{Word}
use Rattle.watch_index.specs.Listed.{Loses, has}
use Rattle.watch_index.specs.Words.{AreWords, IsBefore, numbers_in, numbers_of}
use Rattle.watch_index.proofs.Blocks.{less_in, none_in, nothing_lost, place_there, word_there, words_remove, words_set}
use Rattle.watch_index.proofs.numbers.Numbers.remove.Goals as goal

pub find-requires : goal.find-requires
find-requires g c = subst (AllPairs IsBefore) (sym c.as_slice.ensures.value) c.self.invariant.rise

pub index-word-requires : goal.index-word-requires
index-word-requires g c =
    let words = c.self.inside.words in
    let long : length words.items ≡ vec_len words = search rules in
    let place = word_there c.as_slice.ensures.value c.in-Ok.ensures.found in
    omega (arith, place.within, long)

pub without-left-requires : goal.without-left-requires
without-left-requires g c =
    let place = word_there c.as_slice.ensures.value c.in-Ok.ensures.found in
    record { block = ap (λ (v : Word). v.block) c.index-word.ensures ∙ place.is c.index-word.result.now }

pub remove-requires : goal.remove-requires
remove-requires g c =
    let words = c.self.inside.words in
    let long : length words.items ≡ vec_len words = search rules in
    let place = word_there c.as_slice.ensures.value c.in-Ok.ensures.found in
    omega (arith, place.within, long)

pub index_mut-requires : goal.index_mut-requires
index_mut-requires g c =
    let words = c.self.inside.words in
    let long : length words.items ≡ vec_len words = search rules in
    let place = word_there c.as_slice.ensures.value c.in-Ok.ensures.found in
    omega (arith, place.within, long)

pub invariant_of-self : goal.invariant_of-self
invariant_of-self g c =
    let ws = c.self.inside.words.items in
    let place = word_there c.as_slice.ensures.value c.in-Ok.ensures.found in
    subst AreWords (sym c.remove.ensures.items) (words_remove ws c.in-Ok.place place.within c.self.invariant)

pub invariant_of-self-else-is_empty : goal.invariant_of-self-else-is_empty
invariant_of-self-else-is_empty g c =
    let ws = c.self.inside.words.items in
    let w = c.index-word.result.now in
    let place = word_there c.as_slice.ensures.value c.in-Ok.ensures.found in
    words_set ws c.in-Ok.place (c.args.number / 64) place c.without-left.result (c.without-left.ensures.block ∙ ap (λ (v : Word). v.block) c.index-word.ensures ∙ place.is w) c.self.invariant
    (λ none. true≢false (sym (c.is_empty.ensures.1 none) ∙ c.if-is_empty.false))

pub returns-then-is_empty : goal.returns-then-is_empty
returns-then-is_empty g c = λ n.
    let ws = c.self.inside.words.items in
    let w = c.index-word.result.now in
    let place = word_there c.as_slice.ensures.value c.in-Ok.ensures.found in
    ap (λ (vs : List Word). has (numbers_in vs) n) c.remove.ensures.items
    ∙ none_in ws c.self.invariant.rise c.in-Ok.place c.args.number place c.without-left.result w
    (λ m. c.without-left.ensures.numbers m ∙ ap (λ v. cond (c.args.number == m) false (has (numbers_of v) m)) c.index-word.ensures) (c.is_empty.ensures.0 c.if-is_empty.true) n
    ∙ ap (λ ns. cond (c.args.number == n) false (has ns n)) c.self.view_is

pub returns-else-is_empty : goal.returns-else-is_empty
returns-else-is_empty g c = λ n.
    let ws = c.self.inside.words.items in
    let w = c.index-word.result.now in
    let place = word_there c.as_slice.ensures.value c.in-Ok.ensures.found in
    less_in ws c.self.invariant.rise c.in-Ok.place c.args.number place c.without-left.result w
    (λ m. c.without-left.ensures.numbers m ∙ ap (λ v. cond (c.args.number == m) false (has (numbers_of v) m)) c.index-word.ensures) n
    ∙ ap (λ ns. cond (c.args.number == n) false (has ns n)) c.self.view_is

pub returns-in_default : goal.returns-in_default
returns-in_default g c =
    let ws = c.self.inside.words.items in
    let place = place_there c.as_slice.ensures.value c.in_default.ensures.missing in
    subst (λ (ns : List ℕ). Loses ns ns c.args.number) c.self.view_is (nothing_lost ws c.in_default.field-0 c.args.number place)

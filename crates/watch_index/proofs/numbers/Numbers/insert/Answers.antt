use Rattle.std.specs.List.{AllPairs}
use Rattle.std.proofs.Common.{◌≡◌, ◌==◌, ◌/◌, true, cond, List, ap, arith, length, rules, subst, sym, vec_len, ◌∙◌}
use Rattle.watch_index.specs.declared.words.Word.{Word}
use Rattle.watch_index.specs.Listed.{has}
use Rattle.watch_index.specs.Words.{AreWords, IsBefore, IsPlaceFor, numbers_in, numbers_of}
use Rattle.watch_index.proofs.Blocks.{more_full, more_in, one_full, one_in, place_there, word_there, words_insert, words_set}
use Rattle.watch_index.proofs.numbers.Numbers.insert.Goals as goal

pub find-requires : goal.find-requires
find-requires g c = subst (AllPairs IsBefore) (sym c.as_slice.ensures.value) c.self.invariant.rise

pub index-word-requires : goal.index-word-requires
index-word-requires g c =
    let words = c.self.inside.words in
    let long : length words.items ≡ vec_len words = search rules in
    let place = word_there c.as_slice.ensures.value c.in-Ok.ensures.found in
    omega (arith, place.within, long)

pub with-requires : goal.with-requires
with-requires g c =
    let w = c.index-word.result.now in
    let place = word_there c.as_slice.ensures.value c.in-Ok.ensures.found in
    record { block = ap (λ (v : Word). v.block) c.index-word.ensures ∙ place.is w }

pub index_mut-requires : goal.index_mut-requires
index_mut-requires g c =
    let words = c.self.inside.words in
    let long : length words.items ≡ vec_len words = search rules in
    let place = word_there c.as_slice.ensures.value c.in-Ok.ensures.found in
    omega (arith, place.within, long)

pub insert-requires : goal.insert-requires
insert-requires g c =
    let words = c.self.inside.words in
    let long : length words.items ≡ vec_len words = search rules in
    let place = place_there c.as_slice.ensures.value c.in-Err.ensures.missing in
    omega (arith, place.within, long)

pub invariant_of-self : goal.invariant_of-self
invariant_of-self g c =
    let ws = c.self.inside.words.items in
    let w = c.index-word.result.now in
    let place = word_there c.as_slice.ensures.value c.in-Ok.ensures.found in
    words_set ws c.in-Ok.place (c.args.number / 64) place c.with.result (c.with.ensures.block ∙ ap (λ (v : Word). v.block) c.index-word.ensures ∙ place.is w) c.self.invariant
    (more_full c.with.result c.args.number (numbers_of w) c.with.ensures.numbers)

pub returns-in-Ok-clause-inserted : goal.returns-in-Ok-clause-inserted
returns-in-Ok-clause-inserted g c = λ n.
    let ws = c.self.inside.words.items in
    let w = c.index-word.result.now in
    let place = word_there c.as_slice.ensures.value c.in-Ok.ensures.found in
    more_in ws c.in-Ok.place place.within c.with.result w c.args.number
    (λ m. c.with.ensures.numbers m ∙ ap (λ v. cond (c.args.number == m) true (has (numbers_of v) m)) c.index-word.ensures) n
    ∙ ap (λ ns. cond (c.args.number == n) true (has ns n)) c.self.view_is

pub invariant_of-self-in-Err : goal.invariant_of-self-in-Err
invariant_of-self-in-Err g c =
    let ws = c.self.inside.words.items in
    let v = c.one.result in
    let place = place_there c.as_slice.ensures.value c.in-Err.ensures.missing in
    subst AreWords (sym c.in_ok-insert-in-Err.ensures.items)
    (words_insert ws c.in-Err.place v (subst (λ b. IsPlaceFor ws b c.in-Err.place) (sym c.one.ensures.block) place) c.self.invariant c.one.ensures.fits (one_full v c.args.number c.one.ensures.numbers))

pub returns-in_ok-insert-in-Err-clause-inserted : goal.returns-in_ok-insert-in-Err-clause-inserted
returns-in_ok-insert-in-Err-clause-inserted g c = λ n.
    let ws = c.self.inside.words.items in
    let v = c.one.result in
    let place = place_there c.as_slice.ensures.value c.in-Err.ensures.missing in
    ap (λ (vs : List Word). has (numbers_in vs) n) c.in_ok-insert-in-Err.ensures.items
    ∙ one_in ws c.in-Err.place v (subst (λ b. IsPlaceFor ws b c.in-Err.place) (sym c.one.ensures.block) place) c.args.number c.one.ensures.numbers n
    ∙ ap (λ ns. cond (c.args.number == n) true (has ns n)) c.self.view_is

use Rattle.std.proofs.Common.{◌≡◌, ◌+◌, ◌-◌, ◌∙◌, ◌++◌, ap, arith, if◌then◌else◌, is_ok, length, replicate, take, vec_len}
use Rattle.std.proofs.lemmas.List.{length-replicate, length-take, take-replicate}
use Rattle.rel_travel.proofs.Marks.{blank_more, blank_none}
use Rattle.rel_travel.proofs.found.add_blank.Goals as goal

pub loop-blank-init : goal.loop-blank-init
loop-blank-init g c = record {
  filled = blank_none c.args.words.now.items (vec_len c.args.words.now);
  longer = omega arith;
  within = c.requires.longer;
  room = c.requires.room;
}

pub unwrap-requires : goal.unwrap-requires
unwrap-requires g c =
    let block = length-take c.min-more.result c.blank_block-blank.result.now in
    let room = c.loop-blank.invariant.room in
    c.extend_from_slice.ensures.succeeds (omega (arith, block, room, c.min-more.ensures, c.len-in-loop-blank.ensures))

pub loop-blank-preserved : goal.loop-blank-preserved
loop-blank-preserved g c =
    let old = c.args.words.now in
    let words = c.loop-blank.words in
    let more = c.min-more.result in
    let block = take more c.blank_block-blank.result.now in
    let blank : block ≡ replicate more 0 = ap (take more) c.blank_block-blank.ensures ∙ take-replicate more 256 0 (omega (arith, c.min-more.ensures)) in
    let long : length block ≡ more = ap length blank ∙ length-replicate more 0 in
    let items : c.extend_from_slice.new.self.items ≡ words.items ++ block =
    c.extend_from_slice.ensures.items ∙ ap (λ r. if is_ok r then words.items ++ block else words.items) c.unwrap.ensures in
    let len : vec_len c.extend_from_slice.new.self ≡ vec_len words + length block =
    c.extend_from_slice.ensures.len ∙ ap (λ r. if is_ok r then vec_len words + length block else vec_len words) c.unwrap.ensures in
    let longer = c.loop-blank.invariant.longer in
    let room = c.loop-blank.invariant.room in
    record {
      filled = blank_more old.items words.items c.extend_from_slice.new.self.items block (vec_len words - vec_len old) more (vec_len c.extend_from_slice.new.self - vec_len old) c.loop-blank.invariant.filled blank items (omega (arith, longer, len, long));
      longer = omega (arith, longer, len);
      within = omega (arith, len, long, c.min-more.ensures, c.len-in-loop-blank.ensures, c.loop-blank-test.true, c.len.ensures);
      room = omega (arith, room, c.extend_from_slice.ensures.capacity);
    }

pub returns : goal.returns
returns g c =
    let old = c.args.words.now in
    let within = c.loop-blank.invariant.within in
    let all : vec_len c.loop-blank.words ≡ c.args.count = omega (arith, within, c.loop-blank-test.false, c.len.ensures) in
    c.loop-blank.invariant.filled ∙ ap (λ n. old.items ++ replicate (n - vec_len old) 0) all

use Rattle.std.proofs.Common.{◌≡◌, ◌≢◌, ◌<◌, ◌+◌, ◌∙◌, ℕ, ◌∷◌, ap, get_or, length, map, sym, subst, set, take, arith}
use Rattle.std.specs.List.{Contains}
use Rattle.std.proofs.lemmas.List.{get_or-set_same, length-set}
use Rattle.ecs_model.specs.Depth.{greatest}
use Rattle.ecs_model.specs.Links.{depth, targets_in, upward}
use Rattle.ecs_model.proofs.LivePairs.{upward_below}
use Rattle.rel_travel.specs.Words.{AreNoted, IsNotedOf}
use Rattle.rel_travel.specs.declared.path.Step.{Step}
use Rattle.rel_travel.proofs.DepthWalks.{AreAsked, AreUnknown, IsWay, below_more, depth_is_less, fewer_unknown, more_numbers, noted_of_more, still_asked, still_unknown, way_below, way_from_place, way_is_below, way_is_short, way_leads, word_is}
use Rattle.rel_travel.proofs.depths.noted_depth.Goals as goal

pub first_unknown-requires : goal.first_unknown-requires
first_unknown-requires g c =
    let ids = g.G.Graph.ids c.args.graph.now in
    let r = c.args.relationship in
    let step = c.in-Some.step in
    let asked : AreAsked ids r c.loop-step.known (step ∷ c.pop.new.self.steps) = subst (λ fs. AreAsked ids r c.loop-step.known fs) c.in-Some.ensures.steps c.loop-step.invariant.asked in
    record {
      within = rw c.ids-ids.ensures (upward_below c.size.ensures.links r (length c.loop-step.known) (omega (arith, c.requires.words, c.loop-step.invariant.long)) step.index);
      before = rw c.ids-ids.ensures asked.0;
    }

pub push-requires-in-Some-first_unknown : goal.push-requires-in-Some-first_unknown
push-requires-in-Some-first_unknown g c =
    let ids = g.G.Graph.ids c.args.graph.now in
    let r = c.args.relationship in
    let links = c.size.ensures.links in
    let step = c.in-Some.step in
    let rest = c.pop.new.self.steps in
    let way : IsWay (upward ids r) c.args.index (step ∷ rest) = subst (λ fs. IsWay (upward ids r) c.args.index fs) c.in-Some.ensures.steps c.loop-step.invariant.way in
    let short = way_is_short links r c.requires.acyclic c.args.index step rest c.requires.inside way in
    omega (arith, short, c.requires.room, c.loop-step.invariant.room, c.in-Some.ensures.room, c.push.ensures.room, c.clear-2.ensures.room)

pub push-requires-in-Some-first_unknown-2 : goal.push-requires-in-Some-first_unknown-2
push-requires-in-Some-first_unknown-2 g c =
    let ids = g.G.Graph.ids c.args.graph.now in
    let r = c.args.relationship in
    let links = c.size.ensures.links in
    let step = c.in-Some.step in
    let rest = c.pop.new.self.steps in
    let way : IsWay (upward ids r) c.args.index (step ∷ rest) = subst (λ fs. IsWay (upward ids r) c.args.index fs) c.in-Some.ensures.steps c.loop-step.invariant.way in
    let short = way_is_short links r c.requires.acyclic c.args.index step rest c.requires.inside way in
    omega (arith, short, ap length c.push-in-Some-first_unknown.ensures.steps, c.push-in-Some-first_unknown.ensures.room, c.requires.room, c.loop-step.invariant.room, c.in-Some.ensures.room, c.push.ensures.room, c.clear-2.ensures.room)

pub loop-step-smaller-in-Some-first_unknown : goal.loop-step-smaller-in-Some-first_unknown
loop-step-smaller-in-Some-first_unknown g c =
    let ids = g.G.Graph.ids c.args.graph.now in
    let r = c.args.relationship in
    let links = c.size.ensures.links in
    let step = c.in-Some.step in
    let rest = c.pop.new.self.steps in
    let way : IsWay (upward ids r) c.args.index (step ∷ rest) = subst (λ fs. IsWay (upward ids r) c.args.index fs) c.in-Some.ensures.steps c.loop-step.invariant.way in
    let short = way_is_short links r c.requires.acyclic c.args.index step rest c.requires.inside way in
    omega (arith, short, ap length c.push-in-Some-first_unknown-2.ensures.steps, ap length c.push-in-Some-first_unknown.ensures.steps, ap length c.in-Some.ensures.steps)

pub greatest_word-word-requires : goal.greatest_word-word-requires
greatest_word-word-requires g c = rw c.ids-ids.ensures (upward_below c.size.ensures.links c.args.relationship (length c.loop-step.known) (omega (arith, c.requires.words, c.loop-step.invariant.long)) c.in-Some.step.index)

pub overflow_add-known : goal.overflow_add-known
overflow_add-known g c =
    let ids = g.G.Graph.ids c.args.graph.now in
    let r = c.args.relationship in
    let links = c.size.ensures.links in
    let step = c.in-Some.step in
    let rest = c.pop.new.self.steps in
    let way : IsWay (upward ids r) c.args.index (step ∷ rest) = subst (λ fs. IsWay (upward ids r) c.args.index fs) c.in-Some.ensures.steps c.loop-step.invariant.way in
    let short = way_is_short links r c.requires.acyclic c.args.index step rest c.requires.inside way in
    let entities = g.G.Graph.entities c.args.graph.now in
    let low = way_is_below links r c.requires.acyclic c.args.index step rest c.requires.inside way in
    let words = c.loop-step.known in
    let all : (t : ℕ) → Contains (upward ids r step.index) t → get_or words t 0 ≢ 0 = rw (← c.ids-ids.ensures) c.in-None.ensures.none in
    let word_of : c.greatest_word-word.result ≡ depth ids entities r step.index =
    c.greatest_word-word.ensures ∙ ap (λ xs. greatest (map (λ t. get_or words t 0) (targets_in xs r))) c.ids-ids.ensures ∙ word_is links r c.requires.acyclic words step.index c.loop-step.invariant.numbers all in
    omega (arith, word_of, depth_is_less links r c.requires.acyclic step.index low, c.size.ensures.size)

pub bounds-known-step : goal.bounds-known-step
bounds-known-step g c =
    let ids = g.G.Graph.ids c.args.graph.now in
    let r = c.args.relationship in
    let links = c.size.ensures.links in
    let step = c.in-Some.step in
    let rest = c.pop.new.self.steps in
    let way : IsWay (upward ids r) c.args.index (step ∷ rest) = subst (λ fs. IsWay (upward ids r) c.args.index fs) c.in-Some.ensures.steps c.loop-step.invariant.way in
    let short = way_is_short links r c.requires.acyclic c.args.index step rest c.requires.inside way in
    omega (arith, way_is_below links r c.requires.acyclic c.args.index step rest c.requires.inside way, c.requires.words, c.loop-step.invariant.long)

pub loop-step-preserved-in-Some-first_unknown : goal.loop-step-preserved-in-Some-first_unknown
loop-step-preserved-in-Some-first_unknown g c =
    let ids = g.G.Graph.ids c.args.graph.now in
    let r = c.args.relationship in
    let words = c.loop-step.known in
    let step = c.in-Some.step in
    let rest = c.pop.new.self.steps in
    let found = c.in-Some-first_unknown.unknown in
    let below : Step = record { index = step.index; place = found.place } in
    let above : Step = record { index = found.target; place = 0 } in
    let steps : c.push-in-Some-first_unknown-2.new.self.steps ≡ above ∷ below ∷ rest =
    c.push-in-Some-first_unknown-2.ensures.steps ∙ ap (λ fs. above ∷ fs) c.push-in-Some-first_unknown.ensures.steps in
    let way : IsWay (upward ids r) c.args.index (step ∷ rest) = subst (λ fs. IsWay (upward ids r) c.args.index fs) c.in-Some.ensures.steps c.loop-step.invariant.way in
    let asked : AreAsked ids r words (step ∷ rest) = subst (λ fs. AreAsked ids r words fs) c.in-Some.ensures.steps c.loop-step.invariant.asked in
    let unknown : AreUnknown (upward ids r) c.args.index words (step ∷ rest) = subst (λ fs. AreUnknown (upward ids r) c.args.index words fs) c.in-Some.ensures.steps c.loop-step.invariant.unknown in
    let target : Contains (upward ids r step.index) found.target = rw (← c.ids-ids.ensures) c.in-Some-first_unknown.ensures.target in
    let before : AreNoted words (targets_in (take found.place (ids step.index)) r) = rw (← c.ids-ids.ensures) c.in-Some-first_unknown.ensures.before in
    record {
      size = c.loop-step.invariant.size;
      room = omega (arith, c.loop-step.invariant.room, c.in-Some.ensures.room, c.push-in-Some-first_unknown.ensures.room, c.push-in-Some-first_unknown-2.ensures.room);
      long = c.loop-step.invariant.long;
      numbers = c.loop-step.invariant.numbers;
      way = subst (λ fs. IsWay (upward ids r) c.args.index fs) (sym steps) (target, way_from_place (upward ids r) c.args.index step found.place rest way);
      asked = subst (λ fs. AreAsked ids r words fs) (sym steps) ((λ x h. absurd (omega (arith, h.1))), (before, asked.1));
      unknown = subst (λ fs. AreUnknown (upward ids r) c.args.index words fs) (sym steps) (c.in-Some-first_unknown.ensures.unknown, (unknown.0, unknown.1));
      done = λ e. absurd (omega (arith, ap length (sym steps ∙ e)));
      noted = c.loop-step.invariant.noted;
      listed = c.loop-step.invariant.listed;
    }

pub add-requires : goal.add-requires
add-requires g c =
    let ids = g.G.Graph.ids c.args.graph.now in
    let r = c.args.relationship in
    let step = c.in-Some.step in
    let way : IsWay (upward ids r) c.args.index (step ∷ c.pop.new.self.steps) = subst (λ fs. IsWay (upward ids r) c.args.index fs) c.in-Some.ensures.steps c.loop-step.invariant.way in
    let low = way_is_below c.size.ensures.links r c.requires.acyclic c.args.index step c.pop.new.self.steps c.requires.inside way in
    omega (arith, low, c.requires.covered, c.loop-step.invariant.size, ap (λ f. f.size) c.clear.ensures)

pub loop-step-smaller : goal.loop-step-smaller
loop-step-smaller g c =
    let ids = g.G.Graph.ids c.args.graph.now in
    let r = c.args.relationship in
    let links = c.size.ensures.links in
    let step = c.in-Some.step in
    let rest = c.pop.new.self.steps in
    let way : IsWay (upward ids r) c.args.index (step ∷ rest) = subst (λ fs. IsWay (upward ids r) c.args.index fs) c.in-Some.ensures.steps c.loop-step.invariant.way in
    let short = way_is_short links r c.requires.acyclic c.args.index step rest c.requires.inside way in
    let entities = g.G.Graph.entities c.args.graph.now in
    let low = way_is_below links r c.requires.acyclic c.args.index step rest c.requires.inside way in
    let words = c.loop-step.known in
    let all : (t : ℕ) → Contains (upward ids r step.index) t → get_or words t 0 ≢ 0 = rw (← c.ids-ids.ensures) c.in-None.ensures.none in
    let word_of : c.greatest_word-word.result ≡ depth ids entities r step.index =
    c.greatest_word-word.ensures ∙ ap (λ xs. greatest (map (λ t. get_or words t 0) (targets_in xs r))) c.ids-ids.ensures ∙ word_is links r c.requires.acyclic words step.index c.loop-step.invariant.numbers all in
    let within : step.index < length words = omega (arith, low, c.requires.words, c.loop-step.invariant.long) in
    let unknown : AreUnknown (upward ids r) c.args.index words (step ∷ rest) = subst (λ fs. AreUnknown (upward ids r) c.args.index c.loop-step.known fs) c.in-Some.ensures.steps c.loop-step.invariant.unknown in
    omega (arith, short, fewer_unknown words step.index c.greatest_word-word.result within unknown.0, ap length c.in-Some.ensures.steps, c.size.ensures.size)

pub loop-step-preserved : goal.loop-step-preserved
loop-step-preserved g c =
    let ids = g.G.Graph.ids c.args.graph.now in
    let r = c.args.relationship in
    let links = c.size.ensures.links in
    let step = c.in-Some.step in
    let rest = c.pop.new.self.steps in
    let way : IsWay (upward ids r) c.args.index (step ∷ rest) = subst (λ fs. IsWay (upward ids r) c.args.index fs) c.in-Some.ensures.steps c.loop-step.invariant.way in
    let short = way_is_short links r c.requires.acyclic c.args.index step rest c.requires.inside way in
    let entities = g.G.Graph.entities c.args.graph.now in
    let low = way_is_below links r c.requires.acyclic c.args.index step rest c.requires.inside way in
    let words = c.loop-step.known in
    let all : (t : ℕ) → Contains (upward ids r step.index) t → get_or words t 0 ≢ 0 = rw (← c.ids-ids.ensures) c.in-None.ensures.none in
    let word_of : c.greatest_word-word.result ≡ depth ids entities r step.index =
    c.greatest_word-word.ensures ∙ ap (λ xs. greatest (map (λ t. get_or words t 0) (targets_in xs r))) c.ids-ids.ensures ∙ word_is links r c.requires.acyclic words step.index c.loop-step.invariant.numbers all in
    let within : step.index < length words = omega (arith, low, c.requires.words, c.loop-step.invariant.long) in
    let unknown : AreUnknown (upward ids r) c.args.index words (step ∷ rest) = subst (λ fs. AreUnknown (upward ids r) c.args.index c.loop-step.known fs) c.in-Some.ensures.steps c.loop-step.invariant.unknown in
    let word = c.greatest_word-word.result + 1 in
    let asked : AreAsked ids r words (step ∷ rest) = subst (λ fs. AreAsked ids r words fs) c.in-Some.ensures.steps c.loop-step.invariant.asked in
    record {
      size = c.add.ensures.size ∙ c.loop-step.invariant.size;
      room = omega (arith, c.loop-step.invariant.room, c.in-Some.ensures.room);
      long = length-set words step.index word ∙ c.loop-step.invariant.long;
      numbers = more_numbers links r c.requires.acyclic words step.index word within (ap (λ n. n + 1) word_of) c.loop-step.invariant.numbers;
      way = way_below (upward ids r) c.args.index step rest way;
      asked = still_asked ids r words step.index c.greatest_word-word.result rest within asked.1;
      unknown = still_unknown (upward ids r) c.args.index c.requires.acyclic words step.index word rest (way_below (upward ids r) c.args.index step rest way) (way_leads (upward ids r) c.args.index step rest way) unknown.1;
      done = λ none e.
          let last : step.index ≡ c.args.index = subst (λ fs. IsWay (upward ids r) c.args.index (step ∷ fs)) none way in
          let there = ap (λ k. get_or (set words step.index word) k 0) last in
          let same = get_or-set_same words step.index word 0 within in
          omega (arith, same, there, e);
      noted = λ none. subst (λ xs. IsNotedOf xs (set words step.index word)) (sym c.add.ensures.items) (noted_of_more words c.loop-step.found.items step.index word (c.loop-step.invariant.noted none));
      listed = subst (λ xs. (i : ℕ) → Contains xs i → i < g.G.Graph.size c.args.graph.now) (sym c.add.ensures.items) (below_more (g.G.Graph.size c.args.graph.now) c.loop-step.found.items step.index low c.loop-step.invariant.listed);
    }

pub offset_bounds-known-index : goal.offset_bounds-known-index
offset_bounds-known-index g c = grind arith

pub bounds-known-index : goal.bounds-known-index
bounds-known-index g c = grind arith

pub bounds-known-index-then-known-index-ne0 : goal.bounds-known-index-then-known-index-ne0
bounds-known-index-then-known-index-ne0 g c = grind arith

pub overflow_sub-result : goal.overflow_sub-result
overflow_sub-result g c = grind arith

pub returns-then-known-index-ne0-clause-size : goal.returns-then-known-index-ne0-clause-size
returns-then-known-index-ne0-clause-size g c = grind arith

pub returns-then-known-index-ne0-clause-room : goal.returns-then-known-index-ne0-clause-room
returns-then-known-index-ne0-clause-room g c = grind arith

pub returns-then-known-index-ne0-clause-length : goal.returns-then-known-index-ne0-clause-length
returns-then-known-index-ne0-clause-length g c = grind arith

pub returns-then-known-index-ne0-clause-known : goal.returns-then-known-index-ne0-clause-known
returns-then-known-index-ne0-clause-known g c = grind arith

pub returns-then-known-index-ne0-clause-noted : goal.returns-then-known-index-ne0-clause-noted
returns-then-known-index-ne0-clause-noted g c = grind arith

pub returns-then-known-index-ne0-clause-listed : goal.returns-then-known-index-ne0-clause-listed
returns-then-known-index-ne0-clause-listed g c = grind arith

pub returns-then-known-index-ne0-clause-depth : goal.returns-then-known-index-ne0-clause-depth
returns-then-known-index-ne0-clause-depth g c = grind arith

pub push-requires : goal.push-requires
push-requires g c = grind arith

pub loop-step-init : goal.loop-step-init
loop-step-init g c = grind arith

pub overflow_cast-known : goal.overflow_cast-known
overflow_cast-known g c = grind arith

pub offset_bounds-known-step : goal.offset_bounds-known-step
offset_bounds-known-step g c = grind arith

pub offset_bounds-known-index-2 : goal.offset_bounds-known-index-2
offset_bounds-known-index-2 g c = grind arith

pub bounds-known-index-2 : goal.bounds-known-index-2
bounds-known-index-2 g c = grind arith

pub overflow_sub-result-2 : goal.overflow_sub-result-2
overflow_sub-result-2 g c = grind arith

pub returns-clause-size : goal.returns-clause-size
returns-clause-size g c = grind arith

pub returns-clause-room : goal.returns-clause-room
returns-clause-room g c = grind arith

pub returns-clause-length : goal.returns-clause-length
returns-clause-length g c = grind arith

pub returns-clause-known : goal.returns-clause-known
returns-clause-known g c = grind arith

pub returns-clause-noted : goal.returns-clause-noted
returns-clause-noted g c = grind arith

pub returns-clause-listed : goal.returns-clause-listed
returns-clause-listed g c = grind arith

pub returns-clause-depth : goal.returns-clause-depth
returns-clause-depth g c = grind arith

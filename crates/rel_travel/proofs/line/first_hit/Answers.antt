use Rattle.std.proofs.lemmas.Grind.{common_steps}
use Rattle.std.proofs.Common.{ℕ, ◌≡◌, ◌<◌, [], ◌∷◌, ◌++◌, Some, false, length, get_or, find, sym, ap, subst, ◌∙◌, refl, arith}
use Rattle.std.proofs.lemmas.List.{length-append}
use Rattle.rel_travel.specs.Finds.{is_among}
use Rattle.id_pattern.specs.Patterns.{matches}
use Rattle.std.specs.List.{list_any}
use Rattle.rel_travel.specs.LineSteps.{IsMet}
use Rattle.rel_travel.specs.UpWords.{AllFind}
use Rattle.rel_travel.specs.declared.line.Met.{Met}
use Rattle.ecs_model.specs.Links.{ancestor_line, upward}
use Rattle.rel_travel.proofs.Growth.{is_among_tells}
use Rattle.ecs_model.proofs.LivePairs.{next_below, upward_lives}
use Rattle.rel_travel.proofs.LineSearch.{IsSearched, IsSearched-begin, IsSearched-enter, IsSearched-hit, IsSearched-known, IsSearched-leave, IsSearched-left, IsSearched-seen, IsSearched-skip, IsSearched-way}
use Rattle.ecs_model.proofs.ShortLines.{line_unfolds}
use Rattle.rel_travel.proofs.line.first_hit.Goals as goal

pub loop-step-init : goal.loop-step-init
loop-step-init g c =
    let ids = g.G.Graph.ids c.args.graph.now in
    let r = c.args.relationship in
    let hit = λ (t : ℕ). list_any (matches c.args.pattern) (ids t) in
    let entities = g.G.Graph.entities c.args.graph.now in
    let ancestors = ancestor_line ids entities r in
    let unfolds = line_unfolds (upward ids r) entities (upward_lives c.size.ensures.links r) c.requires.acyclic in
    record {
      size = refl;
      room = omega arith;
      fits = rw c.clear.ensures (omega arith);
      depth = rw (c.push.ensures.steps, c.clear-2.ensures.steps) (omega arith);
      searched = rw (c.push.ensures.steps, c.clear-2.ensures.steps, c.clear.ensures) (IsSearched-begin ids r hit ancestors unfolds c.args.index);
      known = c.requires.known;
    }

pub returns-in-Found-clause-first : goal.returns-in-Found-clause-first
returns-in-Found-clause-first g c =
    let ids = g.G.Graph.ids c.args.graph.now in
    let r = c.args.relationship in
    let hit = λ (t : ℕ). list_any (matches c.args.pattern) (ids t) in
    let entities = g.G.Graph.entities c.args.graph.now in
    let ancestors = ancestor_line ids entities r in
    let step = c.in-Some.step in
    let t = c.in-Some-target_under.target in
    let before : IsSearched ids r hit ancestors c.args.index (step ∷ c.pop.new.self.steps) c.loop-step.found.items = rw (← c.in-Some.ensures.steps) c.loop-step.invariant.searched in
    let l : step.place < length (ids step.index) = rw (← c.ids-ids.ensures) c.if-step-ids.true in
    let there : c.index-ids-step.result ≡ get_or (ids step.index) step.place c.index-ids-step.result = rw (← c.ids-ids.ensures) c.index-ids-step.is in
    let met : IsMet hit ancestors t (Met.Found c.in-Found.hit) = subst (λ m. IsMet hit ancestors t m) c.in-Found.is (c.met_at.ensures.met ancestors c.loop-step.invariant.known) in
    sym (IsSearched-hit ids r hit ancestors c.args.index step c.pop.new.self.steps c.loop-step.found.items c.index-ids-step.result t c.in-Found.hit l there (sym c.in-Some-target_under.ensures) met before)

pub returns-in-Found-clause-known : goal.returns-in-Found-clause-known
returns-in-Found-clause-known g c =
    let ids = g.G.Graph.ids c.args.graph.now in
    let r = c.args.relationship in
    let hit = λ (t : ℕ). list_any (matches c.args.pattern) (ids t) in
    let entities = g.G.Graph.entities c.args.graph.now in
    let ancestors = ancestor_line ids entities r in
    let step = c.in-Some.step in
    let t = c.in-Some-target_under.target in
    let before : IsSearched ids r hit ancestors c.args.index (step ∷ c.pop.new.self.steps) c.loop-step.found.items = rw (← c.in-Some.ensures.steps) c.loop-step.invariant.searched in
    let l : step.place < length (ids step.index) = rw (← c.ids-ids.ensures) c.if-step-ids.true in
    let there : c.index-ids-step.result ≡ get_or (ids step.index) step.place c.index-ids-step.result = rw (← c.ids-ids.ensures) c.index-ids-step.is in
    let met : IsMet hit ancestors t (Met.Found c.in-Found.hit) = subst (λ m. IsMet hit ancestors t m) c.in-Found.is (c.met_at.ensures.met ancestors c.loop-step.invariant.known) in
    let from = λ (e : ℕ). find hit (e ∷ ancestors e) in
    let way = IsSearched-way ids r hit ancestors c.args.index step c.pop.new.self.steps c.loop-step.found.items c.index-ids-step.result t c.in-Found.hit l there (sym c.in-Some-target_under.ensures) met before in
    c.note_way.ensures.known from (subst (λ fs. AllFind from (Some c.in-Found.hit) fs) (sym c.push-then-step-ids.ensures.steps) way) c.loop-step.invariant.known

pub loop-step-preserved-in-Nothing : goal.loop-step-preserved-in-Nothing
loop-step-preserved-in-Nothing g c =
    let ids = g.G.Graph.ids c.args.graph.now in
    let r = c.args.relationship in
    let hit = λ (t : ℕ). list_any (matches c.args.pattern) (ids t) in
    let entities = g.G.Graph.entities c.args.graph.now in
    let ancestors = ancestor_line ids entities r in
    let unfolds = line_unfolds (upward ids r) entities (upward_lives c.size.ensures.links r) c.requires.acyclic in
    let step = c.in-Some.step in
    let t = c.in-Some-target_under.target in
    let before : IsSearched ids r hit ancestors c.args.index (step ∷ c.pop.new.self.steps) c.loop-step.found.items = rw (← c.in-Some.ensures.steps) c.loop-step.invariant.searched in
    let l : step.place < length (ids step.index) = rw (← c.ids-ids.ensures) c.if-step-ids.true in
    let there : c.index-ids-step.result ≡ get_or (ids step.index) step.place c.index-ids-step.result = rw (← c.ids-ids.ensures) c.index-ids-step.is in
    let met : IsMet hit ancestors t Met.Nothing = subst (λ m. IsMet hit ancestors t m) c.in-Nothing.is (c.met_at.ensures.met ancestors c.loop-step.invariant.known) in
    let unseen : is_among c.loop-step.found.items t ≡ false = sym c.is_found.ensures ∙ c.if-not-is_found.true in
    let items : c.add.new.self.items ≡ c.loop-step.found.items ++ t ∷ [] = rw (c.add.ensures.items, unseen) in
    record {
      size = c.add.ensures.size ∙ c.loop-step.invariant.size;
      room = omega arith;
      fits = c.add.ensures.fits;
      depth = rw (c.push-then-step-ids.ensures.steps, items) (omega (arith, ap length c.in-Some.ensures.steps, length-append c.loop-step.found.items (t ∷ [])));
      searched =
          rw (c.push-then-step-ids.ensures.steps, items)
          (IsSearched-known ids r hit ancestors unfolds c.args.index step c.pop.new.self.steps c.loop-step.found.items c.index-ids-step.result t l there (sym c.in-Some-target_under.ensures) met before);
      known = c.loop-step.invariant.known;
    }

pub loop-step-preserved-in-Missed : goal.loop-step-preserved-in-Missed
loop-step-preserved-in-Missed g c =
    let ids = g.G.Graph.ids c.args.graph.now in
    let r = c.args.relationship in
    let hit = λ (t : ℕ). list_any (matches c.args.pattern) (ids t) in
    let entities = g.G.Graph.entities c.args.graph.now in
    let ancestors = ancestor_line ids entities r in
    let unfolds = line_unfolds (upward ids r) entities (upward_lives c.size.ensures.links r) c.requires.acyclic in
    let step = c.in-Some.step in
    let t = c.in-Some-target_under.target in
    let before : IsSearched ids r hit ancestors c.args.index (step ∷ c.pop.new.self.steps) c.loop-step.found.items = rw (← c.in-Some.ensures.steps) c.loop-step.invariant.searched in
    let l : step.place < length (ids step.index) = rw (← c.ids-ids.ensures) c.if-step-ids.true in
    let there : c.index-ids-step.result ≡ get_or (ids step.index) step.place c.index-ids-step.result = rw (← c.ids-ids.ensures) c.index-ids-step.is in
    let met : IsMet hit ancestors t Met.Missed = subst (λ m. IsMet hit ancestors t m) c.in-Missed.is (c.met_at.ensures.met ancestors c.loop-step.invariant.known) in
    let unseen : is_among c.loop-step.found.items t ≡ false = sym c.is_found.ensures ∙ c.if-not-is_found.true in
    let items : c.add-in-Missed.new.self.items ≡ c.loop-step.found.items ++ t ∷ [] = rw (c.add-in-Missed.ensures.items, unseen) in
    record {
      size = c.add-in-Missed.ensures.size ∙ c.loop-step.invariant.size;
      room = omega arith;
      fits = c.add-in-Missed.ensures.fits;
      depth = rw (c.push-in-Missed.ensures.steps, c.push-then-step-ids.ensures.steps, items) (omega (arith, ap length c.in-Some.ensures.steps, length-append c.loop-step.found.items (t ∷ [])));
      searched =
          rw (c.push-in-Missed.ensures.steps, c.push-then-step-ids.ensures.steps, items)
          (IsSearched-enter ids r hit ancestors unfolds c.args.index step c.pop.new.self.steps c.loop-step.found.items c.index-ids-step.result t l there (sym c.in-Some-target_under.ensures) met before);
      known = c.loop-step.invariant.known;
    }

pub loop-step-preserved-else-not-is_found : goal.loop-step-preserved-else-not-is_found
loop-step-preserved-else-not-is_found g c =
    let ids = g.G.Graph.ids c.args.graph.now in
    let r = c.args.relationship in
    let hit = λ (t : ℕ). list_any (matches c.args.pattern) (ids t) in
    let entities = g.G.Graph.entities c.args.graph.now in
    let ancestors = ancestor_line ids entities r in
    let unfolds = line_unfolds (upward ids r) entities (upward_lives c.size.ensures.links r) c.requires.acyclic in
    let step = c.in-Some.step in
    let before : IsSearched ids r hit ancestors c.args.index (step ∷ c.pop.new.self.steps) c.loop-step.found.items = rw (← c.in-Some.ensures.steps) c.loop-step.invariant.searched in
    let l : step.place < length (ids step.index) = rw (← c.ids-ids.ensures) c.if-step-ids.true in
    let there : c.index-ids-step.result ≡ get_or (ids step.index) step.place c.index-ids-step.result = rw (← c.ids-ids.ensures) c.index-ids-step.is in
    record {
      size = c.loop-step.invariant.size;
      room = omega arith;
      fits = c.loop-step.invariant.fits;
      depth = rw c.push-then-step-ids.ensures.steps (omega (arith, ap length c.in-Some.ensures.steps));
      searched =
          rw c.push-then-step-ids.ensures.steps
          (IsSearched-seen ids r hit ancestors unfolds c.args.index step c.pop.new.self.steps c.loop-step.found.items c.index-ids-step.result c.in-Some-target_under.target l there (sym c.in-Some-target_under.ensures)
          ((is_among_tells c.loop-step.found.items c.in-Some-target_under.target).0 (sym c.is_found.ensures ∙ c.if-not-is_found.false)) before);
      known = c.loop-step.invariant.known;
    }

pub loop-step-preserved-in_default-target_under : goal.loop-step-preserved-in_default-target_under
loop-step-preserved-in_default-target_under g c =
    let ids = g.G.Graph.ids c.args.graph.now in
    let r = c.args.relationship in
    let hit = λ (t : ℕ). list_any (matches c.args.pattern) (ids t) in
    let entities = g.G.Graph.entities c.args.graph.now in
    let ancestors = ancestor_line ids entities r in
    let step = c.in-Some.step in
    let before : IsSearched ids r hit ancestors c.args.index (step ∷ c.pop.new.self.steps) c.loop-step.found.items = rw (← c.in-Some.ensures.steps) c.loop-step.invariant.searched in
    let l : step.place < length (ids step.index) = rw (← c.ids-ids.ensures) c.if-step-ids.true in
    let there : c.index-ids-step.result ≡ get_or (ids step.index) step.place c.index-ids-step.result = rw (← c.ids-ids.ensures) c.index-ids-step.is in
    record {
      size = c.loop-step.invariant.size;
      room = omega arith;
      fits = c.loop-step.invariant.fits;
      depth = rw c.push-then-step-ids.ensures.steps (omega (arith, ap length c.in-Some.ensures.steps));
      searched =
          rw c.push-then-step-ids.ensures.steps
          (IsSearched-skip ids r hit ancestors c.args.index step c.pop.new.self.steps c.loop-step.found.items c.index-ids-step.result l there (sym c.in_default-target_under.ensures) before);
      known = c.loop-step.invariant.known;
    }

pub loop-step-preserved : goal.loop-step-preserved
loop-step-preserved g c =
    let ids = g.G.Graph.ids c.args.graph.now in
    let r = c.args.relationship in
    let hit = λ (t : ℕ). list_any (matches c.args.pattern) (ids t) in
    let entities = g.G.Graph.entities c.args.graph.now in
    let ancestors = ancestor_line ids entities r in
    let unfolds = line_unfolds (upward ids r) entities (upward_lives c.size.ensures.links r) c.requires.acyclic in
    let step = c.in-Some.step in
    let before : IsSearched ids r hit ancestors c.args.index (step ∷ c.pop.new.self.steps) c.loop-step.found.items = rw (← c.in-Some.ensures.steps) c.loop-step.invariant.searched in
    record {
      size = c.loop-step.invariant.size;
      room = omega arith;
      fits = c.loop-step.invariant.fits;
      depth = omega (arith, ap length c.in-Some.ensures.steps);
      searched = IsSearched-leave ids r hit ancestors unfolds c.args.index step c.pop.new.self.steps c.loop-step.found.items (rw (← c.ids-ids.ensures) c.if-step-ids.false) before;
      known = c.note_left.ensures (λ (e : ℕ). find hit (e ∷ ancestors e)) (λ some. IsSearched-left ids r hit ancestors unfolds c.args.index step c.pop.new.self.steps c.loop-step.found.items (rw (← c.ids-ids.ensures) c.if-step-ids.false) before some) c.loop-step.invariant.known;
    }

pub is_found-requires : goal.is_found-requires
is_found-requires g c =
    let ids = g.G.Graph.ids c.args.graph.now in
    let step = c.in-Some.step in
    let l : step.place < length (ids step.index) = rw (← c.ids-ids.ensures) c.if-step-ids.true in
    let there : c.index-ids-step.result ≡ get_or (ids step.index) step.place c.index-ids-step.result = rw (← c.ids-ids.ensures) c.index-ids-step.is in
    let below = next_below c.size.ensures.links c.args.relationship c.args.found.now.size c.requires.covered step.index step.place c.in-Some-target_under.target c.index-ids-step.result l there (sym c.in-Some-target_under.ensures) in
    omega (arith, below, c.loop-step.invariant.size, ap (λ f. f.size) c.clear.ensures)

pub add-requires : goal.add-requires
add-requires g c =
    let ids = g.G.Graph.ids c.args.graph.now in
    let step = c.in-Some.step in
    let l : step.place < length (ids step.index) = rw (← c.ids-ids.ensures) c.if-step-ids.true in
    let there : c.index-ids-step.result ≡ get_or (ids step.index) step.place c.index-ids-step.result = rw (← c.ids-ids.ensures) c.index-ids-step.is in
    let below = next_below c.size.ensures.links c.args.relationship c.args.found.now.size c.requires.covered step.index step.place c.in-Some-target_under.target c.index-ids-step.result l there (sym c.in-Some-target_under.ensures) in
    omega (arith, below, c.loop-step.invariant.size, ap (λ f. f.size) c.clear.ensures)

pub add-requires-in-Missed : goal.add-requires-in-Missed
add-requires-in-Missed g c =
    let ids = g.G.Graph.ids c.args.graph.now in
    let step = c.in-Some.step in
    let l : step.place < length (ids step.index) = rw (← c.ids-ids.ensures) c.if-step-ids.true in
    let there : c.index-ids-step.result ≡ get_or (ids step.index) step.place c.index-ids-step.result = rw (← c.ids-ids.ensures) c.index-ids-step.is in
    let below = next_below c.size.ensures.links c.args.relationship c.args.found.now.size c.requires.covered step.index step.place c.in-Some-target_under.target c.index-ids-step.result l there (sym c.in-Some-target_under.ensures) in
    omega (arith, below, c.loop-step.invariant.size, ap (λ f. f.size) c.clear.ensures)

pub push-requires : goal.push-requires
push-requires g c = grind arith

pub overflow_add-step : goal.overflow_add-step
overflow_add-step g c = grind arith

pub push-requires-then-step-ids : goal.push-requires-then-step-ids
push-requires-then-step-ids g c = grind arith

pub offset_bounds-ids-step : goal.offset_bounds-ids-step
offset_bounds-ids-step g c = grind arith

pub bounds-ids-step : goal.bounds-ids-step
bounds-ids-step g c = grind arith

pub returns-in-Found-clause-size : goal.returns-in-Found-clause-size
returns-in-Found-clause-size g c = grind arith

pub returns-in-Found-clause-room : goal.returns-in-Found-clause-room
returns-in-Found-clause-room g c = grind arith

pub loop-step-smaller-in-Nothing : goal.loop-step-smaller-in-Nothing
loop-step-smaller-in-Nothing g c = grind (arith, common_steps)

pub push-requires-in-Missed : goal.push-requires-in-Missed
push-requires-in-Missed g c = grind (arith, common_steps)

pub loop-step-smaller-in-Missed : goal.loop-step-smaller-in-Missed
loop-step-smaller-in-Missed g c = grind (arith, common_steps)

pub loop-step-smaller-else-not-is_found : goal.loop-step-smaller-else-not-is_found
loop-step-smaller-else-not-is_found g c = grind (arith, common_steps)

pub loop-step-smaller-in_default-target_under : goal.loop-step-smaller-in_default-target_under
loop-step-smaller-in_default-target_under g c = grind (arith, common_steps)

pub loop-step-smaller : goal.loop-step-smaller
loop-step-smaller g c = grind (arith, common_steps)

pub returns-clause-size : goal.returns-clause-size
returns-clause-size g c = grind arith

pub returns-clause-room : goal.returns-clause-room
returns-clause-room g c = grind arith

pub returns-clause-first : goal.returns-clause-first
returns-clause-first g c = grind arith

pub returns-clause-known : goal.returns-clause-known
returns-clause-known g c = grind arith

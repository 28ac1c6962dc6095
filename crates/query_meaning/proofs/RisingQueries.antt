-- A current query asks ancestors along relationships without cycles: each is ChildOf or is mentioned as Traversable.
use Rattle.std.specs.Prelude.{◌≡◌, ◌⊎◌, ℕ, ◌+◌, Bool, true, false, not, List, [], ◌∷◌, ◌++◌, flat_map, is_none, is_some, length, option_to_list, Option, Some, None, Ok, cond}
use Rattle.std.specs.List.{All}
use Rattle.std.specs.Option.{option_map_or}
use Rattle.std.proofs.Common.{ap, sym, ◌∙◌, refl, inl, inr, subst}
use Rattle.std.proofs.lemmas.List.Elements.{All-append, All-cons, All-head, All-nil, All-weaker}
use Rattle.ecs_id.specs.Id.{id_cmp, plain}
use Rattle.ecs_id.specs.declared.EntityId.{EntityId}
use Rattle.query_model.specs.declared.Span.{Span}
use Rattle.query_model.specs.declared.faults.FaultKind.TheVariants.{NotTraversable, UnknownName}
use Rattle.query_model.specs.declared.query.Mention.{Mention}
use Rattle.query_model.specs.declared.query.Position.TheVariants.{Component, Source, Target, Risen}
use Rattle.query_model.specs.Faults.{fault_at}
use Rattle.query_model.specs.Syntax.{Spoken, Word, Var, Any, AnyOnce, Reference, at, Up, Cascade, Rise, none, up, Flags, TermSyntax, Part, term, opened, closed, equality, Syntax}
use Rattle.query_model.specs.Levels.{Path, path_behind, path_in, placed}
use Rattle.query_model.specs.Uses.{Use, along_what, rise_of, risen, uses_of, uses_of_term, written}
use Rattle.query_model.specs.Scope.{Sighting}
use Rattle.query_model.specs.Numbers.{Variable}
use Rattle.query_model.specs.Cascades.{Cascading, cascades, cascading_by, cascading_in, cascading_part}
use Rattle.query_model.specs.Check.{Known, when}
use Rattle.query_model.specs.Query.{Item, must, may, either, equal, differ, Query, asked_up, cascade_of, checked_query, checked_term, child_of, entity_along, entity_cascaded, entity_named, entity_spoken, is_as_checked, mention_of, query_of, up_of, is_a, reads_bases}
use Rattle.ecs_model.specs.BuiltIns.{acyclic, traversable}
use Rattle.ecs_model.specs.Links.{IsAcyclic}
use Rattle.ecs_model.specs.Query.{known_of}
use Rattle.ecs_model.specs.World.{WorldState, first_world, holds, ids_of, key_cmp, value_of}
use Rattle.query_meaning.specs.Laws.{CheckedQueriesGoUpWithoutCycles}
use Rattle.query_meaning.specs.Names.{entry_rises, item_rises, term_rises}
use Rattle.query_meaning.specs.Standing.{CurrentQueriesGoUpWithoutCycles, CurrentQueriesOrderWithoutCycles, IsCurrentIn}
use Rattle.ecs_model.specs.steps.WellFormed.{IsWellFormed}
use Rattle.query_meaning.specs.Variables.{entries}
use Rattle.query_model.proofs.SoundTerms.{left_nil}
use Rattle.query_meaning.proofs.AskedQueries.{asked, checked_faultless}
use Rattle.query_meaning.proofs.ItemTests.{All-left, All-right, holds_in_entries, of_item}
use Rattle.query_meaning.proofs.LevelHolding.{In-list_all}
use Rattle.query_meaning.proofs.Lists.{In}
use Rattle.query_meaning.proofs.MentionedEntities.{IsGood, IsMentioned, asked_queries_are_current, from_checked, good_references, word_mentioned}
use Rattle.query_meaning.proofs.CheckedQueries.{not_faulty}

module _ (k : Known) (ms : List Mention) where
  abbrev Good : Use → Type 0
  Good u = IsGood k ms u

  -- ChildOf, IsA, or mentioned as Traversable
  abbrev GoesUp : ℕ → Type 0
  GoesUp r = ((r ≡ child_of) ⊎ (r ≡ is_a)) ⊎ (IsMentioned k ms r × (k.traversable r ≡ true))

  -- an entity that was found Traversable
  found_traversable : (o : Option EntityId) (s : Span)
      → when (is_none o) (fault_at UnknownName s) ++ option_map_or (λ (e : EntityId). when (not (k.traversable e.index)) (fault_at NotTraversable s)) o [] ≡ []
      → k.traversable (option_map_or (λ (e : EntityId). e.index) o 0) ≡ true
  found_traversable None s e = absurd (cc)
  found_traversable (Some x) s e = not_faulty (k.traversable x.index) (fault_at NotTraversable s) e

  spoken_goes_up : (v : Spoken) (s : Span) → Good (record { position = Risen; reference = at v s }) → All GoesUp (option_to_list (entity_spoken k v))
  spoken_goes_up (Word n) s g =
      let unknown = when (is_none (k.named n)) (fault_at UnknownName s) in
      All-cons GoesUp _ [] (inr (word_mentioned k ms (k.named n) (fault_at UnknownName s) (left_nil unknown _ g.0) g.1, found_traversable (k.named n) s g.0)) (All-nil GoesUp)
  spoken_goes_up (Var v) s g = All-nil GoesUp
  spoken_goes_up Any s g = All-nil GoesUp
  spoken_goes_up AnyOnce s g = All-nil GoesUp

  along_goes_up : (r : Option Reference) → All Good (written Risen r) → All GoesUp (option_to_list (entity_along k r))
  along_goes_up None g = All-cons GoesUp child_of [] (inl (inl refl)) (All-nil GoesUp)
  along_goes_up (Some r) g = spoken_goes_up r.spoken r.span (All-head Good (record { position = Risen; reference = r }) [] g)

  flags_go_up : (f : Option Flags) → All Good (written Risen (along_what (rise_of f))) → All GoesUp (option_to_list (up_of k f))
  flags_go_up None g = All-nil GoesUp
  flags_go_up (Some f) g = rise_goes_up f.rise g
    where
      rise_goes_up : (r : Rise) → All Good (written Risen (along_what r)) → All GoesUp (option_to_list (asked_up k r))
      rise_goes_up none g = All-nil GoesUp
      rise_goes_up (up w r) g = along_goes_up r g

  -- the entity after a `cascade`
  named_goes_up : (o : Option EntityId) → GoesUp (option_map_or (λ (e : EntityId). e.index) o 0) → All (λ (e : EntityId). GoesUp e.index) (option_to_list o)
  named_goes_up None g = All-nil (λ (e : EntityId). GoesUp e.index)
  named_goes_up (Some e) g = All-cons (λ (e : EntityId). GoesUp e.index) e [] g (All-nil (λ (e : EntityId). GoesUp e.index))

  spoken_cascaded : (v : Spoken) (s : Span) → Good (record { position = Risen; reference = at v s }) → All (λ (e : EntityId). GoesUp e.index) (option_to_list (entity_named k v))
  spoken_cascaded (Word n) s g = named_goes_up (k.named n) (All-head GoesUp _ [] (spoken_goes_up (Word n) s g))
  spoken_cascaded (Var v) s g = All-nil (λ (e : EntityId). GoesUp e.index)
  spoken_cascaded Any s g = All-nil (λ (e : EntityId). GoesUp e.index)
  spoken_cascaded AnyOnce s g = All-nil (λ (e : EntityId). GoesUp e.index)

  along_cascaded : (r : Option Reference) → All Good (written Risen r) → All (λ (e : EntityId). GoesUp e.index) (option_to_list (entity_cascaded k r))
  along_cascaded None g = All-cons (λ (e : EntityId). GoesUp e.index) (record { index = child_of; generation = 0 }) [] (inl (inl refl)) (All-nil (λ (e : EntityId). GoesUp e.index))
  along_cascaded (Some r) g = spoken_cascaded r.spoken r.span (All-head Good (record { position = Risen; reference = r }) [] g)

  rise_written : (levels : ℕ) (source : Option Reference) (r : Rise) → All Good (written Risen (along_what r)) → All (λ (c : Cascading). All Good (written Risen c.along)) (cascading_by levels source r)
  rise_written levels source none g = All-nil (λ (c : Cascading). All Good (written Risen c.along))
  rise_written levels source (up Up r) g = All-nil (λ (c : Cascading). All Good (written Risen c.along))
  rise_written levels source (up (Cascade s) r) g = All-cons (λ (c : Cascading). All Good (written Risen c.along)) _ [] g (All-nil (λ (c : Cascading). All Good (written Risen c.along)))

  part_written : (levels : ℕ) (p : Part) → All Good (uses_of p) → All (λ (c : Cascading). All Good (written Risen c.along)) (cascading_in levels p)
  part_written levels (term role t) h =
      let c = written Component (Some t.component) in
      let s = written Source t.source in
      let r = written Risen (risen t) in
      let g = written Target t.target in
      rise_written levels t.source (rise_of t.flags) (All-right Good (c ++ s) r (All-left Good (c ++ s ++ r) g h))
  part_written levels (opened s) h = All-nil (λ (c : Cascading). All Good (written Risen c.along))
  part_written levels closed h = All-nil (λ (c : Cascading). All Good (written Risen c.along))
  part_written levels (equality v same r) h = All-nil (λ (c : Cascading). All Good (written Risen c.along))

  all_written : (n : ℕ) (path : Path) (ps : List Part) → All Good (flat_map uses_of ps) → All (λ (c : Cascading). All Good (written Risen c.along)) (flat_map cascading_part (placed n path ps))
  all_written n path [] h = All-nil (λ (c : Cascading). All Good (written Risen c.along))
  all_written n path (p ∷ ps) h =
      All-append (λ (c : Cascading). All Good (written Risen c.along)) (cascading_in (length (path_in n path p)) p) (flat_map cascading_part (placed (n + 1) (path_behind n path p) ps))
      (part_written (length (path_in n path p)) p (All-left Good (uses_of p) (flat_map uses_of ps) h))
      (all_written (n + 1) (path_behind n path p) ps (All-right Good (uses_of p) (flat_map uses_of ps) h))

  cascade_goes_up : (cs : List Cascading) → All (λ (c : Cascading). All Good (written Risen c.along)) cs → All (λ (e : EntityId). GoesUp e.index) (option_to_list (cascade_of k cs))
  cascade_goes_up [] h = All-nil (λ (e : EntityId). GoesUp e.index)
  cascade_goes_up (c ∷ cs) h = along_cascaded c.along (All-head (λ (c : Cascading). All Good (written Risen c.along)) c cs h)

  term_goes_up : (all : List Sighting) (vs : List Variable) (path : Path) (t : TermSyntax) → All Good (uses_of_term t) → All GoesUp (term_rises (checked_term k all vs path t))
  term_goes_up all vs path t h =
      let c = written Component (Some t.component) in
      let s = written Source t.source in
      let r = written Risen (risen t) in
      let g = written Target t.target in
      bases_go_up (reads_bases k t) (up_of k t.flags) (flags_go_up t.flags (All-right Good (c ++ s) r (All-left Good (c ++ s ++ r) g h)))
    where
      bases_go_up : (b : Bool) (o : Option ℕ) → All GoesUp (option_to_list o) → All GoesUp (option_to_list (cond b (Some is_a) o))
      bases_go_up true o a = All-cons GoesUp is_a [] (inl (inr refl)) (All-nil GoesUp)
      bases_go_up false o a = a

-- so are all relationships along which a query that a text asks goes up
rises_mentioned : (k : Known) (text : List ℕ) (q : Query) → query_of k text ≡ Ok q → All (GoesUp k q.mentions) (flat_map entry_rises (entries q))
rises_mentioned k text q e =
    let a = asked k text q e in
    let c = checked_faultless k a.1 q a.3 in
    holds_in_entries (GoesUp k q.mentions) term_rises (λ r. []) (IsGood k q.mentions) k (term_goes_up k q.mentions) (λ all vs path r g. All-nil (GoesUp k q.mentions))
    entry_rises (λ level i. same i) (λ level own inner. refl) a.1 q c.1 (good_references k a.1 q c.0 c.1)
  where
    same : (i : Item) → item_rises i ≡ of_item (GoesUp k q.mentions) term_rises (λ r. []) i
    same (must t) = refl
    same (may t) = refl
    same (either ts) = refl
    same (equal v r) = refl
    same (differ v r) = refl

-- ChildOf is Acyclic from the first world on
first_child_of : is_some (value_of first_world child_of (plain acyclic)) ≡ true
unfolding first_world key_cmp id_cmp
first_child_of = refl

-- and so is IsA
first_is_a : is_some (value_of first_world is_a (plain acyclic)) ≡ true
unfolding first_world key_cmp id_cmp
first_is_a = refl

-- where whom the check found Traversable is so still, what goes up has no cycle
module _ (w : WorldState) (q : Query) (whole : IsWellFormed w) (h : IsCurrentIn w q) where
  abbrev then : Known
  then = known_of (h.asked).0

  -- what was Traversable at the check is so here
  still_traversable : (m : Mention) → In m q.mentions → m.traversable ≡ true → holds w (m.entity).index (plain traversable) ≡ true
  still_traversable m i t = (from_checked (known_of w) m (In-list_all (is_as_checked (known_of w)) q.mentions h.current m i)).1 ∙ t

  ends : (r : ℕ) → GoesUp then q.mentions r → IsAcyclic (ids_of w) r
  ends r (inl (inl is)) = subst (IsAcyclic (ids_of w)) (sym is) ((whole.traits).no_cycle child_of (ap is_some ((whole.built_in).facts child_of (plain acyclic) refl) ∙ first_child_of))
  ends r (inl (inr is)) = subst (IsAcyclic (ids_of w)) (sym is) ((whole.traits).no_cycle is_a (ap is_some ((whole.built_in).facts is_a (plain acyclic) refl) ∙ first_is_a))
  ends r (inr (m, t)) =
      let e = m.0 in
      let now = still_traversable (mention_of then e) m.1 (ap then.traversable m.2 ∙ t) in
      subst (IsAcyclic (ids_of w)) m.2 ((whole.traits).no_cycle e.index ((whole.traits).traversable_acyclic e.index now))

pub current_queries_go_up_without_cycles : CurrentQueriesGoUpWithoutCycles
current_queries_go_up_without_cycles w q whole h =
    All-weaker (GoesUp (then w q whole h) q.mentions) (IsAcyclic (ids_of w)) (ends w q whole h) (flat_map entry_rises (entries q)) (rises_mentioned (then w q whole h) (h.asked).1 q (h.asked).2)

-- so has the relationship of a `cascade`
cascade_is : (k : Known) (s : Syntax) → (checked_query k s).cascade ≡ cascade_of k (cascades s.parts)
unfolding checked_query
cascade_is k s = refl

order_mentioned : (k : Known) (text : List ℕ) (q : Query) → query_of k text ≡ Ok q → All (λ (e : EntityId). GoesUp k q.mentions e.index) (option_to_list q.cascade)
order_mentioned k text q e =
    let a = asked k text q e in
    let c = checked_faultless k a.1 q a.3 in
    let same : cascade_of k (cascades (a.1).parts) ≡ q.cascade = sym (cascade_is k a.1) ∙ ap (λ (x : Query). x.cascade) c.1 in
    subst (λ o. All (λ (e : EntityId). GoesUp k q.mentions e.index) (option_to_list o)) same
    (cascade_goes_up k q.mentions (cascades (a.1).parts) (all_written k q.mentions 1 [] (a.1).parts (good_references k a.1 q c.0 c.1)))

pub current_queries_order_without_cycles : CurrentQueriesOrderWithoutCycles
current_queries_order_without_cycles w q whole h =
    All-weaker (λ (e : EntityId). GoesUp (then w q whole h) q.mentions e.index) (λ (e : EntityId). IsAcyclic (ids_of w) e.index) (λ e. ends w q whole h e.index) (option_to_list q.cascade)
    (order_mentioned (then w q whole h) (h.asked).1 q (h.asked).2)

pub checked_queries_go_up_without_cycles : CheckedQueriesGoUpWithoutCycles
checked_queries_go_up_without_cycles w text q whole e = current_queries_go_up_without_cycles w q whole (asked_queries_are_current w text q e)

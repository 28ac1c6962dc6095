-- The entities that a current query names are live, since each is mentioned.
use Rattle.std.specs.Prelude.{◌≡◌, ℕ, true, List, [], ◌++◌, flat_map, option_map, Option, Some, None, Ok, Contains}
use Rattle.std.specs.List.{All}
use Rattle.std.specs.Option.{option_map_or}
use Rattle.std.specs.Ordering.{nat_cmp}
use Rattle.std.proofs.Common.{refl, subst}
use Rattle.std.proofs.lemmas.List.Elements.{All-append, All-cons, All-head, All-nil, All-weaker}
use Rattle.query_model.specs.declared.Span.{Span}
use Rattle.query_model.specs.declared.faults.FaultKind.TheVariants.{UnknownName}
use Rattle.query_model.specs.declared.query.Mention.{Mention}
use Rattle.query_model.specs.declared.query.Position.{Position}
use Rattle.query_model.specs.declared.query.Position.TheVariants.{Component, Source, Target, Risen, Right}
use Rattle.query_model.specs.Faults.{fault_at}
use Rattle.query_model.specs.Syntax.{Spoken, Word, Var, Any, AnyOnce, Reference, at, TermSyntax}
use Rattle.query_model.specs.Levels.{Path}
use Rattle.query_model.specs.Uses.{Use, risen, uses_of_term, written}
use Rattle.query_model.specs.Scope.{Sighting}
use Rattle.query_model.specs.Numbers.{Variable}
use Rattle.query_model.specs.Check.{Known, faults_of_position, unknown_word}
use Rattle.query_model.specs.Query.{Item, must, may, either, equal, differ, Query, checked_term, is_as_checked, mention_of, query_of, ref_of, source_of}
use Rattle.ecs_model.specs.Map.{value_at}
use Rattle.ecs_model.specs.Query.{known_of}
use Rattle.ecs_model.specs.World.{WorldState, entities}
use Rattle.ecs_model.proofs.MadeEntities.{there}
use Rattle.ecs_model.proofs.steps.Facts.{live_listed}
use Rattle.query_meaning.specs.Laws.{CheckedQueriesNameTheLiving}
use Rattle.query_meaning.specs.Names.{entry_names, item_names, name_in, term_names}
use Rattle.query_meaning.specs.Standing.{CurrentQueriesNameTheLiving}
use Rattle.query_meaning.specs.Variables.{entries}
use Rattle.query_model.proofs.SoundTerms.{left_nil}
use Rattle.query_meaning.proofs.AskedQueries.{asked, checked_faultless}
use Rattle.query_meaning.proofs.ItemTests.{All-left, All-right, holds_in_entries, of_item}
use Rattle.query_meaning.proofs.LevelHolding.{In-list_all}
use Rattle.query_meaning.proofs.MentionedEntities.{IsGood, IsMentioned, asked_queries_are_current, from_checked, good_references, word_mentioned}

module _ (k : Known) (ms : List Mention) where
  abbrev Mentioned : ℕ → Type 0
  Mentioned i = IsMentioned k ms i

  abbrev Good : Use → Type 0
  Good u = IsGood k ms u

  module _ (all : List Sighting) (vs : List Variable) (path : Path) where
    spoken_named : (v : Spoken) (s : Span) (position : Position) → Good (record { position = position; reference = at v s }) → All Mentioned (name_in (ref_of k all vs path (at v s)))
    spoken_named (Word n) s position g =
        let unknown = unknown_word k (Word n) s in
        All-cons Mentioned _ [] (word_mentioned k ms (k.named n) (fault_at UnknownName s) (left_nil unknown (faults_of_position k position (Word n) s) g.0) g.1) (All-nil Mentioned)
    spoken_named (Var v) s position g = All-nil Mentioned
    spoken_named Any s position g = All-nil Mentioned
    spoken_named AnyOnce s position g = All-nil Mentioned

    reference_named : (r : Reference) (position : Position) → All Good (written position (Some r)) → All Mentioned (name_in (ref_of k all vs path r))
    reference_named r position g = spoken_named r.spoken r.span position (All-head Good (record { position = position; reference = r }) [] g)

    source_named : (r : Option Reference) → All Good (written Source r) → All Mentioned (name_in (source_of k all vs path r))
    source_named None g = All-nil Mentioned
    source_named (Some r) g = reference_named r Source g

    target_named : (r : Option Reference) → All Good (written Target r) → All Mentioned (option_map_or name_in (option_map (ref_of k all vs path) r) [])
    target_named None g = All-nil Mentioned
    target_named (Some r) g = reference_named r Target g

    term_named : (t : TermSyntax) → All Good (uses_of_term t) → All Mentioned (term_names (checked_term k all vs path t))
    term_named t h =
        let c = written Component (Some t.component) in
        let s = written Source t.source in
        let r = written Risen (risen t) in
        let g = written Target t.target in
        let three = All-left Good (c ++ s ++ r) g h in
        let two = All-left Good (c ++ s) r three in
        let first = name_in (ref_of k all vs path t.component) in
        let target = option_map_or name_in (option_map (ref_of k all vs path) t.target) [] in
        let source = name_in (source_of k all vs path t.source) in
        All-append Mentioned (first ++ target) source
        (All-append Mentioned first target (reference_named t.component Component (All-left Good c s two)) (target_named t.target (All-right Good (c ++ s ++ r) g h)))
        (source_named t.source (All-right Good c s two))

-- all names in a query that a text asks are mentioned
names_mentioned : (k : Known) (text : List ℕ) (q : Query) → query_of k text ≡ Ok q → All (IsMentioned k q.mentions) (flat_map entry_names (entries q))
names_mentioned k text q e =
    let a = asked k text q e in
    let c = checked_faultless k a.1 q a.3 in
    holds_in_entries (IsMentioned k q.mentions) term_names name_in (IsGood k q.mentions) k (λ all vs path t g. term_named k q.mentions all vs path t g)
    (λ all vs path r g. reference_named k q.mentions all vs path r Right g) entry_names (λ level i. same i) (λ level own inner. refl) a.1 q c.1 (good_references k a.1 q c.0 c.1)
  where
    same : (i : Item) → item_names i ≡ of_item (IsMentioned k q.mentions) term_names name_in i
    same (must t) = refl
    same (may t) = refl
    same (either ts) = refl
    same (equal v r) = refl
    same (differ v r) = refl

mention_lives : (w : WorldState) (m : Mention) → is_as_checked (known_of w) m ≡ true → Contains (entities w) (m.entity).index
mention_lives w m h = live_listed w (m.entity).index (there (value_at nat_cmp w.live (m.entity).index) (m.entity).generation (from_checked (known_of w) m h).0)

pub current_queries_name_the_living : CurrentQueriesNameTheLiving
current_queries_name_the_living w q h =
    let then = known_of (h.asked).0 in
    All-weaker (IsMentioned then q.mentions) (Contains (entities w)) lives (flat_map entry_names (entries q)) (names_mentioned then (h.asked).1 q (h.asked).2)
  where
    lives : (i : ℕ) → IsMentioned (known_of (h.asked).0) q.mentions i → Contains (entities w) i
    lives i m =
        let mention = mention_of (known_of (h.asked).0) m.0 in
        subst (Contains (entities w)) m.2 (mention_lives w mention (In-list_all (is_as_checked (known_of w)) q.mentions h.current mention m.1))

pub checked_queries_name_the_living : CheckedQueriesNameTheLiving
checked_queries_name_the_living w text q e = current_queries_name_the_living w q (asked_queries_are_current w text q e)

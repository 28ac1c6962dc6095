-- What a session has once one more stored query is held.
use Rattle.std.specs.Prelude.{◌≡◌, ◌≢◌, ℕ, ◌+◌, ◌<◌, ◌≤◌, cond, List, [], ◌∷◌, ◌++◌, slice_index_or, All, map, length, Option, None, option_map, IfSome, if◌then◌else◌}
use Rattle.std.specs.declared.string.String.{String}
use Rattle.std.specs.String.{string_bytes}
use Rattle.std.proofs.Common.{sym, ap, subst, ◌∙◌, arith}
use Rattle.std.proofs.lemmas.List.{length-map, length_push, map-append}
use Rattle.std.proofs.lemmas.List.Elements.{All-push}
use Rattle.std.proofs.lemmas.List.Quantifiers.{all_pairs_push}
use Rattle.std.proofs.lemmas.List.Sums.{count_by-le-length, sum_by_push}
pub use Rattle.watch_index.proofs.NamePlaces.{of_ok}
use Rattle.ecs_model.specs.steps.Outcomes.{Changed}
use Rattle.ecs_model.specs.Map.{count_at}
use Rattle.ecs_model.specs.World.{WorldState}
use Rattle.ecs_model.specs.rows.View.{view_of}
use Rattle.ecs_model.specs.stored.Session.{most_stored, pinned_by}
use Rattle.ecs_model.specs.stored.Watches.{matching}
use Rattle.ecs_model.specs.steps.Pins.{most_pins}
use Rattle.ecs_world.specs.Standing as world
use Rattle.query_model.specs.Query.{Query}
use Rattle.query_meaning.specs.Standing.{IsCurrentIn}
use Rattle.watch_concerns.specs.Mentions.{mentions_index, times, times_in}
use Rattle.watch_concerns.specs.Since.{IsAfter}
use Rattle.watch_concerns.proofs.DistinctMentions.{queries_mention_once}
use Rattle.watch_concerns.proofs.PinChanges.{pinned_counts, pinned_current, pinned_view}
use Rattle.watch_stored.specs.declared.stored.StoredQuery.{StoredQuery}
use Rattle.ecs_observe.specs.Parts.{held_of}
use Rattle.watch_stored.specs.Held.{Held, IsHeld, IsNow, WasNow}
use Rattle.ecs_observe.specs.Standing.{IsSession}
use Rattle.ecs_observe.specs.Storing.{with_held}
use Rattle.ecs_observe.proofs.NamedQueries.{seen}

-- where nothing waits, nothing is delivered
pub none_waits : {X Y : Type 0} (o : Option X) → o ≡ None → (f g : X → Y) → option_map f o ≡ option_map g o
none_waits o e f g = ap (option_map f) e ∙ sym (ap (option_map g) e)

abbrev pub queries : List Held → List Query
queries hs = map (λ h. h.query) hs

-- what is held of queries stays where queries see the same and stay current
module _ (w v : WorldState) (current : (q : Query) → IsCurrentIn w q → IsCurrentIn v q) (same : view_of v ≡ view_of w) where
  pub still_held : (h : Held) → IsHeld w h → IsHeld v h
  still_held h k = record { current = current h.query k.current; fit = k.fit; ascends = k.ascends }

  pub still_now : (h : Held) → IsNow w h → IsNow v h
  still_now h now = λ m l. now m l ∙ ap (λ u. matching u h.query) (sym same)

-- as many stored queries as there can be mention an entity fewer times than can be counted
pub far_from_most : (w : world.Standing) (hs : List Held) (waiting : Option Changed) (n : ℕ) → IsSession (record { world = w; stored = hs; waiting = waiting; compared = n }) → (i : ℕ) → count_at (w.state).pins i + 1 < most_pins
far_from_most w hs waiting n kept i =
    let counted : count_at (w.state).pins i ≡ times i (queries hs) = kept.pinned i in
    let some : times i (queries hs) ≤ length (queries hs) = count_by-le-length (λ q. mentions_index q.mentions i) (queries hs) in
    let all : length (queries hs) ≡ length hs = length-map hs (λ h. h.query) in
    let few : length hs ≤ most_stored = kept.few in
    omega arith

module _ (w v : world.Standing) (hs : List Held) (h : Held) (waiting : Option Changed) (n : ℕ) (kept : IsSession (record { world = w; stored = hs; waiting = waiting; compared = n }))
    (held : IsHeld w.state h) (new : v.state ≡ pinned_by w.state (h.query).mentions) where
  pub mentioned_once : (i : ℕ) → times_in i (h.query).mentions ≤ 1
  mentioned_once = queries_mention_once h.query (held.current).asked

  counted : (i : ℕ) → count_at (v.state).pins i ≡ times i (queries (hs ++ h ∷ []))
  counted i =
      let small : count_at (w.state).pins i < most_pins = omega (arith, far_from_most w hs waiting n kept i) in
      ap (λ (u : WorldState). count_at u.pins i) new
      ∙ (pinned_counts w.state (h.query).mentions i (mentioned_once i) small
      ∙ (ap (λ k. k + (if mentions_index (h.query).mentions i then 1 else 0)) (kept.pinned i)
      ∙ (sym (sum_by_push (λ (q : Query). cond (mentions_index q.mentions i) 1 0) (queries hs) h.query)
      ∙ ap (times i) (sym (map-append (λ (x : Held). x.query) hs (h ∷ []))))))

  current : (q : Query) → IsCurrentIn w.state q → IsCurrentIn v.state q
  current q k = subst (λ u. IsCurrentIn u q) (sym new) (pinned_current w.state (h.query).mentions q k)

  same_view : view_of v.state ≡ view_of w.state
  same_view = ap view_of new ∙ pinned_view w.state (h.query).mentions

  pub one_more : waiting ≡ None → All (λ x. x.name ≢ h.name) hs → length hs < most_stored → IsNow w.state h → (m : ℕ) → IsSession (record { world = v; stored = hs ++ h ∷ []; waiting = waiting; compared = m })
  one_more idle free few now m = record {
    held = All-push (IsHeld v.state) hs h (λ k d l. still_held w.state v.state current same_view (slice_index_or hs k d) (kept.held k d l)) (still_held w.state v.state current same_view h held);
    pinned = counted;
    few = omega (arith, length_push hs h);
    once = all_pairs_push (λ a b. a.name ≢ b.name) hs h kept.once free;
    now = λ _. All-push (IsNow v.state) hs h (λ k d l. still_now w.state v.state current same_view (slice_index_or hs k d) (kept.now idle k d l)) (still_now w.state v.state current same_view h now);
    after = subst (λ o. IfSome o (IsAfter v.state)) (sym idle) tt;
    before = subst (λ o. IfSome o (λ changed. All (WasNow v.state changed) (hs ++ h ∷ []))) (sym idle) tt;
  }

-- a session that is held in other memory
pub same_seen : {A : Type 0} (w v : world.Standing) (es fs : List (String A × StoredQuery A)) (waiting : Option Changed) (n : ℕ) → v.state ≡ w.state → v.tables ≡ w.tables → fs ≡ es
    → seen v fs waiting n ≡ seen w es waiting n
same_seen w v es fs waiting n state tables entries = λ i. record { world = record { state = state i; tables = tables i }; stored = map held_of (entries i); waiting = waiting; compared = n }

-- ---- in the map

module _ {A : Type 0} (k : String A) (s : StoredQuery A) where
  module _ (w v : world.Standing) (es fs : List (String A × StoredQuery A)) (waiting : Option Changed) (n : ℕ) (kept : IsSession (seen w es waiting n))
      (free : All (λ h. h.name ≢ string_bytes k) (map held_of es)) (new : v.state ≡ pinned_by w.state ((s.plan).query).mentions) (entries : fs ≡ es ++ (k, s) ∷ []) where
    pub held_behind : map held_of fs ≡ map held_of es ++ held_of (k, s) ∷ []
    held_behind = ap (map held_of) entries ∙ map-append held_of es ((k, s) ∷ [])

    pub one_more_seen : waiting ≡ None → length (map held_of es) < most_stored → IsHeld w.state (held_of (k, s)) → IsNow w.state (held_of (k, s)) → (m : ℕ) → IsSession (seen v fs waiting m)
    one_more_seen idle few held now m =
        subst (λ hs. IsSession (record { world = v; stored = hs; waiting = waiting; compared = m })) (sym held_behind)
        (one_more w v (map held_of es) (held_of (k, s)) waiting n kept held new idle free few now m)

    pub with_held_seen : v.tables ≡ w.tables → (m : ℕ) → seen v fs waiting m ≡ record (with_held (seen w es waiting n) (held_of (k, s))) { compared = m }
    with_held_seen tables m = λ i. record { world = record { state = new i; tables = tables i }; stored = held_behind i; waiting = waiting; compared = m }

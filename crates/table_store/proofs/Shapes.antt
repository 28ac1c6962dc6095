-- Shapes: lists of ids that strictly rise, each with a size.
use Rattle.std.proofs.Common.{◌≡◌, ◌⊎◌, ℕ, suc, zero, ◌≤◌, ◌<◌, ◌==◌, ◌&&◌, Bool, true, false, cond, List, [], ◌∷◌, Option, Some, None, IsTrue, IfSome, length, map, replicate, nat_lt, nat_le, slice_index, option_map, unwrap_or, slice_index_or, slice_get, refl, sym, ap, subst, ◌∙◌, true≢false, arith, inl, inr}
use Rattle.std.specs.declared.cmp.Ordering.{Ordering}
use Rattle.std.specs.declared.cmp.Ordering.TheVariants.{Less, Equal, Greater}
use Rattle.std.specs.Ordering.{is_lt, is_eq}
use Rattle.std.proofs.lemmas.Bool.Decides.{nat_tests, Decides-eqb}
use Rattle.std.specs.List.{filter, zip, position, list_all}
use Rattle.std.specs.FinMap.{find, put, is_sorted}
use Rattle.std.specs.FinMap.Entries.{below_all, by_order}
use Rattle.ecs_id.specs.Id.{Id, id_cmp, id_eq, id_eq_same, id_eq_itself, id_cmp_same, id_eq_turned}
use Rattle.ecs_id.specs.declared.TableKey.{TableKey}
use Rattle.ecs_table.specs.Archetype.{index_in, no_values, values_at}
use Rattle.ecs_table.proofs.Order.{lt_zero, position_cons}
use Rattle.table_store.specs.Store.{Shape, Store, IsStore, HasSize, shape_of, byte_size, shaped, find_in, shape_at}
use Rattle.table_store.proofs.Slots.{one_some, none_is_some}
use Rattle.table_store.proofs.StoreLemmas.{ids_of}

pub both : (a b : Bool) → IsTrue (a && b) → IsTrue a × IsTrue b
both true b h = (refl, h)
both false b h = absurd (true≢false (sym h))

pub tested : (b : Bool) → (b ≡ true) ⊎ (b ≡ false)
tested true = inl refl
tested false = inr refl

module _ {X : Type 0} where
  -- an id below all is not among them
  pub find_below : (i : Id) (es : List (Id × X)) → IsTrue (below_all id_cmp i es) → find id_cmp i es ≡ None
  find_below i [] h = refl
  find_below i (e ∷ es) h = by (id_cmp i e.0) (both _ _ h).0 ∙ find_below i es (both _ _ h).1
    where
      by : (o : Ordering) → IsTrue (is_lt o) → cond (is_eq o) (Some e.1) (find id_cmp i es) ≡ find id_cmp i es
      by Less h = refl
      by Equal h = absurd (true≢false (sym h))
      by Greater h = absurd (true≢false (sym h))

  not_below : (i : Id) (es : List (Id × X)) (j : ℕ) (c : Id × X) → IsTrue (below_all id_cmp i es) → slice_get es j ≡ Some c → id_eq c.0 i ≡ false
  not_below i [] zero c h e = absurd (none_is_some c e)
  not_below i [] (suc j) c h e = absurd (none_is_some c e)
  not_below i (d ∷ es) zero c h e = id_eq_turned c.0 i ∙ ap (λ v. id_eq i v.0) (sym (one_some d c e)) ∙ by (id_cmp i d.0) (both _ _ h).0
    where
      by : (o : Ordering) → IsTrue (is_lt o) → is_eq o ≡ false
      by Less h = refl
      by Equal h = absurd (true≢false (sym h))
      by Greater h = refl
  not_below i (d ∷ es) (suc j) c h e = not_below i es j c (both _ _ h).1 e

  -- in order, each entry is found under its id
  pub get_found : (es : List (Id × X)) (j : ℕ) (c : Id × X) → IsTrue (is_sorted id_cmp es) → slice_get es j ≡ Some c → find id_cmp c.0 es ≡ Some c.1
  get_found [] zero c s e = absurd (none_is_some c e)
  get_found [] (suc j) c s e = absurd (none_is_some c e)
  get_found (d ∷ es) zero c s e = subst (λ v. find id_cmp v.0 (d ∷ es) ≡ Some v.1) (one_some d c e) (ap (λ b. cond b (Some d.1) (find id_cmp d.0 es)) (id_eq_itself d.0))
  get_found (d ∷ es) (suc j) c s e = ap (λ b. cond b (Some d.1) (find id_cmp c.0 es)) (not_below d.0 es j c (both _ _ s).0 e) ∙ get_found es j c (both _ _ s).1 e

  pub found_get : (es : List (Id × X)) (i : Id) (x : X) → find id_cmp i es ≡ Some x → (j : ℕ) × (c : Id × X) × (slice_get es j ≡ Some c) × (c.0 ≡ i) × (c.1 ≡ x)
  found_get [] i x e = absurd (none_is_some x e)
  found_get (d ∷ es) i x e = by (id_eq i d.0) refl e (found_get es i x)
    where
      by : (b : Bool) → id_eq i d.0 ≡ b → cond b (Some d.1) (find id_cmp i es) ≡ Some x → (find id_cmp i es ≡ Some x → (j : ℕ) × (c : Id × X) × (slice_get es j ≡ Some c) × (c.0 ≡ i) × (c.1 ≡ x)) → (j : ℕ) × (c : Id × X) × (slice_get (d ∷ es) j ≡ Some c) × (c.0 ≡ i) × (c.1 ≡ x)
      by true h f later = (0, d, refl, sym (id_eq_same i d.0 h), one_some d.1 x f)
      by false h f later = let r = later f in (suc r.0, r.1, r.2, r.3, r.4)

-- the sizes in an empty table are those of its shape
no_size : (n : ℕ) → nat_lt 0 n ≡ false → n ≡ 0
no_size zero e = refl
no_size (suc n) e = absurd (true≢false (sym (lt_zero n) ∙ e))

-- the size by place, where a first id with its size comes before others
abbrev sized_by : List Id → List ℕ → Id → ℕ
sized_by ids sizes i = unwrap_or (elim (position (λ k. id_eq k i) ids) [ None ↦ None | Some k ↦ Some (values_at (map no_values sizes) k).size ]) 0

first_size : (ids : List Id) (sizes : List ℕ) (j i : Id) (n : ℕ) (o : Option ℕ) → sized_by ids sizes i ≡ unwrap_or o 0 → sized_by (j ∷ ids) (n ∷ sizes) i ≡ unwrap_or (cond (id_eq i j) (Some n) o) 0
first_size ids sizes j i n o later = ap (λ v. unwrap_or (elim v [ None ↦ None | Some k ↦ Some (values_at (map no_values (n ∷ sizes)) k).size ]) 0) (position_cons (λ k. id_eq k i) j ids) ∙ by (id_eq j i) refl later
  where
    rest : (v : Option ℕ) → unwrap_or (elim (option_map suc v) [ None ↦ None | Some k ↦ Some (values_at (map no_values (n ∷ sizes)) k).size ]) 0 ≡ unwrap_or (elim v [ None ↦ None | Some k ↦ Some (values_at (map no_values sizes) k).size ]) 0
    rest None = refl
    rest (Some k) = refl

    by : (b : Bool) → id_eq j i ≡ b → sized_by ids sizes i ≡ unwrap_or o 0 → unwrap_or (elim (cond b (Some 0) (option_map suc (position (λ k. id_eq k i) ids))) [ None ↦ None | Some k ↦ Some (values_at (map no_values (n ∷ sizes)) k).size ]) 0 ≡ unwrap_or (cond (id_eq i j) (Some n) o) 0
    by true e l = ap (λ b. unwrap_or (cond b (Some n) o) 0) (sym (id_eq_turned i j ∙ e))
    by false e l = rest (position (λ k. id_eq k i) ids) ∙ l ∙ ap (λ b. unwrap_or (cond b (Some n) o) 0) (sym (id_eq_turned i j ∙ e))

abbrev data_of : Shape → List (Id × ℕ)
data_of f = filter (λ p. nat_lt 0 p.1) (zip (ids_of f) (map (λ c. c.1) f))

abbrev sizes_in : Shape → List ℕ
sizes_in f = filter (λ s. nat_lt 0 s) (map (λ c. c.1) f)

size_in-find : (f : Shape) (i : Id) → IsTrue (is_sorted id_cmp f) → sized_by (map (λ p. p.0) (data_of f)) (sizes_in f) i ≡ unwrap_or (find id_cmp i f) 0
size_in-find [] i s = refl
size_in-find (c ∷ f) i s = by (nat_lt 0 c.1) refl (size_in-find f i (both _ _ s).1)
  where
    absent : (b : Bool) → id_eq i c.0 ≡ b → c.1 ≡ 0 → unwrap_or (find id_cmp i f) 0 ≡ unwrap_or (cond b (Some c.1) (find id_cmp i f)) 0
    absent true e z = ap (λ o. unwrap_or o 0) (subst (λ v. find id_cmp v f ≡ None) (sym (id_eq_same i c.0 e)) (find_below c.0 f (both _ _ s).0)) ∙ sym z
    absent false e z = refl

    by : (b : Bool) → nat_lt 0 c.1 ≡ b → sized_by (map (λ p. p.0) (data_of f)) (sizes_in f) i ≡ unwrap_or (find id_cmp i f) 0
        → sized_by (map (λ p. p.0) (cond b (c ∷ data_of f) (data_of f))) (cond b (c.1 ∷ sizes_in f) (sizes_in f)) i ≡ unwrap_or (cond (id_eq i c.0) (Some c.1) (find id_cmp i f)) 0
    by true e later = first_size (map (λ p. p.0) (data_of f)) (sizes_in f) c.0 i c.1 (find id_cmp i f) later
    by false e later = later ∙ absent (id_eq i c.0) refl (no_size c.1 e)

each_pair : (h : Id → ℕ) (g : Shape) → ((j : ℕ) (c : Id × ℕ) → slice_get g j ≡ Some c → h c.0 ≡ c.1) → ◌≡◌ {A = Shape} (map (λ i. (i, h i)) (ids_of g)) g
each_pair h [] e = refl
each_pair h (c ∷ g) e = λ i. (c.0, e 0 c refl i) ∷ each_pair h g (λ j. e (suc j)) i

pub shape_of_shaped : (f : Shape) → IsTrue (is_sorted id_cmp f) → shape_of (shaped f) ≡ f
unfolding index_in
shape_of_shaped f s = each_pair (byte_size (shaped f)) f (λ j c e. size_in-find f c.0 s ∙ ap (λ o. unwrap_or o 0) (get_found f j c s e))

-- shapes with the same ids, and with one size for each id, are one
pub same_pairs : (g f : Shape) → ids_of g ≡ ids_of f → ((j : ℕ) (c d : Id × ℕ) → slice_get g j ≡ Some c → slice_get f j ≡ Some d → c.0 ≡ d.0 → c.1 ≡ d.1) → g ≡ f
same_pairs [] [] e h = refl
same_pairs [] (d ∷ f) e h = absurd (omega (arith, ap length e))
same_pairs (c ∷ g) [] e h = absurd (omega (arith, ap length e))
same_pairs (c ∷ g) (d ∷ f) e h =
    let first : c.0 ≡ d.0 = ap (λ l. slice_index_or l 0 c.0) e in
    let rest : ids_of g ≡ ids_of f = ap tail e in
    λ i. (first i, h 0 c d refl refl first i) ∷ same_pairs g f rest (λ j. h (suc j)) i
  where
    tail : List Id → List Id
    tail [] = []
    tail (x ∷ xs) = xs

-- each id of the shape has its size in the store
abbrev pub HaveSizes : Store → Shape → Type 0
HaveSizes s f = (j : ℕ) → IfSome (slice_get f j) (λ c. HasSize s c.0 c.1)

pub size_at : (s : Store) (f : Shape) (j : ℕ) (c : Id × ℕ) → HaveSizes s f → slice_get f j ≡ Some c → HasSize s c.0 c.1
size_at s f j c h e = subst (λ o. IfSome o (λ c. HasSize s c.0 c.1)) e (h j)

pub size_found : (s : Store) (f : Shape) (i : Id) (m : ℕ) → HaveSizes s f → find_in i f ≡ Some m → HasSize s i m
size_found s f i m h e = let r = found_get f i m e in subst (λ v. HasSize s v m) r.3 (subst (λ v. HasSize s r.1.0 v) r.4 (size_at s f r.0 r.1 h r.2))

has_size_in : (g : Shape) (i : Id) (m n : ℕ) → IfSome (find_in i g) (λ v. v ≡ n) → find_in i g ≡ Some m → m ≡ n
has_size_in g i m n h e = subst (λ o. IfSome o (λ v. v ≡ n)) e h

pub same_shape : (s : Store) (q : TableKey) (g f : Shape) → shape_at s q ≡ Some g → IsTrue (is_sorted id_cmp g) → HaveSizes s f → ids_of g ≡ ids_of f → g ≡ f
same_shape s q g f is sorted h e = same_pairs g f e (λ j c d a b same.
    has_size_in g d.0 c.1 d.1 (size_at s f j d h b q g is) (subst (λ v. find_in v g ≡ Some c.1) same (get_found g j c sorted a)))

pub all_small : (f : Shape) → ((j : ℕ) → IfSome (slice_get f j) (λ c. c.1 ≤ 64)) → IsTrue (list_all (λ c. nat_le c.1 64) f)
all_small [] h = refl
all_small (c ∷ f) h = and_true _ _ (le_true c.1 64 (h 0)) (all_small f (λ j. h (suc j)))
  where
    and_true : (a b : Bool) → IsTrue a → IsTrue b → IsTrue (a && b)
    and_true true b p q = q
    and_true false b p q = p

    le_true : (m n : ℕ) → m ≤ n → IsTrue (nat_le m n)
    le_true m n h = grind (arith, nat_tests)

pub small_sizes : (f : Shape) → ((j : ℕ) → IfSome (slice_get f j) (λ c. c.1 ≤ 64)) → (k : ℕ) → k < length (map (λ c. c.1) f) → slice_index (map (λ c. c.1) f) k ≤ 64
small_sizes [] h k lt = absurd (omega (arith, lt))
small_sizes (c ∷ f) h zero lt = h 0
small_sizes (c ∷ f) h (suc k) lt = small_sizes f (λ j. h (suc j)) k (omega (arith, lt))

-- what an entry is that stands in a shape with one more id
pub get_put : (i : Id) (n : ℕ) (es : Shape) (j : ℕ) (c : Id × ℕ) → slice_get (put id_cmp i n es) j ≡ Some c → ((c.0 ≡ i) × (c.1 ≡ n)) ⊎ ((m : ℕ) × (slice_get es m ≡ Some c))
get_put i n [] zero c e = inl (ap (λ v. v.0) (sym (one_some (i, n) c e)), ap (λ v. v.1) (sym (one_some (i, n) c e)))
get_put i n [] (suc j) c e = absurd (none_is_some c e)
get_put i n (d ∷ es) j c e = by (id_cmp i d.0) refl j e (λ m. get_put i n es m c)
  where
    by : (o : Ordering) → id_cmp i d.0 ≡ o → (j : ℕ) → slice_get (by_order o ((i, n) ∷ d ∷ es) ((d.0, n) ∷ es) (d ∷ put id_cmp i n es)) j ≡ Some c
        → ((m : ℕ) → slice_get (put id_cmp i n es) m ≡ Some c → ((c.0 ≡ i) × (c.1 ≡ n)) ⊎ ((k : ℕ) × (slice_get es k ≡ Some c))) → ((c.0 ≡ i) × (c.1 ≡ n)) ⊎ ((m : ℕ) × (slice_get (d ∷ es) m ≡ Some c))
    by Less h zero e rest = inl (ap (λ v. v.0) (sym (one_some (i, n) c e)), ap (λ v. v.1) (sym (one_some (i, n) c e)))
    by Less h (suc j) e rest = inr (j, e)
    by Equal h zero e rest = inl (ap (λ v. v.0) (sym (one_some (d.0, n) c e)) ∙ sym (id_cmp_same i d.0 h), ap (λ v. v.1) (sym (one_some (d.0, n) c e)))
    by Equal h (suc j) e rest = inr (suc j, e)
    by Greater h zero e rest = inr (0, e)
    by Greater h (suc j) e rest = elim (rest j e) [ inl a ↦ inl a | inr a ↦ inr (suc a.0, a.1) ]

-- what an entry is that stands in a shape with one id less
pub get_filtered : (p : Id × ℕ → Bool) (es : Shape) (j : ℕ) (c : Id × ℕ) → slice_get (filter p es) j ≡ Some c → (m : ℕ) × (slice_get es m ≡ Some c)
get_filtered p [] zero c e = absurd (none_is_some c e)
get_filtered p [] (suc j) c e = absurd (none_is_some c e)
get_filtered p (d ∷ es) j c e = by (p d) j e (λ m. get_filtered p es m c)
  where
    by : (b : Bool) (j : ℕ) → slice_get (cond b (d ∷ filter p es) (filter p es)) j ≡ Some c → ((m : ℕ) → slice_get (filter p es) m ≡ Some c → (k : ℕ) × (slice_get es k ≡ Some c)) → (m : ℕ) × (slice_get (d ∷ es) m ≡ Some c)
    by true zero e rest = (0, e)
    by true (suc j) e rest = let r = rest j e in (suc r.0, r.1)
    by false j e rest = let r = rest j e in (suc r.0, r.1)

pub small_at : (f : Shape) (j : ℕ) (c : Id × ℕ) → IsTrue (list_all (λ c. nat_le c.1 64) f) → slice_get f j ≡ Some c → c.1 ≤ 64
small_at [] zero c h e = absurd (none_is_some c e)
small_at [] (suc j) c h e = absurd (none_is_some c e)
small_at (d ∷ f) zero c h e = subst (λ v. v.1 ≤ 64) (one_some d c e) (le d.1 (both _ _ h).0)
  where
    le : (m : ℕ) → IsTrue (nat_le m 64) → m ≤ 64
    le m p = grind (arith, nat_tests)
small_at (d ∷ f) (suc j) c h e = small_at f j c (both _ _ h).1 e

-- tags have no sizes
pub no_sizes : (f : Shape) → list_all (λ c. c.1 == 0) f ≡ true → replicate (length (map (λ c. c.0) f)) 0 ≡ map (λ c. c.1) f
no_sizes [] h = refl
no_sizes (c ∷ f) h = let t = both (c.1 == 0) (list_all (λ c. c.1 == 0) f) h in λ i. sym ((Decides-eqb c.1 0).0 t.0) i ∷ no_sizes f t.1 i

-- the ids of a table have their sizes in the store
pub size_of_stored : (s : Store) (k : TableKey) (f : Shape) (j : ℕ) (c : Id × ℕ) → IsStore s → shape_at s k ≡ Some f → slice_get f j ≡ Some c → HasSize s c.0 c.1
size_of_stored s k f j c is e at q g h = by (find_in c.0 g) refl
  where
    by : (o : Option ℕ) → find_in c.0 g ≡ o → IfSome o (λ m. m ≡ c.1)
    by None x = tt
    by (Some m) x = is.one_size q k g f c.0 m c.1 h e x (get_found f j c (subst (λ o. IfSome o (λ f. IsTrue (is_sorted id_cmp f))) e (is.ascend k)) at)

-- A variable that is bound in the level to which it belongs occurs there directly, also by its number.
use Rattle.std.specs.Prelude.{◌≡◌, ◌⊎◌, ℕ, zero, suc, ◌+◌, ◌<◌, ◌≤◌, ◌==◌, Bool, true, false, ◌||◌, List, [], ◌∷◌, ◌++◌, map, flat_map, drop, length, bytes_eq, Option, Some, None, option_map, if◌then◌else◌}
use Rattle.std.specs.List.{list_any, list_all}
use Rattle.std.specs.Option.{option_map_or}
use Rattle.std.proofs.Common.{ap, sym, ◌∙◌, refl, subst, inl, inr, eq-eqb, arith}
use Rattle.std.proofs.lemmas.Bool.{eqb-true}
use Rattle.std.proofs.lemmas.List.{map-append}
use Rattle.std.proofs.lemmas.List.Folds.{list_any-append}
use Rattle.std.proofs.lemmas.Slice.Eq.{bytes_eq-Decides}
use Rattle.query_model.specs.declared.Span.{Span}
use Rattle.query_model.specs.declared.query.Term.{Term}
use Rattle.query_model.specs.declared.syntax.Role.TheVariants.{And, Or, Not, Optional}
use Rattle.query_model.specs.Syntax.{Spoken, Word, Var, Any, AnyOnce, Reference, TermSyntax, Part, term, opened, closed, equality}
use Rattle.query_model.specs.Levels.{Path, level_of, alternatives, with_alternatives, path_behind, path_in, placed}
use Rattle.query_model.specs.Uses.{Use, uses_of}
use Rattle.query_model.specs.Scope.{Sighting, binds_in, is_variable, is_variable_if_written, is_word, names_variable, occurrence_of, occurrences_of, occurs_in, outermost, owner, speaks, spoken_at, this}
use Rattle.query_model.specs.Numbers.{Variable, number_from, numbers_from, same_variable, variable_of}
use Rattle.query_model.specs.Check.{Known}
use Rattle.query_model.specs.Query.{Item, Piece, item, closing, chain_of, checked_equality, checked_term, may, must, pieces_of_part, ref_of, ref_of_spoken, source_of}
use Rattle.query_model.proofs.FreshVariables.{Before, each_number}
use Rattle.query_model.proofs.NumberedVariables.{both, first_of, is_among, left_true, right_true, second_of, split}
use Rattle.query_model.proofs.ScopedVariables.{outermost_cases, outermost_from, owner_cases}
use Rattle.query_meaning.specs.Variables.{contains, item_variables, term_variables, variable_in}
use Rattle.query_meaning.proofs.DistinctVariables.{distinct, one_variable, own_number}
use Rattle.query_meaning.proofs.LevelHolding.{contains-left, contains-right}
use Rattle.query_meaning.proofs.SoundLevels.{occurs_in_front, own_variables_occur}

-- ---- levels on paths

-- a level isn't on a path
abbrev Lacks : ℕ → Path → Type 0
Lacks m path = contains path m ≡ true → ⊥

lacks_none : (m : ℕ) → Lacks m []
lacks_none m e = absurd (let x : false ≡ true = e in cc)

lacks_begun : (m n : ℕ) (path : Path) → m < n → Lacks m path → Lacks m (n ∷ path)
lacks_begun m n path l h e =
    elim (split (n == m) (contains path m) e) [
      | inl s ↦ absurd (let same = eqb-true n m s in omega arith)
      | inr s ↦ h s
    ]

lacks_less : (m : ℕ) (path : Path) → Lacks m path → Lacks m (drop 1 path)
lacks_less m [] h e = h e
lacks_less m (l ∷ ls) h e = h (right_true (l == m) _ e)

in_cases : (n : ℕ) (path : Path) (p : Part) → (path_in n path p ≡ n ∷ path) ⊎ (path_in n path p ≡ path)
in_cases n path (term And t) = inr refl
in_cases n path (term Or t) = inr refl
in_cases n path (term Not t) = inl refl
in_cases n path (term Optional t) = inr refl
in_cases n path (opened s) = inl refl
in_cases n path closed = inr refl
in_cases n path (equality v same r) = inr refl

behind_cases : (n : ℕ) (path : Path) (p : Part) → (path_behind n path p ≡ n ∷ path) ⊎ ((path_behind n path p ≡ path) ⊎ (path_behind n path p ≡ drop 1 path))
behind_cases n path (term And t) = inr (inl refl)
behind_cases n path (term Or t) = inr (inl refl)
behind_cases n path (term Not t) = inr (inl refl)
behind_cases n path (term Optional t) = inr (inl refl)
behind_cases n path (opened s) = inl refl
behind_cases n path closed = inr (inr refl)
behind_cases n path (equality v same r) = inr (inl refl)

lacks_in : (m n : ℕ) (path : Path) (p : Part) → m < n → Lacks m path → Lacks m (path_in n path p)
lacks_in m n path p l h =
    elim (in_cases n path p) [
      | inl c ↦ subst (Lacks m) (sym c) (lacks_begun m n path l h)
      | inr c ↦ subst (Lacks m) (sym c) h
    ]

lacks_behind : (m n : ℕ) (path : Path) (p : Part) → m < n → Lacks m path → Lacks m (path_behind n path p)
lacks_behind m n path p l h =
    elim (behind_cases n path p) [
      | inl c ↦ subst (Lacks m) (sym c) (lacks_begun m n path l h)
      | inr d ↦
          elim d [
            | inl c ↦ subst (Lacks m) (sym c) h
            | inr c ↦ subst (Lacks m) (sym c) (lacks_less m path h)
          ]
    ]

lacks_before : (m n : ℕ) (path : Path) → n ≤ m → Before n path → Lacks m path
lacks_before m n path l b e = absurd (let less = b m e in omega arith)

before_behind : (n : ℕ) (path : Path) (p : Part) → Before n path → Before (n + 1) (path_behind n path p)
before_behind n path p b =
    elim (behind_cases n path p) [
      | inl c ↦ subst (Before (n + 1)) (sym c) inside
      | inr d ↦
          elim d [
            | inl c ↦ subst (Before (n + 1)) (sym c) (λ l e. let less = b l e in omega arith)
            | inr c ↦ subst (Before (n + 1)) (sym c) (outside path b)
          ]
    ]
  where
    inside : Before (n + 1) (n ∷ path)
    inside l e =
        elim (split (n == l) (contains path l) e) [
          | inl s ↦ let same = eqb-true n l s in omega arith
          | inr s ↦ let less = b l s in omega arith
        ]

    outside : (ls : Path) → Before n ls → Before (n + 1) (drop 1 ls)
    outside [] c l e = absurd (let x : false ≡ true = e in cc)
    outside (m ∷ ms) c l e = let less = c l (right_true (m == l) _ e) in omega arith

-- ---- where parts of a level stand

-- a part where it stands, with the alternatives after it
abbrev Standing : Type 0
Standing = (Path × Part) × List TermSyntax

abbrev parts_from : ℕ → Path → List Part → List Standing
parts_from n path ps = with_alternatives (placed n path ps)

abbrev first_part : ℕ → Path → Part → List Part → Standing
first_part n path p ps = ((path_in n path p, p), alternatives (map (λ (q : Path × Part). q.1) (placed (n + 1) (path_behind n path p) ps)))

-- a test of parts that stand in a level
abbrev Within : (Standing → Bool) → ℕ → Type 0
Within hit m = (q : Standing) → hit q ≡ true → contains (q.0).0 m ≡ true

-- none is after the level's end
behind_end : (hit : Standing → Bool) (m : ℕ) → Within hit m → (n : ℕ) (path : Path) (ps : List Part) → m < n → Lacks m path → list_any hit (parts_from n path ps) ≡ true → ⊥
behind_end hit m only n path [] l h e = absurd (let x : false ≡ true = e in cc)
behind_end hit m only n path (p ∷ ps) l h e =
    elim (split (hit (first_part n path p ps)) (list_any hit (parts_from (n + 1) (path_behind n path p) ps)) e) [
      | inl i ↦ lacks_in m n path p l h (only (first_part n path p ps) i)
      | inr i ↦ behind_end hit m only (n + 1) (path_behind n path p) ps (omega arith) (lacks_behind m n path p l h) i
    ]

-- nor before its start
before_start : (hit : Standing → Bool) (m : ℕ) → Within hit m → (n : ℕ) (path : Path) (p : Part) (ps : List Part) → n < m → Before n path → list_any hit (parts_from n path (p ∷ ps)) ≡ true
    → list_any hit (parts_from (n + 1) (path_behind n path p) ps) ≡ true
before_start hit m only n path p ps l b e =
    elim (split (hit (first_part n path p ps)) (list_any hit (parts_from (n + 1) (path_behind n path p) ps)) e) [
      | inl i ↦ absurd (elim (in_cases n path p) [
        | inl c ↦ begun (subst (λ ls. contains ls m ≡ true) c (only (first_part n path p ps) i))
        | inr c ↦ lacks_before m n path (omega arith) b (subst (λ ls. contains ls m ≡ true) c (only (first_part n path p ps) i))
      ])
      | inr i ↦ i
    ]
  where
    begun : contains (n ∷ path) m ≡ true → ⊥
    begun f =
        elim (split (n == m) (contains path m) f) [
          | inl s ↦ absurd (let same = eqb-true n m s in omega arith)
          | inr s ↦ lacks_before m n path (omega arith) b s
        ]

-- ---- to which level a variable belongs

outermost_append : (test : ℕ → Bool) (pre path : Path) (found : ℕ) → outermost_from test found (pre ++ path) ≡ outermost_from test (outermost_from test found pre) path
outermost_append test [] path found = refl
outermost_append test (l ∷ ls) path found = outermost_append test ls path (if test l then l else found)

-- an outermost level is so on the path on which it is the innermost, too
outermost_tail : (test : ℕ → Bool) (pre : Path) (m : ℕ) (path : Path) → 0 < m → Lacks m pre → Lacks m path → outermost_from test 0 (pre ++ m ∷ path) ≡ m → outermost_from test 0 (m ∷ path) ≡ m
outermost_tail test pre m path l inner outer e = by (test m) (sym (outermost_append test pre (m ∷ path) 0) ∙ e)
  where
    not_found : outermost_from test 0 pre ≡ m → ⊥
    not_found f =
        elim (outermost_cases test pre 0) [
          | inl z ↦ absurd (let zero_found = z in omega arith)
          | inr h ↦ inner (subst (λ r. contains pre r ≡ true) f h)
        ]

    by : (b : Bool) → outermost_from test (if b then m else outermost_from test 0 pre) path ≡ m → outermost_from test (if b then m else 0) path ≡ m
    by true f = f
    by false f =
        elim (outermost_cases test path (outermost_from test 0 pre)) [
          | inl z ↦ absurd (not_found (sym z ∙ f))
          | inr h ↦ absurd (outer (subst (λ r. contains path r ≡ true) f h))
        ]

module _ (all : List Sighting) where
  owner_tail : (name : List ℕ) (pre : Path) (m : ℕ) (path : Path) → 0 < m → Lacks m pre → Lacks m path → owner all name (pre ++ m ∷ path) ≡ m → owner all name (m ∷ path) ≡ m
  owner_tail name pre m path l inner outer = by (bytes_eq name this) (occurs_in all name 0)
    where
      by : (a b : Bool) → (if a then 0 else (if b then 0 else outermost (occurs_in all name) (pre ++ m ∷ path))) ≡ m → (if a then 0 else (if b then 0 else outermost (occurs_in all name) (m ∷ path))) ≡ m
      by true b e = e
      by false true e = e
      by false false e = outermost_tail (occurs_in all name) pre m path l inner outer e

  pub owner_whole : (name : List ℕ) → owner all name [] ≡ 0
  owner_whole name = by (bytes_eq name this) (occurs_in all name 0)
    where
      by : (a b : Bool) → ◌≡◌ {A = ℕ} (if a then 0 else (if b then 0 else 0)) 0
      by true b = refl
      by false true = refl
      by false false = refl

  -- whether a variable is among those of a part
  abbrev pub mentions : Variable → Standing → Bool
  mentions u q = is_among (map (variable_of all) (occurrences_of q.0)) u

  mentioned_spoken : (u : Variable) (path : Path) (w : Spoken) (s : Span) → is_among (map (variable_of all) (spoken_at path w s)) u ≡ true → owner all u.0 path ≡ u.1
  mentioned_spoken u path (Var v) s e =
      elim (split (same_variable u (v, owner all v path)) false e) [
        | inl t ↦ subst (λ (x : Variable). owner all x.0 path ≡ x.1) (sym (one_variable u (v, owner all v path) t)) refl
        | inr f ↦ absurd (let x : false ≡ true = f in cc)
      ]
  mentioned_spoken u path (Word n) s e = absurd (let x : false ≡ true = e in cc)
  mentioned_spoken u path Any s e = absurd (let x : false ≡ true = e in cc)
  mentioned_spoken u path AnyOnce s e = absurd (let x : false ≡ true = e in cc)

  mentioned_uses : (u : Variable) (path : Path) (us : List Use) → is_among (map (variable_of all) (flat_map (occurrence_of path) us)) u ≡ true → owner all u.0 path ≡ u.1
  mentioned_uses u path [] e = absurd (let x : false ≡ true = e in cc)
  mentioned_uses u path (x ∷ us) e =
      let here = occurrence_of path x in
      let rest = flat_map (occurrence_of path) us in
      let parts : (is_among (map (variable_of all) here) u || is_among (map (variable_of all) rest) u) ≡ true =
      sym (ap (list_any (same_variable u)) (map-append (variable_of all) here rest) ∙ list_any-append (same_variable u) (map (variable_of all) here) (map (variable_of all) rest)) ∙ e in
      elim (split (is_among (map (variable_of all) here) u) _ parts) [
        | inl i ↦ mentioned_spoken u path (x.reference).spoken (x.reference).span i
        | inr i ↦ mentioned_uses u path us i
      ]

  mentioned_owner : (u : Variable) (q : Standing) → mentions u q ≡ true → owner all u.0 (q.0).0 ≡ u.1
  mentioned_owner u q e = mentioned_uses u (q.0).0 (uses_of (q.0).1) e

  mentioned_within : (u : Variable) → 0 < u.1 → Within (mentions u) u.1
  mentioned_within u l q e =
      let same = mentioned_owner u q e in
      elim (owner_cases all u.0 (q.0).0) [
        | inl z ↦ absurd (omega arith)
        | inr h ↦ subst (λ r. contains (q.0).0 r ≡ true) same h
      ]

  abbrev MentionedFrom : Variable → ℕ → List Part → Path → Type 0
  MentionedFrom u n ps path = list_any (mentions u) (parts_from n path ps) ≡ true

  -- a variable that is mentioned inside its level belongs to that level where the level begins
  owner_at_start : (u : Variable) (path : Path) → 0 < u.1 → Lacks u.1 path → (pre : Path) (n : ℕ) (ps : List Part) → u.1 < n → Lacks u.1 pre
      → list_any (mentions u) (parts_from n (pre ++ u.1 ∷ path) ps) ≡ true → owner all u.0 (u.1 ∷ path) ≡ u.1
  owner_at_start u path z outer pre n [] l inner e = absurd (let x : false ≡ true = e in cc)
  owner_at_start u path z outer pre n (p ∷ ps) l inner e =
      let now = pre ++ u.1 ∷ path in
      elim (split (mentions u (first_part n now p ps)) (list_any (mentions u) (parts_from (n + 1) (path_behind n now p) ps)) e) [
        | inl i ↦ here (mentioned_owner u (first_part n now p ps) i)
        | inr i ↦ there (λ more inner_more f. owner_at_start u path z outer more (n + 1) ps (omega arith) inner_more f) i
      ]
    where
      here : owner all u.0 (path_in n (pre ++ u.1 ∷ path) p) ≡ u.1 → owner all u.0 (u.1 ∷ path) ≡ u.1
      here same =
          elim (in_cases n (pre ++ u.1 ∷ path) p) [
            | inl c ↦ owner_tail u.0 (n ∷ pre) u.1 path z (lacks_begun u.1 n pre l inner) outer (subst (λ ls. owner all u.0 ls ≡ u.1) c same)
            | inr c ↦ owner_tail u.0 pre u.1 path z inner outer (subst (λ ls. owner all u.0 ls ≡ u.1) c same)
          ]

      less : ((more : Path) → Lacks u.1 more → MentionedFrom u (n + 1) ps (more ++ u.1 ∷ path) → owner all u.0 (u.1 ∷ path) ≡ u.1) → (ls : Path) → Lacks u.1 ls → MentionedFrom u (n + 1) ps (drop 1 (ls ++ u.1 ∷ path)) → owner all u.0 (u.1 ∷ path) ≡ u.1
      less next [] h f = absurd (behind_end (mentions u) u.1 (mentioned_within u z) (n + 1) path ps (omega arith) outer f)
      less next (m ∷ ms) h f = next ms (lacks_less u.1 (m ∷ ms) h) f

      there : ((more : Path) → Lacks u.1 more → MentionedFrom u (n + 1) ps (more ++ u.1 ∷ path) → owner all u.0 (u.1 ∷ path) ≡ u.1) → MentionedFrom u (n + 1) ps (path_behind n (pre ++ u.1 ∷ path) p) → owner all u.0 (u.1 ∷ path) ≡ u.1
      there next i =
          elim (behind_cases n (pre ++ u.1 ∷ path) p) [
            | inl c ↦ next (n ∷ pre) (lacks_begun u.1 n pre l inner) (subst (MentionedFrom u (n + 1) ps) c i)
            | inr d ↦
                elim d [
                  | inl c ↦ next pre inner (subst (MentionedFrom u (n + 1) ps) c i)
                  | inr c ↦ less next pre inner (subst (MentionedFrom u (n + 1) ps) c i)
                ]
          ]

-- ---- what a part binds

skip_item : (whole : Bool) (d : ℕ) (i : Item) (ps : List Piece) (v : ℕ) → occurs_in_front whole d ps v ≡ true → occurs_in_front whole d (item i ∷ ps) v ≡ true
skip_item whole zero i ps v e = right_true (contains (item_variables i) v) _ e
skip_item whole (suc d) i ps v e = e

module _ (k : Known) (all : List Sighting) (vs : List Variable) where
  abbrev pub pieces_from : ℕ → Path → List Part → List Piece
  pieces_from n path ps = flat_map (pieces_of_part k all vs) (with_alternatives (placed n path ps))

  -- a variable by its name and level, where it belongs to that level
  module _ (name : List ℕ) (m : ℕ) (path : Path) (own : owner all name path ≡ m) where
    abbrev number : ℕ
    number = number_from 0 (name, m) vs

    named_spoken : (w : Spoken) → speaks name w ≡ true → contains (variable_in (ref_of_spoken k all vs path w)) number ≡ true
    named_spoken (Var v) e =
        let same : v ≡ name = (bytes_eq-Decides v name).0 e in
        left_true (number_from 0 (v, owner all v path) vs == number) false
        (eq-eqb (number_from 0 (v, owner all v path) vs) number (ap (λ n. number_from 0 (n, owner all n path) vs) same ∙ ap (λ l. number_from 0 (name, l) vs) own))
    named_spoken (Word n) e = absurd (let x : false ≡ true = e in cc)
    named_spoken Any e = absurd (let x : false ≡ true = e in cc)
    named_spoken AnyOnce e = absurd (let x : false ≡ true = e in cc)

    named_source : (r : Option Reference) → is_variable_if_written name r ≡ true → contains (variable_in (source_of k all vs path r)) number ≡ true
    named_source None e = absurd (let x : false ≡ true = e in cc)
    named_source (Some r) e = named_spoken r.spoken e

    named_target : (r : Option Reference) → is_variable_if_written name r ≡ true → contains (option_map_or variable_in (option_map (ref_of k all vs path) r) []) number ≡ true
    named_target None e = absurd (let x : false ≡ true = e in cc)
    named_target (Some r) e = named_spoken r.spoken e

    pub named_term : (t : TermSyntax) → names_variable name t ≡ true → contains (term_variables (checked_term k all vs path t)) number ≡ true
    named_term t e =
        let first = variable_in (ref_of k all vs path t.component) in
        let source = variable_in (source_of k all vs path t.source) in
        let target = option_map_or variable_in (option_map (ref_of k all vs path) t.target) [] in
        elim (split (is_variable name t.component || is_variable_if_written name t.source) (is_variable_if_written name t.target) e) [
          | inl i ↦
              elim (split (is_variable name t.component) (is_variable_if_written name t.source) i) [
                | inl j ↦ contains-right source (first ++ target) number (contains-left first target number (named_spoken (t.component).spoken j))
                | inr j ↦ contains-left source (first ++ target) number (named_source t.source j)
              ]
          | inr i ↦ contains-right source (first ++ target) number (contains-right first target number (named_target t.target i))
        ]

    named_equality : (w : Spoken) (r : Reference) → speaks name w ≡ true → contains (item_variables (checked_equality k all vs path w true r)) number ≡ true
    named_equality (Var v) r e = contains-left (number_from 0 (v, owner all v path) vs ∷ []) (variable_in (ref_of k all vs path r)) number (named_spoken (Var v) e)
    named_equality (Word n) r e = absurd (let x : false ≡ true = e in cc)
    named_equality Any r e = absurd (let x : false ≡ true = e in cc)
    named_equality AnyOnce r e = absurd (let x : false ≡ true = e in cc)

  in_chain : (t : Term) (ts : List Term) (v : ℕ) → contains (term_variables t) v ≡ true → contains (item_variables (chain_of t ts)) v ≡ true
  in_chain t [] v e = e
  in_chain t (u ∷ us) v e = contains-left (term_variables t) (flat_map term_variables (u ∷ us)) v e

  -- the path of the whole query, or of a group
  abbrev base_of : Bool → ℕ → Path → Path
  base_of true m path = []
  base_of false m path = m ∷ path

  bound_within : (name : List ℕ) (m : ℕ) → 0 < m → Within (binds_in name m) m
  bound_within name m z q e = at_level (q.0).0 (first_of (level_of (q.0).0 == m) _ e)
    where
      at_level : (path : Path) → (level_of path == m) ≡ true → contains path m ≡ true
      at_level [] f = absurd (let same = eqb-true 0 m f in omega arith)
      at_level (l ∷ ls) f = left_true (l == m) _ f

  module _ (name : List ℕ) (m : ℕ) (path : Path) (outer : Lacks m path) where
    abbrev its_number : ℕ
    its_number = number_from 0 (name, m) vs

    -- an item that has the variable where it stands in the level itself
    here_item : (whole : Bool) (pre : Path) (i : Path → Item) (ps : List Piece) → Lacks m pre → (level_of (pre ++ base_of whole m path) == m) ≡ true
        → contains (item_variables (i (base_of whole m path))) its_number ≡ true → occurs_in_front whole (length pre) (item (i (pre ++ base_of whole m path)) ∷ ps) its_number ≡ true
    here_item whole [] i ps inner l e = left_true (contains (item_variables (i (base_of whole m path))) its_number) _ e
    here_item whole (n ∷ pre) i ps inner l e = absurd (inner (left_true (n == m) _ l))

    -- a variable that is bound in a level occurs there
    bound_occurs : (whole : Bool) → (whole ≡ false → 0 < m) → owner all name (base_of whole m path) ≡ m → (pre : Path) (n : ℕ) (ps : List Part) → m < n → Lacks m pre
        → list_any (binds_in name m) (parts_from n (pre ++ base_of whole m path) ps) ≡ true → occurs_in_front whole (length pre) (pieces_from n (pre ++ base_of whole m path) ps) its_number ≡ true
    bound_occurs whole z own pre n [] l inner e = absurd (let x : false ≡ true = e in cc)
    bound_occurs whole z own pre n (term And t ∷ ps) l inner e =
        let now = pre ++ base_of whole m path in
        let rest = pieces_from (n + 1) now ps in
        let others = alternatives (map (λ (q : Path × Part). q.1) (placed (n + 1) now ps)) in
        let i : Path → Item = λ at. chain_of (checked_term k all vs at t) (map (checked_term k all vs at) others) in
        elim (split (binds_in name m (first_part n now (term And t) ps)) _ e) [
          | inl b ↦
              here_item whole pre i rest inner (first_of (level_of now == m) _ b)
              (in_chain (checked_term k all vs (base_of whole m path) t) (map (checked_term k all vs (base_of whole m path)) others) its_number
              (named_term name m (base_of whole m path) own t (first_of (names_variable name t) _ (second_of (level_of now == m) _ b))))
          | inr b ↦ skip_item whole (length pre) (i now) rest its_number (bound_occurs whole z own pre (n + 1) ps (omega arith) inner b)
        ]
    bound_occurs whole z own pre n (term Or t ∷ ps) l inner e =
        let now = pre ++ base_of whole m path in
        elim (split (binds_in name m (first_part n now (term Or t) ps)) _ e) [
          | inl b ↦ absurd (let x : false ≡ true = second_of (level_of now == m) false b in cc)
          | inr b ↦ bound_occurs whole z own pre (n + 1) ps (omega arith) inner b
        ]
    bound_occurs whole z own pre n (term Optional t ∷ ps) l inner e =
        let now = pre ++ base_of whole m path in
        elim (split (binds_in name m (first_part n now (term Optional t) ps)) _ e) [
          | inl b ↦ absurd (let x : false ≡ true = second_of (level_of now == m) false b in cc)
          | inr b ↦ skip_item whole (length pre) (may (checked_term k all vs now t)) (pieces_from (n + 1) now ps) its_number (bound_occurs whole z own pre (n + 1) ps (omega arith) inner b)
        ]
    bound_occurs whole z own pre n (term Not t ∷ ps) l inner e =
        let now = pre ++ base_of whole m path in
        elim (split (binds_in name m (first_part n now (term Not t) ps)) _ e) [
          | inl b ↦ absurd (let same = eqb-true n m (first_of (n == m) (names_variable name t) b) in omega arith)
          | inr b ↦ bound_occurs whole z own pre (n + 1) ps (omega arith) inner b
        ]
    bound_occurs whole z own pre n (opened s ∷ ps) l inner e =
        let now = pre ++ base_of whole m path in
        elim (split (binds_in name m (first_part n now (opened s) ps)) _ e) [
          | inl b ↦ absurd (let x : false ≡ true = second_of (n == m) false b in cc)
          | inr b ↦ bound_occurs whole z own (n ∷ pre) (n + 1) ps (omega arith) (lacks_begun m n pre l inner) b
        ]
    bound_occurs whole z own (o ∷ pre) n (closed ∷ ps) l inner e =
        let now = (o ∷ pre) ++ base_of whole m path in
        elim (split (binds_in name m (first_part n now closed ps)) _ e) [
          | inl b ↦ absurd (let x : false ≡ true = second_of (level_of now == m) false b in cc)
          | inr b ↦ bound_occurs whole z own pre (n + 1) ps (omega arith) (lacks_less m (o ∷ pre) inner) b
        ]
    bound_occurs true z own [] n (closed ∷ ps) l inner e =
        elim (split (binds_in name m (first_part n [] closed ps)) _ e) [
          | inl b ↦ absurd (let x : false ≡ true = second_of (0 == m) false b in cc)
          | inr b ↦ bound_occurs true z own [] (n + 1) ps (omega arith) inner b
        ]
    bound_occurs false z own [] n (closed ∷ ps) l inner e =
        elim (split (binds_in name m (first_part n (m ∷ path) closed ps)) _ e) [
          | inl b ↦ absurd (let x : false ≡ true = second_of (m == m) false b in cc)
          | inr b ↦ absurd (behind_end (binds_in name m) m (bound_within name m (z refl)) (n + 1) path ps (omega arith) outer b)
        ]
    bound_occurs whole z own pre n (equality v true r ∷ ps) l inner e =
        let now = pre ++ base_of whole m path in
        let rest = pieces_from (n + 1) now ps in
        let i : Path → Item = λ at. checked_equality k all vs at v.spoken true r in
        elim (split (binds_in name m (first_part n now (equality v true r) ps)) _ e) [
          | inl b ↦
              here_item whole pre i rest inner (first_of (level_of now == m) _ b)
              (named_equality name m (base_of whole m path) own v.spoken r (first_of (is_variable name v) (is_word r) (second_of (level_of now == m) _ b)))
          | inr b ↦ skip_item whole (length pre) (i now) rest its_number (bound_occurs whole z own pre (n + 1) ps (omega arith) inner b)
        ]
    bound_occurs whole z own pre n (equality v false r ∷ ps) l inner e =
        let now = pre ++ base_of whole m path in
        elim (split (binds_in name m (first_part n now (equality v false r) ps)) _ e) [
          | inl b ↦ absurd (let x : false ≡ true = second_of (level_of now == m) false b in cc)
          | inr b ↦
              skip_item whole (length pre) (checked_equality k all vs now v.spoken false r) (pieces_from (n + 1) now ps) its_number (bound_occurs whole z own pre (n + 1) ps (omega arith) inner b)
        ]

  -- ---- each group's own variables

  -- what is still to come of the variables of levels that begin with a part or after it
  abbrev pub Remain : ℕ → Path → List Part → Type 0
  Remain n path ps = (name : List ℕ) (m : ℕ) → is_among vs (name, m) ≡ true → n ≤ m
      → (list_any (binds_in name m) (parts_from n path ps) ≡ true) × (list_any (mentions all (name, m)) (parts_from n path ps) ≡ true)

  remain_behind : (n : ℕ) (path : Path) (p : Part) (ps : List Part) → Before n path → Remain n path (p ∷ ps) → Remain (n + 1) (path_behind n path p) ps
  remain_behind n path p ps b h name m among low =
      let now = h name m among (omega arith) in (
        before_start (binds_in name m) m (bound_within name m (omega arith)) n path p ps (omega arith) b now.0,
        before_start (mentions all (name, m)) m (mentioned_within all (name, m) (omega arith)) n path p ps (omega arith) b now.1,
      )

  module _ (d : distinct vs ≡ true) where
    -- the own variables of a group, and of a Not term
    own_of_group : (n : ℕ) (path : Path) (s : Span) (ps : List Part) → 0 < n → Before n path → Remain n path (opened s ∷ ps)
        → list_all (occurs_in_front false zero (pieces_from (n + 1) (n ∷ path) ps)) (numbers_from 0 n vs) ≡ true
    own_of_group n path s ps z b h =
        each_number (occurs_in_front false zero (pieces_from (n + 1) (n ∷ path) ps)) (numbers_from 0 n vs)
        (λ r e.
        let v = own_number 0 n r vs d e in
        let here = h v.0 n v.1 (omega arith) in
        let outer : Lacks n path = lacks_before n n path (omega arith) b in
        let mentioned : list_any (mentions all (v.0, n)) (parts_from (n + 1) (n ∷ path) ps) ≡ true =
        elim (split (mentions all (v.0, n) (first_part n path (opened s) ps)) _ here.1) [
          | inl i ↦ absurd (let x : false ≡ true = i in cc)
          | inr i ↦ i
        ] in
        let bound : list_any (binds_in v.0 n) (parts_from (n + 1) (n ∷ path) ps) ≡ true =
        elim (split (binds_in v.0 n (first_part n path (opened s) ps)) _ here.0) [
          | inl i ↦ absurd (let x : false ≡ true = second_of (n == n) false i in cc)
          | inr i ↦ i
        ] in
        let own = owner_at_start all (v.0, n) path z outer [] (n + 1) ps (omega arith) (lacks_none n) mentioned in
        ap (occurs_in_front false zero (pieces_from (n + 1) (n ∷ path) ps)) (sym v.2)
        ∙ bound_occurs v.0 n path outer false (λ f. z) own [] (n + 1) ps (omega arith) (lacks_none n) bound)

    own_of_term : (n : ℕ) (path : Path) (t : TermSyntax) (ps : List Part) → 0 < n → Before n path → Remain n path (term Not t ∷ ps)
        → list_all (occurs_in_front false zero (item (must (checked_term k all vs (n ∷ path) t)) ∷ closing ∷ pieces_from (n + 1) path ps)) (numbers_from 0 n vs) ≡ true
    own_of_term n path t ps z b h =
        let ours = item (must (checked_term k all vs (n ∷ path) t)) ∷ closing ∷ pieces_from (n + 1) path ps in
        each_number (occurs_in_front false zero ours) (numbers_from 0 n vs)
        (λ r e.
        let v = own_number 0 n r vs d e in
        let here = h v.0 n v.1 (omega arith) in
        let outer : Lacks n path = lacks_before n n path (omega arith) b in
        let own : owner all v.0 (n ∷ path) ≡ n =
        elim (split (mentions all (v.0, n) (first_part n path (term Not t) ps)) _ here.1) [
          | inl i ↦ mentioned_owner all (v.0, n) (first_part n path (term Not t) ps) i
          | inr i ↦ absurd (behind_end (mentions all (v.0, n)) n (mentioned_within all (v.0, n) z) (n + 1) path ps (omega arith) outer i)
        ] in
        let names : names_variable v.0 t ≡ true =
        elim (split (binds_in v.0 n (first_part n path (term Not t) ps)) _ here.0) [
          | inl i ↦ second_of (n == n) (names_variable v.0 t) i
          | inr i ↦ absurd (behind_end (binds_in v.0 n) n (bound_within v.0 n z) (n + 1) path ps (omega arith) outer i)
        ] in
        ap (occurs_in_front false zero ours) (sym v.2)
        ∙ left_true (contains (term_variables (checked_term k all vs (n ∷ path) t)) (number_from 0 (v.0, n) vs)) false (named_term v.0 n (n ∷ path) own t names))

    pub own_of_pieces : (n : ℕ) (path : Path) (ps : List Part) → 0 < n → Before n path → Remain n path ps → own_variables_occur (pieces_from n path ps) ≡ true
    own_of_pieces n path [] z b h = refl
    own_of_pieces n path (term And t ∷ ps) z b h = own_of_pieces (n + 1) path ps (omega arith) (before_behind n path (term And t) b) (remain_behind n path (term And t) ps b h)
    own_of_pieces n path (term Or t ∷ ps) z b h = own_of_pieces (n + 1) path ps (omega arith) (before_behind n path (term Or t) b) (remain_behind n path (term Or t) ps b h)
    own_of_pieces n path (term Optional t ∷ ps) z b h =
        own_of_pieces (n + 1) path ps (omega arith) (before_behind n path (term Optional t) b) (remain_behind n path (term Optional t) ps b h)
    own_of_pieces n path (term Not t ∷ ps) z b h =
        both _ (own_variables_occur (pieces_from (n + 1) path ps)) (own_of_term n path t ps z b h)
        (own_of_pieces (n + 1) path ps (omega arith) (before_behind n path (term Not t) b) (remain_behind n path (term Not t) ps b h))
    own_of_pieces n path (opened s ∷ ps) z b h =
        both _ (own_variables_occur (pieces_from (n + 1) (n ∷ path) ps)) (own_of_group n path s ps z b h)
        (own_of_pieces (n + 1) (n ∷ path) ps (omega arith) (before_behind n path (opened s) b) (remain_behind n path (opened s) ps b h))
    own_of_pieces n path (closed ∷ ps) z b h = own_of_pieces (n + 1) (drop 1 path) ps (omega arith) (before_behind n path closed b) (remain_behind n path closed ps b h)
    own_of_pieces n path (equality v same r ∷ ps) z b h =
        own_of_pieces (n + 1) path ps (omega arith) (before_behind n path (equality v same r) b) (remain_behind n path (equality v same r) ps b h)

  -- a variable of the whole query that is bound there occurs there
  pub whole_occurs : (name : List ℕ) (ps : List Part) → list_any (binds_in name 0) (parts_from 1 [] ps) ≡ true → occurs_in_front true zero (pieces_from 1 [] ps) (number_from 0 (name, 0) vs) ≡ true
  whole_occurs name ps e = bound_occurs name 0 [] (lacks_none 0) true (λ f. absurd (let x : true ≡ false = f in cc)) (owner_whole all name) [] 1 ps (omega arith) (lacks_none 0) e

-- The machine's refusal is the first token that no query allows: each state goes on to the end of some query.
use Rattle.std.proofs.Common.{◌≡◌, ◌⊎◌, ℕ, suc, zero, Bool, true, false, List, [], ◌∷◌, ◌++◌, Option, Some, None, Result, Ok, Err, refl, sym, ap, subst, inl, inr, ◌∙◌, append_assoc}
use Rattle.std.specs.Prelude.{codes}
use Rattle.query_model.specs.declared.Span.{Span}
use Rattle.query_model.specs.declared.Mark.TheVariants.{Comma, CloseParen, CloseBrace, CloseBracket, Star}
use Rattle.query_model.specs.declared.syntax.Role.{Role}
use Rattle.query_model.specs.declared.syntax.Role.TheVariants.{And, Or, Not, Optional}
use Rattle.query_model.specs.Tokens.{Token, token, span_of, Name, Punct, End}
use Rattle.query_model.specs.Syntax.{Spoken, Reference, at, Var, Up, up, flags, none, TermSyntax, Part, term, closed, equality, component, pair_of, applied, with_target, ended_at}
use Rattle.query_model.specs.Grammar.{star, IsQuery, BeginsQuery, IsSyntaxFault}
use Rattle.query_model.specs.Machine.{State, term_next, access_next, behind_access_word, body_next, pair_next, behind_pair_first, target_next, behind_target, behind_flags, behind_along, behind_first, source_next, behind_source, flags_next, behind_self, rise_next, behind_up, along_next, behind_variable, other_side, behind_item, finished, Move, joins, term_step, body_step, step, before_part, before_parts, behind, run, parts_of}
use Rattle.query_model.specs.Laws.{OneSyntax, EndsInEnd, PartsAreGrammatical}
use Rattle.query_model.proofs.MachineComplete.{Reads, first_goes, variable_goes, body_begins, term_begins, query_is_read}
use Rattle.query_model.proofs.MachineSound.{read_is_query}

-- a list of tokens has at most one syntax
pub one_syntax : OneSyntax
one_syntax ts ps qs p q = let e : Ok ps ≡ Ok qs = sym (query_is_read ts ps p) ∙ query_is_read ts qs q in cc

nowhere : Span
nowhere = record { start = 0; end = 0 }

-- the tokens that bring a state to the end of a query
abbrev Alive : ℕ → State → Type 0
Alive d s = (more : List Token) × (ps : List Part) × Reads more d s ps

item_alive : (d : ℕ) (joined : Bool) → Alive d (behind_item joined)
item_alive zero joined = (token End nowhere ∷ [], [], refl)
item_alive (suc d) joined = let a = item_alive d false in (token (Punct CloseBrace) nowhere ∷ a.0, closed ∷ a.1, ap (before_part closed) a.2)

module _ (d : ℕ) (role : Role) where
  -- with a bracket, a target and a bracket, or `up` or `cascade` and a bracket at the end of a term
  args_alive : (t : TermSyntax) → Alive d (behind_flags role t)
  args_alive t =
      let a = item_alive d (joins role) in
      let p : Part = term role (ended_at t nowhere) in
      (token (Punct CloseParen) nowhere ∷ a.0, p ∷ a.1, ap (before_part p) a.2)

  close_alive : (t : TermSyntax) → Alive d (behind_target role t)
  close_alive t =
      let a = item_alive d (joins role) in
      let p : Part = term role (ended_at t nowhere) in
      (token (Punct CloseParen) nowhere ∷ a.0, p ∷ a.1, ap (before_part p) a.2)

  target_alive : (t : TermSyntax) → Alive d (target_next role t)
  target_alive t = let a = close_alive (with_target t (Some (at Spoken.Any nowhere))) in (token (Punct Star) nowhere ∷ a.0, a.1, a.2)

  first_alive : (v : Bool) (c : Reference) → Alive d (behind_first role v c)
  first_alive v c = let a = item_alive d (joins role) in (a.0, term role (component v c) ∷ a.1, first_goes d role a.1 v c a.0 a.2)

  body_alive : (v : Bool) → Alive d (body_next role v)
  body_alive v = let a = first_alive v (at Spoken.Any nowhere) in (token (Punct Star) nowhere ∷ a.0, a.1, body_begins d role v (token (Punct Star) nowhere) (at Spoken.Any nowhere) a.0 a.1 star a.2)

-- each state goes on
alive : (d : ℕ) (s : State) → Alive d s
alive d (term_next role) = let a = first_alive d role true (at Spoken.Any nowhere) in (token (Punct Star) nowhere ∷ a.0, a.1, term_begins d role (token (Punct Star) nowhere) (at Spoken.Any nowhere) a.0 a.1 star a.2)
alive d (access_next role) = let a = body_alive d role true in (token (Name (codes "in")) nowhere ∷ token (Punct CloseBracket) nowhere ∷ a.0, a.1, a.2)
alive d (behind_access_word role v) = let a = body_alive d role v in (token (Punct CloseBracket) nowhere ∷ a.0, a.1, a.2)
alive d (body_next role v) = body_alive d role v
alive d (pair_next role v s) = let a = target_alive d role (pair_of v s (at Spoken.Any nowhere)) in (token (Punct Star) nowhere ∷ token (Punct Comma) nowhere ∷ a.0, a.1, a.2)
alive d (behind_pair_first role t) = let a = target_alive d role t in (token (Punct Comma) nowhere ∷ a.0, a.1, a.2)
alive d (target_next role t) = target_alive d role t
alive d (behind_target role t) = close_alive d role t
alive d (behind_flags role t) = args_alive d role t
alive d (behind_along role t) = let a = args_alive d role t in (token (Punct CloseParen) nowhere ∷ a.0, a.1, a.2)
alive d (behind_first role v c) = first_alive d role v c
alive d (source_next role v c) = let a = target_alive d role (applied v c (Some (at Spoken.Any nowhere)) None) in (token (Punct Star) nowhere ∷ token (Punct Comma) nowhere ∷ a.0, a.1, a.2)
alive d (behind_source role v c r) = let a = target_alive d role (applied v c (Some r) None) in (token (Punct Comma) nowhere ∷ a.0, a.1, a.2)
alive d (flags_next role v c source) = let a = target_alive d role (applied v c source (Some (flags true none))) in (token (Name (codes "self")) nowhere ∷ token (Punct Comma) nowhere ∷ a.0, a.1, a.2)
alive d (behind_self role v c source) = let a = target_alive d role (applied v c source (Some (flags true none))) in (token (Punct Comma) nowhere ∷ a.0, a.1, a.2)
alive d (rise_next role v c source) = let a = target_alive d role (applied v c source (Some (flags true (up Up None)))) in (token (Name (codes "up")) nowhere ∷ token (Punct Comma) nowhere ∷ a.0, a.1, a.2)
alive d (behind_up role v c source own w) = let a = target_alive d role (applied v c source (Some (flags own (up w None)))) in (token (Punct Comma) nowhere ∷ a.0, a.1, a.2)
alive d (along_next role v c source own w) = let a = args_alive d role (applied v c source (Some (flags own (up w (Some (at (Spoken.Word (codes "a")) nowhere)))))) in (token (Name (codes "a")) nowhere ∷ token (Punct CloseParen) nowhere ∷ a.0, a.1, a.2)
alive d (behind_variable v s) = let a = first_alive d And true (at (Var v) s) in (a.0, a.1, variable_goes d v s a.1 a.0 a.2)
alive d (other_side r same) = let a = item_alive d false in let p : Part = equality r same (at Spoken.Any nowhere) in (token (Punct Star) nowhere ∷ a.0, p ∷ a.1, ap (before_part p) a.2)
alive d (behind_item joined) = item_alive d joined
alive d finished = ([], [], refl)

-- the end of the text leaves nothing to read, or is refused
term_end : (d : ℕ) (role : Role) (e : Span) → term_step d role (token End e) ≡ None
term_end d And e = refl
term_end d Or e = refl
term_end d Not e = refl
term_end d Optional e = refl

body_end : (d : ℕ) (role : Role) (v : Bool) (e : Span) → body_step d role v (token End e) ≡ None
body_end d And v e = refl
body_end d Or v e = refl
body_end d Not v e = refl
body_end d Optional v e = refl

end_decides : (d : ℕ) (s : State) (e : Span) → (step d s (token End e) ≡ None) ⊎ ((ps : List Part) × Reads (token End e ∷ []) d s ps)
end_decides zero (behind_item joined) e = inr ([], refl)
end_decides zero (behind_first role v c) e = inr (term role (component v c) ∷ [], refl)
end_decides zero (behind_variable v s) e = inr (term And (component true (at (Var v) s)) ∷ [], refl)
end_decides d (term_next role) e = inl (term_end d role e)
end_decides d (body_next role v) e = inl (body_end d role v e)
end_decides d s e = inl refl

-- the token at which the machine stops: from the state some tokens before it go on to the end, and none through it
abbrev StopsAt : ℕ → State → List Token → Span → Type 0
StopsAt d s ts span =
    (front : List Token) × (t : Token) × (rest : List Token) × (ts ≡ front ++ t ∷ rest)
    × ((more : List Token) × (ps : List Part) × Reads (front ++ more) d s ps)
    × ((more : List Token) (ps : List Part) → Reads (front ++ t ∷ more) d s ps → ⊥) × (span ≡ span_of t)

refused_first : (d : ℕ) (s : State) (t : Token) (rest : List Token) (span : Span) → step d s t ≡ None → run (t ∷ rest) d s ≡ Err span → StopsAt d s (t ∷ rest) span
refused_first d s t rest span e h =
    let refusal : (more : List Token) → run (t ∷ more) d s ≡ Err (span_of t) = λ more. ap (behind (span_of t) (run more)) e in
    ([], t, rest, refl, alive d s, (λ more ps r. let f = refusal more in cc), let f = refusal rest in cc)

before_all : (ps qs : List Part) (r : Result (List Part) Span) → r ≡ Ok qs → before_parts ps r ≡ Ok (ps ++ qs)
before_all [] qs r h = h
before_all (p ∷ ps) qs r h = ap (before_part p) (before_all ps qs r h)

fault_behind : (ps : List Part) (r : Result (List Part) Span) (span : Span) → before_parts ps r ≡ Err span → r ≡ Err span
fault_behind [] r span h = h
fault_behind (p ∷ ps) r span h = fault_behind ps r span (of_part (before_parts ps r) h)
  where
    of_part : (q : Result (List Part) Span) → before_part p q ≡ Err span → q ≡ Err span
    of_part (Ok qs) g = cc
    of_part (Err s) g = g

parts_behind : (ps : List Part) (r : Result (List Part) Span) (qs : List Part) → before_parts ps r ≡ Ok qs → (rs : List Part) × (r ≡ Ok rs)
parts_behind ps (Ok rs) qs h = (rs, refl)
parts_behind ps (Err s) qs h = let f : before_parts ps (Err s) ≡ Err s = refused ps in cc
  where
    refused : (ps : List Part) → before_parts ps (Err s) ≡ Err s
    refused [] = refl
    refused (p ∷ ps) = ap (before_part p) (refused ps)

goes_on : (d : ℕ) (s : State) (x : Token) (xs : List Token) (m : Move) (span : Span) → step d s x ≡ Some m → StopsAt m.depth m.state xs span → StopsAt d s (x ∷ xs) span
goes_on d s x xs m span e (front, t, rest, is, (more, ps, r), none_through, stands) =
    let moves : (ys : List Token) → run (x ∷ ys) d s ≡ before_parts m.parts (run ys m.depth m.state) = λ ys. ap (behind (span_of x) (run ys)) e in (
      x ∷ front,
      t,
      rest,
      ap (λ ys. x ∷ ys) is,
      (more, m.parts ++ ps, moves (front ++ more) ∙ before_all m.parts ps (run (front ++ more) m.depth m.state) r),
      (λ ys qs h. let u = parts_behind m.parts (run (front ++ t ∷ ys) m.depth m.state) qs (sym (moves (front ++ t ∷ ys)) ∙ h) in none_through ys u.0 u.1),
      stands,
    )

stops_at : (front : List Token) (e : Span) (d : ℕ) (s : State) (span : Span) → run (front ++ token End e ∷ []) d s ≡ Err span → StopsAt d s (front ++ token End e ∷ []) span
stops_at [] e d s span h = elim (end_decides d s e) [ inl refuses ↦ refused_first d s (token End e) [] span refuses h | inr u ↦ let r = u.1 in cc ]
stops_at (x ∷ front) e d s span h = by_step (step d s x) refl (λ m. stops_at front e m.depth m.state span)
  where
    by_step : (o : Option Move) → step d s x ≡ o → ((m : Move) → run (front ++ token End e ∷ []) m.depth m.state ≡ Err span → StopsAt m.depth m.state (front ++ token End e ∷ []) span) → StopsAt d s (x ∷ front ++ token End e ∷ []) span
    by_step None refuses next = refused_first d s x (front ++ token End e ∷ []) span refuses h
    by_step (Some m) goes next =
        let g : before_parts m.parts (run (front ++ token End e ∷ []) m.depth m.state) ≡ Err span = sym (ap (behind (span_of x) (run (front ++ token End e ∷ []))) goes) ∙ h in
        goes_on d s x (front ++ token End e ∷ []) m span goes (next m (fault_behind m.parts (run (front ++ token End e ∷ []) m.depth m.state) span g))

-- the machine's refusal is the syntax fault
refusal_is_fault : (ts : List Token) → EndsInEnd ts → (span : Span) → parts_of ts ≡ Err span → IsSyntaxFault ts span
refusal_is_fault ts (all, e, is) span h =
    let u = stops_at all e zero (term_next And) span (subst (λ us. parts_of us ≡ Err span) is h) in
    let v = u.4 in (
      u.0,
      u.1,
      u.2,
      is ∙ u.3,
      (v.0, v.1, read_is_query (u.0 ++ v.0) v.1 v.2),
      (λ b. u.5 b.0 b.1 (subst (λ us. parts_of us ≡ Ok b.1) (append_assoc u.0 (u.1 ∷ []) b.0) (query_is_read ((u.0 ++ u.1 ∷ []) ++ b.0) b.1 b.2))),
      u.6,
    )

-- two places in one list: the same, or one before the other
places : (xs ys us vs : List Token) (t u : Token) → xs ++ t ∷ us ≡ ys ++ u ∷ vs → (t ≡ u) ⊎ (((ws : List Token) × (ys ≡ xs ++ t ∷ ws)) ⊎ ((ws : List Token) × (xs ≡ ys ++ u ∷ ws)))
places [] [] us vs t u e = inl cc
places [] (y ∷ ys) us vs t u e = inr (inl (ys, cc))
places (x ∷ xs) [] us vs t u e = inr (inr (xs, cc))
places (x ∷ xs) (y ∷ ys) us vs t u e =
    let h : x ≡ y = cc in
    elim (places xs ys us vs t u cc) [
      | inl same ↦ inl same
      | inr w ↦ elim w [
        | inl before ↦ inr (inl (before.0, let g : ys ≡ xs ++ t ∷ before.0 = before.1 in cc))
        | inr after ↦ inr (inr (after.0, let g : xs ≡ ys ++ u ∷ after.0 = after.1 in cc))
      ]
    ]

-- a prefix of tokens that begin a query begins one
front_begins : (front rest : List Token) (t : Token) → BeginsQuery (front ++ t ∷ rest) → BeginsQuery (front ++ t ∷ [])
front_begins front rest t (more, ps, q) =
    let e : (front ++ t ∷ rest) ++ more ≡ (front ++ t ∷ []) ++ (rest ++ more) = append_assoc front (t ∷ rest) more ∙ sym (append_assoc front (t ∷ []) (rest ++ more)) in
    (rest ++ more, ps, subst (λ ts. IsQuery ts ps) e q)

one_fault : (ts : List Token) (s u : Span) → IsSyntaxFault ts s → IsSyntaxFault ts u → s ≡ u
one_fault ts s u (xs, t, us, e, begin, refuse, stands) (ys, v, vs, f, begin', refuse', stands') =
    elim (places xs ys us vs t v (sym e ∙ f)) [
      | inl same ↦ stands ∙ ap span_of same ∙ sym stands'
      | inr w ↦ elim w [
        | inl before ↦ absurd (refuse (front_begins xs before.0 t (subst BeginsQuery before.1 begin')))
        | inr after ↦ absurd (refuse' (front_begins ys after.0 v (subst BeginsQuery after.1 begin)))
      ]
    ]

-- tokens with a fault are no query
fault_is_refusal : (ts : List Token) → EndsInEnd ts → (span : Span) → IsSyntaxFault ts span → parts_of ts ≡ Err span
fault_is_refusal ts ends span fault = by_answer (parts_of ts) refl fault
  where
    by_answer : (r : Result (List Part) Span) → parts_of ts ≡ r → IsSyntaxFault ts span → r ≡ Err span
    by_answer (Ok ps) h (front, t, rest, is, begins, none_through, stands) = absurd (none_through (rest, ps, subst (λ us. IsQuery us ps) (is ∙ sym (append_assoc front (t ∷ []) rest)) (read_is_query ts ps h)))
    by_answer (Err u) h f = ap Err (one_fault ts u span (refusal_is_fault ts ends u h) f)

pub parts_are_grammatical : PartsAreGrammatical
parts_are_grammatical ts ends = ((λ ps. (read_is_query ts ps, query_is_read ts ps)), (λ span. (refusal_is_fault ts ends span, fault_is_refusal ts ends span)))

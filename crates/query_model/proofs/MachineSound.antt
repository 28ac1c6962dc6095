-- What the machine reads, the grammar relates to the tokens: for each state the tails, the tokens and parts with which some form goes on there.
use Rattle.std.proofs.Common.{◌≡◌, ℕ, suc, zero, Bool, true, false, List, [], ◌∷◌, Option, Some, None, Result, Ok, Err, refl, sym, subst, inl, inr, ◌∙◌}
use Rattle.std.specs.Prelude.{codes, bytes_eq, if◌then◌else◌}
use Rattle.std.proofs.lemmas.Bool.{cases_Bool}
use Rattle.std.proofs.lemmas.Slice.Eq.{bytes_eq-Decides}
use Rattle.query_model.specs.declared.Span.{Span}
use Rattle.query_model.specs.Text.{is_reserved}
use Rattle.query_model.specs.declared.Mark.TheVariants.{Comma, OrOr, Bar, NotEqual, Bang, Question, EqualEqual, OpenParen, CloseParen, OpenBrace, CloseBrace, OpenBracket, CloseBracket, Star, Underscore}
use Rattle.query_model.specs.declared.syntax.Role.{Role}
use Rattle.query_model.specs.declared.syntax.Role.TheVariants.{And, Or, Not, Optional}
use Rattle.query_model.specs.Tokens.{Token, token, span_of, Name, Variable, Punct, End}
use Rattle.query_model.specs.Syntax.{Spoken, Reference, at, Word, Var, RiseWord, Up, Cascade, Rise, none, up, Flags, flags, TermSyntax, Part, term, opened, closed, equality, component, pair_of, applied, with_target, ended_at}
use Rattle.query_model.specs.Grammar.{is_access, shows_values, IsWord, plain_word, IsReference, word, variable, star, underscore, IsRiseWord, word_up, word_cascade, IsRise, up_alone, up_along, up_in_brackets, IsFlags, self_alone, rise_alone, self_or_rise, IsSource, reference_alone, flags_alone, reference_with_flags, source_alone, source_and_target, IsBody, alone, pair, with_args, IsAccess, access, IsTerm, body, body_behind_access, IsChain, last_alternative, alternative, IsOperator, bang, question, IsEquals, equal, differ, IsItem, terms, operator, operator_behind_access, group, equation, IsItems, last_item, item, IsQuery}
use Rattle.query_model.specs.Machine.{State, term_next, access_next, behind_access_word, body_next, pair_next, behind_pair_first, target_next, behind_target, behind_flags, behind_along, behind_first, source_next, behind_source, flags_next, behind_self, rise_next, behind_up, along_next, behind_variable, other_side, behind_item, finished, Move, go_to, word_of, reference_of, if_read, joins, item_step, start_step, plain_term_step, args_step, rise_word_step, flags_step, before_part, behind, run, parts_of}
use Rattle.query_model.proofs.MachineComplete.{Reads, emitted}

abbrev Read : Type 0
Read = Result (List Part) Span

mutual
  -- what may stand after an item, inside so many groups
  data After : ℕ → List Token → List Part → Type 0 where
    at_comma : {d : ℕ} {s : Span} {ts : List Token} {ps : List Part} → Items d ts ps → After d (token (Punct Comma) s ∷ ts) ps
    at_close : {d : ℕ} {s : Span} {ts : List Token} {ps : List Part} → After d ts ps → After (suc d) (token (Punct CloseBrace) s ∷ ts) (closed ∷ ps)
    at_end : {s : Span} → After zero (token End s ∷ []) []

  -- items, and what stands after them
  data Items : ℕ → List Token → List Part → Type 0 where
    outermost : {s : Span} {ts : List Token} {ps : List Part} → IsItems ts (token End s ∷ []) [] ps → Items zero ts ps
    inside : {d : ℕ} {s : Span} {ts us : List Token} {ps qs : List Part} → IsItems ts (token (Punct CloseBrace) s ∷ us) (closed ∷ ps) qs → After d us ps → Items (suc d) ts qs

-- the same, perhaps with more alternatives
data Ended : ℕ → Bool → List Token → List Part → Type 0 where
  no_more : {d : ℕ} {joined : Bool} {ts : List Token} {ps : List Part} → After d ts ps → Ended d joined ts ps
  one_more : {d : ℕ} {s : Span} {ts us : List Token} {ps qs : List Part} → IsChain Or ts us ps qs → After d us ps → Ended d true (token (Punct OrOr) s ∷ ts) qs

-- after a term
data Behind : ℕ → Role → TermSyntax → List Token → List Part → Type 0 where
  behind_term : {d : ℕ} {role : Role} {t : TermSyntax} {ts : List Token} {ps : List Part} → Ended d (joins role) ts ps → Behind d role t ts (term role t ∷ ps)

data Closing : ℕ → Role → TermSyntax → List Token → List Part → Type 0 where
  closing : {d : ℕ} {role : Role} {t : TermSyntax} {s : Span} {ts : List Token} {ps : List Part} → Behind d role (ended_at t s) ts ps → Closing d role t (token (Punct CloseParen) s ∷ ts) ps

data Target : ℕ → Role → TermSyntax → List Token → List Part → Type 0 where
  target : {d : ℕ} {role : Role} {t : TermSyntax} {a : Token} {r : Reference} {ts : List Token} {ps : List Part} → IsReference a r → Closing d role (with_target t (Some r)) ts ps → Target d role t (a ∷ ts) ps

data CommaTarget : ℕ → Role → TermSyntax → List Token → List Part → Type 0 where
  comma : {d : ℕ} {role : Role} {t : TermSyntax} {s : Span} {ts : List Token} {ps : List Part} → Target d role t ts ps → CommaTarget d role t (token (Punct Comma) s ∷ ts) ps

-- after a source
data Args : ℕ → Role → TermSyntax → List Token → List Part → Type 0 where
  no_target : {d : ℕ} {role : Role} {t : TermSyntax} {ts : List Token} {ps : List Part} → Closing d role t ts ps → Args d role t ts ps
  a_target : {d : ℕ} {role : Role} {t : TermSyntax} {s : Span} {ts : List Token} {ps : List Part} → Target d role t ts ps → Args d role t (token (Punct Comma) s ∷ ts) ps

data Along : ℕ → Role → TermSyntax → List Token → List Part → Type 0 where
  along : {d : ℕ} {role : Role} {t : TermSyntax} {s : Span} {ts : List Token} {ps : List Part} → Args d role t ts ps → Along d role t (token (Punct CloseParen) s ∷ ts) ps

-- after an access: a body, perhaps with an operator before it
data Body : ℕ → Role → Bool → List Token → List Part → Type 0 where
  plain_body : {d : ℕ} {role : Role} {v : Bool} {ts us : List Token} {t : TermSyntax} {ps : List Part} → IsBody v ts us t → Behind d role t us ps → Body d role v ts ps
  operated : {d : ℕ} {role : Role} {v : Bool} {o : Token} {ts us : List Token} {t : TermSyntax} {ps : List Part} → IsOperator o role → IsBody v ts us t → Behind d role t us ps → Body d And v (o ∷ ts) ps

data Bracket : ℕ → Role → Bool → List Token → List Part → Type 0 where
  bracket : {d : ℕ} {role : Role} {v : Bool} {s : Span} {ts : List Token} {ps : List Part} → Body d role v ts ps → Bracket d role v (token (Punct CloseBracket) s ∷ ts) ps

data AccessWord : ℕ → Role → List Token → List Part → Type 0 where
  access_word : {d : ℕ} {role : Role} {n : List ℕ} {s : Span} {ts : List Token} {ps : List Part} → is_access n ≡ true → Bracket d role (shows_values n) ts ps → AccessWord d role (token (Name n) s ∷ ts) ps

-- where a term is to come
data Term : ℕ → Role → List Token → List Part → Type 0 where
  plain_term : {d : ℕ} {role : Role} {ts us : List Token} {t : TermSyntax} {ps : List Part} → IsTerm ts us t → Behind d role t us ps → Term d role ts ps
  whole : {d : ℕ} {ts : List Token} {ps : List Part} → Items d ts ps → Term d And ts ps
  a_group : {d : ℕ} {s : Span} {ts : List Token} {ps : List Part} → Items (suc d) ts ps → Term d Not (token (Punct OpenBrace) s ∷ ts) (opened s ∷ ps)

data Other : ℕ → Reference → Bool → List Token → List Part → Type 0 where
  other : {d : ℕ} {r q : Reference} {same : Bool} {a : Token} {ts : List Token} {ps : List Part} → IsReference a q → After d ts ps → Other d r same (a ∷ ts) (equality r same q ∷ ps)

abbrev self_word : Span → Token
self_word s = token (Name (codes "self")) s

-- the tails of a state
abbrev Tail : ℕ → State → List Token → List Part → Type 0
Tail d (term_next role) ts ps = Term d role ts ps
Tail d (access_next role) ts ps = AccessWord d role ts ps
Tail d (behind_access_word role v) ts ps = Bracket d role v ts ps
Tail d (body_next role v) ts ps = Body d role v ts ps
Tail d (pair_next role v s) ts ps = (us : List Token) × (t : TermSyntax) × IsBody v (token (Punct OpenParen) s ∷ ts) us t × Behind d role t us ps
Tail d (behind_pair_first role t) ts ps = CommaTarget d role t ts ps
Tail d (target_next role t) ts ps = Target d role t ts ps
Tail d (behind_target role t) ts ps = Closing d role t ts ps
Tail d (behind_flags role t) ts ps = Args d role t ts ps
Tail d (behind_along role t) ts ps = Along d role t ts ps
Tail d (behind_first role v c) ts ps = (us : List Token) × (t : TermSyntax) × ((a : Token) → IsReference a c → IsBody v (a ∷ ts) us t) × Behind d role t us ps
Tail d (source_next role v c) ts ps = (us : List Token) × (r : Option Reference) × (f : Option Flags) × IsSource ts us r f × Args d role (applied v c r f) us ps
Tail d (behind_source role v c r) ts ps = (us : List Token) × (f : Option Flags) × ((a : Token) → IsReference a r → IsSource (a ∷ ts) us (Some r) f) × Args d role (applied v c (Some r) f) us ps
Tail d (flags_next role v c source) ts ps = (us : List Token) × (f : Flags) × IsFlags ts us f × Args d role (applied v c source (Some f)) us ps
Tail d (behind_self role v c source) ts ps = (us : List Token) × (f : Flags) × ((s : Span) → IsFlags (self_word s ∷ ts) us f) × Args d role (applied v c source (Some f)) us ps
Tail d (rise_next role v c source) ts ps = (us : List Token) × (r : Rise) × IsRise ts us r × Args d role (applied v c source (Some (flags true r))) us ps
Tail d (behind_up role v c source own w) ts ps = (us : List Token) × (r : Rise) × ((u : Token) → IsRiseWord u w → IsRise (u ∷ ts) us r) × Args d role (applied v c source (Some (flags own r))) us ps
Tail d (along_next role v c source own w) ts ps = (us : List Token) × (r : Rise) × ((u : Token) (s1 : Span) → IsRiseWord u w → IsRise (u ∷ token (Punct OpenParen) s1 ∷ ts) us r) × Args d role (applied v c source (Some (flags own r))) us ps
Tail d (behind_variable v s) ts ps = Items d (token (Variable v) s ∷ ts) ps
Tail d (other_side r same) ts ps = Other d r same ts ps
Tail d (behind_item joined) ts ps = Ended d joined ts ps
Tail d finished ts ps = (ts ≡ []) × (ps ≡ [])

-- an item, and what stands after it
item_then : {d : ℕ} {ts us : List Token} {ps qs : List Part} → IsItem ts us ps qs → After d us ps → Items d ts qs
item_then i (at_comma (outermost is)) = outermost (item i is)
item_then i (at_comma (inside is a)) = inside (item i is) a
item_then i (at_close a) = inside (last_item i) a
item_then i at_end = outermost (last_item i)

last_ends : {d : ℕ} {ts : List Token} {ps : List Part} {joined : Bool} → joined ≡ false → Ended d joined ts ps → After d ts ps
last_ends e (no_more a) = a
last_ends e (one_more i a) = cc

chain_by_end : {d : ℕ} {role : Role} {joined : Bool} {ts us : List Token} {t : TermSyntax} {ps : List Part} → IsTerm ts us t → Ended d joined us ps → (vs : List Token) × (qs : List Part) × IsChain role ts vs qs (term role t ∷ ps) × After d vs qs
chain_by_end i (no_more {ts = us} {ps = ps} a) = (us, ps, last_alternative i, a)
chain_by_end i (one_more {us = vs} {ps = qs} is a) = (vs, qs, alternative i is, a)

chain_then : {d : ℕ} {role : Role} {ts us : List Token} {t : TermSyntax} {ps : List Part} → IsTerm ts us t → Behind d role t us ps → (vs : List Token) × (qs : List Part) × IsChain role ts vs qs ps × After d vs qs
chain_then i (behind_term e) = chain_by_end i e

whole_chain : {d : ℕ} {ts us : List Token} {t : TermSyntax} {ps : List Part} → IsTerm ts us t → Behind d And t us ps → Items d ts ps
whole_chain i b = let c = chain_then i b in item_then (terms c.2) c.3

items_of : {d : ℕ} {ts : List Token} {ps : List Part} → Term d And ts ps → Items d ts ps
items_of (plain_term i b) = whole_chain i b
items_of (whole is) = is

-- an operator, a term, and what stands after it
operator_then : {d : ℕ} {o : Token} {role : Role} {ts us : List Token} {t : TermSyntax} {ps : List Part} → IsOperator o role → IsTerm ts us t → Behind d role t us ps → Items d (o ∷ ts) ps
operator_then bang i (behind_term e) = item_then (operator bang i) (last_ends refl e)
operator_then question i (behind_term e) = item_then (operator question i) (last_ends refl e)

bang_then : {d : ℕ} {s : Span} {ts : List Token} {ps : List Part} → Term d Not ts ps → Items d (token (Punct Bang) s ∷ ts) ps
bang_then (plain_term i b) = operator_then bang i b
bang_then (a_group (inside is a)) = item_then (group is) a

question_then : {d : ℕ} {s : Span} {ts : List Token} {ps : List Part} → Term d Optional ts ps → Items d (token (Punct Question) s ∷ ts) ps
question_then (plain_term i b) = operator_then question i b

operator_behind : {d : ℕ} {o : Token} {role : Role} {v : Bool} {ts us vs : List Token} {t : TermSyntax} {ps : List Part} → IsAccess ts (o ∷ us) v → IsOperator o role → IsBody v us vs t → Behind d role t vs ps → Items d ts ps
operator_behind a bang i (behind_term e) = item_then (operator_behind_access a bang i) (last_ends refl e)
operator_behind a question i (behind_term e) = item_then (operator_behind_access a question i) (last_ends refl e)

access_then : {d : ℕ} {role : Role} {s : Span} {ts : List Token} {ps : List Part} → AccessWord d role ts ps → Term d role (token (Punct OpenBracket) s ∷ ts) ps
access_then (access_word e (bracket (plain_body i b))) = plain_term (body_behind_access (access e) i) b
access_then (access_word e (bracket (operated o i b))) = whole (operator_behind (access e) o i b)

equation_then : {d : ℕ} {v : List ℕ} {s : Span} {e : Token} {same : Bool} {ts : List Token} {ps : List Part} → IsEquals e same → Other d (at (Var v) s) same ts ps → Items d (token (Variable v) s ∷ e ∷ ts) ps
equation_then e (other i a) = item_then (equation e i) a

pair_then : {d : ℕ} {role : Role} {v : Bool} {s : Span} {a : Token} {r : Reference} {ts : List Token} {ps : List Part} → IsReference a r → CommaTarget d role (pair_of v s r) ts ps
    → (us : List Token) × (t : TermSyntax) × IsBody v (token (Punct OpenParen) s ∷ a ∷ ts) us t × Behind d role t us ps
pair_then i (comma (target j (closing b))) = (_, _, pair i j, b)

args_then : {d : ℕ} {role : Role} {v : Bool} {c : Reference} {s : Span} {ts us : List Token} {r : Option Reference} {f : Option Flags} {ps : List Part} → IsSource ts us r f → Args d role (applied v c r f) us ps
    → (vs : List Token) × (t : TermSyntax) × ((a : Token) → IsReference a c → IsBody v (a ∷ token (Punct OpenParen) s ∷ ts) vs t) × Behind d role t vs ps
args_then src (no_target (closing b)) = (_, _, (λ a i. with_args i (source_alone src)), b)
args_then src (a_target (target j (closing b))) = (_, _, (λ a i. with_args i (source_and_target src j)), b)

-- what a part was put before
emitted_then : (P : List Part → Type 0) (p : Part) (r : Read) (ps : List Part) → before_part p r ≡ Ok ps → ((qs : List Part) → r ≡ Ok qs → P (p ∷ qs)) → P ps
emitted_then P p (Ok qs) ps h f = let e : p ∷ qs ≡ ps = cc in subst P e (f qs refl)
emitted_then P p (Err s) ps h f = cc

-- whether a token is a reference, or a word
data ReferenceView (x : Token) : Type 0 where
  is_reference : (r : Reference) → IsReference x r → reference_of x ≡ Some r → ReferenceView x
  no_reference : reference_of x ≡ None → ReferenceView x

reference_view : (x : Token) → ReferenceView x
reference_view (token (Name n) s) = elim (cases_Bool (is_reserved n)) [ inl kept ↦ no_reference (rw kept refl) | inr free ↦ is_reference (at (Word n) s) (word (plain_word free)) (rw free refl) ]
reference_view (token (Variable v) s) = is_reference (at (Var v) s) variable refl
reference_view (token (Punct Star) s) = is_reference (at Spoken.Any s) star refl
reference_view (token (Punct Underscore) s) = is_reference (at Spoken.AnyOnce s) underscore refl
reference_view x = no_reference refl

data WordView (x : Token) : Type 0 where
  is_word : (r : Reference) → IsWord x r → word_of x ≡ Some r → WordView x
  no_word : word_of x ≡ None → WordView x

word_view : (x : Token) → WordView x
word_view (token (Name n) s) = elim (cases_Bool (is_reserved n)) [ inl kept ↦ no_word (rw kept refl) | inr free ↦ is_word (at (Word n) s) (plain_word free) (rw free refl) ]
word_view x = no_word refl

-- what is read of the tokens has a tail of the state
abbrev Sound : List Token → Type 0
Sound ts = (d : ℕ) (s : State) (ps : List Part) → Reads ts d s ps → Tail d s ts ps

stopped_sound : Sound []
stopped_sound d finished ps h = (refl, cc)
stopped_sound d s ps h = cc

module _ (xs : List Token) (next : Sound xs) where
  by_reference : (x : Token) (go : Reference → Option Move) (ps : List Part) → behind (span_of x) (run xs) (if_read (reference_of x) go None) ≡ Ok ps → (r : Reference) × IsReference x r × (behind (span_of x) (run xs) (go r) ≡ Ok ps)
  by_reference x go ps h = elim (reference_view x) [ is_reference r i e ↦ (r, i, rw e at h) | no_reference e ↦ let g = rw e at h in cc ]

  close_sound : (d : ℕ) (role : Role) (t : TermSyntax) (x : Token) (ps : List Part) → Reads (x ∷ xs) d (behind_target role t) ps → Closing d role t (x ∷ xs) ps
  close_sound d role t (token (Punct CloseParen) s) ps h = emitted_then (Closing d role t (token (Punct CloseParen) s ∷ xs)) _ _ ps h (λ qs g. closing (behind_term (next d (behind_item (joins role)) qs g)))
  close_sound d role t x ps h = cc

  target_sound : (d : ℕ) (role : Role) (t : TermSyntax) (x : Token) (ps : List Part) → Reads (x ∷ xs) d (target_next role t) ps → Target d role t (x ∷ xs) ps
  target_sound d role t x ps h = let u = by_reference x (λ r. go_to d (behind_target role (with_target t (Some r)))) ps h in target u.1 (next d (behind_target role (with_target t (Some u.0))) ps u.2)

  comma_sound : (d : ℕ) (role : Role) (t : TermSyntax) (x : Token) (ps : List Part) → Reads (x ∷ xs) d (behind_pair_first role t) ps → CommaTarget d role t (x ∷ xs) ps
  comma_sound d role t (token (Punct Comma) s) ps h = comma (next d (target_next role t) ps h)
  comma_sound d role t x ps h = cc

  args_sound : (d : ℕ) (role : Role) (t : TermSyntax) (x : Token) (ps : List Part) → Reads (x ∷ xs) d (behind_flags role t) ps → Args d role t (x ∷ xs) ps
  args_sound d role t (token (Punct Comma) s) ps h = a_target (next d (target_next role t) ps h)
  args_sound d role t x ps h = no_target (close_sound d role t x ps h)

  along_sound : (d : ℕ) (role : Role) (t : TermSyntax) (x : Token) (ps : List Part) → Reads (x ∷ xs) d (behind_along role t) ps → Along d role t (x ∷ xs) ps
  along_sound d role t (token (Punct CloseParen) s) ps h = along (next d (behind_flags role t) ps h)
  along_sound d role t x ps h = cc

  ended_sound : (d : ℕ) (joined : Bool) (x : Token) (ps : List Part) → Reads (x ∷ xs) d (behind_item joined) ps → Ended d joined (x ∷ xs) ps
  ended_sound d true (token (Punct OrOr) s) ps h = alternatives (next d (term_next Or) ps h)
    where
      alternatives : Term d Or xs ps → Ended d true (token (Punct OrOr) s ∷ xs) ps
      alternatives (plain_term i b) = let c = chain_then i b in one_more c.2 c.3
  ended_sound d false (token (Punct OrOr) s) ps h = cc
  ended_sound d joined (token (Punct Comma) s) ps h = no_more (at_comma (items_of (next d (term_next And) ps h)))
  ended_sound (suc d) joined (token (Punct CloseBrace) s) ps h = emitted_then (Ended (suc d) joined (token (Punct CloseBrace) s ∷ xs)) _ _ ps h (λ qs g. no_more (at_close (last_ends refl (next d (behind_item false) qs g))))
  ended_sound zero joined (token End s) ps h =
      let u = next zero finished ps h in
      subst (λ ys. Ended zero joined (token End s ∷ ys) ps) (sym u.0) (subst (λ qs. Ended zero joined (token End s ∷ []) qs) (sym u.1) (no_more at_end))
  ended_sound d joined x ps h = cc

  first_sound : (d : ℕ) (role : Role) (v : Bool) (c : Reference) (x : Token) (ps : List Part) → Reads (x ∷ xs) d (behind_first role v c) ps → Tail d (behind_first role v c) (x ∷ xs) ps
  first_sound d role v c (token (Punct OpenParen) s) ps h =
      let u = next d (source_next role v c) ps h in
      let w = args_then u.3 u.4 in
      (w.0, w.1, (λ a i. w.2 a i), w.3)
  first_sound d role v c x ps h = emitted_then (Tail d (behind_first role v c) (x ∷ xs)) _ _ ps (sym (emitted (term role (component v c)) (span_of x) (run xs) (item_step d (joins role) x)) ∙ h)
      (λ qs g. (x ∷ xs, component v c, (λ a i. alone i), behind_term (ended_sound d (joins role) x qs g)))

  pair_sound : (d : ℕ) (role : Role) (v : Bool) (s : Span) (x : Token) (ps : List Part) → Reads (x ∷ xs) d (pair_next role v s) ps → Tail d (pair_next role v s) (x ∷ xs) ps
  pair_sound d role v s x ps h = let u = by_reference x (λ r. go_to d (behind_pair_first role (pair_of v s r))) ps h in pair_then u.1 (next d (behind_pair_first role (pair_of v s u.0)) ps u.2)

  -- the first token of a body
  start_sound : (d : ℕ) (role : Role) (v : Bool) (x : Token) (ps : List Part) → behind (span_of x) (run xs) (start_step d role v x) ≡ Ok ps → (us : List Token) × (t : TermSyntax) × IsBody v (x ∷ xs) us t × Behind d role t us ps
  start_sound d role v (token (Punct OpenParen) s) ps h = next d (pair_next role v s) ps h
  start_sound d role v x ps h =
      let u = by_reference x (λ r. go_to d (behind_first role v r)) ps h in
      let w = next d (behind_first role v u.0) ps u.2 in
      (w.0, w.1, w.2 x u.1, w.3)

  plain_body_sound : (d : ℕ) (role : Role) (v : Bool) (x : Token) (ps : List Part) → behind (span_of x) (run xs) (start_step d role v x) ≡ Ok ps → Body d role v (x ∷ xs) ps
  plain_body_sound d role v x ps h = let u = start_sound d role v x ps h in plain_body u.2 u.3

  body_sound : (d : ℕ) (role : Role) (v : Bool) (x : Token) (ps : List Part) → Reads (x ∷ xs) d (body_next role v) ps → Body d role v (x ∷ xs) ps
  body_sound d And v (token (Punct Bang) s) ps h = behind_bang (next d (body_next Not v) ps h)
    where
      behind_bang : Body d Not v xs ps → Body d And v (token (Punct Bang) s ∷ xs) ps
      behind_bang (plain_body i b) = operated bang i b
  body_sound d And v (token (Punct Question) s) ps h = behind_question (next d (body_next Optional v) ps h)
    where
      behind_question : Body d Optional v xs ps → Body d And v (token (Punct Question) s ∷ xs) ps
      behind_question (plain_body i b) = operated question i b
  body_sound d role v x ps h = plain_body_sound d role v x ps h

  bracket_sound : (d : ℕ) (role : Role) (v : Bool) (x : Token) (ps : List Part) → Reads (x ∷ xs) d (behind_access_word role v) ps → Bracket d role v (x ∷ xs) ps
  bracket_sound d role v (token (Punct CloseBracket) s) ps h = bracket (next d (body_next role v) ps h)
  bracket_sound d role v x ps h = cc

  access_sound : (d : ℕ) (role : Role) (x : Token) (ps : List Part) → Reads (x ∷ xs) d (access_next role) ps → AccessWord d role (x ∷ xs) ps
  access_sound d role (token (Name n) s) ps h = elim (cases_Bool (is_access n)) [
    | inl known ↦ access_word known (next d (behind_access_word role (shows_values n)) ps (rw known at h))
    | inr strange ↦ let g = rw strange at h in cc
  ]
  access_sound d role x ps h = cc

  plain_term_sound : (d : ℕ) (role : Role) (x : Token) (ps : List Part) → behind (span_of x) (run xs) (plain_term_step d role x) ≡ Ok ps → Term d role (x ∷ xs) ps
  plain_term_sound d role (token (Punct OpenBracket) s) ps h = access_then (next d (access_next role) ps h)
  plain_term_sound d role x ps h = let u = start_sound d role true x ps h in plain_term (body u.2) u.3

  term_sound : (d : ℕ) (role : Role) (x : Token) (ps : List Part) → Reads (x ∷ xs) d (term_next role) ps → Term d role (x ∷ xs) ps
  term_sound d And (token (Variable v) s) ps h = whole (next d (behind_variable v s) ps h)
  term_sound d And (token (Punct Bang) s) ps h = whole (bang_then (next d (term_next Not) ps h))
  term_sound d And (token (Punct Question) s) ps h = whole (question_then (next d (term_next Optional) ps h))
  term_sound d Not (token (Punct OpenBrace) s) ps h = emitted_then (Term d Not (token (Punct OpenBrace) s ∷ xs)) _ _ ps h (λ qs g. a_group (items_of (next (suc d) (term_next And) qs g)))
  term_sound d role x ps h = plain_term_sound d role x ps h

  variable_sound : (d : ℕ) (v : List ℕ) (s : Span) (x : Token) (ps : List Part) → Reads (x ∷ xs) d (behind_variable v s) ps → Items d (token (Variable v) s ∷ x ∷ xs) ps
  variable_sound d v s (token (Punct EqualEqual) e) ps h = equation_then equal (next d (other_side (at (Var v) s) true) ps h)
  variable_sound d v s (token (Punct NotEqual) e) ps h = equation_then differ (next d (other_side (at (Var v) s) false) ps h)
  variable_sound d v s x ps h = let u = first_sound d And true (at (Var v) s) x ps h in whole_chain (body (u.2 (token (Variable v) s) variable)) u.3

  other_sound : (d : ℕ) (r : Reference) (same : Bool) (x : Token) (ps : List Part) → Reads (x ∷ xs) d (other_side r same) ps → Other d r same (x ∷ xs) ps
  other_sound d r same x ps h =
      let u = by_reference x (λ q. Some (record { depth = d; state = behind_item false; parts = equality r same q ∷ [] })) ps h in
      emitted_then (Other d r same (x ∷ xs)) _ _ ps u.2 (λ qs g. other u.1 (last_ends refl (next d (behind_item false) qs g)))

  module _ (d : ℕ) (role : Role) (v : Bool) (c : Reference) where
    module _ (source : Option Reference) where
      cascade_sound : (own : Bool) (n : List ℕ) (s : Span) (ps : List Part) → behind s (run xs) (if bytes_eq n (codes "cascade") then go_to d (behind_up role v c source own (Cascade s)) else None) ≡ Ok ps
          → (us : List Token) × (r : Rise) × IsRise (token (Name n) s ∷ xs) us r × Args d role (applied v c source (Some (flags own r))) us ps
      cascade_sound own n s ps h = elim (cases_Bool (bytes_eq n (codes "cascade"))) [
        | inl is_cascade ↦
            let e : n ≡ codes "cascade" = (bytes_eq-Decides n (codes "cascade")).0 is_cascade in
            let u = next d (behind_up role v c source own (Cascade s)) ps (rw is_cascade at h) in
            (u.0, u.1, subst (λ m. IsRise (token (Name m) s ∷ xs) u.0 u.1) (sym e) (u.2 (token (Name (codes "cascade")) s) word_cascade), u.3)
        | inr is_not ↦ let g = rw is_not at h in cc
      ]

      rise_word_sound : (own : Bool) (n : List ℕ) (s : Span) (ps : List Part) → behind s (run xs) (rise_word_step d role v c source own n s) ≡ Ok ps
          → (us : List Token) × (r : Rise) × IsRise (token (Name n) s ∷ xs) us r × Args d role (applied v c source (Some (flags own r))) us ps
      rise_word_sound own n s ps h = elim (cases_Bool (bytes_eq n (codes "up"))) [
        | inl is_up ↦
            let e : n ≡ codes "up" = (bytes_eq-Decides n (codes "up")).0 is_up in
            let u = next d (behind_up role v c source own Up) ps (rw is_up at h) in
            (u.0, u.1, subst (λ m. IsRise (token (Name m) s ∷ xs) u.0 u.1) (sym e) (u.2 (token (Name (codes "up")) s) word_up), u.3)
        | inr is_not ↦ cascade_sound own n s ps (rw is_not at h)
      ]

      rise_sound : (x : Token) (ps : List Part) → Reads (x ∷ xs) d (rise_next role v c source) ps → Tail d (rise_next role v c source) (x ∷ xs) ps
      rise_sound (token (Name n) s) ps h = rise_word_sound true n s ps h
      rise_sound x ps h = cc

      flags_sound : (x : Token) (ps : List Part) → behind (span_of x) (run xs) (flags_step d role v c source x) ≡ Ok ps → Tail d (flags_next role v c source) (x ∷ xs) ps
      flags_sound (token (Name n) s) ps h = elim (cases_Bool (bytes_eq n (codes "self"))) [
        | inl is_self ↦
            let e : n ≡ codes "self" = (bytes_eq-Decides n (codes "self")).0 is_self in
            let u = next d (behind_self role v c source) ps (rw is_self at h) in
            (u.0, u.1, subst (λ m. IsFlags (token (Name m) s ∷ xs) u.0 u.1) (sym e) (u.2 s), u.3)
        | inr is_not ↦ let u = rise_word_sound false n s ps (rw is_not at h) in (u.0, flags false u.1, rise_alone u.2, u.3)
      ]
      flags_sound x ps h = cc

      self_sound : (x : Token) (ps : List Part) → Reads (x ∷ xs) d (behind_self role v c source) ps → Tail d (behind_self role v c source) (x ∷ xs) ps
      self_sound (token (Punct Bar) p) ps h = let u = next d (rise_next role v c source) ps h in (u.0, flags true u.1, (λ s. self_or_rise u.2), u.3)
      self_sound x ps h = (x ∷ xs, flags true none, (λ s. self_alone), args_sound d role (applied v c source (Some (flags true none))) x ps h)

      module _ (own : Bool) (w : RiseWord) where
        up_word_sound : (x : Token) (ps : List Part) → behind (span_of x) (run xs) (if_read (word_of x) (λ r. go_to d (behind_flags role (applied v c source (Some (flags own (up w (Some r))))))) (args_step d role (applied v c source (Some (flags own (up w None)))) x)) ≡ Ok ps
            → Tail d (behind_up role v c source own w) (x ∷ xs) ps
        up_word_sound x ps h = elim (word_view x) [
          | is_word r i e ↦ (xs, up w (Some r), (λ u k. up_along k i), next d (behind_flags role (applied v c source (Some (flags own (up w (Some r)))))) ps (rw e at h))
          | no_word e ↦ (x ∷ xs, up w None, (λ u k. up_alone k), args_sound d role (applied v c source (Some (flags own (up w None)))) x ps (rw e at h))
        ]

        up_sound : (x : Token) (ps : List Part) → Reads (x ∷ xs) d (behind_up role v c source own w) ps → Tail d (behind_up role v c source own w) (x ∷ xs) ps
        up_sound (token (Punct OpenParen) p) ps h = let u = next d (along_next role v c source own w) ps h in (u.0, u.1, (λ a k. u.2 a p k), u.3)
        up_sound x ps h = up_word_sound x ps h

        along_next_sound : (x : Token) (ps : List Part) → Reads (x ∷ xs) d (along_next role v c source own w) ps → Tail d (along_next role v c source own w) (x ∷ xs) ps
        along_next_sound x ps h = elim (word_view x) [
          | is_word r i e ↦ bracketed r i (next d (behind_along role (applied v c source (Some (flags own (up w (Some r)))))) ps (rw e at h))
          | no_word e ↦ let g = rw e at h in cc
        ]
          where
            bracketed : (r : Reference) → IsWord x r → {ts : List Token} → Along d role (applied v c source (Some (flags own (up w (Some r))))) ts ps
                → (us : List Token) × (q : Rise) × ((u : Token) (s1 : Span) → IsRiseWord u w → IsRise (u ∷ token (Punct OpenParen) s1 ∷ x ∷ ts) us q) × Args d role (applied v c source (Some (flags own q))) us ps
            bracketed r i (along {ts = us} a) = (us, up w (Some r), (λ u s1 k. up_in_brackets k i), a)

    behind_source_sound : (r : Reference) (x : Token) (ps : List Part) → Reads (x ∷ xs) d (behind_source role v c r) ps → Tail d (behind_source role v c r) (x ∷ xs) ps
    behind_source_sound r (token (Punct Bar) s) ps h = let u = next d (flags_next role v c (Some r)) ps h in (u.0, Some u.1, (λ a i. reference_with_flags i u.2), u.3)
    behind_source_sound r x ps h = (x ∷ xs, None, (λ a i. reference_alone i), args_sound d role (applied v c (Some r) None) x ps h)

    source_sound : (x : Token) (ps : List Part) → Reads (x ∷ xs) d (source_next role v c) ps → Tail d (source_next role v c) (x ∷ xs) ps
    source_sound x ps h = elim (reference_view x) [
      | is_reference r i e ↦ let u = next d (behind_source role v c r) ps (rw e at h) in (u.0, Some r, u.1, u.2 x i, u.3)
      | no_reference e ↦ let u = flags_sound None x ps (rw e at h) in (u.0, None, Some u.1, flags_alone u.2, u.3)
    ]

  token_sound : (x : Token) → Sound (x ∷ xs)
  token_sound x d (term_next role) ps h = term_sound d role x ps h
  token_sound x d (access_next role) ps h = access_sound d role x ps h
  token_sound x d (behind_access_word role v) ps h = bracket_sound d role v x ps h
  token_sound x d (body_next role v) ps h = body_sound d role v x ps h
  token_sound x d (pair_next role v s) ps h = pair_sound d role v s x ps h
  token_sound x d (behind_pair_first role t) ps h = comma_sound d role t x ps h
  token_sound x d (target_next role t) ps h = target_sound d role t x ps h
  token_sound x d (behind_target role t) ps h = close_sound d role t x ps h
  token_sound x d (behind_flags role t) ps h = args_sound d role t x ps h
  token_sound x d (behind_along role t) ps h = along_sound d role t x ps h
  token_sound x d (behind_first role v c) ps h = first_sound d role v c x ps h
  token_sound x d (source_next role v c) ps h = source_sound d role v c x ps h
  token_sound x d (behind_source role v c r) ps h = behind_source_sound d role v c r x ps h
  token_sound x d (flags_next role v c source) ps h = flags_sound d role v c source x ps h
  token_sound x d (behind_self role v c source) ps h = self_sound d role v c source x ps h
  token_sound x d (rise_next role v c source) ps h = rise_sound d role v c source x ps h
  token_sound x d (behind_up role v c source own w) ps h = up_sound d role v c source own w x ps h
  token_sound x d (along_next role v c source own w) ps h = along_next_sound d role v c source own w x ps h
  token_sound x d (behind_variable v s) ps h = variable_sound d v s x ps h
  token_sound x d (other_side r same) ps h = other_sound d r same x ps h
  token_sound x d (behind_item joined) ps h = ended_sound d joined x ps h
  token_sound x d finished ps h = cc

sound : (ts : List Token) → Sound ts
sound [] = stopped_sound
sound (x ∷ xs) = token_sound xs (sound xs) x

-- the machine is sound
query_of_items : {ts : List Token} {ps : List Part} → Items zero ts ps → IsQuery ts ps
query_of_items (outermost {s = s} is) = (s, is)

pub read_is_query : (ts : List Token) (ps : List Part) → parts_of ts ≡ Ok ps → IsQuery ts ps
read_is_query ts ps h = query_of_items (items_of (sound ts zero (term_next And) ps h))

-- What the grammar relates to tokens, the machine reads: where it reads what stands after a form, it reads the form.
use Rattle.std.proofs.Common.{◌≡◌, ℕ, suc, zero, Bool, true, false, List, [], ◌∷◌, Option, Some, None, Result, Ok, refl, sym, ap, subst, ◌∙◌}
use Rattle.std.specs.Prelude.{codes}
use Rattle.query_model.specs.declared.Span.{Span}
use Rattle.query_model.specs.declared.Mark.TheVariants.{Comma, OrOr, Bar, NotEqual, EqualEqual, OpenParen, CloseParen, OpenBracket, CloseBracket}
use Rattle.query_model.specs.declared.syntax.Role.{Role}
use Rattle.query_model.specs.declared.syntax.Role.TheVariants.{And, Or, Not, Optional}
use Rattle.query_model.specs.Tokens.{Token, token, span_of, Name, Punct}
use Rattle.query_model.specs.Syntax.{Reference, at, Var, RiseWord, Up, Cascade, Rise, none, up, Flags, flags, TermSyntax, Part, term, opened, closed, equality, component, pair_of, applied, with_target, ended_at}
use Rattle.query_model.specs.Grammar.{IsWord, plain_word, IsReference, word, variable, star, underscore, IsRiseWord, word_up, word_cascade, IsRise, up_alone, up_along, up_in_brackets, IsFlags, self_alone, rise_alone, self_or_rise, IsSource, reference_alone, flags_alone, reference_with_flags, IsArgs, source_alone, source_and_target, IsBody, alone, pair, with_args, IsAccess, access, IsTerm, body, body_behind_access, IsChain, last_alternative, alternative, bang, question, equal, differ, IsItem, terms, operator, operator_behind_access, group, equation, IsItems, last_item, item, IsQuery}
use Rattle.query_model.specs.Machine.{State, term_next, access_next, body_next, pair_next, behind_flags, behind_first, source_next, behind_source, flags_next, behind_self, rise_next, behind_up, behind_variable, behind_item, Move, emit, word_of, reference_of, joins, item_step, start_step, before_part, behind, run, parts_of}

abbrev Read : Type 0
Read = Result (List Part) Span

-- from a state the tokens are read as the parts
abbrev pub Reads : List Token → ℕ → State → List Part → Type 0
Reads ts d s ps = run ts d s ≡ Ok ps

-- one token is a reference
reads_word : {a : Token} {r : Reference} → IsWord a r → word_of a ≡ Some r
reads_word (plain_word free) = rw free refl

reads_reference : {a : Token} {r : Reference} → IsReference a r → reference_of a ≡ Some r
reads_reference (word (plain_word free)) = rw free refl
reads_reference variable = refl
reads_reference star = refl
reads_reference underscore = refl

pub emitted : (p : Part) (span : Span) (next : ℕ → State → Read) (o : Option Move) → behind span next (emit p o) ≡ before_part p (behind span next o)
emitted p span next None = refl
emitted p span next (Some m) = refl

module _ (d : ℕ) (role : Role) (ps : List Part) where
  module _ (shows_value : Bool) (c : Reference) where
    pub first_goes : (us : List Token) → Reads us d (behind_item (joins role)) ps → Reads us d (behind_first role shows_value c) (term role (component shows_value c) ∷ ps)
    first_goes [] h = cc
    first_goes (token (Punct OpenParen) s ∷ us) h = cc
    first_goes (x ∷ us) h = emitted (term role (component shows_value c)) (span_of x) (run us) (item_step d (joins role) x) ∙ ap (before_part (term role (component shows_value c))) h

    source_goes : (r : Reference) (us : List Token) → Reads us d (behind_flags role (applied shows_value c (Some r) None)) ps → Reads us d (behind_source role shows_value c r) ps
    source_goes r [] h = h
    source_goes r (token (Punct Bar) s ∷ us) h = cc
    source_goes r (x ∷ us) h = h

    module _ (source : Option Reference) where
      self_goes : (us : List Token) → Reads us d (behind_flags role (applied shows_value c source (Some (flags true none)))) ps → Reads us d (behind_self role shows_value c source) ps
      self_goes [] h = h
      self_goes (token (Punct Bar) s ∷ us) h = cc
      self_goes (x ∷ us) h = h

      module _ (own : Bool) (w : RiseWord) where
        up_goes : (us : List Token) → Reads us d (behind_flags role (applied shows_value c source (Some (flags own (up w None))))) ps → Reads us d (behind_up role shows_value c source own w) ps
        up_goes [] h = h
        up_goes (token (Punct OpenParen) s ∷ us) h = cc
        up_goes (token (Name n) s ∷ us) h = cc
        up_goes (x ∷ us) h = h

        word_goes : {a : Token} {r : Reference} → IsWord a r → (us : List Token) → Reads us d (behind_flags role (applied shows_value c source (Some (flags own (up w (Some r)))))) ps → Reads (a ∷ us) d (behind_up role shows_value c source own w) ps
        word_goes (plain_word free) us h = rw free h

      -- a rise, where its word goes from a state after it
      rise_reads : (own : Bool) (s : State) → ((u : Token) (w : RiseWord) → IsRiseWord u w → (us : List Token) → Reads us d (behind_up role shows_value c source own w) ps → Reads (u ∷ us) d s ps)
          → {ts us : List Token} {r : Rise} → IsRise ts us r → Reads us d (behind_flags role (applied shows_value c source (Some (flags own r)))) ps → Reads ts d s ps
      rise_reads own s go (up_alone {u = u} {w = w} {ts = us} i) h = go u w i us (up_goes own w us h)
      rise_reads own s go (up_along {u = u} {a = a} {w = w} {ts = us} i j) h = go u w i (a ∷ us) (word_goes own w j us h)
      rise_reads own s go (up_in_brackets {u = u} {a = a} {w = w} {s1 = p1} {s2 = p2} {ts = us} i j) h = go u w i (token (Punct OpenParen) p1 ∷ a ∷ token (Punct CloseParen) p2 ∷ us) (rw (reads_word j) h)

      -- from a state after `self`
      behind_bar : (u : Token) (w : RiseWord) → IsRiseWord u w → (us : List Token) → Reads us d (behind_up role shows_value c source true w) ps → Reads (u ∷ us) d (rise_next role shows_value c source) ps
      behind_bar u w word_up us g = g
      behind_bar u w word_cascade us g = g

      -- flags, where `self` and the word of a rise go from a state after them
      flags_read : (s : State) → ((p : Span) (us : List Token) → Reads us d (behind_self role shows_value c source) ps → Reads (token (Name (codes "self")) p ∷ us) d s ps)
          → ((u : Token) (w : RiseWord) → IsRiseWord u w → (us : List Token) → Reads us d (behind_up role shows_value c source false w) ps → Reads (u ∷ us) d s ps)
          → {ts us : List Token} {f : Flags} → IsFlags ts us f → Reads us d (behind_flags role (applied shows_value c source (Some f))) ps → Reads ts d s ps
      flags_read s go_self go_up (self_alone {s = p} {ts = us}) h = go_self p us (self_goes us h)
      flags_read s go_self go_up (rise_alone i) h = rise_reads false s go_up i h
      flags_read s go_self go_up (self_or_rise {s = p} {s1 = p1} {ts = ts} i) h = go_self p (token (Punct Bar) p1 ∷ ts) (rise_reads true (rise_next role shows_value c source) behind_bar i h)

    -- the word of a rise goes where flags are to come, and where a source is
    at_flags : (source : Option Reference) (u : Token) (w : RiseWord) → IsRiseWord u w → (us : List Token) → Reads us d (behind_up role shows_value c source false w) ps → Reads (u ∷ us) d (flags_next role shows_value c source) ps
    at_flags source u w word_up us g = g
    at_flags source u w word_cascade us g = g

    at_source : (u : Token) (w : RiseWord) → IsRiseWord u w → (us : List Token) → Reads us d (behind_up role shows_value c None false w) ps → Reads (u ∷ us) d (source_next role shows_value c) ps
    at_source u w word_up us g = g
    at_source u w word_cascade us g = g

    source_reads : {ts us : List Token} {r : Option Reference} {f : Option Flags} → IsSource ts us r f → Reads us d (behind_flags role (applied shows_value c r f)) ps → Reads ts d (source_next role shows_value c) ps
    source_reads (reference_alone {r = r} {ts = us} i) h = rw (reads_reference i) (source_goes r us h)
    source_reads (flags_alone i) h = flags_read None (source_next role shows_value c) (λ p us g. g) at_source i h
    source_reads (reference_with_flags {r = r} i j) h = rw (reads_reference i) (flags_read (Some r) (flags_next role shows_value c (Some r)) (λ p us g. g) (at_flags (Some r)) j h)

module _ (d : ℕ) (role : Role) (ps : List Part) (shows_value : Bool) (c : Reference) where
  args_read : {ts us : List Token} {s : Span} {r : Option Reference} {f : Option Flags} {t : Option Reference} → IsArgs ts (token (Punct CloseParen) s ∷ us) r f t
      → Reads us d (behind_item (joins role)) ps → Reads ts d (source_next role shows_value c) (term role (ended_at (with_target (applied shows_value c r f) t) s) ∷ ps)
  args_read {s = s} (source_alone {r = r} {f = f} i) h = source_reads d role (term role (ended_at (applied shows_value c r f) s) ∷ ps) shows_value c i (ap (before_part (term role (ended_at (applied shows_value c r f) s))) h)
  args_read {s = s} (source_and_target {t = t} {r = r} {f = f} i j) h =
      let q : Part = term role (ended_at (with_target (applied shows_value c r f) (Some t)) s) in
      source_reads d role (q ∷ ps) shows_value c i (rw (reads_reference j) (ap (before_part q) h))

module _ (d : ℕ) (role : Role) (ps : List Part) where
  body_reads : (shows_value : Bool) (s : State) → ((a : Token) (r : Reference) (us : List Token) (qs : List Part) → IsReference a r → Reads us d (behind_first role shows_value r) qs → Reads (a ∷ us) d s qs)
      → ((p : Span) (us : List Token) (qs : List Part) → Reads us d (pair_next role shows_value p) qs → Reads (token (Punct OpenParen) p ∷ us) d s qs)
      → {ts us : List Token} {t : TermSyntax} → IsBody shows_value ts us t → Reads us d (behind_item (joins role)) ps → Reads ts d s (term role t ∷ ps)
  body_reads shows_value s go_reference go_pair (alone {a = a} {r = r} {ts = us} i) h = go_reference a r us (term role (component shows_value r) ∷ ps) i (first_goes d role ps shows_value r us h)
  body_reads shows_value s go_reference go_pair (pair {s1 = p1} {s2 = p2} {s3 = p3} {a = a} {b = b} {r = r} {t = t} {ts = us} i j) h =
      let q : Part = term role (ended_at (with_target (pair_of shows_value p1 r) (Some t)) p3) in
      go_pair p1 (a ∷ token (Punct Comma) p2 ∷ b ∷ token (Punct CloseParen) p3 ∷ us) (q ∷ ps) (rw (reads_reference i) (rw (reads_reference j) (ap (before_part q) h)))
  body_reads shows_value s go_reference go_pair (with_args {s1 = p1} {s2 = p2} {a = a} {c = c} {ts = ts} {r = r} {f = f} {t = t} i j) h =
      go_reference a c (token (Punct OpenParen) p1 ∷ ts) (term role (ended_at (with_target (applied shows_value c r f) t) p2) ∷ ps) i (args_read d role ps shows_value c j h)

pub variable_goes : (d : ℕ) (v : List ℕ) (s : Span) (ps : List Part) (us : List Token) → Reads us d (behind_first And true (at (Var v) s)) ps → Reads us d (behind_variable v s) ps
variable_goes d v s ps [] h = h
variable_goes d v s ps (token (Punct EqualEqual) e ∷ us) h = cc
variable_goes d v s ps (token (Punct NotEqual) e ∷ us) h = cc
variable_goes d v s ps (x ∷ us) h = h

-- a reference that begins a body
start_reads : (d : ℕ) (role : Role) (shows_value : Bool) (a : Token) (r : Reference) (us : List Token) (qs : List Part) → IsReference a r → Reads us d (behind_first role shows_value r) qs → behind (span_of a) (run us) (start_step d role shows_value a) ≡ Ok qs
start_reads d role shows_value a r us qs (word (plain_word free)) h = rw free h
start_reads d role shows_value a r us qs variable h = h
start_reads d role shows_value a r us qs star h = h
start_reads d role shows_value a r us qs underscore h = h

-- how a body begins, by its role: after an access, and as a term
pub body_begins : (d : ℕ) (role : Role) (shows_value : Bool) (a : Token) (r : Reference) (us : List Token) (qs : List Part) → IsReference a r → Reads us d (behind_first role shows_value r) qs → Reads (a ∷ us) d (body_next role shows_value) qs
body_begins d And shows_value a r us qs (word (plain_word free)) h = rw free h
body_begins d And shows_value a r us qs variable h = h
body_begins d And shows_value a r us qs star h = h
body_begins d And shows_value a r us qs underscore h = h
body_begins d Or shows_value a r us qs i h = start_reads d Or shows_value a r us qs i h
body_begins d Not shows_value a r us qs i h = start_reads d Not shows_value a r us qs i h
body_begins d Optional shows_value a r us qs i h = start_reads d Optional shows_value a r us qs i h

pub term_begins : (d : ℕ) (role : Role) (a : Token) (r : Reference) (us : List Token) (qs : List Part) → IsReference a r → Reads us d (behind_first role true r) qs → Reads (a ∷ us) d (term_next role) qs
term_begins d And a r us qs (word (plain_word free)) h = rw free h
term_begins d And a r us qs (variable {v = v} {s = s}) h = variable_goes d v s qs us h
term_begins d And a r us qs star h = h
term_begins d And a r us qs underscore h = h
term_begins d Not a r us qs (word (plain_word free)) h = rw free h
term_begins d Not a r us qs variable h = h
term_begins d Not a r us qs star h = h
term_begins d Not a r us qs underscore h = h
term_begins d Or a r us qs (word (plain_word free)) h = rw free h
term_begins d Or a r us qs variable h = h
term_begins d Or a r us qs star h = h
term_begins d Or a r us qs underscore h = h
term_begins d Optional a r us qs (word (plain_word free)) h = rw free h
term_begins d Optional a r us qs variable h = h
term_begins d Optional a r us qs star h = h
term_begins d Optional a r us qs underscore h = h

-- and with a bracket
pair_begins : (d : ℕ) (role : Role) (shows_value : Bool) (p : Span) (us : List Token) (qs : List Part) → Reads us d (pair_next role shows_value p) qs → Reads (token (Punct OpenParen) p ∷ us) d (body_next role shows_value) qs
pair_begins d And shows_value p us qs h = h
pair_begins d Or shows_value p us qs h = h
pair_begins d Not shows_value p us qs h = h
pair_begins d Optional shows_value p us qs h = h

pair_term_begins : (d : ℕ) (role : Role) (p : Span) (us : List Token) (qs : List Part) → Reads us d (pair_next role true p) qs → Reads (token (Punct OpenParen) p ∷ us) d (term_next role) qs
pair_term_begins d And p us qs h = h
pair_term_begins d Or p us qs h = h
pair_term_begins d Not p us qs h = h
pair_term_begins d Optional p us qs h = h

access_begins : (d : ℕ) (role : Role) (p : Span) (us : List Token) (qs : List Part) → Reads us d (access_next role) qs → Reads (token (Punct OpenBracket) p ∷ us) d (term_next role) qs
access_begins d And p us qs h = h
access_begins d Or p us qs h = h
access_begins d Not p us qs h = h
access_begins d Optional p us qs h = h

module _ (d : ℕ) (role : Role) (ps : List Part) where
  pub body_next_reads : (shows_value : Bool) {ts us : List Token} {t : TermSyntax} → IsBody shows_value ts us t → Reads us d (behind_item (joins role)) ps → Reads ts d (body_next role shows_value) (term role t ∷ ps)
  body_next_reads shows_value i h = body_reads d role ps shows_value (body_next role shows_value) (body_begins d role shows_value) (pair_begins d role shows_value) i h

  pub access_reads : {ts us : List Token} {v : Bool} → IsAccess ts us v → Reads us d (body_next role v) ps → Reads ts d (term_next role) ps
  access_reads (access {n = n} {s1 = p1} {s = s} {s2 = p2} {ts = us} is) h = access_begins d role p1 (token (Name n) s ∷ token (Punct CloseBracket) p2 ∷ us) ps (rw is h)

module _ (d : ℕ) (role : Role) (ps : List Part) where
  term_reads : {ts us : List Token} {t : TermSyntax} → IsTerm ts us t → Reads us d (behind_item (joins role)) ps → Reads ts d (term_next role) (term role t ∷ ps)
  term_reads (body i) h = body_reads d role ps true (term_next role) (term_begins d role) (pair_term_begins d role) i h
  term_reads (body_behind_access {v = v} {t = t} i j) h = access_reads d role (term role t ∷ ps) i (body_next_reads d role ps v j h)

chain_reads : (d : ℕ) {role : Role} {ts us : List Token} {ps qs : List Part} → IsChain role ts us ps qs → joins role ≡ true → Reads us d (behind_item true) ps → Reads ts d (term_next role) qs
chain_reads d {role} (last_alternative {us = us} {ps = ps} i) e h = term_reads d role ps i (subst (λ j. Reads us d (behind_item j) ps) (sym e) h)
chain_reads d {role} (alternative {s = s} {us = us} {qs = qs} i is) e h = term_reads d role qs i (subst (λ j. Reads (token (Punct OrOr) s ∷ us) d (behind_item j) qs) (sym e) (chain_reads d is refl h))

mutual
  item_reads : (d : ℕ) {ts us : List Token} {ps qs : List Part} → IsItem ts us ps qs → ((joined : Bool) → Reads us d (behind_item joined) ps) → Reads ts d (term_next And) qs
  item_reads d (terms i) h = chain_reads d i refl (h true)
  item_reads d (operator {ps = ps} bang i) h = term_reads d Not ps i (h false)
  item_reads d (operator {ps = ps} question i) h = term_reads d Optional ps i (h false)
  item_reads d (operator_behind_access {v = v} {t = t} {ps = ps} a bang i) h = access_reads d And (term Not t ∷ ps) a (body_next_reads d Not ps v i (h false))
  item_reads d (operator_behind_access {v = v} {t = t} {ps = ps} a question i) h = access_reads d And (term Optional t ∷ ps) a (body_next_reads d Optional ps v i (h false))
  item_reads d (group {s2 = s} {qs = qs} is) h = ap (before_part (opened s)) (items_read (suc d) is (λ joined. ap (before_part closed) (h false)))
  item_reads d (equation {v = v} {s = s} {r = r} equal i) h = rw (reads_reference i) (ap (before_part (equality (at (Var v) s) true r)) (h false))
  item_reads d (equation {v = v} {s = s} {r = r} differ i) h = rw (reads_reference i) (ap (before_part (equality (at (Var v) s) false r)) (h false))

  items_read : (d : ℕ) {ts us : List Token} {ps qs : List Part} → IsItems ts us ps qs → ((joined : Bool) → Reads us d (behind_item joined) ps) → Reads ts d (term_next And) qs
  items_read d (last_item i) h = item_reads d i h
  items_read d (item i is) h = item_reads d i (λ joined. items_read d is h)

-- the machine is complete
pub query_is_read : (ts : List Token) (ps : List Part) → IsQuery ts ps → parts_of ts ≡ Ok ps
query_is_read ts ps (s, is) = items_read zero is (λ joined. refl)

-- What is read stands in the order of the text.
use Rattle.std.proofs.Common.{◌≡◌, ℕ, ◌+◌, ◌≤◌, Bool, List, [], ◌∷◌, ◌++◌, Option, Some, flat_map, length, sym, ap, subst, ◌∙◌, arith}
use Rattle.std.proofs.lemmas.List.{append-nil, length-append}
use Rattle.query_model.specs.declared.Span.{Span}
use Rattle.query_model.specs.declared.query.Position.{Position}
use Rattle.query_model.specs.declared.query.Position.TheVariants.{Component, Source, Target, Risen, Right}
use Rattle.query_model.specs.declared.syntax.Role.{Role}
use Rattle.query_model.specs.declared.Mark.TheVariants.{Comma, OrOr, Bar, OpenParen, CloseParen, CloseBrace}
use Rattle.query_model.specs.Tokens.{Token, token, span_of, Punct, End, Spells, spelled}
use Rattle.query_model.specs.Syntax.{Spoken, Word, Var, Any, AnyOnce, Reference, Rise, Flags, TermSyntax, Part, term}
use Rattle.query_model.specs.Grammar.{plain_word, IsReference, word, variable, star, underscore, IsRise, up_alone, up_along, up_in_brackets, IsFlags, self_alone, rise_alone, self_or_rise, IsSource, reference_alone, flags_alone, reference_with_flags, IsArgs, source_alone, source_and_target, IsBody, alone, pair, with_args, IsAccess, access, IsTerm, body, body_behind_access, IsChain, last_alternative, alternative, IsItem, terms, operator, operator_behind_access, group, equation, IsItems, last_item, item}
use Rattle.query_model.specs.Levels.{Path, path_behind, path_in, placed}
use Rattle.query_model.specs.Uses.{Use, written, along_what, rise_of, uses_of, uses_of_term}
use Rattle.query_model.specs.Scope.{Occurrence, occurrence_of, occurrences_of, spoken_at}
use Rattle.query_model.specs.FirstOccurrence.{Ascends, FirstSufficesInTexts, VariablesAscend}
use Rattle.query_model.proofs.FirstOccurrence.{first_suffices}

-- tokens, and references, that begin one after another
abbrev Rises : ℕ → List Token → Type 0
Rises low [] = Unit {0}
Rises low (t ∷ ts) = (low ≤ (span_of t).start) × Rises (span_of t).start ts

abbrev start_of : Use → ℕ
start_of u = ((u.reference).span).start

abbrev Ordered : ℕ → List Use → Type 0
Ordered low [] = Unit {0}
Ordered low (u ∷ us) = (low ≤ start_of u) × Ordered (start_of u) us

-- up to a place
abbrev Through : ℕ → List Use → ℕ → Type 0
Through low [] high = low ≤ high
Through low (u ∷ us) high = (low ≤ start_of u) × Through (start_of u) us high

rises_from : (low mid : ℕ) (ts : List Token) → low ≤ mid → Rises mid ts → Rises low ts
rises_from low mid [] h r = tt
rises_from low mid (t ∷ ts) h r = (let a = r.0 in omega arith, r.1)

through_from : (low mid high : ℕ) (us : List Use) → low ≤ mid → Through mid us high → Through low us high
through_from low mid high [] h t = omega arith
through_from low mid high (u ∷ us) h t = (let a = t.0 in omega arith, t.1)

through_append : (low mid high : ℕ) (us vs : List Use) → Through low us mid → Through mid vs high → Through low (us ++ vs) high
through_append low mid high [] vs s t = through_from low mid high vs s t
through_append low mid high (u ∷ us) vs s t = (s.0, through_append (start_of u) mid high us vs s.1 t)

ordered_from : (low mid : ℕ) (us : List Use) → low ≤ mid → Ordered mid us → Ordered low us
ordered_from low mid [] h o = tt
ordered_from low mid (u ∷ us) h o = (let a = o.0 in omega arith, o.1)

ordered_append : (low mid : ℕ) (us vs : List Use) → Through low us mid → Ordered mid vs → Ordered low (us ++ vs)
ordered_append low mid [] vs t o = ordered_from low mid vs t o
ordered_append low mid (u ∷ us) vs t o = (t.0, ordered_append (start_of u) mid us vs t.1 o)

-- the references of a form, and the tokens after it
record Passes (low : ℕ) (us : List Use) (rest : List Token) : Type 0 where
  high : ℕ
  through : Through low us high
  rises : Rises high rest

passes_from : (low mid : ℕ) (us : List Use) (rest : List Token) → low ≤ mid → Passes mid us rest → Passes low us rest
passes_from low mid us rest h p = record { high = p.high; through = through_from low mid p.high us h p.through; rises = p.rises }

then_passes : (low : ℕ) (us vs : List Use) (mid rest : List Token) → Passes low us mid → ((high : ℕ) → Rises high mid → Passes high vs rest) → Passes low (us ++ vs) rest
then_passes low us vs mid rest p next =
    let q = next p.high p.rises in
    record { high = q.high; through = through_append low p.high q.high us vs p.through q.through; rises = q.rises }

-- a form, and a token after it
closed_behind : (low : ℕ) (us : List Use) (t : Token) (rest : List Token) → Passes low us (t ∷ rest) → Passes low us rest
closed_behind low us t rest p = record { high = p.high; through = p.through; rises = rises_from p.high (span_of t).start rest p.rises.0 p.rises.1 }

-- a token, and a form after it
behind_token : (us : List Use) (t : Token) (ts rest : List Token) → (Rises (span_of t).start ts → Passes (span_of t).start us rest) → (low : ℕ) → Rises low (t ∷ ts) → Passes low us rest
behind_token us t ts rest next low r = passes_from low (span_of t).start us rest r.0 (next r.1)

reference_passes : (position : Position) {a : Token} {r : Reference} {ts : List Token} (low : ℕ) → IsReference a r → Rises low (a ∷ ts) → Passes low (written position (Some r)) ts
reference_passes position {ts = ts} low (word (plain_word {s = s} free)) h = record { high = s.start; through = (h.0, omega arith); rises = h.1 }
reference_passes position {ts = ts} low (variable {s = s}) h = record { high = s.start; through = (h.0, omega arith); rises = h.1 }
reference_passes position {ts = ts} low (star {s = s}) h = record { high = s.start; through = (h.0, omega arith); rises = h.1 }
reference_passes position {ts = ts} low (underscore {s = s}) h = record { high = s.start; through = (h.0, omega arith); rises = h.1 }

rise_passes : {ts us : List Token} {r : Rise} (low : ℕ) → IsRise ts us r → Rises low ts → Passes low (written Risen (along_what r)) us
rise_passes low (up_alone {u = u} {ts = ts} k) h = record { high = (span_of u).start; through = h.0; rises = h.1 }
rise_passes low (up_along {u = u} {r = r} {ts = ts} k i) h = passes_from low (span_of u).start (written Risen (Some r)) ts h.0 (reference_passes Risen (span_of u).start (word i) h.1)
rise_passes low (up_in_brackets {u = u} {s1 = s1} {s2 = s2} {r = r} {ts = ts} k i) h =
    passes_from low (span_of u).start (written Risen (Some r)) ts h.0
    (passes_from (span_of u).start s1.start (written Risen (Some r)) ts h.1.0
    (closed_behind s1.start (written Risen (Some r)) (token (Punct CloseParen) s2) ts (reference_passes Risen s1.start (word i) h.1.1)))

flags_pass : {ts us : List Token} {f : Flags} (low : ℕ) → IsFlags ts us f → Rises low ts → Passes low (written Risen (along_what f.rise)) us
flags_pass low (self_alone {s = s} {ts = ts}) h = record { high = s.start; through = h.0; rises = h.1 }
flags_pass low (rise_alone i) h = rise_passes low i h
flags_pass low (self_or_rise {s = s} {s1 = s1} {ts = ts} {us = us} {r = r} i) h =
    passes_from low s.start (written Risen (along_what r)) us h.0 (passes_from s.start s1.start (written Risen (along_what r)) us h.1.0 (rise_passes s1.start i h.1.1))

source_passes : {ts us : List Token} {r : Option Reference} {f : Option Flags} (low : ℕ) → IsSource ts us r f → Rises low ts → Passes low (written Source r ++ written Risen (along_what (rise_of f))) us
source_passes low (reference_alone i) h = reference_passes Source low i h
source_passes low (flags_alone i) h = flags_pass low i h
source_passes low (reference_with_flags {a = a} {r = r} {s = s} {ts = ts} {us = us} {f = f} i j) h =
    then_passes low (written Source (Some r)) (written Risen (along_what f.rise)) (token (Punct Bar) s ∷ ts) us (reference_passes Source low i h)
    (behind_token (written Risen (along_what f.rise)) (token (Punct Bar) s) ts us (flags_pass s.start j))

args_pass : {ts us : List Token} {r : Option Reference} {f : Option Flags} {t : Option Reference} (low : ℕ) → IsArgs ts us r f t → Rises low ts
    → Passes low (written Source r ++ written Risen (along_what (rise_of f)) ++ written Target t) us
args_pass low (source_alone {us = us} {r = r} {f = f} i) h =
    subst (λ l. Passes low l us) (sym (append-nil (written Source r ++ written Risen (along_what (rise_of f))))) (source_passes low i h)
args_pass low (source_and_target {s = s} {b = b} {t = t} {us = us} {r = r} {f = f} i j) h =
    then_passes low (written Source r ++ written Risen (along_what (rise_of f))) (written Target (Some t)) (token (Punct Comma) s ∷ b ∷ us) us (source_passes low i h)
    (behind_token (written Target (Some t)) (token (Punct Comma) s) (b ∷ us) us (reference_passes Target s.start j))

body_passes : {shows_value : Bool} {ts us : List Token} {t : TermSyntax} (low : ℕ) → IsBody shows_value ts us t → Rises low ts → Passes low (uses_of_term t) us
body_passes low (alone i) h = reference_passes Component low i h
body_passes low (pair {s1 = s1} {s2 = s2} {s3 = s3} {b = b} {r = r} {t = t} {ts = ts} i j) h =
    passes_from low s1.start (written Component (Some r) ++ written Target (Some t)) ts h.0
    (then_passes s1.start (written Component (Some r)) (written Target (Some t)) (token (Punct Comma) s2 ∷ b ∷ token (Punct CloseParen) s3 ∷ ts) ts (reference_passes Component s1.start i h.1)
    (behind_token (written Target (Some t)) (token (Punct Comma) s2) (b ∷ token (Punct CloseParen) s3 ∷ ts) ts
    (λ k. closed_behind s2.start (written Target (Some t)) (token (Punct CloseParen) s3) ts (reference_passes Target s2.start j k))))
body_passes low (with_args {s1 = s1} {s2 = s2} {c = c} {ts = ts} {us = us} {r = r} {f = f} {t = t} i j) h =
    let args = written Source r ++ written Risen (along_what (rise_of f)) ++ written Target t in
    then_passes low (written Component (Some c)) args (token (Punct OpenParen) s1 ∷ ts) us (reference_passes Component low i h)
    (behind_token args (token (Punct OpenParen) s1) ts us (λ k. closed_behind s1.start args (token (Punct CloseParen) s2) us (args_pass s1.start j k)))

access_passes : {ts us : List Token} {v : Bool} (low : ℕ) → IsAccess ts us v → Rises low ts → Passes low [] us
access_passes low (access {s1 = s1} {s = s} {s2 = s2} {ts = ts} e) h = record { high = s2.start; through = (let a = h.0 in let b = h.1.0 in let c = h.1.1.0 in omega arith); rises = h.1.1.1 }

term_passes : {ts us : List Token} {t : TermSyntax} (low : ℕ) → IsTerm ts us t → Rises low ts → Passes low (uses_of_term t) us
term_passes low (body i) h = body_passes low i h
term_passes low (body_behind_access {us = us} {vs = vs} {t = t} i j) h = then_passes low [] (uses_of_term t) us vs (access_passes low i h) (λ high k. body_passes high j k)

-- the references of parts
abbrev InOrder : ℕ → List Part → Type 0
InOrder low ps = Ordered low (flat_map uses_of ps)

-- parts after a token
behind_mark : (t : Token) (ts : List Token) (ps : List Part) → (Rises (span_of t).start ts → InOrder (span_of t).start ps) → (high : ℕ) → Rises high (t ∷ ts) → InOrder high ps
behind_mark t ts ps next high k = ordered_from high (span_of t).start (flat_map uses_of ps) k.0 (next k.1)

term_in_order : {ts us : List Token} {t : TermSyntax} (role : Role) (low : ℕ) (ps : List Part) → IsTerm ts us t → Rises low ts → ((high : ℕ) → Rises high us → InOrder high ps) → InOrder low (term role t ∷ ps)
term_in_order {t = t} role low ps i h next =
    let p = term_passes low i h in
    ordered_append low p.high (uses_of_term t) (flat_map uses_of ps) p.through (next p.high p.rises)

chain_in_order : {role : Role} {ts us : List Token} {ps qs : List Part} (low : ℕ) → IsChain role ts us ps qs → Rises low ts → ((high : ℕ) → Rises high us → InOrder high ps) → InOrder low qs
chain_in_order low (last_alternative {role = role} {ps = ps} i) h next = term_in_order role low ps i h next
chain_in_order low (alternative {role = role} {s = s} {us = us} {qs = qs} i is) h next =
    term_in_order role low qs i h (behind_mark (token (Punct OrOr) s) us qs (λ k. chain_in_order s.start is k next))

operated : (o : Token) {ts us : List Token} {t : TermSyntax} (role : Role) (low : ℕ) (ps : List Part) → IsTerm ts us t → Rises low (o ∷ ts) → ((high : ℕ) → Rises high us → InOrder high ps) → InOrder low (term role t ∷ ps)
operated o {t = t} role low ps i h next = ordered_from low (span_of o).start (flat_map uses_of (term role t ∷ ps)) h.0 (term_in_order role (span_of o).start ps i h.1 next)

mutual
  item_in_order : {ts us : List Token} {ps qs : List Part} (low : ℕ) → IsItem ts us ps qs → Rises low ts → ((high : ℕ) → Rises high us → InOrder high ps) → InOrder low qs
  item_in_order low (terms i) h next = chain_in_order low i h next
  item_in_order low (operator {o = o} {role = role} {ps = ps} j i) h next = operated o role low ps i h next
  item_in_order low (operator_behind_access {o = o} {role = role} {t = t} {ps = ps} a j i) h next =
      let p = access_passes low a h in
      let q = body_passes (span_of o).start i p.rises.1 in
      ordered_from low p.high (flat_map uses_of (term role t ∷ ps)) p.through
      (ordered_from p.high (span_of o).start (flat_map uses_of (term role t ∷ ps)) p.rises.0
      (ordered_append (span_of o).start q.high (uses_of_term t) (flat_map uses_of ps) q.through (next q.high q.rises)))
  item_in_order low (group {s1 = s1} {s2 = s2} {s3 = s3} {us = us} {ps = ps} {qs = qs} is) h next =
      ordered_from low s1.start (flat_map uses_of qs) h.0
      (ordered_from s1.start s2.start (flat_map uses_of qs) h.1.0
      (items_in_order s2.start is h.1.1 (behind_mark (token (Punct CloseBrace) s3) us ps (next s3.start))))
  item_in_order low (equation {v = v} {s = s} {e = e} {a = a} {same = same} {r = r} {ps = ps} j i) h next =
      let p = reference_passes Right (span_of e).start i h.1.1 in (
        h.0,
        ordered_from s.start (span_of e).start (written Right (Some r) ++ flat_map uses_of ps) h.1.0
            (ordered_append (span_of e).start p.high (written Right (Some r)) (flat_map uses_of ps) p.through (next p.high p.rises)),
      )

  items_in_order : {ts us : List Token} {ps qs : List Part} (low : ℕ) → IsItems ts us ps qs → Rises low ts → ((high : ℕ) → Rises high us → InOrder high ps) → InOrder low qs
  items_in_order low (last_item i) h next = item_in_order low i h next
  items_in_order low (item {s = s} {us = us} {qs = qs} i is) h next =
      item_in_order low i h (behind_mark (token (Punct Comma) s) us qs (λ k. items_in_order s.start is k next))

-- the tokens that a text spells
spelled_rise : (at : ℕ) (text : List ℕ) (ts : List Token) (n : ℕ) → Spells at text ts [] → at + length text ≤ n → Rises at (ts ++ token End (record { start = n; end = n }) ∷ [])
spelled_rise at text [] n h e = (omega arith, tt)
spelled_rise at text (token s span ∷ ts) n (blanks, left, is, b, sign, longest, place, rest) e =
    let whole : length text ≡ length blanks + length (spelled s) + length left = ap length is ∙ length-append (blanks ++ spelled s) left ∙ ap (λ k. k + length left) (length-append blanks (spelled s)) in
    let begin : span.start ≡ at + length blanks = ap (λ (x : Span). x.start) place in
    let next = spelled_rise (at + length blanks + length (spelled s)) left ts n rest (omega arith) in
    (omega arith, rises_from span.start (at + length blanks + length (spelled s)) (ts ++ token End (record { start = n; end = n }) ∷ []) (omega arith) next)

-- variables among references
one_ascends : (low : ℕ) (path : Path) (u : Use) (os more : List Occurrence) (us : List Use) → Ordered low (u ∷ us) → ((high : ℕ) → Ordered high us → Ascends high (os ++ more)) → Ascends low ((occurrence_of path u ++ os) ++ more)
one_ascends low path u os more us h next = spoken_ascends (u.reference).spoken
  where
    spoken_ascends : (w : Spoken) → Ascends low ((spoken_at path w (u.reference).span ++ os) ++ more)
    spoken_ascends (Var v) = (h.0, next (start_of u) h.1)
    spoken_ascends (Word n) = next low (ordered_from low (start_of u) us h.0 h.1)
    spoken_ascends Any = next low (ordered_from low (start_of u) us h.0 h.1)
    spoken_ascends AnyOnce = next low (ordered_from low (start_of u) us h.0 h.1)

variables_ascend : (low : ℕ) (path : Path) (us vs : List Use) (os : List Occurrence) → Ordered low (us ++ vs) → ((high : ℕ) → Ordered high vs → Ascends high os) → Ascends low (flat_map (occurrence_of path) us ++ os)
variables_ascend low path [] vs os h next = next low h
variables_ascend low path (u ∷ us) vs os h next =
    one_ascends low path u (flat_map (occurrence_of path) us) os (us ++ vs) h (λ high k. variables_ascend high path us vs os k next)

placed_ascend : (n low : ℕ) (path : Path) (ps : List Part) → InOrder low ps → Ascends low (flat_map occurrences_of (placed n path ps))
placed_ascend n low path [] h = tt
placed_ascend n low path (p ∷ ps) h =
    variables_ascend low (path_in n path p) (uses_of p) (flat_map uses_of ps) (flat_map occurrences_of (placed (n + 1) (path_behind n path p) ps)) h
    (λ high k. placed_ascend (n + 1) high (path_behind n path p) ps k)

pub query_ascends : VariablesAscend
query_ascends text tokens ps (ts, spells, same) (s, is) =
    let rises : Rises 0 tokens = subst (Rises 0) (sym same) (spelled_rise 0 text ts (length text) spells (omega arith)) in
    placed_ascend 1 0 [] ps (items_in_order 0 is rises (λ high k. tt))

pub first_suffices_in_texts : FirstSufficesInTexts
first_suffices_in_texts text ts ps found spelled is = first_suffices ps found (query_ascends text ts ps spelled is)

-- What the parser has read so far, and how one more step changes it.
use Rattle.std.proofs.Common.{◌≡◌, ◌≢◌, ℕ, zero, suc, ◌+◌, ◌<◌, ◌≤◌, List, [], ◌∷◌, ◌++◌, length, get_or, drop, map, arith, refl, sym, ap, ◌∙◌, Option, Some, None, Result, Ok, Err}
use Rattle.std.specs.Prelude.{◌-◌, option_map, is_ok, slice_get, IfOk}
use Rattle.std.proofs.lemmas.List.{drop_all, drop_more, get_or-map, length-map}
use Rattle.std.proofs.lemmas.Bool.{true≢false}
use Rattle.query_model.specs.declared.Span.{Span}
use Rattle.query_model.specs.Machine as machine
use Rattle.query_model.specs.Machine.{before_part, before_parts, behind, run, step, parts_of}
use Rattle.query_model.specs.Syntax.{Part}
use Rattle.query_parser.specs.declared.lexer.Token as code_token
use Rattle.query_parser.specs.Token.{seen, text_length}
use Rattle.query_model.specs.declared.syntax.Part as code_part
use Rattle.query_parser.specs.declared.machine.State as code_state
use Rattle.query_parser.specs.declared.machine.Move as code_move
use Rattle.query_parser.specs.declared.machine.Draft as code_draft
use Rattle.query_parser.specs.declared.machine.Nesting.{Nesting}
use Rattle.query_model.specs.Seen.{seen_part}
use Rattle.query_parser.specs.Steps.{seen_state, seen_step, completed, nested}

-- what is read from a place on stands after the parts before it
pub record HasParsed (tokens : List code_token.Token) (parts : List code_part.Part) (at depth : ℕ) (state : code_state.State) (draft : code_draft.Draft) : Type 0 where
  pub shallow : depth ≤ at
  pub reads : parts_of (map seen tokens) ≡ before_parts (map seen_part parts) (run (drop at (map seen tokens)) depth (seen_state draft state))

before_more : (ps qs : List Part) (r : Result (List Part) Span) → before_parts ps (before_parts qs r) ≡ before_parts (ps ++ qs) r
before_more [] qs r = refl
before_more (p ∷ ps) qs r = ap (before_part p) (before_more ps qs r)

pub fault_goes_before : (ps : List Part) (span : Span) → before_parts ps (Err span) ≡ Err span
fault_goes_before [] span = refl
fault_goes_before (p ∷ ps) span = ap (before_part p) (fault_goes_before ps span)

pub parts_go_before : (ps : List Part) → before_parts ps (Ok []) ≡ Ok ps
parts_go_before [] = refl
parts_go_before (p ∷ ps) = ap (before_part p) (parts_go_before ps)

nested_little : (d : ℕ) (n : Nesting) → nested d n ≤ d + 1
nested_little d Nesting.Same = omega arith
nested_little d Nesting.Opens = omega arith
nested_little d Nesting.Closes = omega arith

-- what a call gave after another that did not fail
pub if_both : {P T U E F : Type 0} (r : Result T E) (q : Result U F) (u : U) → is_ok q ≡ is_ok r → q ≡ Ok u → IfOk r (λ x. P) → P
if_both (Ok x) q u same was p = p
if_both (Err x) q u same was p = absurd (true≢false (sym (ap is_ok was) ∙ same))

module _ (tokens : List code_token.Token) (parts : List code_part.Part) (at depth : ℕ) (state : code_state.State) (draft : code_draft.Draft) (so_far : HasParsed tokens parts at depth state draft) where
  module _ (d : code_token.Token) (within : at < length tokens) (r : Option code_move.Move) (after : code_draft.Draft) (steps : option_map (seen_step depth after) r ≡ step depth (seen_state draft state) (seen (get_or tokens at d))) where
    -- a list of tokens from a place on
    head : drop at (map seen tokens) ≡ seen (get_or tokens at d) ∷ drop (at + 1) (map seen tokens)
    head = drop_more (map seen tokens) at (seen d) (omega (arith, length-map tokens seen)) ∙ ap (λ t. t ∷ drop (at + 1) (map seen tokens)) (get_or-map seen tokens at d (seen d) within)

    reads_on : parts_of (map seen tokens) ≡ before_parts (map seen_part parts) (behind (get_or tokens at d).span (run (drop (at + 1) (map seen tokens))) (option_map (seen_step depth after) r))
    reads_on =
        so_far.reads ∙ ap (λ ts. before_parts (map seen_part parts) (run ts depth (seen_state draft state))) head
        ∙ ap (λ o. before_parts (map seen_part parts) (behind (get_or tokens at d).span (run (drop (at + 1) (map seen tokens))) o)) (sym steps)

    pub refused : r ≡ None → parts_of (map seen tokens) ≡ Err (get_or tokens at d).span
    refused none = reads_on ∙ ap (λ o. before_parts (map seen_part parts) (behind (get_or tokens at d).span (run (drop (at + 1) (map seen tokens))) (option_map (seen_step depth after) o))) none ∙ fault_goes_before (map seen_part parts) (get_or tokens at d).span

    pub goes_on : (go : code_move.Move) → r ≡ Some go → (more : List code_part.Part) → map seen_part more ≡ map seen_part parts ++ completed after go.part go.nesting → (deep : ℕ) → deep ≡ nested depth go.nesting → HasParsed tokens more (at + 1) deep go.state after
    goes_on go goes more is deep e =
        let f : machine.Move → Result (List Part) Span = λ m. before_parts m.parts (run (drop (at + 1) (map seen tokens)) m.depth m.state) in
        let rest : Result (List Part) Span = run (drop (at + 1) (map seen tokens)) deep (seen_state after go.state) in
        record {
          shallow = let l = nested_little depth go.nesting in let s = so_far.shallow in omega arith;
          reads =
              reads_on ∙ ap (λ o. before_parts (map seen_part parts) (behind (get_or tokens at d).span (run (drop (at + 1) (map seen tokens))) (option_map (seen_step depth after) o))) goes
              ∙ ap (λ k. before_parts (map seen_part parts) (before_parts (completed after go.part go.nesting) (run (drop (at + 1) (map seen tokens)) k (seen_state after go.state)))) (sym e)
              ∙ before_more (map seen_part parts) (completed after go.part go.nesting) rest ∙ ap (λ ps. before_parts ps rest) (sym is);
        }

  -- after the last token
  module _ (ends : length tokens ≤ at) where
    all_read : parts_of (map seen tokens) ≡ before_parts (map seen_part parts) (machine.stopped (seen_state draft state))
    all_read = so_far.reads ∙ ap (λ ts. before_parts (map seen_part parts) (run ts depth (seen_state draft state))) (drop_all at (map seen tokens) (omega (arith, length-map tokens seen)))

    pub finished : state ≡ code_state.State.Finished → parts_of (map seen tokens) ≡ Ok (map seen_part parts)
    finished e = all_read ∙ ap (λ s. before_parts (map seen_part parts) (machine.stopped (seen_state draft s))) e ∙ parts_go_before (map seen_part parts)

    pub unfinished : state ≢ code_state.State.Finished → parts_of (map seen tokens) ≡ Err (record { start = 0; end = 0 })
    unfinished ne = all_read ∙ ap (before_parts (map seen_part parts)) (stopped_early state ne) ∙ fault_goes_before (map seen_part parts) (record { start = 0; end = 0 })
      where
        stopped_early : (s : code_state.State) → s ≢ code_state.State.Finished → machine.stopped (seen_state draft s) ≡ Err (record { start = 0; end = 0 })
        stopped_early code_state.State.Finished ne = absurd (ne refl)
        stopped_early s ne = refl

-- the text ends where its last token does
last_at : (tokens : List code_token.Token) (n : ℕ) (t : code_token.Token) → length tokens ≡ suc n → slice_get tokens n ≡ Some t → t.span.end ≡ text_length (map seen tokens)
last_at [] n t h e = absurd (omega arith)
last_at (u ∷ []) zero t h e = let same : u ≡ t = cc in ap (λ (x : code_token.Token). (x.span).end) (sym same)
last_at (u ∷ []) (suc n) t h e = absurd (omega arith)
last_at (u ∷ v ∷ ts) zero t h e = absurd (omega arith)
last_at (u ∷ v ∷ ts) (suc n) t h e = last_at (v ∷ ts) n t (omega arith) e

pub last_ends : (tokens : List code_token.Token) (t : code_token.Token) → slice_get tokens (length tokens - 1) ≡ Some t → t.span.end ≡ text_length (map seen tokens)
last_ends [] t e = absurd (let none : None ≡ Some t = e in cc)
last_ends (u ∷ us) t e = last_at (u ∷ us) (length (u ∷ us) - 1) t (omega arith) e

-- What the lexer has read so far, and how one more token changes it.
use Rattle.std.proofs.Common.{◌≡◌, ◌≢◌, ℕ, zero, suc, ◌+◌, ◌-◌, ◌<◌, ◌≤◌, List, [], ◌∷◌, ◌++◌, All, length, get_or, take, drop, map, arith, refl, sym, ap, ◌∙◌, subst, Option, Some, None, Result, Ok, Err, append_assoc}
use Rattle.std.specs.Prelude.{slice_range}
use Rattle.std.specs.Prelude.{true, false, if◌then◌else◌, is_ok, nat_eq, option_map, ◌==◌}
use Rattle.std.proofs.lemmas.Bool.{true≢false}
use Rattle.std.specs.List.{prefix_len, find, starts_with}
use Rattle.std.proofs.lemmas.List.{drop-drop, map_push}
use Rattle.std.proofs.lemmas.List.Elements.{All-nil, All-push, All-weaker}
use Rattle.std.proofs.lemmas.List.Quantifiers.{all_pairs_push}
use Rattle.std.proofs.Math.Nat.{add-sub_cancel_left}
use Rattle.query_model.specs.declared.Span.{Span}
use Rattle.query_model.specs.declared.faults.Fault.{Fault}
use Rattle.query_model.specs.declared.faults.FaultKind.{FaultKind}
use Rattle.query_model.specs.Laws.{EndsInEnd}
use Rattle.query_model.specs.Faults.{as_fault}
use Rattle.query_model.specs.declared.Mark as marks_of
use Rattle.query_model.specs.Text.{is_letter, is_word_byte, is_name_byte, is_query_blank}
use Rattle.query_model.specs.Tokens as tokens
use Rattle.query_model.specs.Tokens.{Sign, Punct, token, span_of, spelled, spelling, marks, mark_at, variable_at, sign_at, token_then, tokens_then, tokens_from, tokens_of, before_rest, first_char}
use Rattle.query_parser.specs.declared.lexer.Token.{Token}
use Rattle.query_parser.specs.declared.lexer.TokenKind.{TokenKind}
use Rattle.query_parser.specs.declared.lexer.TokenKind.TheVariants.{Name, Variable, Mark, End}
use Rattle.query_model.specs.declared.faults.QueryFault.{QueryFault}
use Rattle.query_parser.specs.Lexed.{Answers, token_of, placed, next_of}
use Rattle.query_parser.specs.Token.{AreSlicesOf, Ascend, seen, sign_of, text_length}

abbrev Read : Type 0
Read = Result (List tokens.Token) Span

-- tokens before what is read after them
abbrev pub behind : List tokens.Token → Read → Read
behind ts (Ok us) = Ok (ts ++ us)
behind ts (Err span) = Err span

abbrev pub IsNoEnd : tokens.Token → Type 0
IsNoEnd t = (u : Span) → t ≢ token tokens.End u

-- what is read from a place on stands after the tokens before it
pub record HasRead (text : List ℕ) (items : List Token) (at : ℕ) : Type 0 where
  pub left : ℕ
  pub enough : length text < at + left
  pub fits : at ≤ length text
  pub reads : tokens_of text ≡ behind (map seen items) (tokens_from left at (drop at text))
  pub slices : AreSlicesOf text items
  pub ascend : Ascend items
  pub before : All (λ t. (t.span).end ≤ at) items

behind_none : (r : Read) → r ≡ behind [] r
behind_none (Ok ts) = refl
behind_none (Err span) = refl

behind_push : (ts : List tokens.Token) (t : tokens.Token) (r : Read) → behind ts (before_rest t r) ≡ behind (ts ++ t ∷ []) r
behind_push ts t (Ok us) = ap Ok (sym (append_assoc ts (t ∷ []) us))
behind_push ts t (Err span) = refl

-- no sign that begins a text is its end
mark_is_no_end : (m : Option marks_of.Mark) → option_map Punct m ≢ Some tokens.End
mark_is_no_end None e = cc
mark_is_no_end (Some m) e = cc

variable_is_no_end : (bs : List ℕ) → variable_at bs ≢ Some tokens.End
variable_is_no_end [] e = cc
variable_is_no_end (b ∷ bs) e = elim (is_letter b) as (λ v. (if v then Some (tokens.Variable (take (prefix_len is_word_byte (b ∷ bs)) (b ∷ bs))) else None) ≡ Some tokens.End → ⊥) [ true ↦ λ h. cc | false ↦ λ h. cc ] e

other_is_no_end : (b : ℕ) (bs : List ℕ) → (if b == 36 then variable_at bs else mark_at (b ∷ bs)) ≢ Some tokens.End
other_is_no_end b bs e = elim (b == 36) as (λ v. (if v then variable_at bs else mark_at (b ∷ bs)) ≡ Some tokens.End → ⊥) [ true ↦ variable_is_no_end bs | false ↦ mark_is_no_end (find (λ m. starts_with nat_eq (b ∷ bs) (spelling m)) marks) ] e

sign_is_no_end : (b : ℕ) (bs : List ℕ) → sign_at (b ∷ bs) ≢ Some tokens.End
sign_is_no_end b bs e = elim (is_letter b) as (λ v. (if v then Some (tokens.Name (take (prefix_len is_name_byte (b ∷ bs)) (b ∷ bs))) else if b == 36 then variable_at bs else mark_at (b ∷ bs)) ≡ Some tokens.End → ⊥) [ true ↦ λ h. cc | false ↦ other_is_no_end b bs ] e

placed_is_no_end : (start : ℕ) (rest : List ℕ) (o : Option Sign) → o ≢ Some tokens.End → (u : Span) → placed start rest o ≢ Ok (token tokens.End u)
placed_is_no_end start rest None ne u e = cc
placed_is_no_end start rest (Some s) ne u e = let d : s ≡ tokens.End = cc in ne (ap Some d)

-- a token begins where the text does
token_starts : (start : ℕ) (rest : List ℕ) (t : tokens.Token) → token_of start rest ≡ Ok t → (span_of t).start ≡ start
token_starts start [] t e = let d : token tokens.End (record { start = start; end = start }) ≡ t = cc in rw (← d) refl
token_starts start (b ∷ bs) t e = placed_starts (sign_at (b ∷ bs)) e
  where
    placed_starts : (o : Option Sign) → placed start (b ∷ bs) o ≡ Ok t → (span_of t).start ≡ start
    placed_starts None h = cc
    placed_starts (Some s) h = let d : token s (record { start = start; end = start + length (spelled s) }) ≡ t = cc in rw (← d) refl

module _ (next : ℕ → List ℕ → Read) where
  token_then_more : (start : ℕ) (rest : List ℕ) (o : Option Sign) (t : tokens.Token) → placed start rest o ≡ Ok t → token_then next start rest o ≡ before_rest t (next (span_of t).end (drop ((span_of t).end - start) rest))
  token_then_more start rest None t e = cc
  token_then_more start rest (Some s) t e =
      let d : token s (record { start = start; end = start + length (spelled s) }) ≡ t = cc in
      let P : tokens.Token → Type 0 = λ u. token_then next start rest (Some s) ≡ before_rest u (next (span_of u).end (drop ((span_of u).end - start) rest)) in
      subst P d (rw (add-sub_cancel_left start (length (spelled s))) refl)

  -- a token that is not the end stands before what is read of the rest
  tokens_then_more : (start : ℕ) (rest : List ℕ) (t : tokens.Token) → token_of start rest ≡ Ok t → IsNoEnd t → tokens_then next start rest ≡ before_rest t (next (span_of t).end (drop ((span_of t).end - start) rest))
  tokens_then_more start [] t e ne = absurd (ne (record { start = start; end = start }) cc)
  tokens_then_more start (b ∷ bs) t e ne = token_then_more start (b ∷ bs) (sign_at (b ∷ bs)) t e

  -- after the end nothing is read
  tokens_then_end : (start : ℕ) (rest : List ℕ) (u : Span) → token_of start rest ≡ Ok (token tokens.End u) → tokens_then next start rest ≡ Ok (token tokens.End u ∷ [])
  tokens_then_end start [] u e = let d : token tokens.End (record { start = start; end = start }) ≡ token tokens.End u = cc in ap (λ t. Ok (t ∷ [])) d
  tokens_then_end start (b ∷ bs) u e = absurd (placed_is_no_end start (b ∷ bs) (sign_at (b ∷ bs)) (sign_is_no_end b bs) u e)

  token_then_fault : (kind : FaultKind) (ts : List tokens.Token) (start : ℕ) (rest : List ℕ) (o : Option Sign) (f : Fault) → as_fault kind (placed start rest o) ≡ Err f → as_fault kind (behind ts (token_then next start rest o)) ≡ Err f
  token_then_fault kind ts start rest None f e = let d : record { kind = kind; span = first_char start rest } ≡ f = cc in ap Err d
  token_then_fault kind ts start rest (Some s) f e = cc

  -- where no token begins, there is the fault
  tokens_then_fault : (kind : FaultKind) (ts : List tokens.Token) (start : ℕ) (rest : List ℕ) (f : Fault) → as_fault kind (token_of start rest) ≡ Err f → as_fault kind (behind ts (tokens_then next start rest)) ≡ Err f
  tokens_then_fault kind ts start [] f e = cc
  tokens_then_fault kind ts start (b ∷ bs) f e = token_then_fault kind ts start (b ∷ bs) (sign_at (b ∷ bs)) f e

-- what stands in a list after a push that did not fail
pub pushed : {X T U E F : Type 0} (r : Result T E) (q : Result U F) (u : U) (xs ys zs : List X) → is_ok q ≡ is_ok r → q ≡ Ok u → xs ≡ (if is_ok r then ys else zs) → xs ≡ ys
pushed (Ok x) q u xs ys zs same was e = e
pushed (Err x) q u xs ys zs same was e = absurd (true≢false (sym (ap is_ok was) ∙ same))

-- a token is the end where its kind is
seen_end : (t : Token) → t.kind ≡ End → seen t ≡ token tokens.End t.span
seen_end t e = rw e refl

pub sign_of_no_end : (k : TokenKind) (bytes : List ℕ) → k ≢ End → sign_of k bytes ≢ tokens.End
sign_of_no_end Name bytes ne e = cc
sign_of_no_end Variable bytes ne e = cc
sign_of_no_end (Mark m) bytes ne e = cc
sign_of_no_end End bytes ne e = ne refl

-- and is none where its kind is none
seen_no_end : (t : Token) → t.kind ≢ End → IsNoEnd (seen t)
seen_no_end t ne u e = let d : sign_of t.kind t.text.now ≡ tokens.End = cc in sign_of_no_end t.kind t.text.now ne d

-- nothing is read before the first token
pub started : (text : List ℕ) → HasRead text [] 0
unfolding tokens_of
started text = record {
  left = length text + 1;
  enough = omega arith;
  fits = omega arith;
  reads = behind_none (tokens_from (length text + 1) 0 text);
  slices = All-nil (λ t. t.text.now ≡ slice_range text (t.span).start (t.span).end);
  ascend = λ i j d before within. absurd (omega arith);
  before = All-nil (λ t. (t.span).end ≤ 0);
}

-- how the rest is read, one token on
rest_read : (text : List ℕ) (at n : ℕ) → tokens_from (suc n) at (drop at text) ≡ (let start = at + prefix_len is_query_blank (drop at text) in tokens_then (tokens_from n) start (drop start text))
unfolding tokens_from
rest_read text at n = let blanks : ℕ = prefix_len is_query_blank (drop at text) in ap (λ rest. tokens_then (tokens_from n) (at + blanks) rest) (drop-drop blanks at text)

module _ (text : List ℕ) (items : List Token) (at : ℕ) where
  -- the tokens of the text are those so far, and those that follow
  rest_is_left : HasRead text items at → (n : ℕ) × (length text < at + suc n) × (tokens_of text ≡ behind (map seen items) (tokens_from (suc n) at (drop at text)))
  rest_is_left so_far = left_is so_far.left so_far.enough so_far.reads
    where
      left_is : (left : ℕ) → length text < at + left → tokens_of text ≡ behind (map seen items) (tokens_from left at (drop at text)) → (n : ℕ) × (length text < at + suc n) × (tokens_of text ≡ behind (map seen items) (tokens_from (suc n) at (drop at text)))
      left_is zero enough reads = let fits = so_far.fits in absurd (omega arith)
      left_is (suc n) enough reads = (n, enough, reads)

  module _ (so_far : HasRead text items at) where
    -- a fault after the tokens so far is the text's
    pub fault_is_of_text : (kind : FaultKind) (f : Fault) → as_fault kind (next_of text at) ≡ Err f → as_fault kind (tokens_of text) ≡ Err f
    fault_is_of_text kind f e =
        let l = rest_is_left so_far in
        let start : ℕ = at + prefix_len is_query_blank (drop at text) in
        rw (l.2, rest_read text at l.0) (tokens_then_fault (tokens_from l.0) kind (map seen items) start (drop start text) f e)

    -- a refusal after the tokens so far is the lexer's
    pub refusal_is_of_text : {T : Type 0} (view : T → List tokens.Token) (kind : FaultKind) (q : QueryFault) → Answers kind seen (Err q) (next_of text at) → Answers kind view (Err q) (tokens_of text)
    refusal_is_of_text view kind (QueryFault.Fault f) e = fault_is_of_text kind f e
    refusal_is_of_text view kind QueryFault.Memory e = tt

    module _ (t : Token) (is_next : next_of text at ≡ Ok (seen t)) where
      -- at the end, the tokens of the text are those so far and the end
      pub tokens_at_end : t.kind ≡ End → tokens_of text ≡ Ok (map seen (items ++ t ∷ []))
      tokens_at_end ends =
          let l = rest_is_left so_far in
          let start : ℕ = at + prefix_len is_query_blank (drop at text) in
          let e : seen t ≡ token tokens.End t.span = seen_end t ends in
          let r : tokens_then (tokens_from l.0) start (drop start text) ≡ Ok (token tokens.End t.span ∷ []) = tokens_then_end (tokens_from l.0) start (drop start text) t.span (is_next ∙ ap Ok e) in
          rw (l.2, rest_read text at l.0, r, map_push, e) refl

      pub ends_once : t.kind ≡ End → EndsInEnd (map seen (items ++ t ∷ []))
      ends_once ends = (map seen items, t.span, rw (map_push, seen_end t ends) refl)

      module _ (slice : t.text.now ≡ slice_range text (t.span).start (t.span).end) (starts : at ≤ (t.span).start) (rises : (t.span).start ≤ (t.span).end) (within : (t.span).end ≤ length text) where
        pub ascend_more : Ascend (items ++ t ∷ [])
        ascend_more = all_pairs_push (λ u v. (u.span).end ≤ (v.span).start) items t so_far.ascend (λ k d l. let b : (get_or items k d).span.end ≤ at = so_far.before k d l in omega arith)

        -- one token on
        pub goes_on : t.kind ≢ End → (t.span).start < (t.span).end → HasRead text (items ++ t ∷ []) (t.span).end
        goes_on no_end moves =
            let l = rest_is_left so_far in
            let start : ℕ = at + prefix_len is_query_blank (drop at text) in
            let from : (t.span).start ≡ start = token_starts start (drop start text) (seen t) is_next in
            let to : start + ((t.span).end - start) ≡ (t.span).end = omega arith in
            let step = tokens_then_more (tokens_from l.0) start (drop start text) (seen t) is_next (seen_no_end t no_end) in
            let behind_it : drop ((t.span).end - start) (drop start text) ≡ drop (t.span).end text = drop-drop ((t.span).end - start) start text ∙ ap (λ (k : ℕ). drop k text) to in
            let all_read : tokens_of text ≡ behind (map seen items) (before_rest (seen t) (tokens_from l.0 (t.span).end (drop (t.span).end text))) =
            l.2 ∙ ap (behind (map seen items)) (rest_read text at l.0 ∙ step ∙ ap (λ (rest : List ℕ). before_rest (seen t) (tokens_from l.0 (t.span).end rest)) behind_it) in
            record {
              left = l.0;
              enough = let e = l.1 in omega arith;
              fits = within;
              reads = rw map_push (all_read ∙ behind_push (map seen items) (seen t) (tokens_from l.0 (t.span).end (drop (t.span).end text)));
              slices = All-push (λ u. u.text.now ≡ slice_range text (u.span).start (u.span).end) items t so_far.slices slice;
              ascend = ascend_more;
              before = All-push (λ u. (u.span).end ≤ (t.span).end) items t (All-weaker (λ u. (u.span).end ≤ at) (λ u. (u.span).end ≤ (t.span).end) (λ u h. omega arith) items so_far.before) (omega arith);
            }

-- the last token's end is the text's length
pub text_length-push : (ts : List tokens.Token) (t : tokens.Token) → text_length (ts ++ t ∷ []) ≡ (span_of t).end
text_length-push [] t = refl
text_length-push (u ∷ []) t = refl
text_length-push (u ∷ v ∷ ts) t = text_length-push (v ∷ ts) t

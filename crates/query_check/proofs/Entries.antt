-- The items by number, one piece at a time.
use Rattle.std.specs.Prelude.{◌≡◌, ℕ, zero, suc, ◌+◌, ◌-◌, ◌<◌, ◌≤◌, Bool, List, [], ◌∷◌, ◌++◌, map, drop, length, slice_get, Option, Some, None, option_map, unwrap_or, if◌then◌else◌}
use Rattle.std.proofs.lemmas.Option.{slice_get-get_or, slice_get-map}
use Rattle.std.proofs.Common.{Bor, ap, sym, ◌∙◌, refl, get_or, arith, length-append}
use Rattle.std.proofs.lemmas.Bool.{ne_eqb}
use Rattle.std.proofs.Math.Seq.{get_or-append_seam}
use Rattle.std.proofs.lemmas.List.{append_assoc, drop_more, get_or_append_left, length-map}
use Rattle.query_model.specs.Levels.{Path, level_of}
use Rattle.query_model.specs.Query.{Item, Piece, item, opening, closing, CheckedEntry, simple, group, checked_entries_from}
use Rattle.query_check.specs.Numbered.{item_kind, level_around, nowhere, piece_or, places_from, standing}
use Rattle.query_check.specs.Seen.{entry_at, entry_of, seen_piece}
use Rattle.query_check.specs.declared.query.Piece as code
use Rattle.query_check.specs.declared.query.Piece.TheVariants as code_pieces
use Rattle.query_check.specs.declared.numbered.EntryKind.{EntryKind}
use Rattle.query_check.specs.declared.numbered.EntryKind.TheVariants as kind
use Rattle.query_check.specs.declared.numbered.Numbered.{Numbered}

-- the items lead along the levels that are open: each is that of a group, which stands in the level around
abbrev Leads : List Numbered → Path → Type 0
Leads all [] = Unit {0}
Leads all (l ∷ ls) = (0 < l) × (l ≤ length all) × ((get_or all (l - 1) nowhere).level ≡ level_of ls) × Leads all ls

leads_more : (all : List Numbered) (n : Numbered) (path : Path) → Leads all path → Leads (all ++ n ∷ []) path
leads_more all n [] r = tt
leads_more all n (l ∷ ls) r =
    let low = r.0 in
    let high = r.1 in
    (low, omega (arith, length-append all (n ∷ [])), ap (λ (m : Numbered). m.level) (get_or_append_left all (n ∷ []) nowhere (l - 1) (omega arith)) ∙ r.2, leads_more all n ls r.3)

pub record IsNumbering (pieces : List Piece) (i level : ℕ) (now : List Numbered) : Type 0 where
  pub around : Path
  pub at : level ≡ level_of around
  pub leads : Leads now around
  pub few : length now ≤ i
  pub left : now ++ places_from (length now) i around (drop i pieces) ≡ places_from 0 0 [] pieces

around_of : (all : List Numbered) (path : Path) (level : ℕ) → Leads all path → level ≡ level_of path → level_around all level ≡ level_of (drop 1 path)
around_of all [] level r e = ap (level_around all) e
around_of all (l ∷ ls) level r e =
    let low = r.0 in
    ap (level_around all) e ∙ ap (λ b. if b then 0 else (get_or all (l - 1) nowhere).level) (ne_eqb l 0 (λ z. omega arith)) ∙ r.2

leads_out : (all : List Numbered) (path : Path) → Leads all path → Leads all (drop 1 path)
leads_out all [] r = tt
leads_out all (l ∷ ls) r = r.3

last_one : (xs : List Numbered) (x : Numbered) → get_or (xs ++ x ∷ []) (length xs + 1 - 1) nowhere ≡ x
last_one xs x = ap (λ k. get_or (xs ++ x ∷ []) k nowhere) (omega arith) ∙ get_or-append_seam xs x [] nowhere

-- the same, as the code has it
pub same_numbering : (pieces : List Piece) (i l m : ℕ) (now next : List Numbered) → IsNumbering pieces i l now → m ≡ l → next ≡ now → IsNumbering pieces i m next
same_numbering pieces i l m now next s p q = rw (p, q) s

module _ (pieces : List Piece) (i level : ℕ) (now : List Numbered) (s : IsNumbering pieces i level now) (p : Piece) (h : i < length pieces) (is : get_or pieces i p ≡ p) where
  one : now ++ places_from (length now) i s.around (p ∷ drop (i + 1) pieces) ≡ places_from 0 0 [] pieces
  one =
      ap (λ x. now ++ places_from (length now) i s.around (x ∷ drop (i + 1) pieces)) (sym is) ∙ ap (λ l. now ++ places_from (length now) i s.around l) (sym (drop_more pieces i p h)) ∙ s.left

  longer : (k : EntryKind) → length (now ++ standing level i k ∷ []) ≡ length now + 1
  longer k = length-append now (standing level i k ∷ [])

  -- it stands after the others, before the rest
  put : (k : EntryKind) (around : Path) → (now ++ standing level i k ∷ []) ++ places_from (length (now ++ standing level i k ∷ [])) (i + 1) around (drop (i + 1) pieces)
      ≡ now ++ standing (level_of s.around) i k ∷ places_from (length now + 1) (i + 1) around (drop (i + 1) pieces)
  put k around =
      ap (λ n. (now ++ standing level i k ∷ []) ++ places_from n (i + 1) around (drop (i + 1) pieces)) (longer k)
      ∙ append_assoc now (standing level i k ∷ []) (places_from (length now + 1) (i + 1) around (drop (i + 1) pieces))
      ∙ ap (λ l. now ++ standing l i k ∷ places_from (length now + 1) (i + 1) around (drop (i + 1) pieces)) s.at

  pub closed_one : p ≡ closing → (next : ℕ) → next ≡ level_around now level → IsNumbering pieces (i + 1) next now
  closed_one e next is_next = record {
    around = drop 1 s.around;
    at = is_next ∙ around_of now s.around level s.leads s.at;
    leads = leads_out now s.around s.leads;
    few = let f = s.few in omega arith;
    left = ap (λ x. now ++ places_from (length now) i s.around (x ∷ drop (i + 1) pieces)) (sym e) ∙ one;
  }

  pub item_one : (it : Item) → p ≡ item it → (k : EntryKind) → k ≡ item_kind it → (next : List Numbered) → next ≡ now ++ standing level i k ∷ [] → IsNumbering pieces (i + 1) level next
  item_one it e k is_kind next is_next = rw is_next (record {
    around = s.around;
    at = s.at;
    leads = leads_more now (standing level i k) s.around s.leads;
    few = let f = s.few in let l = longer k in omega arith;
    left =
        put k s.around ∙ ap (λ c. now ++ standing (level_of s.around) i c ∷ places_from (length now + 1) (i + 1) s.around (drop (i + 1) pieces)) is_kind
        ∙ ap (λ x. now ++ places_from (length now) i s.around (x ∷ drop (i + 1) pieces)) (sym e) ∙ one;
  })

  pub opened_one : (from_term : Bool) (own : List ℕ) → p ≡ opening from_term own → (next : List Numbered) → next ≡ now ++ standing level i kind.Group ∷ [] → (deep : ℕ) → deep ≡ length next
      → IsNumbering pieces (i + 1) deep next
  opened_one from_term own e next is_next deep is_deep = rw (is_deep, is_next) (record {
    around = (length now + 1) ∷ s.around;
    at = longer kind.Group;
    leads = (
      omega arith,
      let l = longer kind.Group in omega arith,
      ap (λ (m : Numbered). m.level) (last_one now (standing level i kind.Group)) ∙ s.at,
      leads_more now (standing level i kind.Group) s.around s.leads,
    );
    few = let f = s.few in let l = longer kind.Group in omega arith;
    left = put kind.Group ((length now + 1) ∷ s.around) ∙ ap (λ x. now ++ places_from (length now) i s.around (x ∷ drop (i + 1) pieces)) (sym e) ∙ one;
  })

-- a piece after others, and the pieces up to it
pub this_piece : (all front : List Piece) (p : Piece) (ps : List Piece) (k : ℕ) → all ≡ front ++ p ∷ ps → k ≡ length front → get_or all k closing ≡ p
this_piece all front p ps k a e = ap (λ l. get_or l k closing) a ∙ ap (λ j. get_or (front ++ p ∷ ps) j closing) e ∙ get_or-append_seam front p ps closing

pub one_on : (all front : List Piece) (p : Piece) (ps : List Piece) → all ≡ front ++ p ∷ ps → all ≡ (front ++ p ∷ []) ++ ps
one_on all front p ps a = a ∙ sym (append_assoc front (p ∷ []) ps)

pub one_longer : (front : List Piece) (p : Piece) (k : ℕ) → k ≡ length front → k + 1 ≡ length (front ++ p ∷ [])
one_longer front p k e = ap (λ n. n + 1) e ∙ sym (length-append front (p ∷ []))

-- the items and groups that stand there
entries_there : (all front ps : List Piece) (n k : ℕ) (around : Path) → all ≡ front ++ ps → k ≡ length front → map (entry_at all) (places_from n k around ps) ≡ checked_entries_from n around ps
entries_there all front [] n k around a e = refl
entries_there all front (item i ∷ ps) n k around a e =
    ap (λ p. entry_of (level_of around) p ∷ map (entry_at all) (places_from (n + 1) (k + 1) around ps)) (this_piece all front (item i) ps k a e)
    ∙ ap (λ es. simple (level_of around) i ∷ es) (entries_there all (front ++ item i ∷ []) ps (n + 1) (k + 1) around (one_on all front (item i) ps a) (one_longer front (item i) k e))
entries_there all front (opening from_term own ∷ ps) n k around a e =
    ap (λ p. entry_of (level_of around) p ∷ map (entry_at all) (places_from (n + 1) (k + 1) ((n + 1) ∷ around) ps)) (this_piece all front (opening from_term own) ps k a e)
    ∙ ap (λ es. group (level_of around) from_term own ∷ es)
    (entries_there all (front ++ opening from_term own ∷ []) ps (n + 1) (k + 1) ((n + 1) ∷ around) (one_on all front (opening from_term own) ps a) (one_longer front (opening from_term own) k e))
entries_there all front (closing ∷ ps) n k around a e = entries_there all (front ++ closing ∷ []) ps n (k + 1) (drop 1 around) (one_on all front closing ps a) (one_longer front closing k e)

pub numbered_entries : (ps : List Piece) → map (entry_at ps) (places_from 0 0 [] ps) ≡ checked_entries_from 0 [] ps
numbered_entries ps = entries_there ps [] ps 0 0 [] refl refl

pub as_many : (ps : List Piece) → length (places_from 0 0 [] ps) ≡ length (checked_entries_from 0 [] ps)
as_many ps = sym (length-map (places_from 0 0 [] ps) (entry_at ps)) ∙ ap length (numbered_entries ps)

-- a piece by its place, the end of a group where there is none
get_or-seen : {A : Type 0} (xs : List (code.Piece A)) (k : ℕ) → get_or (map seen_piece xs) k closing ≡ seen_piece (get_or xs k code_pieces.Closing)
get_or-seen [] k = refl
get_or-seen (x ∷ xs) zero = refl
get_or-seen (x ∷ xs) (suc k) = get_or-seen xs k

piece_or-found : {A : Type 0} (r : Option (Bor (code.Piece A))) → piece_or r ≡ seen_piece (unwrap_or (option_map (λ x. x.now) r) code_pieces.Closing)
piece_or-found None = refl
piece_or-found (Some p) = refl

pub piece_found : {A : Type 0} (xs ys : List (code.Piece A)) (k : ℕ) (r : Option (Bor (code.Piece A))) → unwrap_or (option_map (λ x. x.now) r) code_pieces.Closing ≡ get_or ys k code_pieces.Closing → ys ≡ xs
    → piece_or r ≡ get_or (map seen_piece xs) k closing
piece_found xs ys k r e same = piece_or-found r ∙ ap seen_piece (e ∙ ap (λ l. get_or l k code_pieces.Closing) same) ∙ sym (get_or-seen xs k)

-- the item with a number
pub entry_found : (ps : List Piece) (ns : List Numbered) (es : List CheckedEntry) (k : ℕ) (at : Numbered) (p : Piece) (e : CheckedEntry) → map (entry_at ps) ns ≡ es → k < length es → at ≡ get_or ns k at → p ≡ get_or ps at.piece closing
    → e ≡ entry_of at.level p → slice_get es k ≡ Some e
entry_found ps ns es k at p e same h is found seen =
    let within : k < length ns = let l = length-map ns (entry_at ps) in let m = ap length same in omega arith in
    ap (λ l. slice_get l k) (sym same) ∙ slice_get-map (entry_at ps) ns k ∙ ap (option_map (entry_at ps)) (slice_get-get_or ns k at within ∙ ap Some (sym is))
    ∙ ap (λ q. Some (entry_of at.level q)) (sym found) ∙ ap Some (sym seen)

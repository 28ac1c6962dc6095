-- Tables that are written to a caller's array, one after another.
use Rattle.std.proofs.Common.{◌≡◌, ℕ, zero, suc, ◌+◌, ◌<◌, ◌≤◌, List, [], ◌∷◌, ◌++◌, length, map, take, drop, min, refl, sym, ◌∙◌, ap, arith, subst, append_assoc, length-append}
use Rattle.std.specs.Prelude.{set}
use Rattle.std.proofs.Math.ListN.{drop_of_length-le}
use lib.Seq.{take-nil}
use Rattle.std.proofs.lemmas.Grind.{drop-set_at}
use Rattle.std.proofs.lemmas.List.{append-nil, drop-drop, length-set, map-append, take-append-le, take_more_set}
use Rattle.query_chunks.specs.Chunk.{Chunk}
use Rattle.flecsq_c.specs.declared.lent.Table.{Table}
use Rattle.flecsq_c.specs.Tables.{AreWritten, most_counted, told_chunk, told_of}

-- as many as there are
whole : {X : Type 0} (xs : List X) (n : ℕ) → length xs ≤ n → take n xs ≡ xs
whole [] n low = take-nil n
whole (x ∷ xs) zero low = absurd (omega (arith, low))
whole (x ∷ xs) (suc n) low = ap (λ l. x ∷ l) (whole xs n (omega (arith, low)))

-- no table was written yet
pub written_none : (tables : List Table) → AreWritten [] tables tables
written_none tables = record { room = refl; written = sym (ap (map told_chunk) (whole [] (length tables) (omega arith))); left = refl }

module _ (before tables : List Table) (given : List Chunk) (are : AreWritten given before tables) (c : Chunk) where
  abbrev more : List Chunk
  more = given ++ c ∷ []

  one_more : length more ≡ length given + 1
  one_more = length-append given (c ∷ [])

  -- the next one was written
  pub written_more : (t : Table) → told_of t ≡ told_chunk c → length given < length tables → AreWritten more before (set tables (length given) t)
  written_more t same low =
      let n = length given in
      let after = set tables n t in
      let long : length after ≡ length tables = length-set tables n t in
      let front : map told_of (take n tables) ≡ map told_chunk given =
      are.written ∙ ap (map told_chunk) (whole given (length tables) (omega (arith, low))) in
      let here : map told_of (take (length more) after) ≡ map told_of (take n tables) ++ told_of t ∷ [] =
      ap (λ k. map told_of (take k after)) one_more ∙ ap (map told_of) (take_more_set tables n t low) ∙ map-append told_of (take n tables) (t ∷ []) in
      let there : map told_chunk (take (length after) more) ≡ map told_chunk given ++ told_chunk c ∷ [] =
      ap (map told_chunk) (whole more (length after) (omega (arith, low, long, one_more))) ∙ map-append told_chunk given (c ∷ []) in
      record {
        room = long ∙ are.room;
        written = here ∙ ap (λ l. l ++ told_of t ∷ []) front ∙ ap (λ p. map told_chunk given ++ p ∷ []) same ∙ sym there;
        left =
            ap (λ k. drop k after) one_more ∙ sym (drop-drop 1 n after) ∙ ap (drop 1) (drop-set_at tables n n t refl low) ∙ sym (drop-drop 1 n tables)
            ∙ ap (drop 1) are.left ∙ drop-drop 1 n before ∙ ap (λ k. drop k before) (sym one_more);
      }

  -- or there was no place for it
  pub written_past : length tables ≤ length given → AreWritten more before tables
  written_past full =
      let long = are.room in
      record {
        room = long;
        written =
            ap (map told_of) (whole tables (length more) (omega (arith, full, one_more)) ∙ sym (whole tables (length given) full)) ∙ are.written
            ∙ ap (map told_chunk) (sym (take-append-le (length tables) given (c ∷ []) full));
        left =
            drop_of_length-le tables (omega (arith, full, one_more))
            ∙ sym (drop_of_length-le before (omega (arith, full, one_more, long)));
      }

-- how far the tables of a query were written
pub record IsWriting (all : List Chunk) (before : List Table) (left : List Chunk) (tables : List Table) (count : ℕ) : Type 0 where
  pub given : List Chunk
  pub split : all ≡ given ++ left
  pub counted : count ≡ min (length given) most_counted
  pub are : AreWritten given before tables

-- the next one was written, or there was no place for it
pub writing_more : (all : List Chunk) (before : List Table) (c : Chunk) (left later : List Chunk) (tables : List Table) (count : ℕ) (t : Table) → IsWriting all before left tables count
    → left ≡ c ∷ later → told_of t ≡ told_chunk c → count < length tables → length tables ≤ most_counted → (next : ℕ) → next ≡ min (count + 1) most_counted
    → IsWriting all before later (set tables count t) next
writing_more all before c left later tables count t was moved same low few next is =
    let given = was.given in
    let exact : count ≡ length given = omega (arith, was.counted, low, few) in
    let are : AreWritten (given ++ c ∷ []) before (set tables (length given) t) = written_more before tables given was.are c t same (omega (arith, low, exact)) in
    record {
      given = given ++ c ∷ [];
      split = was.split ∙ ap (λ l. given ++ l) moved ∙ sym (append_assoc given (c ∷ []) later);
      counted = omega (arith, is, was.counted, length-append given (c ∷ []));
      are = subst (λ k. AreWritten (given ++ c ∷ []) before (set tables k t)) (sym exact) are;
    }

pub writing_past : (all : List Chunk) (before : List Table) (c : Chunk) (left later : List Chunk) (tables : List Table) (count : ℕ) → IsWriting all before left tables count
    → left ≡ c ∷ later → length tables ≤ count → (next : ℕ) → next ≡ min (count + 1) most_counted → IsWriting all before later tables next
writing_past all before c left later tables count was moved full next is =
    let given = was.given in
    record {
      given = given ++ c ∷ [];
      split = was.split ∙ ap (λ l. given ++ l) moved ∙ sym (append_assoc given (c ∷ []) later);
      counted = omega (arith, is, was.counted, length-append given (c ∷ []));
      are = written_past before tables given was.are c (omega (arith, full, was.counted));
    }

-- after the last
pub written_all : (all : List Chunk) (before : List Table) (left : List Chunk) (tables : List Table) (count : ℕ) → IsWriting all before left tables count → left ≡ []
    → (count ≡ min (length all) most_counted) × AreWritten all before tables
written_all all before left tables count was none =
    let is : all ≡ was.given = was.split ∙ ap (λ l. was.given ++ l) none ∙ append-nil was.given in
    (was.counted ∙ ap (λ l. min (length l) most_counted) (sym is), subst (λ l. AreWritten l before tables) (sym is) was.are)

-- before the first
pub writing_none : (all : List Chunk) (tables : List Table) → IsWriting all tables all tables 0
writing_none all tables = record { given = []; split = refl; counted = omega arith; are = written_none tables }

-- A query without answers prints its count alone.
use Rattle.std.proofs.Common.{◌≡◌, ℕ, ◌+◌, List, [], ◌∷◌, ◌++◌, refl, sym, ap, ◌∙◌, append_assoc, arith}
use Rattle.std.specs.Prelude.{codes, decimal}
use Rattle.std.proofs.lemmas.Fmt.{decimal_digit}
use Rattle.std.proofs.lemmas.List.{append-nil}
use Rattle.ecs_model.specs.World.{WorldState}
use Rattle.ecs_model.specs.rows.Rows.{answers}
use Rattle.ecs_model.specs.rows.Text.{rows_text}
use Rattle.ecs_model.specs.rows.View.{view_of}
use Rattle.query_model.specs.Query.{Query}
use Rattle.query_answers.proofs.ShownRows.{none_in_order}
use Rattle.query_answers.proofs.RowLines.{text_is}

pub no_lines : (w : WorldState) (q : Query) → answers (view_of w) q ≡ [] → (start new : List ℕ) → new ≡ start ++ codes "rows 0\n" → new ≡ start ++ rows_text w q
no_lines w q none start new now =
    let plain : 48 + 0 ≡ 48 = omega arith in
    let zero : decimal 0 ≡ 48 ∷ [] = decimal_digit 0 (omega arith) ∙ ap (λ n. n ∷ []) plain in
    let pieces : ((start ++ codes "rows ") ++ (48 ∷ [])) ++ codes "\n" ≡ start ++ codes "rows 0\n" =
    ap (λ t. t ++ codes "\n") (append_assoc start (codes "rows ") (48 ∷ [])) ∙ append_assoc start (codes "rows " ++ (48 ∷ [])) (codes "\n") in
    text_is w q [] (none_in_order (view_of w) q none) start start new 0 (sym (append-nil start)) refl (now ∙ sym pieces ∙ ap (λ t. ((start ++ codes "rows ") ++ t) ++ codes "\n") (sym zero))

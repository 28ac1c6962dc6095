-- What a text asks is sound.
use Rattle.std.specs.Prelude.{◌≡◌, ℕ, List, length, Ok}
use Rattle.std.proofs.Common.{ap, sym, ◌∙◌}
use Rattle.query_model.specs.declared.faults.FaultKind.TheVariants.{Lex, Syntax}
use Rattle.query_model.specs.Check.{Known}
use Rattle.query_model.specs.Faults.{as_fault}
use Rattle.query_model.specs.Machine.{parts_of}
use Rattle.query_model.specs.Query.{Query, check_of, checked, parts_read, query_of}
use Rattle.query_model.specs.Syntax.{Part}
use Rattle.query_model.specs.Tokens.{Token, tokens_of}
use Rattle.query_check.specs.Seen.{syntax_of}
use Rattle.query_meaning.specs.Laws.{CheckedQueriesAreSound}
use Rattle.query_meaning.specs.Sound.{IsSound}

-- the check of the parts of a text is what the text asks
pub asked_is_sound : (k : Known) (text : List ℕ) (ts : List Token) (ps : List Part) (n : ℕ) (q : Query) → CheckedQueriesAreSound
    → tokens_of text ≡ Ok ts → parts_of ts ≡ Ok ps → n ≡ length text → check_of k (syntax_of ps n) ≡ Ok q → IsSound q
unfolding query_of
asked_is_sound k text ts ps n q sound lexed parsed whole h =
    sound k text q (
    ap (λ r. checked k (length text) (parts_read (as_fault Lex r))) lexed ∙ ap (λ r. checked k (length text) (as_fault Syntax r)) parsed
    ∙ ap (λ m. check_of k (syntax_of ps m)) (sym whole) ∙ h)

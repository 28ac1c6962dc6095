-- What a list holds where a text that was appended to it stopped in its midst.
use Rattle.std.specs.Prelude.{◌≡◌, List, ◌++◌}

-- it holds what it held, and after that a prefix of the text
pub record StopsWithin {X : Type 0} (before after text : List X) : Type 0 where
  pub more : List X
  pub rest : List X
  pub holds : after ≡ before ++ more
  pub front : text ≡ more ++ rest

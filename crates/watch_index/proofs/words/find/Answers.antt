use Rattle.std.proofs.Common.{rules}
use Rattle.std.proofs.lemmas.List.Sorted.{answers_always}
use Rattle.watch_index.specs.declared.words.Word.{Word}
use Rattle.watch_index.proofs.Blocks.{found_by}
use Rattle.watch_index.proofs.words.find.Goals as goal

pub returns-clause-found : goal.returns-clause-found
returns-clause-found c =
    (found_by c.args.words.now c.requires c.args.block c.binary_search_by_key.result c.binary_search_by_key.ensures.bound
    (c.binary_search_by_key.ensures.position (λ (w : Word). w.block) (answers_always _ _ _ (λ f a r g called. search rules)))).0

pub returns-clause-missing : goal.returns-clause-missing
returns-clause-missing c =
    (found_by c.args.words.now c.requires c.args.block c.binary_search_by_key.result c.binary_search_by_key.ensures.bound
    (c.binary_search_by_key.ensures.position (λ (w : Word). w.block) (answers_always _ _ _ (λ f a r g called. search rules)))).1

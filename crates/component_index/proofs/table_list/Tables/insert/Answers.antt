use Rattle.std.proofs.Common.{◌≡◌, false, true, sym, ap, ◌∙◌}
use Rattle.component_index.specs.TableList.{is_last}
use Rattle.component_index.specs.Tables.{keys_of}
use Rattle.component_index.proofs.TableLemmas.{inserted, kept, last_has, new_unless_last}
use Rattle.component_index.proofs.table_list.Tables.insert.Goals as goal

pub returns-then-is_last-clause-inserted : goal.returns-then-is_last-clause-inserted
returns-then-is_last-clause-inserted g c =
    let keys = keys_of c.args.self.now in
    let last : is_last keys c.args.key ≡ true = ap (λ ks. is_last ks c.args.key) (sym c.as_slice-keys.ensures) ∙ sym c.is_last.ensures ∙ c.if-is_last.true in
    kept keys c.args.key (last_has keys c.args.key last)

pub returns-clause-inserted : goal.returns-clause-inserted
returns-clause-inserted g c =
    let keys = keys_of c.args.self.now in
    let not_last : is_last keys c.args.key ≡ false = ap (λ ks. is_last ks c.args.key) (sym c.as_slice-keys.ensures) ∙ sym c.is_last.ensures ∙ c.if-is_last.false in
    inserted c.push.result keys _ c.args.key (new_unless_last keys c.args.key c.requires not_last) c.push.ensures.pushed

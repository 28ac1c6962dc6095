-- One fault is judged after another, by what the table has.
use Rattle.std.proofs.Common.{◌≡◌, ◌+◌, ◌-◌, ◌*◌, ◌^◌, ◌<◌, ◌≤◌, ◌==◌, true, false, Some, nat_lt, length, sym, ap, ◌∙◌, arith}
use Rattle.std.proofs.lemmas.Bool.Decides.{nat_tests, Decides-eqb}
use Rattle.ecs_id.specs.declared.EntityId.{EntityId}
use Rattle.ecs_model.specs.Bytes.{size_of}
use Rattle.ecs_model.specs.Links.{is_held}
use Rattle.ecs_model.specs.World.{WorldState, ids_of, type_of_id}
use Rattle.ecs_model.proofs.steps.LivingIds.{refuted}
use Rattle.table_store.specs.Store.{Store, table_at}
use Rattle.ecs_archetypes.specs.Housing.{Housing}
use Rattle.ecs_world.specs.Columns.{may_bring}
use Rattle.ecs_world.specs.Standing.{Standing}
use Rattle.ecs_world.proofs.WholeColumns.{tells_brings, tells_full, tells_no_data, tells_none, tells_not_held, tells_size}
use Rattle.ecs_world.proofs.World.judge_column.Goals as goal

pub returns-then-not-contains-clause-refused : goal.returns-then-not-contains-clause-refused
returns-then-not-contains-clause-refused g c =
    let w = c.args.self.now in let k = c.args.key in let i = c.args.id in let n = c.args.len in let t = c.in-Some.table.now in
    let same : c.store.result.now ≡ w.tables = c.store.ensures.store ∙ ap (λ (h : Housing). h.tables) c.graph-graph.ensures ∙ ap (λ (v : Standing). v.tables) c.self.view_is in
    let at : table_at w.tables k ≡ Some t = ap (λ s. table_at s k) (sym same) ∙ c.in-Some.ensures.table in
    let listed : c.contains.result ≡ is_held t.ids i = c.contains.ensures.value ∙ ap (λ ids. is_held ids i) c.ids.ensures.value in
    tells_not_held w k i n t at (sym listed ∙ c.if-not-contains.true)

pub returns-in_default-type_of-clause-refused : goal.returns-in_default-type_of-clause-refused
returns-in_default-type_of-clause-refused g c =
    let w = c.args.self.now in let k = c.args.key in let i = c.args.id in let n = c.args.len in let t = c.in-Some.table.now in
    let same : c.store.result.now ≡ w.tables = c.store.ensures.store ∙ ap (λ (h : Housing). h.tables) c.graph-graph.ensures ∙ ap (λ (v : Standing). v.tables) c.self.view_is in
    let at : table_at w.tables k ≡ Some t = ap (λ s. table_at s k) (sym same) ∙ c.in-Some.ensures.table in
    let listed : c.contains.result ≡ is_held t.ids i = c.contains.ensures.value ∙ ap (λ ids. is_held ids i) c.ids.ensures.value in
    let held : is_held t.ids i ≡ true = sym listed ∙ c.if-not-contains.false in
    tells_no_data w k i n t at held (sym c.in_default-type_of.ensures)

pub returns-then-may_bring-clause-refused : goal.returns-then-may_bring-clause-refused
returns-then-may_bring-clause-refused g c =
    let w = c.args.self.now in let k = c.args.key in let i = c.args.id in let n = c.args.len in let t = c.in-Some.table.now in
    let same : c.store.result.now ≡ w.tables = c.store.ensures.store ∙ ap (λ (h : Housing). h.tables) c.graph-graph.ensures ∙ ap (λ (v : Standing). v.tables) c.self.view_is in
    let at : table_at w.tables k ≡ Some t = ap (λ s. table_at s k) (sym same) ∙ c.in-Some.ensures.table in
    let listed : c.contains.result ≡ is_held t.ids i = c.contains.ensures.value ∙ ap (λ ids. is_held ids i) c.ids.ensures.value in
    let held : is_held t.ids i ≡ true = sym listed ∙ c.if-not-contains.false in
    let fs = c.in-Some-type_of.schema.now in let typed : type_of_id w.state i ≡ Some fs = sym c.in-Some-type_of.ensures in
    tells_brings w k i n t at held fs typed (sym c.may_bring.ensures ∙ c.if-may_bring.true)

pub returns-in_default-checked_mul-clause-refused : goal.returns-in_default-checked_mul-clause-refused
returns-in_default-checked_mul-clause-refused g c =
    let w = c.args.self.now in let k = c.args.key in let i = c.args.id in let n = c.args.len in let t = c.in-Some.table.now in
    let same : c.store.result.now ≡ w.tables = c.store.ensures.store ∙ ap (λ (h : Housing). h.tables) c.graph-graph.ensures ∙ ap (λ (v : Standing). v.tables) c.self.view_is in
    let at : table_at w.tables k ≡ Some t = ap (λ s. table_at s k) (sym same) ∙ c.in-Some.ensures.table in
    let listed : c.contains.result ≡ is_held t.ids i = c.contains.ensures.value ∙ ap (λ ids. is_held ids i) c.ids.ensures.value in
    let held : is_held t.ids i ≡ true = sym listed ∙ c.if-not-contains.false in
    let fs = c.in-Some-type_of.schema.now in let typed : type_of_id w.state i ≡ Some fs = sym c.in-Some-type_of.ensures in
    let quiet : may_bring (ids_of w.state) i ≡ false = sym c.may_bring.ensures ∙ c.if-may_bring.false in
    let count : length c.rows-rows.result.now ≡ length t.entities = ap (λ es. length es) c.rows-rows.ensures.value in
    let all : length c.rows-rows.result.now * c.size.result ≡ length t.entities * size_of fs = (λ j. count j * c.size.ensures.value j) in
    tells_size w k i n t at held fs typed quiet (refuted (n == length t.entities * size_of fs) (λ same_size.
    let product : n ≡ length c.rows-rows.result.now * c.size.result = (Decides-eqb n (length t.entities * size_of fs)).0 same_size ∙ sym all in
    omega (arith, product, c.in_default-checked_mul.ensures, c.ranges.len.fits)))

pub returns-then-len-whole-clause-refused : goal.returns-then-len-whole-clause-refused
returns-then-len-whole-clause-refused g c =
    let w = c.args.self.now in let k = c.args.key in let i = c.args.id in let n = c.args.len in let t = c.in-Some.table.now in
    let same : c.store.result.now ≡ w.tables = c.store.ensures.store ∙ ap (λ (h : Housing). h.tables) c.graph-graph.ensures ∙ ap (λ (v : Standing). v.tables) c.self.view_is in
    let at : table_at w.tables k ≡ Some t = ap (λ s. table_at s k) (sym same) ∙ c.in-Some.ensures.table in
    let listed : c.contains.result ≡ is_held t.ids i = c.contains.ensures.value ∙ ap (λ ids. is_held ids i) c.ids.ensures.value in
    let held : is_held t.ids i ≡ true = sym listed ∙ c.if-not-contains.false in
    let fs = c.in-Some-type_of.schema.now in let typed : type_of_id w.state i ≡ Some fs = sym c.in-Some-type_of.ensures in
    let quiet : may_bring (ids_of w.state) i ≡ false = sym c.may_bring.ensures ∙ c.if-may_bring.false in
    let count : length c.rows-rows.result.now ≡ length t.entities = ap (λ es. length es) c.rows-rows.ensures.value in
    let all : length c.rows-rows.result.now * c.size.result ≡ length t.entities * size_of fs = (λ j. count j * c.size.ensures.value j) in
    let whole : c.in-Some-checked_mul.whole ≡ length t.entities * size_of fs = c.in-Some-checked_mul.ensures.1 ∙ all in
    tells_size w k i n t at held fs typed quiet (refuted (n == length t.entities * size_of fs) (λ same_size.
    c.if-len-whole.true ((Decides-eqb n (length t.entities * size_of fs)).0 same_size ∙ sym whole)))

pub returns-then-self-rows-clause-refused : goal.returns-then-self-rows-clause-refused
returns-then-self-rows-clause-refused g c =
    let w = c.args.self.now in let k = c.args.key in let i = c.args.id in let n = c.args.len in let t = c.in-Some.table.now in
    let same : c.store.result.now ≡ w.tables = c.store.ensures.store ∙ ap (λ (h : Housing). h.tables) c.graph-graph.ensures ∙ ap (λ (v : Standing). v.tables) c.self.view_is in
    let at : table_at w.tables k ≡ Some t = ap (λ s. table_at s k) (sym same) ∙ c.in-Some.ensures.table in
    let listed : c.contains.result ≡ is_held t.ids i = c.contains.ensures.value ∙ ap (λ ids. is_held ids i) c.ids.ensures.value in
    let held : is_held t.ids i ≡ true = sym listed ∙ c.if-not-contains.false in
    let fs = c.in-Some-type_of.schema.now in let typed : type_of_id w.state i ≡ Some fs = sym c.in-Some-type_of.ensures in
    let quiet : may_bring (ids_of w.state) i ≡ false = sym c.may_bring.ensures ∙ c.if-may_bring.false in
    let count : length c.rows-rows.result.now ≡ length t.entities = ap (λ es. length es) c.rows-rows.ensures.value in
    let all : length c.rows-rows.result.now * c.size.result ≡ length t.entities * size_of fs = (λ j. count j * c.size.ensures.value j) in
    let whole : c.in-Some-checked_mul.whole ≡ length t.entities * size_of fs = c.in-Some-checked_mul.ensures.1 ∙ all in
    let right : n ≡ length t.entities * size_of fs = c.if-len-whole.false ∙ whole in
    let accepted : c.self.inside.accepted ≡ (w.state).accepted = ap (λ (v : Standing). (v.state).accepted) c.self.view_is in
    let high : 2 ^ 64 - 1 < (w.state).accepted + length t.entities = omega (arith, c.if-self-rows.true, accepted, count) in
    let full : nat_lt (2 ^ 64 - 1) ((w.state).accepted + length t.entities) ≡ true = grind (arith, nat_tests) in
    tells_full w k i n t at held fs typed quiet right full

pub returns-clause-judged : goal.returns-clause-judged
returns-clause-judged g c =
    let w = c.args.self.now in let k = c.args.key in let i = c.args.id in let n = c.args.len in let t = c.in-Some.table.now in
    let same : c.store.result.now ≡ w.tables = c.store.ensures.store ∙ ap (λ (h : Housing). h.tables) c.graph-graph.ensures ∙ ap (λ (v : Standing). v.tables) c.self.view_is in
    let at : table_at w.tables k ≡ Some t = ap (λ s. table_at s k) (sym same) ∙ c.in-Some.ensures.table in
    let listed : c.contains.result ≡ is_held t.ids i = c.contains.ensures.value ∙ ap (λ ids. is_held ids i) c.ids.ensures.value in
    let held : is_held t.ids i ≡ true = sym listed ∙ c.if-not-contains.false in
    let fs = c.in-Some-type_of.schema.now in let typed : type_of_id w.state i ≡ Some fs = sym c.in-Some-type_of.ensures in
    let quiet : may_bring (ids_of w.state) i ≡ false = sym c.may_bring.ensures ∙ c.if-may_bring.false in
    let count : length c.rows-rows.result.now ≡ length t.entities = ap (λ es. length es) c.rows-rows.ensures.value in
    let all : length c.rows-rows.result.now * c.size.result ≡ length t.entities * size_of fs = (λ j. count j * c.size.ensures.value j) in
    let whole : c.in-Some-checked_mul.whole ≡ length t.entities * size_of fs = c.in-Some-checked_mul.ensures.1 ∙ all in
    let right : n ≡ length t.entities * size_of fs = c.if-len-whole.false ∙ whole in
    let accepted : c.self.inside.accepted ≡ (w.state).accepted = ap (λ (v : Standing). (v.state).accepted) c.self.view_is in
    let low : (w.state).accepted + length t.entities ≤ 2 ^ 64 - 1 = omega (arith, c.if-self-rows.false, accepted, count) in
    let room : nat_lt (2 ^ 64 - 1) ((w.state).accepted + length t.entities) ≡ false = grind (arith, nat_tests) in
    tells_none w k i n t at held fs typed quiet right room

pub returns-in_default-clause-refused : goal.returns-in_default-clause-refused
returns-in_default-clause-refused g c = grind arith

pub overflow_sub-self-inside : goal.overflow_sub-self-inside
overflow_sub-self-inside g c = grind arith

pub returns-clause-rows : goal.returns-clause-rows
returns-clause-rows g c = grind arith

pub returns-clause-some : goal.returns-clause-some
returns-clause-some g c = grind arith

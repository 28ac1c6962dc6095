-- Which tables stand on through a call.
use Rattle.std.specs.Prelude.{◌≡◌, Bool, false, List, Some}
use Rattle.std.proofs.Common.{refl}
use Rattle.ecs_id.specs.Id.{Id}
use Rattle.ecs_id.specs.declared.TableKey.{TableKey}
use Rattle.table_store.specs.Store.{Store, ids_at}

-- each table that stood stands on with its ids, whether or not it has rows; of those whose ids pass the test it isn't said
pub record TablesStay (may_go : List Id → Bool) (before after : Store) : Type 0 where
  pub stay : (k : TableKey) (ids : List Id) → ids_at before k ≡ Some ids → may_go ids ≡ false → ids_at after k ≡ Some ids

-- no table goes
abbrev pub none_goes : List Id → Bool
none_goes ids = false

-- the tables stay where nothing happens, and over two calls
pub stay_same : (may_go : List Id → Bool) (s : Store) → TablesStay may_go s s
stay_same may_go s = record { stay = λ k ids there kept. there }

pub stay_then : (may_go : List Id → Bool) (r s t : Store) → TablesStay may_go r s → TablesStay may_go s t → TablesStay may_go r t
stay_then may_go r s t before after = record { stay = λ k ids there kept. after.stay k ids (before.stay k ids there kept) kept }

-- where more tables may go, less is said
pub stay_more : (p q : List Id → Bool) (s n : Store) → ((ids : List Id) → q ids ≡ false → p ids ≡ false) → TablesStay p s n → TablesStay q s n
stay_more p q s n fewer staying = record { stay = λ k ids there kept. staying.stay k ids there (fewer ids kept) }

-- where none goes, none goes but those that may
pub stay_all : {may_go : List Id → Bool} {s n : Store} → TablesStay none_goes s n → TablesStay may_go s n
stay_all stays = record { stay = λ k ids there kept. stays.stay k ids there refl }

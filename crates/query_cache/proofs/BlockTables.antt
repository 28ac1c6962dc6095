-- The tables of some blocks, where one of them changes.
use Rattle.std.specs.Prelude.{filter, not}
use Rattle.std.specs.List.{All}
use Rattle.std.proofs.Common.{◌≡◌, ℕ, ◌+◌, ◌==◌, ◌<◌, ◌≤◌, Bool, true, false, cond, List, [], ◌∷◌, ◌++◌, append-nil, append_assoc, drop, length, set, get_or, take, sym, ap, ◌∙◌, arith, eqb-true, refl}
use Rattle.std.proofs.lemmas.List.{at_drop_all, take_all, take_more, take_more_set, length-set}
use Rattle.std.proofs.lemmas.List.Concat.{flat_map-append}
use Rattle.ecs_id.specs.declared.TableKey.{TableKey}
use Rattle.query_cache.specs.declared.table_block.Block.{Block}
use Rattle.query_cache.specs.TableList.{IsBlock, keys_in, keys_of}
use Rattle.query_cache.proofs.BlockBits.{no_bits}

pub more_in_last : (blocks : List Block) (i : ℕ) (b d : Block) (more : List TableKey) → length blocks ≡ i + 1 → keys_of b ≡ keys_of (get_or blocks i d) ++ more
    → keys_in (set blocks i b) ≡ keys_in blocks ++ more
more_in_last blocks i b d more last is =
    let low : i < length blocks = omega (arith, last) in
    let all : blocks ≡ take i blocks ++ get_or blocks i d ∷ [] = sym (take_all (i + 1) blocks (omega (arith, last))) ∙ take_more blocks i d low in
    let written : set blocks i b ≡ take i blocks ++ b ∷ []
    = sym (take_all (i + 1) (set blocks i b) (omega (arith, length-set blocks i b, last))) ∙ take_more_set blocks i b low in
    ap keys_in written
    ∙ flat_map-append keys_of (take i blocks) (b ∷ [])
    ∙ ap (λ ks. keys_in (take i blocks) ++ ks) (append-nil (keys_of b) ∙ is ∙ ap (λ ks. ks ++ more) (sym (append-nil (keys_of (get_or blocks i d)))))
    ∙ sym (append_assoc (keys_in (take i blocks)) (keys_in (get_or blocks i d ∷ [])) more)
    ∙ ap (λ ks. ks ++ more) (sym (flat_map-append keys_of (take i blocks) (get_or blocks i d ∷ [])) ∙ ap keys_in (sym all))

-- the first blocks have the tables that stay, and the others are as they were
pub record AreRetained (keep : TableKey → Bool) (old new : List Block) (n : ℕ) : Type 0 where
  pub blocks : All IsBlock new
  pub long : length new ≡ length old
  pub keys : keys_in (take n new) ≡ filter keep (keys_in (take n old))
  pub rest : (k : ℕ) (d : Block) → n ≤ k → get_or new k d ≡ get_or old k d

-- blocks of nothing are left out
pub without_empty : (blocks : List Block) → keys_in (filter (λ b. not (b.bits == 0)) blocks) ≡ keys_in blocks
without_empty [] = refl
without_empty (b ∷ blocks) = by (b.bits == 0) refl (without_empty blocks)
  where
    by : (e : Bool) → (b.bits == 0) ≡ e → keys_in (filter (λ b. not (b.bits == 0)) blocks) ≡ keys_in blocks → keys_in (cond (not e) (b ∷ filter (λ b. not (b.bits == 0)) blocks) (filter (λ b. not (b.bits == 0)) blocks)) ≡ keys_of b ++ keys_in blocks
    by true e rest = rest ∙ ap (λ ks. ks ++ keys_in blocks) (sym (no_bits b (eqb-true b.bits 0 e)))
    by false e rest = ap (λ ks. keys_of b ++ ks) rest

-- a slice that is written back whole
pub written_back : (new old : List Block) (n : ℕ) → length new ≡ length old → length old ≡ n → take n (new ++ drop (length new) old) ≡ new
written_back new old n same long =
    at_drop_all (λ d. take n (new ++ d)) old (length new) (omega (arith, same)) ∙ ap (take n) (append-nil new) ∙ take_all n new (omega (arith, same, long))

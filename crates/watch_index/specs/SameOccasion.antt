-- When two occasions are equal.
use Rattle.std.proofs.Common.{◌≡◌, Bool, true, true≢false, refl, sym, ap}
use Rattle.id_pattern.specs.SamePattern.{same_pattern}
use Rattle.watch_index.specs.declared.occasion.Occasion.{Occasion}
use Rattle.watch_index.specs.declared.occasion.Occasion.TheVariants.{Life, AskedByAll, Fact}
use Rattle.watch_index.specs.declared.occasion.Way.TheVariants.{Moves, IsWritten}
use Rattle.watch_index.specs.contracts.occasion.OccasionPartialEq.TheImpl as same_occasions

-- whether two occasions are equal
abbrev pub occasion_eq : Occasion → Occasion → Bool
occasion_eq = same_occasions.ghosts.eq

-- occasions that compare equal are the same
pub same_occasion : (o p : Occasion) → occasion_eq o p ≡ true → o ≡ p
same_occasion Life Life h = refl
same_occasion Life AskedByAll h = absurd (true≢false (sym h))
same_occasion Life (Fact w p) h = absurd (true≢false (sym h))
same_occasion AskedByAll Life h = absurd (true≢false (sym h))
same_occasion AskedByAll AskedByAll h = refl
same_occasion AskedByAll (Fact w p) h = absurd (true≢false (sym h))
same_occasion (Fact w p) Life h = absurd (true≢false (sym h))
same_occasion (Fact w p) AskedByAll h = absurd (true≢false (sym h))
same_occasion (Fact Moves p) (Fact Moves q) h = ap (Fact Moves) (same_pattern p q h)
same_occasion (Fact Moves p) (Fact IsWritten q) h = absurd (true≢false (sym h))
same_occasion (Fact IsWritten p) (Fact Moves q) h = absurd (true≢false (sym h))
same_occasion (Fact IsWritten p) (Fact IsWritten q) h = ap (Fact IsWritten) (same_pattern p q h)

-- What was written by more than one call.
use Rattle.std.proofs.Common.{ℕ, ◌+◌, ◌-◌, List, length, take, drop, Option, sym, subst}
use Rattle.std.proofs.lemmas.List.{take_rest}
use Rattle.std.proofs.Math.Seq.{take-add}
use Rattle.std.proofs.KnownBytes.{Appends-trans}
use Rattle.std.specs.Io.KnownBytes.{Appends}

-- a call that took a prefix of what was left
pub Appends-more : (a b c : Option (List ℕ)) (bytes : List ℕ) (at n : ℕ) → Appends a b (take at bytes) → Appends b c (take n (take (length bytes - at) (drop at bytes))) → Appends a c (take (at + n) bytes)
Appends-more a b c bytes at n first second =
    let P : List ℕ → Type 0 = λ l. Appends a c l in
    let Q : List ℕ → Type 0 = λ l. Appends b c (take n l) in
    subst P (sym (take-add at n bytes)) (Appends-trans a b c (take at bytes) (take n (drop at bytes)) first (subst Q (take_rest bytes at) second))

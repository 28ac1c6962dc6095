-- What is gathered of lists, one after another.
use Rattle.std.specs.Prelude.{◌≡◌, ℕ, Bool, List, [], ◌∷◌, ◌++◌, flat_map, if◌then◌else◌}
use Rattle.std.proofs.Common.{refl, sym, ap, ◌∙◌, append_assoc}
use Rattle.std.proofs.lemmas.List.Concat.{flat_map-append}
use Rattle.ecs_model.specs.World.{Key}
use Rattle.watch_index.specs.declared.occasion.Occasion.{Occasion}
use Rattle.watch_index.specs.declared.occasion.Occasion.TheVariants.{Life}
use Rattle.watch_index.specs.declared.occasion.Way.TheVariants.{IsWritten}
use Rattle.watch_index.specs.Listed.{Listings, listed}
use Rattle.watch_index.specs.Occasions.{facts_of, happening, moved}

-- a `flat_map` of what another gives
pub flat_twice : {X Y Z : Type 0} (f : Y → List Z) (g : X → List Y) (xs : List X) → flat_map f (flat_map g xs) ≡ flat_map (λ x. flat_map f (g x)) xs
flat_twice f g [] = refl
flat_twice f g (x ∷ xs) = flat_map-append f (g x) (flat_map g xs) ∙ ap (λ zs. flat_map f (g x) ++ zs) (flat_twice f g xs)

module _ (ls : Listings) where
  module _ (lives : Bool) (came went written : List Key) where
    abbrev of_lives : List Occasion
    of_lives = if lives then Life ∷ [] else []

    -- what is gathered in turn is all that is listed for what has happened
    pub all_gathered : (a b c d : List ℕ) → a ≡ flat_map (listed ls) of_lives → b ≡ a ++ flat_map (λ k. flat_map (listed ls) (moved k.1)) came
        → c ≡ b ++ flat_map (λ k. flat_map (listed ls) (moved k.1)) went → d ≡ c ++ flat_map (λ k. flat_map (listed ls) (facts_of IsWritten k.1)) written
        → d ≡ flat_map (listed ls) (happening lives came went written)
    all_gathered a b c d ea eb ec ed =
        let f = flat_map (listed ls) in
        let xs = flat_map (λ (k : Key). moved k.1) came in
        let ys = flat_map (λ (k : Key). moved k.1) went in
        let zs = flat_map (λ (k : Key). facts_of IsWritten k.1) written in
        let moves : (ks : List Key) → flat_map (λ k. f (moved k.1)) ks ≡ f (flat_map (λ k. moved k.1) ks) = λ ks. sym (flat_twice (listed ls) (λ (k : Key). moved k.1) ks) in
        let writes : flat_map (λ k. f (facts_of IsWritten k.1)) written ≡ f zs = sym (flat_twice (listed ls) (λ (k : Key). facts_of IsWritten k.1) written) in
        ed ∙ (λ i. ec i ++ writes i)
        ∙ (λ i. (eb i ++ moves went i) ++ f zs)
        ∙ (λ i. ((ea i ++ moves came i) ++ f ys) ++ f zs)
        ∙ append_assoc (f of_lives ++ f xs) (f ys) (f zs)
        ∙ append_assoc (f of_lives) (f xs) (f ys ++ f zs)
        ∙ sym (flat_map-append (listed ls) of_lives (xs ++ (ys ++ zs))
        ∙ ap (λ r. f of_lives ++ r) (flat_map-append (listed ls) xs (ys ++ zs) ∙ ap (λ r. f xs ++ r) (flat_map-append (listed ls) ys zs)))

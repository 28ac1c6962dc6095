-- What two ways to the names of entities give, after a name is bound and after one goes.
use Rattle.std.proofs.Common.{◌≡◌, ◌≢◌, ◌⊎◌, ◌↔◌, ℕ, Bool, true, false, cond, List, Some, None, Option, is_some, inl, inr, ⊎_elim, true≢false, bytes_eq, refl, sym, ap, ◌∙◌}
use Rattle.std.specs.Option.{option_or}
use Rattle.std.specs.Cmp.Lexicographic.{nat_list_cmp_total}
use Rattle.std.specs.FinMap as finite
use Rattle.std.proofs.lemmas.Map.Text.{is_eq-slice_cmp}
use Rattle.std.proofs.lemmas.Option.{none-some, same_Some}
use Rattle.std.proofs.lemmas.Slice.Eq.{bytes_eq-Decides}
use Rattle.ecs_id.specs.declared.EntityId.{EntityId}
use Rattle.name_index.specs.Names.{IsOneToOne, IsUnnamed, Names, Tells, entity_eq}
use Rattle.name_index.proofs.EntityLemmas.{same_entity, entity_eq_true}

-- an answer is the first, or else the second
by_either : {X : Type 0} (a b : Option X) (x : X) → option_or a b ≡ Some x → (a ≡ Some x) ⊎ ((a ≡ None) × (b ≡ Some x))
by_either None b x h = inr (refl, h)
by_either (Some y) b x h = inl h

module _ (names : Names) (first other : EntityId → Option (List ℕ)) (tells : Tells first other names) where
  pub told_once : IsOneToOne names
  told_once p q e h k = same_Some p q (sym (tells.told p e h) ∙ tells.told q e k)

  pub told_names : (q : List ℕ) (e : EntityId) → (option_or (first e) (other e) ≡ Some q) ↔ (finite.get names q ≡ Some e)
  told_names q e = (λ h. ⊎_elim (λ a. tells.placed q e a) (λ b. tells.apart q e b.1) (by_either (first e) (other e) q h), tells.told q e)

-- a free name is bound
module _ (names : Names) (n : List ℕ) (e : EntityId) (first other first' other' : EntityId → Option (List ℕ)) (tells : Tells first other names)
    (free : finite.get names n ≡ None) (un : IsUnnamed names e)
    (back : (q : List ℕ) (f : EntityId) → first' f ≡ Some q → (first f ≡ Some q) ⊎ ((q ≡ n) × (f ≡ e)))
    (forth : (q : List ℕ) (f : EntityId) → first f ≡ Some q → first' f ≡ Some q)
    (back_other : (q : List ℕ) (f : EntityId) → other' f ≡ Some q → (other f ≡ Some q) ⊎ ((q ≡ n) × (f ≡ e)))
    (forth_other : (q : List ℕ) (f : EntityId) → other f ≡ Some q → other' f ≡ Some q)
    (here : is_some (option_or (first' e) (other' e)) ≡ true) where
  got : (q : List ℕ) (b : Bool) → bytes_eq q n ≡ b → finite.get (finite.insert names n e) q ≡ cond b (Some e) (finite.get names q)
  got q b is = finite.get-insert nat_list_cmp_total names n e q ∙ (λ i. cond (is_eq-slice_cmp q n i) (Some e) (finite.get names q)) ∙ ap (λ b. cond b (Some e) (finite.get names q)) is

  still : (q : List ℕ) (f : EntityId) (b : Bool) → bytes_eq q n ≡ b → finite.get names q ≡ Some f → finite.get (finite.insert names n e) q ≡ Some f
  still q f true is h = absurd (none-some f (sym free ∙ ap (finite.get names) (sym ((bytes_eq-Decides q n).0 is)) ∙ h))
  still q f false is h = got q false is ∙ h

  new_there : (q : List ℕ) (f : EntityId) → (q ≡ n) × (f ≡ e) → finite.get (finite.insert names n e) q ≡ Some f
  new_there q f p = got q true ((bytes_eq-Decides q n).1 p.0) ∙ ap Some (sym p.1)

  only : (q : List ℕ) → option_or (first' e) (other' e) ≡ Some q → q ≡ n
  only q h = ⊎_elim
      (λ a. ⊎_elim (λ old. absurd (un q (tells.placed q e old))) (λ p. p.0) (back q e a))
      (λ b. ⊎_elim (λ old. absurd (un q (tells.apart q e old))) (λ p. p.0) (back_other q e b.1))
      (by_either (first' e) (other' e) q h)

  told_new : (o : Option (List ℕ)) → option_or (first' e) (other' e) ≡ o → is_some o ≡ true → option_or (first' e) (other' e) ≡ Some n
  told_new None is h = absurd (true≢false (sym h))
  told_new (Some q) is h = is ∙ ap Some (only q is)

  late : (q : List ℕ) (f : EntityId) → finite.get names q ≡ Some f → first f ≡ None → other f ≡ Some q → (a : Option (List ℕ)) → first' f ≡ a → option_or (first' f) (other' f) ≡ Some q
  late q f h none o None is = ap (λ x. option_or x (other' f)) is ∙ forth_other q f o
  late q f h none o (Some p) is = ⊎_elim (λ old. absurd (none-some p (sym none ∙ old))) (λ new. absurd (un q (h ∙ ap Some new.1))) (back p f is)

  told_old : (q : List ℕ) (f : EntityId) → finite.get names q ≡ Some f → option_or (first' f) (other' f) ≡ Some q
  told_old q f h = ⊎_elim (λ a. ap (λ x. option_or x (other' f)) (forth q f a)) (λ b. late q f h b.0 b.1 (first' f) refl) (by_either (first f) (other f) q (tells.told q f h))

  told_now : (q : List ℕ) (f : EntityId) (b : Bool) → bytes_eq q n ≡ b → finite.get (finite.insert names n e) q ≡ Some f → option_or (first' f) (other' f) ≡ Some q
  told_now q f true is h =
      let same : e ≡ f = same_Some e f (sym (got q true is) ∙ h) in
      ap (λ x. option_or (first' x) (other' x)) (sym same) ∙ told_new (option_or (first' e) (other' e)) refl here ∙ ap Some (sym ((bytes_eq-Decides q n).0 is))
  told_now q f false is h = told_old q f (sym (got q false is) ∙ h)

  pub Tells-insert : Tells first' other' (finite.insert names n e)
  Tells-insert = record {
    placed = λ q f h. ⊎_elim (λ old. still q f (bytes_eq q n) refl (tells.placed q f old)) (new_there q f) (back q f h);
    apart = λ q f h. ⊎_elim (λ old. still q f (bytes_eq q n) refl (tells.apart q f old)) (new_there q f) (back_other q f h);
    told = λ q f h. told_now q f (bytes_eq q n) refl h;
  }

-- a name goes
module _ (names : Names) (n : List ℕ) (e : EntityId) (first other first' other' : EntityId → Option (List ℕ)) (tells : Tells first other names)
    (is_e : finite.get names n ≡ Some e)
    (placed : (q : List ℕ) (f : EntityId) → first' f ≡ Some q → finite.get (finite.remove names n) q ≡ Some f)
    (stay : (q : List ℕ) (f : EntityId) → q ≢ n → first f ≡ Some q → first' f ≡ Some q)
    (others : (f : EntityId) → other' f ≡ cond (entity_eq e f) None (other f)) where
  left : (q : List ℕ) (b : Bool) → bytes_eq q n ≡ b → finite.get (finite.remove names n) q ≡ cond b None (finite.get names q)
  left q b is = finite.get-remove nat_list_cmp_total names n q ∙ (λ i. cond (is_eq-slice_cmp q n i) None (finite.get names q)) ∙ ap (λ b. cond b None (finite.get names q)) is

  was : (q : List ℕ) (f : EntityId) (b : Bool) → bytes_eq q n ≡ b → finite.get (finite.remove names n) q ≡ Some f → (q ≢ n) × (finite.get names q ≡ Some f)
  was q f true is h = absurd (none-some f (sym (left q true is) ∙ h))
  was q f false is h = ((λ same. true≢false (sym ((bytes_eq-Decides q n).1 same) ∙ is)), sym (left q false is) ∙ h)

  other_at : (f : EntityId) (b : Bool) → entity_eq e f ≡ b → other' f ≡ cond b None (other f)
  other_at f b is = others f ∙ ap (λ b. cond b None (other f)) is

  apart_at : (q : List ℕ) (f : EntityId) → entity_eq e f ≡ false → (b : Bool) → bytes_eq q n ≡ b → finite.get names q ≡ Some f → finite.get (finite.remove names n) q ≡ Some f
  apart_at q f differs true is h =
      let same : e ≡ f = same_Some e f (sym is_e ∙ ap (finite.get names) (sym ((bytes_eq-Decides q n).0 is)) ∙ h) in
      absurd (true≢false (sym (entity_eq_true e f same) ∙ differs))
  apart_at q f differs false is h = left q false is ∙ h

  apart_now : (q : List ℕ) (f : EntityId) (b : Bool) → entity_eq e f ≡ b → other' f ≡ Some q → finite.get (finite.remove names n) q ≡ Some f
  apart_now q f true is h = absurd (none-some q (sym (other_at f true is) ∙ h))
  apart_now q f false is h = apart_at q f is (bytes_eq q n) refl (tells.apart q f (sym (other_at f false is) ∙ h))

  differs_from : (q : List ℕ) (f : EntityId) → q ≢ n → finite.get names q ≡ Some f → (b : Bool) → entity_eq e f ≡ b → entity_eq e f ≡ false
  differs_from q f differs h true is = absurd (differs (told_once names first other tells q n f h (is_e ∙ ap Some (same_entity e f is))))
  differs_from q f differs h false is = is

  late_left : (q : List ℕ) (f : EntityId) → finite.get names q ≡ Some f → other' f ≡ Some q → (a : Option (List ℕ)) → first' f ≡ a → option_or (first' f) (other' f) ≡ Some q
  late_left q f h o None is = ap (λ x. option_or x (other' f)) is ∙ o
  late_left q f h o (Some p) is = ap (λ x. option_or x (other' f)) is ∙ ap Some (told_once names first other tells p q f (was p f (bytes_eq p n) refl (placed p f is)).1 h)

  told_left : (q : List ℕ) (f : EntityId) → q ≢ n → finite.get names q ≡ Some f → option_or (first' f) (other' f) ≡ Some q
  told_left q f differs h = ⊎_elim
      (λ a. ap (λ x. option_or x (other' f)) (stay q f differs a))
      (λ b. late_left q f h (other_at f false (differs_from q f differs h (entity_eq e f) refl) ∙ b.1) (first' f) refl)
      (by_either (first f) (other f) q (tells.told q f h))

  pub Tells-remove : Tells first' other' (finite.remove names n)
  Tells-remove = record {
    placed = placed;
    apart = λ q f h. apart_now q f (entity_eq e f) refl h;
    told = λ q f h. told_left q f (was q f (bytes_eq q n) refl h).0 (was q f (bytes_eq q n) refl h).1;
  }

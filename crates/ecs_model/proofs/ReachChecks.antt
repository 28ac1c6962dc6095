-- Checks of reach, lines and deletion, which the prover computes.
use Rattle.std.specs.Prelude.{◌≡◌, ℕ, ◌-◌, Bool, true, false, List, [], ◌∷◌, length, refl}
use Rattle.std.specs.Option.{option_map_or}
use Rattle.std.specs.Ordering.{nat_cmp}
use Rattle.ecs_id.specs.Id.{Id, plain, pair, id_cmp}
use Rattle.ecs_model.specs.BuiltIns.{transitive, reflexive, on_delete, on_delete_target, delete_mode}
use Rattle.ecs_model.specs.Cleanup.{falling}
use Rattle.ecs_model.specs.Depth.{depth_within}
use Rattle.ecs_model.specs.AncestorLine.{ancestor_line_within}
use Rattle.ecs_model.specs.Links.{ancestor_line, depth, reaches}
use Rattle.ecs_model.specs.Map.{Map, keys, value_at}
use Rattle.ecs_model.specs.Sets.{has_chain, within}

-- What each entity holds. IsA (2) has its traits. Of the relationships 60 to 63, the second is Transitive, the third Reflexive,
-- and the pairs of the last one go with their targets; 63 is deleted with its users too.
-- D (67) leads to B (65) and C (66), and they to A (64), along IsA and along 60 to 62. X (68) and Y (69) lead to each other along 60 and 61.
-- E (70) is a child of D along 63, and F (71) of E.
abbrev table : Map ℕ (List Id)
table =
    (2, plain transitive ∷ plain reflexive ∷ [])
    ∷ (61, plain transitive ∷ [])
    ∷ (62, plain reflexive ∷ [])
    ∷ (63, pair on_delete delete_mode ∷ pair on_delete_target delete_mode ∷ [])
    ∷ (65, pair 2 64 ∷ pair 60 64 ∷ pair 61 64 ∷ pair 62 64 ∷ [])
    ∷ (66, pair 2 64 ∷ pair 60 64 ∷ pair 61 64 ∷ pair 62 64 ∷ [])
    ∷ (67, pair 2 65 ∷ pair 2 66 ∷ pair 60 65 ∷ pair 60 66 ∷ pair 61 65 ∷ pair 61 66 ∷ pair 62 65 ∷ pair 62 66 ∷ [])
    ∷ (68, pair 60 69 ∷ pair 61 69 ∷ [])
    ∷ (69, pair 60 68 ∷ pair 61 68 ∷ [])
    ∷ (70, pair 63 67 ∷ [])
    ∷ (71, pair 63 70 ∷ [])
    ∷ []

abbrev ids : ℕ → List Id
ids e = option_map_or (λ is. is) (value_at nat_cmp table e) []

abbrev live : List ℕ
live = 2 ∷ 60 ∷ 61 ∷ 62 ∷ 63 ∷ 64 ∷ 65 ∷ 66 ∷ 67 ∷ 68 ∷ 69 ∷ 70 ∷ 71 ∷ []

abbrev leads : ℕ → ℕ → ℕ → Bool
leads r s t = reaches ids live r s t

a_line_of_a_diamond_has_its_top_twice : ancestor_line ids live 2 67 ≡ 65 ∷ 64 ∷ 66 ∷ 64 ∷ []
unfolding ancestor_line_within
a_line_of_a_diamond_has_its_top_twice = refl

the_line_of_the_top_is_empty : ancestor_line ids live 2 64 ≡ []
unfolding ancestor_line_within
the_line_of_the_top_is_empty = refl

a_diamond_leads_to_its_top : leads 2 67 64 ≡ true
unfolding id_cmp reaches has_chain within
a_diamond_leads_to_its_top = refl

its_top_does_not_lead_back : leads 2 64 67 ≡ false
unfolding id_cmp reaches has_chain within
its_top_does_not_lead_back = refl

what_is_reflexive_leads_to_itself : leads 2 64 64 ≡ true
unfolding id_cmp reaches has_chain within
what_is_reflexive_leads_to_itself = refl

no_trait_one_step : leads 60 67 65 ≡ true
unfolding id_cmp reaches has_chain within
no_trait_one_step = refl

no_trait_no_chain : leads 60 67 64 ≡ false
unfolding id_cmp reaches has_chain within
no_trait_no_chain = refl

transitive_alone_has_chains : leads 61 67 64 ≡ true
unfolding id_cmp reaches has_chain within
transitive_alone_has_chains = refl

transitive_alone_is_not_reflexive : leads 61 67 67 ≡ false
unfolding id_cmp reaches has_chain within
transitive_alone_is_not_reflexive = refl

reflexive_alone_leads_to_itself : leads 62 67 67 ≡ true
unfolding id_cmp reaches has_chain within
reflexive_alone_leads_to_itself = refl

reflexive_alone_has_no_chain : leads 62 67 64 ≡ false
unfolding id_cmp reaches has_chain within
reflexive_alone_has_no_chain = refl

a_cycle_leads_to_itself : leads 61 68 68 ≡ true
unfolding id_cmp reaches has_chain within
a_cycle_leads_to_itself = refl

a_cycle_of_two_steps_is_no_step : leads 60 68 68 ≡ false
unfolding id_cmp reaches has_chain within
a_cycle_of_two_steps_is_no_step = refl

children_fall_with_their_parent : falling ids live 67 ≡ 70 ∷ []
unfolding id_cmp
children_fall_with_their_parent = refl

users_fall_with_their_relationship : falling ids live 63 ≡ 70 ∷ 71 ∷ []
unfolding id_cmp
users_fall_with_their_relationship = refl

targets_of_other_relationships_take_nothing_with_them : falling ids live 64 ≡ []
unfolding id_cmp
targets_of_other_relationships_take_nothing_with_them = refl

grandchildren_fall_too : keys (within nat_cmp (falling ids live) (length live - 1) 67) ≡ 67 ∷ 70 ∷ 71 ∷ []
unfolding id_cmp within
grandchildren_fall_too = refl

the_top_of_a_diamond_has_depth_0 : depth ids live 2 64 ≡ 0
unfolding depth_within
the_top_of_a_diamond_has_depth_0 = refl

a_diamond_has_depth_2 : depth ids live 2 67 ≡ 2
unfolding depth_within
a_diamond_has_depth_2 = refl

depths_go_along_one_relationship : depth ids live 63 71 ≡ 2
unfolding depth_within
depths_go_along_one_relationship = refl

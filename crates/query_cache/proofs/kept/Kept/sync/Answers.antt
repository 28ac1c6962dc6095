use Rattle.std.proofs.Common.{refl, sym, ap, subst, ◌∙◌}
use Rattle.query_cache.specs.Kept.{Fits, IsSynced, Kept}
use Rattle.query_cache.proofs.ItemPatterns.{are_listed}
use Rattle.query_cache.proofs.SyncedKeys.{Leaves, fits_still, leaves, unjudged}
use Rattle.query_cache.proofs.kept.Kept.sync.Given.{Over}
use Rattle.query_cache.proofs.kept.Kept.sync.Goals as goal

pub returns-in_err-last-clause-again : goal.returns-in_err-last-clause-again
returns-in_err-last-clause-again g c = λ synced.
    unjudged c.args.tables.now c.args.tables.now refl c.self.inside.last _ _ _ c.in_err-last.ensures.judges
    (subst (λ v. IsSynced v c.args.tables.now) (sym c.self.view_is) synced) ∙ ap (λ v. v.judged) c.self.view_is

pub returns-in_err-last-clause-fits : goal.returns-in_err-last-clause-fits
returns-in_err-last-clause-fits g c =
    fits_still c.args.tables.now _ _ (subst (λ v. Fits v c.args.tables.now) (sym c.self.view_is) c.requires) refl c.in_err-last.ensures.err refl

pub returns-clause-again : goal.returns-clause-again
returns-clause-again g c = λ synced.
    unjudged c.args.tables.now c.args.tables.now refl c.self.inside.last _ _ _ c.in_ok-last.ensures.judges
    (subst (λ v. IsSynced v c.args.tables.now) (sym c.self.view_is) synced) ∙ ap (λ v. v.judged) c.self.view_is

pub take_in-requires : goal.take_in-requires
take_in-requires g c = (subst (λ v. Fits v c.args.tables.now) (sym c.self.view_is) c.requires).given

-- what the call leaves
left : (g : Over) (c : goal.After-self-1 g)
    → Leaves c.args.tables.now (record { patterns = c.self.inside.patterns.items; keys = c.self.inside.keys.items; last = c.self.inside.last; judged = c.self.inside.judged }) c.drop_released.new.keys.items c.in_ok-last.last
left g c =
    let before : Kept = record { patterns = c.self.inside.patterns.items; keys = c.self.inside.keys.items; last = c.self.inside.last; judged = c.self.inside.judged } in
    leaves c.args.tables.now c.args.tables.now refl before (subst (λ v. Fits v c.args.tables.now) (sym c.self.view_is) c.requires)
    c.as_slice.result.now c.as_slice.ensures.value c.in_ok-last.last _ _ c.take_in.new.keys.items c.drop_released.new.keys.items c.in_ok-last.ensures c.drop_released.ensures

pub returns-clause-exact : goal.returns-clause-exact
returns-clause-exact g c = (left g c).exact

pub returns-clause-listed : goal.returns-clause-listed
returns-clause-listed g c = λ q of_query.
    are_listed q c.args.tables.now c.self.inside.patterns.items c.drop_released.new.keys.items (ap (λ v. v.patterns) c.self.view_is ∙ of_query) (left g c).exact

pub returns-clause-once : goal.returns-clause-once
returns-clause-once g c = (left g c).once

pub returns-clause-fits : goal.returns-clause-fits
returns-clause-fits g c = (left g c).fits _ refl refl refl

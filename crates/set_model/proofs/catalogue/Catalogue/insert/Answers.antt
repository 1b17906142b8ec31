use Rattle.std.proofs.Common.{arith}
use Rattle.set_model.proofs.MapLaws.{inserted_is_catalogue, inserted_put, inserted_added, inserted_unchanged}
use Rattle.set_model.proofs.catalogue.Catalogue.insert.Goals as goal

pub index_mut-requires : goal.index_mut-requires
index_mut-requires c = omega (arith, c.requires, c.self.invariant.whole, c.self.inside.maps.ok.0)

pub invariant_of-self : goal.invariant_of-self
invariant_of-self c =
    inserted_is_catalogue _ _ c.self.invariant c.requires _ c.index_mut.ensures.value _ _ _ c.insert.result c.ranges.key.fits c.ranges.value.fits
    c.insert.ensures.put c.insert.ensures.unchanged

pub returns-clause-put : goal.returns-clause-put
returns-clause-put c =
    inserted_put _ _ c.self.invariant c.requires _ c.index_mut.ensures.value _ _ _ _ c.insert.result c.self.view_is c.insert.ensures.put

pub returns-clause-added : goal.returns-clause-added
returns-clause-added c =
    inserted_added _ _ c.self.invariant c.requires _ c.index_mut.ensures.value _ _ c.insert.result c.self.view_is c.insert.ensures.added

pub returns-clause-unchanged : goal.returns-clause-unchanged
returns-clause-unchanged c =
    inserted_unchanged _ _ c.self.invariant c.requires _ c.index_mut.ensures.value c.args.key _ _ c.insert.result c.self.view_is
    c.insert.ensures.unchanged

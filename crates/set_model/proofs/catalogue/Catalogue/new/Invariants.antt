use Rattle.std.proofs.Common.{◌≡◌, [], replicate}
use Rattle.std.proofs.Common.{vec_capacity}
use Rattle.set_model.proofs.catalogue.Catalogue.new.Given as goal

abbrev pub invariant-loop : goal.invariant-loop
invariant-loop l = (l.maps.items ≡ replicate l.counter []) × (vec_capacity l.maps ≡ 30)

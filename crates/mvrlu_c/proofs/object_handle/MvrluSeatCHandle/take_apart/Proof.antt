-- A handle of a seat is taken apart. Assumes `Logic`.
use Rattle.mvrlu_c.proofs.Terms.{emp, fact_i, refl}
use Rattle.mvrlu_c.proofs.HandleWalks.{taken_apart}
use Rattle.mvrlu_c.specs.Held.{object_row}
use Rattle.mvrlu_c.specs.contracts.object_handle.MvrluSeat.{struct, the_row}
use Rattle.mvrlu_c.specs.contracts.object_handle.MvrluSeatCHandle.take_apart.{clauses}
use Rattle.mvrlu_c.specs.contracts.object_handle.MvrluSeatCHandle.take_apart.Key.{name}
use Rattle.mvrlu_c.proofs.object_handle.MvrluSeatCHandle.take_apart.Statement.{statement}
use Rattle.mvrlu_c.proofs.object_handle.MvrluSeatCHandle.take_apart.Code.{unfolded}

pub take_apart_spec : {M : Type 1} → statement M
take_apart_spec 𝓤 𝓛 𝓜 𝓡 wired =
    taken_apart the_row object_row struct.name (λ h. h.is_open) (λ h. h.at) (λ h. h.state) 𝓛 𝓜 𝓡 name (clauses 𝓛 𝓜.mem 𝓡.returns)
    (λ κs a g e. fact_i 𝓤 _ (emp 𝓤) (refl, refl, refl, refl)) (unfolded 𝓤 𝓛.H 𝓜 𝓡 wired)

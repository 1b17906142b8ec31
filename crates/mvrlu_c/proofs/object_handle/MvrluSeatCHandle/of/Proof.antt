-- A handle of a seat is made. Assumes `Logic`.
use Rattle.mvrlu_c.proofs.Terms.{emp, fact_i, id⊢, refl}
use Rattle.mvrlu_c.proofs.HandleWalks.{made}
use Rattle.mvrlu_c.specs.Held.{object_row}
use Rattle.mvrlu_c.specs.contracts.object_handle.MvrluSeat.{struct, the_row}
use Rattle.mvrlu_c.specs.contracts.object_handle.MvrluSeatCHandle.of.{clauses}
use Rattle.mvrlu_c.specs.contracts.object_handle.MvrluSeatCHandle.of.Key.{name}
use Rattle.mvrlu_c.proofs.object_handle.MvrluSeatCHandle.of.Statement.{statement}
use Rattle.mvrlu_c.proofs.object_handle.MvrluSeatCHandle.of.Code.{unfolded}

pub of_spec : {M : Type 1} → statement M
of_spec 𝓤 𝓛 𝓜 𝓡 wired =
    made the_row object_row struct.name (λ h. h.is_open) (λ h. h.at) (λ h. h.state) 𝓛 𝓜 𝓡 name (λ t p x. record { is_open = t; at = p; state = x })
    (λ t p x vs. refl) (clauses 𝓛 𝓜.mem 𝓡.returns) (λ κs a g. id⊢ 𝓤 _) (λ κs a g e. fact_i 𝓤 _ (emp 𝓤) (refl, refl, refl))
    (unfolded 𝓤 𝓛.H 𝓜 𝓡 wired)

-- Where the stamp of the own commit stands, and what is stored there, by the commit's clock word.
use Rattle.std.proofs.Common.{◌≡◌, ℕ, ◌<◌, ◌≤◌, arith}
use Rattle.mv_core.proofs.Terms.{Checked, Config, Stamp, Knowledge, clock_time_of, index_of}
use Rattle.mv_layout.proofs.Unpacking.{time_back, seat_back, slot_back}
use Rattle.mv_core.specs.EnterSteps.{stamp_place, own_word}
use Rattle.mv_core.proofs.frames.ClocksLoaded.{slot_in}

module _ (c : Config) (v : Knowledge) (first time : ℕ) (checked : Checked c) (range : v.number < c.seats) where
  few_seats : v.number < 64
  few_seats = let seats = checked.seats.1 in omega arith

  few_slots : index_of c first ≤ 8191
  few_slots = let low = slot_in c checked first in let few = checked.slots.1 in omega arith

  pub own_place : stamp_place (own_word c v first time) ≡ Stamp v.number (index_of c first)
  own_place =
      λ i. Stamp (seat_back time v.number (index_of c first) few_seats few_slots i) (slot_back time v.number (index_of c first) few_seats few_slots i)

  pub own_time : clock_time_of (own_word c v first time) ≡ time
  own_time = time_back time v.number (index_of c first) few_seats few_slots

-- The table of which other seat's version each write-back of a round found in HEAD.
use Rattle.std.proofs.Common.{◌≡◌, ◌≢◌, ℕ, ◌+◌, ◌-◌, ◌<◌, refl, sym, ap, ◌∙◌, arith, get_or, Option, Some, None}
use Rattle.std.proofs.lemmas.List.{length-set, get_or-set_same, get_or-set_other}
use Rattle.seat_log.specs.Notes.{Noted}
use Rattle.log_reclaim.specs.declared.settling.HeadHolders.{HeadHolders}
use Rattle.log_reclaim.specs.Sweeps.{seat_of_byte, byte_of_seat, found_at, found_set, IsTableOf}

-- a seat is told by its byte
seat_back : (above : Option ℕ) → seat_of_byte (byte_of_seat above) ≡ above
seat_back None = refl
seat_back (Some seat) = refl

module _ (l : Noted) (found : HeadHolders) (index : ℕ) (above : Option ℕ) (table : IsTableOf l found) where
  -- the entry of a place
  read_is : (f : HeadHolders) (i : ℕ) → f.base ≡ l.freed → found_at f (l.freed + i) ≡ seat_of_byte (get_or f.seats i 0)
  read_is f i base = ap (λ j. seat_of_byte (get_or f.seats j 0)) (let e : l.freed + i - f.base ≡ i = omega arith in e)

  pub table_set : IsTableOf l (found_set found index above)
  table_set = (table.0, length-set found.seats index (byte_of_seat above) ∙ table.1)

  pub found_here : index < 4096 → found_at (found_set found index above) (l.freed + index) ≡ above
  found_here fits =
      let long = table.1 in
      read_is (found_set found index above) index table.0
      ∙ ap seat_of_byte (get_or-set_same found.seats index (byte_of_seat above) 0 (omega arith)) ∙ seat_back above

  pub found_else : (i : ℕ) → i ≢ index → found_at (found_set found index above) (l.freed + i) ≡ found_at found (l.freed + i)
  found_else i ne =
      read_is (found_set found index above) i table.0 ∙ ap seat_of_byte (get_or-set_other found.seats index i (byte_of_seat above) 0 ne)
      ∙ sym (read_is found i table.0)

-- What a generated command replies and changes rests on the values of its own key alone, and it changes no other key.
use Rattle.std.proofs.Common.{◌≡◌, ◌≢◌, ℕ, ◌≤◌, ◌⊎◌, inl, inr, Bool, true, false, not, ◌&&◌, cond, eqb, eq-eqb, ne_eqb, refl, sym, ap}
use Rattle.std.proofs.Common.{◌∙◌, arith, Option, Some, None, is_some, unwrap_or}
use Rattle.std.proofs.lemmas.Bool.{cases_eq, cond_both}
use Rattle.set_model.specs.Catalogue.{Maps, map_of, without_key}
use Rattle.set_model.specs.Replies.{changed, applies, overflows, reply, changes, next, value_at}
use Rattle.set_model.specs.declared.commands.Command.{Command}
use Rattle.set_model.specs.declared.commands.Command.TheVariants.{Add, Put, Del, Has, Get, Move, Pair, Size, Next}
use Rattle.set_model.specs.declared.commands.Reply.{Reply}
use Rattle.set_model.specs.declared.commands.Reply.TheVariants.{Yes, No}
use Rattle.script_gen.specs.Script.{IsGenerated}
use Rattle.generated_runs.proofs.columns.Columns.{Column, column, has_key-is, with_value, column-with_key, column-without_key}
use Rattle.generated_runs.proofs.small.Keeping.{IsSmall, changed_small, without_key_small, never_full}

-- the key of a generated command
abbrev pub key_of : Command → ℕ
key_of (Add name key) = key
key_of (Del name key) = key
key_of (Has name key) = key
key_of (Move source target key) = key
key_of command = 0

-- whether there is something to change, by the values of the command's key
abbrev pub acts : Command → Column → Bool
acts (Add name key) f = not (is_some (f name))
acts (Del name key) f = is_some (f name)
acts (Move source target key) f = is_some (f source) && not (is_some (f target))
acts command f = false

-- those values after the change
abbrev pub acted : Command → Column → Column
acted (Add name key) f = with_value name (Some 0) f
acted (Del name key) f = with_value name None f
acted (Move source target key) f = with_value target (Some (unwrap_or (f source) 0)) (with_value source None f)
acted command f = f

-- the reply, by those values
abbrev pub answered : Command → Column → Reply
answered (Has name key) f = cond (is_some (f name)) Yes No
answered command f = cond (acts command f) Yes No

-- those values after the command
abbrev pub moved : Command → Column → Column
moved command f n = cond (acts command f) (acted command f n) (f n)

applies-is : (seat : ℕ) (command : Command) (c : Maps) → IsGenerated seat command → applies command c ≡ acts command (column (key_of command) c)
applies-is seat (Add name key) c own = ap not (has_key-is key (map_of name c))
applies-is seat (Del name key) c own = has_key-is key (map_of name c)
applies-is seat (Has name key) c own = refl
applies-is seat (Move source target key) c own = λ i. has_key-is key (map_of source c) i && not (has_key-is key (map_of target c) i)
applies-is seat (Put name key value) c own = absurd own
applies-is seat (Get name key) c own = absurd own
applies-is seat (Pair first second key) c own = absurd own
applies-is seat (Size name) c own = absurd own
applies-is seat (Next name key) c own = absurd own

-- a value by the key of its column
by_key : (j k n : ℕ) (c : Maps) → column j c n ≡ cond (eqb k j) (column k c n) (column j c n)
by_key j k n c = go (cases_eq k j)
  where
    go : (k ≡ j) ⊎ (k ≢ j) → column j c n ≡ cond (eqb k j) (column k c n) (column j c n)
    go (inl q) = rw (eq-eqb k j q) (ap (λ i. column i c n) (sym q))
    go (inr q) = rw (ne_eqb k j q) refl

-- a second change of one key
twice : (b : Bool) (name n : ℕ) (value : Option ℕ) (f : Column) (v : Option ℕ) (g : Column) → ((i : ℕ) → g i ≡ f i)
    → cond b (with_value name value g n) (cond b (f n) v) ≡ cond b (with_value name value f n) v
twice true name n value f v g same = ap (cond (eqb name n) value) (same n)
twice false name n value f v g same = refl

changed-column : (seat : ℕ) (command : Command) (c : Maps) → IsGenerated seat command → IsSmall c → (j n : ℕ)
    → column j (changed command c) n ≡ cond (eqb (key_of command) j) (acted command (column (key_of command) c) n) (column j c n)
changed-column seat (Add name key) c own small j n = column-with_key j key name n c 0 (omega (arith, own.0, small.whole))
changed-column seat (Del name key) c own small j n = column-without_key j key name n c (omega (arith, own.0, small.whole)) (small.rising name)
changed-column seat (Has name key) c own small j n = by_key j key n c
changed-column seat (Move source target key) c own small j n =
    let middle = without_key_small source key c small own.0.0 in
    let gone = λ (i m : ℕ). column-without_key i key source m c (omega (arith, own.0.0, small.whole)) (small.rising source) in
    let taken = Some (value_at source key c) in
    let same : (m : ℕ) → column key (without_key source key c) m ≡ with_value source None (column key c) m =
    λ m. gone key m ∙ rw (eq-eqb key key refl) refl in
    column-with_key j key target n (without_key source key c) (value_at source key c) (omega (arith, own.1, middle.whole))
    ∙ ap (λ v. cond (eqb key j) (with_value target taken (column key (without_key source key c)) n) v) (gone j n)
    ∙ twice (eqb key j) target n taken (with_value source None (column key c)) (column j c n) (column key (without_key source key c)) same
changed-column seat (Put name key value) c own small j n = absurd own
changed-column seat (Get name key) c own small j n = absurd own
changed-column seat (Pair first second key) c own small j n = absurd own
changed-column seat (Size name) c own small j n = absurd own
changed-column seat (Next name key) c own small j n = absurd own

answers : (seat : ℕ) (command : Command) (c : Maps) (capacity : ℕ) → IsGenerated seat command → overflows command c capacity ≡ false
    → reply command c capacity false ≡ answered command (column (key_of command) c)
answers seat (Add name key) c capacity own fits = rw (fits, applies-is seat (Add name key) c own) refl
answers seat (Del name key) c capacity own fits = rw (applies-is seat (Del name key) c own) refl
answers seat (Has name key) c capacity own fits = ap (λ (b : Bool). cond b Yes No) (has_key-is key (map_of name c))
answers seat (Move source target key) c capacity own fits = rw (fits, applies-is seat (Move source target key) c own) refl
answers seat (Put name key value) c capacity own fits = absurd own
answers seat (Get name key) c capacity own fits = absurd own
answers seat (Pair first second key) c capacity own fits = absurd own
answers seat (Size name) c capacity own fits = absurd own
answers seat (Next name key) c capacity own fits = absurd own

-- a generated command where there is room
module _ (seat : ℕ) (command : Command) (c : Maps) (capacity : ℕ) (generated : IsGenerated seat command) (small : IsSmall c) (room : 10230 ≤ capacity) where
  pub changes-is : changes command c capacity false ≡ acts command (column (key_of command) c)
  changes-is =
      rw (never_full seat command c capacity generated small room, applies-is seat command c generated)
      (both (acts command (column (key_of command) c)))
    where
      both : (b : Bool) → b && true && true ≡ b
      both true = refl
      both false = refl

  pub reply-is : reply command c capacity false ≡ answered command (column (key_of command) c)
  reply-is = answers seat command c capacity generated (never_full seat command c capacity generated small room)

  pub next_small : IsSmall (next command c capacity false)
  next_small = cond_both (changes command c capacity false) (changed command c) c IsSmall (λ yes. changed_small seat command c generated small) (λ no. small)

  pub next-column : (j n : ℕ) → column j (next command c capacity false) n
      ≡ cond (eqb (key_of command) j) (moved command (column (key_of command) c) n) (column j c n)
  next-column j n =
      ap (λ (b : Bool). column j (cond b (changed command c) c) n) changes-is ∙ go (acts command (column (key_of command) c))
    where
      go : (b : Bool) → column j (cond b (changed command c) c) n
          ≡ cond (eqb (key_of command) j) (cond b (acted command (column (key_of command) c) n) (column (key_of command) c n)) (column j c n)
      go true = changed-column seat command c generated small j n
      go false = by_key j (key_of command) n c

-- Two generated commands of different keys may be replayed in either order.
use Rattle.std.proofs.Common.{◌≡◌, ◌≢◌, ℕ, ◌≤◌, ◌⊎◌, inl, inr, false, cond, eqb, eq-eqb, ne_eqb, refl, sym, ap, ◌∙◌, arith}
use Rattle.std.proofs.lemmas.Bool.{cases_eq}
use Rattle.set_model.specs.Catalogue.{Maps}
use Rattle.set_model.specs.Replies.{reply, changes, next}
use Rattle.set_model.specs.declared.commands.Command.{Command}
use Rattle.run_report.specs.Summary.{says_yes, says_no}
use Rattle.script_gen.specs.Script.{IsGenerated}
use Rattle.generated_runs.specs.OneAfterAnother.{Tally, one_if, counted}
use Rattle.generated_runs.proofs.columns.Columns.{column, same_columns}
use Rattle.generated_runs.proofs.small.Keeping.{IsSmall}
use Rattle.generated_runs.proofs.small.Steps.{key_of, acts, answered, moved, changes-is, reply-is, next_small, next-column}

-- which of two tests comes first doesn't matter where one of them fails
either_first : {A : Type 0} (a b j : ℕ) (x y z : A) → a ≢ b → cond (eqb a j) x (cond (eqb b j) y z) ≡ cond (eqb b j) y (cond (eqb a j) x z)
either_first a b j x y z differ = go (cases_eq a j) (cases_eq b j)
  where
    go : (a ≡ j) ⊎ (a ≢ j) → (b ≡ j) ⊎ (b ≢ j) → cond (eqb a j) x (cond (eqb b j) y z) ≡ cond (eqb b j) y (cond (eqb a j) x z)
    go (inl p) (inl q) = absurd (differ (p ∙ sym q))
    go (inl p) (inr q) = rw (eq-eqb a j p, ne_eqb b j q) refl
    go (inr p) (inl q) = rw (ne_eqb a j p, eq-eqb b j q) refl
    go (inr p) (inr q) = rw (ne_eqb a j p, ne_eqb b j q) refl

module _ (capacity : ℕ) (room : 10230 ≤ capacity) where
  -- a command of another key keeps the values of a key
  kept : (seat : ℕ) (command : Command) (c : Maps) → IsGenerated seat command → IsSmall c → (j : ℕ) → key_of command ≢ j
      → column j (next command c capacity false) ≡ column j c
  kept seat command c generated small j other = λ i n. (next-column seat command c capacity generated small room j n
      ∙ ap (λ b. cond b (moved command (column (key_of command) c) n) (column j c n)) (ne_eqb (key_of command) j other)) i

  module _ (s u : ℕ) (a b : Command) (c : Maps) (of_a : IsGenerated s a) (of_b : IsGenerated u b) (small : IsSmall c) (differ : key_of a ≢ key_of b) where
    after_b : IsSmall (next b c capacity false)
    after_b = next_small u b c capacity of_b small room

    -- so a command replies and changes the same behind one of another key
    reply_kept : reply a (next b c capacity false) capacity false ≡ reply a c capacity false
    reply_kept =
        reply-is s a (next b c capacity false) capacity of_a after_b room
        ∙ ap (answered a) (kept u b c of_b small (key_of a) (λ q. differ (sym q)))
        ∙ sym (reply-is s a c capacity of_a small room)

    changes_kept : changes a (next b c capacity false) capacity false ≡ changes a c capacity false
    changes_kept =
        changes-is s a (next b c capacity false) capacity of_a after_b room
        ∙ ap (acts a) (kept u b c of_b small (key_of a) (λ q. differ (sym q)))
        ∙ sym (changes-is s a c capacity of_a small room)

    -- the values after the second, by those before the first
    after_both : (j n : ℕ) → column j (next a (next b c capacity false) capacity false) n
        ≡ cond (eqb (key_of a) j) (moved a (column (key_of a) c) n) (cond (eqb (key_of b) j) (moved b (column (key_of b) c) n) (column j c n))
    after_both j n =
        next-column s a (next b c capacity false) capacity of_a after_b room j n
        ∙ (λ i. cond (eqb (key_of a) j) (moved a (kept u b c of_b small (key_of a) (λ q. differ (sym q)) i) n)
        (next-column u b c capacity of_b small room j n i))

  -- the maps after both are the same
  next_commutes : (s u : ℕ) (a b : Command) (c : Maps) → IsGenerated s a → IsGenerated u b → IsSmall c → key_of a ≢ key_of b
      → next a (next b c capacity false) capacity false ≡ next b (next a c capacity false) capacity false
  next_commutes s u a b c of_a of_b small differ =
      let one = next_small s a _ capacity of_a (next_small u b c capacity of_b small room) room in
      let two = next_small u b _ capacity of_b (next_small s a c capacity of_a small room) room in
      same_columns _ _ (one.whole ∙ sym two.whole) one.rising two.rising
      (λ j n. after_both s u a b c of_a of_b small differ j n
      ∙ either_first (key_of a) (key_of b) j _ _ _ differ
      ∙ sym (after_both u s b a c of_b of_a small (λ q. differ (sym q)) j n))

  -- and so is what is counted
  pub counted_commutes : (s u : ℕ) (a b : Command) (t : Tally) → IsGenerated s a → IsGenerated u b → IsSmall t.maps → key_of a ≢ key_of b
      → counted capacity a (counted capacity b t) ≡ counted capacity b (counted capacity a t)
  counted_commutes s u a b t of_a of_b small differ =
      let other : key_of b ≢ key_of a = λ q. differ (sym q) in
      let replies = reply_kept s u a b t.maps of_a of_b small differ in
      let replies_too = reply_kept u s b a t.maps of_b of_a small other in
      let changes = changes_kept s u a b t.maps of_a of_b small differ in
      let changes_too = changes_kept u s b a t.maps of_b of_a small other in
      let yes = ap (λ r. one_if (says_yes r)) replies in
      let yes_too = ap (λ r. one_if (says_yes r)) replies_too in
      let no = ap (λ r. one_if (says_no r)) replies in
      let no_too = ap (λ r. one_if (says_no r)) replies_too in
      let made = ap one_if changes in
      let made_too = ap one_if changes_too in
      let all_yes : (counted capacity a (counted capacity b t)).yes ≡ (counted capacity b (counted capacity a t)).yes = omega (arith, yes, yes_too) in
      let all_no : (counted capacity a (counted capacity b t)).no ≡ (counted capacity b (counted capacity a t)).no = omega (arith, no, no_too) in
      let all_made : (counted capacity a (counted capacity b t)).commits ≡ (counted capacity b (counted capacity a t)).commits =
      omega (arith, made, made_too) in
      λ i. record { maps = next_commutes s u a b t.maps of_a of_b small differ i; yes = all_yes i; no = all_no i; commits = all_made i }

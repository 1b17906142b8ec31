use Rattle.std.proofs.lemmas.Bool.{eq-eqb, ne_eqb}
use Rattle.std.proofs.Common.{◌≡◌, ◌≢◌, ◌+◌}
use Rattle.grow_hash.proofs.Terms.{ℕ, suc, Bool, cond, ap, sym, ◌∙◌, arith, buckets_at, table_words, next_table}
use Rattle.grow_hash.proofs.table.next_table.Goals as goal

-- after the last bucket of a level the next level begins
at_last : (level place : ℕ) → place + 1 ≡ buckets_at level → table_words (level + 1) 0 ≡ next_table level place
at_last level place e =
    let next : level + 1 ≡ suc level = omega arith in
    ap (λ (n : ℕ). table_words n 0) next
    ∙ sym (ap (λ (b : Bool). cond b (table_words (suc level) 0) (table_words level (suc place))) (eq-eqb (suc place) (buckets_at level) (omega (arith, e))))

-- and after another one comes the next of the level
within : (level place : ℕ) → place + 1 ≢ buckets_at level → table_words level (place + 1) ≡ next_table level place
within level place ne =
    let next : place + 1 ≡ suc place = omega arith in
    ap (table_words level) next
    ∙ sym (ap (λ (b : Bool). cond b (table_words (suc level) 0) (table_words level (suc place)))
    (ne_eqb (suc place) (buckets_at level) (λ e. ne (omega (arith, e)))))

pub returns-then-place-buckets_at : goal.returns-then-place-buckets_at
returns-then-place-buckets_at c =
    at_last c.args.level c.args.place (omega (arith, c.buckets_at.ensures, c.if-place-buckets_at.true))

pub returns-else-place-buckets_at : goal.returns-else-place-buckets_at
returns-else-place-buckets_at c =
    within c.args.level c.args.place (λ e. c.if-place-buckets_at.false (omega (arith, c.buckets_at.ensures, e)))

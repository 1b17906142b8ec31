-- The states with which a growing hash set begins are lawful.
use Rattle.grow_hash.proofs.Terms.{ℕ, suc, inl, inr, [], length, sym, ap, ◌∙◌, subst, arith, cases_lt, get_or_past, State, words_at, owner, link, no_words}
use Rattle.grow_hash.proofs.Terms.{word, IsNodeOf, IsLinked, level, table_words, IsGrown, IsGrownOpening, head_at, ◌≡◌, ◌*◌, ◌^◌, ◌<◌}
use Rattle.grow_hash.proofs.GrownStates.{head_is}

opening_owner : (levels : ℕ) (s : State) → IsGrownOpening levels s → (o : ℕ) → owner s o ≡ 0
opening_owner levels s z o = elim (cases_lt o (length s)) [
  | inl lt ↦ ap (word 0) (z.zeros o lt)
  | inr ge ↦ ap (word 0) (get_or_past s o [] ge)
]

no_node : (levels : ℕ) (s : State) → IsGrownOpening levels s → (head o : ℕ) → IsNodeOf s head o → ⊥
no_node levels s z head o i = let x = opening_owner levels s z o in let y : owner s o ≡ suc head = i.1 in omega arith

empty_list : (levels : ℕ) (s : State) → IsGrownOpening levels s → (head : ℕ) → head < length s → IsLinked s head
empty_list levels s z head lt = record {
  here = lt;
  unowned = opening_owner levels s z head;
  kinds = λ n i. absurd (no_node levels s z head n i);
  fits = λ n i. absurd (no_node levels s z head n i);
  leads = λ o i nz. elim i [
    | inl e ↦ absurd (nz (ap (link s) e ∙ ap (word 3) (z.zeros head lt)))
    | inr j ↦ absurd (no_node levels s z head o j)
  ];
  least = λ o n i j a. absurd (no_node levels s z head n j);
  once = λ n m i j e. absurd (no_node levels s z head n i);
}

pub grown_opening : (levels : ℕ) (s : State) → IsGrownOpening levels s → IsGrown levels s
grown_opening levels s z =
    let some = z.some in
    let zero : words_at s 0 ≡ no_words = z.zeros 0 (omega arith) in
    record {
      least = z.least;
      most = z.most;
      some = z.some;
      few = z.few;
      table = record {
        words = zero ∙ sym (ap (λ w. table_words (word 2 w) (word 3 w)) zero);
        level_in = (let x : level s ≡ 0 = ap (word 2) zero in omega arith);
        place_in = subst (λ w. word 3 w < 16 * 2 ^ word 2 w) (sym zero) (omega arith);
        whole = λ _. ap (word 3) zero;
      };
      heads = λ b lt. head_is (words_at s (head_at b)) 0 (z.zeros (head_at b) (omega arith));
      lists = λ b lt. empty_list levels s z (head_at b) (omega arith);
      nodes = λ o lo n. absurd (n (opening_owner levels s z o));
    }

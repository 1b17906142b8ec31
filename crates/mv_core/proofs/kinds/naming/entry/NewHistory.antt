-- One more entry of a seat, which has seen it: what is said of the history.
use Rattle.std.proofs.Common.{◌≡◌, ◌≢◌, ℕ, ◌+◌, ◌<◌, ◌≤◌, if◌then◌else◌, List, [], ◌∷◌, ◌++◌, length}
use Rattle.std.proofs.Common.{refl, sym, ap, ◌∙◌, subst, inr, arith, ne_eqb, append_assoc, append-nil, length-append, Some}
use Rattle.std.specs.Prelude.{slice_get}
use Rattle.std.proofs.lemmas.List.Elements.{All-push}
use Rattle.mv_core.proofs.Terms.{Entry, Rest, Change, State, Writes, maker_of, commits_of, rests_of, Config, clock_time_of, Past, set_at}
use Rattle.mv_history.specs.Legal.{IsLegal, IsAllowed}
use Rattle.mv_history.proofs.Writing.{commits_of-append}
use Rattle.mv_history.proofs.Histories.{slice_get_at}
use Rattle.mv_core.specs.HistoryFacts.{NamedBy, KnowsPast, History}
use Rattle.mv_core.proofs.frames.FrameLaw.{set_at_here, set_at_all}
use Rattle.mv_core.proofs.history.LongerSeen.{rests_of-append}

-- an entry of one seat is no commit and no rest of another
else_commits : (s : ℕ) (e : Entry) → maker_of e ≢ s → commits_of s (e ∷ []) ≡ []
else_commits s (Rest by) ne = refl
else_commits s (Change c) ne = ap (λ b. if b then c ∷ [] else []) (ne_eqb c.seat s ne)

else_rests : (s : ℕ) (e : Entry) → maker_of e ≢ s → rests_of s (e ∷ []) ≡ 0
else_rests s (Rest by) ne = ap (λ b. (if b then 1 else 0) + 0) (ne_eqb by s ne)
else_rests s (Change c) ne = refl

-- the last of a list is one
last_same : (xs ys : List Entry) (x y : Entry) → xs ++ x ∷ [] ≡ ys ++ y ∷ [] → x ≡ y
last_same xs ys x y same =
    let long = ap length same in
    let width : length xs ≡ length ys = omega (arith, length-append xs (x ∷ []), length-append ys (y ∷ [])) in
    let one : Some x ≡ Some y = sym (slice_get_at xs x (length xs) refl) ∙ ap (λ l. slice_get l (length xs)) same ∙ slice_get_at ys y (length xs) width in
    cc

module _ (starts : State → Type 0) (allows : List ℕ → State → Writes → Type 0) (c : Config) (start : State) (clock later_clock : ℕ) (h : List Entry)
    (past : ℕ → Past) (k : History starts allows c start clock h past) (n : ℕ) (e : Entry) (made : maker_of e ≡ n) where
  abbrev later : List Entry
  later = h ++ e ∷ []

  still_knows : (s : ℕ) → s ≢ n → KnowsPast h s (past s) → KnowsPast later s (past s)
  still_knows s ne p =
      let other : maker_of e ≢ s = λ is. ne (sym is ∙ made) in
      let rests = rests_of-append s h (e ∷ []) in
      let none = else_rests s e other in
      let was = p.rests in
      record {
        seen = (p.seen.0 ++ e ∷ [], ap (λ l. l ++ e ∷ []) p.seen.1 ∙ append_assoc (past s).seen p.seen.0 (e ∷ []));
        seen_mine = p.seen_mine;
        seen_rests = p.seen_rests;
        mine = p.mine ∙ sym (commits_of-append s h (e ∷ []) ∙ ap (λ l. commits_of s h ++ l) (else_commits s e other) ∙ append-nil (commits_of s h));
        rests = omega arith;
      }

  -- the seat that made it knows all of it
  pub history_after : (p : Past) → n < c.seats → c.base + length h < 35184372088831 → clock_time_of later_clock ≡ c.base + length h + 1
      → NamedBy c later_clock e → IsLegal (length start) later → IsAllowed allows start later → p.seen ≡ later → KnowsPast later n p
      → History starts allows c start later_clock later (set_at past n p)
  history_after p within room time named legal allowed whole knows =
      let long = length-append h (e ∷ []) in
      record {
        opening = k.opening;
        sized = k.sized;
        words = k.words;
        legal = legal;
        allowed = allowed;
        long = omega arith;
        in_time = omega arith;
        whole = inr (n, ap (λ (q : Past). q.seen) (set_at_here past n p) ∙ whole);
        seats = set_at_all (λ s q. KnowsPast later s q) past n p knows (λ s ne. still_knows s ne (k.seats s));
        makers = All-push (λ x. maker_of x < c.seats) h e k.makers (subst (λ (s : ℕ). s < c.seats) (sym made) within);
        none_yet = λ none. absurd (let empty = ap length none in omega arith);
        last = λ before x is. subst (NamedBy c later_clock) (last_same h before e x is) named;
      }

  -- what the seats have seen of it is no less
  pub seen_more : (p : Past) → p.seen ≡ later → (s : ℕ) → length (past s).seen ≤ length (set_at past n p s).seen
  seen_more p whole =
      set_at_all (λ s q. length (past s).seen ≤ length q.seen) past n p
      (let front = (k.seats n).seen in let long : length h ≡ length (past n).seen + length front.0 = ap length front.1
      ∙ length-append (past n).seen front.0 in let more = ap length whole in let one = length-append h (e ∷ []) in omega arith)
      (λ s ne. omega arith)

-- A seat that sees more of the history: its own commits and rests are in what it had seen.
use Rattle.std.proofs.Common.{◌≡◌, ℕ, ◌+◌, eqb, if◌then◌else◌, List, [], ◌∷◌, ◌++◌, length, sym, refl, ap, ◌∙◌}
use Rattle.std.proofs.Common.{subst, inl, inr, ⊎_elim, arith, append_assoc, append-nil, length-append}
use Rattle.std.proofs.lemmas.List.{append_cancel_left}
use Rattle.mv_core.proofs.Terms.{dite, ℕ_discrete, Entry, Rest, Change, State, Writes, commits_of, rests_of, Config, Past, set_at}
use Rattle.mv_history.proofs.Writing.{commits_of-append}
use Rattle.mv_core.specs.HistoryFacts.{BeginsWith, KnowsPast, History}
use Rattle.mv_core.proofs.frames.FrameLaw.{set_at_here, set_at_else, set_at_all}

pub rests_of-append : (seat : ℕ) (xs ys : List Entry) → rests_of seat (xs ++ ys) ≡ rests_of seat xs + rests_of seat ys
rests_of-append seat [] ys = omega arith
rests_of-append seat (Rest by ∷ es) ys =
    let e = rests_of-append seat es ys in let b : ℕ =
    if eqb by seat then 1 else 0 in let f : b + rests_of seat (es ++ ys) ≡ b + rests_of seat es + rests_of seat ys = omega arith in f
rests_of-append seat (Change c ∷ es) ys = rests_of-append seat es ys

nothing_before : {A : Type 0} (xs ys : List A) → xs ++ ys ≡ [] → xs ≡ []
nothing_before [] ys e = refl
nothing_before (x ∷ xs) ys e = absurd cc

empty_of : {A : Type 0} (xs : List A) → length xs ≡ 0 → xs ≡ []
empty_of [] e = refl
empty_of (x ∷ xs) e = absurd (omega arith)

-- what begins a list and begins with it is the list
pub begins_both : (h seen : List Entry) → BeginsWith h seen → BeginsWith seen h → seen ≡ h
begins_both h seen a b =
    let la : length h ≡ length seen + length a.0 = ap length a.1 ∙ length-append seen a.0 in
    let lb : length seen ≡ length h + length b.0 = ap length b.1 ∙ length-append h b.0 in
    let none : a.0 ≡ [] = empty_of a.0 (omega arith) in
    sym (a.1 ∙ ap (λ l. seen ++ l) none ∙ append-nil seen)

module _ (h : List Entry) (s : ℕ) (p : Past) (k : KnowsPast h s p) (seen : List Entry) (whole : BeginsWith h seen) (more : BeginsWith seen p.seen) where
  all_is : h ≡ p.seen ++ (more.0 ++ whole.0)
  all_is = whole.1 ∙ ap (λ l. l ++ whole.0) more.1 ∙ append_assoc p.seen more.0 whole.0

  -- none of its commits is in what it sees more
  pub none_more : commits_of s more.0 ≡ []
  none_more =
      let mine : commits_of s p.seen ++ [] ≡ commits_of s p.seen ++ commits_of s (more.0 ++ whole.0) =
      append-nil (commits_of s p.seen) ∙ sym k.seen_mine ∙ k.mine ∙ ap (commits_of s) all_is ∙ commits_of-append s p.seen (more.0 ++ whole.0) in
      nothing_before (commits_of s more.0) (commits_of s whole.0)
      (sym (commits_of-append s more.0 whole.0) ∙ sym (append_cancel_left (commits_of s p.seen) [] (commits_of s (more.0 ++ whole.0)) mine))

  pub knows_more : KnowsPast h s (record p { seen = seen })
  knows_more =
      let rests : rests_of s p.seen ≡ rests_of s p.seen + rests_of s (more.0 ++ whole.0) =
      sym k.seen_rests ∙ k.rests ∙ ap (rests_of s) all_is ∙ rests_of-append s p.seen (more.0 ++ whole.0) in
      let both = rests_of-append s more.0 whole.0 in
      let here = ap (rests_of s) more.1 ∙ rests_of-append s p.seen more.0 in
      let was = k.seen_rests in
      record {
        seen = whole;
        seen_mine = k.seen_mine
            ∙ sym (ap (commits_of s) more.1 ∙ commits_of-append s p.seen more.0 ∙ ap (λ l. commits_of s p.seen ++ l) none_more
            ∙ append-nil (commits_of s p.seen));
        seen_rests = omega arith;
        mine = k.mine;
        rests = k.rests;
      }

module _ (starts : State → Type 0) (allows : List ℕ → State → Writes → Type 0) (c : Config) (start : State) (clock : ℕ) (h : List Entry) (past : ℕ → Past)
    (n : ℕ) (p : Past) (is : past n ≡ p) (k : History starts allows c start clock h past) (seen : List Entry) (whole : BeginsWith h seen)
    (more : BeginsWith seen p.seen) where
  -- all that is said of the history holds still
  pub sees_more : History starts allows c start clock h (set_at past n (record p { seen = seen }))
  sees_more =
      let new : Past = record p { seen = seen } in
      record {
        opening = k.opening;
        sized = k.sized;
        words = k.words;
        legal = k.legal;
        allowed = k.allowed;
        long = k.long;
        in_time = k.in_time;
        makers = k.makers;
        none_yet = k.none_yet;
        last = k.last;
        whole = ⊎_elim (λ none. inl none)
            (λ all. inr (
              all.0,
              dite (ℕ_discrete all.0 n)
                  (λ e.
                  let seen_all : p.seen ≡ h = ap (λ (q : Past). q.seen) (sym is ∙ ap past (sym e)) ∙ all.1 in
                  ap (λ (q : Past). q.seen) (ap (set_at past n new) e ∙ set_at_here past n new)
                  ∙ begins_both h seen whole (subst (BeginsWith seen) seen_all more))
                  (λ ne. ap (λ (q : Past). q.seen) (set_at_else past n new all.0 ne) ∙ all.1),
            ))
            k.whole;
        seats = set_at_all (λ s q. KnowsPast h s q) past n new (knows_more h n p (subst (KnowsPast h n) is (k.seats n)) seen whole more) (λ s ne. k.seats s);
      }

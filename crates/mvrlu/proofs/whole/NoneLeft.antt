-- A history has no more entries than its makers count.
use Rattle.std.proofs.Common.{◌≡◌, ℕ, zero, suc, ◌+◌, ◌<◌, eqb, if◌then◌else◌, Bool, List, [], ◌∷◌, ◌++◌, length, All}
use Rattle.std.proofs.Common.{refl, sym, ap, ◌∙◌, subst, arith, eq-eqb, length-append, ⊎_elim}
use Rattle.std.specs.Prelude.{Contains}
use Rattle.std.proofs.lemmas.List.Elements.{All-head, All-tail}
use Rattle.mv_history.specs.declared.Commit.{Commit}
use Rattle.mv_history.specs.declared.Entry.{Entry}
use Rattle.mv_history.specs.declared.Entry.TheVariants.{Rest, Change}
use Rattle.mv_history.specs.State.{maker_of, commits_of, rests_of}
use Rattle.mv_history.proofs.Writing.{commits_of-append}
use Rattle.object_lock.proofs.mv_core_lemmas.history.LongerSeen.{rests_of-append}
use Rattle.object_lock.proofs.mv_core_lemmas.kinds.naming.entry.NewEntry.{bool_is}
use Rattle.mvrlu.proofs.whole.Numbers.{contains_tail}

-- entries of these many seats, none of which made any, are none
pub none_made : (n : ℕ) (es : List Entry) → All (λ e. maker_of e < n) es → ((s : ℕ) → s < n → (commits_of s es ≡ []) × (rests_of s es ≡ 0)) → es ≡ []
none_made n [] all none = refl
none_made n (Rest by ∷ es) all none =
    let one : ◌≡◌ {A = ℕ} (if eqb by by then 1 else 0) 1 = ap (λ (b : Bool). if b then 1 else 0) (eq-eqb by by refl) in
    let some : (if eqb by by then 1 else 0) + rests_of by es ≡ 0 = (none by (All-head (λ e. maker_of e < n) (Rest by) es all)).1 in
    absurd (omega arith)
none_made n (Change d ∷ es) all none =
    let one : (if eqb d.seat d.seat then d ∷ commits_of d.seat es else commits_of d.seat es) ≡ d ∷ commits_of d.seat es =
    ap (λ (b : Bool). if b then d ∷ commits_of d.seat es else commits_of d.seat es) (eq-eqb d.seat d.seat refl) in
    let empty : (if eqb d.seat d.seat then d ∷ commits_of d.seat es else commits_of d.seat es) ≡ [] =
    (none d.seat (All-head (λ e. maker_of e < n) (Change d) es all)).0 in
    let long : suc (length (commits_of d.seat es)) ≡ 0 = ap length (sym one ∙ empty) in
    absurd (omega arith)

all_after : {A : Type 0} (P : A → Type 0) (xs ys : List A) → All P (xs ++ ys) → All P ys
all_after P [] ys all = all
all_after P (x ∷ xs) ys all = all_after P xs ys (All-tail P x (xs ++ ys) all)

nothing_more : {A : Type 0} (xs ys : List A) → xs ++ ys ≡ xs → ys ≡ []
nothing_more xs [] e = refl
nothing_more xs (y ∷ ys) e = let long = sym (length-append xs (y ∷ ys)) ∙ ap length e in absurd (omega arith)

-- a history with as many commits and rests of each seat as its beginning is that beginning
pub same_counts : (n : ℕ) (h more : List Entry) → All (λ e. maker_of e < n) (h ++ more)
    → ((s : ℕ) → s < n → (commits_of s (h ++ more) ≡ commits_of s h) × (rests_of s (h ++ more) ≡ rests_of s h)) → more ≡ []
same_counts n h more all same =
    none_made n more
    (all_after (λ e. maker_of e < n) h more all)
    (λ s low. (
      nothing_more (commits_of s h) (commits_of s more) (sym (commits_of-append s h more) ∙ (same s low).0),
      (let both = rests_of-append s h more in let is = (same s low).1 in omega arith),
    ))

-- a commit of the history is among its maker's
pub contains_commit : (n : ℕ) (es : List Entry) (c : Commit) → Contains es (Change c) → c.seat ≡ n → Contains (commits_of n es) c
contains_commit n [] c (i, lt, e) own = absurd (omega (arith, lt))
contains_commit n (Rest by ∷ es) c (zero, lt, e) own = absurd (cc)
contains_commit n (Rest by ∷ es) c (suc i, lt, e) own = contains_commit n es c (i, omega (arith, lt), e) own
contains_commit n (Change d ∷ es) c (zero, lt, e) own =
    let same : d ≡ c = cc in
    let one : (if eqb d.seat n then d ∷ commits_of n es else commits_of n es) ≡ d ∷ commits_of n es =
    ap (λ (b : Bool). if b then d ∷ commits_of n es else commits_of n es) (eq-eqb d.seat n (ap (λ (x : Commit). x.seat) same ∙ own)) in
    subst (λ xs. Contains xs c) (sym one) (0, omega arith, same)
contains_commit n (Change d ∷ es) c (suc i, lt, e) own =
    let rest : Contains (commits_of n es) c = contains_commit n es c (i, omega (arith, lt), e) own in
    ⊎_elim
    (λ yes. subst (λ (b : Bool). Contains (if b then d ∷ commits_of n es else commits_of n es) c) (sym yes) (contains_tail (commits_of n es) d c rest))
    (λ no. subst (λ (b : Bool). Contains (if b then d ∷ commits_of n es else commits_of n es) c) (sym no) rest)
    (bool_is (eqb d.seat n))

-- The commits of a seat in a legal history: each stands at one place.
use Rattle.std.proofs.Common.{◌≡◌, ℕ, zero, suc, ◌<◌, List, [], ◌∷◌, length, take, drop, Some, inl, inr, arith}
use Rattle.std.specs.List.{slice_get}
use Rattle.std.proofs.lemmas.Bool.{cases_lt}
use Rattle.std.proofs.lemmas.Bool.Decides.{nat_tests}
use Rattle.mv_history.specs.declared.history.Commit.{Commit}
use Rattle.mv_history.specs.declared.history.Entry.{Entry}
use Rattle.mv_history.specs.declared.history.Entry.TheVariants.{Rest, Change}
use Rattle.mv_history.specs.State.{commits_of}
use Rattle.mv_history.specs.Legal.{IsLegal}
use Rattle.mv_history.proofs.Histories.{split_at}

-- a commit stands among its seat's commits after those made before it
pub commit_there : (es : List Entry) (i : ℕ) (c : Commit) → slice_get es i ≡ Some (Change c)
    → slice_get (commits_of c.seat es) (length (commits_of c.seat (take i es))) ≡ Some c
commit_there [] i c e = absurd (cc)
commit_there (Rest by ∷ es) zero c e = absurd (cc)
commit_there (Change d ∷ es) zero c e = let same : d ≡ c = cc in grind (arith, nat_tests)
commit_there (Rest by ∷ es) (suc i) c e = commit_there es i c e
commit_there (Change d ∷ es) (suc i) c e = grind (arith, nat_tests, commit_there es i c e)

-- more of its seat's commits are made by any later time
made_more : (es : List Entry) (i j : ℕ) (c : Commit) → slice_get es i ≡ Some (Change c) → i < j
    → length (commits_of c.seat (take i es)) < length (commits_of c.seat (take j es))
made_more [] i j c e lt = absurd (cc)
made_more es i zero c e lt = absurd (omega arith)
made_more (Rest by ∷ es) zero (suc j) c e lt = absurd (cc)
made_more (Change d ∷ es) zero (suc j) c e lt = let same : d ≡ c = cc in grind (arith, nat_tests)
made_more (Rest by ∷ es) (suc i) (suc j) c e lt = made_more es i j c e (omega arith)
made_more (Change d ∷ es) (suc i) (suc j) c e lt = grind (arith, nat_tests, made_more es i j c e (omega arith))

-- one commit stands at one place
pub one_place : (n : ℕ) (es : List Entry) (i j : ℕ) (c : Commit) → IsLegal n es → slice_get es i ≡ Some (Change c) → slice_get es j ≡ Some (Change c) → i ≡ j
one_place n es i j c legal at_i at_j =
    let number_i = (legal (take i es) (drop (suc i) es) c (split_at es i (Change c) at_i)).number in
    let number_j = (legal (take j es) (drop (suc j) es) c (split_at es j (Change c) at_j)).number in
    elim (cases_lt i j) [
      | inl lt ↦ absurd (omega (arith, number_i, number_j, made_more es i j c at_i lt))
      | inr ge ↦ elim (cases_lt j i) [
        | inl lt ↦ absurd (omega (arith, number_i, number_j, made_more es j i c at_j lt))
        | inr le ↦ omega arith
      ]
    ]

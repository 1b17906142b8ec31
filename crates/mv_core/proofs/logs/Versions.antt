-- A write of an object has one version at most.
use Rattle.std.proofs.Common.{◌≡◌, ℕ, zero, suc, ◌+◌, ◌-◌, ◌≤◌, true, false, not, List, [], ◌∷◌, length, Some, slice_get, sym, refl, ap, ◌∙◌, subst, arith}
use Rattle.std.proofs.lemmas.Option.{slice_get_within, get_or_from_slice_get}
use Rattle.std.proofs.lemmas.Bool.{not-true, and_parts}
use Rattle.mv_history.specs.declared.Commit.{Commit}
use Rattle.mv_core.proofs.Terms.{Entry, Change, Writes, touches, Config, Checked, link_of, Ring, Version, Committed, CommitNote, State, Lives}
use Rattle.mv_core.proofs.Terms.{IsVersion, IsEntry}
use Rattle.mv_history.specs.Legal.{IsLegal, are_distinct}
use Rattle.mv_history.proofs.Writing.{touches_at}
use Rattle.mv_core.specs.SetFacts.{CommitOf, WriteSets, Positions}
use Rattle.mv_core.proofs.history.WordsAt.{next_is}
use Rattle.mv_core.proofs.logs.Links.{note_once, position_once}
use Rattle.mv_core.proofs.logs.Written.{entry_once}

-- an object stands once among distinct writes
pub distinct_once : (ws : Writes) (i j o : ℕ) (a b : List ℕ) → are_distinct ws ≡ true → slice_get ws i ≡ Some (o, a) → slice_get ws j ≡ Some (o, b) → i ≡ j
distinct_once [] i j o a b d p q = absurd cc
distinct_once (w ∷ ws) zero zero o a b d p q = refl
distinct_once (w ∷ ws) zero (suc j) o a b d p q =
    let same : w.0 ≡ o = ap (λ x. x.0) (let e : w ≡ (o, a) = cc in e) in
    let apart : touches ws w.0 ≡ false = not-true (touches ws w.0) (and_parts (not (touches ws w.0)) (are_distinct ws) d).0 in
    let there : touches ws o ≡ true = touches_at ws j o (o, b) (slice_get_within ws j (o, b) q) (ap (λ x. x.0) (get_or_from_slice_get ws j (o, b) (o, b) q)) in
    absurd cc
distinct_once (w ∷ ws) (suc i) zero o a b d p q =
    let same : w.0 ≡ o = ap (λ x. x.0) (let e : w ≡ (o, b) = cc in e) in
    let apart : touches ws w.0 ≡ false = not-true (touches ws w.0) (and_parts (not (touches ws w.0)) (are_distinct ws) d).0 in
    let there : touches ws o ≡ true = touches_at ws i o (o, a) (slice_get_within ws i (o, a) p) (ap (λ x. x.0) (get_or_from_slice_get ws i (o, a) (o, a) p)) in
    absurd cc
distinct_once (w ∷ ws) (suc i) (suc j) o a b d p q = ap suc (distinct_once ws i j o a b (and_parts (not (touches ws w.0)) (are_distinct ws) d).1 p q)

module _ (c : Config) (start : State) (h : List Entry) (rings : ℕ → Ring) (checked : Checked c) (in_time : c.base + length h ≤ 35184372088831)
    (legal : IsLegal (length start) h) (positions : Positions c h rings) (sets : WriteSets c h rings) where
  -- two versions of an object's write at one time are one
  pub write_once : (s t k l : ℕ) (x y : Version) (m n : CommitNote) → Lives rings s k x (Committed m) → Lives rings t l y (Committed n) → x.object ≡ y.object
      → m.time ≡ n.time → (s ≡ t) × (x ≡ y) × (m ≡ n)
  write_once s t k l x y m n a b o e =
      let p : CommitOf c h rings s x m = sets.commit s k x m a in
      let q : CommitOf c h rings t y n = sets.commit t l y n b in
      let entry : Change p.commit ≡ Change q.commit =
      entry_once c.base h n.time (Change p.commit) (Change q.commit) (subst (λ (u : ℕ). IsEntry c.base h u (Change p.commit)) e p.entry) q.entry in
      let one : p.commit ≡ q.commit = cc in
      let seat : s ≡ t = sym p.seat ∙ ap (λ (d : Commit). d.seat) one ∙ q.seat in
      let first : x.first ≡ y.first = sets.once s k l x y m n a (subst (λ (u : ℕ). Lives rings u l y (Committed n)) (sym seat) b) e in
      let distinct = (next_is c start h legal n.time q.commit q.entry).distinct in
      let here : slice_get q.commit.writes (x.position - x.first) ≡ Some (y.object, x.words) =
      subst (λ (d : Commit). slice_get d.writes (x.position - x.first) ≡ Some (y.object, x.words)) one
      (subst (λ (u : ℕ). slice_get p.commit.writes (x.position - x.first) ≡ Some (u, x.words)) o p.write) in
      let place = distinct_once q.commit.writes (x.position - x.first) (y.position - y.first) y.object x.words y.words distinct here q.write in
      let ax = p.after_first in
      let ay = q.after_first in
      let position : x.position ≡ y.position = omega arith in
      let r = position_once c h rings checked in_time positions t k l x y (Committed m) (Committed n)
      (subst (λ (u : ℕ). Lives rings u k x (Committed m)) seat a) b position in
      (seat, r.1, note_once m n r.2)

  pub version_once : (o t link other : ℕ) (x y : Version) (m n : CommitNote) → IsVersion rings o t link x m → IsVersion rings o t other y n
      → (link ≡ other) × (x ≡ y) × (m ≡ n)
  version_once o t link other x y m n a b =
      let r = write_once a.names.seat b.names.seat a.names.slot b.names.slot x y m n a.names.lives b.names.lives (a.object_is ∙ sym b.object_is)
      (a.time_is ∙ sym b.time_is) in
      (a.names.is ∙ (λ i. link_of (r.0 i) (r.1 i).position) ∙ sym b.names.is, r.1, r.2)

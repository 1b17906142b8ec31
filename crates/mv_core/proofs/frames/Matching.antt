-- Links, first versions and tops where the live versions of the logs before and after a step match; and the relation in which the versions stay what they are
-- to other seats.
use Rattle.std.proofs.Common.{◌≡◌, ◌⊎◌, ℕ, ◌<◌, true, false, Bool, refl, sym, ap, ◌∙◌, subst, inl, inr, ⊎_elim, Option, Some, None}
use Rattle.mv_core.proofs.Terms.{Config, link_of, Ring, Live, Freeing, Version, WriteSetStatus, Held, Aborted, Committed, CommitNote, slot_at, index_of}
use Rattle.mv_core.proofs.Terms.{Lives, Names, IsGone, IsVersion, NoneHolds, NoneUncut, IsTop, InUse, HasFirst}
use Rattle.mv_core.specs.SetFacts.{IsHeldOrAborted, InHeldSet}
use Rattle.mv_core.proofs.logs.Slots.{Becomes, Matches}

-- the two versions are of one place, object and link
pub record IsSamePlace (x y : Version) : Type 0 where
  pub position : y.position ≡ x.position
  pub first : y.first ≡ x.first
  pub object : y.object ≡ x.object
  pub previous : y.previous ≡ x.previous

pub same_place : (x y : Version) → y ≡ x → IsSamePlace x y
same_place x y e =
    record {
      position = ap (λ (v : Version). v.position) e;
      first = ap (λ (v : Version). v.first) e;
      object = ap (λ (v : Version). v.object) e;
      previous = ap (λ (v : Version). v.previous) e;
    }

-- the relation keeps the place of each version
abbrev pub KeepsPlace : Becomes → Type 0
KeepsPlace R = (x : Version) (st : WriteSetStatus) (y : Version) (su : WriteSetStatus) → R x st y su → IsSamePlace x y

module _ (R : Becomes) (places : KeepsPlace R) (before after : ℕ → Ring) (k : Matches R before after) where
  -- what a link names
  pub names_forth : (link : ℕ) (x : Version) (st : WriteSetStatus) → Names before link x st → (y : Version) × (su : WriteSetStatus) × Names after link y su
      × R x st y su
  names_forth link x st n =
      let f = k.forth n.seat n.slot x st n.lives in
      (f.0, f.1, record { seat = n.seat; slot = n.slot; lives = f.2; is = n.is ∙ ap (link_of n.seat) (sym (places x st f.0 f.1 f.3).position) }, f.3)

  pub names_back : (link : ℕ) (y : Version) (su : WriteSetStatus) → Names after link y su → (x : Version) × (st : WriteSetStatus) × Names before link x st
      × R x st y su
  names_back link y su n =
      let b = k.back n.seat n.slot y su n.lives in
      (b.0, b.1, record { seat = n.seat; slot = n.slot; lives = b.2; is = n.is ∙ ap (link_of n.seat) (places b.0 b.1 y su b.3).position }, b.3)

  -- a link that names no version named none
  pub unnamed_back : (link : ℕ) → ((y : Version) (su : WriteSetStatus) → ¬ (Names after link y su)) → (x : Version) (st : WriteSetStatus)
      → ¬ (Names before link x st)
  unnamed_back link none x st n = let f = names_forth link x st n in none f.0 f.1 f.2

  -- a link to a position that isn't live any more
  pub gone_forth : (link : ℕ) → IsGone before link → IsGone after link
  gone_forth link g = record {
    seat = g.seat;
    position = g.position;
    is = g.is;
    used = subst (λ (n : ℕ). g.position < n) (sym (k.next g.seat)) g.used;
    gone = λ j y su lives e. let b = k.back g.seat j y su lives in g.gone j b.0 b.1 b.2 (sym (places b.0 b.1 y su b.3).position ∙ e);
  }

  -- the first version of a write set
  pub first_forth : (c : Config) (s : ℕ) (x y : Version) → y.first ≡ x.first → HasFirst before c s x → HasFirst after c s y
  first_forth c s x y e h =
      let f = k.forth s (index_of c x.first) h.version h.status h.lives in
      let p = places h.version h.status f.0 f.1 f.3 in record {
        version = f.0;
        status = f.1;
        lives = subst (λ (i : ℕ). Lives after s (index_of c i) f.0 f.1) (sym e) f.2;
        position_is = p.position ∙ h.position_is ∙ sym e;
        first_is = p.first ∙ h.first_is ∙ sym e;
      }

  -- a position in use, where freeing slots stay
  pub use_forth : ((s j p first : ℕ) → slot_at (before s) j ≡ Freeing p first → slot_at (after s) j ≡ Freeing p first) → (c : Config) (s p : ℕ)
      → InUse before c s p → InUse after c s p
  use_forth freeing c s p u =
      ⊎_elim
      (λ a. let f = k.forth s (index_of c p) a.0 a.1 a.2 in inl (f.0, f.1, f.2, (places a.0 a.1 f.0 f.1 f.3).position ∙ a.3))
      (λ b. inr (b.0, freeing s (index_of c p) p b.0 b.1))
      u

  pub use_back : ((s j p first : ℕ) → slot_at (after s) j ≡ Freeing p first → slot_at (before s) j ≡ Freeing p first) → (c : Config) (s p : ℕ)
      → InUse after c s p → InUse before c s p
  use_back freeing c s p u =
      ⊎_elim
      (λ a. let b = k.back s (index_of c p) a.0 a.1 a.2 in inl (b.0, b.1, b.2, sym (places b.0 b.1 a.0 a.1 b.3).position ∙ a.3))
      (λ b. inr (b.0, freeing s (index_of c p) p b.0 b.1))
      u

  -- a position of a write set, where what is known of its version goes on
  pub set_forth : (P Q : WriteSetStatus → Type 0) → ((x : Version) (st : WriteSetStatus) (y : Version) (su : WriteSetStatus) → R x st y su → P st → Q su)
      → (c : Config) (s first p : ℕ)
      → InHeldSet c before s first p P → InHeldSet c after s first p Q
  set_forth P Q goes_on c s first p r =
      let f = k.forth s (index_of c p) r.version r.status r.lives in
      let at = places r.version r.status f.0 f.1 f.3 in
      record {
        version = f.0;
        status = f.1;
        lives = f.2;
        position_is = at.position ∙ r.position_is;
        first_is = at.first ∙ r.first_is;
        known = goes_on r.version r.status f.0 f.1 f.3 r.known;
      }

-- the version is the same
abbrev pub SameVersion : Becomes
SameVersion x st y su = y ≡ x

pub version_place : KeepsPlace SameVersion
version_place x st y su a = same_place x y a

-- A version lives on: a held one in its place, or as an aborted one with no death noted, and a committed one of its time, and cut if it was; the words of a
-- held one, and what its owner noted besides, may change.
abbrev pub LivesOn : Becomes
LivesOn x Held y Held = IsSamePlace x y
LivesOn x Held y (Aborted e) = (y ≡ x) × (e ≡ None)
LivesOn x (Aborted d) y (Aborted e) = y ≡ x
LivesOn x (Committed m) y (Committed n) = (y ≡ x) × (n.time ≡ m.time) × (m.cut ≡ true → n.cut ≡ true)
LivesOn x _ y _ = ⊥

pub on_self : (x : Version) (st : WriteSetStatus) → LivesOn x st x st
on_self x Held = same_place x x refl
on_self x (Aborted d) = refl
on_self x (Committed m) = (refl, refl, λ cut. cut)

-- and a held one is held still: it stays what it is to the other seats, but that it may be cut
abbrev pub AlikeOrCut : Becomes
AlikeOrCut x st y su = LivesOn x st y su × (st ≡ Held → su ≡ Held)

-- whether the status is that of a cut version
abbrev pub cut_in : WriteSetStatus → Bool
cut_in Held = false
cut_in (Aborted dead) = false
cut_in (Committed note) = note.cut

-- and it isn't cut, if it wasn't
abbrev pub Alike : Becomes
Alike x st y su = AlikeOrCut x st y su × (cut_in su ≡ cut_in st)

pub alike_self : (x : Version) (st : WriteSetStatus) → Alike x st x st
alike_self x st = ((on_self x st, λ held. held), refl)

-- a committed version with another note, of its time
pub alike_committed : (x : Version) (m n : CommitNote) → n.time ≡ m.time → n.cut ≡ m.cut → Alike x (Committed m) x (Committed n)
alike_committed x m n time same = (((refl, time, λ cut. same ∙ cut), λ e. let held : Committed m ≡ Held = e in absurd (cc)), same)

-- one that isn't cut afterwards wasn't before
pub uncut_back : (m n : CommitNote) → (m.cut ≡ true → n.cut ≡ true) → n.cut ≡ false → m.cut ≡ false
uncut_back m n still uncut = go m.cut refl
  where
    go : (b : Bool) → m.cut ≡ b → m.cut ≡ false
    go true e = let clash : true ≡ false = sym (still e) ∙ uncut in absurd (cc)
    go false e = e

pub on_place : KeepsPlace LivesOn
on_place x Held y Held a = a
on_place x Held y (Aborted e) a = same_place x y a.0
on_place x (Aborted d) y (Aborted e) a = same_place x y a
on_place x (Committed m) y (Committed n) a = same_place x y a.0
on_place x Held y (Committed n) a = absurd a
on_place x (Aborted d) y Held a = absurd a
on_place x (Aborted d) y (Committed n) a = absurd a
on_place x (Committed m) y Held a = absurd a
on_place x (Committed m) y (Aborted e) a = absurd a

pub alike_place : KeepsPlace AlikeOrCut
alike_place x st y su a = on_place x st y su a.0

-- what a version was that is held, aborted or committed
was_held : (x y : Version) (st : WriteSetStatus) → LivesOn x st y Held → (st ≡ Held) × IsSamePlace x y
was_held x y Held a = (refl, a)
was_held x y (Aborted d) a = absurd a
was_held x y (Committed m) a = absurd a

pub was_aborted : (x y : Version) (st : WriteSetStatus) (e : Option ℕ) → LivesOn x st y (Aborted e)
    → ((d : Option ℕ) × (st ≡ Aborted d) × (y ≡ x)) ⊎ ((st ≡ Held) × (y ≡ x))
was_aborted x y Held e a = inr (refl, a.0)
was_aborted x y (Aborted d) e a = inl (d, refl, a)
was_aborted x y (Committed m) e a = absurd a

-- a death that is noted of an aborted one was noted before, or is of one that was aborted before
pub was_dead : (x y : Version) (st : WriteSetStatus) (t : ℕ) → LivesOn x st y (Aborted (Some t)) → (d : Option ℕ) × (st ≡ Aborted d) × (y ≡ x)
was_dead x y Held t a = let none : Some t ≡ None = a.1 in absurd (cc)
was_dead x y (Aborted d) t a = (d, refl, a)
was_dead x y (Committed m) t a = absurd a

pub was_committed : (x y : Version) (st : WriteSetStatus) (n : CommitNote) → LivesOn x st y (Committed n)
    → (m : CommitNote) × (st ≡ Committed m) × (y ≡ x) × (n.time ≡ m.time) × (m.cut ≡ true → n.cut ≡ true)
was_committed x y Held n a = absurd a
was_committed x y (Aborted d) n a = absurd a
was_committed x y (Committed m) n a = (m, refl, a.0, a.1, a.2)

-- and what it is then
is_held_still : (x y : Version) (su : WriteSetStatus) → AlikeOrCut x Held y su → (su ≡ Held) × IsSamePlace x y
is_held_still x y su a = (a.1 refl, on_place x Held y su a.0)

is_committed_still : (x y : Version) (su : WriteSetStatus) (m : CommitNote) → LivesOn x (Committed m) y su
    → (n : CommitNote) × (su ≡ Committed n) × (y ≡ x) × (n.time ≡ m.time) × (m.cut ≡ true → n.cut ≡ true)
is_committed_still x y Held m a = absurd a
is_committed_still x y (Aborted d) m a = absurd a
is_committed_still x y (Committed n) m a = (n, refl, a.0, a.1, a.2)

-- held is held still, and not committed not committed
pub still_held : (x : Version) (st : WriteSetStatus) (y : Version) (su : WriteSetStatus) → AlikeOrCut x st y su → st ≡ Held → su ≡ Held
still_held x st y su a = a.1

pub is_committed_so : (x : Version) (st : WriteSetStatus) (y : Version) (su : WriteSetStatus) (m : CommitNote) → LivesOn x st y su → st ≡ Committed m
    → (n : CommitNote) × (su ≡ Committed n) × (y ≡ x) × (n.time ≡ m.time) × (m.cut ≡ true → n.cut ≡ true)
is_committed_so x st y su m a e = is_committed_still x y su m (subst (λ (s : WriteSetStatus). LivesOn x s y su) e a)

pub uncommitted_forth : (x : Version) (st : WriteSetStatus) (y : Version) (su : WriteSetStatus) → LivesOn x st y su → IsHeldOrAborted st → IsHeldOrAborted su
uncommitted_forth x st y Held a p = tt
uncommitted_forth x st y (Aborted e) a p = tt
uncommitted_forth x Held y (Committed n) a p = absurd a
uncommitted_forth x (Aborted d) y (Committed n) a p = absurd a
uncommitted_forth x (Committed m) y (Committed n) a p = p

pub uncommitted_back : (x : Version) (st : WriteSetStatus) (y : Version) (su : WriteSetStatus) → LivesOn x st y su → IsHeldOrAborted su → IsHeldOrAborted st
uncommitted_back x Held y su a p = tt
uncommitted_back x (Aborted d) y su a p = tt
uncommitted_back x (Committed m) y Held a p = absurd a
uncommitted_back x (Committed m) y (Aborted e) a p = absurd a
uncommitted_back x (Committed m) y (Committed n) a p = p

-- each committed version is cut if it was, and only then
abbrev pub SameCut : (before after : ℕ → Ring) → Type 0
SameCut before after =
    (s j : ℕ) (x : Version) (m n : CommitNote) → Lives before s j x (Committed m) → Lives after s j x (Committed n) → n.cut ≡ m.cut

pub same_cuts : (R : Becomes) → ((x : Version) (st : WriteSetStatus) (y : Version) (su : WriteSetStatus) → R x st y su → cut_in su ≡ cut_in st)
    → (before after : ℕ → Ring) → Matches R before after → SameCut before after
same_cuts R same before after k s j x m n there now =
    let f = k.forth s j x (Committed m) there in
    let one : Live f.0 f.1 ≡ Live x (Committed n) = sym f.2 ∙ now in
    let status : f.1 ≡ Committed n = cc in
    ap cut_in (sym status) ∙ same x (Committed m) f.0 f.1 f.3

module _ (before after : ℕ → Ring) (k : Matches LivesOn before after) where
  pub held_back : (s j : ℕ) (y : Version) → Lives after s j y Held → (x : Version) × Lives before s j x Held × IsSamePlace x y
  held_back s j y lives =
      let b = k.back s j y Held lives in
      let w = was_held b.0 y b.1 b.3 in
      (b.0, subst (Lives before s j b.0) w.0 b.2, w.1)

  pub aborted_back : (s j : ℕ) (y : Version) (e : Option ℕ) → Lives after s j y (Aborted e)
      → ((d : Option ℕ) × Lives before s j y (Aborted d)) ⊎ Lives before s j y Held
  aborted_back s j y e lives =
      let b = k.back s j y (Aborted e) lives in
      ⊎_elim
      (λ w. inl (w.0, subst (λ (v : Version). Lives before s j v (Aborted w.0)) (sym w.2) (subst (Lives before s j b.0) w.1 b.2)))
      (λ w. inr (subst (λ (v : Version). Lives before s j v Held) (sym w.1) (subst (Lives before s j b.0) w.0 b.2)))
      (was_aborted b.0 y b.1 e b.3)

  pub committed_back : (s j : ℕ) (y : Version) (n : CommitNote) → Lives after s j y (Committed n)
      → (m : CommitNote) × Lives before s j y (Committed m) × (n.time ≡ m.time) × (m.cut ≡ true → n.cut ≡ true)
  committed_back s j y n lives =
      let b = k.back s j y (Committed n) lives in
      let w = was_committed b.0 y b.1 n b.3 in
      (w.0, subst (λ (v : Version). Lives before s j v (Committed w.0)) (sym w.2) (subst (Lives before s j b.0) w.1 b.2), w.3, w.4)

  pub committed_forth : (s j : ℕ) (x : Version) (m : CommitNote) → Lives before s j x (Committed m)
      → (n : CommitNote) × Lives after s j x (Committed n) × (n.time ≡ m.time) × (m.cut ≡ true → n.cut ≡ true)
  committed_forth s j x m lives =
      let f = k.forth s j x (Committed m) lives in
      let w = is_committed_still x f.0 f.1 m f.3 in
      (w.0, subst (λ (v : Version). Lives after s j v (Committed w.0)) w.2 (subst (Lives after s j f.0) w.1 f.2), w.3, w.4)

  pub names_committed_forth : (link : ℕ) (x : Version) (m : CommitNote) → Names before link x (Committed m)
      → (n : CommitNote) × Names after link x (Committed n) × (n.time ≡ m.time) × (m.cut ≡ true → n.cut ≡ true)
  names_committed_forth link x m names =
      let f = committed_forth names.seat names.slot x m names.lives in
      (f.0, record { seat = names.seat; slot = names.slot; lives = f.1; is = names.is }, f.2, f.3)

  -- the version of a write
  pub version_back : (o t link : ℕ) (x : Version) (n : CommitNote) → (v : IsVersion after o t link x n)
      → (m : CommitNote) × IsVersion before o t link x m × (m.cut ≡ true → n.cut ≡ true) × Lives before v.names.seat v.names.slot x (Committed m)
  version_back o t link x n v =
      let b = committed_back v.names.seat v.names.slot x n v.names.lives in
      let names : Names before link x (Committed b.0) = record { seat = v.names.seat; slot = v.names.slot; lives = b.1; is = v.names.is } in
      (b.0, record { names = names; object_is = v.object_is; time_is = sym b.2 ∙ v.time_is }, b.3, b.1)

  pub version_forth : (o t link : ℕ) (x : Version) (m : CommitNote) → (v : IsVersion before o t link x m)
      → (n : CommitNote) × IsVersion after o t link x n × (m.cut ≡ true → n.cut ≡ true) × Lives after v.names.seat v.names.slot x (Committed n)
  version_forth o t link x m v =
      let f = committed_forth v.names.seat v.names.slot x m v.names.lives in
      let names : Names after link x (Committed f.0) = record { seat = v.names.seat; slot = v.names.slot; lives = f.1; is = v.names.is } in
      (f.0, record { names = names; object_is = v.object_is; time_is = f.2 ∙ v.time_is }, f.3, f.1)

  -- what the top of an object is
  pub none_uncut_forth : (o t : ℕ) → NoneUncut before o t → NoneUncut after o t
  none_uncut_forth o t none link x n v = let b = version_back o t link x n v in b.2 (none link x b.0 b.1)

  module _ (same_cut : SameCut before after) where
    pub none_uncut_back : (o t : ℕ) → NoneUncut after o t → NoneUncut before o t
    none_uncut_back o t none link x m v =
        let f = version_forth o t link x m v in sym (same_cut v.names.seat v.names.slot x m f.0 v.names.lives f.3) ∙ none link x f.0 f.1

    pub top_forth : (o t link : ℕ) → IsTop before o t link → IsTop after o t link
    top_forth o t link =
        ⊎_elim
        (λ a.
        let v = a.2 in
        let f = version_forth o t link a.0 a.1 v in
        inl (a.0, f.0, f.1, same_cut v.names.seat v.names.slot a.0 a.1 f.0 v.names.lives f.3 ∙ a.3))
        (λ b. inr (b.0, none_uncut_forth o t b.1))

module _ (before after : ℕ → Ring) (k : Matches AlikeOrCut before after) where
  pub held_forth : (s j : ℕ) (x : Version) → Lives before s j x Held → (y : Version) × Lives after s j y Held × IsSamePlace x y
  held_forth s j x lives =
      let f = k.forth s j x Held lives in
      let w = is_held_still x f.0 f.1 f.3 in
      (f.0, subst (Lives after s j f.0) w.0 f.2, w.1)

  -- who holds an object
  pub none_holds_back : (o : ℕ) → NoneHolds after o → NoneHolds before o
  none_holds_back o none s j x lives e = let f = held_forth s j x lives in none s j f.0 f.1 (f.2.object ∙ e)

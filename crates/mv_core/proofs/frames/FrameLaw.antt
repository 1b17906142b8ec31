-- The frame law: a step keeps each fact that reads neither the word that it writes nor a part that it changes in its view.
-- A step makes `seats` into `set_at seats n w`, with n the number of its seat and w its new view. Say which parts change by a
-- `Change`, as `record unchanged { clocks = Some x }`; then all facts over `changed (parts_of seats) n t` are all facts
-- afterwards, by `settle`. There each part that isn't named is as it was by computation, so a fact that reads no changed part is
-- that of before, as it stands; and of a part that changes, `set_at_all` says what holds by number.
use Rattle.std.proofs.Common.{◌≡◌, ◌≢◌, ℕ, cond, List, sym, refl, ap, ◌∙◌, subst, eq-eqb, ne_eqb, Option, Some, None}
use Rattle.mv_core.proofs.Terms.{dite, ℕ_discrete, Entry, State, Writes, Config, Memory, Ring, Knowledge, Past, Phase, OwnSection, LoadedClocks, WalkStage}
use Rattle.mv_core.proofs.Terms.{EmptyHead, WriteBack, Scan, section_of, time_of, ViewParts, parts_of, set_at}
use Rattle.mv_core.specs.Rule.{Facts}

module _ {A : Type 0} where
  pub set_at_here : (f : ℕ → A) (n : ℕ) (x : A) → set_at f n x n ≡ x
  set_at_here f n x = ap (λ b. cond b x (f n)) (eq-eqb n n refl)

  pub set_at_else : (f : ℕ → A) (n : ℕ) (x : A) (t : ℕ) → t ≢ n → set_at f n x t ≡ f t
  set_at_else f n x t ne = ap (λ b. cond b x (f t)) (ne_eqb t n ne)

  -- what holds of the new one, and of each other as it was, holds of all
  pub set_at_all : (P : ℕ → A → Type 0) (f : ℕ → A) (n : ℕ) (x : A) → P n x → ((t : ℕ) → t ≢ n → P t (f t)) → (t : ℕ) → P t (set_at f n x t)
  set_at_all P f n x here rest t =
      dite (ℕ_discrete t n)
      (λ e. subst (λ (u : ℕ). P u (set_at f n x u)) (sym e) (subst (P n) (sym (set_at_here f n x)) here))
      (λ ne. subst (P t) (sym (set_at_else f n x t ne)) (rest t ne))

module _ {A : Type 0} (f : ℕ → A) (n : ℕ) (x : A) (is : f n ≡ x) where
  -- where the new one is the old one nothing changes
  pub set_at_same : set_at f n x ≡ f
  set_at_same = λ i s. set_at_all (λ t y. y ≡ f t) f n x (sym is) (λ t ne. refl) s i

-- the part after a step: the new one, where it changes
abbrev pub after : {A : Type 0} → (ℕ → A) → ℕ → Option A → ℕ → A
after f n None = f
after f n (Some x) = set_at f n x

-- how a view's part was and is, by whether it changes
abbrev pub Fit : {A : Type 0} → A → A → Option A → Type 0
Fit old new None = new ≡ old
Fit old new (Some x) = new ≡ x

-- the parts of a view that a step changes, each with what it becomes
pub record Change : Type 0 where
  pub past : Option Past
  pub phase : Option Phase
  pub section : Option (Option OwnSection)
  pub time : Option (Option ℕ)
  pub clocks : Option LoadedClocks
  pub walk : Option WalkStage
  pub empty : Option (List EmptyHead)
  pub ring : Option Ring
  pub back : Option (Option WriteBack)
  pub scan : Option (Option Scan)
  pub grace : Option ℕ

abbrev pub unchanged : Change
unchanged = record {
  past = None;
  phase = None;
  section = None;
  time = None;
  clocks = None;
  walk = None;
  empty = None;
  ring = None;
  back = None;
  scan = None;
  grace = None;
}

-- the parts of all views after it
abbrev pub changed : ViewParts → ℕ → Change → ViewParts
changed f n t = record {
  past = after f.past n t.past;
  phase = after f.phase n t.phase;
  section = after f.section n t.section;
  time = after f.time n t.time;
  clocks = after f.clocks n t.clocks;
  walk = after f.walk n t.walk;
  empty = after f.empty n t.empty;
  ring = after f.ring n t.ring;
  back = after f.back n t.back;
  scan = after f.scan n t.scan;
  grace = after f.grace n t.grace;
}

-- the new view is the old one with that change
abbrev pub Fits : Knowledge → Knowledge → Change → Type 0
Fits v w t =
    Fit v.past w.past t.past × Fit v.phase w.phase t.phase × Fit (section_of v.phase) (section_of w.phase) t.section
    × Fit (time_of v.phase) (time_of w.phase) t.time × Fit v.clocks w.clocks t.clocks × Fit v.walk w.walk t.walk
    × Fit v.empty w.empty t.empty × Fit v.ring w.ring t.ring × Fit v.back w.back t.back × Fit v.scan w.scan t.scan × Fit v.grace w.grace t.grace

module _ {A : Type 0} (part : Knowledge → A) (seats : ℕ → Knowledge) (n : ℕ) (v w : Knowledge) (is : seats n ≡ v) where
  new_at : (s : ℕ) (x : A) → part w ≡ x → part (set_at seats n w s) ≡ set_at (λ t. part (seats t)) n x s
  new_at s x e =
      set_at_all (λ t u. part u ≡ set_at (λ t. part (seats t)) n x t) seats n w (e ∙ sym (set_at_here (λ t. part (seats t)) n x))
      (λ t ne. sym (set_at_else (λ t. part (seats t)) n x t ne)) s

  old_at : part w ≡ part v → (s : ℕ) → part (set_at seats n w s) ≡ part (seats s)
  old_at e = set_at_all (λ t u. part u ≡ part (seats t)) seats n w (e ∙ ap part (sym is)) (λ t ne. refl)

  part_after : (o : Option A) → Fit (part v) (part w) o → (λ s. part (set_at seats n w s)) ≡ after (λ s. part (seats s)) n o
  part_after None e = λ i s. old_at e s i
  part_after (Some x) e = λ i s. new_at s x e i

parts_after : (seats : ℕ → Knowledge) (n : ℕ) (v w : Knowledge) → seats n ≡ v → (t : Change) → Fits v w t
    → parts_of (set_at seats n w) ≡ changed (parts_of seats) n t
parts_after seats n v w is t fits = λ i. record {
  past = part_after (λ u. u.past) seats n v w is t.past fits.0 i;
  phase = part_after (λ u. u.phase) seats n v w is t.phase fits.1 i;
  section = part_after (λ u. section_of u.phase) seats n v w is t.section fits.2 i;
  time = part_after (λ u. time_of u.phase) seats n v w is t.time fits.3 i;
  clocks = part_after (λ u. u.clocks) seats n v w is t.clocks fits.4 i;
  walk = part_after (λ u. u.walk) seats n v w is t.walk fits.5 i;
  empty = part_after (λ u. u.empty) seats n v w is t.empty fits.6 i;
  ring = part_after (λ u. u.ring) seats n v w is t.ring fits.7 i;
  back = part_after (λ u. u.back) seats n v w is t.back fits.8 i;
  scan = part_after (λ u. u.scan) seats n v w is t.scan fits.9 i;
  grace = part_after (λ u. u.grace) seats n v w is t.grace fits.10 i;
}

module _ (starts : State → Type 0) (allows : List ℕ → State → Writes → Type 0) (c : Config) (start : State) (m : Memory) (h : List Entry)
    (seats : ℕ → Knowledge)
    (n : ℕ) (v w : Knowledge) (is : seats n ≡ v) where
  -- all facts over the changed parts are all facts after the step
  pub settle : (t : Change) → Fits v w t → Facts starts allows c start m h (changed (parts_of seats) n t)
      → Facts starts allows c start m h (parts_of (set_at seats n w))
  settle t fits = subst (Facts starts allows c start m h) (sym (parts_after seats n v w is t fits))

  -- a step that writes nothing and changes no part, but the trail
  pub unread : Fits v w unchanged → Facts starts allows c start m h (parts_of seats) → Facts starts allows c start m h (parts_of (set_at seats n w))
  unread = settle unchanged

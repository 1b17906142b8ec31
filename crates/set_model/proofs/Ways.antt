-- The ways to change the map of one name: what a change of any structure needs so that its commit is fit.
use Rattle.std.proofs.Common.{◌≡◌, ℕ, suc, ◌-◌, ◌<◌, ◌≤◌, ◌⊎◌, true, false, List, ◌++◌, length, set, refl, sym, ap, ◌∙◌, subst, arith, Some}
use Rattle.mv_history.specs.State.{State, Writes, written, touches}
use Rattle.mv_history.specs.Legal.{are_distinct}
use Rattle.mv_history.specs.Meaning.{words_at}
use Rattle.mv_history.specs.Drift.{IsFit}
use Rattle.mv_history.proofs.Writing.{length-written}
use Rattle.mv_history.proofs.Drifting.{drift_keeps_apart}
use Rattle.set_model.specs.declared.commands.Command.{Command}
use Rattle.set_model.specs.Catalogue.{Map, Maps, map_of, has_key, has_entry, value_of, put, take_out, cost}
use Rattle.set_model.specs.CatalogueOf.{name_of, catalogue_of}
use Rattle.set_model.specs.Replies.{changed, applies}
use Rattle.set_model.specs.Objects.{owner}
use Rattle.set_model.specs.Lawful.{IsLawful}
use Rattle.section_work.specs.OwnWrites.{objects_of}
use Rattle.set_model.specs.Tags.{tag_of}
use Rattle.set_model.specs.Rules.{capacity, IsInRange, Keeps, MakesSome, IsSetCommit}
use Rattle.set_model.proofs.ObjectWords.{word}
use Rattle.section_work.proofs.Objects.{IsIn, in_left, in_right, touches-in}
use Rattle.set_model.proofs.Halves.{KeepsOf, keeps_of, Half}
use Rattle.set_model.proofs.Replying.{overflows-fits, Works, works}
use Rattle.set_model.proofs.Cost.{cost_fits}

-- the object belongs to the structure of a head
abbrev pub IsAt : State → ℕ → ℕ → Type 0
IsAt s head o = (o ≡ head) ⊎ ((180 ≤ o) × (owner s o ≡ suc head))

-- the object is a node that is vacant
abbrev pub IsVacant : State → ℕ → Type 0
IsVacant s o = (180 ≤ o) × (o < length s) × (owner s o ≡ 0)

abbrev pub AreVacant : State → List ℕ → Type 0
AreVacant s os = (o : ℕ) → IsIn o os → IsVacant s o

-- these objects have the same words in both states
abbrev pub AreSame : State → State → List ℕ → Type 0
AreSame s s' os = (o : ℕ) → IsIn o os → words_at s' o ≡ words_at s o

-- A way to change the map of a head's name, where that map fits: it has a place in a state, and locks and writes objects of the
-- head's structure and vacant ones.
pub record Way (head : ℕ) (Fits : Map → Type 0) (change : Map → Map) : Type 1 where
  -- the states in which it has its place
  pub Place : State → Type 0
  -- the objects of the structure that it locks, and the vacant ones
  pub objects : List ℕ
  pub fresh : List ℕ
  -- it writes exactly these
  pub writes : State → Writes
  pub names : (s : State) → objects_of (writes s) ≡ objects ++ fresh
  -- the place stays where others write none of the objects
  pub stays : (s s' : State) (ws : Writes) → KeepsOf head s s' ws → ((o : ℕ) → IsIn o objects → touches ws o ≡ false) → AreSame s s' objects
      → Place s → Place s'
  -- and so do the writes
  pub same : (s s' : State) → AreSame s s' objects → writes s' ≡ writes s
  -- in a lawful state the objects differ and belong to the structure, and the writes change the map so
  pub distinct : (s : State) → IsLawful s → Place s → AreVacant s fresh → are_distinct (writes s) ≡ true
  pub owned : (s : State) → IsLawful s → Place s → (o : ℕ) → IsIn o objects → IsAt s head o
  pub half : (s : State) → IsLawful s → Place s → AreVacant s fresh → Half s (written s (writes s)) (writes s) head Fits change

-- a key is taken out that has this value
abbrev pub Has : ℕ → ℕ → Map → Type 0
Has k v m = value_of k m ≡ Some v

abbrev pub DelWay : ℕ → ℕ → ℕ → Type 1
DelWay head k v = Way head (Has k v) (take_out k)

-- a key that is not there is put with this value
abbrev pub Lacks : ℕ → Map → Type 0
Lacks k m = has_key k m ≡ false

abbrev pub AddWay : ℕ → ℕ → ℕ → Type 1
AddWay head k v = Way head (Lacks k) (put k v)

-- a key that is there with another value gets this one
abbrev pub HasOther : ℕ → ℕ → Map → Type 0
HasOther k v m = (has_key k m ≡ true) × (has_entry k v m ≡ false)

abbrev pub PutWay : ℕ → ℕ → ℕ → Type 1
PutWay head k v = Way head (HasOther k v) (put k v)

-- the command applies where the map of this name fits, and changes it so
pub record Does (command : Command) (name : ℕ) (Fits : Map → Type 0) (change : Map → Map) : Type 0 where
  pub in_range : IsInRange command
  pub applies : (c : Maps) → Fits (map_of name c) → applies command c ≡ true
  pub changes : (c : Maps) → Fits (map_of name c) → changed command c ≡ set c name (change (map_of name c))

-- a commit that keeps what it must and leaves the command's catalogue is one of the sets
pub set_commit : (command : Command) (s : State) (ws : Writes) → Keeps s (written s ws) ws → IsInRange command → applies command (catalogue_of s) ≡ true
    → catalogue_of (written s ws) ≡ changed command (catalogue_of s) → IsSetCommit (tag_of command) s ws
set_commit command s ws keeps range does leaves =
    let c : Maps = catalogue_of s in
    let fits = cost_fits (written s ws) keeps.lawful_after in
    let same : length (written s ws) ≡ length s = length-written s ws in
    let q : cost (catalogue_of (written s ws)) ≡ cost (changed command (catalogue_of s)) = ap cost leaves in
    let room : cost (changed command (catalogue_of s)) ≤ length s - 180 = omega arith in
    let w : Works command (catalogue_of s) (capacity s) =
    works command (catalogue_of s) (capacity s) does (overflows-fits command (catalogue_of s) (capacity s) room) in
    record {
      keeps = keeps;
      makes = subst (λ u. MakesSome u s (written s ws)) (sym w.tagged) (record { in_range = range; answer = w.answer; leaves = leaves ∙ sym w.leaves });
    }

-- what stays while others commit
pub record Stays (Place : State → Type 0) (from s : State) (held : List ℕ) : Type 0 where
  pub lawful : IsLawful s
  pub place : Place s
  pub len : length s ≡ length from
  pub words : AreSame from s held

pub vacant_same : (s s' : State) (os : List ℕ) → length s' ≡ length s → AreSame s s' os → AreVacant s os → AreVacant s' os
vacant_same s s' os e f v o i = let x : o < length s = (v o i).1 in ((v o i).0, omega arith, ap (word 0) (f o i) ∙ (v o i).2)

module _ {Fits : Map → Type 0} {change : Map → Map} (head : ℕ) (w : Way head Fits change) (command : Command) (does : Does command (name_of head) Fits change)
    (lh : head < 180) where
  -- The change is a commit of the sets.
  pub way_allowed : (s : State) → IsLawful s → w.Place s → AreVacant s w.fresh → IsSetCommit (tag_of command) s (w.writes s)
  way_allowed s l p v =
      let h : Half s (written s (w.writes s)) (w.writes s) head Fits change = w.half s l p v in
      set_commit command s (w.writes s) h.keeps does.in_range (does.applies (catalogue_of s) h.fits) (h.leaves ∙ sym (does.changes (catalogue_of s) h.fits))

  -- It stays one whatever others commit meanwhile that writes none of its objects.
  pub way_fit : (from : State) → IsLawful from → w.Place from → AreVacant from w.fresh → IsFit IsSetCommit from (tag_of command) (w.writes from)
  way_fit from l p v s drift =
      let i : Stays w.Place from s (w.objects ++ w.fresh) =
      drift_keeps_apart IsSetCommit (w.writes from) from (λ u. Stays w.Place from u (w.objects ++ w.fresh))
      (λ u tag ws m _ al apart kept. record {
        lawful = al.keeps.lawful_after;
        place = w.stays u (written u ws) ws (keeps_of head u (written u ws) ws lh al.keeps) (λ o j. apart o (in_w o (in_left w.objects w.fresh o j)))
            (λ o j. kept o (in_w o (in_left w.objects w.fresh o j))) m.place;
        len = length-written u ws ∙ m.len;
        words = λ o j. kept o (in_w o j) ∙ m.words o j;
      })
      (record { lawful = l; place = p; len = refl; words = λ o j. refl }) s drift in
      subst (λ ws. IsSetCommit (tag_of command) s ws) (w.same from s (λ o j. i.words o (in_left w.objects w.fresh o j)))
      (way_allowed s i.lawful i.place (vacant_same from s w.fresh i.len (λ o j. i.words o (in_right w.objects w.fresh o j)) v))
    where
      in_w : (o : ℕ) → IsIn o (w.objects ++ w.fresh) → touches (w.writes from) o ≡ true
      in_w o j = touches-in (w.writes from) o (subst (λ u. IsIn o u) (sym (w.names from)) j)

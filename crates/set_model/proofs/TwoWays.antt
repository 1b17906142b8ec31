-- A change of one head's structure and then a change of another one's, as one commit.
use Rattle.std.proofs.Common.{◌≡◌, ◌≢◌, ℕ, suc, ◌<◌, ◌≤◌, ◌⊎◌, inl, inr, Bool, true, false, List, [], ◌++◌, length}
use Rattle.std.proofs.Common.{set, refl, sym, ap, ◌∙◌, subst, arith, true≢false, get_or-set_other}
use Rattle.mv_history.specs.State.{State, Writes, written, touches}
use Rattle.mv_history.specs.Meaning.{words_at}
use Rattle.mv_history.specs.Drift.{IsFit}
use Rattle.mv_history.proofs.Writing.{length-written, words-written_other}
use Rattle.mv_history.proofs.Drifting.{drift_keeps_apart}
use Rattle.set_model.specs.declared.commands.Command.{Command}
use Rattle.set_model.specs.Catalogue.{Map, Maps, map_of}
use Rattle.set_model.specs.CatalogueOf.{name_of, catalogue_of}
use Rattle.set_model.specs.Replies.{changed, applies}
use Rattle.set_model.specs.Lawful.{IsLawful}
use Rattle.section_work.specs.OwnWrites.{with_locks, with_writes, objects_of}
use Rattle.set_model.specs.Tags.{tag_of}
use Rattle.set_model.specs.Rules.{IsInRange, Keeps, IsSetCommit}
use Rattle.section_work.proofs.Objects.{IsIn, in_left, in_right, in_either, touches-in, in-touches, touches-out}
use Rattle.section_work.proofs.OwnWrites.{written-with_locks, touches-with_locks, distinct-with_locks, same_locks, touches-with_writes}
use Rattle.section_work.proofs.OwnWrites.{written-with_writes, words-written_as}
use Rattle.set_model.proofs.Frames.{IsWithin, same_head, same_owned}
use Rattle.set_model.proofs.Halves.{keeps_of, keeps_other, within_back, Half, keeps_join}
use Rattle.set_model.proofs.Ways.{IsAt, IsVacant, AreVacant, AreSame, Way, set_commit, Stays, vacant_same}

-- the command applies where the maps of these two names fit, and changes them so
pub record DoesBoth (command : Command) (n m : ℕ) (Fits : Map → Type 0) (change : Map → Map) (Fits' : Map → Type 0) (change' : Map → Map) : Type 0 where
  pub in_range : IsInRange command
  pub applies : (c : Maps) → Fits (map_of n c) → Fits' (map_of m c) → applies command c ≡ true
  pub changes : (c : Maps) → Fits (map_of n c) → Fits' (map_of m c) → changed command c ≡ set (set c n (change (map_of n c))) m (change' (map_of m c))

apart_at : (s : State) (h g o : ℕ) → h < 180 → g < 180 → g ≢ h → IsAt s h o ⊎ IsVacant s o → IsAt s g o → ⊥
apart_at s h g o lh lg ne (inl (inl a)) (inl b) = ne (sym b ∙ a)
apart_at s h g o lh lg ne (inl (inl a)) (inr b) = let x : 180 ≤ o = b.0 in omega arith
apart_at s h g o lh lg ne (inl (inr a)) (inl b) = let x : 180 ≤ o = a.0 in omega arith
apart_at s h g o lh lg ne (inl (inr a)) (inr b) = ne (let x : suc g ≡ suc h = sym b.1 ∙ a.1 in omega arith)
apart_at s h g o lh lg ne (inr v) (inl b) = let x : 180 ≤ o = v.0 in omega arith
apart_at s h g o lh lg ne (inr v) (inr b) = let x : suc g ≡ 0 = sym b.1 ∙ v.2 in omega arith

-- an object of one structure keeps its words where another one changes
same_at : (s s' : State) (h g o : ℕ) → h < 180 → g < 180 → g ≢ h → IsWithin s s' h → IsAt s g o → words_at s' o ≡ words_at s o
same_at s s' h g o lh lg ne w (inl e) = ap (words_at s') e ∙ same_head s s' h g w ne lg ∙ ap (words_at s) (sym e)
same_at s s' h g o lh lg ne w (inr m) = same_owned s s' h g lh w ne o m.0 m.1

unwritten : (xs ys : Writes) (o : ℕ) → (touches ys o ≡ true → touches xs o ≡ true) → touches xs o ≡ false → touches ys o ≡ false
unwritten xs ys o f e = go (touches ys o) refl
  where
    go : (b : Bool) → touches ys o ≡ b → b ≡ false
    go true q = absurd (true≢false (sym (f q) ∙ e))
    go false q = refl

module _ {Fits Fits' : Map → Type 0} {change change' : Map → Map} (h g : ℕ) (d : Way h Fits change) (a : Way g Fits' change') where
  -- the objects of the second change
  abbrev more : List ℕ
  more = a.objects ++ a.fresh

  -- the state after the first change
  abbrev after_first : State → State
  after_first s = written s (d.writes s)

  -- what a section holds after the first change and then the second
  abbrev pub joined : State → Writes
  joined s = with_writes (with_locks (after_first s) (d.writes s) more) (a.writes (after_first s))

  -- both have their place in one state
  abbrev pub BothPlaces : State → Type 0
  BothPlaces s = d.Place s × a.Place s × AreVacant s d.fresh

  joined_in : (s : State) (o : ℕ) → (touches (d.writes s) o ≡ true) ⊎ IsIn o more → touches (joined s) o ≡ true
  joined_in s o i =
      touches-with_writes (with_locks (after_first s) (d.writes s) more) (a.writes (after_first s)) o ∙ touches-with_locks (after_first s) (d.writes s) more o i

  joined_first : (s : State) (o : ℕ) → IsIn o (d.objects ++ d.fresh) → touches (joined s) o ≡ true
  joined_first s o i = joined_in s o (inl (touches-in (d.writes s) o (subst (λ u. IsIn o u) (sym (d.names s)) i)))

  -- Where both have their place, the second change's objects are none of the first's, so it has its place and its writes after the first.
  module _ (lh : h < 180) (lg : g < 180) (other : g ≢ h) (s : State) (l : IsLawful s) (p : d.Place s) (f : AreVacant s d.fresh) (q : a.Place s) where
    pub ways_apart : (o : ℕ) → IsIn o a.objects → touches (d.writes s) o ≡ false
    ways_apart o i =
        touches-out (d.writes s) o
        (λ j. apart_at s h g o lh lg other (whose (in_either d.objects d.fresh o (subst (λ u. IsIn o u) (d.names s) j))) (a.owned s l q o i))
      where
        whose : IsIn o d.objects ⊎ IsIn o d.fresh → IsAt s h o ⊎ IsVacant s o
        whose (inl j) = inl (d.owned s l p o j)
        whose (inr j) = inr (f o j)

    same_after : AreSame s (after_first s) a.objects
    same_after o i = words-written_other s (d.writes s) o (ways_apart o i)

    pub place_after : a.Place (after_first s)
    place_after =
        let x : Half s (after_first s) (d.writes s) h Fits change = d.half s l p f in
        a.stays s (after_first s) (d.writes s) (keeps_other g h s (after_first s) (d.writes s) lh lg other l x.keeps.lawful_after x.within)
        ways_apart same_after q

    pub writes_after : a.writes (after_first s) ≡ a.writes s
    writes_after = a.same s (after_first s) same_after

  module _ (command : Command) (does : DoesBoth command (name_of h) (name_of g) Fits change Fits' change') (lh : h < 180) (lg : g < 180)
      (apart : name_of h ≢ name_of g) where
    other : g ≢ h
    other z = apart (ap name_of (sym z))

    -- The two changes are one commit of the sets.
    pub joined_allowed : (s : State) → IsLawful s → BothPlaces s → AreVacant (after_first s) a.fresh → IsSetCommit (tag_of command) s (joined s)
    joined_allowed s l b v =
        let ds : Writes = d.writes s in
        let s1 : State = written s (d.writes s) in
        let x : Half s s1 ds h Fits change = d.half s l b.0 b.2 in
        let place : a.Place s1 = place_after lh lg other s l b.0 b.2 b.1 in
        let es : Writes = a.writes (written s (d.writes s)) in
        let y : Half s1 (written s1 es) es g Fits' change' = a.half s1 x.keeps.lawful_after place v in
        let locks : Writes = with_locks s1 ds more in
        let held : (o : ℕ) → IsIn o (objects_of es) → touches locks o ≡ true =
        λ o i. touches-with_locks s1 ds more o (inr (subst (λ u. IsIn o u) (a.names s1) i)) in
        let whole : written s (joined s) ≡ written s1 es =
        written-with_writes s locks es (distinct-with_locks s1 ds more (d.distinct s l b.0 b.2)) held
        ∙ ap (λ u. written u es) (written-with_locks s s1 ds more (λ o i. refl)) in
        let y' : Half s1 (written s (joined s)) es g Fits' change' = subst (λ u. Half s1 u es g Fits' change') (sym whole) y in
        let keeps : Keeps s (written s (joined s)) (joined s) =
        keeps_join s s1 (written s (joined s)) h g ds es (joined s) lh lg other x.within y'.within x.keeps y'.keeps
        (λ o e. unwritten (joined s) ds o (λ t. joined_in s o (inl t)) e)
        (λ o e. unwritten (joined s) es o (λ t. joined_in s o (inr (subst (λ u. IsIn o u) (a.names s1) (in-touches es o t)))) e) in
        let same : map_of (name_of g) (catalogue_of s1) ≡ map_of (name_of g) (catalogue_of s) =
        ap (map_of (name_of g)) x.leaves ∙ get_or-set_other (catalogue_of s) (name_of h) (name_of g) (change (map_of (name_of h) (catalogue_of s))) []
        (λ z. apart (sym z)) in
        let fits : Fits' (map_of (name_of g) (catalogue_of s)) = subst Fits' same y.fits in
        let leaves : catalogue_of (written s (joined s)) ≡ changed command (catalogue_of s) =
        y'.leaves ∙ ap (λ m. set (catalogue_of s1) (name_of g) (change' m)) same
        ∙ ap (λ c. set c (name_of g) (change' (map_of (name_of g) (catalogue_of s)))) x.leaves ∙ sym (does.changes (catalogue_of s) x.fits fits) in
        set_commit command s (joined s) keeps does.in_range (does.applies (catalogue_of s) x.fits fits) leaves

    -- They stay one whatever others commit meanwhile that writes none of the objects of both.
    pub joined_fit : (from : State) → IsLawful from → BothPlaces from → AreVacant (after_first from) a.fresh
        → IsFit IsSetCommit from (tag_of command) (joined from)
    joined_fit from l b v s drift =
        let i : Stays BothPlaces from s held = drift_keeps_apart IsSetCommit (joined from) from (λ u. Stays BothPlaces from u held)
        (λ u tag ws m _ al out kept. record {
          lawful = al.keeps.lawful_after;
          place = (
            d.stays u (written u ws) ws (keeps_of h u (written u ws) ws lh al.keeps) (λ o j. out o (in_held o (in_d o j)))
                (λ o j. kept o (in_held o (in_d o j))) m.place.0,
            a.stays u (written u ws) ws (keeps_of g u (written u ws) ws lg al.keeps) (λ o j. out o (in_held o (in_a o j)))
                (λ o j. kept o (in_held o (in_a o j))) m.place.1,
            vacant_same u (written u ws) d.fresh (length-written u ws) (λ o j. kept o (in_held o (in_f o j))) m.place.2,
          );
          len = length-written u ws ∙ m.len;
          words = λ o j. kept o (in_held o j) ∙ m.words o j;
        })
        (record { lawful = l; place = b; len = refl; words = λ o j. refl }) s drift in
        let wd : d.writes s ≡ d.writes from = d.same from s (λ o j. i.words o (in_d o j)) in
        let t : State = written s (d.writes s) in
        let u : State = written from (d.writes from) in
        let len : length t ≡ length u = length-written s (d.writes s) ∙ i.len ∙ sym (length-written from (d.writes from)) in
        let same : AreSame u t more = λ o j.
        ap (λ w. words_at (written s w) o) wd ∙ words-written_as s from (d.writes from) o i.len (i.words o (in_right (d.objects ++ d.fresh) more o j)) in
        let wa : a.writes t ≡ a.writes u = a.same u t (λ o j. same o (in_left a.objects a.fresh o j)) in
        let all : joined s ≡ joined from =
        ap (λ w. with_writes (with_locks t (d.writes s) more) w) wa
        ∙ ap (λ w. with_writes w (a.writes u)) (same_locks t u (d.writes s) more same ∙ ap (λ w. with_locks u w more) wd) in
        subst (λ w. IsSetCommit (tag_of command) s w) all
        (joined_allowed s i.lawful i.place (vacant_same u t a.fresh len (λ o j. same o (in_right a.objects a.fresh o j)) v))
      where
        held : List ℕ
        held = (d.objects ++ d.fresh) ++ more

        in_held : (o : ℕ) → IsIn o ((d.objects ++ d.fresh) ++ more) → touches (joined from) o ≡ true
        in_held o j = elim (in_either (d.objects ++ d.fresh) more o j) [ inl k ↦ joined_first from o k | inr k ↦ joined_in from o (inr k) ]

        in_d : (o : ℕ) → IsIn o d.objects → IsIn o ((d.objects ++ d.fresh) ++ more)
        in_d o j = in_left (d.objects ++ d.fresh) more o (in_left d.objects d.fresh o j)

        in_f : (o : ℕ) → IsIn o d.fresh → IsIn o ((d.objects ++ d.fresh) ++ more)
        in_f o j = in_left (d.objects ++ d.fresh) more o (in_right d.objects d.fresh o j)

        in_a : (o : ℕ) → IsIn o a.objects → IsIn o ((d.objects ++ d.fresh) ++ more)
        in_a o j = in_right (d.objects ++ d.fresh) more o (in_left a.objects a.fresh o j)

    -- So where the second change found its place in the state after the first.
    pub joined_found : (from : State) → IsLawful from → d.Place from → AreVacant from d.fresh → a.Place (after_first from)
        → AreVacant (after_first from) a.fresh → IsFit IsSetCommit from (tag_of command) (joined from)
    joined_found from l p f q v =
        let s1 : State = written from (d.writes from) in
        let x : Half from s1 (d.writes from) h Fits change = d.half from l p f in
        let back : IsWithin s1 from h = within_back from s1 h x.within in
        let place : a.Place from = a.stays s1 from [] (keeps_other g h s1 from [] lh lg other x.keeps.lawful_after l back) (λ o i. refl)
        (λ o i. same_at s1 from h g o lh lg other back (a.owned s1 x.keeps.lawful_after q o i)) q in
        joined_fit from l (p, place, f) v

-- What holds of the seats that met: a closing tells of each one's trail, and of the same seats once it was read.
use Rattle.std.proofs.Common.{◌≡◌, ◌≢◌, ℕ, ◌+◌, ◌<◌, List, [], ◌∷◌, ◌++◌, length, take, get_or, All}
use Rattle.std.proofs.Common.{refl, sym, ap, ◌∙◌, subst, inl, inr, ⊎_elim, append_assoc, length-append, arith}
use Rattle.std.specs.Prelude.{AllPairs, Contains}
use Rattle.std.proofs.Math.Seq.{take-append_seam}
use Rattle.std.proofs.lemmas.Bool.{cases_order}
use Rattle.std.proofs.lemmas.List.{get_or_default}
use Rattle.std.proofs.lemmas.List.Elements.{All-append, All-contains, All-weaker, Contains-append_right}
use Rattle.mv_history.specs.declared.Step.{Step}
use Rattle.mv_history.specs.declared.StepKind.{StepKind}
use Rattle.mv_history.specs.declared.StepKind.TheVariants.{LoadJoined}
use Rattle.mv_history.specs.Meaning.{Seat}
use Rattle.mv_layout.specs.declared.Config.{Config}
use Rattle.object_lock.specs.reader_marks.Sections.{IsEnterStep}
use Rattle.mvrlu.specs.MetSeats.{MetSeat, met_seat, IsLookStep, MeetsBy}
use Rattle.mvrlu.specs.Whole.{Whole, IsStill, IsLeftSeat, IsMetSeat, AreApart, TellsTrails}

-- no step of an entering loads CLOCK as a meeting does, nor does one of reading
enter_other : (k : StepKind) → IsEnterStep k → k ≢ LoadJoined
enter_other k is e = absurd (subst IsEnterStep e is)

look_other : (k : StepKind) → IsLookStep k → k ≢ LoadJoined
look_other k is e = absurd (subst IsLookStep e is)

-- where no later step is such a load, that of this place is none of them
not_behind : (us ys vs : List Step) (x y : Step) → All (λ s. s.kind ≢ LoadJoined) us → y.kind ≡ LoadJoined → us ≡ ys ++ y ∷ vs → ⊥
not_behind us ys vs x y none load e =
    All-contains (λ (s : Step). s.kind ≢ LoadJoined) us y none
    (subst (λ ss. Contains ss y) (sym e) (Contains-append_right ys (y ∷ vs) y (0, omega arith, refl))) load

-- what stands before the last of these loads is the same, however a trail is divided there
before_load : (xs ys us vs : List Step) (x y : Step) → x.kind ≡ LoadJoined → y.kind ≡ LoadJoined → All (λ s. s.kind ≢ LoadJoined) us
    → All (λ s. s.kind ≢ LoadJoined) vs → xs ++ x ∷ us ≡ ys ++ y ∷ vs → xs ≡ ys
before_load [] [] us vs x y p q none others e = refl
before_load [] (b ∷ ys) us vs x y p q none others e = let tail : us ≡ ys ++ y ∷ vs = cc in absurd (not_behind us ys vs x y none q tail)
before_load (a ∷ xs) [] us vs x y p q none others e = let tail : vs ≡ xs ++ x ∷ us = cc in absurd (not_behind vs xs us y x others p tail)
before_load (a ∷ xs) (b ∷ ys) us vs x y p q none others e =
    let head : a ≡ b = cc in
    let tail : xs ++ x ∷ us ≡ ys ++ y ∷ vs = cc in
    ap (λ z. z ∷ xs) head ∙ ap (λ zs. b ∷ zs) (before_load xs ys us vs x y p q none others tail)

-- so is what stands before as many more steps
before_many : (xs ys us vs : List Step) → xs ++ us ≡ ys ++ vs → length us ≡ length vs → xs ≡ ys
before_many xs ys us vs e many =
    let long = ap length e in
    let one = length-append xs us in
    let two = length-append ys vs in
    let same : length xs ≡ length ys = omega arith in
    sym (take-append_seam xs us) ∙ ap (take (length xs)) e ∙ ap (λ n. take n (ys ++ vs)) same ∙ take-append_seam ys vs

-- a trail with its two loads in front of all other steps
divided : (seats : ℕ) (before after : List Step) (m : MeetsBy seats before after)
    → after ≡ ((before ++ m.joins) ++ m.first ∷ m.entering) ++ m.last ∷ m.looks
divided seats before after m =
    m.trail
    ∙ sym (append_assoc (before ++ m.joins) (m.first ∷ m.entering) (m.last ∷ m.looks)
    ∙ append_assoc before m.joins (m.first ∷ (m.entering ++ m.last ∷ m.looks)))

-- there is one way at most to divide a trail into that of a seat and the steps since it met so many
meets_once : (seats : ℕ) (a b after : List Step) → MeetsBy seats a after → MeetsBy seats b after → a ≡ b
meets_once seats a b after m n =
    let looks : (o : List Step) → All (λ s. IsLookStep s.kind) o → All (λ s. s.kind ≢ LoadJoined) o =
    λ o all. All-weaker (λ (s : Step). IsLookStep s.kind) (λ s. s.kind ≢ LoadJoined) (λ s is. look_other s.kind is) o all in
    let enters : (o : List Step) → All (λ s. IsEnterStep s.kind) o → All (λ s. s.kind ≢ LoadJoined) o =
    λ o all. All-weaker (λ (s : Step). IsEnterStep s.kind) (λ s. s.kind ≢ LoadJoined) (λ s is. enter_other s.kind is) o all in
    let outer : (a ++ m.joins) ++ m.first ∷ m.entering ≡ (b ++ n.joins) ++ n.first ∷ n.entering =
    before_load ((a ++ m.joins) ++ m.first ∷ m.entering) ((b ++ n.joins) ++ n.first ∷ n.entering) m.looks n.looks m.last n.last m.last_kind n.last_kind
    (looks m.looks m.look_kinds) (looks n.looks n.look_kinds) (sym (divided seats a after m) ∙ divided seats b after n) in
    let inner : a ++ m.joins ≡ b ++ n.joins =
    before_load (a ++ m.joins) (b ++ n.joins) m.entering n.entering m.first n.first m.first_kind n.first_kind
    (enters m.entering m.enter_kinds) (enters n.entering n.enter_kinds) outer in
    let one = m.many in
    let two = n.many in
    before_many a b m.joins n.joins inner (omega arith)

-- two that are one of the others are alike, where they have one number
same_other : (w : Whole) → AreApart w → (x y : MetSeat) → Contains w.others x → Contains w.others y → x.number ≡ y.number → x ≡ y
same_other w apart x y (i, within, at) (j, inside, there) same =
    let second : get_or w.others j x ≡ y = get_or_default w.others j x y inside ∙ there in
    let of_first = ap (λ (m : MetSeat). m.number) at in
    let of_second = ap (λ (m : MetSeat). m.number) second in
    ⊎_elim
    (λ (eq : i ≡ j). sym at ∙ ap (λ k. get_or w.others k x) eq ∙ second)
    (λ ne.
    ⊎_elim
    (λ (lt : i < j). absurd (apart.others i j x lt inside (of_first ∙ same ∙ sym of_second)))
    (λ (gt : j < i). absurd (apart.others j i x gt within (of_second ∙ sym same ∙ sym of_first)))
    ne)
    (cases_order i j)

-- of each number one trail is that of a seat that met
pub one_trail : (w : Whole) → AreApart w → TellsTrails w
one_trail w apart s t first second same =
    ⊎_elim
    (λ (a : Contains w.others (met_seat s)).
    ⊎_elim
    (λ (b : Contains w.others (met_seat t)). ap (λ (m : MetSeat). m.trail) (same_other w apart (met_seat s) (met_seat t) a b same))
    (λ (b : IsLeftSeat w t). absurd (All-contains (λ (m : MetSeat). m.number ≢ w.number) w.others (met_seat s) apart.left a (same ∙ b.number)))
    second)
    (λ (a : IsLeftSeat w s).
    ⊎_elim
    (λ (b : Contains w.others (met_seat t)).
    absurd (All-contains (λ (m : MetSeat). m.number ≢ w.number) w.others (met_seat t) apart.left b (sym same ∙ a.number)))
    (λ (b : IsLeftSeat w t). meets_once w.config.seats s.trail t.trail w.trail a.steps b.steps)
    second)
    first

-- the steps of a meeting, with more reads of the closing
meets_on : (seats : ℕ) (before after later more : List Step) → MeetsBy seats before after → later ≡ after ++ more
    → All (λ s. IsLookStep s.kind) more → MeetsBy seats before later
meets_on seats before after later more m is looks = record {
  joins = m.joins;
  first = m.first;
  entering = m.entering;
  last = m.last;
  looks = m.looks ++ more;
  trail = is ∙ ap (λ x. x ++ more) m.trail
      ∙ append_assoc before (m.joins ++ m.first ∷ (m.entering ++ m.last ∷ m.looks)) more
      ∙ ap (λ x. before ++ x) (append_assoc m.joins (m.first ∷ (m.entering ++ m.last ∷ m.looks)) more
      ∙ ap (λ x. m.joins ++ m.first ∷ x) (append_assoc m.entering (m.last ∷ m.looks) more));
  many = m.many;
  join_kinds = m.join_kinds;
  first_kind = m.first_kind;
  enter_kinds = m.enter_kinds;
  last_kind = m.last_kind;
  look_kinds = All-append (λ (s : Step). IsLookStep s.kind) m.looks more m.look_kinds looks;
}

-- a seat that met is still one of those that met once the closing was read
pub still_met : (v w : Whole) → IsStill v w → (s : Seat) → IsMetSeat v s → IsMetSeat w s
still_met v w k s is =
    ⊎_elim
    (λ (other : Contains v.others (met_seat s)). inl (subst (λ ms. Contains ms (met_seat s)) (sym k.others) other))
    (λ (left : IsLeftSeat v s). inr (record {
      number = left.number ∙ sym k.number;
      steps = subst (λ n. MeetsBy n s.trail w.trail) (ap (λ (c : Config). c.seats) (sym k.config))
          (meets_on v.config.seats s.trail v.trail w.trail k.trail.0 left.steps k.trail.1 k.trail.2);
    }))
    is

-- and they all have numbers of their own
pub still_apart : (v w : Whole) → IsStill v w → AreApart v → AreApart w
still_apart v w k a = record {
  left = subst (λ n. All (λ m. m.number ≢ n) w.others) (sym k.number) (subst (λ ms. All (λ m. m.number ≢ v.number) ms) (sym k.others) a.left);
  others = subst (λ ms. AllPairs (λ m n. m.number ≢ n.number) ms) (sym k.others) a.others;
}

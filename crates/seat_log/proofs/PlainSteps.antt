-- The log stands for the pass after steps that leave it alone: none frees a slot, cuts a chain, locks an object or gives one up.
use Rattle.std.proofs.Common.{◌≡◌, ℕ, Bool, true, false, count_by, List, [], ◌∷◌, ◌++◌, All, refl, ap, subst, sym}
use Rattle.std.specs.Prelude.{◌&&◌, ◌||◌, is_some}
use Rattle.std.proofs.lemmas.List.Elements.{All-nil, All-cons, All-weaker}
use Rattle.mv_history.specs.declared.Step.{Step}
use Rattle.mv_history.specs.declared.StepKind.{StepKind}
use Rattle.mv_layout.specs.declared.Config.{Config}
use Rattle.reader_marks.specs.mv_core.declared.view.Knowledge.{Knowledge}
use Rattle.reader_marks.specs.mv_core.EnterSteps.{mark_cleared}
use Rattle.reader_marks.specs.commit_clock.Helps.{IsHelpStep}
use Rattle.reader_marks.proofs.commit_clock_lemmas.HelpKinds.{help_kind}
use Rattle.reader_marks.specs.Sections.{IsEnterStep, Begins}
use Rattle.reader_marks.proofs.EnterKinds.{enter_kind}
use Rattle.seat_log.specs.Notes.{Noted}
use Rattle.seat_log.specs.Stands.{is_free_kind, is_cut_kind, is_lock_kind, is_unlock_kind, is_free, is_won_cut, is_won_lock, is_unlock, Stands}
use Rattle.seat_log.proofs.BuildsOn.{unpassed}
use Rattle.seat_log.proofs.StepCounts.{KeepsLocks, none_more, keeps_one, keeps_more}
use Rattle.seat_log.proofs.Stays.{stands_same}

-- whether a step of this kind may write a HEAD: to cut a chain, to lock an object or to give one up
abbrev pub is_head_kind : StepKind → Bool
is_head_kind kind = is_cut_kind kind || is_lock_kind kind || is_unlock_kind kind

-- a step of this kind neither frees a slot nor writes a HEAD
abbrev pub LeavesLog : StepKind → Type 0
LeavesLog kind = (is_free_kind kind ≡ false) × (is_head_kind kind ≡ false)

-- and none of these steps does
abbrev pub AllLeaveLog : List Step → Type 0
AllLeaveLog steps = All (λ (s : Step). LeavesLog s.kind) steps

-- a step that frees no slot, cuts no chain, locks no object and gives none up; a lost exchange does none of these
abbrev pub IsPlain : Step → Type 0
IsPlain s = (is_free s ≡ false) × (is_won_cut s ≡ false) × (is_won_lock s ≡ false) × (is_unlock s ≡ false)

-- and all of these are such
abbrev pub ArePlain : List Step → Type 0
ArePlain steps = All IsPlain steps

-- neither of two
or_false : (a b : Bool) → (a || b) ≡ false → (a ≡ false) × (b ≡ false)
or_false true b e = absurd (cc)
or_false false b e = (refl, e)

-- a step of a kind that leaves the log alone is plain
pub one_plain : (s : Step) → LeavesLog s.kind → IsPlain s
one_plain s p =
    let unlock = or_false (is_cut_kind s.kind || is_lock_kind s.kind) (is_unlock_kind s.kind) p.1 in
    let lock = or_false (is_cut_kind s.kind) (is_lock_kind s.kind) unlock.0 in
    (p.0, ap (λ b. b && is_some s.stored) lock.0, ap (λ b. b && is_some s.stored) lock.1, unlock.1)

-- and so are all steps of such kinds
pub all_plain : (steps : List Step) → AllLeaveLog steps → ArePlain steps
all_plain steps all = All-weaker (λ (s : Step). LeavesLog s.kind) IsPlain one_plain steps all

-- so as many slots were freed after such steps
pub frees_left : (before after steps : List Step) → after ≡ before ++ steps → ArePlain steps → count_by is_free after ≡ count_by is_free before
frees_left before after steps trail all =
    none_more is_free before after steps trail (All-weaker IsPlain (λ s. is_free s ≡ false) (λ s p. p.0) steps all)

-- and as many chains cut
pub cuts_left : (before after steps : List Step) → after ≡ before ++ steps → ArePlain steps → count_by is_won_cut after ≡ count_by is_won_cut before
cuts_left before after steps trail all =
    none_more is_won_cut before after steps trail (All-weaker IsPlain (λ s. is_won_cut s ≡ false) (λ s p. p.1) steps all)

-- and as many objects locked, and as many sections aborted
pub locks_left : (before after steps : List Step) → after ≡ before ++ steps → ArePlain steps → KeepsLocks before after
locks_left before after steps trail all =
    keeps_more before after steps trail (All-weaker IsPlain (λ s. is_won_lock s ≡ false) (λ s p. p.2) steps all)
    (All-weaker IsPlain (λ s. is_unlock s ≡ false) (λ s p. p.3) steps all)

-- the log stands after such steps
pub stands_plain : (c : Config) (v w : Knowledge) (l : Noted) → Stands c v l → w.number ≡ v.number → w.ring ≡ v.ring
    → w.past.mine ≡ v.past.mine → w.past.rests ≡ v.past.rests → (steps : List Step) → w.trail ≡ v.trail ++ steps → ArePlain steps → Stands c w l
stands_plain c v w l k number ring mine rests steps trail all =
    stands_same c v w l number ring mine rests (frees_left v.trail w.trail steps trail all) (cuts_left v.trail w.trail steps trail all)
    (locks_left v.trail w.trail steps trail all) k

-- and after steps of kinds that leave it alone
pub stands_left : (c : Config) (v w : Knowledge) (l : Noted) → Stands c v l → w.number ≡ v.number → w.ring ≡ v.ring
    → w.past.mine ≡ v.past.mine → w.past.rests ≡ v.past.rests → (steps : List Step) → w.trail ≡ v.trail ++ steps → AllLeaveLog steps → Stands c w l
stands_left c v w l k number ring mine rests steps trail all =
    stands_plain c v w l k number ring mine rests steps trail (all_plain steps all)

-- what holds of a kind of steps holds of all steps of such kinds
pub kinds_leave : (P : StepKind → Type 0) → ((kind : StepKind) → P kind → LeavesLog kind) → (steps : List Step) → All (λ s. P s.kind) steps → AllLeaveLog steps
kinds_leave P leaves steps all = All-weaker (λ (s : Step). P s.kind) (λ s. LeavesLog s.kind) (λ s. leaves s.kind) steps all

-- steps of one such kind
pub kind_leaves : (kind : StepKind) → LeavesLog kind → (steps : List Step) → All (λ s. s.kind ≡ kind) steps → AllLeaveLog steps
kind_leaves kind leaves steps all =
    All-weaker (λ (s : Step). s.kind ≡ kind) (λ s. LeavesLog s.kind) (λ s e. subst LeavesLog (sym e) leaves) steps all

-- one step
pub one_leaves : (s : Step) → LeavesLog s.kind → AllLeaveLog (s ∷ [])
one_leaves s leaves = All-cons (λ (t : Step). LeavesLog t.kind) s [] leaves (All-nil (λ (t : Step). LeavesLog t.kind))

-- the steps of entering a section leave the log alone
enter_leaves : (kind : StepKind) → IsEnterStep kind → LeavesLog kind
enter_leaves = enter_kind LeavesLog (refl, refl) (refl, refl) (refl, refl) (refl, refl) (refl, refl) (refl, refl)

-- and those of a help
pub help_leaves : (kind : StepKind) → IsHelpStep kind → LeavesLog kind
help_leaves = help_kind LeavesLog (refl, refl) (refl, refl) (refl, refl)

-- after a section was entered
pub stands_entered : (c : Config) (v w : Knowledge) (l : Noted) (time : ℕ) → Begins c v w time → Stands c v l → Stands c w l
stands_entered c v w l time b k =
    let e = b.entered in
    stands_left c v w l k (ap (λ (u : Knowledge). u.number) b.rest) (ap (λ (u : Knowledge). u.ring) b.rest) (ap (λ (u : Knowledge). u.past.mine) b.rest)
    (ap (λ (u : Knowledge). u.past.rests) b.rest) e.steps e.trail (kinds_leave IsEnterStep enter_leaves e.steps e.kinds)

-- and after it was left
pub stands_unmarked : (c : Config) (v : Knowledge) (l : Noted) → Stands c v l → Stands c (mark_cleared c v) l
stands_unmarked c v l k =
    stands_same c v (mark_cleared c v) l refl refl refl refl (unpassed is_free v.trail _ refl) (unpassed is_won_cut v.trail _ refl)
    (keeps_one v.trail _ refl refl) k

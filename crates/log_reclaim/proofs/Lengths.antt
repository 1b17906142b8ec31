-- How many steps the parts of a reclaiming call make, and how much longer the trail is after them.
use Rattle.std.proofs.Common.{◌≡◌, ℕ, ◌+◌, ◌*◌, ◌≤◌, List, [], ◌∷◌, ◌++◌, length, length-append, ap, ◌∙◌, arith}
use Rattle.mv_history.specs.declared.Step.{Step}
use Rattle.mv_layout.specs.declared.Config.{Config}
use Rattle.seat_log.specs.mv_core.declared.view.Knowledge.{Knowledge}
use Rattle.seat_log.specs.commit_clock.Helps.{Helps}
use Rattle.seat_log.specs.reader_marks.declared.scanning.Watermark.{Watermark}
use Rattle.seat_log.specs.reader_marks.Scans.{Scans, scan_steps}
use Rattle.seat_log.specs.reader_marks.Sections.{Begins}
use Rattle.seat_log.specs.Notes.{Noted}
use Rattle.seat_log.specs.Stands.{Stands}
use Rattle.log_reclaim.specs.Rounds.{FreesAll}

-- one step more
pub one_longer : (t u : List Step) (s : Step) → u ≡ t ++ s ∷ [] → length u ≡ length t + 1
one_longer t u s is = ap length is ∙ length-append t (s ∷ [])

-- a section was entered
pub entered_longer : (c : Config) (v w : Knowledge) (time : ℕ) → Begins c v w time → length w.trail ≤ length v.trail + 6
entered_longer c v w time b =
    let long = ap length b.entered.trail ∙ length-append v.trail b.entered.steps in let few = b.entered.few in omega arith

-- a word of CLOCK was helped
pub helped_longer : (c : Config) (v w : Knowledge) (word : ℕ) → Helps c v w word → length w.trail ≤ length v.trail + 3
helped_longer c v w word k = let long = ap length k.trail.1 ∙ length-append v.trail k.trail.0 in let few = k.trail.2 in omega arith

-- slots were freed
pub freed_longer : (v w : Knowledge) (l m : Noted) (made : List Step) (time freed : ℕ) → FreesAll v w l m made time freed
    → length w.trail ≡ length v.trail + freed
freed_longer v w l m made time freed k =
    let long = ap length k.makes.reclaims.trail ∙ length-append v.trail made in let few = k.long in omega arith

-- a scan was made
pub scanned_longer : (c : Config) (v w : Knowledge) (mark : Watermark) (clock before after : ℕ) → Scans c v w mark clock before after
    → after ≤ before + (c.seats + 3) → length w.trail ≤ length v.trail + (c.seats + 3)
scanned_longer c v w mark clock before after k few =
    let long : length w.trail ≡ length v.trail + length (scan_steps c v.number k.word k.marks mark.low k.found) =
    ap (λ (u : Knowledge). length u.trail) k.view ∙ length-append v.trail (scan_steps c v.number k.word k.marks mark.low k.found) in
    let count = k.count in
    omega arith

-- a log has as many versions as slots at most
pub live_few : (c : Config) (v : Knowledge) (l : Noted) → Stands c v l → length l.live ≤ c.slots
live_few c v l k = let spare = k.spare in omega arith

-- no step
pub none_more : (a more : ℕ) → a ≤ a + more
none_more a more = omega arith

-- a look at HEAD in a section that was entered, which was left then or not
pub looked_bound : (a b d : ℕ) → b ≤ a + 6 → d ≡ b + 1 → d ≤ a + 8
looked_bound a b d enters looks = omega arith

pub left_bound : (a b d e : ℕ) → b ≤ a + 6 → d ≡ b + 1 → e ≡ d + 1 → e ≤ a + 8
left_bound a b d e enters looks leaves = omega arith

-- a write-back that ended
pub uncut_bound : (a b d : ℕ) → b ≡ a + 1 → d ≡ b + 1 → d ≤ a + 3
uncut_bound a b d tries leaves = omega arith

pub cut_bound : (a b d e : ℕ) → b ≡ a + 1 → d ≡ b + 1 → e ≡ d + 1 → e ≤ a + 3
cut_bound a b d e tries loads leaves = omega arith

-- two parts
pub two_bounds : (a b d k m : ℕ) → b ≤ a + k → d ≤ b + m → d ≤ a + (k + m)
two_bounds a b d k m first then = omega arith

pub more_bound : (a b k m : ℕ) → b ≤ a + k → b ≤ a + (k + m)
more_bound a b k m le = omega arith

-- a load of SUPER, alone, before a write-back, or after one that didn't start
pub super_bound : (a b : ℕ) → b ≡ a + 1 → b ≤ a + 18
super_bound a b loads = omega arith

pub looks_bound : (a b d : ℕ) → b ≡ a + 1 → d ≤ b + 17 → d ≤ a + 18
looks_bound a b d loads writes = omega arith

pub gone_bound : (a b d : ℕ) → b ≤ a + 8 → d ≡ b + 1 → d ≤ a + 17
gone_bound a b d starts loads = omega arith

-- one try of a rest
pub helped_bound : (a b d : ℕ) → b ≡ a + 1 → d ≤ b + 3 → d ≤ a + 5
helped_bound a b d loads helps = omega arith

pub rested_bound : (a b d e : ℕ) → b ≡ a + 1 → d ≤ b + 3 → e ≡ d + 1 → e ≤ a + 5
rested_bound a b d e loads helps tries = omega arith

-- a scan, a look at each version, and the frees then
pub scanned_bound : (a b d e seats live freed : ℕ) → b ≤ a + (seats + 3) → d ≤ b + 18 * live → e ≡ d + freed
    → e ≤ a + (seats + 3 + 18 * live + freed)
scanned_bound a b d e seats live freed scans settles frees = omega arith

-- a round of which the first frees left nothing, and one of which they left something
pub emptied_bound : (a b d seats live freed : ℕ) → b ≡ a + 1 → d ≡ b + freed → freed ≤ live → d ≤ a + (4 + seats + 19 * live)
emptied_bound a b d seats live freed loads frees few = omega arith

pub swept_bound : (a b d e seats live left then freed more : ℕ) → b ≡ a + 1 → d ≡ b + freed → e ≤ d + (seats + 3 + 18 * left + more)
    → left + freed ≡ live → then + more ≡ left → e ≤ a + (4 + seats + 19 * live)
swept_bound a b d e seats live left then freed more loads frees scans first second = omega arith

pub round_bound : (a b seats live slots : ℕ) → b ≤ a + (4 + seats + 19 * live) → live ≤ slots → b ≤ a + (4 + seats + 20 * slots)
round_bound a b seats live slots sweeps few = omega arith

-- a tidy of what its first frees left, and with those
pub tidied_bound : (a b d e seats live left then freed : ℕ) → b ≤ a + (seats + 3 + 18 * live + freed) → d ≤ b + 5
    → e ≤ d + (4 + seats + 19 * then) → then ≡ left → left + freed ≡ live → e ≤ a + (2 * seats + 38 * live + 12)
tidied_bound a b d e seats live left then freed scans rests sweeps same few = omega arith

pub whole_bound : (a b d e seats live left slots freed : ℕ) → b ≡ a + 1 → d ≡ b + freed → e ≤ d + (2 * seats + 38 * left + 12)
    → left + freed ≡ live → live ≤ slots → e ≤ a + (2 * (4 + seats + 20 * slots) + 8)
whole_bound a b d e seats live left slots freed loads frees tidies few room = omega arith

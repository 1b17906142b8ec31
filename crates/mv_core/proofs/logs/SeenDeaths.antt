-- Deaths that were noted, and what their seats have seen: a step keeps the fact where it notes no death and each seat has seen no less.
use Rattle.std.proofs.Common.{◌≡◌, ℕ, ◌+◌, ◌<◌, ◌≤◌, length, refl, subst, sym, ap, ◌∙◌, arith, length-append, Some, None}
use Rattle.std.specs.Prelude.{slice_set}
use Rattle.mv_core.proofs.Terms.{Config, Ring, Live, Version, WriteSetStatus, Past, set_at}
use Rattle.mv_core.proofs.FactTerms.{BeginsWith, death_in, DeathSeen, DeathsSeen}
use Rattle.mv_core.proofs.frames.FrameLaw.{set_at_all}
use Rattle.mv_core.proofs.logs.Links.{live_once}
use Rattle.mv_core.proofs.logs.Slots.{slots_after}

-- where no death is noted, none is late
pub none_noted : (now : ℕ) (st : WriteSetStatus) → death_in st ≡ None → DeathSeen now st
none_noted now st none dead e = let clash : None ≡ Some dead = sym none ∙ e in absurd (cc)

-- a death that was seen is so later on
pub seen_later : (now later : ℕ) (st : WriteSetStatus) → now ≤ later → DeathSeen now st → DeathSeen later st
seen_later now later st le old dead e =
    let r = old dead e in
    let late = r.0 in
    (omega arith, λ uncut. let early = r.1 uncut in omega arith)

-- one seat sees more, and the logs stay
pub sees_on : (c : Config) (past : ℕ → Past) (rings : ℕ → Ring) (n : ℕ) (p : Past) → BeginsWith p.seen (past n).seen → DeathsSeen c past rings
    → DeathsSeen c (set_at past n p) rings
sees_on c past rings n p front old s k x st lives =
    let long : length p.seen ≡ length (past n).seen + length front.0 = ap length front.1 ∙ length-append (past n).seen front.0 in
    let more : length (past s).seen ≤ length (set_at past n p s).seen =
    set_at_all (λ t (q : Past). length (past t).seen ≤ length q.seen) past n p (omega arith) (λ t ne. omega arith) s in
    seen_later (c.base + length (past s).seen) (c.base + length (set_at past n p s).seen) st (omega arith) (old s k x st lives)

-- a version was written with a status whose death was seen, and all other slots stay
pub seen_put : (c : Config) (past : ℕ → Past) (rings : ℕ → Ring) (n k : ℕ) (r : Ring) (x : Version) (st : WriteSetStatus)
    → r.slots ≡ slice_set (rings n).slots k (Live x st) → k < length (rings n).slots → DeathSeen (c.base + length (past n).seen) st → DeathsSeen c past rings
    → DeathsSeen c past (set_at rings n r)
seen_put c past rings n k r x st written within here old =
    slots_after rings n k (Live x st) r written within (λ s j z. (y : Version) (su : WriteSetStatus) → z ≡ Live y su
    → DeathSeen (c.base + length (past s).seen) su)
    (λ y su e. subst (DeathSeen (c.base + length (past n).seen)) (live_once (Live x st) x y st su refl e).1 here)
    (λ s j ne. old s j)

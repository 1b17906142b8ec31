use Rattle.std.proofs.Common.{ℕ, ◌<◌, sym, ◌∙◌, subst}
use Rattle.mv_history.proofs.LockAnswers.{held_or_free}
use Rattle.mvrlu.proofs.Alone.{none_refuses}
use Rattle.mvrlu.proofs.Ranges.{objects_are}
use Rattle.mvrlu.proofs.session.SessionSection.try_lock_with.Goals as goal

pub lock_at-requires-clause-range : goal.lock_at-requires-clause-range
lock_at-requires-clause-range g c =
    subst (λ (n : ℕ). c.args.object < n) (objects_are c.args.self.now.domain.now.shared c.args.self.now.part.busy c.args.self.now.fits) c.requires

pub returns-clause-busy : goal.returns-clause-busy
returns-clause-busy g c seat e = let a = c.lock_at.ensures.taken seat e in (tt, a.0, a.1)

pub returns-clause-stale : goal.returns-clause-stale
returns-clause-stale g c time e = (tt, c.lock_at.ensures.stale time e)

pub returns-clause-alone : goal.returns-clause-alone
returns-clause-alone g c one =
    let l = c.lock_at.ensures in
    none_refuses _ _ l.lawful l.goes_on l.range l.makers _ c.args.object l.taken l.stale one

pub lock_at-requires-clause-lacks : goal.lock_at-requires-clause-lacks
lock_at-requires-clause-lacks g c = sym c.has_lock.ensures ∙ c.if-has_lock.false

pub returns-clause-again : goal.returns-clause-again
returns-clause-again g c = λ held. absurd (held_or_free _ held (sym c.has_lock.ensures ∙ c.if-has_lock.false))

pub returns-clause-held : goal.returns-clause-held
returns-clause-held g c = λ held _. c.lock_at.ensures.held held

pub write-requires : goal.write-requires
write-requires g c = sym c.has_lock.ensures ∙ c.if-has_lock.true

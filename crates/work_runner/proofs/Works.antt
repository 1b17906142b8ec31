-- What an attempt leaves of a work that was begun.
use Rattle.section_work.specs.Attempts.{GivesUp}
use Rattle.section_work.specs.declared.place.Place.TheVariants.{Commit, Read}
use Rattle.section_work.specs.declared.place.Place.{Place}
use Rattle.section_work.specs.declared.causes.Cause.{Cause}
use Rattle.section_work.specs.Works.{Meaning}
use Rattle.work_runner.proofs.Terms.{Seat, Continues, Continues-Continues, Causes, CommitsNone}
use Rattle.work_runner.specs.Works.{LinkedWork}
use Rattle.work_runner.proofs.Tries.{none_still, gave_up, entered_continues}

-- an attempt that was given up, behind those that made no commit
pub still : {R : Type 0} (k : Causes) (m : Meaning R) (s t u : Seat) (cause : Cause) → CommitsNone s t → GivesUp k m t u cause → CommitsNone s u
still k m s t u cause none g = none_still s t u none (gave_up k t u g.prepared g.entered g.mine g.prepares g.enters)

-- A work that was done leaves a seat that goes on.
pub linked_continues : {R : Type 0} (k : Causes) (m : Meaning R) (s t : Seat) (place : Place) (reply : R) → LinkedWork k m s t place reply → Continues s t
linked_continues k m s t (Commit time) reply l = Continues-Continues l.none.continues l.attempted.done.continues
linked_continues k m s t (Read time) reply l =
    let e = l.attempted.enters in
    Continues-Continues l.none.continues (entered_continues k l.from t e.before l.attempted.entered time e.comes e.enters l.attempted.time_is)

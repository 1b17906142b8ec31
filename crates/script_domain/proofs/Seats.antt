-- The seats before and after their scripts.
use Rattle.script_domain.proofs.Terms.{◌∷◌, List, [], length, drop, Command, Line, AllRan, AllContinue}
use Rattle.mv_history.specs.Meaning as history

-- seats that ran their scripts went on
pub all_continue : (olds news : List history.Seat) (scripts : List (List Command)) (lines : List Line) → AllRan olds news scripts lines
    → AllContinue olds news
all_continue [] [] [] lines ran = tt
all_continue (o ∷ olds) (n ∷ news) (script ∷ scripts) lines ran =
    (ran.0.continues, all_continue olds news scripts (drop (length script) lines) ran.1)
all_continue _ _ _ lines ran = absurd ran

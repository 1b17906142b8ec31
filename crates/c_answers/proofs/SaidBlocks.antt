-- A block of C: how many commands it says, and what one more of them says and is told.
use Rattle.std.proofs.Common.{◌≡◌, ℕ, suc, ◌+◌, List, [], ◌∷◌, ◌++◌, length, map, drop, slice_get}
use Rattle.std.proofs.Common.{Result, Ok, Err, IfErr, Some, sym, ap, ◌∙◌, subst, arith}
use Rattle.std.specs.List.{Contains}
use Rattle.std.proofs.Math.Numerals.{suc-eq-add-one}
use Rattle.std.proofs.Math.Seq.{drop-cons}
use Rattle.std.proofs.lemmas.List.{append_assoc, map-append, length-map}
use Rattle.std.proofs.lemmas.Option.{slice_get_within, get_or_from_slice_get}
use Rattle.section_work.specs.declared.place.Place.{Place}
use Rattle.set_model.specs.declared.commands.Command.{Command}
use Rattle.set_model.specs.declared.commands.Reply.{Reply}
use Rattle.c_answers.specs.declared.blocks.MvrluCommand.{MvrluCommand}
use Rattle.c_answers.specs.declared.replies.MvrluReply.{MvrluReply}
use Rattle.c_answers.specs.declared.status.Status.{Status}
use Rattle.c_answers.specs.Commands.{command_said}
use Rattle.c_answers.specs.SetReplies.{told_at}

abbrev said_ok : Command → Result Command Status
said_ok command = Ok command

-- as many commands are said as are given
pub as_many_said : (given : List MvrluCommand) (commands : List Command) → map Ok commands ≡ map command_said given → length commands ≡ length given
as_many_said given commands e =
    sym (length-map commands said_ok) ∙ ap (λ (rs : List (Result Command Status)). length rs) e ∙ length-map given command_said

-- one more command is said, and then the others
pub said_more : (all before after : List Command) (command : Command) (given others : List MvrluCommand) (first : MvrluCommand)
    → map Ok all ≡ map Ok after ++ map command_said others → after ≡ before ++ command ∷ [] → given ≡ first ∷ others → Ok command ≡ command_said first
    → map Ok all ≡ map Ok before ++ map command_said given
said_more all before after command given others first read push is said =
    read ∙ ap (λ cs. map Ok cs ++ map command_said others) push ∙ ap (λ rs. rs ++ map command_said others) (map-append said_ok before (command ∷ []))
    ∙ append_assoc (map Ok before) (Ok command ∷ []) (map command_said others)
    ∙ ap (λ (r : Result Command Status). map Ok before ++ (r ∷ map command_said others)) said ∙ ap (λ cs. map Ok before ++ map command_said cs) (sym is)

-- what is left of the replies begins with the one that is told next
pub told_next : (said : List Reply) (place : Place) (from : ℕ) (r : Reply) (first : MvrluReply) (others : List MvrluReply) → slice_get said from ≡ Some r
    → first ≡ told_at r place → others ≡ map (λ x. told_at x place) (drop (from + 1) said)
    → first ∷ others ≡ map (λ x. told_at x place) (drop from said)
told_next said place from r first others at is rest =
    let cut : drop from said ≡ r ∷ drop (from + 1) said =
    drop-cons said from r (slice_get_within said from r at)
    ∙ ap (λ (y : Reply). y ∷ drop (suc from) said) (get_or_from_slice_get said from r r at)
    ∙ ap (λ (n : ℕ). r ∷ drop n said) (suc-eq-add-one from) in
    ap (λ (x : MvrluReply). x ∷ others) is ∙ ap (λ (xs : List MvrluReply). told_at r place ∷ xs) rest
    ∙ sym (ap (λ (xs : List Reply). map (λ x. told_at x place) xs) cut)

-- a fault of the others is one of all
pub fault_more : (given others : List MvrluCommand) (first : MvrluCommand) (why : Status) → given ≡ first ∷ others
    → Contains (map command_said others) (Err why) → Contains (map command_said given) (Err why)
fault_more given others first why is h =
    subst (λ (cs : List MvrluCommand). Contains (map command_said cs) (Err why)) (sym is) (suc h.0, omega (arith, h.1), h.2)

pub fault_from : {V : Type 0} (given others : List MvrluCommand) (first : MvrluCommand) (r : Result V Status) → given ≡ first ∷ others
    → IfErr r (λ why. Contains (map command_said others) (Err why)) → IfErr r (λ why. Contains (map command_said given) (Err why))
fault_from given others first (Ok v) is h = tt
fault_from given others first (Err why) is h = fault_more given others first why is h

-- The tag of a command is none of a split, and that of a split is one.
use Rattle.std.proofs.Common.{◌≡◌, ℕ, Bool, true, false, cond, ◌==◌, ◌&&◌, Some, None, refl}
use Rattle.set_model.specs.Tags.{tag_of}
use Rattle.set_model.specs.declared.commands.Command.{Command}
use Rattle.set_model.specs.declared.commands.Command.TheVariants.{Add, Put, Del, Has, Get, Move, Pair, Size, Next}
use Rattle.grow_hash.specs.GrowRules.{makes, growing_of, split_tag}
use Rattle.grow_hash.specs.Splits.{is_splitting}

-- what makes a command, if anything, is no split
made_or_none : (b : Bool) (command : Command) → is_splitting (cond b (Some (makes command)) None) ≡ false
made_or_none true command = refl
made_or_none false command = refl

pub command_no_split : (command : Command) → is_splitting (growing_of (tag_of command)) ≡ false
command_no_split (Add name key) = made_or_none (name == 10 && true) (Add 10 key)
command_no_split (Put name key value) = refl
command_no_split (Del name key) = made_or_none (name == 10 && true) (Del 10 key)
command_no_split (Has name key) = refl
command_no_split (Get name key) = refl
command_no_split (Move source target key) = refl
command_no_split (Pair first second key) = refl
command_no_split (Size name) = refl
command_no_split (Next name key) = refl

pub split_is_one : (place : ℕ) → is_splitting (growing_of (split_tag place)) ≡ true
split_is_one place = refl

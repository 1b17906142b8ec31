-- When a command changes a catalogue and replies yes.
use Rattle.std.proofs.Common.{◌≡◌, ℕ, ◌≤◌, Bool, true, false, not, ◌&&◌, nat_lt, refl, sym, arith, true≢false, Some}
use Rattle.set_model.specs.declared.commands.Command.{Command}
use Rattle.set_model.specs.declared.commands.Command.TheVariants.{Add, Put, Del, Has, Get, Move, Pair, Size, Next}
use Rattle.set_model.specs.declared.commands.Reply.TheVariants.{Yes}
use Rattle.set_model.specs.Catalogue.{Maps, map_of, has_key, cost}
use Rattle.set_model.specs.Replies.{changed, applies, overflows, reply, next}
use Rattle.set_model.specs.Tags.{tag_of, command_of}

not_over : (capacity n : ℕ) → n ≤ capacity → nat_lt capacity n ≡ false
not_over capacity n le = grind arith

and_false : (a b : Bool) → b ≡ false → a && b ≡ false
and_false true b e = e
and_false false b e = refl

-- where what it leaves fits, the command doesn't overflow
pub overflows-fits : (command : Command) (c : Maps) (capacity : ℕ) → cost (changed command c) ≤ capacity → overflows command c capacity ≡ false
overflows-fits (Add name key) c capacity le = not_over capacity (cost (changed (Add name key) c)) le
overflows-fits (Put name key value) c capacity le =
    and_false (not (has_key key (map_of name c))) _ (not_over capacity (cost (changed (Put name key value) c)) le)
overflows-fits (Del name key) c capacity le = refl
overflows-fits (Has name key) c capacity le = refl
overflows-fits (Get name key) c capacity le = refl
overflows-fits (Move source target key) c capacity le = not_over capacity (cost (changed (Move source target key) c)) le
overflows-fits (Pair first second key) c capacity le = refl
overflows-fits (Size name) c capacity le = refl
overflows-fits (Next name key) c capacity le = refl

-- a command that applies and doesn't overflow replies yes and makes its change; its tag stands for it
pub record Works (command : Command) (c : Maps) (capacity : ℕ) : Type 0 where
  pub tagged : command_of (tag_of command) ≡ Some command
  pub answer : reply command c capacity false ≡ Yes
  pub leaves : next command c capacity false ≡ changed command c

pub works : (command : Command) (c : Maps) (capacity : ℕ) → applies command c ≡ true → overflows command c capacity ≡ false → Works command c capacity
works (Add name key) c capacity a o = record { tagged = refl; answer = rw (a, o); leaves = rw (a, o) }
works (Put name key value) c capacity a o = record { tagged = refl; answer = rw (a, o); leaves = rw (a, o) }
works (Del name key) c capacity a o = record { tagged = refl; answer = rw a; leaves = rw a }
works (Has name key) c capacity a o = absurd (true≢false (sym a))
works (Get name key) c capacity a o = absurd (true≢false (sym a))
works (Move source target key) c capacity a o = record { tagged = refl; answer = rw (a, o); leaves = rw (a, o) }
works (Pair first second key) c capacity a o = absurd (true≢false (sym a))
works (Size name) c capacity a o = absurd (true≢false (sym a))
works (Next name key) c capacity a o = absurd (true≢false (sym a))

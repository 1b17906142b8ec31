-- A block of one command does what the command does; and how many replies a block has.
use Rattle.std.proofs.Common.{◌≡◌, ◌&&◌, ◌||◌, ◌∷◌, ℕ, suc, Bool, true, false, cond, not, List, [], length, replicate, refl, ap, ◌∙◌, Option, Some, None}
use Rattle.set_blocks.proofs.Terms.{length-replicate, Maps, map_of, has_key, value_of, next_key, changed, applies, overflows, value_reply, key_reply, reply}
use Rattle.set_blocks.proofs.Terms.{changes, next, Command, Add, Put, Del, Has, Get, Move, Pair, Size, Next, Reply, Yes, No, Full, Worn, turn_replies, is_full}
use Rattle.set_blocks.proofs.Terms.{some_full, would_change, block_replies, block_changes, block_next}

-- the reply to a change that applies or not, overflows or not, at the last time or not
abbrev answer : Bool → Bool → Bool → Reply
answer does over last = cond does (cond over Full (cond last Worn Yes)) No

-- whether a block of one would change something, with this reply at a time that is not the last
abbrev would : Reply → Bool → Bool
would r change = not (is_full r || false) && (change || false)

-- the replies of a block of one, with this reply at a time that is not the last, and whether its command changes something then
abbrev one_reply : Reply → Bool → Bool → List Reply
one_reply r change last = cond (is_full r || false) (Full ∷ []) (cond (would r change && last) (Worn ∷ []) (r ∷ []))

change_replies : (does over last : Bool) → one_reply (answer does over false) (does && not over && not false) last ≡ answer does over last ∷ []
change_replies true true true = refl
change_replies true true false = refl
change_replies true false true = refl
change_replies true false false = refl
change_replies false true true = refl
change_replies false true false = refl
change_replies false false true = refl
change_replies false false false = refl

has_replies : (b last : Bool) → one_reply (cond b Yes No) false last ≡ cond b Yes No ∷ []
has_replies true last = refl
has_replies false last = refl

value_replies : (v : Option ℕ) (last : Bool) → one_reply (value_reply v) false last ≡ value_reply v ∷ []
value_replies None last = refl
value_replies (Some v) last = refl

key_replies : (k : Option ℕ) (last : Bool) → one_reply (key_reply k) false last ≡ key_reply k ∷ []
key_replies None last = refl
key_replies (Some k) last = refl

pub one_replies : (command : Command) (c : Maps) (capacity : ℕ) (last : Bool) → block_replies (command ∷ []) c capacity last
    ≡ reply command c capacity last ∷ []
one_replies (Add name key) c capacity last = change_replies (applies (Add name key) c) (overflows (Add name key) c capacity) last
one_replies (Put name key value) c capacity last = change_replies (applies (Put name key value) c) (overflows (Put name key value) c capacity) last
one_replies (Del name key) c capacity last = change_replies (applies (Del name key) c) (overflows (Del name key) c capacity) last
one_replies (Move source target key) c capacity last = change_replies (applies (Move source target key) c) (overflows (Move source target key) c capacity) last
one_replies (Has name key) c capacity last = has_replies (has_key key (map_of name c)) last
one_replies (Get name key) c capacity last = value_replies (value_of key (map_of name c)) last
one_replies (Pair first second key) c capacity last = refl
one_replies (Size name) c capacity last = refl
one_replies (Next name key) c capacity last = key_replies (next_key key (map_of name c)) last

change_wills : (does over last : Bool) → would (answer does over false) (does && not over && not false) && not last ≡ does && not over && not last
change_wills true true true = refl
change_wills true true false = refl
change_wills true false true = refl
change_wills true false false = refl
change_wills false true true = refl
change_wills false true false = refl
change_wills false false true = refl
change_wills false false false = refl

has_wills : (b last : Bool) → would (cond b Yes No) false && not last ≡ false
has_wills true last = refl
has_wills false last = refl

value_wills : (v : Option ℕ) (last : Bool) → would (value_reply v) false && not last ≡ false
value_wills None last = refl
value_wills (Some v) last = refl

key_wills : (k : Option ℕ) (last : Bool) → would (key_reply k) false && not last ≡ false
key_wills None last = refl
key_wills (Some k) last = refl

pub one_changes : (command : Command) (c : Maps) (capacity : ℕ) (last : Bool) → block_changes (command ∷ []) c capacity last
    ≡ changes command c capacity last
one_changes (Add name key) c capacity last = change_wills (applies (Add name key) c) (overflows (Add name key) c capacity) last
one_changes (Put name key value) c capacity last = change_wills (applies (Put name key value) c) (overflows (Put name key value) c capacity) last
one_changes (Del name key) c capacity last = change_wills (applies (Del name key) c) (overflows (Del name key) c capacity) last
one_changes (Move source target key) c capacity last = change_wills (applies (Move source target key) c) (overflows (Move source target key) c capacity) last
one_changes (Has name key) c capacity last = has_wills (has_key key (map_of name c)) last
one_changes (Get name key) c capacity last = value_wills (value_of key (map_of name c)) last
one_changes (Pair first second key) c capacity last = refl
one_changes (Size name) c capacity last = refl
one_changes (Next name key) c capacity last = key_wills (next_key key (map_of name c)) last

-- a change at the last time or before it is one before it, or none
changed_then : (does over last : Bool) (x c : Maps) → cond (does && not over && not last) (cond (does && not over && not false) x c) c
    ≡ cond (does && not over && not last) x c
changed_then true true last x c = refl
changed_then true false true x c = refl
changed_then true false false x c = refl
changed_then false over last x c = refl

pub one_next : (command : Command) (c : Maps) (capacity : ℕ) (last : Bool) → block_next (command ∷ []) c capacity last ≡ next command c capacity last
one_next command c capacity last =
    ap (λ b. cond b (next command c capacity false) c) (one_changes command c capacity last)
    ∙ changed_then (applies command c) (overflows command c capacity) last (changed command c) c

length-turn_replies : (commands : List Command) (c : Maps) (capacity : ℕ) → length (turn_replies commands c capacity) ≡ length commands
length-turn_replies [] c capacity = refl
length-turn_replies (command ∷ commands) c capacity = ap (λ n. suc n) (length-turn_replies commands (next command c capacity false) capacity)

chosen : (a b : Bool) (n : ℕ) (rs : List Reply) → length rs ≡ n → length (cond a (replicate n Full) (cond b (replicate n Worn) rs)) ≡ n
chosen true b n rs e = length-replicate n Full
chosen false true n rs e = length-replicate n Worn
chosen false false n rs e = e

-- each command has its reply
pub length-block_replies : (commands : List Command) (c : Maps) (capacity : ℕ) (last : Bool)
    → length (block_replies commands c capacity last) ≡ length commands
length-block_replies commands c capacity last =
    chosen (some_full commands c capacity) (would_change commands c capacity && last) (length commands) (turn_replies commands c capacity)
    (length-turn_replies commands c capacity)

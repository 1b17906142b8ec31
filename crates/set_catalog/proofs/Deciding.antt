-- What a command that applies comes to, by how many nodes are vacant.
use Rattle.std.proofs.Common.{◌≡◌, ℕ, ◌<◌, ◌≤◌, Bool, true, false, not, ◌&&◌, if◌then◌else◌, nat_lt, refl, sym, ◌∙◌, arith, true≢false}
use Rattle.mv_history.specs.State.{State}
use Rattle.set_model.specs.Catalogue.{Maps}
use Rattle.set_model.specs.CatalogueOf.{catalogue_of}
use Rattle.set_model.specs.Lawful.{IsLawful}
use Rattle.set_model.specs.Replies.{applies, overflows, change_reply, reply}
use Rattle.set_model.specs.Rules.{capacity, IsInRange}
use Rattle.set_model.specs.declared.commands.Command.{Command}
use Rattle.set_model.specs.declared.commands.Command.TheVariants.{Add, Put, Del, Has, Get, Move, Pair, Size, Next}
use Rattle.set_model.specs.declared.commands.Reply.{Reply}
use Rattle.set_model.specs.declared.commands.Reply.TheVariants.{Yes, No, Full, Worn}
use Rattle.set_catalog.specs.Needs.{wanted, may_change}
use Rattle.set_catalog.specs.Picks.{vacant_nodes}
use Rattle.set_catalog.specs.Replies.{reply_in, changes_in}
use Rattle.set_catalog.proofs.Costs.{overflows_state}

-- the reply of a command that may change something
pub reply_change : (command : Command) (c : Maps) (capacity : ℕ) (last : Bool) → may_change command ≡ true
    → reply command c capacity last ≡ change_reply command c capacity last
reply_change (Add name key) c capacity last m = refl
reply_change (Put name key value) c capacity last m = refl
reply_change (Del name key) c capacity last m = refl
reply_change (Has name key) c capacity last m = absurd (true≢false (sym m))
reply_change (Get name key) c capacity last m = absurd (true≢false (sym m))
reply_change (Move source target key) c capacity last m = refl
reply_change (Pair first second key) c capacity last m = absurd (true≢false (sym m))
reply_change (Size name) c capacity last m = absurd (true≢false (sym m))
reply_change (Next name key) c capacity last m = absurd (true≢false (sym m))

-- a change that would do nothing
pub decides_no : (command : Command) (s : State) → may_change command ≡ true → applies command (catalogue_of s) ≡ false
    → (No ≡ reply_in command s false) × (changes_in command s false ≡ false)
decides_no command s m a =
    let e = reply_change command (catalogue_of s) (capacity s) false m in (sym (e ∙ rw a refl), rw a refl)

module _ (command : Command) (s : State) (l : IsLawful s) (r : IsInRange command) (m : may_change command ≡ true)
    (a : applies command (catalogue_of s) ≡ true) where
  over : (b : Bool) → nat_lt (vacant_nodes s) (wanted command (catalogue_of s)) ≡ b → overflows command (catalogue_of s) (capacity s) ≡ b
  over b e = overflows_state s command l r m a ∙ e

  -- too few vacant nodes
  decides_full : vacant_nodes s < wanted command (catalogue_of s) → (Full ≡ reply_in command s false) × (changes_in command s false ≡ false)
  decides_full lt =
      let o : overflows command (catalogue_of s) (capacity s) ≡ true = over true (grind arith) in
      let e = reply_change command (catalogue_of s) (capacity s) false m in
      (sym (e ∙ rw (a, o) refl), rw (a, o) refl)

  enough : wanted command (catalogue_of s) ≤ vacant_nodes s → overflows command (catalogue_of s) (capacity s) ≡ false
  enough le = over false (grind arith)

  -- enough of them
  pub decides_open : wanted command (catalogue_of s) ≤ vacant_nodes s → changes_in command s false ≡ true
  decides_open le = let o = enough le in rw (a, o) refl

  -- so by what a look for vacant objects found
  pub decides_short : (want : ℕ) → want ≡ wanted command (catalogue_of s) → vacant_nodes s < want → (Full ≡ reply_in command s false)
      × (changes_in command s false ≡ false)
  decides_short want w few = decides_full (omega (arith, w, few))

  pub decides_had : (want : ℕ) → want ≡ wanted command (catalogue_of s) → want ≤ vacant_nodes s → changes_in command s false ≡ true
  decides_had want w le = decides_open (omega (arith, w, le))

-- the reply of a change by whether it applies and overflows
abbrev change_of : Bool → Bool → Bool → Reply
change_of a o last = if a then (if o then Full else (if last then Worn else Yes)) else No

stays : (a o : Bool) → a && not o && not false ≡ false → change_of a o false ≡ change_of a o true
stays true true e = refl
stays true false e = absurd (true≢false e)
stays false o e = refl

late : (a o : Bool) → a && not o && not false ≡ true → change_of a o true ≡ Worn
late true true e = absurd (true≢false (sym e))
late true false e = refl
late false o e = absurd (true≢false (sym e))

none_late : (a o : Bool) → a && not o && not true ≡ false
none_late true true = refl
none_late true false = refl
none_late false o = refl

-- at the last time nothing changes
pub unchanging_at_last : (command : Command) (s : State) → changes_in command s true ≡ false
unchanging_at_last command s = none_late (applies command (catalogue_of s)) (overflows command (catalogue_of s) (capacity s))

-- a reply that changes nothing stays
settled_at_last : (command : Command) (s : State) → changes_in command s false ≡ false → reply_in command s false ≡ reply_in command s true
settled_at_last (Add name key) s e = stays (applies (Add name key) (catalogue_of s)) (overflows (Add name key) (catalogue_of s) (capacity s)) e
settled_at_last (Put name key value) s e =
    stays (applies (Put name key value) (catalogue_of s)) (overflows (Put name key value) (catalogue_of s) (capacity s)) e
settled_at_last (Del name key) s e = stays (applies (Del name key) (catalogue_of s)) (overflows (Del name key) (catalogue_of s) (capacity s)) e
settled_at_last (Has name key) s e = refl
settled_at_last (Get name key) s e = refl
settled_at_last (Move source target key) s e =
    stays (applies (Move source target key) (catalogue_of s)) (overflows (Move source target key) (catalogue_of s) (capacity s)) e
settled_at_last (Pair first second key) s e = refl
settled_at_last (Size name) s e = refl
settled_at_last (Next name key) s e = refl

-- a change comes too late
pub worn_at_last : (command : Command) (s : State) → changes_in command s false ≡ true → reply_in command s true ≡ Worn
worn_at_last (Add name key) s e = late (applies (Add name key) (catalogue_of s)) (overflows (Add name key) (catalogue_of s) (capacity s)) e
worn_at_last (Put name key value) s e =
    late (applies (Put name key value) (catalogue_of s)) (overflows (Put name key value) (catalogue_of s) (capacity s)) e
worn_at_last (Del name key) s e = late (applies (Del name key) (catalogue_of s)) (overflows (Del name key) (catalogue_of s) (capacity s)) e
worn_at_last (Has name key) s e = absurd (true≢false (sym e))
worn_at_last (Get name key) s e = absurd (true≢false (sym e))
worn_at_last (Move source target key) s e =
    late (applies (Move source target key) (catalogue_of s)) (overflows (Move source target key) (catalogue_of s) (capacity s)) e
worn_at_last (Pair first second key) s e = absurd (true≢false (sym e))
worn_at_last (Size name) s e = absurd (true≢false (sym e))
worn_at_last (Next name key) s e = absurd (true≢false (sym e))

-- So what changes nothing while a time is left has its reply at the last time too.
pub settled_any : (command : Command) (s : State) (answer : Reply) (last : Bool) → answer ≡ reply_in command s false → changes_in command s false ≡ false
    → (answer ≡ reply_in command s last) × (changes_in command s last ≡ false)
settled_any command s answer false a c = (a, c)
settled_any command s answer true a c = (a ∙ settled_at_last command s c, unchanging_at_last command s)

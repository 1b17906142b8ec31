-- That a state is an opening one, and a commit allowed, in one way at most.
use Rattle.std.specs.Prelude.{ℕ, ◌≡◌, ◌≢◌, ◌<◌, ◌≤◌, false, length, Option, Some, None, List}
use Rattle.std.specs.Coded.{Coded-set, coded×, coded_ℕ, coded_list}
use Rattle.std.proofs.Props.{props}
use mathlib.Core.Sum.{⊎_set}
use Rattle.mv_history.specs.State.{State, Writes, written, touches}
use Rattle.mv_history.specs.Meaning.{words_at}
use Rattle.set_model.specs.declared.commands.Command.{Command}
use Rattle.set_model.specs.declared.commands.Command.TheVariants.{Add, Put, Del, Has, Get, Move, Pair, Size, Next}
use Rattle.set_model.specs.declared.commands.Reply.{Reply}
use Rattle.set_model.specs.declared.commands.Reply.TheVariants.{Yes}
use Rattle.set_model.specs.CatalogueOf.{catalogue_of}
use Rattle.set_model.specs.Replies.{reply, next}
use Rattle.set_model.specs.Objects.{first_node, first_root, owner, kind, key, no_words, most_objects}
use Rattle.set_model.specs.Trees.{EndsAt}
use Rattle.set_model.specs.TreeLaws.{EndsAt-prop}
use Rattle.set_model.specs.LawfulLaws.{IsLawful-prop}
use Rattle.set_model.specs.Lawful.{IsOpening}
use Rattle.set_model.specs.Tags.{command_of}
use Rattle.set_model.specs.Rules.{capacity, IsInRange, Keeps, Makes, MakesSome, IsSetCommit}

pub IsOpening-prop : (s : State) → IsProp (IsOpening s)
IsOpening-prop s x y =
    let some_prop : IsProp (first_node < length s) = hlevel props in
    let few_prop : IsProp (length s ≤ most_objects) = hlevel props in
    let zeros_prop : IsProp ((o : ℕ) → o < length s → words_at s o ≡ no_words) = hlevel props in
    λ i. record { some = some_prop x.some y.some i; few = few_prop x.few y.few i; zeros = zeros_prop x.zeros y.zeros i }

IsInRange-prop : (command : Command) → IsProp (IsInRange command)
IsInRange-prop (Add name key) = hlevel props
IsInRange-prop (Put name key value) = hlevel props
IsInRange-prop (Del name key) = hlevel props
IsInRange-prop (Has name key) = hlevel props
IsInRange-prop (Get name key) = hlevel props
IsInRange-prop (Move source target key) = hlevel props
IsInRange-prop (Pair first second key) = hlevel props
IsInRange-prop (Size name) = hlevel props
IsInRange-prop (Next name key) = hlevel props

Reply-set : IsSet Reply
Reply-set = hlevel (props, ⊎_set)

Keeps-prop : (before after : State) (writes : Writes) → IsProp (Keeps before after writes)
Keeps-prop before after writes x y =
    let keys_prop : IsProp ((o : ℕ) → owner before o ≢ 0 → owner after o ≡ owner before o
    → (kind after o ≡ kind before o) × (key after o ≡ key before o)) = hlevel props in
    let ends_prop : IsProp ((root k leaf : ℕ) → first_root ≤ root → root < first_node → EndsAt before root k leaf → touches writes leaf ≡ false
    → EndsAt after root k leaf) = hlevel (props, EndsAt-prop) in
    λ i. record {
      lawful_before = IsLawful-prop before x.lawful_before y.lawful_before i;
      lawful_after = IsLawful-prop after x.lawful_after y.lawful_after i;
      keys = keys_prop x.keys y.keys i;
      ends = ends_prop x.ends y.ends i;
    }

Makes-prop : (command : Command) (before after : State) → IsProp (Makes command before after)
Makes-prop command before after x y = λ i. record {
  in_range = IsInRange-prop command x.in_range y.in_range i;
  answer = Reply-set (reply command (catalogue_of before) (capacity before) false) Yes x.answer y.answer i;
  leaves = Coded-set (coded_list (coded_list (coded× coded_ℕ coded_ℕ))) (catalogue_of after)
      (next command (catalogue_of before) (capacity before) false) x.leaves y.leaves i;
}

MakesSome-prop : (command : Option Command) (before after : State) → IsProp (MakesSome command before after)
MakesSome-prop None before after = hlevel props
MakesSome-prop (Some command) before after = Makes-prop command before after

pub IsSetCommit-prop : (tag : List ℕ) (before : State) (writes : Writes) → IsProp (IsSetCommit tag before writes)
IsSetCommit-prop tag before writes x y = λ i. record {
  keeps = Keeps-prop before (written before writes) writes x.keeps y.keeps i;
  makes = MakesSome-prop (command_of tag) before (written before writes) x.makes y.makes i;
}

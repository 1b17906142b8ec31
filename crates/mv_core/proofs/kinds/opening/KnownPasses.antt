-- What the passes of a domain know where it is opened and where a seat is made.
use Rattle.std.proofs.Common.{◌≡◌, ℕ, ◌+◌, ◌<◌, List, refl, sym, subst, arith}
use Rattle.std.proofs.lemmas.List.Elements.{All-nil}
use Rattle.std.proofs.Math.Logic.{∥∥₁_map}
use Rattle.mv_core.proofs.Terms.{Change, State, Writes, maker_of, Config, Checked, Held, Committed, Knowledge, new_view}
use Rattle.mv_history.specs.Legal.{AreWords}
use Rattle.mv_history.proofs.Histories.{no_split}
use Rattle.mv_core.proofs.FactTerms.{Known, KnownInDomain, IsTimed, IsBegun, RunsOn, first_view}
use Rattle.mv_core.specs.SeatSteps.{made_one, newly_made}
use Rattle.mv_core.proofs.frames.SectionBounds.{none_in}
use Rattle.mv_core.proofs.points.KnownLogs.{commit_still}
use Rattle.mv_core.proofs.kinds.opening.Starting.{none_lives, none_built}

module _ (starts : State → Type 0) (allows : List ℕ → State → Writes → Type 0) (c : Config) where
  -- a seat that made no step knows the opening state
  pub new_known : (start : State) (number made : ℕ) → Checked c → AreWords start → starts start → Known starts allows (new_view c start number made)
  new_known start number made k wide lawful = record {
    unspent = refl;
    opening = lawful;
    words = wide;
    legal = λ front back e is. absurd (no_split front back (Change e) is);
    allowed = λ front back e is. absurd (no_split front back (Change e) is);
    mine = refl;
    rests = refl;
    in_time = (let b = k.base in omega arith);
    lowered = λ low e. absurd (cc);
    none = λ word has. none_in word has;
    found = λ f e. absurd (cc);
    section = λ inside e. absurd (cc);
    idle = λ out j x. none_lives c j x Held;
    still = λ out. (refl, refl);
    back = λ b e. absurd (cc);
    next = λ j b. none_built c j b;
    named = λ inside naming e. absurd (cc);
    commits = λ j x note. none_lives c j x (Committed note);
    deaths = λ j x st dead lives. none_lives c j x st lives;
  }

  maker_known : (v : Knowledge) → Known starts allows v → Known starts allows (made_one c v)
  maker_known v k =
      record {
        unspent = k.unspent;
        opening = k.opening;
        words = k.words;
        legal = k.legal;
        allowed = k.allowed;
        mine = k.mine;
        rests = k.rests;
        in_time = k.in_time;
        lowered = k.lowered;
        none = k.none;
        found = k.found;
        section =
            λ inside e. let s =
            k.section inside e in
            record {
              seen = s.seen;
              own = s.own;
              held = λ j x there. let a = s.held j x there in
                  record { in_range = a.in_range; wide = a.wide; unwritten = a.unwritten };
              apart = s.apart;
            };
        idle = k.idle;
        still = k.still;
        back = k.back;
        next = k.next;
        named = k.named;
        commits = λ j x note there. commit_still v x note (made_one c v).trail (v.made + 1) v.notes (k.commits j x note there);
        deaths = k.deaths;
      }

  -- the pass of the maker is as it was
  pub maker_stays : (v w : Knowledge) → w ≡ made_one c v
      → (w.number ≡ v.number) × RunsOn v w × (∥ Known starts allows v ∥₁ → ∥ Known starts allows w ∥₁)
      × ((d : Config) → KnownInDomain d v → KnownInDomain d w)
  maker_stays v w e =
      subst
      (λ (u : Knowledge). (u.number ≡ v.number) × RunsOn v u × (∥ Known starts allows v ∥₁ → ∥ Known starts allows u ∥₁)
      × ((d : Config) → KnownInDomain d v → KnownInDomain d u))
      (sym e) (refl, (λ time first a b. (a, b)), (λ k. ∥∥₁_map k (maker_known v)), λ d k. k)

  -- a seat that made no step has no clock words, and has seen no entry
  new_in_domain : (start : State) (number made : ℕ) (d : Config) → KnownInDomain d (new_view c start number made)
  new_in_domain start number made d = ((λ word has. none_in word has), (λ f e. absurd (cc)), All-nil (λ e. maker_of e < d.seats))

  -- and that of the seat made is of a seat outside a section
  pub made_begins : (v w : Knowledge) → Checked c → w ≡ newly_made c v → ∥ Known starts allows v ∥₁
      → (w.number ≡ v.made) × IsTimed 0 w × IsBegun 0 w × ∥ Known starts allows w ∥₁ × ((d : Config) → KnownInDomain d w)
  made_begins v w k e known =
      subst (λ (u : Knowledge). (u.number ≡ v.made) × IsTimed 0 u × IsBegun 0 u × ∥ Known starts allows u ∥₁ × ((d : Config) → KnownInDomain d u)) (sym e) (
        refl,
        (λ s in_section. absurd (cc)),
        (λ s in_section. absurd (cc)),
        ∥∥₁_map known (λ a. new_known v.start v.made 0 k a.words a.opening),
        new_in_domain v.start v.made 0,
      )

  pub first_begins : (start : State) (w : Knowledge) → Checked c → AreWords start → starts start → w ≡ first_view c start
      → (w.number ≡ 0) × IsTimed 0 w × IsBegun 0 w × ∥ Known starts allows w ∥₁ × ((d : Config) → KnownInDomain d w)
  first_begins start w k wide lawful e =
      subst (λ (u : Knowledge). (u.number ≡ 0) × IsTimed 0 u × IsBegun 0 u × ∥ Known starts allows u ∥₁ × ((d : Config) → KnownInDomain d u)) (sym e)
      (refl, (λ s in_section. absurd (cc)), (λ s in_section. absurd (cc)), ∣ new_known start 0 1 k wide lawful ∣₁, new_in_domain start 0 1)

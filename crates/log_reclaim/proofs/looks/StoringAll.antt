-- The words of a write-back are stored one after another, and it ends.
use Rattle.std.proofs.Common.{◌≡◌, ◌≢◌, ℕ, ◌+◌, ◌<◌, ◌≤◌, List, [], ◌∷◌, ◌++◌, length, refl, sym, ap, ◌∙◌}
use Rattle.std.proofs.Common.{subst, arith, append_assoc, append-nil, Some, None, All, Contains}
use Rattle.std.specs.Prelude.{slice_index}
use Rattle.std.proofs.lemmas.List.Elements.{All-nil, All-cons, All-push, All-append, All-weaker, Contains-append_right}
use Rattle.mv_history.specs.declared.Entry.{Entry}
use Rattle.mv_history.specs.declared.Step.{Step}
use Rattle.mv_history.specs.declared.StepKind.{StepKind}
use Rattle.mv_history.specs.declared.StepKind.TheVariants.{StoreMaster, CutHead, LoadDeath, ClearMark}
use Rattle.mv_layout.specs.declared.Config.{Config}
use Rattle.mv_layout.specs.declared.SharedWord.TheVariants.{Head, Mark, Master}
use Rattle.mv_layout.specs.Places.{place_of}
use Rattle.mv_layout.specs.Words.{link_of}
use Rattle.seat_log.specs.mv_core.declared.view.Knowledge.{Knowledge}
use Rattle.seat_log.specs.mv_core.declared.view.Phase.TheVariants.{Outside}
use Rattle.seat_log.specs.mv_core.declared.view.WalkStage.TheVariants.{Nowhere}
use Rattle.seat_log.specs.mv_core.HistoryFacts.{BeginsWith}
use Rattle.seat_log.specs.Notes.{Noted, retired, back_noted}
use Rattle.seat_log.specs.Stands.{Stands}
use Rattle.seat_log.proofs.PlainSteps.{kind_leaves, stands_left}
use Rattle.log_reclaim.specs.declared.writing_back.StartedWriteBack.{StartedWriteBack}
use Rattle.log_reclaim.specs.declared.writing_back.BackEnd.{BackEnd}
use Rattle.log_reclaim.specs.declared.writing_back.BackEnd.TheVariants.{Cut, Above}
use Rattle.log_reclaim.specs.Backs.{IsWriting, StoresWord, IsCutAt, IsUncut, FinishesSo}
use Rattle.seat_log.specs.mv_core.Tops.{NamesNewer}
use Rattle.log_reclaim.specs.Parts.{IsReclaimKind, IsOtherKind, FindsSeat, FindsTop}
use Rattle.log_reclaim.specs.Tries.{StoresAll}
use Rattle.log_reclaim.proofs.looks.Visits.{IsPlain}

-- a store of a word of a write-back is one
abbrev IsStore : Step → Type 0
IsStore s = s.kind ≡ StoreMaster

-- Words of a write-back were stored: it is under way, and nothing else of the view has changed but the trail, which is longer by these stores.
pub record HasStored (c : Config) (v w : Knowledge) (b d : StartedWriteBack) (count before after : ℕ) : Type 0 where
  pub writing : IsWriting c w d
  pub same : d ≡ record b { stored = count }
  pub made : List Step
  pub trail : w.trail ≡ v.trail ++ made
  pub kinds : All IsStore made
  pub rest : w ≡ record v { back = w.back; trail = w.trail }
  pub steps : after ≡ before + count

-- three steps more
three_more : (t made : List Step) (a b d : Step) → (((t ++ made) ++ a ∷ []) ++ b ∷ []) ++ d ∷ [] ≡ t ++ (made ++ a ∷ b ∷ d ∷ [])
three_more t made a b d =
    append_assoc ((t ++ made) ++ a ∷ []) (b ∷ []) (d ∷ []) ∙ append_assoc (t ++ made) (a ∷ []) (b ∷ d ∷ []) ∙ append_assoc t made (a ∷ b ∷ d ∷ [])

-- and two
two_more : (t made : List Step) (a b : Step) → ((t ++ made) ++ a ∷ []) ++ b ∷ [] ≡ t ++ (made ++ a ∷ b ∷ [])
two_more t made a b = append_assoc (t ++ made) (a ∷ []) (b ∷ []) ∙ append_assoc t made (a ∷ b ∷ [])

-- what the end of a write-back may change of a view
abbrev ended : Knowledge → Knowledge → Knowledge
ended u y =
    record u { past = record u.past { seen = y.past.seen }; phase = Outside; clocks = y.clocks; walk = Nowhere; ring = y.ring; back = None; trail = y.trail }

module _ (c : Config) (v w : Knowledge) (b d : StartedWriteBack) (count before after : ℕ) (k : HasStored c v w b d count before after) where
  -- one more
  pub stored_more : (x : Knowledge) (e : StartedWriteBack) (then : ℕ) → IsWriting c x e → StoresWord c w x d e → then ≡ after + 1
      → HasStored c v x b e (count + 1) before then
  stored_more x e then is stores one =
      let step : Step =
      record { kind = StoreMaster; word = place_of c (Master d.object d.stored); found = None; stored = Some (slice_index d.words d.stored) } in
      let all = k.steps in record {
        writing = is;
        same = stores.back ∙ ap (λ (a : StartedWriteBack). record a { stored = a.stored + 1 }) k.same;
        made = k.made ++ step ∷ [];
        trail = ap (λ (u : Knowledge). u.trail) stores.view ∙ ap (λ (t : List Step). t ++ step ∷ []) k.trail ∙ append_assoc v.trail k.made (step ∷ []);
        kinds = All-push IsStore k.made step k.kinds refl;
        rest = stores.view ∙ (λ q. record w { back = (sym stores.view q).back; trail = (sym stores.view q).trail })
            ∙ ap (λ (u : Knowledge). record u { back = x.back; trail = x.trail }) k.rest;
        steps = omega arith;
      }

  plain : All IsPlain k.made
  plain = All-weaker IsStore IsPlain (λ s e. subst (λ (kind : StepKind). IsReclaimKind kind × IsOtherKind kind) (sym e) (tt, tt)) k.made k.kinds

  -- the log stands for the pass
  pub stands_stored : (l : Noted) → Stands c v l → Stands c w l
  stands_stored l stands =
      stands_left c v w l stands (ap (λ (u : Knowledge). u.number) k.rest) (ap (λ (u : Knowledge). u.ring) k.rest) (ap (λ (u : Knowledge). u.past.mine) k.rest)
      (ap (λ (u : Knowledge). u.past.rests) k.rest) k.made k.trail
      (kind_leaves StoreMaster (refl, refl) k.made k.kinds)

  position_is : d.position ≡ b.position
  position_is = ap (λ (a : StartedWriteBack). a.position) k.same

  object_is : d.object ≡ b.object
  object_is = ap (λ (a : StartedWriteBack). a.object) k.same

  number_is : w.number ≡ v.number
  number_is = ap (λ (u : Knowledge). u.number) k.rest

  seen_is : w.past.seen ≡ v.past.seen
  seen_is = ap (λ (u : Knowledge). u.past.seen) k.rest

  module _ (y : Knowledge) (l m : Noted) (time : ℕ) (base : v.base ≡ c.base) (within : time ≤ c.base + length y.past.seen) where
    in_seen : y.base ≡ v.base → time ≤ y.base + length y.past.seen
    in_seen same = omega arith

    -- the exchange was won
    all_cut : IsCutAt c w y l m d time → StoresAll c v y l m b Cut time
    all_cut at =
        let cut = at.0 in
        let first : Step = record { kind = CutHead; word = place_of c (Head d.object); found = Some (link_of w.number d.position); stored = Some 0 } in
        let second : Step = record { kind = LoadDeath; word = 0; found = Some cut.word; stored = None } in
        let third : Step = record { kind = ClearMark; word = place_of c (Mark w.number); found = None; stored = Some 0 } in
        let last : List Step = first ∷ second ∷ third ∷ [] in
        let rest : y ≡ ended v y = cut.view ∙ (λ q. ended w (sym cut.view q)) ∙ ap (λ (u : Knowledge). ended u y) k.rest in
        record {
          made = k.made ++ last;
          outside = ap (λ (u : Knowledge). u.phase) cut.view;
          seen = subst (λ (t : List Entry × List Entry). BeginsWith t.0 t.1)
              (λ q. (sym (ap (λ (u : Knowledge). u.past.seen) cut.view) q, seen_is q)) cut.whole.0;
          trail = ap (λ (u : Knowledge). u.trail) cut.view ∙ ap (λ (t : List Step). ((t ++ first ∷ []) ++ second ∷ []) ++ third ∷ []) k.trail
              ∙ three_more v.trail k.made first second third;
          kinds = All-append IsPlain k.made last plain
              (All-cons IsPlain first (second ∷ third ∷ []) (tt, tt)
              (All-cons IsPlain second (third ∷ []) (tt, tt) (All-cons IsPlain third [] (tt, tt) (All-nil IsPlain))));
          rest = rest;
          within = in_seen (ap (λ (u : Knowledge). u.base) rest);
          cut = λ e. (
            cut.log ∙ (λ q. back_noted (retired l (position_is q) (at.1 q + 1))),
            record {
              step = second;
              there = Contains-append_right k.made last second (1, omega arith, refl);
              kind = refl;
              clock = refl;
              word = cut.word;
              found = refl;
              dead_is = ap (λ (t : ℕ). t + 1) (sym at.1);
            },
          );
          above = λ seat e. let clash : Cut ≡ Above seat = e in absurd (cc);
        }

    -- or lost
    all_above : (seat : ℕ) → IsUncut c w y l m d seat → StoresAll c v y l m b (Above seat) time
    all_above seat un =
        let first : Step = record { kind = CutHead; word = place_of c (Head d.object); found = Some un.link; stored = None } in
        let second : Step = record { kind = ClearMark; word = place_of c (Mark w.number); found = None; stored = Some 0 } in
        let last : List Step = first ∷ second ∷ [] in
        let rest : y ≡ ended v y = un.view ∙ (λ q. ended w (sym un.view q)) ∙ ap (λ (u : Knowledge). ended u y) k.rest in
        let there : Contains (k.made ++ last) first = Contains-append_right k.made last first (0, omega arith, refl) in
        let finds : FindsSeat c b.object seat first =
        record { kind = tt; word = ap (λ (o : ℕ). place_of c (Head o)) object_is; link = un.link; found = refl; some = un.some; seat_is = un.seat_is } in
        let top : FindsTop c y b.object seat first =
        record {
          finds = finds;
          view = w;
          number = sym (ap (λ (u : Knowledge). u.number) un.view);
          after = second ∷ [];
          trail = ap (λ (u : Knowledge). u.trail) un.view ∙ append_assoc w.trail (first ∷ []) (second ∷ []);
          names = subst (λ (o : ℕ). NamesNewer c w o un.link) object_is un.newer;
        } in
        let ring : w.ring ≡ v.ring = ap (λ (u : Knowledge). u.ring) k.rest in
        record {
          made = k.made ++ last;
          outside = ap (λ (u : Knowledge). u.phase) un.view;
          seen = ([], ap (λ (u : Knowledge). u.past.seen) un.view ∙ seen_is ∙ sym (append-nil v.past.seen));
          trail = ap (λ (u : Knowledge). u.trail) un.view ∙ ap (λ (t : List Step). (t ++ first ∷ []) ++ second ∷ []) k.trail
              ∙ two_more v.trail k.made first second;
          kinds = All-append IsPlain k.made last plain (All-cons IsPlain first (second ∷ []) (tt, tt) (All-cons IsPlain second [] (tt, tt) (All-nil IsPlain)));
          rest = rest;
          within = in_seen (ap (λ (u : Knowledge). u.base) rest);
          cut = λ e. let clash : Above seat ≡ Cut = e in absurd (cc);
          above = λ other e.
              let same : seat ≡ other = cc in
              subst (λ (s : ℕ). (m ≡ l) × (s ≢ v.number) × (s < c.seats)
              × ((t : Step) × Contains (k.made ++ last) t × (found : FindsTop c y b.object s t) × (found.view.ring ≡ v.ring))) same
              (un.log, (λ z. un.not_own (z ∙ sym number_is)), un.in_range, (first, there, top, ring));
        }

    pub stores_all : (end : BackEnd) → FinishesSo c w y l m d end → (end ≡ Cut → IsCutAt c w y l m d time) → StoresAll c v y l m b end time
    stores_all Cut ends cut = all_cut (cut refl)
    stores_all (Above seat) ends cut = all_above seat ends

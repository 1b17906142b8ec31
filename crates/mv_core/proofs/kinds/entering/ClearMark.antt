-- store MARK 0: the section ends, and what it named is finished.
use Rattle.std.proofs.Common.{◌≡◌, ◌<◌, ◌≢◌, ℕ, ◌+◌, ◌-◌, ◌≤◌, true, false, cond, List, length, refl, sym, ap, ◌∙◌, subst, arith, Option, Some, None}
use Rattle.mv_core.proofs.Terms.{dite, ℕ_discrete, State, Writes, Config, Clock, Grace, Mark, Master, Stamp, Super, link_of, Memory, put, Entry, Ring}
use Rattle.mv_core.proofs.Terms.{Live, Version, Committed, CommitNote, Knowledge, Outside, Inside, OwnSection, Named, Naming, LoadedClocks, Scan, WalkStage}
use Rattle.mv_core.proofs.Terms.{WriteBack, slot_at, HoldsNothing, Lives, Names, IsVersion, latest_at, IsEntry, IsNextWrite, section_of, time_of}
use Rattle.mv_core.proofs.Terms.{no_clocks, ViewParts, parts_of, set_at}
use Rattle.mv_core.specs.declared.view.WalkStage.TheVariants.{Nowhere}
use Rattle.mv_core.proofs.FactTerms.{IsNaming, RunsOn, Facts, Stores, IsKept}
use Rattle.mv_core.specs.EnterSteps.{IsFinished, MayClearMark, mark_cleared}
use Rattle.mv_core.proofs.frames.FrameLaw.{set_at_else, set_at_all, unchanged, settle}
use Rattle.mv_core.proofs.frames.SectionBounds.{by_seat, none_in, helped_after, found_after, inside_after, loaded_after}
use Rattle.mv_core.proofs.kinds.entering.StoreMark.{marks_after, runs_outside}
use Rattle.mv_core.proofs.frames.Sections as more
use Rattle.mv_core.proofs.history.Latest.{latest_at-before}
use Rattle.mv_core.proofs.logs.Written.{version_writes, version_of_write}

module _ {starts : State → Type 0} {allows : List ℕ → State → Writes → Type 0} {c : Config} {start : State} {m : Memory} {h : List Entry} {f : ViewParts}
    (k : Facts starts allows c start m h f) where
  -- where a live version that wasn't cut has no SUPER yet, the commit of the next write has a version whose flag isn't set
  unlinked : (s j next : ℕ) (x : Version) (note : CommitNote) → Lives f.ring s j x (Committed note) → note.cut ≡ false → m (Super s j) ≡ 0
      → IsNextWrite c.base h x.object note.time next → (naming : IsNaming f.section next (λ _. Unit {0}))
      → (l : ℕ) × (y : Version) × (other : CommitNote) × Lives f.ring naming.seat l y (Committed other) × (other.time ≡ naming.naming.time)
      × (other.linked ≢ true)
  unlinked s j next x note lives uncut zero is_next by =
      let seat = by.seat in
      let named = k.named_commit seat by.inside by.naming by.in_section by.mode in
      let on_time : named.note.time ≡ next = named.time_is ∙ by.time_is in
      let there = subst (λ (t : ℕ). IsEntry c.base h t is_next.entry) (sym on_time) is_next.there in
      let above = version_of_write c h f.ring k.write_sets seat _ x.object named.version named.note is_next.entry named.lives there is_next.writes in
      let y : Version = above.1 in
      let other : CommitNote = above.2 in
      let lives_y : Lives f.ring seat above.0 y (Committed other) = above.3 in
      let object_is : y.object ≡ x.object = above.4 in
      let time_is : other.time ≡ next = above.5 ∙ on_time in
      let wrote = version_writes c h f.ring k.write_sets s j x note lives in
      let before : latest_at c.base h y.object (other.time - 1) ≡ note.time =
      ap (λ (o : ℕ). latest_at c.base h o (other.time - 1)) object_is ∙ ap (λ (t : ℕ). latest_at c.base h x.object (t - 1)) time_is ∙
      latest_at-before c.base h x.object note.time next wrote.0 wrote.1 wrote.2 is_next in
      let links = k.commit_link seat above.0 y other lives_y in
      let version : IsVersion f.ring y.object (latest_at c.base h y.object (other.time - 1)) (link_of s x.position) x note =
      record { names = record { seat = s; slot = j; lives = lives; is = refl }; object_is = sym object_is; time_is = sym before } in
      let link : y.previous ≡ link_of s x.position = links.uncut (link_of s x.position) x note version uncut in
      let below : Names f.ring y.previous x (Committed note) = record { seat = s; slot = j; lives = lives; is = link } in
      let of_naming : other.time ≡ by.naming.time = time_is ∙ sym by.time_is in
      let flag = (k.successor_flag seat above.0 by.inside by.naming y other by.in_section by.mode lives_y of_naming).1 x note below in (
        above.0,
        y,
        other,
        lives_y,
        of_naming,
        λ linked. let is : m (Super s j) ≡ by.naming.time = flag.0 linked in let later = named.later in
            absurd (omega arith),
      )

module _ (starts : State → Type 0) (allows : List ℕ → State → Writes → Type 0) (c : Config) (start : State) (v : Knowledge) (may : MayClearMark v) where
  module _ (m : Memory) (h : List Entry) (seats : ℕ → Knowledge) (k : Facts starts allows c start m h (parts_of seats)) (is : seats v.number ≡ v) where
    n : ℕ
    n = v.number

    -- the section of this seat is the one that it leaves
    inside_is : section_of (seats v.number).phase ≡ Some may.inside
    inside_is = ap (λ (u : Knowledge). section_of u.phase) is ∙ ap section_of may.phase

    finished : (i : OwnSection) (naming : Naming) → section_of (seats v.number).phase ≡ Some i → i.mode ≡ Named naming → IsFinished v (Named naming)
    finished i naming e mode =
        let one : Some may.inside ≡ Some i = sym inside_is ∙ e in
        let same : may.inside ≡ i = cc in
        subst (IsFinished v) (ap (λ (s : OwnSection). s.mode) same ∙ mode) may.finished

    still_naming : (next : ℕ) (s j : ℕ) (x : Version) (note : CommitNote) → Lives (λ r. (seats r).ring) s j x (Committed note) → note.cut ≡ false
        → m (Super s j) ≡ 0 → IsNextWrite c.base h x.object note.time next
        → IsNaming (λ s. section_of (seats s).phase) next (λ _. Unit {0})
        → IsNaming (set_at (λ s. section_of (seats s).phase) v.number None) next (λ _. Unit {0})
    still_naming next s j x note lives uncut zero is_next by =
        dite (ℕ_discrete by.seat v.number)
        (λ e.
        let open_flag = unlinked k s j next x note lives uncut zero is_next by in
        let own : section_of (seats v.number).phase ≡ Some by.inside = ap (λ (s : ℕ). section_of (seats s).phase) (sym e) ∙ by.in_section in
        let done = finished by.inside by.naming own by.mode in
        let here : slot_at v.ring open_flag.0 ≡ Live open_flag.1 (Committed open_flag.2) =
        ap (λ (u : Knowledge). slot_at u.ring open_flag.0) (sym is) ∙ ap (λ (s : ℕ). slot_at (seats s).ring open_flag.0) (sym e) ∙ open_flag.3 in
        absurd (open_flag.5 (done.1 open_flag.0 open_flag.1 open_flag.2 here open_flag.4)))
        (λ ne. record {
          seat = by.seat;
          inside = by.inside;
          naming = by.naming;
          in_section = set_at_else (λ s. section_of (seats s).phase) v.number None by.seat ne ∙ by.in_section;
          mode = by.mode;
          time_is = by.time_is;
          known = tt;
        })

  pub mark_clears : Stores starts allows c start v (Mark v.number) 0 (λ w. ((w ≡ mark_cleared c v) × RunsOn v w) × IsKept v w)
  mark_clears m h seats k is own begins =
      let w = mark_cleared c v in
      let n = v.number in
      let section : ℕ → Option OwnSection = λ s. section_of (seats s).phase in
      let time : ℕ → Option ℕ = λ s. time_of (seats s).phase in
      let clocks : ℕ → LoadedClocks = λ s. (seats s).clocks in
      let walk : ℕ → WalkStage = λ s. (seats s).walk in
      let rings : ℕ → Ring = λ s. (seats s).ring in
      let stamp : ℕ → ℕ → ℕ = λ t j. m (Stamp t j) in
      let super : ℕ → ℕ → ℕ = λ t j. m (Super t j) in
      let master : ℕ → ℕ → ℕ = λ o j. m (Master o j) in
      let back : ℕ → Option WriteBack = λ s. (seats s).back in
      let sets = k.write_sets in
      let nothing : HoldsNothing (rings n) = subst (λ (u : Knowledge). HoldsNothing u.ring) (sym is) may.nothing in
      let done = finished m h seats k is in
      let helped_words = helped_after c (m Clock) stamp clocks n no_clocks (λ word has. none_in word has) k.helped_words in
      let marks = marks_after m n 0 (λ s. (seats s).phase) Outside k.marks refl in
      let past_help = more.past_help_more c start h rings sets time n None tt walk section clocks None no_clocks stamp
      (λ i e. absurd (cc)) k.stamped_past_help in
      let grace = more.grace_more c start h rings sets time n None tt (m Clock) (m Grace) (λ s. (seats s).grace) (λ s. (seats s).scan) k.history.long k.grace in
      let fresh = more.freshness_more c start h rings sets time n None tt nothing k.lock_freshness in
      let naming : (s j : ℕ) (x : Version) (note : CommitNote) → Lives rings s j x (Committed note) → note.cut ≡ false → m (Super s j) ≡ 0
      → (next : ℕ) → IsNextWrite c.base h x.object note.time next → IsNaming (set_at section n None) next (λ _. Unit {0}) =
      λ s j x note lives uncut zero next is_next.
      still_naming m h seats k is next s j x note lives uncut zero is_next (k.successors.unfinished s j x note lives uncut zero next is_next) in
      let masters = more.master_more c start h rings sets time n None tt master k.present_master in
      let feet = more.foot_more c start h rings sets time n None tt master k.chain_foot in
      let places = more.place_more c start h rings sets time n None tt walk master k.walker_place in
      let before_death = more.before_death_more c start h rings sets time n None tt walk k.walker_before_death in
      let knowledge = more.knowledge_more c start h rings sets time n None tt walk section clocks None no_clocks k.walker_knowledge in
      let falls = more.falls_more c start h rings sets time n None tt walk stamp k.walker_falls in
      let late = more.late_more c start h rings sets time n None tt walk k.walker_late in
      let found = found_after c (m Clock) stamp clocks n rings no_clocks refl k.found_stamp in
      let unfinished = more.unfinished_more c h rings section n None (λ i e. absurd (cc)) stamp
      (λ i naming e mode unset. let t = (done i naming e mode).0 in absurd (cc)) k.unstamped_is_unfinished in
      let named = more.named_more c h rings section n None (λ i e. absurd (cc)) stamp k.named_commit in
      let opened = more.open_more c h rings section n None (λ i e. absurd (cc)) nothing (λ i e. absurd (cc)) k.open_section in
      let flags = more.flag_more c h rings section n None (λ i e. absurd (cc)) super k.successor_flag in
      let words = loaded_after c (m Clock) stamp clocks n section (set_at section n None) no_clocks refl (λ word has. none_in word has)
      (λ word has. none_in word has) (λ word has. none_in word has)
      (inside_after c (m Clock) stamp clocks n section None (λ i e. absurd (cc)) k.loaded_words) k.loaded_words in
      let cut = more.cut_more c start h rings sets time n None tt k.cut_is_old in
      let backs = more.back_more c start h rings sets time n None tt walk section clocks None no_clocks master (λ s. (seats s).grace) back k.write_back in
      let scanning = set_at_all (λ s p. (running : Scan) → (seats s).scan ≡ Some running → p ≡ Outside) (λ s. (seats s).phase) n Outside (λ running e. refl)
      (λ s ne. k.phases_and_scan.scanning s) in
      let outside : (s : ℕ) → set_at time n None s ≡ None → (set_at walk n Nowhere s ≡ Nowhere) × (set_at back n None s ≡ None) =
      λ s. by_seat s n (λ b. cond b None (time s) ≡ None → (cond b Nowhere (walk s) ≡ Nowhere) × (cond b None (back s) ≡ None)) (λ _ _. (refl, refl))
      (λ _. k.phases_and_scan.outside s) in
      let seen : (s u : ℕ) → set_at time n None s ≡ Some u → u ≤ c.base + length (seats s).past.seen =
      λ s u. by_seat s n (λ b. cond b None (time s) ≡ Some u → u ≤ c.base + length (seats s).past.seen) (λ _ e. absurd (cc))
      (λ _. k.phases_and_scan.seen s u) in
      let within : (s u : ℕ) → set_at time n None s ≡ Some u → s < c.seats =
      λ s u. by_seat s n (λ b. cond b None (time s) ≡ Some u → s < c.seats) (λ _ e. absurd (cc)) (λ _. k.phases_and_scan.within s u) in (
        w,
        h,
        settle starts allows c start (put m (Mark n) 0) h seats n v w is
            (record unchanged { phase = Some Outside; section = Some None; time = Some None; clocks = Some no_clocks; walk = Some Nowhere; back = Some None })
            (refl, refl, refl, refl, refl, refl, refl, refl, refl, refl, refl)
            (assumption (k)),
        ((refl, runs_outside v w (λ s e. let g : Outside ≡ Inside s = e in absurd (cc))), (refl, refl, refl, refl, refl, refl)),
      )

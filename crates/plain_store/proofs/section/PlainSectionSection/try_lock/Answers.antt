use Rattle.std.proofs.Common.{◌≡◌, ◌+◌, ◌<◌, true, false, [], length, take, set, refl, arith, ap, sym, subst, ◌∙◌, length-take-le}
use Rattle.std.proofs.lemmas.List.{take_more_set, get_or_read}
use Rattle.mv_history.specs.State.{touches}
use Rattle.mv_history.specs.Legal.{IsWords}
use Rattle.mv_history.specs.Meaning.{words_at}
use Rattle.mv_history.specs.CallLaws.{IsAsBefore-itself, GoesOn-itself}
use Rattle.plain_store.specs.Meaning.{commits_in, section_of}
use Rattle.plain_store.specs.Laws.{plain_reads, AreWords-plain}
use Rattle.mv_history.proofs.Writing.{words-written_other, length-written}
use Rattle.plain_store.proofs.Seats.{section_pushed, goes_on, locks, length-current}
use Rattle.mv_history.proofs.LockAnswers.{set_full_not_busy, set_full_not_stale, set_full_not_log_full}
use Rattle.mv_history.proofs.LockAnswers.{held_or_free, held_not_busy, held_not_stale, held_not_set_full, held_not_log_full}
use Rattle.plain_store.proofs.section.PlainSectionSection.try_lock.Goals as goal

pub returns-then-has_lock : goal.returns-then-has_lock
returns-then-has_lock g c =
    let s = c.args.self.now in
    let held : touches (take s.held s.own) c.args.object ≡ true = sym c.has_lock.ensures ∙ c.if-has_lock.true in
    record {
      goes_on = GoesOn-itself (section_of s);
      refused = λ other. absurd (other refl);
      again = λ _. (refl, refl);
      set_full = (λ e. absurd (held_not_set_full e), λ p. absurd (held_or_free _ held p.0));
      log_full = (λ e. absurd (held_not_log_full e), λ p. absurd (held_or_free _ held p.0));
      busy = λ seat e. absurd (held_not_busy seat e);
      stale = λ time e. absurd (held_not_stale time e);
      held = λ _ free. absurd (held_or_free _ held free);
      log_full_only = λ e. absurd (held_not_log_full e);
    }

pub returns-then-self-eq-WRITE_MAX : goal.returns-then-self-eq-WRITE_MAX
returns-then-self-eq-WRITE_MAX g c =
    let s = c.args.self.now in
    let free : touches (take s.held s.own) c.args.object ≡ false = sym c.has_lock.ensures ∙ c.if-has_lock.false in
    let full : length (take s.held s.own) ≡ 16 = omega (arith, length-take-le s.held s.own (omega arith)) in
    record {
      goes_on = GoesOn-itself (section_of s);
      refused = λ _. IsAsBefore-itself (section_of s);
      again = λ held. absurd (held_or_free _ held free);
      set_full = (λ _. (free, full), λ _. refl);
      log_full = (λ e. absurd (set_full_not_log_full e), λ p. absurd (p.1 full));
      busy = λ seat e. absurd (set_full_not_busy seat e);
      stale = λ time e. absurd (set_full_not_stale time e);
      held = λ e. absurd (held_not_set_full (sym e));
      log_full_only = λ e. absurd (set_full_not_log_full e);
    }

pub invariant_of-self-clause-lawful : goal.invariant_of-self-clause-lawful
invariant_of-self-clause-lawful g c =
    let s = c.args.self.now in
    let room : s.held < length s.own = omega arith in
    let free : touches (take s.held s.own) c.args.object ≡ false = sym c.has_lock.ensures ∙ c.if-has_lock.false in
    let short : length (take s.held s.own) ≡ s.held = length-take-le s.held s.own (omega arith) in
    let there : c.args.object < length s.store.words.items =
    omega (arith, length-written s.store.words.items (take s.held s.own)) in
    let words = subst (λ w. IsWords w) (sym (get_or_read s.store.words.items c.args.object c.index.result.now there c.index.ensures []))
    (AreWords-plain s.store c.args.object [] there) in
    rw (take_more_set s.own s.held (c.args.object, c.index.result.now) room)
    (section_pushed g.P.Protocol.start g.P.Protocol.allowed s.store.start.value.items (commits_in s.store) s.store.base s.store.last
    (take s.held s.own) c.args.object c.index.result.now words s.lawful free
    (omega (arith, there, length-current s.store.start.value.items s.store.words.items (commits_in s.store) s.store.current)) (omega arith))

pub returns-clause-goes_on : goal.returns-clause-goes_on
returns-clause-goes_on g c =
    let s = c.args.self.now in
    goes_on s.store.start.value.items (commits_in s.store) s.store.base s.store.last (take s.held s.own)
    (take (s.held + 1) (set s.own s.held (c.args.object, c.index.result.now)))

pub returns-clause-refused : goal.returns-clause-refused
returns-clause-refused g c = λ other. absurd (other refl)

pub returns-clause-again : goal.returns-clause-again
returns-clause-again g c =
    let s = c.args.self.now in
    let free : touches (take s.held s.own) c.args.object ≡ false = sym c.has_lock.ensures ∙ c.if-has_lock.false in
    λ held. absurd (held_or_free _ held free)

pub returns-clause-set_full : goal.returns-clause-set_full
returns-clause-set_full g c =
    let s = c.args.self.now in
    let room : s.held < length s.own = omega arith in
    let short : length (take s.held s.own) ≡ s.held = length-take-le s.held s.own (omega arith) in
    (λ e. absurd (held_not_set_full e), λ p. absurd (omega (arith, p.1, short, room)))

pub returns-clause-log_full : goal.returns-clause-log_full
returns-clause-log_full g c =
    let s = c.args.self.now in
    let room : s.held < length s.own = omega arith in
    let short : length (take s.held s.own) ≡ s.held = length-take-le s.held s.own (omega arith) in
    (λ e. absurd (held_not_log_full e), λ p. absurd (omega (arith, p.2, short, room)))

pub returns-clause-busy : goal.returns-clause-busy
returns-clause-busy g c = λ seat e. absurd (held_not_busy seat e)

pub returns-clause-stale : goal.returns-clause-stale
returns-clause-stale g c = λ time e. absurd (held_not_stale time e)

pub returns-clause-held : goal.returns-clause-held
returns-clause-held g c _ free =
    let s = c.args.self.now in
    let room : s.held < length s.own = omega arith in
    let short : length (take s.held s.own) ≡ s.held = length-take-le s.held s.own (omega arith) in
    let there : c.args.object < length s.store.words.items =
    omega (arith, length-written s.store.words.items (take s.held s.own)) in
    rw (take_more_set s.own s.held (c.args.object, c.index.result.now) room)
    (locks s.store.start.value.items (commits_in s.store) s.store.base s.store.last (take s.held s.own) c.args.object c.index.result.now (omega arith)
    (get_or_read s.store.words.items c.args.object c.index.result.now there c.index.ensures []
    ∙ sym (ap (λ w. words_at w c.args.object) (sym (plain_reads s)) ∙ words-written_other s.store.words.items (take s.held s.own) c.args.object free)))

pub returns-clause-log_full_only : goal.returns-clause-log_full_only
returns-clause-log_full_only g c = λ e. absurd (held_not_log_full e)

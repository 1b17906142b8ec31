-- The words of the slot that a lock builds, one after another.
use Rattle.std.proofs.Common.{◌≡◌, ◌≢◌, ℕ, zero, suc, ◌+◌, ◌<◌, ◌^◌, ltb, length, get_or}
use Rattle.std.proofs.Common.{Some, None, refl, sym, ap, ◌∙◌, arith, lt-ltb, if◌then◌else◌, slice_index, slice_set, map}
use Rattle.std.proofs.lemmas.List.{length-set, length-map, get_or-set_same, get_or-set_other, get_or-map}
use Rattle.mv_layout.specs.Words.{unset_of}
use Rattle.mv_core.proofs.Terms.{dite, ℕ_discrete, Config, IsPlace}
use Rattle.mv_core.specs.declared.ring.Build.{Build}
use Rattle.mv_core.specs.LockSteps.{FitsField, field_place, built_too}
use Rattle.replay_rules.specs.declared.seats.NotedVersion.{NotedVersion}
use Rattle.replay_rules.specs.Tasks.{field_word, stamp_from}
use Rattle.replay_rules.proofs.runs.Standing.{HasFields}
use Rattle.replay_rules.proofs.runs.Known.{same_list, if_so, ltb_lt}

-- the unset stamp of a position that fits one
pub stamp_is : (at : ℕ) → at < 2 ^ 57 → stamp_from at ≡ unset_of at
stamp_is at lt = ap (λ b. if b then unset_of at else 0) (lt-ltb at 144115188075855872 (omega (arith, lt)))

-- each field is of a slot of the domain
pub field_range : (c : Config) (n slot field : ℕ) → n < c.seats → slot < c.slots → field < 10 → IsPlace c (field_place n slot field)
field_range c n slot zero seat in_log lt = (seat, in_log)
field_range c n slot (suc zero) seat in_log lt = (seat, in_log)
field_range c n slot (suc (suc zero)) seat in_log lt = (seat, in_log)
field_range c n slot (suc (suc (suc zero))) seat in_log lt = (seat, in_log)
field_range c n slot (suc (suc (suc (suc w)))) seat in_log lt = (seat, in_log, omega (arith, lt))

module _ (version : NotedVersion) (at : ℕ) where
  -- and what is stored there is one of 64 bits
  pub field_small : (field : ℕ) → version.first < 2 ^ 64 → version.previous < 2 ^ 64 → ((i : ℕ) → slice_index version.words i < 2 ^ 64)
      → field_word version at field < 2 ^ 64
  field_small zero first previous words = first
  field_small (suc zero) first previous words =
      if_so (λ x. x < 2 ^ 64) (ltb at 144115188075855872) (unset_of at) 0 (λ e. let lt = ltb_lt at 144115188075855872 e in omega (arith, lt)) (λ e. omega arith)
  field_small (suc (suc zero)) first previous words = previous
  field_small (suc (suc (suc zero))) first previous words = omega arith
  field_small (suc (suc (suc (suc w)))) first previous words = words w

  -- it is one that may be stored
  pub field_fits : (field set : ℕ) → field < 10 → version.first ≡ set → (field ≡ 1 → version.first ≡ at)
      → (0 < field → at < 2 ^ 57) → FitsField set at field (field_word version at field)
  field_fits zero set lt is one low = is
  field_fits (suc zero) set lt is one low = (sym is ∙ one refl, stamp_is at (low (omega arith)))
  field_fits (suc (suc zero)) set lt is one low = tt
  field_fits (suc (suc (suc zero))) set lt is one low = refl
  field_fits (suc (suc (suc (suc w)))) set lt is one low = omega (arith, lt)

  -- a word more was stored
  pub has_next : (field : ℕ) (b : Build) → field < 10 → (0 < field → at < 2 ^ 57) → HasFields b version at field
      → HasFields (built_too b field (field_word version at field)) version at (field + 1)
  has_next zero b lt low has = record {
    wide = has.wide;
    first = λ z. refl;
    stamp = λ z. absurd (omega (arith, z));
    previous = λ z. absurd (omega (arith, z));
    successor = λ z. absurd (omega (arith, z));
    words = λ i z. absurd (omega (arith, z));
  }
  has_next (suc zero) b lt low has = record {
    wide = has.wide;
    first = λ z. has.first (omega arith);
    stamp = λ z e. ap Some (stamp_is at (low (omega arith)));
    previous = λ z. absurd (omega (arith, z));
    successor = λ z. absurd (omega (arith, z));
    words = λ i z. absurd (omega (arith, z));
  }
  has_next (suc (suc zero)) b lt low has = record {
    wide = has.wide;
    first = λ z. has.first (omega arith);
    stamp = λ z. has.stamp (omega arith);
    previous = λ z. refl;
    successor = λ z. absurd (omega (arith, z));
    words = λ i z. absurd (omega (arith, z));
  }
  has_next (suc (suc (suc zero))) b lt low has = record {
    wide = has.wide;
    first = λ z. has.first (omega arith);
    stamp = λ z. has.stamp (omega arith);
    previous = λ z. has.previous (omega arith);
    successor = λ z. refl;
    words = λ i z. absurd (omega (arith, z));
  }
  has_next (suc (suc (suc (suc w)))) b lt low has = record {
    wide = length-set b.words w (Some (slice_index version.words w)) ∙ has.wide;
    first = λ z. has.first (omega arith);
    stamp = λ z. has.stamp (omega arith);
    previous = λ z. has.previous (omega arith);
    successor = λ z. has.successor (omega arith);
    words = λ i z six.
        dite (ℕ_discrete i w)
        (λ e. ap (λ j. get_or (slice_set b.words w (Some (slice_index version.words w))) j None) e
        ∙ get_or-set_same b.words w (Some (slice_index version.words w)) None (let wide = has.wide in omega (arith, lt, wide))
        ∙ ap (λ j. Some (slice_index version.words j)) (sym e))
        (λ ne. get_or-set_other b.words w i (Some (slice_index version.words w)) None ne ∙ has.words i (omega (arith, z, ne)) six);
  }

  -- where the position isn't the first of its set, no stamp is stored
  pub has_first : (b : Build) → version.first ≢ at → HasFields b version at 1 → HasFields b version at 2
  has_first b ne has = record {
    wide = has.wide;
    first = λ z. has.first (omega arith);
    stamp = λ z e. absurd (ne e);
    previous = λ z. absurd (omega (arith, z));
    successor = λ z. absurd (omega (arith, z));
    words = λ i z. absurd (omega (arith, z));
  }

-- all words of a whole build
pub whole_words : (b : Build) (version : NotedVersion) (at : ℕ) → length version.words ≡ 6 → HasFields b version at 10 → b.words ≡ map Some version.words
whole_words b version at wide has =
    same_list None b.words (map Some version.words) (has.wide ∙ sym wide ∙ sym (length-map version.words Some))
    (λ i lt.
    let in_words : i < 6 = (let long = has.wide in omega (arith, lt, long)) in
    has.words i (omega (arith, in_words)) in_words
    ∙ sym (get_or-map Some version.words i 0 None (omega (arith, in_words, wide))))

-- with another link below
pub has_link : (b : Build) (version : NotedVersion) (at previous other : ℕ) → HasFields b (record version { previous = previous }) at 10
    → HasFields (record b { previous = Some other }) (record version { previous = other }) at 10
has_link b version at previous other has = record {
  wide = has.wide;
  first = has.first;
  stamp = has.stamp;
  previous = λ z. refl;
  successor = has.successor;
  words = has.words;
}

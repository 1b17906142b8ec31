-- An add and the steps after it, in one commit, are fit.
use Rattle.std.proofs.Common.{◌≡◌, ◌≢◌, ℕ, ◌^◌, ◌<◌, ◌≤◌, inl, inr, Bool, true, false, not, ◌||◌, [], ◌∷◌, length, refl, sym, ap, ◌∙◌, subst, arith, true≢false}
use Rattle.mv_history.specs.State.{State, Writes, written, touches}
use Rattle.mv_history.specs.Legal.{AreWithin}
use Rattle.mv_history.specs.Drift.{IsFit}
use Rattle.mv_history.specs.Meaning.{words_at}
use Rattle.mv_history.proofs.Drifting.{drift_keeps_apart}
use Rattle.mv_history.proofs.Writing.{length-written}
use Rattle.section_work.proofs.Objects.{IsIn, in-touches, touches-in}
use Rattle.set_model.specs.Catalogue.{map_of, put}
use Rattle.set_model.specs.CatalogueOf.{name_of, catalogue_of}
use Rattle.set_model.specs.Lawful.{IsLawful}
use Rattle.set_model.specs.Rules.{IsSetCommit}
use Rattle.set_model.specs.Tags.{tag_of}
use Rattle.set_model.specs.declared.commands.Command.{Command}
use Rattle.set_model.specs.declared.commands.Command.TheVariants.{Add, Put}
use Rattle.set_model.proofs.Entries.{has_entry-absent}
use Rattle.set_model.proofs.Heads.{name_bound}
use Rattle.set_model.proofs.ObjectWords.{word}
use Rattle.set_model.proofs.Ways.{IsVacant, Lacks, Does, set_commit}
use Rattle.tree_set.specs.Places.{IsGrowPlace, grow_writes}
use Rattle.tree_set.proofs.Around.{at_in_range}
use Rattle.tree_set.proofs.TreeWays.{parent_same, parent_at_root, ends_at_root}
use Rattle.tree_balance.specs.Steps.{names}
use Rattle.tree_balance.specs.Drafts.{IsDraft}
use Rattle.tree_balance.specs.Laws.{IsFitAdd, AddsWithStepsAreFit}
use Rattle.tree_balance.proofs.Balancing.{balanced_half}
use Rattle.tree_balance.proofs.Drifting.{or_left, draft_stays, steps_in_range}

-- what is touched is some write
some_touched : (ws : Writes) (o : ℕ) → touches ws o ≡ true → 0 < length ws
some_touched [] o t = absurd (true≢false (sym t))
some_touched (w ∷ ws) o t = omega arith

module _ (from : State) (root k v p l m w : ℕ) (ws : Writes) (lo : 170 ≤ root) (lt : root < 180) (fits : k < 2 ^ 32) (law : IsLawful from)
    (place : IsGrowPlace from root k p l) (vm : IsVacant from m) (vw : IsVacant from w) (ne : m ≢ w)
    (draft : IsDraft from root (grow_writes from root k v p l m w) ws) where
  -- the objects of the add are locked
  locks : (o : ℕ) → IsIn o (p ∷ l ∷ m ∷ w ∷ []) → touches ws o ≡ true
  locks o i =
      draft.named o ∙ or_left (touches (grow_writes from root k v p l m w) o) (names draft.steps o) (touches-in (grow_writes from root k v p l m w) o i)

  add_in_range : (o : ℕ) → IsIn o (p ∷ l ∷ m ∷ w ∷ []) → o < length from
  add_in_range o (inl e) = subst (λ (x : ℕ). x < length from) (sym e) (at_in_range from root p law lt (parent_at_root from root p l place.above))
  add_in_range o (inr (inl e)) = subst (λ (x : ℕ). x < length from) (sym e) (at_in_range from root l law lt (ends_at_root from root k l place.ends))
  add_in_range o (inr (inr (inl e))) = subst (λ (x : ℕ). x < length from) (sym e) vm.1
  add_in_range o (inr (inr (inr (inl e)))) = subst (λ (x : ℕ). x < length from) (sym e) vw.1
  add_in_range o (inr (inr (inr (inr i)))) = absurd i

  within : AreWithin ws (length from)
  within o t = go (touches (grow_writes from root k v p l m w) o) refl (sym (draft.named o) ∙ t)
    where
      long : length (written from (grow_writes from root k v p l m w)) ≡ length from
      long = length-written from (grow_writes from root k v p l m w)

      go : (b : Bool) → touches (grow_writes from root k v p l m w) o ≡ b → b || names draft.steps o ≡ true → o < length from
      go true i q = add_in_range o (in-touches (grow_writes from root k v p l m w) o i)
      go false i q =
          subst (λ (x : ℕ). o < x) long
          (steps_in_range root lt (written from (grow_writes from root k v p l m w)) draft.steps o
          (subst (λ (x : ℕ). 180 < x) (sym long) law.some) draft.fits q)

  -- what stays while others commit
  record Stays (s : State) : Type 0 where
    lawful : IsLawful s
    ends_here : IsGrowPlace s root k p l
    len : length s ≡ length from
    words : (o : ℕ) → touches ws o ≡ true → words_at s o ≡ words_at from o

  writes_same : (s : State) → words_at s p ≡ words_at from p → words_at s l ≡ words_at from l
      → grow_writes from root k v p l m w ≡ grow_writes s root k v p l m w
  writes_same s e f = cc

  vacant_still : (s : State) (o : ℕ) → Stays s → IsVacant from o → touches ws o ≡ true → IsVacant s o
  vacant_still s o st v t = let range : o < length from = v.1 in (v.0, omega (arith, st.len), ap (word 0) (st.words o t) ∙ v.2)

  -- In a state to which others led it is a commit of the command that adds the key.
  allowed : (s : State) (command : Command) → Does command (name_of root) (Lacks k) (put k v) → Stays s → IsSetCommit (tag_of command) s ws
  allowed s command does st =
      let own = writes_same s (st.words p (locks p (inl refl))) (st.words l (locks l (inr (inl refl)))) in
      let there : IsDraft s root (grow_writes s root k v p l m w) ws =
      subst (λ (o : Writes). IsDraft s root o ws) own (draft_stays from s root (grow_writes from root k v p l m w) ws st.len st.words draft) in
      let h = balanced_half s root k v p l m w ws st.lawful lo lt fits st.ends_here (vacant_still s m st vm (locks m (inr (inr (inl refl)))))
      (vacant_still s w st vw (locks w (inr (inr (inr (inl refl)))))) ne there in
      set_commit command s ws h.keeps does.in_range (does.applies (catalogue_of s) h.fits) (h.leaves ∙ sym (does.changes (catalogue_of s) h.fits))

  fit : (command : Command) → Does command (name_of root) (Lacks k) (put k v) → IsFit IsSetCommit from (tag_of command) ws
  fit command does s drift =
      allowed s command does
      (drift_keeps_apart IsSetCommit ws from Stays
      (λ u tag us st are al apart kept. record {
        lawful = al.keeps.lawful_after;
        ends_here = record {
          above = parent_same u (written u us) root p l (kept p (locks p (inl refl))) st.ends_here.above;
          ends = al.keeps.ends root k l lo lt st.ends_here.ends (apart l (locks l (inr (inl refl))));
          other = λ e. st.ends_here.other (sym (ap (word 2) (kept l (locks l (inr (inl refl))))) ∙ e);
        };
        len = length-written u us ∙ st.len;
        words = λ o t. kept o t ∙ st.words o t;
      })
      (record { lawful = law; ends_here = place; len = refl; words = λ o t. refl }) s drift)

  does_put : v < 2 ^ 64 → Does (Put (name_of root) k v) (name_of root) (Lacks k) (put k v)
  does_put lv = record {
    in_range = (name_bound root lt, fits, lv);
    applies = λ c e. ap not (has_entry-absent k v (map_of (name_of root) c) e);
    changes = λ c e. refl;
  }

  does_add : v ≡ 0 → Does (Add (name_of root) k) (name_of root) (Lacks k) (put k v)
  does_add z =
      subst (λ (x : ℕ). Does (Add (name_of root) k) (name_of root) (Lacks k) (put k x)) (sym z)
      (record { in_range = (name_bound root lt, fits); applies = λ c e. ap not e; changes = λ c e. refl })

  pub fit_add : v < 2 ^ 64 → IsFitAdd from root k v ws
  fit_add lv = record {
    distinct = draft.distinct;
    within = within;
    some = some_touched ws p (locks p (inl refl));
    put = fit (Put (name_of root) k v) (does_put lv);
    add = λ z. fit (Add (name_of root) k) (does_add z);
  }

pub adds_are_fit : AddsWithStepsAreFit
adds_are_fit s root k v p l m w ws lo lt fits lv law place vm vw ne draft =
    fit_add s root k v p l m w ws lo lt fits law place vm vw ne draft lv
